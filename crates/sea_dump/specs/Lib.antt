pub mod Dump
pub mod Floats
