pub mod DumpLaws
