pub mod BackLaws
pub mod EndsLaws
pub mod KeysLaws
pub mod LinksLaws
