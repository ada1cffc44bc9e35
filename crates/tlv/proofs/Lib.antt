pub mod Indexing
pub mod Reading
