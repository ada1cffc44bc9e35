pub mod Words
pub mod Splicing
pub mod Regions
pub mod Written
pub mod FieldLists
