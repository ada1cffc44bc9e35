-- Laws of tables in arrays, for any entry and any key: each command's proof cites them. Slots and Search speak of rows and their keys,
-- Commands of what a way out gives, InPlace carries the first to the entries that rows are read as, Beside to two arrays.
pub mod Slots
pub mod Search
pub mod Commands
pub mod InPlace
mod Beside
