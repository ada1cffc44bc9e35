-- What the commands promise of a table.
pub mod Arrays
pub mod Commands
pub mod Groups
