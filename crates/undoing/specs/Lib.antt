pub mod Undoing
