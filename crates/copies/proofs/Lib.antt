-- Laws of numbers copied into a list.
pub mod Copying
