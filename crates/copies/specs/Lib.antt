-- What the writing of one output is held to.
pub mod Copies
