-- What the frame call is held to.
pub mod Outcome
