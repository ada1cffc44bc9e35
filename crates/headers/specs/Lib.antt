-- What the reading of a frame is held to.
pub mod Address
