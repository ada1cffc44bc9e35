-- What the members of a group and the writing of outputs are held to.
pub mod Outputs
