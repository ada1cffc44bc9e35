pub mod Turning
pub mod Draining
