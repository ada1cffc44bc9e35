-- What the ends of each call come to, on plain values.
pub mod Outcome
pub mod Framing
pub mod Processing
