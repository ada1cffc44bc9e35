-- Encoded regions, and the entries that decoding admits.
pub mod Placed
pub mod Admitted
