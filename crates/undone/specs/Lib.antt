-- What undoing a journal promises.
pub mod Carried
pub mod Claim
