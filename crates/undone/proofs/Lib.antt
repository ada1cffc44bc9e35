-- The proof of the claim: one table's runs (Alike, Runs), the whole list (Listed), what every journal's tables have (Admits, Prefix, Replays).
pub mod Alike
pub mod Runs
pub mod Listed
pub mod Admits
pub mod Prefix
pub mod Replays
pub mod Claim
pub mod Faults
pub mod Told
mod Points
