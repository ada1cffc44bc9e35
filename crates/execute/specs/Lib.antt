pub mod Outcome
