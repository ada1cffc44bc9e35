-- Demand 3 of the code: what a run is, and what is seen of it.
pub mod Runs
