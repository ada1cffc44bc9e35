-- Laws of encoded regions, and the round trip.
pub mod Region
pub mod Flows
pub mod Members
pub mod Groups
