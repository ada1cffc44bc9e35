-- Request 2026-05: what both engines have in common, and the order that one of them keeps.
pub mod Kept
pub mod Claim
