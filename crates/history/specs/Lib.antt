-- Demand 3: what is seen of calls, what observers make of it, and the claim.
pub mod Trace
pub mod Events
pub mod RingHistory
pub mod JournalHistory
pub mod CreditHistory
pub mod Completion
pub mod TableOrder
pub mod Claim
