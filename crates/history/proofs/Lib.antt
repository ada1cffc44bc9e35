-- The proof of the claim: one induction over the list of calls, three invariants, each in its file.
pub mod Slots
pub mod Always
pub mod Writes
pub mod RingInvariant
pub mod JournalInvariant
pub mod Kept
pub mod CreditInvariant
pub mod Drains
pub mod TableOrder
pub mod Completions
pub mod Claim
