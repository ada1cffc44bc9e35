-- Document 01 as definitions, in the paper's order, with document 02's requests: 2026-03's addresses (Address) before the fields that hold
-- them, 2026-06 (Encode, Undo) after the trail; a chapter is one file or several (docs/ARCHITECTURE.md).
pub mod Choose
pub mod Answers
pub mod Limits
pub mod Version
pub mod Bytes
pub mod Writes
pub mod Ring
pub mod Registers
pub mod Descriptor
pub mod Region
pub mod Address
pub mod Fields
pub mod GroupId
pub mod Members
pub mod Decode
pub mod Keyed
pub mod Rows
pub mod Places
pub mod Tables
pub mod Frame
pub mod Engine
pub mod Journal
pub mod Encode
pub mod Undo
pub mod Told
pub mod Switch
