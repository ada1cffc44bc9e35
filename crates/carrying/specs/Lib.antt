-- What the device promises of a payload that it carries out.
pub mod Outcome
