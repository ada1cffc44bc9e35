-- Laws of the list: Splices and Lists speak of bytes and payloads one behind another, Steps and Runs of a table of any type that is gone
-- over, Tables of flows and groups, Whole of the six runs.
pub mod Splices
pub mod Lists
pub mod Steps
pub mod Runs
pub mod Tables
pub mod Whole
