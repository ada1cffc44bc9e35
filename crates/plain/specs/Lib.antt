-- What the plain store promises of its rows, what its scan finds, and both by numbers.
pub mod Store
pub mod Scan
pub mod Numbers
