pub mod Listed
pub mod Taking
