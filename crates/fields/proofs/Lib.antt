pub mod Every
pub mod Widths
