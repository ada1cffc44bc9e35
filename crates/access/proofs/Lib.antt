pub mod Tests
pub mod Reach
