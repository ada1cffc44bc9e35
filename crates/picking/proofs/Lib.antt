-- Laws of entries compared, of what a search found in any table, and of the live flows and groups.
pub mod Same
pub mod Found
pub mod Live
