-- The bytes of first records and the loop over them (Sizes), the tables kept or not (Keeping), what a part of a journal comes to (Parts), a
-- reading that is right (Steps), the ways through a step (Going), the end (Ending).
pub mod Sizes
pub mod Keeping
pub mod Parts
pub mod Steps
pub mod Going
pub mod Ending
