pub mod Answer
pub mod Kind
