pub mod Soundness
pub mod Sums
pub mod Whole
