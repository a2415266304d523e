pub mod Four
pub mod Fractions
pub mod Laws
pub mod Rounding
pub mod Sets
pub mod Tight
pub mod Values
