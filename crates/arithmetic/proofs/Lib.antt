pub mod Integers
pub mod Fractions
pub mod Floors
pub mod Sets
pub mod Tight
pub mod Totals
pub mod Values
pub mod Tests
mod Lawful
pub mod Sizes
