pub mod Held
pub mod Splits
pub mod Cells
pub mod Texts
pub mod Made
pub mod Digits
