pub mod JoinTight
pub mod Lawful
mod Products
pub mod Sides
pub mod Sizing
