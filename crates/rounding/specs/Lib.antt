pub mod Limit
pub mod Outward
