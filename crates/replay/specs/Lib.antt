pub mod Asks
pub mod Stages
