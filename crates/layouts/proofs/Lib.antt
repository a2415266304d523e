pub mod Lawful
pub mod Mirrors
pub mod Orders
pub mod Places
pub mod Skips
pub mod Sweeps
