pub mod Shared
pub mod Stacks
