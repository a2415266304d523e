pub mod Layers
pub mod Matrices
pub mod Sides
