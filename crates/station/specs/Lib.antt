pub mod Boxes
pub mod Counts
pub mod Findings
pub mod Lacks
pub mod Pressures
pub mod Stops
pub mod Totals
