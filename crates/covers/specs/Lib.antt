pub mod Plans
pub mod Scans
pub mod Divisions
pub mod Answers
pub mod Theorems
