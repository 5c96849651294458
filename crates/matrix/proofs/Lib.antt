pub mod Telling
pub mod Matrices
pub mod Sizes
pub mod Walks
pub mod Digits
pub mod Writes
pub mod Single
pub mod Cores
