pub mod Apart
pub mod Rows
pub mod Theorems
pub mod Walks
