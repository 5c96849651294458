pub mod Lowest
pub mod Asked
pub mod Opening
pub mod Writing
pub mod Changing
pub mod Changes
