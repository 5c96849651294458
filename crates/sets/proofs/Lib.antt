pub mod Bits
pub mod Places
pub mod Runs
pub mod Members
pub mod Lowest
