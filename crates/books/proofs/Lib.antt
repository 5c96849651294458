pub mod Closed
pub mod Held
pub mod Gathering
