pub mod Lines
pub mod Meanings
pub mod Changes
pub mod Questions
pub mod Promises
pub mod Gathered
