pub mod Lines
pub mod Ledger
pub mod Promise
pub mod Steps
pub mod Histories
pub mod Single
