pub mod Rows
pub mod Least
pub mod PlanLists
pub mod Scans
pub mod Divisions
pub mod Calls
pub mod Same
