pub mod Sets
pub mod Printed
pub mod Refused
pub mod Told
pub mod Grown
