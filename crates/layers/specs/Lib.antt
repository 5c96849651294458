pub mod Lines
pub mod Bars
pub mod Assemblies
pub mod Soundness
pub mod Blanks
pub mod Down
pub mod Mapped
pub mod Entries
