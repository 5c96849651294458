mod Laid
mod Puts
mod Spacing
mod Subsets
mod Telling
mod Widths
