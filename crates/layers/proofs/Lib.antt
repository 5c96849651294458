mod Handed
mod Twice
mod Lowest
mod Table
mod Asked
