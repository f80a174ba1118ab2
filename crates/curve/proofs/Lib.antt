mod AtLevels
mod Births
mod Faceless
mod Levels
mod Neighbours
mod Places
mod Zeros
