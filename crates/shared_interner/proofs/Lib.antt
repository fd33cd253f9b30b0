mod Named
mod Taken
mod Walked
