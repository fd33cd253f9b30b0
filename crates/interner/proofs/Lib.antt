pub mod Among
mod Numbers
mod Held
