mod Again
mod Left
mod Listed
mod Opened
