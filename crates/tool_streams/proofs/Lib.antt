mod Digits
mod LineCuts
