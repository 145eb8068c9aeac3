mod Digits
mod Lines
mod Programs
mod Whole
