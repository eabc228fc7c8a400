pub mod Codes
mod Digits
mod Parts
pub mod Rows
