pub mod Rewritten
pub mod Rows
