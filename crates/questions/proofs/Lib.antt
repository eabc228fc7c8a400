mod Checks
mod Narrow
mod Stepping
pub mod Checked
pub mod Fetched
pub mod Begun
pub mod NeverRefused
pub mod Children
pub mod Outermost
pub mod EachRow
