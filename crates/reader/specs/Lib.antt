pub mod Asks
pub mod Body
pub mod Orders
pub mod Rows
pub mod Walk
