pub mod InRow
pub mod Tree
