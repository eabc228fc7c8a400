pub mod Behind
pub mod Chained
pub mod Forests
pub mod Parts
pub mod Ready
pub mod Running
pub mod Turns
pub mod ReadBack
