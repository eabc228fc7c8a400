mod Known
mod There
mod Headers
mod Listing
mod Walks
mod Nans
pub mod Leaves
mod Closings
mod Geometries
pub mod OneResult
pub mod Tables
pub mod Compared
