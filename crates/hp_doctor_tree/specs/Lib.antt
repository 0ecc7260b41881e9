pub mod Deeds
pub mod Drawings
pub mod TreeTold
pub mod Words
