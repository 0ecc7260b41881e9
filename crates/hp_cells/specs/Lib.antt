pub mod Cells
pub mod Compared
pub mod Hashed
pub mod Keys
pub mod Shows
pub mod TermCode
pub mod Tables
