pub mod UpToSat
pub mod Noted
pub mod Heard
pub mod SortedLaws
