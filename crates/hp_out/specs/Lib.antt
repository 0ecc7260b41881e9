pub mod Endings
pub mod Lines
pub mod Paged
pub mod Pages
pub mod RefusalTexts
pub mod Writing
