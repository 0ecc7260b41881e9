pub mod Command
pub mod Numbers
pub mod PathWords
pub mod Words
