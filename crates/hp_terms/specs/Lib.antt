pub mod FormReads
pub mod Heads
pub mod Words
