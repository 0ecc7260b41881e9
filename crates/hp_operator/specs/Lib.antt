pub mod Bodies
pub mod Changed
