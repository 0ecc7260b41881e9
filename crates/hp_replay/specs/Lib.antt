pub mod Writable
pub mod StrayCalls
