pub mod Blanked
pub mod Plans
pub mod Said
pub mod Stopping
pub mod Told
