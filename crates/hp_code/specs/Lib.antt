pub mod CodeProps
pub mod CodeValues
pub mod CodeViews
pub mod Codes
pub mod Listing
pub mod Lowered
pub mod Lowerings
pub mod Sources
