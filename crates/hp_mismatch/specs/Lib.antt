pub mod FirstMisfit
pub mod Mismatch
pub mod ValueViews
