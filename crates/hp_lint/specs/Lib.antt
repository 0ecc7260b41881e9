pub mod Remarked
pub mod Fitting
pub mod Asking
pub mod Serving
pub mod Variables
pub mod Branches
pub mod Remarks
pub mod LintViews
