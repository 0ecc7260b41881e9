pub mod Budgets
pub mod Limits
pub mod Shelves
