pub mod Asked
pub mod Compiled
pub mod Laying
pub mod Marks
pub mod NodeViews
pub mod Trees
