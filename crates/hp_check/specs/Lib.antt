pub mod Refusals
pub mod Places
pub mod Calls
pub mod NoteViews
