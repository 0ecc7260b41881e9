pub mod SearchNodes
pub mod Candidates
pub mod Children
pub mod Agendas
pub mod Frames
pub mod Searches
pub mod Walked
