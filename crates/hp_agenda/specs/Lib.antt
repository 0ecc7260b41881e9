pub mod Queues
pub mod Agendas
pub mod Begun
pub mod Frames
