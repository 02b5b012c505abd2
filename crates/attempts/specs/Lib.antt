pub mod Attempts
pub mod Evaluations
pub mod Readings
pub mod Rooms
pub mod Stored
pub mod Tokens
