pub mod Driving
pub mod Messages
pub mod Pages
pub mod Sides
pub mod Zeros
