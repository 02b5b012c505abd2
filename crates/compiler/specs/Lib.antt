pub mod Compiled
pub mod Compiling
pub mod Conditions
pub mod InArrays
pub mod Prepared
pub mod States
pub mod StatesRefusal
