pub mod PackingLoops
pub mod PlacedLaws
pub mod UnpackingLoops
pub mod Words
pub mod WordsLaws
