pub mod Declarations
pub mod SpellingLaws
