-- Conditions 3 to 6 of a book: meaning, tests, and that the tests decide.
pub mod Decides
pub mod DecidesSteps
pub mod Meaning
pub mod MeaningLaws
pub mod Tests
pub mod TestsLaws
