-- Computed cases: 01's starred edges and small books beside them.
pub mod CaseBooks
pub mod Cases
pub mod ConditionCases
pub mod ParseCases
