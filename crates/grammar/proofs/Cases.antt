pub mod CasesProof
pub mod FormulaCheckCases
