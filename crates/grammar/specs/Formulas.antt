-- Chains, formulas and the one-formula condition (10): meaning, functions that compute, and that they decide.
pub mod ChainLaws
pub mod ChainLists
pub mod ChainReady
pub mod DefinitionPremises
pub mod Formula
pub mod FormulaCheck
pub mod FormulaCheckAll
pub mod FormulaPremises
pub mod PartialLaws
pub mod Passes
pub mod Plan
pub mod SameFormula
pub mod Slots
pub mod SlotsFill
