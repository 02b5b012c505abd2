pub mod Automaton
pub mod Cases
pub mod DemandsProof
pub mod Evaluator
pub mod Formulas
pub mod RefusalLaws
pub mod StoredLaws
