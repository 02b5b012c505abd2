-- Parse trees, their values, the stack evaluator, and demand 3 over them.
pub mod Chains
pub mod Decorate
pub mod Decorated
pub mod DecoratedLaws
pub mod Demand
pub mod FirstOfLeaves
pub mod Machine
pub mod Premises
pub mod PremisesLaws
pub mod Rebuild
pub mod Rows
pub mod RowsLaws
pub mod Runs
pub mod Tree
pub mod TreeLaws
