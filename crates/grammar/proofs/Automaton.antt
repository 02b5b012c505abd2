pub mod GoRulesLaws
