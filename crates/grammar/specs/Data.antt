-- Books as data: symbols, rules, expressions, the lines of a book.
pub mod AfterLaws
pub mod Book
pub mod DefinitionLaws
pub mod LeavesLaws
pub mod ListLaws
pub mod Postfix
pub mod Symbol
pub mod Term
pub mod TermLaws
