use borrow.Author.Rules.{rules}
use Rattle.grammar.specs.Conditions.Decides.{refutes}
use Rattle.compiler.specs.States.{tables-room, actions-kept}
use Rattle.compiler.specs.Compiling.{compiles-misspelt, compiles-part, compiles-checked, read_some}
use Rattle.compiler.proofs.compile.compile.Goals as goal

pub returns-in_default-clause-compiles : goal.returns-in_default-clause-compiles
returns-in_default-clause-compiles c = compiles-misspelt _ c.spelling.ensures c.in_default.is

pub returns-then-not-complete-clause-compiles : goal.returns-then-not-complete-clause-compiles
returns-then-not-complete-clause-compiles c = compiles-part _ c.spelling.ensures c.in-Some.is (refutes (rw c.if-not-complete.true at c.complete.ensures))

pub check-checked-requires : goal.check-checked-requires
check-checked-requires c =
    let all = c.complete.ensures.sound c.if-not-complete.false in
    record { some = read_some _ c.spelling.ensures c.in-Some.is c.requires.lent.1 all; tables_room = tables-room all (actions-kept c.spelling.auto.waits c.requires.tables_lent) }

pub returns-clause-compiles : goal.returns-clause-compiles
returns-clause-compiles c = compiles-checked _ c.spelling.ensures c.in-Some.is c.requires.lent.1 (c.complete.ensures.sound c.if-not-complete.false) _ c.check-checked.ensures.checked _ (search rules)
