use Rattle.items.specs.Closures.{closure-done, closure-none}
use Rattle.items.proofs.closure.closure.Goals as goal

pub returns-then-begin : goal.returns-then-begin
returns-then-begin c = λ b F S H e L.
    closure-done H e L c.requires.2 (c.begin.ensures b F H L.within)
    (c.passes.ensures b F H.grammar_in e)

pub returns-else-begin : goal.returns-else-begin
returns-else-begin c = λ b F S H e L. closure-none H e L c.requires.2 (c.begin.ensures b F H L.within) c.if-begin.false
