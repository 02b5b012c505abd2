use Rattle.text.specs.Class.{space}
use Rattle.text.specs.Rest.{rest, size, mark}
use Rattle.grammar.specs.Limits.{MAX_RIGHT}
use Rattle.grammar.specs.Format.Parse.{symbol, symbols}
use Rattle.book.specs.Sections.{Filling}
use Rattle.book.specs.Lines.{symbol_words}
use Rattle.book.proofs.rules.right_side.Given as goal

abbrev pub invariant-loop-at : goal.invariant-loop-at
invariant-loop-at l = Filling (mark space) (λ (s : Unit {0}). symbol) (λ s X. s) symbol_words MAX_RIGHT
    l.source.bytes.now (symbols (rest l.source.bytes.now l.at)) l.initial.out tt l.m l.p l.out

abbrev pub decreases-loop-at : goal.decreases-loop-at
decreases-loop-at l = size (rest l.source.bytes.now l.p)
