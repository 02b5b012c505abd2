use Prim.Native.Nat.{suc}
use Rattle.text.specs.Rest.{rest, size}
use Rattle.text.specs.Numeral.{word_of}
use Rattle.grammar.specs.Format.Reader.{opening}
use Rattle.grammar.specs.Format.Parse.{rule_line, rule_lines}
use Rattle.book.specs.Layout.{rule_words}
use Rattle.book.specs.Sections.{Filling}
use Rattle.book.proofs.rules.rule_lines.Given as goal

abbrev pub invariant-loop-head : goal.invariant-loop-head
invariant-loop-head l = Filling (opening (word_of "rule")) rule_line (λ K r. suc K) rule_words l.room
    l.source.bytes.now (rule_lines (rest l.source.bytes.now l.at)) l.initial.out l.k l.k l.p l.out

abbrev pub decreases-loop-head : goal.decreases-loop-head
decreases-loop-head l = size (rest l.source.bytes.now l.p)
