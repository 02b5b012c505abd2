use Prim.Native.Nat.{suc}
use Rattle.text.specs.Rest.{rest, size}
use Rattle.grammar.specs.Format.Reader.{opening}
use Rattle.grammar.specs.Format.Parse.{owner_line, owner_lines}
use Rattle.book.specs.Layout.{owner_words}
use Rattle.book.specs.Sections.{Filling}
use Rattle.book.proofs.owners.owner_lines.Given as goal

abbrev pub invariant-loop-head : goal.invariant-loop-head
invariant-loop-head l = Filling (opening l.head.word) (owner_line l.letter) (λ K A. suc K) owner_words l.room
    l.source.bytes.now (owner_lines l.head.word l.letter (rest l.source.bytes.now l.at)) l.initial.out l.k l.k l.p l.out

abbrev pub decreases-loop-head : goal.decreases-loop-head
decreases-loop-head l = size (rest l.source.bytes.now l.p)
