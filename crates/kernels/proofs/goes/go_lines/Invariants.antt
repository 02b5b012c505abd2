use Rattle.text.specs.Rest.{rest, size}
use Rattle.text.specs.Numeral.{word_of}
use Rattle.grammar.specs.Format.Ordered.{go_key}
use Rattle.grammar.specs.Format.Reader.{opening}
use Rattle.grammar.specs.Format.Parse.{go_line, go_lines}
use Rattle.book.specs.Layout.{go_words}
use Rattle.book.specs.Order.{key_of, last_key}
use Rattle.book.specs.Sections.{Filling}
use Rattle.kernels.proofs.goes.go_lines.Given as goal

abbrev pub invariant-loop-head : goal.invariant-loop-head
invariant-loop-head l = Filling (opening (word_of "go")) go_line (λ before. go_key) go_words l.room
    l.source.bytes.now (go_lines (rest l.source.bytes.now l.at)) l.initial.out (last_key key_of l.last) l.k l.p l.out

abbrev pub decreases-loop-head : goal.decreases-loop-head
decreases-loop-head l = size (rest l.source.bytes.now l.p)
