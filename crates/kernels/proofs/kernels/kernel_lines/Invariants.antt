use Rattle.text.specs.Rest.{rest, size}
use Rattle.text.specs.Numeral.{word_of}
use Rattle.grammar.specs.Format.Ordered.{kernel_key}
use Rattle.grammar.specs.Format.Reader.{opening}
use Rattle.grammar.specs.Format.Parse.{kernel_line, kernel_lines}
use Rattle.book.specs.Layout.{kernel_words}
use Rattle.book.specs.Order.{key_of, last_key}
use Rattle.book.specs.Sections.{Filling}
use Rattle.kernels.proofs.kernels.kernel_lines.Given as goal

abbrev pub invariant-loop-head : goal.invariant-loop-head
invariant-loop-head l = Filling (opening (word_of "kernel")) kernel_line (λ before. kernel_key) kernel_words l.room
    l.source.bytes.now (kernel_lines (rest l.source.bytes.now l.at)) l.initial.out (last_key key_of l.last) l.k l.p l.out

abbrev pub decreases-loop-head : goal.decreases-loop-head
decreases-loop-head l = size (rest l.source.bytes.now l.p)
