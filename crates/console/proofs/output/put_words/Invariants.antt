use Rattle.console.specs.Printing.{words_from}
use Rattle.console.specs.Output.{Putting}
use lib.ListN.{length}
use Rattle.console.proofs.output.put_words.Given as goal

abbrev pub invariant-loop-word : goal.invariant-loop-word
invariant-loop-word l = Putting (words_from l.words) 11 (length l.words) l.initial.out l.at l.word-index l.p l.out
