use Rattle.console.specs.Printing.{words-turn, words-end}
use Rattle.console.specs.Output.{putting-turn, putting-end}
use Rattle.console.proofs.output.put_words.Goals as goal

pub loop-word-preserved : goal.loop-word-preserved
loop-word-preserved c = putting-turn _ _ _ _ _ c.loop-word.invariant c.loop-word-test.true c.put_word-p.ensures c.put_word-p.auto.out
    (words-turn _ _ c.loop-word-test.true)

pub returns : goal.returns
returns c = putting-end _ _ _ _ _ c.loop-word.invariant c.loop-word-test.false (words-end c.args.words.now)
