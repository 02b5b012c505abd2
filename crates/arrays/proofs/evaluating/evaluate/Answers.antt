use Rattle.attempts.specs.Stored.{unfit-none}
use Rattle.attempts.specs.Evaluations.{answers-none}
use Rattle.arrays.proofs.evaluating.evaluate.Goals as goal

pub returns-then-words-ne-BOOK_WORDS : goal.returns-then-words-ne-BOOK_WORDS
returns-then-words-ne-BOOK_WORDS c = answers-none _ _ _ (unfit-none _ c.if-words-ne-BOOK_WORDS.true)
