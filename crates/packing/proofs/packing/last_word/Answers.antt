use Rattle.packing.specs.WordsLaws.{word_at}
use Rattle.packing.proofs.packing.last_word.Goals as goal

pub returns : goal.returns
returns c = let a = c.args in
    cc (word_at a.text.now a.at)
