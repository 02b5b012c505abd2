use Rattle.std.proofs.Common.{arith}
use Rattle.packing.specs.PackingLoops.{packed-rest}
use Rattle.packing.proofs.packing.pack.Goals as goal

pub returns-then-n-words : goal.returns-then-n-words
returns-then-n-words c = let a = c.args in
    packed-rest _ a.text.now a.words.now c.pack_whole.ensures (omega arith) c.if-n-words.true
    c.last_word.ensures (c.fill.ensures.after (λ _ e. e))
