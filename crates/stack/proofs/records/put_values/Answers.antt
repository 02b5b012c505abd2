use Prim.Native.Nat.{ℕ, ◌+◌, ◌<◌}
use mathlib.Core.Path.{◌≡◌, ap, ◌∙◌}
use native.Mathlib.Omega.{arith}
use lib.ListN.{get_or}
use Rattle.stack.specs.Spans.{attribute_word, line_count}
use Rattle.stack.specs.PutValues.{putting-start, putting-turn}
use Rattle.stack.proofs.records.put_values.Goals as goal

pub loop-i-init : goal.loop-i-init
loop-i-init c = putting-start

pub loop-i-preserved : goal.loop-i-preserved
loop-i-preserved c =
    let turn : c.loop-i.i < line_count c.args.spans.now c.args.rule = omega (arith, c.loop-i-test.true, c.word.ensures, c.word-first.ensures) in
    let line : ℕ → ℕ = λ first. first + c.loop-i.i in
    let attribute : c.word-k.result ≡ attribute_word c.args.definitions.now (line (get_or c.args.spans.now c.args.rule 0)) = c.word-k.ensures ∙ ap (λ n. attribute_word c.args.definitions.now (line n)) c.word-first.ensures in
    putting-turn c.loop-i.invariant (turn) (attribute)
