use mathlib.Core.Path.{◌≡◌, ◌∙◌}
use lib.Dec.{eqb}
use Prim.Native.Nat.{ℕ}
use Rattle.std.specs.List.{count_by}
use Rattle.std.proofs.Common.{rules}
use Rattle.std.proofs.iter.runs.Made.{chains}
use Rattle.conditions.specs.LimitLaws.{counted-by}
use Rattle.conditions.proofs.limits.repeats.Goals as goal

pub returns : goal.returns
returns c =
    let e : c.count.result ≡ count_by (λ (w : ℕ). eqb w c.args.word) c.args.words.now = search (rules, chains) in
    e ∙ counted-by c.args.word c.args.words.now
