use Rattle.console.specs.Lines.{feed-is}
use Rattle.text.specs.Class.{line-feed}
use lib.Dec.{eqb}
use mathlib.Core.Path.{ap, ◌∙◌}
use Prim.Native.Nat.{ℕ}
use Rattle.console.proofs.input.is_feed.Goals as goal

pub returns : goal.returns
returns c = ap (λ (k : ℕ). eqb k line-feed) c.class.ensures ∙ feed-is _
