use Prim.Native.Nat.{ℕ}
use mathlib.Core.Path.{ap, ◌∙◌}
use mathlib.Core.List.{List}
use lib.ListN.{get_or}
use Rattle.text.proofs.Table.{rule}
use borrow.Author.Rules.{rules}
use Rattle.text.proofs.class.Goals as goal

pub returns : goal.returns
returns c = let a = c.args in
    ap (λ (l : List ℕ). get_or l a.b 0) c.requires ∙ rule a.b (search rules)
