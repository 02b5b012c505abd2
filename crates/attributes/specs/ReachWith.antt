-- What items with some lookaheads reach, by the words of a rest (`reach_with` of the grammar). Assumes nothing.
use Rattle.std.specs.Prelude.{ℕ, ◌+◌, ◌*◌, ◌<◌, ◌≤◌, Bool, List, length}
use Rattle.std.proofs.Common.{arith}
use Rattle.std.proofs.Math.Path.{◌≡◌, refl}
use Rattle.std.proofs.Math.Bool.{true, false}
use Rattle.std.proofs.Math.ListN.{get_or}
use Rattle.sets.specs.Sets.{union}
use Rattle.grammar.specs.Data.Symbol.{Rule, right_of, after}
use Rattle.grammar.specs.Automaton.FirstSets.{Sets, null}
use Rattle.grammar.specs.Automaton.ReachSets.{reach_with}
use Rattle.items.specs.Arrays.{flag, SuffixesIn, ReachesIn}

module _ {G : List Rule} {F : Sets} {R nullables begins reaches : List ℕ} (N : SuffixesIn G F nullables begins) (H : ReachesIn G F R reaches) (P D M : ℕ)
    (p : P < length G) (d : D ≤ length (right_of G P)) where
  pub reach-null : (get_or nullables (9 * P + D) 0 ≡ 0 → ⊥) → reach_with F R (after G P D) M ≡ union (get_or reaches (9 * P + D) 0) M
  unfolding reach_with flag
  reach-null h = go (null F (after G P D)) refl
    where
      go : (t : Bool) → null F (after G P D) ≡ t → reach_with F R (after G P D) M ≡ union (get_or reaches (9 * P + D) 0) M
      go true e = rw (e, reach_with, H.reach_is P D p d)
      go false e = absurd (h (rw (N.null_is P D p d, e)))

  pub reach-full : get_or nullables (9 * P + D) 0 ≡ 0 → reach_with F R (after G P D) M ≡ get_or reaches (9 * P + D) 0
  unfolding reach_with flag
  reach-full h = go (null F (after G P D)) refl
    where
      go : (t : Bool) → null F (after G P D) ≡ t → reach_with F R (after G P D) M ≡ get_or reaches (9 * P + D) 0
      go true e = let z : ◌≡◌ {A = ℕ} 1 0 = rw (N.null_is P D p d, e) at h in absurd (omega arith)
      go false e = rw (e, reach_with, H.reach_is P D p d)
