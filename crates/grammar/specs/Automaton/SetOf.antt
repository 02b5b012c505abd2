-- The set of a list's numbers holds just these, as far as a set holds numbers: below 32.
-- Assumes nothing.
use Rattle.std.specs.Prelude.{ℕ, ◌<◌, ◌^◌, ◌≡◌, true}
use Rattle.std.proofs.Common.{arith, sym, ◌∙◌, ⊎_elim, eqb-true}
use Rattle.std.proofs.lemmas.Bool.{false≢true}
use mathlib.Core.List.Memᴰ.{head as in_head}
use mathlib.Core.List.Memᴰ.{tail as in_Tail}
use mathlib.Core.List.{List, [], ◌∷◌, Memᴰ as Mem}
use Rattle.sets.specs.Sets.{bit, empty, single, with, subset}
use Rattle.sets.proofs.SetsLaws.{bit-empty, bit-single, bit-lt, with-lt, union-either, with-keeps, with-self, subset-holds, subset-true}
use Rattle.grammar.specs.Automaton.ClosureSets.{set_of}
use Rattle.grammar.specs.Conditions.Decides.{Decides}

pub set_of-holds : (l : List ℕ) (a : ℕ) → a < 32 → Mem a l → bit (set_of l) a ≡ true
unfolding set_of
set_of-holds [] a h m = elim m [ ]
set_of-holds (c ∷ l) a h (in_head e) = rw e (with-self (set_of l) c (rw e at h))
set_of-holds (c ∷ l) a h (in_Tail m) = with-keeps (set_of l) c a h (set_of-holds l a h m)

pub set_of-low : (l : List ℕ) → set_of l < 2 ^ 32
unfolding set_of
set_of-low [] = omega arith
set_of-low (a ∷ l) = with-lt (set_of l) a

pub set_of-only : (l : List ℕ) (a : ℕ) → bit (set_of l) a ≡ true → Mem a l
unfolding set_of with empty
set_of-only [] a e = absurd (false≢true (sym (bit-empty a) ∙ e))
set_of-only (c ∷ l) a e =
    ⊎_elim (λ p. in_Tail (set_of-only l a p)) (λ p. in_head (sym (eqb-true c a (sym (bit-single c a) ∙ p))))
    (union-either (set_of l) (single c) a (bit-lt _ a (with-lt (set_of l) c) e) e)

-- a set within the set of a list's numbers
pub within-decides : (M : ℕ) (l : List ℕ) → Decides (subset M (set_of l)) ((a : ℕ) → a < 32 → bit M a ≡ true → Mem a l)
within-decides M l =
    record {
      sound = λ e a h p. set_of-only l a (subset-holds M (set_of l) e a h p);
      complete = λ f. subset-true M (set_of l) (λ a h p. set_of-holds l a h (f a h p));
    }
