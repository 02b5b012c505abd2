-- What a rule's definitions give depends only on what they may read. Assumes the premises of demand 3.
use Prim.Native.Nat.{ℕ, suc, ◌<◌, ◌≤◌}
use Rattle.std.specs.Prelude.{◌≡◌, refl, List, length}
use Rattle.std.proofs.Math.Path.{fun_ext}
use Rattle.grammar.specs.Data.Symbol.{nonterminal, left_of, right_of}
use Rattle.grammar.specs.Data.TermLaws.{eval-same}
use Rattle.grammar.specs.Data.Book.{Place, own, at, val, Book, inherited_owner}
use Rattle.grammar.specs.Evaluator.Tree.{Stands}
use Rattle.grammar.specs.Evaluator.Decorated.{Values, Result, child_at, place_value, inherited_from, synthesized_from, Decorated, erase, inherited_of, Inherits}
use Rattle.grammar.specs.Evaluator.Decorated.{leaf_inherits, node_inherits}
use Rattle.grammar.specs.Evaluator.Machine.{Tables}
use Rattle.grammar.specs.Evaluator.Premises.{MayRead, reads_own, reads_at, reads_val, Premises}
use Rattle.grammar.specs.Evaluator.PremisesLaws.{inherited-leaves, synthesized-leaves}

module _ (b : Book) where
  -- i and j agree on the attributes of rule P's left side
  abbrev pub SameOwn : ℕ → Values → Values → Type 0
  SameOwn P i j = (K : ℕ) → inherited_owner b K ≡ left_of b.rules P → i K ≡ j K

  place_value-same : {P J : ℕ} (i j : Values) (cs ds : List Result) → SameOwn P i j → ((I : ℕ) → 1 ≤ I → I < J → child_at cs I ≡ child_at ds I)
      → (a : Place) → MayRead b P J a → place_value i cs a ≡ place_value j ds a
  unfolding place_value
  place_value-same i j cs ds h g (own K) (reads_own e) = h K e
  place_value-same i j cs ds h g (at I K) (reads_at p q) = rw (g I p q)
  place_value-same i j cs ds h g (val I) (reads_val p q) = rw (g I p q)

  -- a node's inherited values are those that it is given
  pub inherits-given : {f : Values} {d : Decorated} {B : ℕ} → Inherits f d → Stands b (erase d) (nonterminal B) → (K : ℕ) → f K ≡ inherited_of d K
  inherits-given leaf_inherits s K = elim s [ ]
  inherits-given (node_inherits e) s K = rw e

module _ (b : Book) (T : Tables) (H : Premises b T) where
  pub inherited_from-same : (P J : ℕ) (i j : Values) (cs ds : List Result) → SameOwn b P i j → ((I : ℕ) → 1 ≤ I → I < J → child_at cs I ≡ child_at ds I)
      → inherited_from b P J i cs ≡ inherited_from b P J j ds
  unfolding inherited_from
  inherited_from-same P J i j cs ds h g = fun_ext (λ K. eval-same (inherited-leaves b T H P J K) _ _ (place_value-same b i j cs ds h g))

  pub synthesized_from-same : (P : ℕ) (i j : Values) (cs : List Result) → SameOwn b P i j → synthesized_from b P i cs ≡ synthesized_from b P j cs
  unfolding synthesized_from
  synthesized_from-same P i j cs h =
      fun_ext (λ K. eval-same (synthesized-leaves b T H P K) _ _ (place_value-same b {J = suc (length (right_of b.rules P))} i j cs cs h (λ I p q. refl)))
