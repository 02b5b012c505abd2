-- The rule of the table of classes: each of the 256 entries is the class of its byte.
-- Assumes nothing.
use Rattle.std.specs.Prelude.{ℕ, zero, suc, ◌+◌, ◌<◌, ◌≡◌, refl, Bool, true, false, List, [], ◌∷◌, eqb, length, get_or}
use Rattle.std.proofs.Common.{ap, ◌∙◌, arith, eqb-true}
use Rattle.std.proofs.lemmas.Bool.{false≢true}
use Rattle.text.specs.Class.{class_of}
use Rattle.text.specs.Table.{table, agrees}

agrees_at : (cs : List ℕ) (first k : ℕ) → agrees first cs ≡ true → k < length cs → get_or cs k 0 ≡ class_of (first + k)
unfolding agrees
agrees_at [] first k e h = absurd (omega arith)
agrees_at (c ∷ cs) first k e h = go (eqb c (class_of first)) refl k h (agrees_at cs (suc first))
  where
    go : (t : Bool) → eqb c (class_of first) ≡ t → (k : ℕ) → k < length (c ∷ cs)
        → ((k : ℕ) → agrees (suc first) cs ≡ true → k < length cs → get_or cs k 0 ≡ class_of (suc first + k))
        → get_or (c ∷ cs) k 0 ≡ class_of (first + k)
    go true q zero h later = eqb-true c (class_of first) q ∙ ap class_of (omega arith)
    go true q (suc k) h later = later k (rw (q, agrees) at e) (omega arith) ∙ ap class_of (omega arith)
    go false q k h later = absurd (false≢true (rw (q, agrees) at e))

-- computed once, for all 256 entries
table-agrees : agrees 0 table ≡ true
unfolding agrees table class_of
table-agrees = refl

pub rule : (b : ℕ) → b < 256 → get_or table b 0 ≡ class_of b
unfolding table
rule b h = agrees_at table 0 b table-agrees h ∙ ap class_of (omega arith)
