-- Terminals that the definitions' items do not tell apart: their partial states have one answer (`check-same` of the grammar). Assumes nothing.
use Rattle.std.specs.Prelude.{ℕ, ◌+◌, ◌*◌, ◌-◌, ◌<◌, ◌≡◌, refl, ◌⊎◌, Bool, true, false, not, List, get_or}
use Rattle.std.proofs.Common.{arith, sym, ap, ◌∙◌, inl, inr}
use Rattle.std.proofs.Math.Decide.{ℕ_discrete}
use Rattle.std.proofs.lemmas.Bool.{not-false}
use Rattle.sets.specs.Sets.{bit, empty, union}
use Rattle.sets.proofs.SetsLaws.{bit-empty, union_left, union_right, union-either}
use Rattle.grammar.specs.Automaton.TestLaws.{true-false}
use Rattle.grammar.specs.Data.Book.{Book}
use Rattle.grammar.specs.Formulas.FormulaCheck as grammar
use Rattle.grammar.specs.Formulas.FormulaCheck.{dot_of, line_at, check}
use Rattle.grammar.specs.Formulas.FormulaCheckAll.{SameItems}
use Rattle.grammar.proofs.Formulas.FormulaCheckAll.{check-same}
use Rattle.attributes.specs.Checking.{member_of, CheckHeld}
use Rattle.attributes.specs.CheckingLaws.{place_is}

-- What tells terminals apart

-- the item of definition d has both terminals or neither
abbrev pub Agree : Book → List ℕ → ℕ → ℕ → ℕ → Type 0
Agree b masks a c d = member_of masks a (line_at b d).rule (dot_of (line_at b d)) ≡ member_of masks c (line_at b d).rule (dot_of (line_at b d))

-- by the words that were read
module _ {b : Book} {definitions rules owned masks : List ℕ} (H : CheckHeld b definitions rules owned masks) {d : ℕ} (l : d < grammar.definitions b) (a : ℕ)
    {rule position : ℕ} (r : rule ≡ get_or definitions (49 * d) 0) (p : position ≡ get_or definitions (49 * d + 1) 0) (c : ℕ) where
  abbrev set : ℕ
  set = get_or masks (9 * rule + position - 1) 0

  at : (k : ℕ) → member_of masks k (line_at b d).rule (dot_of (line_at b d)) ≡ bit set k
  at k = ap (λ (i : ℕ). bit (get_or masks i 0) k) (place_is H l r p)

  pub agree-in : {t : Bool} → t ≡ bit set a → t ≡ true → not (bit set c) ≡ false → Agree b masks a c d
  agree-in e f q = at a ∙ sym e ∙ f ∙ sym (at c ∙ not-false (bit set c) q)

  pub agree-out : {t : Bool} → t ≡ bit set a → t ≡ false → bit set c ≡ false → Agree b masks a c d
  agree-out e f q = at a ∙ sym e ∙ f ∙ sym (at c ∙ q)

-- `apart` has the terminals that the definitions below a number tell from a
abbrev pub Untold : Book → List ℕ → ℕ → ℕ → ℕ → Type 0
Untold b masks a apart i = (c : ℕ) → c < 32 → bit apart c ≡ false → (d : ℕ) → d < i → Agree b masks a c d

neither : (s t c : ℕ) → c < 32 → bit (union s t) c ≡ false → (bit s c ≡ false) × (bit t c ≡ false)
neither s t c h e = (by s (bit s c) refl (union_left s t c h), by t (bit t c) refl (union_right s t c h))
  where
    by : (w : ℕ) (x : Bool) → bit w c ≡ x → (bit w c ≡ true → bit (union s t) c ≡ true) → bit w c ≡ false
    by w false q f = q
    by w true q f = absurd (true-false (f q) e)

pub untold-start : (b : Book) (masks : List ℕ) (a apart : ℕ) → Untold b masks a apart 0
untold-start b masks a apart c h e d l = absurd (omega arith)

pub untold-turn : (b : Book) (masks : List ℕ) (a : ℕ) (s t i : ℕ) → Untold b masks a s i → ((c : ℕ) → c < 32 → bit t c ≡ false → Agree b masks a c i)
    → Untold b masks a (union s t) (i + 1)
untold-turn b masks a s t i U f c h e d l = by (ℕ_discrete d i)
  where
    by : Dec (d ≡ i) → Agree b masks a c d
    by (yes p) = rw p (f c h (neither s t c h e).1)
    by (no n) = U c h (neither s t c h e).0 d (omega arith)

-- Terminals whose partial states are known to be right

abbrev pub Right : Book → List ℕ → ℕ → Type 0
Right b masks known = (c : ℕ) → c < 32 → bit known c ≡ true → check b (member_of masks c) ≡ true

pub right-start : (b : Book) (masks : List ℕ) → Right b masks 0
unfolding empty
right-start b masks c h e = absurd (true-false e (bit-empty c))

pub right-more : (b : Book) (masks : List ℕ) (known more a : ℕ) → Right b masks known → check b (member_of masks a) ≡ true
    → ((c : ℕ) → c < 32 → bit more c ≡ true → SameItems b (member_of masks a) (member_of masks c)) → Right b masks (union known more)
right-more b masks known more a R e same c h t = by (union-either known more c h t)
  where
    by : (bit known c ≡ true) ⊎ (bit more c ≡ true) → check b (member_of masks c) ≡ true
    by (inl q) = R c h q
    by (inr q) = sym (check-same b (member_of masks a) (member_of masks c) (same c h q)) ∙ e
