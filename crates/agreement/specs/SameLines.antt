-- One definition of an attribute at an item, since lines ascend strictly. Assumes nothing.
use Rattle.std.specs.Prelude.{ℕ, zero, suc, ◌<◌, ◌≤◌, ◌≡◌, refl, Bool, true, false, List, [], ◌∷◌, ltb, length, get_or}
use Rattle.std.proofs.Common.{arith, sym, ltb-true, ltb-false}
use Rattle.grammar.specs.Data.Book.{Book}
use Rattle.grammar.specs.Data.ListLaws.{at-member}
use Rattle.grammar.specs.Format.Ordered.{Ascends, ascends-∷, Ordered, inherited_key}
use Rattle.grammar.specs.Format.OrderLaws.{before-differs, ascends-above}
use Rattle.grammar.specs.Conditions.Meaning.{Declared}
use Rattle.grammar.specs.Formulas.FormulaCheck as grammar
use Rattle.grammar.specs.Formulas.FormulaCheck.{no_definition, dot_of, line_at}

pub three_ways : {C : Type 0} (i j : ℕ) → (i < j → C) → (j < i → C) → (i ≡ j → C) → C
three_ways {C} i j less more same = by (ltb i j) (ltb j i) refl refl
  where
    by : (s t : Bool) → ltb i j ≡ s → ltb j i ≡ t → C
    by true t p q = less (ltb-true i j p)
    by false true p q = more (ltb-true j i q)
    by false false p q = same (omega (arith, ltb-false i j p, ltb-false j i q))

-- keys that ascend are of different places
ascends-place : {A : Type 0} {key : A → List ℕ} {last : List ℕ} (xs : List A) (x : A) → Ascends key last xs → (i j : ℕ) → i < j → j < length xs
    → key (get_or xs i x) ≡ key (get_or xs j x) → ⊥
ascends-place [] x a i j l h e = absurd (omega arith)
ascends-place (y ∷ xs) x (ascends-∷ b a) i zero l h e = absurd (omega arith)
ascends-place (y ∷ xs) x (ascends-∷ b a) zero (suc j) l h e = before-differs (ascends-above a (at-member xs j x (omega arith))) e
ascends-place (y ∷ xs) x (ascends-∷ b a) (suc i) (suc j) l h e = ascends-place xs x a i j (omega arith) (omega arith) e

-- one definition of an attribute at an item
pub same_line : {b : Book} → Ordered b → Declared b → (d e : ℕ) → d < grammar.definitions b → e < grammar.definitions b
    → (line_at b d).rule ≡ (line_at b e).rule → dot_of (line_at b d) ≡ dot_of (line_at b e) → (line_at b d).attribute ≡ (line_at b e).attribute → d ≡ e
unfolding inherited_key
same_line {b} ordered declared d e h k p q r =
    three_ways d e (λ l. absurd (ascends-place b.inherited_definitions no_definition ordered.inherited d e l k key))
    (λ l. absurd (ascends-place b.inherited_definitions no_definition ordered.inherited e d l h (sym key))) (λ s. s)
  where
    low : (c : ℕ) → c < grammar.definitions b → 1 ≤ (line_at b c).position
    low c l = (declared.inherited-declared (line_at b c) (at-member b.inherited_definitions c no_definition l)).position_there.low

    position : (line_at b d).position ≡ (line_at b e).position
    position = omega (arith, q, low d h, low e k)

    key : inherited_key (line_at b d) ≡ inherited_key (line_at b e)
    key = rw (p, position, r)
