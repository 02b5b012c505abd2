-- The lines of inherited attributes' definitions ascend by their items, so that those of one rule, and of one item, stand side by side. Assumes nothing.
use Rattle.std.specs.Prelude.{ℕ, zero, suc, ◌+◌, ◌*◌, ◌-◌, ◌<◌, ◌≤◌, List, [], ◌∷◌, length, get_or}
use Rattle.std.proofs.Common.{arith}
use Rattle.grammar.specs.Data.Book.{InheritedDefinition, Book}
use Rattle.grammar.specs.Data.ListLaws.{at-member}
use Rattle.grammar.specs.Format.Ordered.{Before, before_less, before_same, Ascends, ascends-∷, Ordered, inherited_key}
use Rattle.grammar.specs.Format.OrderLaws.{ascends-above}
use Rattle.grammar.specs.Formulas.FormulaCheck as grammar
use Rattle.grammar.specs.Formulas.FormulaCheck.{no_definition, dot_of, line_at}
use Rattle.attributes.specs.Checking.{CheckHeld}

-- the place of the item of a definition
abbrev pub item_at : Book → ℕ → ℕ
item_at b d = 9 * (line_at b d).rule + dot_of (line_at b d)

-- Order

-- two keys in order
keys-items : {P J K Q I N : ℕ} → Before (P ∷ J ∷ K ∷ []) (Q ∷ I ∷ N ∷ []) → J ≤ 8 → 1 ≤ I → 9 * P + (J - 1) ≤ 9 * Q + (I - 1)
keys-items (before_less h) u v = omega arith
keys-items (before_same (before_less h)) u v = omega arith
keys-items (before_same (before_same h)) u v = omega arith

lines-items : (x y : InheritedDefinition) → Before (inherited_key x) (inherited_key y) → x.position ≤ 8 → 1 ≤ y.position
    → 9 * x.rule + dot_of x ≤ 9 * y.rule + dot_of y
unfolding inherited_key
lines-items x y h u v = keys-items h u v

items-ascend : {last : List ℕ} (ds : List InheritedDefinition) → Ascends inherited_key last ds
    → ((d : ℕ) → d < length ds → (1 ≤ (get_or ds d no_definition).position) × ((get_or ds d no_definition).position ≤ 8)) → (i j : ℕ) → i ≤ j → j < length ds
    → 9 * (get_or ds i no_definition).rule + dot_of (get_or ds i no_definition) ≤ 9 * (get_or ds j no_definition).rule + dot_of (get_or ds j no_definition)
items-ascend [] a low i j h l = absurd (omega arith)
items-ascend (k ∷ ks) (ascends-∷ b a) low zero zero h l = omega arith
items-ascend (k ∷ ks) (ascends-∷ b a) low zero (suc j) h l =
    lines-items k (get_or ks j no_definition) (ascends-above a (at-member ks j _ (omega arith))) (low zero (omega arith)).1 (low (suc j) l).0
items-ascend (k ∷ ks) (ascends-∷ b a) low (suc i) zero h l = absurd (omega arith)
items-ascend (k ∷ ks) (ascends-∷ b a) low (suc i) (suc j) h l =
    items-ascend {last = inherited_key k} ks a (λ d m. low (suc d) (omega arith)) i j (omega arith) (omega arith)

-- their items ascend
pub lines-ascend : {b : Book} {definitions rules owned masks : List ℕ} → Ordered b → CheckHeld b definitions rules owned masks → (i j : ℕ) → i ≤ j
    → j < grammar.definitions b → item_at b i ≤ item_at b j
lines-ascend {b} ordered H i j h l =
    items-ascend b.inherited_definitions ordered.inherited (λ d m. ((H.line_in d m).position_low, (H.line_in d m).position_high)) i j h l
