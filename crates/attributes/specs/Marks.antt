-- The sets of terminals of a state's items (01, "Partial states and chains"): word 9 * P + D has those for which the item (P, D) is in the partial state,
-- where a definition is of the symbol behind its dot; what the other words hold is not said. Assumes nothing.
use Rattle.std.specs.Prelude.{ℕ, ◌+◌, ◌*◌, ◌<◌, ◌≤◌, ◌≡◌, refl, ◌⊎◌, true, length, get_or, set}
use Rattle.std.proofs.Common.{arith, sym, ap, ◌∙◌, inl, inr, length-set, get_or-set_same, get_or-set_other}
use Rattle.std.proofs.Math.Decide.{ℕ_discrete}
use mathlib.Core.List.Memᴰ.{head as in_head}
use mathlib.Core.List.Memᴰ.{tail as in_Tail}
use mathlib.Core.List.{List, ◌∷◌, Memᴰ as Mem}
use Rattle.sets.specs.Sets.{bit, union}
use Rattle.sets.proofs.SetsLaws.{union_left, union_right, union-either}
use Rattle.grammar.specs.Conditions.Decides.{Decides}
use Rattle.grammar.specs.Data.Symbol.{Rule, after}
use Rattle.grammar.specs.Data.Book.{Book}
use Rattle.grammar.specs.Automaton.FirstSets.{Sets}
use Rattle.grammar.specs.Automaton.ReachSets.{reach_with}
use Rattle.grammar.specs.Automaton.CoreItems.{Core, core}
use Rattle.grammar.specs.Formulas.FormulaCheck.{definitions, dot_of, line_at}

-- words for the items of all rules, in three arrays
pub record MarksRoom (G : List Rule) (nullables reaches masks : List ℕ) : Type 0 where
  pub nullables_long : 9 * length G ≤ length nullables
  pub reaches_long : 9 * length G ≤ length reaches
  pub masks_long : 9 * length G ≤ length masks

pub room-kept : {G : List Rule} {nullables reaches masks more : List ℕ} → MarksRoom G nullables reaches masks → length more ≡ length masks
    → MarksRoom G nullables reaches more
room-kept H e = record { nullables_long = H.nullables_long; reaches_long = H.reaches_long; masks_long = omega (arith, e, H.masks_long) }

module _ (b : Book) (F : Sets) (R : List ℕ) where
  -- an entry for the item (P, D) that reaches a
  abbrev pub ItemReaches : List Core → ℕ → ℕ → ℕ → Type 0
  ItemReaches items P D a = (M : ℕ) × Mem (core P D M) items × (bit (reach_with F R (after b.rules P D) M) a ≡ true)

  pub record MarksIn (items : List Core) (masks : List ℕ) : Type 0 where
    pub long : 9 * length b.rules ≤ length masks
    pub dot_low : (d : ℕ) → d < definitions b → dot_of (line_at b d) < 9
    pub mark_is : (d a : ℕ) → d < definitions b → a < 32
        → Decides (bit (get_or masks (9 * (line_at b d).rule + dot_of (line_at b d)) 0) a) (ItemReaches items (line_at b d).rule (dot_of (line_at b d)) a)

  -- the item (Q, E) with the lookaheads N besides
  module _ {items : List Core} {masks : List ℕ} (H : MarksIn items masks) (Q E N : ℕ) (q : Q < length b.rules) (e : E < 9) where
    abbrev place : ℕ
    place = 9 * Q + E

    abbrev reach : ℕ
    reach = reach_with F R (after b.rules Q E) N

    abbrev more : List ℕ
    more = set masks place (union (get_or masks place 0) reach)

    here : (a : ℕ) → a < 32 → Decides (bit (get_or masks place 0) a) (ItemReaches items Q E a)
        → Decides (bit (get_or more place 0) a) (ItemReaches (core Q E N ∷ items) Q E a)
    here a l before =
        record { sound = λ t. from (union-either (get_or masks place 0) reach a l (sym (ap (λ (w : ℕ). bit w a) word) ∙ t)); complete = to }
      where
        word : get_or more place 0 ≡ union (get_or masks place 0) reach
        word = get_or-set_same masks place (union (get_or masks place 0) reach) 0 (omega (arith, H.long))

        from : (bit (get_or masks place 0) a ≡ true) ⊎ (bit reach a ≡ true) → ItemReaches (core Q E N ∷ items) Q E a
        from (inl t) = let (M, m, r) = before.sound t in (M, in_Tail m, r)
        from (inr t) = (N, in_head refl, t)

        to : ItemReaches (core Q E N ∷ items) Q E a → bit (get_or more place 0) a ≡ true
        to (M, in_head s, r) =
            let same : M ≡ N = cc in
            ap (λ (w : ℕ). bit w a) word ∙ union_right (get_or masks place 0) reach a l (rw same at r)
        to (M, in_Tail m, r) = ap (λ (w : ℕ). bit w a) word ∙ union_left (get_or masks place 0) reach a l (before.complete (M, m, r))

    other : (P D a : ℕ) → (9 * P + D ≡ place → ⊥) → Decides (bit (get_or masks (9 * P + D) 0) a) (ItemReaches items P D a)
        → Decides (bit (get_or more (9 * P + D) 0) a) (ItemReaches (core Q E N ∷ items) P D a)
    other P D a n before = record {
      sound = λ t. let (M, m, r) = before.sound (sym (ap (λ (w : ℕ). bit w a) word) ∙ t) in (M, in_Tail m, r);
      complete = to;
    }
      where
        word : get_or more (9 * P + D) 0 ≡ get_or masks (9 * P + D) 0
        word = get_or-set_other masks place (9 * P + D) (union (get_or masks place 0) reach) 0 n

        to : ItemReaches (core Q E N ∷ items) P D a → bit (get_or more (9 * P + D) 0) a ≡ true
        to (M, in_head s, r) = let x : P ≡ Q = cc in let y : D ≡ E = cc in absurd (n (omega arith))
        to (M, in_Tail m, r) = ap (λ (w : ℕ). bit w a) word ∙ before.complete (M, m, r)

    either : (P D a : ℕ) → D < 9 → a < 32 → Decides (bit (get_or masks (9 * P + D) 0) a) (ItemReaches items P D a)
        → Decides (bit (get_or more (9 * P + D) 0) a) (ItemReaches (core Q E N ∷ items) P D a)
    either P D a d l before = by (ℕ_discrete (9 * P + D) place)
      where
        by : Dec (9 * P + D ≡ place) → Decides (bit (get_or more (9 * P + D) 0) a) (ItemReaches (core Q E N ∷ items) P D a)
        by (yes s) =
            let x : P ≡ Q = omega arith in
            let y : D ≡ E = omega arith in
            rw (x, y) (here a l (rw (x, y) at before))
        by (no n) = other P D a n before

    pub marks-item : MarksIn (core Q E N ∷ items) more
    marks-item = record {
      long = omega (arith, length-set masks place (union (get_or masks place 0) reach), H.long);
      dot_low = H.dot_low;
      mark_is = λ d a l low. either (line_at b d).rule (dot_of (line_at b d)) a (H.dot_low d l) low (H.mark_is d a l low);
    }
