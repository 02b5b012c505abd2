-- The sets of terminals of the items with the dot in front that definitions are of, definition by definition: what a closure has of their rules
-- (`of_rules` of the grammar). The word of any other definition's item becomes 0. Assumes nothing.
use Prim.Native.Nat.{ℕ, zero, suc, ◌+◌, ◌*◌, ◌<◌, ◌≤◌}
use native.Mathlib.Omega.{arith}
use Rattle.std.proofs.Math.Decide.{ℕ_discrete}
use Rattle.std.specs.Prelude.{◌≡◌, ◌⊎◌, length, get_or, set}
use Rattle.std.proofs.Math.Path.{refl, sym}
use Rattle.std.proofs.Common.{ap, ◌∙◌, inl, inr, length-set, get_or-set_same, get_or-set_other}
use mathlib.Core.List.Memᴰ.{head as in_head}
use mathlib.Core.List.Memᴰ.{not-nil as not-in-nil}
use mathlib.Core.List.Memᴰ.{tail as in_Tail}
use mathlib.Core.List.{List, Memᴰ as Mem}
use Rattle.sets.specs.Sets.{bit, empty}
use Rattle.sets.proofs.SetsLaws.{bit-empty}
use Rattle.grammar.specs.Conditions.Decides.{Decides}
use Rattle.grammar.specs.Data.Symbol.{Symbol, Rule, left_of, after}
use Rattle.grammar.specs.Data.Book.{Book}
use Rattle.grammar.specs.Automaton.Fixpoint.{set_at}
use Rattle.grammar.specs.Automaton.FirstSets.{Sets}
use Rattle.grammar.specs.Automaton.ReachSets.{reach_with}
use Rattle.grammar.specs.Automaton.TestLaws.{true-false}
use Rattle.grammar.specs.Automaton.CoreItems.{Core, core, entered, of_rules}
use Rattle.grammar.specs.Formulas.FormulaCheck as grammar
use Rattle.grammar.specs.Formulas.FormulaCheck.{dot_of, line_at}
use Rattle.book.specs.Held.{RulesIn}
use Rattle.attributes.specs.Checking.{CheckHeld}
use Rattle.attributes.specs.Marks.{ItemReaches, MarksIn}

-- a grammar in an array, with the closure `looks` of a state from word `first` on
pub record LooksIn (G : List Rule) (rules : List ℕ) (looks : List ℕ) (words : List ℕ) (first : ℕ) : Type 0 where
  pub rules_in : RulesIn G rules
  pub left_low : (P : ℕ) → P < length G → left_of G P < 32
  pub look_is : (A : ℕ) → A < 32 → get_or words (first + A) 0 ≡ set_at looks A

-- what items with lookaheads reach; nothing without any
unfoldable pub reach_of : Sets → List ℕ → List Symbol → ℕ → ℕ
reach_of F R rest zero = 0
reach_of F R rest (suc M) = reach_with F R rest (suc M)

-- the set of an item with the dot in front, by what a closure has of its left side; of any other item nothing
unfoldable pub front_word : List Rule → Sets → List ℕ → List ℕ → ℕ → ℕ → ℕ
front_word G F R looks P zero = reach_of F R (after G P 0) (set_at looks (left_of G P))
front_word G F R looks P (suc D) = 0

-- the words of the items of the first n definitions
pub record FrontsMarked (b : Book) (F : Sets) (R looks : List ℕ) (n : ℕ) (masks : List ℕ) : Type 0 where
  pub long : 9 * length b.rules ≤ length masks
  pub word_is : (d : ℕ) → d < n
      → get_or masks (9 * (line_at b d).rule + dot_of (line_at b d)) 0 ≡ front_word b.rules F R looks (line_at b d).rule (dot_of (line_at b d))

-- An item that is entered

entered-has : (P M : ℕ) (cs : List Core) → (M ≡ 0 → ⊥) → Mem (core P 0 M) (entered P M cs)
unfolding entered
entered-has P zero cs n = absurd (n refl)
entered-has P (suc M) cs n = in_head refl

entered-keeps : (P M : ℕ) {cs : List Core} {c : Core} → Mem c cs → Mem c (entered P M cs)
unfolding entered
entered-keeps P zero m = m
entered-keeps P (suc M) m = in_Tail m

has-entered : (P M : ℕ) {cs : List Core} {c : Core} → Mem c (entered P M cs) → ((c ≡ core P 0 M) × (M ≡ 0 → ⊥)) ⊎ Mem c cs
unfolding entered
has-entered P zero m = inr m
has-entered P (suc M) (in_head e) = inl (e, λ z. let w : ⊥ = omega arith in w)
has-entered P (suc M) (in_Tail m) = inr m

module _ {G : List Rule} {rules looks words : List ℕ} {first : ℕ} (L : LooksIn G rules looks words first) (P : ℕ) (p : P < length G) where
  pub left_word : get_or rules (10 * P) 0 < 32
  left_word = omega (arith, L.rules_in.left_is P p, L.left_low P p)

  look : {left : ℕ} → left ≡ get_or rules (10 * P) 0 → get_or words (first + left) 0 ≡ set_at looks (left_of G P)
  look e =
      ap (λ (A : ℕ). get_or words (first + A) 0) (e ∙ L.rules_in.left_is P p) ∙ L.look_is (left_of G P) (L.left_low P p)

  -- the closure has nothing of the rule
  pub front-none : (F : Sets) (R : List ℕ) {left : ℕ} → left ≡ get_or rules (10 * P) 0 → get_or words (first + left) 0 ≡ 0
      → 0 ≡ front_word G F R looks P 0
  unfolding front_word reach_of
  front-none F R e z = rw (front_word, sym (look e) ∙ z, reach_of)

  -- it has lookaheads of it
  pub front-some : (F : Sets) (R : List ℕ) {left : ℕ} → left ≡ get_or rules (10 * P) 0 → (get_or words (first + left) 0 ≡ 0 → ⊥)
      → reach_with F R (after G P 0) (get_or words (first + left) 0) ≡ front_word G F R looks P 0
  unfolding front_word reach_of
  front-some F R {left} e n = rw (front_word, ← (look e)) (some (get_or words (first + left) 0) n)
    where
      some : (M : ℕ) → (M ≡ 0 → ⊥) → reach_with F R (after G P 0) M ≡ reach_of F R (after G P 0) M
      some zero n = absurd (n refl)
      some (suc M) n = refl

-- by rule and dot
module _ (G : List Rule) (F : Sets) (R looks : List ℕ) where
  pub front-behind : (P D : ℕ) → (D ≡ 0 → ⊥) → 0 ≡ front_word G F R looks P D
  unfolding front_word
  front-behind P zero n = absurd (n refl)
  front-behind P (suc D) n = refl

  pub front-first : {P Q D : ℕ} → P ≡ Q → D ≡ 0 → front_word G F R looks P 0 ≡ front_word G F R looks Q D
  front-first e z = rw (e, z)

-- Definition by definition

pub fronts-start : (b : Book) (F : Sets) (R looks : List ℕ) {masks : List ℕ} → 9 * length b.rules ≤ length masks → FrontsMarked b F R looks 0 masks
fronts-start b F R looks l = record { long = l; word_is = λ d h. absurd (omega arith) }

module _ {b : Book} {definitions rules owned cleared : List ℕ} (C : CheckHeld b definitions rules owned cleared) {d : ℕ} (l : d < grammar.definitions b) where
  pub fronts-more : {F : Sets} {R looks masks : List ℕ} {place w : ℕ} → place ≡ 9 * (line_at b d).rule + dot_of (line_at b d)
      → w ≡ front_word b.rules F R looks (line_at b d).rule (dot_of (line_at b d)) → FrontsMarked b F R looks d masks
      → FrontsMarked b F R looks (d + 1) (set masks place w)
  fronts-more {F} {R} {looks} {masks} {place} {w} at is H = record {
    long = omega (arith, length-set masks place w, H.long);
    word_is = λ e h. by e h (ℕ_discrete (9 * (line_at b e).rule + dot_of (line_at b e)) place);
  }
    where
      by : (e : ℕ) → e < d + 1 → Dec (9 * (line_at b e).rule + dot_of (line_at b e) ≡ place)
          → get_or (set masks place w) (9 * (line_at b e).rule + dot_of (line_at b e)) 0
          ≡ front_word b.rules F R looks (line_at b e).rule (dot_of (line_at b e))
      by e h (yes s) =
          let low = C.line_in e (omega arith) in
          let x : (line_at b e).rule ≡ (line_at b d).rule = omega (arith, low.position_high, (C.line_in d l).position_high) in
          let y : dot_of (line_at b e) ≡ dot_of (line_at b d) = omega (arith, low.position_high, (C.line_in d l).position_high) in
          ap (λ (k : ℕ). get_or (set masks place w) k 0) s
          ∙ get_or-set_same masks place w 0 (omega (arith, (C.line_in d l).rule_there, (C.line_in d l).position_high, H.long))
          ∙ is ∙ sym (rw (x, y))
      by e h (no n) =
          get_or-set_other masks place (9 * (line_at b e).rule + dot_of (line_at b e)) w 0 n
          ∙ H.word_is e (before (ℕ_discrete e d))
        where
          before : Dec (e ≡ d) → e < d
          before (yes q) = absurd (n (rw q (sym at)))
          before (no m) = omega arith

-- The rules' items with the dot in front

module _ (b : Book) (looks : List ℕ) where
  abbrev found : ℕ → ℕ
  found P = set_at looks (left_of b.rules P)

  rules-have : (n P : ℕ) → P < n → (found P ≡ 0 → ⊥) → Mem (core P 0 (found P)) (of_rules b.rules looks n)
  unfolding of_rules
  rules-have zero P l some = absurd (omega arith)
  rules-have (suc n) P l some = by (ℕ_discrete P n) (λ h. rules-have n P h some)
    where
      by : Dec (P ≡ n) → (P < n → Mem (core P 0 (found P)) (of_rules b.rules looks n)) → Mem (core P 0 (found P)) (of_rules b.rules looks (suc n))
      by (yes e) before = rw e (entered-has n (found n) (of_rules b.rules looks n) (rw e at some))
      by (no m) before = entered-keeps n (found n) (before (omega arith))

  has-rules : (n : ℕ) {c : Core} → Mem c (of_rules b.rules looks n) → (P : ℕ) × (c ≡ core P 0 (found P)) × (found P ≡ 0 → ⊥)
  unfolding of_rules
  has-rules zero m = absurd (not-in-nil m)
  has-rules (suc n) {c} m = by (has-entered n (found n) m) (has-rules n)
    where
      by : ((c ≡ core n 0 (found n)) × (found n ≡ 0 → ⊥)) ⊎ Mem c (of_rules b.rules looks n)
          → (Mem c (of_rules b.rules looks n) → (P : ℕ) × (c ≡ core P 0 (found P)) × (found P ≡ 0 → ⊥))
          → (P : ℕ) × (c ≡ core P 0 (found P)) × (found P ≡ 0 → ⊥)
      by (inl (e, some)) before = (n, e, some)
      by (inr o) before = before o

  module _ (F : Sets) (R : List ℕ) where
    -- a word without terminals, of an item that is not there
    absent : (P D a : ℕ) → ((M : ℕ) → Mem (core P D M) (of_rules b.rules looks (length b.rules)) → ⊥)
        → Decides (bit 0 a) (ItemReaches b F R (of_rules b.rules looks (length b.rules)) P D a)
    unfolding empty
    absent P D a none = record { sound = λ t. absurd (true-false t (bit-empty a)); complete = λ (M, m, t). absurd (none M m) }

    pub front-decides : (P D a : ℕ) → P < length b.rules
        → Decides (bit (front_word b.rules F R looks P D) a) (ItemReaches b F R (of_rules b.rules looks (length b.rules)) P D a)
    unfolding front_word reach_of
    front-decides P (suc D) a p = absent P (suc D) a λ M m.
        let (Q, is, some) = has-rules (length b.rules) m in let z : suc D ≡ 0 = cc in omega arith
    front-decides P zero a p = by (found P) refl
      where
        by : (N : ℕ) → found P ≡ N
            → Decides (bit (reach_of F R (after b.rules P 0) N) a) (ItemReaches b F R (of_rules b.rules looks (length b.rules)) P 0 a)
        by zero e = absent P 0 a λ M m.
            let (Q, is, some) = has-rules (length b.rules) m in let q : P ≡ Q = cc in some (rw q at e)
        by (suc N) e = record {
          sound = λ t. (found P, rules-have (length b.rules) P p (λ z. let w : ⊥ = omega (arith, e, z) in w), rw e t);
          complete = λ (M, m, t).
              let (Q, is, some) = has-rules (length b.rules) m in
              let q : P ≡ Q = cc in
              let same : M ≡ found Q = cc in
              let right : M ≡ suc N = same ∙ rw q at e in
              rw right at t;
        }

    -- after all definitions
    pub fronts-marked : {definitions rules owned cleared : List ℕ} → CheckHeld b definitions rules owned cleared → {lines : ℕ}
        → lines ≡ grammar.definitions b → {masks : List ℕ} → FrontsMarked b F R looks lines masks → MarksIn b F R (of_rules b.rules looks (length b.rules)) masks
    fronts-marked C e H = record {
      long = H.long;
      dot_low = λ d l. omega (arith, (C.line_in d l).position_high);
      mark_is = λ d a l low. rw (H.word_is d (omega arith)) (front-decides (line_at b d).rule (dot_of (line_at b d)) a (C.line_in d l).rule_there);
    }

-- opens every definition of this module
unfoldable pub opens : Unit {0}
unfolding reach_of front_word
opens = tt
