-- Where the definitions of inherited attributes are: word A is full if one is of the first symbol of a rule of the nonterminal A, word 32 + 9 * P + D is
-- one more than the first line of those of the symbol behind the dot of the item (P, D), or 0. Assumes nothing.
use Rattle.std.specs.Prelude.{ℕ, ◌+◌, ◌*◌, ◌-◌, ◌^◌, ◌<◌, ◌≤◌, ◌≡◌, List, length, get_or, set}
use Rattle.std.proofs.Common.{arith, sym, ap, ◌∙◌, length-set, get_or-set_same, get_or-set_other}
use Rattle.std.proofs.Math.Decide.{ℕ_discrete}
use Rattle.std.specs.Int.Bits.{bit_and, bit_or}
use Rattle.std.proofs.lemmas.Nat.{and_mask}
use Rattle.sets.specs.Bits.{below_suc}
use Rattle.sets.proofs.Operations.{full, or-none}
use Rattle.grammar.specs.Data.Symbol.{left_of}
use Rattle.grammar.specs.Data.Book.{Book}
use Rattle.grammar.specs.Formulas.FormulaCheck as grammar
use Rattle.grammar.specs.Formulas.FormulaCheck.{dot_of, line_at}
use Rattle.attributes.specs.Checking.{CheckHeld}
use Rattle.attributes.specs.CheckingLaws.{rule_there, position_low, position_high, position-word, left_word, left_below, place_is}
use Rattle.plans.specs.DefinitionLines.{item_at}

-- the definitions from line n on
pub record PlacesIn (b : Book) (n : ℕ) (places : List ℕ) : Type 0 where
  pub long : 32 + 9 * length b.rules ≤ length places
  pub front_is : (d : ℕ) → n ≤ d → d < grammar.definitions b → dot_of (line_at b d) ≡ 0 → get_or places (left_of b.rules (line_at b d).rule) 0 ≡ full
  pub first_low : (k : ℕ) → (get_or places (32 + k) 0 ≡ 0 → ⊥)
      → (n < get_or places (32 + k) 0) × (get_or places (32 + k) 0 ≤ grammar.definitions b) × (item_at b (get_or places (32 + k) 0 - 1) ≡ k)
  pub first_is : (d : ℕ) → n ≤ d → d < grammar.definitions b
      → (get_or places (32 + item_at b d) 0 ≡ 0 → ⊥) × (get_or places (32 + item_at b d) 0 ≤ d + 1)

-- Definition by definition, from the last on

-- one line more: it comes before those of its item that are there
module _ {b : Book} {definitions rules owned masks : List ℕ} (H : CheckHeld b definitions rules owned masks) {d : ℕ} (l : d < grammar.definitions b)
    (places : List ℕ) (L : PlacesIn b (d + 1) places) {rule position : ℕ} (r : rule ≡ get_or definitions (49 * d) 0) (p : position ≡ get_or definitions (49 * d + 1) 0)
  where
    abbrev item : ℕ
    item = 31 + 9 * rule + position

    abbrev first : List ℕ
    first = set places item (d + 1)

    place : item ≡ 32 + item_at b d
    place = omega (arith, place_is H l r p, p, position_low H l)

    there : item < length places
    there = omega (arith, r, p, rule_there H l, position_high H l, L.long)

    long : 32 + 9 * length b.rules ≤ length first
    long = omega (arith, length-set places item (d + 1), L.long)

    here : get_or first (32 + item_at b d) 0 ≡ d + 1
    here = rw (← place) (get_or-set_same places item (d + 1) 0 there)

    other : (k : ℕ) → (32 + k ≡ item → ⊥) → get_or first (32 + k) 0 ≡ get_or places (32 + k) 0
    other k n = get_or-set_other places item (32 + k) (d + 1) 0 n

    low : (k : ℕ) → (get_or first (32 + k) 0 ≡ 0 → ⊥)
        → (d < get_or first (32 + k) 0) × (get_or first (32 + k) 0 ≤ grammar.definitions b) × (item_at b (get_or first (32 + k) 0 - 1) ≡ k)
    low k s = by (ℕ_discrete (32 + k) item)
      where
        by : Dec (32 + k ≡ item)
            → (d < get_or first (32 + k) 0) × (get_or first (32 + k) 0 ≤ grammar.definitions b) × (item_at b (get_or first (32 + k) 0 - 1) ≡ k)
        by (yes e) =
            let k-is : k ≡ item_at b d = omega (arith, e, place) in
            let w : get_or first (32 + k) 0 ≡ d + 1 = rw k-is here in
            let back : get_or first (32 + k) 0 - 1 ≡ d = omega (arith, w) in
            (omega (arith, w), omega (arith, w), rw (back, k-is))
        by (no n) =
            let (h, i, j) = L.first_low k (λ z. s (other k n ∙ z)) in
            (omega (arith, h, other k n), omega (arith, i, other k n), rw (other k n) j)

    every : (e : ℕ) → d ≤ e → e < grammar.definitions b → (get_or first (32 + item_at b e) 0 ≡ 0 → ⊥) × (get_or first (32 + item_at b e) 0 ≤ e + 1)
    every e h m = by (ℕ_discrete (32 + item_at b e) item)
      where
        by : Dec (32 + item_at b e ≡ item) → (get_or first (32 + item_at b e) 0 ≡ 0 → ⊥) × (get_or first (32 + item_at b e) 0 ≤ e + 1)
        by (yes q) =
            let w : get_or first (32 + item_at b e) 0 ≡ d + 1 = rw q (get_or-set_same places item (d + 1) 0 there) in
            (λ z. let w' : ⊥ = omega (arith, w, z) in w', omega (arith, w))
        by (no n) =
            let apart : d ≡ e → ⊥ = λ q. n (rw (← q) (sym place)) in
            let (s, f) = L.first_is e (omega (arith, h, apart)) m in
            (λ z. s (sym (other (item_at b e) n) ∙ z), omega (arith, f, other (item_at b e) n))

    pub places_behind : (position ≡ 1 → ⊥) → PlacesIn b d first
    places_behind n = record {
      long = long;
      front_is = λ e h m z. by e h m z (ℕ_discrete d e);
      first_low = low;
      first_is = every;
    }
      where
        by : (e : ℕ) → d ≤ e → e < grammar.definitions b → dot_of (line_at b e) ≡ 0 → Dec (d ≡ e)
            → get_or first (left_of b.rules (line_at b e).rule) 0 ≡ full
        by e h m z (yes q) =
            absurd (n (omega (arith, p, position-word H l, (H.line_in d l).position_low, let f : dot_of (line_at b d) ≡ 0 = rw q z in f)))
        by e h m z (no a) =
            let low-left : left_of b.rules (line_at b e).rule < 32 = H.left_low (line_at b e).rule (H.line_in e m).rule_there in
            get_or-set_other places item (left_of b.rules (line_at b e).rule) (d + 1) 0 (λ q. let w : ⊥ = omega (arith, q, place, low-left) in w)
            ∙ L.front_is e (omega (arith, h, a)) m z

    pub places-front : {left : ℕ} → left ≡ get_or rules (10 * rule) 0 → PlacesIn b d (set first left full)
    places-front {left} q = record {
      long = omega (arith, length-set first left full, long);
      front_is = λ e h m z. by e h m z (ℕ_discrete d e);
      first_low = λ k s. rw (← beyond k) at (low k (λ z. s (beyond k ∙ z)));
      first_is = λ e h m.
          let (s, f) = every e h m in
          (λ z. s (sym (beyond (item_at b e)) ∙ z), omega (arith, f, beyond (item_at b e)));
    }
      where
        is : left ≡ left_of b.rules (line_at b d).rule
        is = q ∙ ap (λ (P : ℕ). get_or rules (10 * P) 0) r ∙ left_word H l

        below : left < 32
        below = omega (arith, is, left_word H l, left_below H l)

        beyond : (k : ℕ) → get_or (set first left full) (32 + k) 0 ≡ get_or first (32 + k) 0
        beyond k = get_or-set_other first left (32 + k) full 0 (λ z. let w : ⊥ = omega (arith, z, below) in w)

        by : (e : ℕ) → d ≤ e → e < grammar.definitions b → dot_of (line_at b e) ≡ 0 → Dec (d ≡ e)
            → get_or (set first left full) (left_of b.rules (line_at b e).rule) 0 ≡ full
        by e h m z (yes s) = rw (← s, ← is) (get_or-set_same first left full 0 (omega (arith, below, long)))
        by e h m z (no a) = go (ℕ_discrete (left_of b.rules (line_at b e).rule) left)
          where
            go : Dec (left_of b.rules (line_at b e).rule ≡ left) → get_or (set first left full) (left_of b.rules (line_at b e).rule) 0 ≡ full
            go (yes s) = rw s (get_or-set_same first left full 0 (omega (arith, below, long)))
            go (no n) =
                let low-left : left_of b.rules (line_at b e).rule < 32 = H.left_low (line_at b e).rule (H.line_in e m).rule_there in
                get_or-set_other first left (left_of b.rules (line_at b e).rule) full 0 n
                ∙ get_or-set_other places item (left_of b.rules (line_at b e).rule) (d + 1) 0 (λ s. let w : ⊥ = omega (arith, s, place, low-left) in w)
                ∙ L.front_is e (omega (arith, h, a)) m z

-- What the test of a closure's words tells

-- the first n of a closure's words have nothing where a definition is of a first symbol
pub record FrontFree (closures : List ℕ) (first : ℕ) (places : List ℕ) (n : ℕ) : Type 0 where
  pub free : (A : ℕ) → A < n → bit_and (get_or closures (first + A) 0) (get_or places A 0) ≡ 0

module _ {closures : List ℕ} {first : ℕ} {places : List ℕ} where
  pub front-none : FrontFree closures first places 0
  front-none = record { free = λ A l. absurd (omega arith) }

  -- the bits of one more word are gathered
  pub front-more : {n bits : ℕ} → (bits ≡ 0 → FrontFree closures first places n)
      → bit_or bits (bit_and (get_or closures (first + n) 0) (get_or places n 0)) ≡ 0 → FrontFree closures first places (n + 1)
  front-more {n} {bits} before e =
      let (none, last) = or-none bits (bit_and (get_or closures (first + n) 0) (get_or places n 0)) e in
      record {
        free = λ A l.
            below_suc (λ k. bit_and (get_or closures (first + k) 0) (get_or places k 0) ≡ 0) n A (omega arith) ((before none).free A) last;
      }

  -- the closure has nothing of a left side whose rules have a definition of their first symbol
  pub front-empty : FrontFree closures first places 32 → (A : ℕ) → A < 32 → get_or places A 0 ≡ full → get_or closures (first + A) 0 < 2 ^ 32
      → get_or closures (first + A) 0 ≡ 0
  front-empty F A low e fits =
      let none : bit_and (get_or closures (first + A) 0) full ≡ 0 = rw e at (F.free A low) in
      omega (arith, fits, none, and_mask (get_or closures (first + A) 0) 32)
