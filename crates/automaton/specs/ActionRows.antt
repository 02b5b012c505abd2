-- The actions of one state in an array, 32 words from 32 * S on, and what is told of them when an item's action is melded in.
-- Assumes nothing.
use Rattle.std.specs.Prelude.{ℕ, ◌+◌, ◌*◌, ◌-◌, ◌/◌, ◌%◌, ◌^◌, ◌<◌, ◌≤◌, ◌≡◌, refl, ◌⊎◌, Bool, not, ◌&&◌, ◌||◌, List, [], ltb, leb, length, get_or}
use Rattle.std.proofs.Common.{arith, ◌∙◌, inl, inr, shr-shr, pow_mono, get_or-set_same, get_or-set_other, eqb-true, eq-eqb, ne_eqb, ltb-true, ltb-false, lt-ltb, le-ltb, leb-true, leb-false, le-leb}
use Rattle.std.proofs.Math.Path.{sym, ap}
use Rattle.std.proofs.Math.Bool.{true, false, and-true}
use Rattle.std.proofs.Math.Dec.{eqb}
use Rattle.std.specs.Int.Bits.{bit_and}
use Rattle.std.proofs.Math.ListN.{set}
use Rattle.std.proofs.lemmas.List.{set-get_or}
use Rattle.std.proofs.lemmas.Bool.{eqb-false}
use Rattle.sets.specs.Sets.{bit}
use Rattle.sets.specs.Bits.{bit_past}
use Rattle.sets.proofs.Operations.{full, bit-and, bit-full}
use Rattle.grammar.specs.Limits.{MAX_RULES}
use Rattle.grammar.specs.Data.Symbol.{Symbol}
use Rattle.grammar.specs.Automaton.States.{Action}
use Rattle.grammar.specs.Automaton.TestLaws.{by-test, true-false, both_true}
use Rattle.grammar.specs.Automaton.Actions.{Cell, act, conflict, meld, completed, meld_item}
use Rattle.items.specs.Arrays.{cell_code}
use Rattle.automaton.specs.Cells.{Possible, completing, Clear, acting, clear-conflict, completed-code, meld-fits, meld-clash}

-- the words of state S are the cells of the terminals up to T, none of them a conflict
pub record Row (T S : ℕ) (cells : ℕ → Cell) (actions : List ℕ) : Type 0 where
  pub cell_is : (a : ℕ) → a ≤ T → get_or actions (32 * S + a) 0 ≡ cell_code (cells a)
  pub clear : (a : ℕ) → a ≤ T → Clear (cells a)

-- some cell is a conflict
pub record Clash (T : ℕ) (cells : ℕ → Cell) : Type 0 where
  pub at : ℕ
  pub low : at ≤ T
  pub clashes : cells at ≡ conflict

-- the words of other states are as they were
abbrev pub Kept : ℕ → List ℕ → List ℕ → Type 0
Kept S old new = (R a : ℕ) → a < 32 → (R ≡ S → ⊥) → get_or new (32 * R + a) 0 ≡ get_or old (32 * R + a) 0

-- the answer r tells whether the words of state S have become the cells, or a cell is a conflict
pub record Melded (T S : ℕ) (cells : ℕ → Cell) (old new : List ℕ) (r : Bool) : Type 0 where
  pub row : r ≡ true → Row T S cells new
  pub kept : r ≡ true → Kept S old new
  pub clash : r ≡ false → Clash T cells

-- one word is given an action: it was free or had the action, or it keeps another
pub record Given (old : List ℕ) (place word : ℕ) (new : List ℕ) (r : Bool) : Type 0 where
  pub fits : r ≡ true → (get_or old place 0 ≡ 0) ⊎ (get_or old place 0 ≡ word)
  pub stored : r ≡ true → new ≡ set old place word
  pub other : r ≡ false → (get_or old place 0 ≡ 0 → ⊥) × (get_or old place 0 ≡ word → ⊥)

pub given-free : (old : List ℕ) (place word : ℕ) → get_or old place 0 ≡ 0 → Given old place word (set old place word) true
given-free old place word e = record { fits = λ q. inl e; stored = λ q. refl; other = λ q. true-false refl q }

pub given-full : (old : List ℕ) (place word : ℕ) → (get_or old place 0 ≡ 0 → ⊥) → Given old place word old (eqb (get_or old place 0) word)
given-full old place word n = record {
  fits = λ q. inr (eqb-true (get_or old place 0) word q);
  stored = λ q. sym (ap (set old place) (sym (eqb-true (get_or old place 0) word q)) ∙ set-get_or old place 0);
  other = λ q. (n, eqb-false (get_or old place 0) word q);
}

-- ---- laws of rows

pub row_same : {T S : ℕ} {cells others : ℕ → Cell} {actions : List ℕ} → ((a : ℕ) → a ≤ T → cells a ≡ others a) → Row T S cells actions → Row T S others actions
row_same e r = record { cell_is = λ a l. rw (← e a l) (r.cell_is a l); clear = λ a l. rw (← e a l) (r.clear a l) }

pub clash-same : {T : ℕ} {cells others : ℕ → Cell} → ((a : ℕ) → a ≤ T → cells a ≡ others a) → Clash T cells → Clash T others
clash-same e c = record { at = c.at; low = c.low; clashes = sym (e c.at c.low) ∙ c.clashes }

pub melded-same : {T S : ℕ} {cells others : ℕ → Cell} {old new : List ℕ} {r : Bool} → ((a : ℕ) → a ≤ T → cells a ≡ others a)
    → Melded T S cells old new r → Melded T S others old new r
melded-same e m = record { row = λ q. row_same e (m.row q); kept = m.kept; clash = λ q. clash-same e (m.clash q) }

-- nothing is done
pub melded-none : {T S : ℕ} {cells : ℕ → Cell} {old : List ℕ} → Row T S cells old → Melded T S cells old old true
melded-none r = record { row = λ q. r; kept = λ q R a l n. refl; clash = λ q. true-false refl q }

-- a conflict is found
pub melded-clash : {T S : ℕ} {cells : ℕ → Cell} {old new : List ℕ} → Clash T cells → Melded T S cells old new false
melded-clash c = record { row = λ q. true-false q refl; kept = λ q. true-false q refl; clash = λ q. c }

-- one thing after the other
pub melded-then : {T S : ℕ} {cells others : ℕ → Cell} {old mid new : List ℕ} {r : Bool} → Melded T S cells old mid true → Melded T S others mid new r
    → Melded T S others old new r
melded-then m n = record {
  row = n.row;
  kept = λ q R a l d. n.kept q R a l d ∙ m.kept refl R a l d;
  clash = n.clash;
}

-- ---- an action at one terminal

unfoldable pub meld_at : ℕ → Action → (ℕ → Cell) → ℕ → Cell
meld_at c x cells a = elim (eqb c a) [ true ↦ meld (cells a) x | false ↦ cells a ]

module _ {T S : ℕ} {cells : ℕ → Cell} {old : List ℕ} (row : Row T S cells old) (few : T < 32) (room : 32 * S + 32 ≤ length old) {x : Action}
    (p : Possible x) {c : ℕ} (l : c ≤ T) {word : ℕ} (word_is : word ≡ cell_code (act x)) where
  place : ℕ
  place = 32 * S + c

  pub melded-at : {new : List ℕ} {r : Bool} → Given old (32 * S + c) word new r → Melded T S (meld_at c x cells) old new r
  unfolding meld_at place
  melded-at {new} {r} g = record { row = λ q. after (g.fits q) (g.stored q); kept = λ q. others (g.stored q); clash = λ q. clashing (g.other q) }
    where
      others : new ≡ set old place word → Kept S old new
      others e R a k n = rw e (get_or-set_other old place (32 * R + a) word 0 (λ q. n (omega arith)))

      fitting : (get_or old place 0 ≡ 0) ⊎ (get_or old place 0 ≡ word) → (cell_code (cells c) ≡ 0) ⊎ (cell_code (cells c) ≡ cell_code (act x))
      fitting (inl e) = inl (sym (row.cell_is c l) ∙ e)
      fitting (inr e) = inr (sym (row.cell_is c l) ∙ e ∙ word_is)

      melds : (get_or old place 0 ≡ 0) ⊎ (get_or old place 0 ≡ word) → meld (cells c) x ≡ act x
      melds f = meld-fits p (row.clear c l) (fitting f)

      after : (get_or old place 0 ≡ 0) ⊎ (get_or old place 0 ≡ word) → new ≡ set old place word → Row T S (meld_at c x cells) new
      after f e = record {
        cell_is = λ a k. by-test (eqb c a) (meld (cells a) x) (cells a) (λ cell. get_or new (32 * S + a) 0 ≡ cell_code cell)
            (λ q. let s : c ≡ a = eqb-true c a q in rw (← s, e, melds f, ← word_is) (get_or-set_same old place word 0 (omega arith)))
            (λ q. rw e (get_or-set_other old place (32 * S + a) word 0 (λ z. eqb-false c a q (omega arith)) ∙ row.cell_is a k));
        clear = λ a k. by-test (eqb c a) (meld (cells a) x) (cells a) Clear
            (λ q. let s : c ≡ a = eqb-true c a q in rw (← s, melds f) (acting p))
            (λ q. row.clear a k);
      }

      clashing : (get_or old place 0 ≡ 0 → ⊥) × (get_or old place 0 ≡ word → ⊥) → Clash T (meld_at c x cells)
      clashing (n, m) = record { at = c; low = l; clashes = both }
        where
          both : meld_at c x cells c ≡ conflict
          both =
              rw (eq-eqb c c refl, meld_at)
              (meld-clash p (row.clear c l) (λ z. n (row.cell_is c l ∙ z)) (λ z. m (row.cell_is c l ∙ z ∙ sym word_is)))

-- ---- a complete item

-- the terminals below k have their action
unfoldable pub completed_below : ℕ → (ℕ → Cell) → ℕ → ℕ → ℕ → Cell
completed_below k cells P M a = elim (ltb a k) [ true ↦ meld_item a P M [] (cells a) | false ↦ cells a ]

by_order : {C : Type 0} (a k : ℕ) → (a < k → C) → (a ≡ k → C) → (k < a → C) → C
by_order {C} a k less same more = go (ltb a k) refl (ltb k a) refl
  where
    go : (s : Bool) → ltb a k ≡ s → (t : Bool) → ltb k a ≡ t → C
    go true e t f = less (ltb-true a k e)
    go false e true f = more (ltb-true k a f)
    go false e false f = same (omega (arith, ltb-false a k e, ltb-false k a f))

module _ (cells : ℕ → Cell) (P M : ℕ) where
  below_in : (k a : ℕ) → a < k → completed_below k cells P M a ≡ meld_item a P M [] (cells a)
  unfolding completed_below
  below_in k a l = rw (lt-ltb a k l, completed_below)

  below_out : (k a : ℕ) → k ≤ a → completed_below k cells P M a ≡ cells a
  unfolding completed_below
  below_out k a l = rw (le-ltb a k l, completed_below)

  pub below_none : (a : ℕ) → cells a ≡ completed_below 0 cells P M a
  below_none a = sym (below_out 0 a (omega arith))

  pub below_all : (T k : ℕ) → T < k → (a : ℕ) → a ≤ T → completed_below k cells P M a ≡ meld_item a P M [] (cells a)
  below_all T k h a l = below_in k a (omega arith)

  -- terminal k next: it is no lookahead, or it is one
  pub below-skip : (k : ℕ) → bit M k ≡ false → (a : ℕ) → completed_below k cells P M a ≡ completed_below (k + 1) cells P M a
  unfolding meld_item
  below-skip k e a =
      by_order a k (λ l. below_in k a l ∙ sym (below_in (k + 1) a (omega arith)))
      (λ q. let out : bit M a ≡ false = ap (bit M) q ∙ e in below_out k a (omega arith) ∙ sym (below_in (k + 1) a (omega arith) ∙ rw (out, meld_item)))
      (λ l. below_out k a (omega arith) ∙ sym (below_out (k + 1) a (omega arith)))

  pub below_next : (k : ℕ) → bit M k ≡ true → (a : ℕ) → meld_at k (completed P) (completed_below k cells P M) a ≡ completed_below (k + 1) cells P M a
  unfolding meld_at meld_item
  below_next k e a =
      by_order a k (λ l. away (λ q. omega arith) ∙ below_in k a l ∙ sym (below_in (k + 1) a (omega arith)))
      (λ q. let in-set : bit M a ≡ true = ap (bit M) q ∙ e in here q ∙ sym (below_in (k + 1) a (omega arith) ∙ rw (in-set, meld_item)))
      (λ l. away (λ q. omega arith) ∙ below_out k a (omega arith) ∙ sym (below_out (k + 1) a (omega arith)))
    where
      away : (k ≡ a → ⊥) → meld_at k (completed P) (completed_below k cells P M) a ≡ completed_below k cells P M a
      away n = rw (ne_eqb k a n, meld_at)

      here : a ≡ k → meld_at k (completed P) (completed_below k cells P M) a ≡ meld (cells a) (completed P)
      here q =
          let at : meld_at k (completed P) (completed_below k cells P M) a ≡ meld (completed_below k cells P M a) (completed P) =
          rw (eq-eqb k a (sym q), meld_at) in
          at ∙ ap (λ cell. meld cell (completed P)) (below_out k a (omega arith))

  -- a conflict so far is one of all
  pub below-clash : (T k : ℕ) → ((a : ℕ) → a ≤ T → Clear (cells a)) → Clash T (completed_below k cells P M) → Clash T (λ a. meld_item a P M [] (cells a))
  below-clash T k clear c = record { at = c.at; low = c.low; clashes = found }
    where
      here : c.at < k → meld_item c.at P M [] (cells c.at) ≡ conflict
      here l = sym (below_in k c.at l) ∙ c.clashes

      past : k ≤ c.at → meld_item c.at P M [] (cells c.at) ≡ conflict
      past l = absurd (clear-conflict (rw (sym (below_out k c.at l) ∙ c.clashes) at (clear c.at c.low)))

      found : meld_item c.at P M [] (cells c.at) ≡ conflict
      found = by_order c.at k here (λ q. past (omega arith)) (λ l. past (omega arith))

-- a byte that is given an action, or is not
unfoldable pub acted_code : ℕ → Bool → ℕ → ℕ
acted_code old true word = word
acted_code old false word = old

module _ (k : ℕ) (cells : ℕ → Cell) (P M : ℕ) {T S : ℕ} {old : List ℕ} (row : Row T S (completed_below k cells P M) old) (few : T < 32)
    (room : 32 * S + 32 ≤ length old) (p : P < MAX_RULES) where
  complete-skip : bit M k ≡ false → Melded T S (completed_below (k + 1) cells P M) old old true
  complete-skip e = melded-same (λ a l. below-skip cells P M k e a) (melded-none row)

  complete-give : bit M k ≡ true → k ≤ T → {new : List ℕ} {r : Bool}
      → Given old (32 * S + k) (2 + P) new r → Melded T S (completed_below (k + 1) cells P M) old new r
  complete-give e l g =
      melded-same (λ a h. below_next cells P M k e a) (melded-at row few room (completing P p refl) l (sym (completed-code P)) g)

  given-any : (v : ℕ) → get_or old (32 * S + k) 0 ≡ v → Given old (32 * S + k) (2 + P) (set old (32 * S + k) (2 + P)) (eqb v 0 || eqb v (2 + P))
  given-any v e = go (eqb v 0) refl (eqb v (2 + P)) refl
    where
      go : (s : Bool) → eqb v 0 ≡ s → (t : Bool) → eqb v (2 + P) ≡ t
          → Given old (32 * S + k) (2 + P) (set old (32 * S + k) (2 + P)) (s || t)
      go true f t g = record { fits = λ q. inl (e ∙ eqb-true v 0 f); stored = λ q. refl; other = λ q. true-false refl q }
      go false f true g = record { fits = λ q. inr (e ∙ eqb-true v (2 + P) g); stored = λ q. refl; other = λ q. true-false refl q }
      go false f false g =
          record { fits = λ q. true-false q refl; stored = λ q. refl; other = λ q. (λ z. eqb-false v 0 f (sym e ∙ z), λ z. eqb-false v (2 + P) g (sym e ∙ z)) }

  -- by whether terminal k is a lookahead
  pub complete-turn : (given : Bool) → given ≡ bit M k → (bit M k ≡ true → k ≤ T)
      → Melded T S (completed_below (k + 1) cells P M) old (set old (32 * S + k) (acted_code (get_or old (32 * S + k) 0) given (2 + P)))
      ((not given || eqb (get_or old (32 * S + k) 0) 0) || eqb (get_or old (32 * S + k) 0) (2 + P))
  unfolding acted_code
  complete-turn true e l = complete-give (sym e) (l (sym e)) (given-any _ refl)
  complete-turn false e l = rw (set-get_or old (32 * S + k) 0) (complete-skip (sym e))

-- the members of a set up to T
pub record Among (M T r : ℕ) : Type 0 where
  pub members : (a : ℕ) → a < 32 → bit r a ≡ (bit M a && leb a T)

pub among-is : (M T : ℕ) → T < 32 → Among M T (bit_and M (full / 2 ^ (31 - T)))
among-is M T few = record { members = λ a h. bit-and M (full / 2 ^ (31 - T)) a ∙ ap (λ (t : Bool). bit M a && t) (up_to a h) }
  where
    shifted : (a : ℕ) → bit (full / 2 ^ (31 - T)) a ≡ bit full (31 - T + a)
    shifted a = unfold bit in ap (λ (x : ℕ). eqb (x % 2) 1) (shr-shr full (31 - T) a)

    up_to : (a : ℕ) → a < 32 → bit (full / 2 ^ (31 - T)) a ≡ leb a T
    up_to a h = shifted a ∙ go (leb a T) refl
      where
        go : (t : Bool) → leb a T ≡ t → bit full (31 - T + a) ≡ t
        go true e = bit-full (31 - T + a) (omega (arith, leb-true a T e))
        go false e =
            let far : 32 ≤ 31 - T + a = omega (arith, leb-false a T e) in
            let past : 2 ^ 32 ≤ 2 ^ (31 - T + a) = pow_mono far in
            bit_past full (31 - T + a) (omega arith)

module _ {M T r : ℕ} (A : Among M T r) where
  -- such a member is a terminal
  pub among-low : (a : ℕ) → a < 32 → bit r a ≡ true → a ≤ T
  among-low a h e = leb-true a T (both_true (bit M a) (leb a T) (sym (A.members a h) ∙ e)).1

  among_same : T < 32 → (P : ℕ) (cells : ℕ → Cell) (a : ℕ) → a ≤ T → meld_item a P r [] (cells a) ≡ meld_item a P M [] (cells a)
  unfolding meld_item
  among_same few P cells a l =
      let e : bit r a ≡ bit M a = A.members a (omega arith) ∙ ap (λ (t : Bool). bit M a && t) (le-leb a T l) ∙ and-true (bit M a) in
      ap (λ (t : Bool). elim t [ true ↦ meld (cells a) (completed P) | false ↦ cells a ]) e

-- the terminals below a are done, or an action met another
pub record Completing (T S P M : ℕ) (old now : List ℕ) (clear : Bool) (a : ℕ) : Type 0 where
  pub long : length now ≡ length old
  pub so_far : clear ≡ true → (cells : ℕ → Cell) → Row T S cells old → Melded T S (completed_below a cells P M) old now true
  pub clash : clear ≡ false → (cells : ℕ → Cell) → Row T S cells old → Clash T (λ a. meld_item a P M [] (cells a))

pub completing-none : (T S P M : ℕ) (old : List ℕ) → Completing T S P M old old true 0
completing-none T S P M old = record {
  long = refl;
  so_far = λ q cells row. melded-same (λ a l. below_none cells P M a) (melded-none row);
  clash = λ q. true-false refl q;
}

module _ {T S P M : ℕ} {old now : List ℕ} {clear : Bool} {a : ℕ} (k : Completing T S P M old now clear a) (few : T < 32) where
  pub completing-more : {new : List ℕ} {r : Bool} → (bit M a ≡ true → a ≤ T)
      → ((T : ℕ) (cells : ℕ → Cell) → T < 32 → (bit M a ≡ true → a ≤ T) → Row T S (completed_below a cells P M) now
      → Melded T S (completed_below (a + 1) cells P M) now new r)
      → length new ≡ length now → Completing T S P M old new (clear && r) (a + 1)
  completing-more {new} {r} low f e = record {
    long = e ∙ k.long;
    so_far = λ q cells row. let (first, now-too) = both_true clear r q in rw now-too at (next first cells row);
    clash = λ q. both clear refl r refl q;
  }
    where
      next : clear ≡ true → (cells : ℕ → Cell) → Row T S cells old → Melded T S (completed_below (a + 1) cells P M) old new r
      next q cells row = let m : Melded T S (completed_below a cells P M) old now true = k.so_far q cells row in melded-then m (f T cells few low (m.row refl))

      both : (s : Bool) → clear ≡ s → (t : Bool) → r ≡ t → (s && t) ≡ false → (cells : ℕ → Cell) → Row T S cells old
          → Clash T (λ a. meld_item a P M [] (cells a))
      both true u t v q cells row = below-clash cells P M T (a + 1) row.clear ((next u cells row).clash (v ∙ q))
      both false u t v q cells row = k.clash u cells row

  pub completing-all : T < a → {set : ℕ} → Among set T M → (cells : ℕ → Cell) → Row T S cells old
      → Melded T S (λ a. meld_item a P set [] (cells a)) old now clear
  completing-all l {set} A cells row = go clear refl
    where
      go : (s : Bool) → clear ≡ s → Melded T S (λ a. meld_item a P set [] (cells a)) old now s
      go true q = melded-same (λ a h. below_all cells P M T _ l a h ∙ among_same A few P cells a h) (k.so_far q cells row)
      go false q = melded-clash (clash-same (λ a h. among_same A few P cells a h) (k.clash q cells row))

-- ---- an item

-- the cells with an item's action melded in, by the symbols behind its dot
abbrev pub item_cells : ℕ → ℕ → List Symbol → (ℕ → Cell) → ℕ → Cell
item_cells P M rest cells a = meld_item a P M rest (cells a)
