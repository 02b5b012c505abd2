-- Null, FIRST and what is reached of a string, by its first symbol and the rest behind it: what one turn of a loop over a right side does.
-- Assumes nothing.
use Rattle.std.specs.Prelude.{ℕ, ◌+◌, ◌-◌, ◌≤◌, ◌<◌, ◌≡◌, Bool, not, ◌&&◌, List, [], ◌∷◌, eqb, length, get_or, drop}
use Rattle.std.proofs.Math.Path.{refl, sym}
use Rattle.std.proofs.Common.{ap, ◌∙◌}
use Rattle.std.proofs.Math.Bool.{true, false}
use Rattle.std.specs.Int.{from_bool}
use Rattle.sets.specs.Sets.{bit, single, union}
use Rattle.grammar.specs.Automaton.TestLaws.{true-false}
use Rattle.grammar.specs.Data.Symbol.{Symbol, terminal, nonterminal}
use Rattle.grammar.specs.Automaton.Fixpoint.{set_at}
use Rattle.grammar.specs.Automaton.FirstSets.{null_in, first_in, Sets, sets, null, first}
use Rattle.grammar.specs.Automaton.ReachSets.{dead, reach_in}
use Rattle.items.specs.Arrays.{flag}
use Rattle.items.specs.GrammarOf.{symbol_of, terminal-of, nonterminal-of}

-- ---- one symbol

-- it is a nonterminal of the set
unfoldable pub null_symbol : ℕ → Symbol → Bool
null_symbol nulls (terminal a) = false
null_symbol nulls (nonterminal B) = bit nulls B

-- what can begin it
unfoldable pub begins_with : List ℕ → Symbol → ℕ
begins_with firsts (terminal a) = single a
begins_with firsts (nonterminal B) = set_at firsts B

-- ---- in front of a rest: one that is nullable, one that does not

pub null-past : (nulls : ℕ) (X : Symbol) (β : List Symbol) → null_symbol nulls X ≡ true → null_in nulls (X ∷ β) ≡ null_in nulls β
unfolding null_symbol null_in
null-past nulls (terminal a) β e = true-false e refl
null-past nulls (nonterminal B) β e = rw (e, null_in)

pub null-stops : (nulls : ℕ) (X : Symbol) (β : List Symbol) → null_symbol nulls X ≡ false → null_in nulls (X ∷ β) ≡ false
unfolding null_symbol null_in
null-stops nulls (terminal a) β e = refl
null-stops nulls (nonterminal B) β e = rw (e, null_in)

pub first_past : (nulls : ℕ) (firsts : List ℕ) (X : Symbol) (β : List Symbol) → null_symbol nulls X ≡ true
    → first_in nulls firsts (X ∷ β) ≡ union (begins_with firsts X) (first_in nulls firsts β)
unfolding null_symbol begins_with first_in
first_past nulls firsts (terminal a) β e = true-false e refl
first_past nulls firsts (nonterminal B) β e = rw (e, first_in)

pub first_stops : (nulls : ℕ) (firsts : List ℕ) (X : Symbol) (β : List Symbol) → null_symbol nulls X ≡ false
    → first_in nulls firsts (X ∷ β) ≡ begins_with firsts X
unfolding null_symbol begins_with first_in
first_stops nulls firsts (terminal a) β e = refl
first_stops nulls firsts (nonterminal B) β e = rw (e, first_in)

-- ---- what is reached

unfoldable pub nulls_of : Sets → ℕ
nulls_of (sets nulls firsts) = nulls

-- of the rest β, whether it is nullable and what can begin it
pub record RestIs (F : Sets) (β : List Symbol) (nullable : Bool) (begins : ℕ) : Type 0 where
  pub null_is : nullable ≡ null F β
  pub first_is : begins ≡ first F β

-- of a symbol with a rest behind it, by the tests that were made
module _ {nulls : ℕ} {firsts : List ℕ} {β : List Symbol} {X : Symbol} {nullable : Bool} {begins own : ℕ} {r : Bool} (R : RestIs (sets nulls firsts) β nullable begins)
    (o : own ≡ begins_with firsts X) (t : r ≡ null_symbol nulls X) where
  pub rest-past : r ≡ true → {u : ℕ} → u ≡ union own begins → RestIs (sets nulls firsts) (X ∷ β) nullable u
  unfolding null first
  rest-past q e = record {
    null_is = R.null_is ∙ sym (null-past nulls X β (sym t ∙ q));
    first_is = e ∙ rw (o, R.first_is) (sym (first_past nulls firsts X β (sym t ∙ q)));
  }

  pub rest-stops : r ≡ false → RestIs (sets nulls firsts) (X ∷ β) false own
  unfolding null first
  rest-stops q = record {
    null_is = sym (null-stops nulls X β (sym t ∙ q));
    first_is = o ∙ sym (first_stops nulls firsts X β (sym t ∙ q));
  }

-- what is nullable, as a word, and back
pub from-flag : (t : Bool) → from_bool t ≡ flag t
unfolding flag
from-flag true = refl
from-flag false = refl

abbrev pub raised : ℕ → Bool
raised word = not (eqb word 0)

pub raised-flag : (t : Bool) → raised (flag t) ≡ t
unfolding flag
raised-flag true = refl
raised-flag false = refl

pub flag-same : (s t : Bool) → flag s ≡ flag t → s ≡ t
flag-same s t e = sym (raised-flag s) ∙ ap raised e ∙ raised-flag t

-- of every rest of β, by the words from a place on
pub record RestsIn (F : Sets) (β : List Symbol) (place : ℕ) (nullables begins : List ℕ) : Type 0 where
  pub rest_is : (D : ℕ) → D ≤ length β → RestIs F (drop D β) (raised (get_or nullables (place + D) 0)) (get_or begins (place + D) 0)

-- the test for a dead end
pub dead-is : (F : Sets) (β : List Symbol) {nullable : Bool} {begins : ℕ} → RestIs F β nullable begins
    → (not nullable && eqb begins 0) ≡ dead F β
unfolding dead
dead-is F β {nullable} {begins} R = rw (R.null_is, R.first_is) (go (null F β) refl)
  where
    go : (t : Bool) → null F β ≡ t → (not (null F β) && eqb (first F β) 0) ≡ dead F β
    go true e = rw (e, dead)
    go false e = rw (e, dead)

pub null-one : (F : Sets) (B : ℕ) → null F (nonterminal B ∷ []) ≡ bit (nulls_of F) B
unfolding null null_in nulls_of
null-one (sets nulls firsts) B = go (bit nulls B) refl
  where
    go : (t : Bool) → bit nulls B ≡ t → null (sets nulls firsts) (nonterminal B ∷ []) ≡ bit nulls B
    go true e = rw (e, null_in)
    go false e = rw (e, null_in)

-- by the symbol's word and the tests that were made
module _ (F : Sets) (reached : List ℕ) (β : List Symbol) {word : ℕ} where
  pub reach-terminal : word < 32 → {r : ℕ} → r ≡ single word → r ≡ reach_in F reached (symbol_of word ∷ β)
  unfolding reach_in
  reach-terminal h e = rw (terminal-of word h) e

  module _ (h : 32 ≤ word) where
    pub reach-dead : {r : Bool} → r ≡ dead F β → r ≡ true → 0 ≡ reach_in F reached (symbol_of word ∷ β)
    unfolding reach_in
    reach-dead e q = rw (nonterminal-of word h, sym e ∙ q, reach_in)

    module _ {dies : Bool} (e : dies ≡ dead F β) (q : dies ≡ false) {nulls : ℕ} (n : nulls ≡ nulls_of F) {r : Bool} (t : r ≡ bit nulls (word - 32)) where
      vanishing : null F (nonterminal (word - 32) ∷ []) ≡ r
      vanishing = null-one F (word - 32) ∙ ap (λ (s : ℕ). bit s (word - 32)) (sym n) ∙ sym t

      pub reach-past : {begins : ℕ} → begins ≡ first F β → r ≡ true → {s : ℕ} → s ≡ union (set_at reached (word - 32)) begins
          → s ≡ reach_in F reached (symbol_of word ∷ β)
      unfolding reach_in
      reach-past b v u = rw (nonterminal-of word h, sym e ∙ q, vanishing ∙ v, reach_in, ← b) u

      pub reach-stops : r ≡ false → set_at reached (word - 32) ≡ reach_in F reached (symbol_of word ∷ β)
      unfolding reach_in
      reach-stops v = rw (nonterminal-of word h, sym e ∙ q, vanishing ∙ v, reach_in)

-- opens every definition of this module
unfoldable pub opens : Unit {0}
unfolding null_symbol begins_with nulls_of
opens = tt
