-- What the loops that find the nullable nonterminals keep true: over a right side, over the rules, and over passes.
-- Assumes nothing.
use Prim.Native.Nat.{ℕ, suc, ◌+◌, ◌-◌, ◌^◌, ◌≤◌, ◌<◌}
use Rattle.std.specs.Prelude.{◌≡◌, Bool, true, false, drop}
use Rattle.std.proofs.Math.Path.{refl, sym, ap}
use Rattle.std.proofs.Common.{◌∙◌, arith}
use mathlib.Core.List.{List, [], ◌∷◌}
use Rattle.sets.specs.Sets.{with}
use Rattle.sets.proofs.SetsLaws.{union-lt}
use Rattle.grammar.specs.Data.Symbol.{right_of}
use Rattle.grammar.specs.Automaton.Fixpoint.{set_at, visit, visits, least}
use Rattle.grammar.specs.Automaton.FirstSets.{null_in, null_rule, nullable}
use Rattle.grammar.specs.Automaton.LeastLaws.{Fits}
use Rattle.items.specs.GrammarOf.{
  symbol_of,
  left_word,
  size_word,
  symbol_word,
  right_in,
  grammar_of,
  rest_more,
  rest-none,
  grammar-size,
  left_is,
  right_is,
  GrammarFits,
}
use Rattle.items.specs.Passes.{Told, Closing, left, closing-begins, closing-turn, closing-ends, closing-less, pass-told, told_same}
use Rattle.items.specs.Rests.{null_symbol, null-past, null-stops}
use Rattle.items.specs.Searches.{null-fits, null-rising}
use Rattle.items.specs.Turned.{turned, turned-fits, turned-least}
use Rattle.items.specs.Unions.{union-none}

-- ---- over a right side, from the first symbol: what is asked of the whole is asked of the rest

pub record Vanishing (words : List ℕ) (P nulls last d : ℕ) : Type 0 where
  pub within : d ≤ last
  pub last_is : last ≡ size_word words P
  pub rest_is : null_in nulls (drop d (right_in words P)) ≡ null_in nulls (right_in words P)

module _ {words : List ℕ} {P nulls last d : ℕ} (R : Vanishing words P nulls last d) where
  module _ (h : d < last) {word : ℕ} (w : word ≡ symbol_word words P d) {r : Bool} (e : r ≡ null_symbol nulls (symbol_of word)) where
    here : null_symbol nulls (symbol_of (symbol_word words P d)) ≡ r
    here = ap (λ (x : ℕ). null_symbol nulls (symbol_of x)) (sym w) ∙ sym e

    apart : drop d (right_in words P) ≡ symbol_of (symbol_word words P d) ∷ drop (d + 1) (right_in words P)
    apart = rest_more words P d (omega (arith, R.last_is))

    pub vanishing-turn : r ≡ true → Vanishing words P nulls last (d + 1)
    vanishing-turn q = record {
      within = omega arith;
      last_is = R.last_is;
      rest_is = sym (null-past nulls _ (drop (d + 1) (right_in words P)) (here ∙ q)) ∙ ap (null_in nulls) (sym apart) ∙ R.rest_is;
    }

    pub vanishing-stops : r ≡ false → false ≡ null_in nulls (right_in words P)
    vanishing-stops q = sym (null-stops nulls _ (drop (d + 1) (right_in words P)) (here ∙ q)) ∙ ap (null_in nulls) (sym apart) ∙ R.rest_is

  pub vanishing-ends : last ≤ d → true ≡ null_in nulls (right_in words P)
  unfolding null_in
  vanishing-ends h = ap (null_in nulls) (sym (rest-none words P d (omega (arith, R.last_is)))) ∙ R.rest_is

-- ---- over the rules

-- those from p on have been visited
pub record NullPassing (words : List ℕ) (count nulls found p : ℕ) : Type 0 where
  pub within : p ≤ count
  pub low : found < 2 ^ 32
  pub found_is : (found ∷ []) ≡ visits (turned (null_rule (grammar_of words count)) count) (count - p) (nulls ∷ [])

pub null-passing : (words : List ℕ) (count nulls : ℕ) → nulls < 2 ^ 32 → NullPassing words count nulls nulls count
unfolding visits
null-passing words count nulls l = record {
  within = omega arith;
  low = l;
  found_is = let none : count - count ≡ 0 = omega arith in rw none;
}

module _ {words : List ℕ} {count nulls found p : ℕ} (N : NullPassing words count nulls found p) where
  pub null-visited : p ≤ 0 → (found ∷ []) ≡ visits (turned (null_rule (grammar_of words count)) count) count (nulls ∷ [])
  null-visited h = let all : count - p ≡ count = omega arith in rw all at N.found_is

  module _ (h : 0 < p) {r : Bool} (e : r ≡ null_in found (right_in words (p - 1))) where
    inside : p - 1 < count
    inside = omega (arith, N.within)

    right-null : null_in found (right_of (grammar_of words count) (p - 1)) ≡ r
    right-null = ap (null_in found) (right_is words count (p - 1) inside) ∙ sym e

    -- what the visit of the rule before makes of the sets found so far
    next-found : {next : ℕ} → (next ∷ []) ≡ visit (null_rule (grammar_of words count) (p - 1)) (found ∷ [])
        → (next ∷ []) ≡ visits (turned (null_rule (grammar_of words count)) count) (count - (p - 1)) (nulls ∷ [])
    unfolding visits
    next-found q =
        let one : count - (p - 1) ≡ suc (count - p) = omega (arith, N.within) in
        let here : count - 1 - (count - p) ≡ p - 1 = omega (arith, N.within) in
        rw (one, here) (q ∙ ap (visit (null_rule (grammar_of words count) (p - 1))) N.found_is)

    pub null-found : {next : ℕ} → r ≡ true → next ≡ with found (left_word words (p - 1)) → NullPassing words count nulls next (p - 1)
    unfolding with
    null-found {next} q w = record {
      within = omega (arith, N.within);
      low = rw w (union-lt found _);
      found_is = next-found visited;
    }
      where
        visited : (next ∷ []) ≡ visit (null_rule (grammar_of words count) (p - 1)) (found ∷ [])
        visited = unfold visit null_rule with in rw (right-null ∙ q, null_rule, left_is words count (p - 1) inside, w)

    pub null-left : r ≡ false → NullPassing words count nulls found (p - 1)
    null-left q = record {
      within = omega (arith, N.within);
      low = N.low;
      found_is = next-found visited;
    }
      where
        visited : (found ∷ []) ≡ visit (null_rule (grammar_of words count) (p - 1)) (found ∷ [])
        visited = unfold visit null_rule in rw (right-null ∙ q, null_rule, union-none found N.low)

-- ---- over passes

pub record NullClosing (words : List ℕ) (count nulls next : ℕ) : Type 0 where
  pub closing : Closing (turned (null_rule (grammar_of words count)) count) count (0 ∷ []) (nulls ∷ [])
  pub next-is : (next ∷ []) ≡ visits (turned (null_rule (grammar_of words count)) count) count (nulls ∷ [])

abbrev pub null_left : ℕ → ℕ
null_left nulls = left (nulls ∷ [])

module _ {words : List ℕ} {count : ℕ} (F : GrammarFits words count) where
  fits : Fits (turned (null_rule (grammar_of words count)) count) count (0 ∷ [])
  fits = turned-fits (null-fits F 0 (omega arith))

  pub null-begins : {next : ℕ} → (next ∷ []) ≡ visits (turned (null_rule (grammar_of words count)) count) count (0 ∷ []) → NullClosing words count 0 next
  null-begins e = record { closing = closing-begins fits; next-is = e }

  module _ {nulls next : ℕ} (N : NullClosing words count nulls next) where
    more : (next ≡ nulls → ⊥) → Told (visits (turned (null_rule (grammar_of words count)) count) count (nulls ∷ [])) (nulls ∷ []) (next ∷ []) true
    more h = pass-told fits N.closing N.next-is (λ e. h cc)

    pub null-turn : {after : ℕ} → (next ≡ nulls → ⊥) → (after ∷ []) ≡ visits (turned (null_rule (grammar_of words count)) count) count (next ∷ [])
        → NullClosing words count next after
    null-turn h e = record { closing = closing-turn fits N.closing (more h); next-is = e }

    pub null-less : (next ≡ nulls → ⊥) → null_left next < null_left nulls
    null-less h = closing-less fits N.closing (more h) refl

    pub null-ends : next ≡ nulls → nulls ≡ nullable (grammar_of words count)
    unfolding nullable
    null-ends q =
        let still : visits (turned (null_rule (grammar_of words count)) count) count (nulls ∷ []) ≡ nulls ∷ [] = sym N.next-is ∙ ap (λ (s : ℕ). s ∷ []) q in
        ap (λ (l : List ℕ). set_at l 0)
        (closing-ends fits N.closing (told_same still) refl ∙ turned-least (null-fits F 0 (omega arith)) (null-rising (grammar_of words count) count))
        ∙ ap (λ (n : ℕ). set_at (least (null_rule (grammar_of words count)) n (0 ∷ [])) 0) (sym (grammar-size words count))
