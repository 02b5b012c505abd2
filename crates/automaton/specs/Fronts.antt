-- The rules with items in each state's closure, as the bits of a number for each state, and a walk over those of one: the others are left out.
-- Assumes nothing.
use Rattle.std.specs.Prelude.{ℕ, zero, suc, ◌+◌, ◌*◌, ◌<◌, ◌≤◌, ◌≡◌, refl, true, false, List, length, get_or, set}
use Rattle.std.proofs.Common.{arith, eq-or-lt_of_le, le_of_suc-le-suc, sym, ◌∙◌, ⊎_elim, length-set, get_or-set_same, get_or-set_other}
use Rattle.std.proofs.Math.Decide.{ℕ_discrete}
use Rattle.std.proofs.Math.Path.{ap}
use Rattle.text.proofs.Positional.{by_less}
use Rattle.sets.specs.Sets.{bit}
use Rattle.grammar.specs.Data.Symbol.{Rule, left_of}
use Rattle.grammar.specs.Data.Book.{Book}
use Rattle.grammar.specs.Automaton.Fixpoint.{set_at}
use Rattle.grammar.specs.Automaton.FirstSets.{Sets}
use Rattle.grammar.specs.Automaton.ClosureSets.{closure_sets}
use Rattle.grammar.specs.Automaton.CoreItems.{entered, of_rules}
use Rattle.grammar.specs.Automaton.TestLaws.{true-false}
use Rattle.items.specs.Arrays.{ClosuresIn}
use Rattle.items.specs.GrammarIn.{GrammarIn, rule_low, set_word}
use Rattle.automaton.specs.Lefts.{Lefts, Gathered, Least, none-bit}
use Rattle.automaton.specs.Members.{Cleared}

-- ---- the rules of every state

-- by each state below n rules of the book, among them all that have items in its closure
pub record Fronts (rules : List ℕ) (count : ℕ) (closures : List ℕ) (n : ℕ) (fronts : List ℕ) : Type 0 where
  pub long : n ≤ length fronts
  pub low : (S P : ℕ) → S < n → bit (get_or fronts S 0) P ≡ true → P < count
  pub idle : (S P : ℕ) → S < n → P < count → bit (get_or fronts S 0) P ≡ false → get_or closures (32 * S + get_or rules (10 * P) 0) 0 ≡ 0

-- by all states
abbrev pub FrontsIn : Book → List ℕ → List ℕ → List ℕ → Type 0
FrontsIn b rules closures fronts = Fronts rules (length b.rules) closures b.states fronts

-- what filling asks, of a book's rules and closures
pub fronts-asked : {b : Book} {F : Sets} {rules closures : List ℕ} → GrammarIn b rules → ClosuresIn b F closures → {count states : ℕ}
    → count ≡ length b.rules → states ≡ b.states → (fronts : List ℕ) → states ≤ length fronts
    → (10 * count ≤ length rules) × (count ≤ 64) × ((P : ℕ) → P < count → get_or rules (10 * P) 0 < 32) × (32 * states ≤ length closures)
    × (states ≤ length fronts)
fronts-asked g k c s fronts e = (
  omega (arith, g.rules_in.long),
  omega (arith, g.rules_in.fits),
  λ P l. (rule_low g P (omega arith)).left_low,
  omega (arith, k.long),
  e,
)

pub fronts-none : (rules : List ℕ) (count : ℕ) (closures fronts : List ℕ) → Fronts rules count closures 0 fronts
fronts-none rules count closures fronts = record {
  long = omega arith;
  low = λ S P l. absurd (omega arith);
  idle = λ S P l. absurd (omega arith);
}

-- one more
pub fronts-more : {rules : List ℕ} {count : ℕ} {closures : List ℕ} {n : ℕ} {fronts : List ℕ} → Fronts rules count closures n fronts → n < length fronts
    → {lefts : List ℕ} → Lefts rules count lefts → {mask : ℕ} → Gathered closures (32 * n) lefts 32 mask
    → Fronts rules count closures (n + 1) (set fronts n mask)
fronts-more {rules} {count} {closures} {n} {fronts} f room L {mask} G = record {
  long = simp length-set (omega arith);
  low = λ S P l. by (λ S w. bit w P ≡ true → P < count) S l (λ m. f.low S P m) (G.low count L.low P);
  idle = λ S P l. by (λ S w. P < count → bit w P ≡ false → get_or closures (32 * S + get_or rules (10 * P) 0) 0 ≡ 0) S l (λ m. f.idle S P m) (own P);
}
  where
    by : (Q : ℕ → ℕ → Type 0) (S : ℕ) → S < n + 1 → (S < n → Q S (get_or fronts S 0)) → Q n mask → Q S (get_or (set fronts n mask) S 0)
    by Q S l other same = go (ℕ_discrete S n)
      where
        go : Dec (S ≡ n) → Q S (get_or (set fronts n mask) S 0)
        go (yes e) = rw (e, get_or-set_same fronts n mask 0 room) same
        go (no m) = rw (get_or-set_other fronts n S mask 0 m) (other (omega arith))

    own : (P : ℕ) → P < count → bit mask P ≡ false → get_or closures (32 * n + get_or rules (10 * P) 0) 0 ≡ 0
    own P l e = go (ℕ_discrete (get_or closures (32 * n + get_or rules (10 * P) 0) 0) 0)
      where
        go : Dec (get_or closures (32 * n + get_or rules (10 * P) 0) 0 ≡ 0) → get_or closures (32 * n + get_or rules (10 * P) 0) 0 ≡ 0
        go (yes z) = z
        go (no m) = true-false (G.held (get_or rules (10 * P) 0) P (L.left_low P l) m (L.held P l)) e

-- ---- the walk

-- the rules below one are done; of the others, those with items in the closure of state S are among the bits of `rest`
pub record Rest (rules closures : List ℕ) (S count rest done : ℕ) : Type 0 where
  pub within : done ≤ count
  pub low : (P : ℕ) → bit rest P ≡ true → (done ≤ P) × (P < count)
  pub idle : (P : ℕ) → done ≤ P → P < count → bit rest P ≡ false → get_or closures (32 * S + get_or rules (10 * P) 0) 0 ≡ 0

pub rest-first : {rules : List ℕ} {count : ℕ} {closures : List ℕ} {states : ℕ} {fronts : List ℕ} → Fronts rules count closures states fronts → {S : ℕ}
    → S < states → Rest rules closures S count (get_or fronts S 0) 0
rest-first f {S} s = record {
  within = omega arith;
  low = λ P e. (omega arith, f.low S P s e);
  idle = λ P h l e. f.idle S P s l e;
}

module _ {rules closures : List ℕ} {S count rest done : ℕ} (R : Rest rules closures S count rest done) where
  -- no rule is left
  pub rest-none : rest ≡ 0 → (P : ℕ) → done ≤ P → P < count → get_or closures (32 * S + get_or rules (10 * P) 0) 0 ≡ 0
  rest-none z P f l = R.idle P f l (rw z (none-bit P))

  -- the next one
  module _ {rule : ℕ} (L : Least rest rule) where
    pub rest-there : (done ≤ rule) × (rule < count)
    rest-there = R.low rule L.own

    pub rest-idle : (P : ℕ) → done ≤ P → P < rule → get_or closures (32 * S + get_or rules (10 * P) 0) 0 ≡ 0
    rest-idle P f l = R.idle P f (omega (arith, rest-there)) (L.none P l)

    pub rest_more : {next : ℕ} → Cleared rest rule next → Rest rules closures S count next (rule + 1)
    rest_more {next} c = record {
      within = omega (arith, rest-there);
      low = λ P e. by_less rule P (λ l. (omega arith, (R.low P (sym (c.kept P l) ∙ e)).1)) (λ l. true-false e (c.gone P l));
      idle = λ P f l e. R.idle P (omega (arith, rest-there)) l (sym (c.kept P (omega arith)) ∙ e);
    }

-- ---- rules without items are left out

rules-on : (G : List Rule) (looks : List ℕ) (p q : ℕ) → p ≤ q → ((P : ℕ) → p ≤ P → P < q → set_at looks (left_of G P) ≡ 0)
    → of_rules G looks q ≡ of_rules G looks p
rules-on G looks p zero h none = let e : p ≡ 0 = omega arith in rw e
rules-on G looks p (suc q) h none =
    ⊎_elim (λ e. ap (of_rules G looks) (sym e))
    (λ l. idle (none q (le_of_suc-le-suc l) (omega arith)) ∙ rules-on G looks p q (le_of_suc-le-suc l) (λ P f m. none P f (omega arith)))
    (eq-or-lt_of_le h)
  where
    idle : set_at looks (left_of G q) ≡ 0 → of_rules G looks (suc q) ≡ of_rules G looks q
    idle e = unfold of_rules entered in ap (λ (M : ℕ). entered q M (of_rules G looks q)) e

pub idle-rules : {b : Book} {F : Sets} {rules closures : List ℕ} → GrammarIn b rules → ClosuresIn b F closures → {S : ℕ} → S < b.states → (p q : ℕ) → p ≤ q
    → q ≤ length b.rules → ((P : ℕ) → p ≤ P → P < q → get_or closures (32 * S + get_or rules (10 * P) 0) 0 ≡ 0)
    → of_rules b.rules (closure_sets b F S) q ≡ of_rules b.rules (closure_sets b F S) p
idle-rules {b} {F} g k {S} s p q h l none =
    rules-on b.rules (closure_sets b F S) p q h (λ P f m. sym (set_word g k s (omega arith) refl) ∙ none P f m)
