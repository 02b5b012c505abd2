-- From each rule to the first one from it on that derives anything: the rules between give nothing, so a pass leaves them out. Assumes nothing.
use Rattle.std.specs.Prelude.{ℕ, zero, suc, ◌+◌, ◌*◌, ◌<◌, ◌≤◌, ◌≡◌, Bool, not, ◌&&◌, List, length, set}
use native.Mathlib.Omega.{arith}
use Rattle.std.proofs.Common.{add-one, ◌∙◌, length-set, get_or-set_same, get_or-set_other}
use Rattle.std.proofs.Math.Decide.{ℕ_discrete}
use Rattle.std.proofs.Math.Path.{refl}
use Rattle.std.proofs.Math.Bool.{true, false}
use Rattle.std.proofs.Math.Dec.{eqb, leb}
use Rattle.std.proofs.Math.ListN.{get_or}
use borrow.Author.Tests.{eqb-true, eqb-false, leb-false}
use Rattle.grammar.specs.Data.Book.{Book}
use Rattle.grammar.specs.Automaton.Fixpoint.{set_at, visit}
use Rattle.grammar.specs.Automaton.LeastLaws.{Family}
use Rattle.grammar.specs.Automaton.FirstSets.{Sets}
use Rattle.grammar.specs.Automaton.ClosureSets.{closure_rule}
use Rattle.items.specs.Derives.{GrammarIn, told-end, told-terminal}
use Rattle.items.specs.Passes.{Told, Passing, turn-same}
use Rattle.items.specs.ClosurePasses.{closure-fits, rule_told}

-- whether the right side of a rule begins with a nonterminal, by its words
unfoldable pub derives_code : List ℕ → ℕ → Bool
derives_code rules P = not (eqb (get_or rules (10 * P + 1) 0) 0) && leb 32 (get_or rules (10 * P + 2) 0)

-- from the rules from one on
pub record Leading (rules : List ℕ) (count : ℕ) (leads : List ℕ) (from : ℕ) : Type 0 where
  pub long : length leads ≡ 65
  pub on : (p : ℕ) → from ≤ p → p ≤ count → p ≤ get_or leads p 0
  pub within : (p : ℕ) → from ≤ p → p ≤ count → get_or leads p 0 ≤ count
  pub idle : (p : ℕ) → from ≤ p → p ≤ count → (P : ℕ) → p ≤ P → P < get_or leads p 0 → derives_code rules P ≡ false

-- from all of them
abbrev pub Leads : List ℕ → ℕ → List ℕ → Type 0
Leads rules count leads = Leading rules count leads 0

-- ---- filling, from the last rule to the first

pub leading-none : {rules : List ℕ} (leads : List ℕ) (count : ℕ) → length leads ≡ 65 → count ≤ 64 → Leading rules count (set leads count count) count
leading-none leads count l h =
    let here : get_or (set leads count count) count 0 ≡ count = get_or-set_same leads count count 0 (omega arith) in
    record {
      long = length-set leads count count ∙ l;
      on = λ p f t. let e : p ≡ count = omega arith in rw (e, here) (omega arith);
      within = λ p f t. let e : p ≡ count = omega arith in rw (e, here) (omega arith);
      idle = λ p f t P g m. let e : p ≡ count = omega arith in absurd (let z : P < count = rw (e, here) at m in omega arith);
    }

-- one rule more
module _ {rules : List ℕ} {count : ℕ} {leads : List ℕ} {rule : ℕ} (few : count ≤ 64) (below : rule < count) (L : Leading rules count leads (rule + 1)) where
  more : (lead : ℕ) → rule ≤ lead → lead ≤ count → ((P : ℕ) → rule ≤ P → P < lead → derives_code rules P ≡ false)
      → Leading rules count (set leads rule lead) rule
  more lead h k none =
      let here : get_or (set leads rule lead) rule 0 ≡ lead = get_or-set_same leads rule lead 0 (omega (arith, L.long)) in
      record {
        long = length-set leads rule lead ∙ L.long;
        on = λ p f t. by (λ n. p ≤ n) p f (λ e. rw (e, here) h) (λ g. L.on p g t);
        within = λ p f t. by (λ n. n ≤ count) p f (λ e. rw (e, here) k) (λ g. L.within p g t);
        idle = λ p f t. by (λ n. (P : ℕ) → p ≤ P → P < n → derives_code rules P ≡ false) p f (λ e. rw (e, here) none) (λ g. L.idle p g t);
      }
    where
      by : (Q : ℕ → Type 0) (p : ℕ) → rule ≤ p → (p ≡ rule → Q (get_or (set leads rule lead) p 0)) → (rule + 1 ≤ p → Q (get_or leads p 0))
          → Q (get_or (set leads rule lead) p 0)
      by Q p f here there = go (ℕ_discrete p rule)
        where
          go : Dec (p ≡ rule) → Q (get_or (set leads rule lead) p 0)
          go (yes e) = here e
          go (no n) = rw (get_or-set_other leads rule p lead 0 n) (there (omega arith))

  pub leading-here : Leading rules count (set leads rule rule) rule
  leading-here = more rule (omega arith) (omega arith) (λ P f m. absurd (omega arith))

  pub leading-on : {lead : ℕ} → lead ≡ get_or leads (rule + 1) 0 → derives_code rules rule ≡ false → Leading rules count (set leads rule lead) rule
  leading-on {lead} e none =
      more lead (omega (arith, L.on (rule + 1) (omega arith) (omega arith))) (omega (arith, L.within (rule + 1) (omega arith) (omega arith)))
      (λ P f m. go P f m (ℕ_discrete P rule))
    where
      go : (P : ℕ) → rule ≤ P → P < lead → Dec (P ≡ rule) → derives_code rules P ≡ false
      go P f m (yes q) = rw q none
      go P f m (no n) = L.idle (rule + 1) (omega arith) (omega arith) P (omega arith) (omega arith)

-- ---- a pass

module _ {b : Book} {F : Sets} {rules nullables begins : List ℕ} (H : GrammarIn b F rules nullables begins) where
  -- a rule that derives nothing changes nothing
  idle-told : {sets : List ℕ} → Family 32 sets → (P : ℕ) → P < length b.rules → derives_code rules P ≡ false
      → Told (visit (closure_rule b F P) sets) sets sets false
  unfolding derives_code
  idle-told {sets} S P p e = by (eqb (get_or rules (10 * P + 1) 0) 0) refl
    where
      by : (t : Bool) → eqb (get_or rules (10 * P + 1) 0) 0 ≡ t → Told (visit (closure_rule b F P) sets) sets sets false
      by true q =
          rule_told H P p (get_or rules (10 * P) 0) refl (told-end H S P 0 (set_at sets (get_or rules (10 * P) 0)) p (omega (arith, eqb-true (get_or rules (10 * P + 1) 0) 0 q)))
      by false q =
          let z : 10 * P + 2 + 0 ≡ 10 * P + 2 = omega arith in
          let low : leb 32 (get_or rules (10 * P + 2) 0) ≡ false = rw q at e in
          let some : 0 < get_or rules (10 * P + 1) 0 = omega (arith, eqb-false (get_or rules (10 * P + 1) 0) 0 q) in
          rule_told H P p (get_or rules (10 * P) 0) refl (told-terminal H S P 0 (set_at sets (get_or rules (10 * P) 0)) p some (rw z (leb-false 32 (get_or rules (10 * P + 2) 0) low)))

  -- such rules are left out
  pub pass_on : {count : ℕ} {first now : List ℕ} {changed : Bool} (p : ℕ) → length b.rules ≡ count → Family 32 first
      → Passing (closure_rule b F) count first now changed p → (q : ℕ) → p ≤ q → q ≤ count
      → ((P : ℕ) → p ≤ P → P < q → derives_code rules P ≡ false) → Passing (closure_rule b F) count first now changed q
  pass_on p e S before zero h k none = let z : p ≡ 0 = omega arith in rw z at before
  pass_on {count} {first} {now} {changed} p e S before (suc q) h k none =
      by (ℕ_discrete p (suc q)) (λ l. pass_on p e S before q l (omega arith) (λ P f m. none P f (omega arith)))
    where
      by : Dec (p ≡ suc q) → (p ≤ q → Passing (closure_rule b F) count first now changed q) → Passing (closure_rule b F) count first now changed (suc q)
      by (yes z) earlier = rw z at before
      by (no n) earlier =
          let there : q < length b.rules = omega arith in
          let P = earlier (omega arith) in
          let family : Family 32 now = rw S.long at P.family in
          rw (add-one q) at (turn-same (closure-fits H e S) P (omega arith) (idle-told family q there (none q (omega arith) (omega arith))) refl)

  -- up to the rule that leads on
  pub lead-on : {count : ℕ} {leads first now : List ℕ} {changed : Bool} {p : ℕ} → Leads rules count leads → length b.rules ≡ count → Family 32 first
      → Passing (closure_rule b F) count first now changed p → Passing (closure_rule b F) count first now changed (get_or leads p 0)
  lead-on {p = p} L e S before =
      let h : p ≤ _ = before.within in
      pass_on p e S before _ (L.on p (omega arith) h) (L.within p (omega arith) h) (L.idle p (omega arith) h)
