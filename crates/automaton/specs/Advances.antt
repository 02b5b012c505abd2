-- The first half of the go rules (8) over arrays: every item of every state advances.
-- Assumes nothing.
use Prim.Native.Nat.{ℕ, zero, suc, ◌+◌, ◌*◌, ◌-◌, ◌<◌, ◌≤◌, zero-le}
use native.Mathlib.Omega.{arith}
use Rattle.std.proofs.Common.{add-one, eq-or-lt_of_le, le_of_suc-le-suc, ◌∙◌, ⊎_elim}
use Rattle.std.specs.Prelude.{◌≡◌, Bool, length, get_or}
use Rattle.std.proofs.Math.Path.{refl, sym, ap}
use Rattle.std.proofs.Math.Bool.{true, false}
use Rattle.std.specs.Prelude.{Option as Target, None, Some}
use Rattle.std.proofs.Math.Option.{Option, none, some}
use mathlib.Core.List.{List, [], ◌∷◌, ◌++◌}
use Rattle.std.proofs.Math.Seq.{slice, slice_empty}
use Rattle.grammar.specs.Limits.{MAX_STATES}
use Rattle.grammar.specs.Data.Symbol.{Symbol, left_of, after}
use Rattle.grammar.specs.Data.Book.{Book, Kernel}
use Rattle.grammar.specs.Conditions.Meaning.{Declared, DeclaredKernel}
use Rattle.grammar.specs.Automaton.States.{go_in}
use Rattle.grammar.specs.Automaton.GoLines.{LineTo, go-line}
use Rattle.grammar.specs.Automaton.Fixpoint.{set_at}
use Rattle.grammar.specs.Automaton.FirstSets.{Sets}
use Rattle.grammar.specs.Automaton.ClosureSets.{set_of, kernels_in, closure_sets}
use Rattle.grammar.specs.Automaton.CoreItems.{Core, core, of_kernels, entered, of_rules, core_items}
use Rattle.grammar.specs.Automaton.StatesCheck.{holds_item, advances_to, advances, all_advance, states_advance}
use Rattle.book.specs.Held.{KernelsIn, kernel_at}
use Rattle.items.specs.Arrays.{target_code}
use Rattle.items.specs.GrammarIn.{Next, after_none, after-some, right-go, set_word}
use Rattle.automaton.specs.StatesIn.{StatesIn, MovesIn, ItemsIn, AutomatonIn, Stands, Range, state-range, kernel_there, lines_next}
use Rattle.automaton.specs.Lefts.{Least}
use Rattle.automaton.specs.Members.{Cleared}
use Rattle.automaton.specs.Fronts.{FrontsIn, Rest, rest-first, rest-none, rest-there, rest-idle, rest_more, idle-rules}

-- ---- one item

-- the targets of go lines are states
pub target_there : {b : Book} → Declared b → (S : ℕ) (X : Symbol) {M : ℕ} → go_in b.goes S X ≡ some M → M < b.states
target_there {b} d S X {M} e =
    let l : LineTo b.goes S X M = go-line e in
    rw l.to_state at (d.goes_declared l.line l.there).target_there

-- the target that a word of the go table tells, or that there is none
abbrev pub TargetOf : Target ℕ → ℕ → Type 0
TargetOf None word = word ≡ 255
TargetOf (Some T) word = (word ≡ T) × (T ≡ 255 → ⊥)

-- the go line of (P, D) leads to state T
pub record Leads (b : Book) (S P D M T : ℕ) : Type 0 where
  pub target_is : T < b.states
  pub stands : advances b S P D M (after b.rules P D) ≡ holds_item P (suc D) M (kernels_in b.kernels T)

module _ {b : Book} {rules kernels bounds table : List ℕ} (h : MovesIn b rules kernels bounds table) {S P D : ℕ} (s : Stands b S P D) where
  pub advances-complete : (M : ℕ) → get_or rules (10 * P + 1) 0 ≤ D → true ≡ advances b S P D M (after b.rules P D)
  unfolding advances
  advances-complete M l = sym (rw (after_none h.states_in.grammar_in P D s.rule_there l))

  -- the word of the target
  word : ℕ
  word = get_or table (64 * S + get_or rules (10 * P + 2 + D) 0) 0

  -- the symbol behind the dot, and where its go line leads
  record Lead : Type 0 where
    symbol : Symbol
    rest : List Symbol
    behind : after b.rules P D ≡ symbol ∷ rest
    leads : word ≡ target_code (go_in b.goes S symbol)

  lead : D < get_or rules (10 * P + 1) 0 → Lead
  unfolding word
  lead l =
      let n : Next b rules P D = after-some h.states_in.grammar_in P D s.rule_there l in
      record {
        symbol = n.symbol;
        rest = n.rest;
        behind = n.behind;
        leads = rw n.word_is (h.table_in.go_is S n.symbol s.state_there (right-go b n.symbol n.declared_symbol));
      }

  pub advances-nowhere : (M : ℕ) → D < get_or rules (10 * P + 1) 0 → get_or table (64 * S + get_or rules (10 * P + 2 + D) 0) 0 ≡ 255
      → false ≡ advances b S P D M (after b.rules P D)
  unfolding advances advances_to target_code word
  advances-nowhere M l e = sym (rw n.behind (go (go_in b.goes S n.symbol) refl))
    where
      n : Lead
      n = lead l

      go : (o : Option ℕ) → go_in b.goes S n.symbol ≡ o → advances_to b P D M o ≡ false
      go none q = refl
      go (some T) q =
          let there : T < b.states = target_there h.states_in.grammar_in.declared S n.symbol q in
          let far : 255 ≡ T = sym e ∙ n.leads ∙ ap target_code q in
          absurd (let z : ⊥ = omega (arith, h.states_in.grammar_in.limits.states_limit.high) in z)

  pub advances-leads : (M : ℕ) → D < get_or rules (10 * P + 1) 0 → (get_or table (64 * S + get_or rules (10 * P + 2 + D) 0) 0 ≡ 255 → ⊥)
      → Leads b S P D M (get_or table (64 * S + get_or rules (10 * P + 2 + D) 0) 0)
  unfolding advances advances_to target_code word
  advances-leads M l m = go (go_in b.goes S n.symbol) refl
    where
      n : Lead
      n = lead l

      go : (o : Option ℕ) → go_in b.goes S n.symbol ≡ o → Leads b S P D M word
      go none q = absurd (m (n.leads ∙ ap target_code q))
      go (some T) q =
          let e : word ≡ T = n.leads ∙ ap target_code q in
          rw e (record { target_is = target_there h.states_in.grammar_in.declared S n.symbol q; stands = rw (n.behind, q) })

  -- by the words that were read: the symbol, the target, and where the target's kernel lines stand
  module _ (more : D < get_or rules (10 * P + 1) 0) {symbol : ℕ} (symbol_is : symbol ≡ get_or rules (10 * P + 2 + D) 0) {T : ℕ}
      (target_is : TargetOf (Some T) (get_or table (64 * S + symbol) 0)) where
    led : (M : ℕ) → Leads b S P D M T
    led M =
        let word_is : get_or table (64 * S + get_or rules (10 * P + 2 + D) 0) 0 ≡ T = rw symbol_is at target_is.0 in
        rw word_is at (advances-leads M more (λ e. target_is.1 (sym word_is ∙ e)))

    pub target-within : T < b.states
    target-within = (led 0).target_is

    pub target_low : T < MAX_STATES
    target_low = omega (arith, target-within, h.states_in.grammar_in.limits.states_limit.high)

    pub target-range : Range b T (get_or bounds T 0) (get_or bounds (T + 1) 0)
    target-range = state-range h.states_in T target-within

    pub advances-found : (M : ℕ) {r : Bool} {first last : ℕ} → first ≡ get_or bounds T 0 → last ≡ get_or bounds (T + 1) 0
        → ((ks : List Kernel) → KernelsIn ks kernels → last ≤ length ks → r ≡ holds_item P (D + 1) M (slice first last ks))
        → r ≡ advances b S P D M (after b.rules P D)
    advances-found M {r} {first} {last} e f found =
        let w : last ≤ length b.kernels = rw f target-range.within in
        found b.kernels h.states_in.kernels-in w
        ∙ rw (add-one D, (led M).stands, e, f) (ap (holds_item P (suc D) M) (sym target-range.lines_are))

-- ---- the items of a state's kernel lines

-- the item of a kernel line
unfoldable pub kernel_advances : Book → ℕ → Kernel → Bool
kernel_advances b S k = advances b S k.rule k.dot (set_of k.lookaheads) (after b.rules k.rule k.dot)

-- by the words that were read
module _ {b : Book} {rules kernels bounds : List ℕ} (h : StatesIn b rules kernels bounds) {S : ℕ} (s : S < b.states) {i : ℕ} (l : i < length b.kernels)
    {rule dot : ℕ} (rule_is : rule ≡ get_or kernels (5 * i + 1) 0) (dot_is : dot ≡ get_or kernels (5 * i + 2) 0) where
  pub kernel-stands : Stands b S rule dot
  kernel-stands =
      let d : DeclaredKernel b (kernel_at b.kernels i) = kernel_there h.grammar_in.declared i l in
      rw (rule_is, dot_is, h.kernels-in.rule_is i l, h.kernels-in.dot_is i l)
      (record { state_there = s; rule_there = d.rule_there; dot_there = d.dot_there })

  pub kernel-advances : {r : Bool} → r ≡ advances b S rule dot (get_or kernels (5 * i + 4) 0) (after b.rules rule dot)
      → r ≡ kernel_advances b S (kernel_at b.kernels i)
  unfolding kernel_advances
  kernel-advances e =
      e ∙ rw (rule_is, dot_is, h.kernels-in.rule_is i l, h.kernels-in.dot_is i l, h.kernels-in.set_is i l)

-- the lines before i advance
pub record KernelsAdvance (rules kernels bounds table : List ℕ) (S last i : ℕ) : Type 0 where
  pub last_is : last ≡ get_or bounds (S + 1) 0
  pub within : i ≤ last
  pub same : (b : Book) → MovesIn b rules kernels bounds table → S < b.states
      → all_advance b S (of_kernels (slice i last b.kernels)) ≡ all_advance b S (of_kernels (kernels_in b.kernels S))

pub kernels-none : (rules kernels bounds table : List ℕ) (S : ℕ) {first last : ℕ} → first ≡ get_or bounds S 0 → last ≡ get_or bounds (S + 1) 0 → first ≤ last
    → KernelsAdvance rules kernels bounds table S last first
kernels-none rules kernels bounds table S e f l = record {
  last_is = f;
  within = l;
  same = λ b h s. rw (e, f) (ap (λ (ks : List Kernel). all_advance b S (of_kernels ks)) (sym (state-range h.states_in S s).lines_are));
}

module _ {rules kernels bounds table : List ℕ} {S last i : ℕ} (k : KernelsAdvance rules kernels bounds table S last i) where
  -- in every book that the arrays hold
  abbrev pub Everywhere : (Book → Type 0) → Type 0
  Everywhere Q = (b : Book) → MovesIn b rules kernels bounds table → S < b.states → Q b

  last_within : Everywhere (λ b. last ≤ length b.kernels)
  last_within b h s = rw k.last_is (state-range h.states_in S s).within

  pub kernels-all : last ≤ i → Everywhere (λ b. true ≡ all_advance b S (of_kernels (kernels_in b.kernels S)))
  unfolding all_advance of_kernels
  kernels-all l b h s =
      let e : i ≡ last = omega (arith, k.within) in
      sym (rw (e, slice_empty last b.kernels)) ∙ k.same b h s

  module _ (l : i < last) where
    -- the next line
    next_line : (b : Book) → last ≤ length b.kernels → (t : Bool) → kernel_advances b S (kernel_at b.kernels i) ≡ t
        → all_advance b S (of_kernels (slice i last b.kernels))
        ≡ elim t [ true ↦ all_advance b S (of_kernels (slice (i + 1) last b.kernels)) | false ↦ false ]
    unfolding all_advance of_kernels kernel_advances
    next_line b f t e =
        ap (λ (ks : List Kernel). all_advance b S (of_kernels ks)) (lines_next b.kernels l f)
        ∙ ap (λ (x : Bool). elim x [ true ↦ all_advance b S (of_kernels (slice (i + 1) last b.kernels)) | false ↦ false ]) e

    pub kernels-more : ((b : Book) → MovesIn b rules kernels bounds table → S < b.states → i < length b.kernels
        → true ≡ kernel_advances b S (kernel_at b.kernels i)) → KernelsAdvance rules kernels bounds table S last (i + 1)
    kernels-more e = record {
      last_is = k.last_is;
      within = omega arith;
      same = λ b h s. sym (next_line b (last_within b h s) true (sym (e b h s (omega (arith, last_within b h s))))) ∙ k.same b h s;
    }

    pub kernels-fail : ((b : Book) → MovesIn b rules kernels bounds table → S < b.states → i < length b.kernels
        → false ≡ kernel_advances b S (kernel_at b.kernels i)) → Everywhere (λ b. false ≡ all_advance b S (of_kernels (kernels_in b.kernels S)))
    kernels-fail e b h s = sym (next_line b (last_within b h s) false (sym (e b h s (omega (arith, last_within b h s))))) ∙ k.same b h s

-- ---- the rules that a closure has

-- the rule P with its dot in front
unfoldable pub rule_advances : Book → Sets → ℕ → ℕ → Bool
rule_advances b F S P = all_advance b S (entered P (set_at (closure_sets b F S) (left_of b.rules P)) [])

one-item : (b : Book) (S P M : ℕ) → all_advance b S (core P 0 M ∷ []) ≡ advances b S P 0 M (after b.rules P 0)
unfolding all_advance
one-item b S P M = go (advances b S P 0 M (after b.rules P 0))
  where
    go : (t : Bool) → elim t [ true ↦ true | false ↦ false ] ≡ t
    go true = refl
    go false = refl

-- an entered item in front of others
entered-item : (b : Book) (S P M : ℕ) (items : List Core) (t : Bool) → all_advance b S (entered P M []) ≡ t
    → all_advance b S (entered P M items) ≡ elim t [ true ↦ all_advance b S items | false ↦ false ]
unfolding entered all_advance
entered-item b S P zero items t e = ap (λ (x : Bool). elim x [ true ↦ all_advance b S items | false ↦ false ]) e
entered-item b S P (suc M) items t e =
    ap (λ (x : Bool). elim x [ true ↦ all_advance b S items | false ↦ false ]) (sym (one-item b S P (suc M)) ∙ e)

-- by the words that were read
module _ {b : Book} {F : Sets} {rules kernels bounds closures : List ℕ} (h : ItemsIn b F rules kernels bounds closures) {S P : ℕ} (s : Stands b S P 0)
    {left : ℕ} (left_is : left ≡ get_or rules (10 * P) 0) where
  word_set : get_or closures (32 * S + left) 0 ≡ set_at (closure_sets b F S) (left_of b.rules P)
  word_set = set_word h.states_in.grammar_in h.closures_in s.state_there s.rule_there left_is

  pub rule-idle : get_or closures (32 * S + left) 0 ≡ 0 → true ≡ rule_advances b F S P
  unfolding rule_advances entered all_advance
  rule-idle z = sym (rw (sym word_set ∙ z))

  pub rule-busy : (get_or closures (32 * S + left) 0 ≡ 0 → ⊥) → {r : Bool}
      → r ≡ advances b S P 0 (get_or closures (32 * S + left) 0) (after b.rules P 0) → r ≡ rule_advances b F S P
  unfolding rule_advances
  rule-busy n e = e ∙ rw word_set (go (set_at (closure_sets b F S) (left_of b.rules P)) (rw word_set at n))
    where
      go : (M : ℕ) → (M ≡ 0 → ⊥) → advances b S P 0 M (after b.rules P 0) ≡ all_advance b S (entered P M [])
      go zero n = absurd (n refl)
      go (suc M) n = unfold entered in sym (one-item b S P (suc M))

-- a rule that does not advance is one of all
rules-false : (b : Book) (S : ℕ) (looks : List ℕ) (n p : ℕ) → p ≤ n → all_advance b S (of_rules b.rules looks p) ≡ false
    → all_advance b S (of_rules b.rules looks n) ≡ false
rules-false b S looks zero p l e = let z : p ≡ 0 = omega arith in rw z at e
rules-false b S looks (suc n) p l e =
    ⊎_elim (λ z. rw z at e) (λ h. later (rules-false b S looks n p (le_of_suc-le-suc h) e)) (eq-or-lt_of_le l)
  where
    stays : (t : Bool) → {x : Bool} → x ≡ false → elim t [ true ↦ x | false ↦ false ] ≡ false
    stays true e = e
    stays false e = refl

    later : all_advance b S (of_rules b.rules looks n) ≡ false → all_advance b S (of_rules b.rules looks (suc n)) ≡ false
    later q =
        let M : ℕ = set_at looks (left_of b.rules n) in
        let t : Bool = all_advance b S (entered n M []) in
        unfold of_rules in entered-item b S n M (of_rules b.rules looks n) t refl ∙ stays t q

-- the rules below one advance, and the others that the closure has are among the bits of `rest`
pub record RulesAdvance (rules kernels bounds closures table fronts : List ℕ) (S rest : ℕ) : Type 0 where
  pub done : ℕ
  pub walk : (b : Book) → S < b.states → FrontsIn b rules closures fronts → Rest rules closures S (length b.rules) rest done
  pub so_far : (b : Book) (F : Sets) → AutomatonIn b F rules kernels bounds closures table → S < b.states → FrontsIn b rules closures fronts
      → all_advance b S (of_rules b.rules (closure_sets b F S) done) ≡ true

pub rules-none : (rules kernels bounds closures table fronts : List ℕ) (S : ℕ)
    → RulesAdvance rules kernels bounds closures table fronts S (get_or fronts S 0)
unfolding all_advance of_rules
rules-none rules kernels bounds closures table fronts S =
    record { done = 0; walk = λ b s W. rest-first W s; so_far = λ b F h s W. refl }

module _ {rules kernels bounds closures table fronts : List ℕ} {S rest : ℕ} (k : RulesAdvance rules kernels bounds closures table fronts S rest) where
  pub rules-all : rest ≡ 0 → (b : Book) (F : Sets) → AutomatonIn b F rules kernels bounds closures table → S < b.states
      → FrontsIn b rules closures fronts → true ≡ all_advance b S (of_rules b.rules (closure_sets b F S) (length b.rules))
  rules-all z b F h s W =
      let R : Rest rules closures S (length b.rules) rest k.done = k.walk b s W in
      let left_out = idle-rules h.states_in.grammar_in h.closures_in s k.done (length b.rules) R.within (omega arith) (rest-none R z) in
      sym (ap (all_advance b S) left_out ∙ k.so_far b F h s W)

  -- the next rule
  module _ {rule : ℕ} (least : Least rest rule) where
    pub rule-stands : (b : Book) → S < b.states → FrontsIn b rules closures fronts → Stands b S rule 0
    rule-stands b s W = record { state_there = s; rule_there = (rest-there (k.walk b s W) least).1; dot_there = zero-le }

    next-rule : (b : Book) (F : Sets) → AutomatonIn b F rules kernels bounds closures table → S < b.states → FrontsIn b rules closures fronts
        → (t : Bool) → rule_advances b F S rule ≡ t → all_advance b S (of_rules b.rules (closure_sets b F S) (rule + 1)) ≡ t
    unfolding of_rules rule_advances
    next-rule b F h s W t q =
        let R : Rest rules closures S (length b.rules) rest k.done = k.walk b s W in
        let (after-done, there) = rest-there R least in
        let left_out = idle-rules h.states_in.grammar_in h.closures_in s k.done rule after-done (omega arith) (rest-idle R least) in
        rw (add-one rule) (entered-item b S rule _ _ t q ∙ own t (ap (all_advance b S) left_out ∙ k.so_far b F h s W))
      where
        own : (t : Bool) {x : Bool} → x ≡ true → elim t [ true ↦ x | false ↦ false ] ≡ t
        own true e = e
        own false e = refl

    pub rules-more : ((b : Book) (F : Sets) → AutomatonIn b F rules kernels bounds closures table → Stands b S rule 0
        → true ≡ rule_advances b F S rule) → {next : ℕ} → Cleared rest rule next
        → RulesAdvance rules kernels bounds closures table fronts S next
    rules-more e next-is = record {
      done = rule + 1;
      walk = λ b s W. rest_more (k.walk b s W) least next-is;
      so_far = λ b F h s W. next-rule b F h s W true (sym (e b F h (rule-stands b s W)));
    }

    pub rules-fail : ((b : Book) (F : Sets) → AutomatonIn b F rules kernels bounds closures table → Stands b S rule 0
        → false ≡ rule_advances b F S rule)
        → (b : Book) (F : Sets) → AutomatonIn b F rules kernels bounds closures table → S < b.states → FrontsIn b rules closures fronts
        → false ≡ all_advance b S (of_rules b.rules (closure_sets b F S) (length b.rules))
    rules-fail e b F h s W =
        let there : rule < length b.rules = (rest-there (k.walk b s W) least).1 in
        sym (rules-false b S (closure_sets b F S) (length b.rules) (rule + 1) (omega arith)
        (next-rule b F h s W false (sym (e b F h (rule-stands b s W)))))

-- ---- all items of a state

append-items : (b : Book) (S : ℕ) (items others : List Core) (t : Bool) → all_advance b S items ≡ t
    → all_advance b S (items ++ others) ≡ elim t [ true ↦ all_advance b S others | false ↦ false ]
unfolding all_advance
append-items b S [] others t e = ap (λ (x : Bool). elim x [ true ↦ all_advance b S others | false ↦ false ]) e
append-items b S (core P D M ∷ items) others t e = go (advances b S P D M (after b.rules P D)) (append-items b S items others t) e
  where
    rest : Bool → Bool
    rest x = elim x [ true ↦ all_advance b S others | false ↦ false ]

    go : (x : Bool) → (all_advance b S items ≡ t → all_advance b S (items ++ others) ≡ rest t)
        → ◌≡◌ {A = Bool} (elim x [ true ↦ all_advance b S items | false ↦ false ]) t
        → ◌≡◌ {A = Bool} (elim x [ true ↦ all_advance b S (items ++ others) | false ↦ false ]) (rest t)
    go true f q = f q
    go false f q = ap rest q

module _ (b : Book) (F : Sets) (S : ℕ) where
  pub state-fail : false ≡ all_advance b S (of_kernels (kernels_in b.kernels S)) → false ≡ all_advance b S (core_items b F S)
  unfolding core_items
  state-fail e = sym (append-items b S _ _ false (sym e))

  pub state-rest : {r : Bool} → true ≡ all_advance b S (of_kernels (kernels_in b.kernels S))
      → r ≡ all_advance b S (of_rules b.rules (closure_sets b F S) (length b.rules)) → r ≡ all_advance b S (core_items b F S)
  unfolding core_items
  state-rest e q = q ∙ sym (append-items b S _ _ true (sym e))

-- ---- all states

-- the states from `state` on advance
pub record StatesAdvance (rules kernels bounds closures table fronts : List ℕ) (states state : ℕ) : Type 0 where
  pub within : state ≤ states
  pub same : (b : Book) (F : Sets) → AutomatonIn b F rules kernels bounds closures table → states ≡ b.states → FrontsIn b rules closures fronts
      → states_advance b (core_items b F) state ≡ states_advance b (core_items b F) states

pub states-none : (rules kernels bounds closures table fronts : List ℕ) (states : ℕ)
    → StatesAdvance rules kernels bounds closures table fronts states states
states-none rules kernels bounds closures table fronts states = record { within = omega arith; same = λ b F h s c. refl }

module _ {rules kernels bounds closures table fronts : List ℕ} {states state : ℕ}
    (k : StatesAdvance rules kernels bounds closures table fronts states state) where
  pub states-all : state ≤ 0 → (b : Book) (F : Sets) → AutomatonIn b F rules kernels bounds closures table → states ≡ b.states
      → FrontsIn b rules closures fronts → true ≡ states_advance b (core_items b F) states
  unfolding states_advance
  states-all z b F h s c = let e : state ≡ 0 = omega arith in sym (rw e) ∙ k.same b F h s c

  module _ (pos : 0 < state) where
    next-state : (b : Book) (F : Sets) (t : Bool) → all_advance b (state - 1) (core_items b F (state - 1)) ≡ t
        → states_advance b (core_items b F) state ≡ elim t [ true ↦ states_advance b (core_items b F) (state - 1) | false ↦ false ]
    unfolding states_advance
    next-state b F t q =
        let e : state ≡ suc (state - 1) = omega arith in
        ap (states_advance b (core_items b F)) e ∙ ap (λ (x : Bool). elim x [ true ↦ states_advance b (core_items b F) (state - 1) | false ↦ false ]) q

    pub states-more : ((b : Book) (F : Sets) → AutomatonIn b F rules kernels bounds closures table → state - 1 < b.states
        → FrontsIn b rules closures fronts → true ≡ all_advance b (state - 1) (core_items b F (state - 1)))
        → StatesAdvance rules kernels bounds closures table fronts states (state - 1)
    states-more e = record {
      within = omega (arith, k.within);
      same = λ b F h s c. sym (next-state b F true (sym (e b F h (omega (arith, k.within)) c))) ∙ k.same b F h s c;
    }

    pub states-fail : ((b : Book) (F : Sets) → AutomatonIn b F rules kernels bounds closures table → state - 1 < b.states
        → FrontsIn b rules closures fronts → false ≡ all_advance b (state - 1) (core_items b F (state - 1)))
        → (b : Book) (F : Sets) → AutomatonIn b F rules kernels bounds closures table → states ≡ b.states → FrontsIn b rules closures fronts
        → false ≡ states_advance b (core_items b F) states
    states-fail e b F h s c = sym (next-state b F false (sym (e b F h (omega (arith, k.within)) c))) ∙ k.same b F h s c

-- opens every definition of this module
unfoldable pub opens : Unit {0}
unfolding kernel_advances rule_advances
opens = tt
