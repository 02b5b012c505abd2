-- The second half of the go rules (8) over arrays: the target of every go line has kernel lines, each of them an item advanced.
-- Assumes nothing.
use Prim.Native.Nat.{ℕ, zero, suc, ◌+◌, ◌*◌, ◌-◌, ◌<◌, ◌≤◌}
use native.Mathlib.Omega.{arith}
use Rattle.std.proofs.Common.{add-one, eq-or-lt_of_le, le_of_suc-le-suc, ◌∙◌, drop_of_length-le, drop-cons}
use Rattle.std.proofs.Math.Decide.{ℕ_discrete}
use Rattle.std.specs.Prelude.{◌≡◌, Bool, ◌&&◌, ◌||◌, List, [], ◌∷◌, ◌++◌, eqb, leb, get_or}
use Rattle.std.proofs.Math.Path.{refl, sym, ap}
use Rattle.std.proofs.Math.Logic.{⊎_elim}
use Rattle.std.proofs.Math.Bool.{true, false, not, or-true, or-false}
use Rattle.std.proofs.Math.ListN.{length, drop}
use Rattle.std.proofs.Math.Seq.{slice, slice_empty}
use borrow.Author.Tests.{eq-eqb, ne_eqb, eqb-true, le-leb}
use Rattle.sets.specs.Sets.{empty, subset}
use Rattle.sets.proofs.SetsLaws.{subset-true}
use Rattle.grammar.specs.Automaton.Members.{none_in}
use Rattle.grammar.specs.Data.Symbol.{Symbol, Rule, left_of, after}
use Rattle.grammar.specs.Data.Book.{Book, Kernel, Go}
use Rattle.grammar.specs.Conditions.Meaning.{GoSymbol, DeclaredGo}
use Rattle.grammar.specs.Automaton.Fixpoint.{set_at}
use Rattle.grammar.specs.Automaton.FirstSets.{Sets}
use Rattle.grammar.specs.Automaton.ClosureSets.{set_of, kernels_in, closure_sets}
use Rattle.grammar.specs.Automaton.CoreItems.{Core, core, of_kernels, entered, of_rules, core_items}
use Rattle.grammar.specs.Automaton.StatesCheck.{holds_item, next_is, comes_from, all_come, some_kernel, go_lines}
use Rattle.grammar.specs.Data.ListLaws.{at-member}
use Rattle.book.specs.Layout.{symbol_code}
use Rattle.book.specs.Held.{KernelsIn, GoesIn, kernel_at, go_at}
use Rattle.items.specs.GrammarIn.{Next, after-some, right-symbol-low, set_word}
use Rattle.automaton.specs.StatesIn.{StatesIn, ItemsIn, Stands, Range, state-range, lines_next}
use Rattle.items.specs.SymbolCodes.{code-test}
use Rattle.automaton.specs.GoTable.{LineLow, line_low, go-symbol-low}

-- ---- an item of a state

-- the item (P, D) is in the list
unfoldable pub some_item : ℕ → ℕ → List Core → Bool
some_item P D [] = false
some_item P D (core Q E M ∷ items) = elim (eqb Q P && eqb E D) [ true ↦ true | false ↦ some_item P D items ]

some-append : (P D : ℕ) (items others : List Core) → some_item P D (items ++ others) ≡ (some_item P D items || some_item P D others)
unfolding some_item
some-append P D [] others = refl
some-append P D (core Q E M ∷ items) others = go (eqb Q P && eqb E D) (some-append P D items others)
  where
    go : (t : Bool) → some_item P D (items ++ others) ≡ (some_item P D items || some_item P D others)
        → ◌≡◌ {A = Bool} (elim t [ true ↦ true | false ↦ some_item P D (items ++ others) ])
        (elim t [ true ↦ true | false ↦ some_item P D items ] || some_item P D others)
    go true e = refl
    go false e = e

empty-subset : (s : ℕ) → subset 0 s ≡ true
empty-subset s = subset-true 0 s (λ i h e. none_in i e)

-- a kernel line with at least no lookahead
some-kernels : (P D : ℕ) (ks : List Kernel) → some_item P D (of_kernels ks) ≡ holds_item P D 0 ks
unfolding some_item of_kernels holds_item
some-kernels P D [] = refl
some-kernels P D (k ∷ ks) = go (eqb k.rule P) (eqb k.dot D) (empty-subset (set_of k.lookaheads)) (some-kernels P D ks)
  where
    go : (s t : Bool) {u : Bool} → u ≡ true → some_item P D (of_kernels ks) ≡ holds_item P D 0 ks
        → ◌≡◌ {A = Bool} (elim (s && t) [ true ↦ true | false ↦ some_item P D (of_kernels ks) ])
        (elim (s && (t && u)) [ true ↦ true | false ↦ holds_item P D 0 ks ])
    go true true e f = sym (rw e)
    go true false e f = f
    go false t e f = f

-- a rule with its dot in front
module _ (G : List Rule) (looks : List ℕ) (P : ℕ) where
  some-entered : (D Q M : ℕ) (items : List Core) → (eqb Q P && eqb 0 D) ≡ false → some_item P D (entered Q M items) ≡ some_item P D items
  unfolding some_item entered
  some-entered D Q zero items e = refl
  some-entered D Q (suc M) items e = rw (e, some_item)

  and-false : (s : Bool) {t : Bool} → t ≡ false → (s && t) ≡ false
  and-false true e = e
  and-false false e = refl

  -- a dot that has moved
  some-moved : (n D : ℕ) → (D ≡ 0 → ⊥) → some_item P D (of_rules G looks n) ≡ false
  unfolding some_item of_rules
  some-moved zero D h = refl
  some-moved (suc n) D h =
      some-entered D n (set_at looks (left_of G n)) (of_rules G looks n) (and-false (eqb n P) (ne_eqb 0 D (λ e. h (sym e)))) ∙ some-moved n D h

  -- rules below P
  some_below : (n : ℕ) → n ≤ P → some_item P 0 (of_rules G looks n) ≡ false
  unfolding some_item of_rules
  some_below zero h = refl
  some_below (suc n) h =
      some-entered 0 n (set_at looks (left_of G n)) (of_rules G looks n) (rw (ne_eqb n P (λ e. omega arith))) ∙ some_below n (omega arith)

  some-rule : (n : ℕ) → P < n → some_item P 0 (of_rules G looks n) ≡ not (eqb (set_at looks (left_of G P)) 0)
  unfolding some_item of_rules
  some-rule zero h = absurd (omega arith)
  some-rule (suc n) h = ⊎_elim (λ e. rw (← e) (own (set_at looks (left_of G P)))) (λ l. lower l ∙ some-rule n l) (eq-or-lt_of_le (le_of_suc-le-suc h))
    where
      own : (M : ℕ) → some_item P 0 (entered P M (of_rules G looks P)) ≡ not (eqb M 0)
      own zero = unfold entered in some_below P (omega arith)
      own (suc M) = unfold entered in rw (eq-eqb P P refl, ne_eqb (suc M) 0 (λ e. omega arith), some_item)

      lower : P < n → some_item P 0 (entered n (set_at looks (left_of G n)) (of_rules G looks n)) ≡ some_item P 0 (of_rules G looks n)
      lower l = some-entered 0 n (set_at looks (left_of G n)) (of_rules G looks n) (rw (ne_eqb n P (λ e. omega arith)))

-- by what was found among the kernel lines and in the closure
module _ {b : Book} {F : Sets} {rules kernels bounds closures : List ℕ} (h : ItemsIn b F rules kernels bounds closures) {S P D : ℕ} (s : Stands b S P D) where
  some-core : (t : Bool) → holds_item P D 0 (kernels_in b.kernels S) ≡ t
      → some_item P D (core_items b F S) ≡ (t || some_item P D (of_rules b.rules (closure_sets b F S) (length b.rules)))
  unfolding core_items
  some-core t e =
      some-append P D (of_kernels (kernels_in b.kernels S)) (of_rules b.rules (closure_sets b F S) (length b.rules))
      ∙ ap (λ (x : Bool). x || some_item P D (of_rules b.rules (closure_sets b F S) (length b.rules)))
      (some-kernels P D (kernels_in b.kernels S) ∙ e)

  closure-item : D ≡ 0 → {left : ℕ} → left ≡ get_or rules (10 * P) 0
      → some_item P D (of_rules b.rules (closure_sets b F S) (length b.rules)) ≡ not (eqb (get_or closures (32 * S + left) 0) 0)
  closure-item z left_is =
      rw (set_word h.states_in.grammar_in h.closures_in s.state_there s.rule_there left_is, z)
      (some-rule b.rules (closure_sets b F S) P (length b.rules) s.rule_there)

  -- a search among the state's kernel lines
  pub searched : {first last none : ℕ} → first ≡ get_or bounds S 0 → last ≡ get_or bounds (S + 1) 0 → none ≡ empty → {r : Bool}
      → ((ks : List Kernel) → KernelsIn ks kernels → last ≤ length ks → r ≡ holds_item P D none (slice first last ks))
      → r ≡ holds_item P D 0 (kernels_in b.kernels S)
  unfolding empty
  searched first_is last_is none_is f =
      let range : Range b S (get_or bounds S 0) (get_or bounds (S + 1) 0) = state-range h.states_in S s.state_there in
      f b.kernels h.states_in.kernels-in (rw last_is range.within) ∙ rw (none_is, first_is, last_is, range.lines_are)

  -- the closure has it
  pub has-rule : D ≡ 0 → {left : ℕ} → left ≡ get_or rules (10 * P) 0 → (get_or closures (32 * S + left) 0 ≡ 0 → ⊥) → true ≡ some_item P D (core_items b F S)
  has-rule z {left} left_is n =
      let there : some_item P D (of_rules b.rules (closure_sets b F S) (length b.rules)) ≡ true =
      closure-item z left_is ∙ ap not (ne_eqb (get_or closures (32 * S + left) 0) 0 n) in
      let held : Bool = holds_item P D 0 (kernels_in b.kernels S) in
      sym (some-core held refl ∙ ap (λ (t : Bool). held || t) there ∙ or-true held)

  -- it has not, and the kernel lines are searched
  pub has_kernel : (D ≡ 0 → get_or closures (32 * S + get_or rules (10 * P) 0) 0 ≡ 0) → {r : Bool}
      → r ≡ holds_item P D 0 (kernels_in b.kernels S) → r ≡ some_item P D (core_items b F S)
  has_kernel idle {r} e = sym (some-core r (sym e) ∙ ap (λ (t : Bool). r || t) (none (ℕ_discrete D 0)) ∙ or-false r)
    where
      none : Dec (D ≡ 0) → some_item P D (of_rules b.rules (closure_sets b F S) (length b.rules)) ≡ false
      none (yes z) = closure-item z refl ∙ ap not (eq-eqb (get_or closures (32 * S + get_or rules (10 * P) 0) 0) 0 (idle z))
      none (no n) = some-moved b.rules (closure_sets b F S) P (length b.rules) D n

-- ---- a kernel line of a target

-- it comes from an item if the symbol stands before its dot and the item is there
comes-some : (G : List Rule) (X : Symbol) (P D : ℕ) (items : List Core) (t : Bool) → next_is X (after G P D) ≡ t
    → comes_from G X P D items ≡ elim t [ true ↦ some_item P D items | false ↦ false ]
unfolding comes_from some_item
comes-some G X P D [] true e = refl
comes-some G X P D [] false e = refl
comes-some G X P D (core Q E M ∷ items) t e = go (eqb Q P) (eqb E D) refl refl t e (comes-some G X P D items t e)
  where
    go : (p d : Bool) → eqb Q P ≡ p → eqb E D ≡ d → (t : Bool) → next_is X (after G P D) ≡ t
        → ◌≡◌ {A = Bool} (comes_from G X P D items) (elim t [ true ↦ some_item P D items | false ↦ false ])
        → ◌≡◌ {A = Bool} (elim (p && (d && next_is X (after G Q E))) [ true ↦ true | false ↦ comes_from G X P D items ])
        (elim t [ true ↦ elim (p && d) [ true ↦ true | false ↦ some_item P D items ] | false ↦ false ])
    go true true f g true e q = let u : Q ≡ P = eqb-true Q P f in let v : E ≡ D = eqb-true E D g in rw (u, v, e)
    go true true f g false e q = let u : Q ≡ P = eqb-true Q P f in let v : E ≡ D = eqb-true E D g in rw (u, v, e) q
    go true false f g t e q = q
    go false d f g t e q = q

-- a kernel line (P, D) of a target of X is an item of the state advanced
unfoldable pub line_comes : List Rule → Symbol → List Core → ℕ → ℕ → Bool
line_comes G X items P D = leb 1 D && comes_from G X P (D - 1) items

-- by the words that were read
module _ {b : Book} {F : Sets} {rules kernels bounds closures : List ℕ} (h : ItemsIn b F rules kernels bounds closures) {S P D : ℕ} (s : Stands b S P D)
    (X : Symbol) where
  pub comes-front : D ≡ 0 → false ≡ line_comes b.rules X (core_items b F S) P D
  unfolding line_comes
  comes-front z = sym (rw z)

  module _ (moved : D ≡ 0 → ⊥) where
    -- the symbol before the dot
    before : Next b rules P (D - 1)
    before =
        let more : D - 1 < get_or rules (10 * P + 1) 0 = omega (arith, s.dot_there, h.states_in.grammar_in.rules_in.size_is P s.rule_there) in
        after-some h.states_in.grammar_in P (D - 1) s.rule_there more

    module _ (x : GoSymbol b X) {symbol word : ℕ} (symbol_is : symbol ≡ symbol_code X) (word_is : word ≡ get_or rules (10 * P + 1 + D) 0) where
      tested : next_is X (after b.rules P (D - 1)) ≡ eqb symbol word
      unfolding next_is
      tested =
          let n : Next b rules P (D - 1) = before in
          let place : 10 * P + 2 + (D - 1) ≡ 10 * P + 1 + D = omega arith in
          rw (n.behind, symbol_is, word_is, ← place, n.word_is)
          (code-test X n.symbol (go-symbol-low h.states_in.grammar_in.limits X x)
          (right-symbol-low h.states_in.grammar_in.limits n.symbol n.declared_symbol))

      line_is : (t : Bool) → eqb symbol word ≡ t
          → line_comes b.rules X (core_items b F S) P D ≡ elim t [ true ↦ some_item P (D - 1) (core_items b F S) | false ↦ false ]
      unfolding line_comes
      line_is t e = rw (le-leb 1 D (omega arith)) (comes-some b.rules X P (D - 1) (core_items b F S) t (tested ∙ e))

      pub comes-other : (word ≡ symbol → ⊥) → false ≡ line_comes b.rules X (core_items b F S) P D
      comes-other n = sym (line_is false (ne_eqb symbol word (λ e. n (sym e))))

      pub comes-item : word ≡ symbol → {r : Bool} → r ≡ some_item P (D - 1) (core_items b F S) → r ≡ line_comes b.rules X (core_items b F S) P D
      comes-item e q = q ∙ sym (line_is true (eq-eqb symbol word (sym e)))

-- by the words of a line
pub line-words : {b : Book} {rules kernels bounds : List ℕ} → StatesIn b rules kernels bounds → {i : ℕ} → i < length b.kernels → {rule dot : ℕ}
    → rule ≡ get_or kernels (5 * i + 1) 0 → dot ≡ get_or kernels (5 * i + 2) 0 → (X : Symbol) (items : List Core) → {r : Bool}
    → r ≡ line_comes b.rules X items rule dot → r ≡ line_comes b.rules X items (kernel_at b.kernels i).rule (kernel_at b.kernels i).dot
line-words h {i} l rule_is dot_is X items q = rw (rule_is, dot_is, h.kernels-in.rule_is i l, h.kernels-in.dot_is i l) at q

-- ---- the kernel lines of a target

-- the lines before i come from items
pub record AllCome (rules kernels bounds closures : List ℕ) (S symbol first last i : ℕ) : Type 0 where
  pub within : i ≤ last
  pub same : (b : Book) (F : Sets) (X : Symbol) → ItemsIn b F rules kernels bounds closures → S < b.states → last ≤ length b.kernels → GoSymbol b X
      → symbol ≡ symbol_code X
      → all_come b.rules X (core_items b F S) (slice i last b.kernels) ≡ all_come b.rules X (core_items b F S) (slice first last b.kernels)

pub come-none : (rules kernels bounds closures : List ℕ) (S symbol first last : ℕ) → first ≤ last
    → AllCome rules kernels bounds closures S symbol first last first
come-none rules kernels bounds closures S symbol first last l = record { within = l; same = λ b F X h s f x e. refl }

module _ {rules kernels bounds closures : List ℕ} {S symbol first last i : ℕ} (k : AllCome rules kernels bounds closures S symbol first last i) where
  pub come-all : last ≤ i → (b : Book) (F : Sets) (X : Symbol) → ItemsIn b F rules kernels bounds closures → S < b.states → last ≤ length b.kernels
      → GoSymbol b X → symbol ≡ symbol_code X → true ≡ all_come b.rules X (core_items b F S) (slice first last b.kernels)
  unfolding all_come
  come-all l b F X h s f x q =
      let e : i ≡ last = omega (arith, k.within) in
      sym (rw (e, slice_empty last b.kernels)) ∙ k.same b F X h s f x q

  module _ (l : i < last) where
    next-kernel : (b : Book) (F : Sets) (X : Symbol) → last ≤ length b.kernels → (t : Bool)
        → line_comes b.rules X (core_items b F S) (kernel_at b.kernels i).rule (kernel_at b.kernels i).dot ≡ t
        → all_come b.rules X (core_items b F S) (slice i last b.kernels)
        ≡ elim t [ true ↦ all_come b.rules X (core_items b F S) (slice (i + 1) last b.kernels) | false ↦ false ]
    unfolding all_come line_comes
    next-kernel b F X f t e =
        ap (all_come b.rules X (core_items b F S)) (lines_next b.kernels l f)
        ∙ ap (λ (x : Bool). elim x [ true ↦ all_come b.rules X (core_items b F S) (slice (i + 1) last b.kernels) | false ↦ false ]) e

    pub come-more : ((b : Book) (F : Sets) (X : Symbol) → ItemsIn b F rules kernels bounds closures → S < b.states → i < length b.kernels → GoSymbol b X
        → symbol ≡ symbol_code X
        → true ≡ line_comes b.rules X (core_items b F S) (kernel_at b.kernels i).rule (kernel_at b.kernels i).dot)
        → AllCome rules kernels bounds closures S symbol first last (i + 1)
    come-more e = record {
      within = omega arith;
      same = λ b F X h s f x q. sym (next-kernel b F X f true (sym (e b F X h s (omega arith) x q))) ∙ k.same b F X h s f x q;
    }

    pub come-fail : ((b : Book) (F : Sets) (X : Symbol) → ItemsIn b F rules kernels bounds closures → S < b.states → i < length b.kernels → GoSymbol b X
        → symbol ≡ symbol_code X
        → false ≡ line_comes b.rules X (core_items b F S) (kernel_at b.kernels i).rule (kernel_at b.kernels i).dot)
        → (b : Book) (F : Sets) (X : Symbol) → ItemsIn b F rules kernels bounds closures → S < b.states → last ≤ length b.kernels
        → GoSymbol b X → symbol ≡ symbol_code X → false ≡ all_come b.rules X (core_items b F S) (slice first last b.kernels)
    come-fail e b F X h s f x q = sym (next-kernel b F X f false (sym (e b F X h s (omega arith) x q))) ∙ k.same b F X h s f x q

-- ---- a go line

-- its target has kernel lines, and all come from items
unfoldable pub go_comes : Book → (ℕ → List Core) → Go → Bool
go_comes b items g = some_kernel (kernels_in b.kernels g.target) && all_come b.rules g.symbol (items g.state) (kernels_in b.kernels g.target)

-- the words of go line i
module _ {b : Book} {rules kernels bounds goes : List ℕ} (h : StatesIn b rules kernels bounds) (g : GoesIn b.goes goes) {i : ℕ}
    (l : i < length b.goes) where
  pub go-low : LineLow goes i
  go-low = line_low (record { limits = h.grammar_in.limits; declared = h.grammar_in.declared; lines_in = g; count_is = refl; states_is = refl }) i l

  pub go-declared : DeclaredGo b (go_at b.goes i)
  go-declared = h.grammar_in.declared.goes_declared (go_at b.goes i) (at-member b.goes i _ l)

  pub state_there : {state : ℕ} → state ≡ get_or goes (3 * i) 0 → state < b.states
  state_there e = rw (e, g.state_is i l) go-declared.state_there

  module _ {target : ℕ} (target_is : target ≡ get_or goes (3 * i + 2) 0) where
    pub goal-there : target < b.states
    goal-there = rw (target_is, g.target_is i l) go-declared.target_there

    module _ {first last : ℕ} (first_is : first ≡ get_or bounds target 0) (last_is : last ≡ get_or bounds (target + 1) 0) where
      pub goal-range : Range b target first last
      goal-range = rw (first_is, last_is) (state-range h target goal-there)

      goal-lines : kernels_in b.kernels (go_at b.goes i).target ≡ slice first last b.kernels
      goal-lines = let e : target ≡ (go_at b.goes i).target = target_is ∙ g.target_is i l in rw (← e) goal-range.lines_are

      pub goal-bare : (items : ℕ → List Core) → first ≡ last → false ≡ go_comes b items (go_at b.goes i)
      unfolding go_comes some_kernel
      goal-bare items e = sym (rw (goal-lines, e, slice_empty last b.kernels))

      pub goal-comes : (items : ℕ → List Core) → (first ≡ last → ⊥) → {state : ℕ} → state ≡ get_or goes (3 * i) 0 → {r : Bool}
          → r ≡ all_come b.rules (go_at b.goes i).symbol (items state) (slice first last b.kernels) → r ≡ go_comes b items (go_at b.goes i)
      unfolding go_comes some_kernel
      goal-comes items n {state} state_is q =
          let e : state ≡ (go_at b.goes i).state = state_is ∙ g.state_is i l in
          let range : Range b target first last = goal-range in
          let more : first < last = omega (arith, range.ordered) in
          let some : some_kernel (slice first last b.kernels) ≡ true = ap some_kernel (lines_next b.kernels more range.within) in
          rw e at q ∙ sym (rw (goal-lines, some))

-- ---- all go lines

-- the lines before i hold
pub record LinesCome (rules kernels goes bounds closures : List ℕ) (count i : ℕ) : Type 0 where
  pub within : i ≤ count
  pub same : (b : Book) (F : Sets) → ItemsIn b F rules kernels bounds closures → GoesIn b.goes goes → count ≡ length b.goes
      → go_lines b (core_items b F) (drop i b.goes) ≡ go_lines b (core_items b F) b.goes

pub lines_none : (rules kernels goes bounds closures : List ℕ) (count : ℕ) → LinesCome rules kernels goes bounds closures count 0
lines_none rules kernels goes bounds closures count = record { within = omega arith; same = λ b F h g c. refl }

module _ {rules kernels goes bounds closures : List ℕ} {count i : ℕ} (k : LinesCome rules kernels goes bounds closures count i) where
  pub lines-all : count ≤ i → (b : Book) (F : Sets) → ItemsIn b F rules kernels bounds closures → GoesIn b.goes goes → count ≡ length b.goes
      → true ≡ go_lines b (core_items b F) b.goes
  unfolding go_lines
  lines-all l b F h g c =
      let past : length b.goes ≤ i = omega arith in
      sym (rw (drop_of_length-le b.goes past)) ∙ k.same b F h g c

  module _ (l : i < count) where
    next-go : (b : Book) (F : Sets) → count ≡ length b.goes → (t : Bool) → go_comes b (core_items b F) (go_at b.goes i) ≡ t
        → go_lines b (core_items b F) (drop i b.goes) ≡ elim t [ true ↦ go_lines b (core_items b F) (drop (i + 1) b.goes) | false ↦ false ]
    unfolding go_lines go_comes
    next-go b F c t e =
        let cut : drop i b.goes ≡ go_at b.goes i ∷ drop (i + 1) b.goes = rw (add-one i) (drop-cons b.goes i _ (omega arith)) in
        ap (go_lines b (core_items b F)) cut
        ∙ ap (λ (x : Bool). elim x [ true ↦ go_lines b (core_items b F) (drop (i + 1) b.goes) | false ↦ false ]) e

    pub lines_more : ((b : Book) (F : Sets) → ItemsIn b F rules kernels bounds closures → GoesIn b.goes goes → i < length b.goes
        → true ≡ go_comes b (core_items b F) (go_at b.goes i)) → LinesCome rules kernels goes bounds closures count (i + 1)
    lines_more e = record {
      within = omega arith;
      same = λ b F h g c. sym (next-go b F c true (sym (e b F h g (omega arith)))) ∙ k.same b F h g c;
    }

    pub lines-fail : ((b : Book) (F : Sets) → ItemsIn b F rules kernels bounds closures → GoesIn b.goes goes → i < length b.goes
        → false ≡ go_comes b (core_items b F) (go_at b.goes i))
        → (b : Book) (F : Sets) → ItemsIn b F rules kernels bounds closures → GoesIn b.goes goes → count ≡ length b.goes
        → false ≡ go_lines b (core_items b F) b.goes
    lines-fail e b F h g c = sym (next-go b F c false (sym (e b F h g (omega arith)))) ∙ k.same b F h g c

-- opens every definition of this module
unfoldable pub opens : Unit {0}
unfolding some_item line_comes go_comes
opens = tt
