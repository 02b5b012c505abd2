-- The actions of one item after the other: the words of a state become the cells of more and more of its items, in the order in which `cell_from` melds.
-- Assumes nothing.
use Prim.Native.Nat.{ℕ, zero, suc, ◌+◌, ◌*◌, ◌-◌, ◌<◌, ◌≤◌, zero-le}
use native.Mathlib.Omega.{arith}
use Rattle.std.proofs.Common.{eq-or-lt_of_le, le_of_suc-le-suc, add-one, sym, ◌∙◌}
use Rattle.std.specs.Prelude.{◌≡◌, refl, Bool, false, List, [], ◌∷◌, ◌++◌}
use Rattle.std.proofs.Math.Path.{ap}
use Rattle.std.proofs.Math.Logic.{⊎_elim}
use Rattle.std.proofs.Math.Bool.{true}
use Rattle.std.proofs.Math.ListN.{length, get_or}
use Rattle.std.proofs.Math.Seq.{slice, slice_empty}
use Rattle.sets.specs.Sets.{bit, single}
use Rattle.sets.proofs.SetsLaws.{bit-single}
use Rattle.grammar.specs.Data.Symbol.{Symbol, terminal, nonterminal, Rule, left_of, after}
use Rattle.grammar.specs.Data.Book.{Book, Kernel}
use Rattle.grammar.specs.Conditions.Meaning.{RightSymbol}
use Rattle.grammar.specs.Automaton.States.{shift}
use Rattle.grammar.specs.Automaton.Fixpoint.{set_at}
use Rattle.grammar.specs.Automaton.FirstSets.{Sets}
use Rattle.grammar.specs.Automaton.ClosureSets.{set_of, kernels_in, closure_sets}
use Rattle.grammar.specs.Automaton.CoreItems.{Core, core, of_kernels, entered, of_rules, core_items}
use Rattle.grammar.specs.Automaton.TestLaws.{by-test}
use Rattle.grammar.specs.Automaton.Actions.{Cell, conflict, meld, completed, meld_item, cell_from}
use Rattle.book.specs.Layout.{symbol_code}
use Rattle.book.specs.Held.{KernelsIn, kernel_at}
use Rattle.items.specs.Arrays.{ClosuresIn}
use Rattle.items.specs.SymbolCodes.{terminal-code, nonterminal-code}
use Rattle.items.specs.GrammarIn.{GrammarIn, Next, after_none, after-some, right-symbol-low, set_word}
use Rattle.automaton.specs.StatesIn.{StatesIn, Stands, Range, state-range, lines_next}
use Rattle.automaton.specs.Advances.{kernel-stands}
use Rattle.automaton.specs.Lefts.{Least}
use Rattle.automaton.specs.Members.{Cleared}
use Rattle.automaton.specs.Fronts.{FrontsIn, Rest, rest-first, rest-none, rest-there, rest-idle, rest_more, idle-rules}
use Rattle.automaton.specs.Cells.{shifting, shift-code}
use Rattle.automaton.specs.ActionRows.{Row, Clash, Melded, Given, meld_at, item_cells, melded-at, melded-same, melded-none, melded-then, melded-clash}

-- ---- one item, by the words that were read

shift-cells : (cells : ℕ → Cell) (c P M : ℕ) (rest : List Symbol) (a : ℕ) → meld_at c shift cells a ≡ meld_item a P M (terminal c ∷ rest) (cells a)
unfolding meld_at meld_item
shift-cells cells c P M rest a = ap (λ (t : Bool). elim t [ true ↦ meld (cells a) shift | false ↦ cells a ]) (sym (bit-single c a))

module _ {b : Book} {rules : List ℕ} (g : GrammarIn b rules) {S P D : ℕ} (s : Stands b S P D) {T : ℕ} (t : T ≡ b.terminals) (M : ℕ) (cells : ℕ → Cell) where
  pub item-complete : get_or rules (10 * P + 1) 0 ≤ D → {old new : List ℕ} {r : Bool} → Melded T S (item_cells P M [] cells) old new r
      → Melded T S (item_cells P M (after b.rules P D) cells) old new r
  item-complete l m = rw (after_none g P D s.rule_there l) m

  module _ {old : List ℕ} (row : Row T S cells old) (more : D < get_or rules (10 * P + 1) 0) {symbol : ℕ}
      (symbol_is : symbol ≡ get_or rules (10 * P + 2 + D) 0) where
    next : Next b rules P D
    next = after-some g P D s.rule_there more

    pub item-nonterminal : 32 ≤ symbol → Melded T S (item_cells P M (after b.rules P D) cells) old old true
    unfolding meld_item
    item-nonterminal l = rw next.behind (go next.symbol next.declared_symbol next.word_is)
      where
        go : (X : Symbol) → RightSymbol b X → get_or rules (10 * P + 2 + D) 0 ≡ symbol_code X → Melded T S (item_cells P M (X ∷ next.rest) cells) old old true
        go (terminal c) d e =
            absurd (let z : ⊥ = omega (arith, terminal-code c (right-symbol-low g.limits (terminal c) d)) in z)
        go (nonterminal B) d e = melded-none row

    pub symbol_low : symbol < 32 → symbol ≤ T
    symbol_low l = go next.symbol next.declared_symbol next.word_is
      where
        go : (X : Symbol) → RightSymbol b X → get_or rules (10 * P + 2 + D) 0 ≡ symbol_code X → symbol ≤ T
        go (terminal c) d e = omega (arith, terminal-code c (right-symbol-low g.limits (terminal c) d), d.high)
        go (nonterminal B) d e = absurd (let z : ⊥ = omega (arith, nonterminal-code B (right-symbol-low g.limits (nonterminal B) d)) in z)

    pub item-terminal : symbol < 32 → 32 * S + 32 ≤ length old → {new : List ℕ} {r : Bool} → Given old (32 * S + symbol) 1 new r
        → Melded T S (item_cells P M (after b.rules P D) cells) old new r
    item-terminal l room {new} {r} given = rw next.behind (go next.symbol next.declared_symbol next.word_is)
      where
        shifted : Melded T S (meld_at symbol shift cells) old new r
        shifted = melded-at row (omega (arith, g.limits.terminals_limit.high)) room shifting (symbol_low l) (sym shift-code) given

        same : (c : ℕ) → symbol ≡ c → (a : ℕ) → meld_at symbol shift cells a ≡ meld_item a P M (terminal c ∷ next.rest) (cells a)
        same c e a = ap (λ (n : ℕ). meld_at n shift cells a) e ∙ shift-cells cells c P M next.rest a

        go : (X : Symbol) → RightSymbol b X → get_or rules (10 * P + 2 + D) 0 ≡ symbol_code X → Melded T S (item_cells P M (X ∷ next.rest) cells) old new r
        go (terminal c) d e =
            melded-same (λ a h. same c (symbol_is ∙ e ∙ terminal-code c (right-symbol-low g.limits (terminal c) d)) a) shifted
        go (nonterminal B) d e = absurd (let z : ⊥ = omega (arith, nonterminal-code B (right-symbol-low g.limits (nonterminal B) d)) in z)

-- ---- a conflict stays one

meld-conflict : (a P M : ℕ) (rest : List Symbol) → meld_item a P M rest conflict ≡ conflict
unfolding meld_item meld
meld-conflict a P M [] = by-test (bit M a) (meld conflict (completed P)) conflict (λ cell. cell ≡ conflict) (λ e. refl) (λ e. refl)
meld-conflict a P M (terminal c ∷ β) = by-test (bit (single c) a) (meld conflict shift) conflict (λ cell. cell ≡ conflict) (λ e. refl) (λ e. refl)
meld-conflict a P M (nonterminal B ∷ β) = refl

module _ (G : List Rule) {T : ℕ} where
  clash-item : (P D M : ℕ) (items : List Core) → Clash T (cell_from G items) → Clash T (cell_from G (core P D M ∷ items))
  unfolding cell_from
  clash-item P D M items c = record {
    at = c.at;
    low = c.low;
    clashes = ap (meld_item c.at P M (after G P D)) c.clashes ∙ meld-conflict c.at P M (after G P D);
  }

  clash-entered : (P M : ℕ) (items : List Core) → Clash T (cell_from G items) → Clash T (cell_from G (entered P M items))
  unfolding entered
  clash-entered P zero items c = c
  clash-entered P (suc M) items c = clash-item P 0 (suc M) items c

  clash-rules : (looks : List ℕ) (n p : ℕ) → p ≤ n → Clash T (cell_from G (of_rules G looks p)) → Clash T (cell_from G (of_rules G looks n))
  unfolding of_rules
  clash-rules looks zero p l c = let z : p ≡ 0 = omega arith in rw z at c
  clash-rules looks (suc n) p l c =
      ⊎_elim (λ e. rw e at c) (λ h. clash-entered n (set_at looks (left_of G n)) (of_rules G looks n) (clash-rules looks n p (le_of_suc-le-suc h) c))
      (eq-or-lt_of_le l)

  clash-kernels : (ks : List Kernel) (items : List Core) (first last i : ℕ) → first ≤ i → i ≤ last → last ≤ length ks
      → Clash T (cell_from G (of_kernels (slice i last ks) ++ items)) → Clash T (cell_from G (of_kernels (slice first last ks) ++ items))
  unfolding of_kernels
  clash-kernels ks items first last zero l h f c = let z : first ≡ 0 = omega arith in rw z c
  clash-kernels ks items first last (suc i) l h f c =
      ⊎_elim (λ e. rw e c) (λ m. clash-kernels ks items first last i (le_of_suc-le-suc m) (omega arith) f (before m)) (eq-or-lt_of_le l)
    where
      cut : slice i last ks ≡ kernel_at ks i ∷ slice (suc i) last ks
      cut = rw (add-one i) at (lines_next ks h f)

      before : first < suc i → Clash T (cell_from G (of_kernels (slice i last ks) ++ items))
      before m =
          let k : Kernel = kernel_at ks i in
          rw cut (clash-item k.rule k.dot (set_of k.lookaheads) (of_kernels (slice (suc i) last ks) ++ items) c)

-- ---- the rules that a closure has

module _ {b : Book} {F : Sets} {rules closures : List ℕ} (g : GrammarIn b rules) (k : ClosuresIn b F closures) {S P : ℕ} (s : Stands b S P 0)
    {left : ℕ} (left_is : left ≡ get_or rules (10 * P) 0) (items : List Core) where
  word_set : get_or closures (32 * S + left) 0 ≡ set_at (closure_sets b F S) (left_of b.rules P)
  word_set = set_word g k s.state_there s.rule_there left_is

  pub rule-idle : get_or closures (32 * S + left) 0 ≡ 0 → {T : ℕ} {old : List ℕ} → Row T S (cell_from b.rules items) old
      → Melded T S (cell_from b.rules (entered P (set_at (closure_sets b F S) (left_of b.rules P)) items)) old old true
  unfolding entered
  rule-idle z row = rw (sym word_set ∙ z) (melded-none row)

  pub rule-busy : (get_or closures (32 * S + left) 0 ≡ 0 → ⊥) → {T : ℕ} {old new : List ℕ} {r : Bool}
      → Melded T S (item_cells P (get_or closures (32 * S + left) 0) (after b.rules P 0) (cell_from b.rules items)) old new r
      → Melded T S (cell_from b.rules (entered P (set_at (closure_sets b F S) (left_of b.rules P)) items)) old new r
  rule-busy n {T} {old} {new} {r} m = go (set_at (closure_sets b F S) (left_of b.rules P)) (rw word_set at n) (rw word_set at m)
    where
      go : (M : ℕ) → (M ≡ 0 → ⊥) → Melded T S (item_cells P M (after b.rules P 0) (cell_from b.rules items)) old new r
          → Melded T S (cell_from b.rules (entered P M items)) old new r
      go zero n m = absurd (n refl)
      go (suc M) n m = unfold entered cell_from in m

-- the rules below one are done, and the others that the closure has are among the bits of `rest`
pub record RulesActing (rules closures fronts : List ℕ) (T S : ℕ) (old now : List ℕ) (rest : ℕ) : Type 0 where
  pub long : length now ≡ length old
  pub done : ℕ
  pub walk : (b : Book) → S < b.states → FrontsIn b rules closures fronts → Rest rules closures S (length b.rules) rest done
  pub so_far : (b : Book) (F : Sets) → GrammarIn b rules → ClosuresIn b F closures → S < b.states → T ≡ b.terminals
      → FrontsIn b rules closures fronts → Row T S (cell_from b.rules []) old
      → Melded T S (cell_from b.rules (of_rules b.rules (closure_sets b F S) done)) old now true

pub acting-none : (rules closures fronts : List ℕ) (T S : ℕ) (old : List ℕ) → RulesActing rules closures fronts T S old old (get_or fronts S 0)
unfolding of_rules
acting-none rules closures fronts T S old = record {
  long = refl;
  done = 0;
  walk = λ b s W. rest-first W s;
  so_far = λ b F g k s t W row. melded-none row;
}

module _ {rules closures fronts : List ℕ} {T S : ℕ} {old now : List ℕ} {rest : ℕ} (k : RulesActing rules closures fronts T S old now rest) where
  pub acting-all : rest ≡ 0 → (b : Book) (F : Sets) → GrammarIn b rules → ClosuresIn b F closures → S < b.states → T ≡ b.terminals
      → FrontsIn b rules closures fronts → Row T S (cell_from b.rules []) old
      → Melded T S (cell_from b.rules (of_rules b.rules (closure_sets b F S) (length b.rules))) old now true
  acting-all z b F g h s t W row =
      let R : Rest rules closures S (length b.rules) rest k.done = k.walk b s W in
      rw (idle-rules g h s k.done (length b.rules) R.within (omega arith) (rest-none R z)) (k.so_far b F g h s t W row)

  -- the next rule
  module _ {rule : ℕ} (least : Least rest rule) where
    pub acting-stands : (b : Book) → S < b.states → FrontsIn b rules closures fronts → Stands b S rule 0
    acting-stands b s W = record { state_there = s; rule_there = (rest-there (k.walk b s W) least).1; dot_there = zero-le }

    module _ {new : List ℕ} {r : Bool}
        (f : (b : Book) (F : Sets) (items : List Core) → GrammarIn b rules → ClosuresIn b F closures → Stands b S rule 0 → T ≡ b.terminals
        → Row T S (cell_from b.rules items) now
        → Melded T S (cell_from b.rules (entered rule (set_at (closure_sets b F S) (left_of b.rules rule)) items)) now new r) where
      next-rule : (b : Book) (F : Sets) → GrammarIn b rules → ClosuresIn b F closures → S < b.states → T ≡ b.terminals
          → FrontsIn b rules closures fronts → Row T S (cell_from b.rules []) old
          → Melded T S (cell_from b.rules (of_rules b.rules (closure_sets b F S) (rule + 1))) old new r
      unfolding of_rules
      next-rule b F g h s t W row =
          let R : Rest rules closures S (length b.rules) rest k.done = k.walk b s W in
          let (after-done, there) = rest-there R least in
          let left_out : of_rules b.rules (closure_sets b F S) rule ≡ of_rules b.rules (closure_sets b F S) k.done =
          idle-rules g h s k.done rule after-done (omega arith) (rest-idle R least) in
          let m : Melded T S (cell_from b.rules (of_rules b.rules (closure_sets b F S) rule)) old now true =
          rw left_out (k.so_far b F g h s t W row) in
          rw (add-one rule) (melded-then m (f b F (of_rules b.rules (closure_sets b F S) rule) g h (acting-stands b s W) t (m.row refl)))

      pub acting-more : r ≡ true → length new ≡ length now → {next : ℕ} → Cleared rest rule next → RulesActing rules closures fronts T S old new next
      acting-more q e next-is = record {
        long = e ∙ k.long;
        done = rule + 1;
        walk = λ b s W. rest_more (k.walk b s W) least next-is;
        so_far = λ b F g h s t W row. rw q at (next-rule b F g h s t W row);
      }

      pub acting-fail : r ≡ false → (b : Book) (F : Sets) → GrammarIn b rules → ClosuresIn b F closures → S < b.states → T ≡ b.terminals
          → FrontsIn b rules closures fronts → Row T S (cell_from b.rules []) old
          → Melded T S (cell_from b.rules (of_rules b.rules (closure_sets b F S) (length b.rules))) old new false
      acting-fail q b F g h s t W row =
          let there : rule < length b.rules = (rest-there (k.walk b s W) least).1 in
          melded-clash (clash-rules b.rules (closure_sets b F S) (length b.rules) (rule + 1) (omega arith)
          ((next-rule b F g h s t W row).clash q))

-- ---- the kernel lines of a state, from the last on

-- the lines from i on are done
pub record KernelsActing (rules kernels bounds : List ℕ) (T S first : ℕ) (old now : List ℕ) (i : ℕ) : Type 0 where
  pub first_is : first ≡ get_or bounds S 0
  pub low : first ≤ i
  pub within : i ≤ get_or bounds (S + 1) 0
  pub long : length now ≡ length old
  pub so_far : (b : Book) (items : List Core) → StatesIn b rules kernels bounds → S < b.states → T ≡ b.terminals → Row T S (cell_from b.rules items) old
      → Melded T S (cell_from b.rules (of_kernels (slice i (get_or bounds (S + 1) 0) b.kernels) ++ items)) old now true

pub kernels-none : (rules kernels bounds : List ℕ) (T S : ℕ) {first last : ℕ} (old : List ℕ) → first ≡ get_or bounds S 0 → last ≡ get_or bounds (S + 1) 0
    → first ≤ last → KernelsActing rules kernels bounds T S first old old last
unfolding of_kernels
kernels-none rules kernels bounds T S old first_is last_is l = record {
  first_is = first_is;
  low = l;
  within = omega arith;
  long = refl;
  so_far = λ b items h s t row. rw (last_is, slice_empty (get_or bounds (S + 1) 0) b.kernels) (melded-none row);
}

module _ {rules kernels bounds : List ℕ} {T S first : ℕ} {old now : List ℕ} {i : ℕ} (k : KernelsActing rules kernels bounds T S first old now i) where
  pub kernels-all : i ≤ first → (b : Book) (items : List Core) → StatesIn b rules kernels bounds → S < b.states → T ≡ b.terminals
      → Row T S (cell_from b.rules items) old → Melded T S (cell_from b.rules (of_kernels (kernels_in b.kernels S) ++ items)) old now true
  kernels-all l b items h s t row =
      let e : i ≡ get_or bounds S 0 = omega (arith, k.low, k.first_is) in
      rw (state-range h S s).lines_are (rw e at (k.so_far b items h s t row))

  module _ (l : first < i) where
    -- the line before i
    pub line-there : (b : Book) → StatesIn b rules kernels bounds → S < b.states → i - 1 < length b.kernels
    line-there b h s = omega (arith, (state-range h S s).within, k.within)

    module _ {rule dot : ℕ} (rule_is : rule ≡ get_or kernels (5 * (i - 1) + 1) 0) (dot_is : dot ≡ get_or kernels (5 * (i - 1) + 2) 0) {new : List ℕ} {r : Bool}
        (f : (b : Book) (cells : ℕ → Cell) → GrammarIn b rules → Stands b S rule dot → T ≡ b.terminals → Row T S cells now
        → Melded T S (item_cells rule (get_or kernels (5 * (i - 1) + 4) 0) (after b.rules rule dot) cells) now new r) where
      next_line : (b : Book) (items : List Core) → StatesIn b rules kernels bounds → S < b.states → T ≡ b.terminals → Row T S (cell_from b.rules items) old
          → Melded T S (cell_from b.rules (of_kernels (slice (i - 1) (get_or bounds (S + 1) 0) b.kernels) ++ items)) old new r
      unfolding of_kernels cell_from
      next_line b items h s t row =
          let last : ℕ = get_or bounds (S + 1) 0 in
          let inside : i - 1 < length b.kernels = line-there b h s in
          let up : i - 1 + 1 ≡ i = omega arith in
          let below : i - 1 < last = omega (arith, k.within) in
          let cut : slice (i - 1) last b.kernels ≡ kernel_at b.kernels (i - 1) ∷ slice i last b.kernels =
          rw up at (lines_next b.kernels below (state-range h S s).within) in
          let m : Melded T S (cell_from b.rules (of_kernels (slice i last b.kernels) ++ items)) old now true = k.so_far b items h s t row in
          let stands : Stands b S rule dot = kernel-stands h s inside rule_is dot_is in
          let n = f b (cell_from b.rules (of_kernels (slice i last b.kernels) ++ items)) h.grammar_in stands t (m.row refl) in
          let lines : KernelsIn b.kernels kernels = h.kernels-in in
          rw cut
          (melded-then m
          (rw (rule_is, dot_is, lines.rule_is (i - 1) inside, lines.dot_is (i - 1) inside, lines.set_is (i - 1) inside) at n))

      pub kernels-more : r ≡ true → length new ≡ length now → KernelsActing rules kernels bounds T S first old new (i - 1)
      kernels-more q e = record {
        first_is = k.first_is;
        low = omega arith;
        within = omega (arith, k.within);
        long = e ∙ k.long;
        so_far = λ b items h s t row. rw q at (next_line b items h s t row);
      }

      pub kernels-fail : r ≡ false → (b : Book) (items : List Core) → StatesIn b rules kernels bounds → S < b.states → T ≡ b.terminals
          → Row T S (cell_from b.rules items) old → Melded T S (cell_from b.rules (of_kernels (kernels_in b.kernels S) ++ items)) old new false
      kernels-fail q b items h s t row =
          let range : Range b S (get_or bounds S 0) (get_or bounds (S + 1) 0) = state-range h S s in
          rw range.lines_are
          (melded-clash (clash-kernels b.rules b.kernels items (get_or bounds S 0) (get_or bounds (S + 1) 0) (i - 1) (omega (arith, k.first_is))
          (omega (arith, k.within)) range.within ((next_line b items h s t row).clash q)))

-- ---- all items of a state

clash-append : (G : List Rule) {T : ℕ} (ks : List Kernel) (items : List Core) → Clash T (cell_from G items) → Clash T (cell_from G (of_kernels ks ++ items))
unfolding of_kernels
clash-append G [] items c = c
clash-append G (k ∷ ks) items c = clash-item G k.rule k.dot (set_of k.lookaheads) (of_kernels ks ++ items) (clash-append G ks items c)

module _ (b : Book) (F : Sets) {T S : ℕ} where
  pub state-fail : {old mid new : List ℕ} → Melded T S (cell_from b.rules (of_rules b.rules (closure_sets b F S) (length b.rules))) old mid false
      → Melded T S (cell_from b.rules (core_items b F S)) old new false
  unfolding core_items
  state-fail m = melded-clash (clash-append b.rules (kernels_in b.kernels S) _ (m.clash refl))

  pub state-rest : {old mid new : List ℕ} {r : Bool}
      → Melded T S (cell_from b.rules (of_rules b.rules (closure_sets b F S) (length b.rules))) old mid true
      → Melded T S (cell_from b.rules (of_kernels (kernels_in b.kernels S) ++ of_rules b.rules (closure_sets b F S) (length b.rules))) mid new r
      → Melded T S (cell_from b.rules (core_items b F S)) old new r
  unfolding core_items
  state-rest m n = melded-then m n
