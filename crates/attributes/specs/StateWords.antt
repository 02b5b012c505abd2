-- Where the words of a state speak of an item of its closure: at a kernel line, or at the left side of a rule whose dot is in front. Assumes nothing.
use Rattle.std.specs.Prelude.{ℕ, ◌+◌, ◌*◌, ◌^◌, ◌<◌, ◌≤◌, ◌≡◌, ◌⊎◌, true, length, get_or, take}
use Rattle.std.proofs.Common.{arith, sym, ap, ◌∙◌, inl, inr, get_or-take, get_or-drop}
use mathlib.Core.List.{List, Memᴰ as Mem}
use Rattle.std.proofs.Math.Seq.{slice, length-slice}
use Rattle.sets.specs.Sets.{bit}
use Rattle.grammar.specs.Data.Symbol.{left_of}
use Rattle.grammar.specs.Data.Book.{Book, Kernel}
use Rattle.grammar.specs.Format.Ordered.{Ordered}
use Rattle.grammar.specs.BookFacts.{small-book}
use Rattle.grammar.specs.Automaton.Members.{some-not-none}
use Rattle.grammar.specs.Automaton.Fixpoint.{set_at}
use Rattle.grammar.specs.Automaton.FirstSets.{sets_of}
use Rattle.grammar.specs.Automaton.FirstSetsLaws.{sets-right}
use Rattle.grammar.specs.Automaton.Items.{kernel_item, Closure}
use Rattle.grammar.specs.Automaton.KernelLines.{in-state}
use Rattle.grammar.specs.Automaton.ClosureSets.{closure_sets}
use Rattle.grammar.specs.Automaton.ClosureLaws.{Shape, closure-shape, closure-family}
use Rattle.grammar.specs.Automaton.Small.{SmallBook}
use Rattle.grammar.specs.Data.ListLaws.{member-at}
use Rattle.book.specs.Held.{no_kernel, kernel_at}
use Rattle.automaton.specs.StatesIn.{ItemsIn, Range, state-range}

-- a kernel line from `first` on, before `last`, of the item (P, D)
pub record InLine (kernels : List ℕ) (first last P D : ℕ) : Type 0 where
  pub line : ℕ
  pub low : first ≤ line
  pub high : line < last
  pub rule_is : get_or kernels (5 * line + 1) 0 ≡ P
  pub dot_is : get_or kernels (5 * line + 2) 0 ≡ D

-- the nonterminal A has lookaheads in the closure whose words stand from `first` on
pub record InFront (closures : List ℕ) (first A : ℕ) : Type 0 where
  pub below : A < 32
  pub fits : get_or closures (first + A) 0 < 2 ^ 32
  pub some : get_or closures (first + A) 0 ≡ 0 → ⊥

module _ {b : Book} {rules kernels bounds closures : List ℕ} (ordered : Ordered b) (I : ItemsIn b (sets_of b.rules) rules kernels bounds closures)
    {S first last : ℕ} (s : S < b.states) (first_is : first ≡ get_or bounds S 0) (last_is : last ≡ get_or bounds (S + 1) 0) where
  small : SmallBook b
  small = small-book ordered I.states_in.grammar_in.limits I.states_in.grammar_in.declared

  range : Range b S first last
  range = rw (first_is, last_is) (state-range I.states_in S s)

  kernel-line : {P D : ℕ} {k : Kernel} → Mem k b.kernels → k.state ≡ S → k.rule ≡ P → k.dot ≡ D → InLine kernels first last P D
  kernel-line {P} {D} {k} m of_state rule dot =
      let part : Mem k (slice first last b.kernels) = rw range.lines_are at (in-state m of_state) in
      let (j, h, e) = member-at (slice first last b.kernels) no_kernel part in
      let below : first + j < last = omega (arith, h, length-slice first last b.kernels range.within) in
      let is : kernel_at b.kernels (first + j) ≡ k =
      sym (get_or-take last b.kernels (first + j) no_kernel below) ∙ sym (get_or-drop first (take last b.kernels) j no_kernel) ∙ e in
      let inside : first + j < length b.kernels = omega (arith, range.within) in
      let words = I.states_in.kernels-in in
      record {
        line = first + j;
        low = omega arith;
        high = below;
        rule_is = words.rule_is (first + j) inside ∙ ap (λ (x : Kernel). x.rule) is ∙ rule;
        dot_is = words.dot_is (first + j) inside ∙ ap (λ (x : Kernel). x.dot) is ∙ dot;
      }

  front-word : {P : ℕ} (a : ℕ) → P < length b.rules → bit (set_at (closure_sets b (sets_of b.rules) S) (left_of b.rules P)) a ≡ true
      → InFront closures (32 * S) (left_of b.rules P)
  front-word {P} a h e =
      let A : ℕ = left_of b.rules P in
      let w : ℕ = set_at (closure_sets b (sets_of b.rules) S) A in
      let low : A < 32 = small.small_rules.left_low P h in
      let is : get_or closures (32 * S + A) 0 ≡ w = I.closures_in.set_is S A s low in
      let small_word : w < 2 ^ 32 = (closure-family small (sets-right b.rules small.small_rules) S).low A in
      record { below = low; fits = rw is small_word; some = λ z. some-not-none w a e (sym is ∙ z) }

  -- an item of the closure
  pub located : {P D a : ℕ} → Closure b S P D a → InLine kernels first last P D ⊎ ((D ≡ 0) × InFront closures (32 * S) (left_of b.rules P))
  located {P} {D} {a} c = by (closure-shape small (sets-right b.rules small.small_rules) c)
    where
      by : Shape b (sets_of b.rules) S P D a → InLine kernels first last P D ⊎ ((D ≡ 0) × InFront closures (32 * S) (left_of b.rules P))
      by (inl (kernel_item m q r t u)) = inl (kernel-line m q r t)
      by (inr (z, h, e)) = inr (z, front-word a h e)
