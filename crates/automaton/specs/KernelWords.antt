-- What kernel lines say, by their words: whether the lookaheads are t0 alone, which symbol stands before the dot, and whether a line may stand behind
-- another. Assumes nothing.
use Rattle.std.specs.Prelude.{ℕ, zero, suc, ◌+◌, ◌*◌, ◌-◌, ◌<◌, ◌≤◌, refl, Bool, true, false, ◌&&◌, Option, None, Some, List, [], ◌∷◌, eqb, length}
use Rattle.std.proofs.Math.Path.{◌≡◌, ap}
use Rattle.std.proofs.Common.{sym, ◌∙◌, arith}
use Rattle.std.specs.Option.{option_eq}
use Rattle.std.proofs.Math.ListN.{get_or}
use Rattle.grammar.specs.Limits.{MAX_RIGHT, MAX_STATES}
use Rattle.grammar.specs.Data.Symbol.{Symbol, terminal, Rule, right_of, symbol_at}
use Rattle.grammar.specs.Data.Book.{Book, Kernel}
use Rattle.grammar.specs.Format.Ordered.{before_less, before_same, Ascends, ascends-∷, lookahead_key, Lookaheads}
use Rattle.grammar.specs.Conditions.Decides.{Decides, true-decides, false-decides, refutes, equivalent, eq-decides, and-decides}
use Rattle.grammar.specs.Automaton.Small.{number_of, low-at, Small}
use Rattle.grammar.specs.Automaton.States.{start_kernel}
use Rattle.book.specs.Layout.{symbol_code, last_of}
use Rattle.book.specs.Held.{RulesIn, KernelsIn, kernel_at}
use Rattle.items.specs.SymbolCodes.{code-low}

-- kernel lines in an array, each with "one or more lookaheads, strictly ascending"
pub record SpelledIn (ks : List Kernel) (kernels : List ℕ) : Type 0 where
  pub kernels-in : KernelsIn ks kernels
  pub lookaheads : (i : ℕ) → i < length ks → Lookaheads (kernel_at ks i)

-- a book's rules and kernel lines in arrays; each line names a state and a rule and has its dot within
pub record NamedIn (b : Book) (rules kernels : List ℕ) : Type 0 where
  pub spelled_in : SpelledIn b.kernels kernels
  pub rules_in : RulesIn b.rules rules
  pub small : Small b.rules
  pub short : (P : ℕ) → P < length b.rules → length (right_of b.rules P) ≤ MAX_RIGHT
  pub few : b.states ≤ MAX_STATES
  pub state_there : (i : ℕ) → i < length b.kernels → (kernel_at b.kernels i).state < b.states
  pub rule_there : (i : ℕ) → i < length b.kernels → (kernel_at b.kernels i).rule < length b.rules
  pub dot_there : (i : ℕ) → i < length b.kernels → (kernel_at b.kernels i).dot ≤ length (right_of b.rules (kernel_at b.kernels i).rule)

-- ---- t0 alone

abbrev pub EndAlone : Kernel → Type 0
EndAlone k = k.lookaheads ≡ 0 ∷ []

last-above : (a c : ℕ) (rest : List ℕ) → Ascends lookahead_key (a ∷ []) (c ∷ rest) → a < last_of (c ∷ rest)
unfolding lookahead_key last_of
last-above a c [] (ascends-∷ (before_less h) r) = h
last-above a c [] (ascends-∷ (before_same h) r) = elim h [ ]
last-above a c (d ∷ rest) (ascends-∷ (before_less h) r) = omega (arith, last-above c d rest r)
last-above a c (d ∷ rest) (ascends-∷ (before_same h) r) = elim h [ ]

-- ascending lookaheads are t0 alone if the last is t0
last-decides : (k : Kernel) → Lookaheads k → Decides (eqb (last_of k.lookaheads) 0) (EndAlone k)
last-decides k L = go k.lookaheads L.some L.ascend
  where
    go : (l : List ℕ) → 0 < length l → Ascends lookahead_key [] l → Decides (eqb (last_of l) 0) (l ≡ 0 ∷ [])
    go [] h a = absurd (omega arith)
    go (t ∷ []) h a = unfold last_of in equivalent (λ e. cc) (λ e. cc) (eq-decides t 0)
    go (t ∷ c ∷ rest) h (ascends-∷ b r) = unfold lookahead_key last_of in
        equivalent (λ e. absurd (omega (arith, last-above t c rest r))) (λ e. let z : ◌≡◌ {A = ℕ} 0 1 = cc in absurd (omega arith))
        (eq-decides (last_of (c ∷ rest)) 0)

-- "Rule 0's kernels have t0 alone"
abbrev pub StartAlone : Kernel → Type 0
StartAlone k = k.rule ≡ 0 → EndAlone k

-- a line by its words
module _ {ks : List Kernel} {kernels : List ℕ} (H : SpelledIn ks kernels) (i : ℕ) (h : i < length ks) where
  pub line-long : 5 * i + 4 < length kernels
  line-long = omega (arith, H.kernels-in.long, H.kernels-in.fits)

  pub end-decides : Decides (eqb (get_or kernels (5 * i + 3) 0) 0) (EndAlone (kernel_at ks i))
  end-decides = rw (H.kernels-in.last_is i h) (last-decides (kernel_at ks i) (H.lookaheads i h))

  pub line_other : (get_or kernels (5 * i + 1) 0 ≡ 0 → ⊥) → Decides true (StartAlone (kernel_at ks i))
  line_other n = true-decides λ z. absurd (n (H.kernels-in.rule_is i h ∙ z))

  pub line-start : get_or kernels (5 * i + 1) 0 ≡ 0 → {t : Bool} → Decides t (EndAlone (kernel_at ks i)) → Decides t (StartAlone (kernel_at ks i))
  line-start z = equivalent (λ a e. a) (λ a. a (sym (H.kernels-in.rule_is i h) ∙ z))

-- the first line is the one that state 0 has
module _ {ks : List Kernel} {kernels : List ℕ} (H : SpelledIn ks kernels) (h : 0 < length ks) where
  abbrev StartWords : Type 0
  StartWords = (((get_or kernels 0 0 ≡ 0) × (get_or kernels 1 0 ≡ 0)) × (get_or kernels 2 0 ≡ 0)) × EndAlone (kernel_at ks 0)

  start-joined : StartWords → kernel_at ks 0 ≡ start_kernel
  start-joined w = λ j. record {
    state = (sym (H.kernels-in.state_is 0 h) ∙ w.0.0.0) j;
    rule = (sym (H.kernels-in.rule_is 0 h) ∙ w.0.0.1) j;
    dot = (sym (H.kernels-in.dot_is 0 h) ∙ w.0.1) j;
    lookaheads = w.1 j;
  }

  start-split : kernel_at ks 0 ≡ start_kernel → StartWords
  start-split e = (
    (
      (H.kernels-in.state_is 0 h ∙ ap (λ (k : Kernel). k.state) e, H.kernels-in.rule_is 0 h ∙ ap (λ (k : Kernel). k.rule) e),
      H.kernels-in.dot_is 0 h ∙ ap (λ (k : Kernel). k.dot) e,
    ),
    ap (λ (k : Kernel). k.lookaheads) e,
  )

  pub start-decides : {t : Bool} → Decides t (EndAlone (kernel_at ks 0))
      → Decides (((eqb (get_or kernels 0 0) 0 && eqb (get_or kernels 1 0) 0) && eqb (get_or kernels 2 0) 0) && t) (kernel_at ks 0 ≡ start_kernel)
  start-decides d =
      equivalent start-joined start-split
      (and-decides (and-decides (and-decides (eq-decides (get_or kernels 0 0) 0) (eq-decides (get_or kernels 1 0) 0)) (eq-decides (get_or kernels 2 0) 0)) d)

-- ---- the symbol before a dot

-- the word of the symbol before the dot; none where the dot is in front
unfoldable pub word_before : List Rule → Kernel → Option ℕ
word_before G k = elim k.dot [ zero ↦ None | suc D ↦ Some (symbol_code (symbol_at G k.rule (suc D))) ]

-- in front
pub front-word : (G : List Rule) (k : Kernel) → k.dot ≡ 0 → word_before G k ≡ None
unfolding word_before
front-word G k z = rw (z, word_before)

-- and behind a symbol
pub behind-word : (G : List Rule) (k : Kernel) → 1 ≤ k.dot → Some (symbol_code (symbol_at G k.rule k.dot)) ≡ word_before G k
unfolding word_before
behind-word G k p = go k.dot refl
  where
    go : (D : ℕ) → k.dot ≡ D → Some (symbol_code (symbol_at G k.rule k.dot)) ≡ word_before G k
    go zero e = absurd (omega arith)
    go (suc D) e = rw (e, word_before)

word-behind : (G : List Rule) (k : Kernel) {w : ℕ} → Some w ≡ word_before G k → 1 ≤ k.dot
word-behind G k s = go k.dot refl
  where
    go : (D : ℕ) → k.dot ≡ D → 1 ≤ k.dot
    go zero e = let none = front-word G k e in cc
    go (suc D) e = omega arith

-- by the words of a line
module _ {b : Book} {rules kernels : List ℕ} (H : NamedIn b rules kernels) (i : ℕ) (h : i < length b.kernels) where
  abbrev line : Kernel
  line = kernel_at b.kernels i

  pub state_low : get_or kernels (5 * i) 0 < MAX_STATES
  state_low = omega (arith, H.spelled_in.kernels-in.state_is i h, H.state_there i h, H.few)

  -- the symbol before its dot
  abbrev symbol : Symbol
  symbol = symbol_at b.rules line.rule line.dot

  pub before-low : number_of symbol < 32
  unfolding symbol_at
  before-low = low-at (right_of b.rules line.rule) (line.dot - 1) (H.small.right_low line.rule (H.rule_there i h))

  pub word_low : {w : ℕ} → Some w ≡ word_before b.rules line → w < 64
  word_low {w} e =
      let behind = behind-word b.rules line (word-behind b.rules line e) in
      let is : w ≡ symbol_code symbol = cc in
      omega (arith, code-low symbol before-low)

  -- where the dot is in front
  pub word-front : {D : ℕ} → D ≡ get_or kernels (5 * i + 2) 0 → D ≡ 0 → None ≡ word_before b.rules line
  word-front d z = sym (front-word b.rules line (sym (H.spelled_in.kernels-in.dot_is i h) ∙ sym d ∙ z))

  -- and where it is not
  module _ (P D : ℕ) (p : P ≡ get_or kernels (5 * i + 1) 0) (d : D ≡ get_or kernels (5 * i + 2) 0) (n : D ≡ 0 → ⊥) where
    rule_is : P ≡ line.rule
    rule_is = p ∙ H.spelled_in.kernels-in.rule_is i h

    dot_is : D ≡ line.dot
    dot_is = d ∙ H.spelled_in.kernels-in.dot_is i h

    position : D - 1 < length (right_of b.rules line.rule)
    position = omega (arith, H.dot_there i h, dot_is)

    few : D ≤ MAX_RIGHT
    few = omega (arith, H.dot_there i h, dot_is, H.short line.rule (H.rule_there i h))

    pub before-place : 10 * P + 1 + D < length rules
    before-place = omega (arith, few, rule_is, H.rule_there i h, H.rules_in.long)

    pub word-before : Some (get_or rules (10 * P + 1 + D) 0) ≡ word_before b.rules line
    unfolding symbol_at
    word-before =
        let at : 10 * P + 1 + D ≡ 10 * line.rule + 2 + (D - 1) = omega (arith, rule_is) in
        ap (λ (w : ℕ). Some w)
        (ap (λ (k : ℕ). get_or rules k 0) at
        ∙ H.rules_in.symbol_is line.rule (D - 1) (H.rule_there i h) position (omega (arith, few))
        ∙ ap (λ (k : ℕ). symbol_code (get_or (right_of b.rules line.rule) (k - 1) (terminal 0))) dot_is)
        ∙ behind-word b.rules line (omega (arith, dot_is))

-- ---- a line behind another

-- "all dots at least 1, one and the same symbol before every dot", and no state is left out
pub record Follows (G : List Rule) (k l : Kernel) : Type 0 where
  pub behind : 1 ≤ l.dot
  pub alone : StartAlone l
  pub same : l.state ≡ k.state → word_before G l ≡ word_before G k
  pub next : (l.state ≡ k.state → ⊥) → l.state ≡ k.state + 1

-- the word that was read is one that is there
same-word : (v : Option ℕ) (w : ℕ) → Decides (option_eq eqb v (Some w)) (v ≡ Some w)
same-word None w = false-decides λ e. cc
same-word (Some x) w = equivalent (λ e. ap (λ (n : ℕ). Some n) e) (λ e. cc) (eq-decides x w)

module _ {b : Book} {rules kernels : List ℕ} (H : NamedIn b rules kernels) (i : ℕ) (h : i < length b.kernels) where
  abbrev before : Kernel
  before = kernel_at b.kernels (i - 1)

  abbrev here : Kernel
  here = kernel_at b.kernels i

  pub follows-front : None ≡ word_before b.rules here → Decides false (Follows b.rules before here)
  follows-front none = false-decides λ F. let some = behind-word b.rules here F.behind in cc

  module _ {w : ℕ} (e : Some w ≡ word_before b.rules here) {t : Bool} (d : Decides t (StartAlone here)) where
    pub follows-start : t ≡ false → Decides false (Follows b.rules before here)
    follows-start f = false-decides λ F. refutes (rw f at d) F.alone

    module _ (a : t ≡ true) where
      dot-behind : 1 ≤ here.dot
      dot-behind = word-behind b.rules here e

      state_is : get_or kernels (5 * i) 0 ≡ here.state
      state_is = H.spelled_in.kernels-in.state_is i h

      state-before : get_or kernels (5 * (i - 1)) 0 ≡ before.state
      state-before = H.spelled_in.kernels-in.state_is (i - 1) (omega arith)

      pub follows_same : get_or kernels (5 * i) 0 ≡ get_or kernels (5 * (i - 1)) 0 → {v : Option ℕ} → v ≡ word_before b.rules before
          → Decides (option_eq eqb v (Some w)) (Follows b.rules before here)
      follows_same s {v} q =
          let z : here.state ≡ before.state = sym state_is ∙ s ∙ state-before in
          equivalent
          (λ r. record { behind = dot-behind; alone = d.sound a; same = λ _. sym e ∙ sym r ∙ q; next = λ m. absurd (m z) })
          (λ F. q ∙ sym (F.same z) ∙ sym e)
          (same-word v w)

      pub follows_next : (get_or kernels (5 * i) 0 ≡ get_or kernels (5 * (i - 1)) 0 → ⊥)
          → Decides (eqb (get_or kernels (5 * i) 0) (get_or kernels (5 * (i - 1)) 0 + 1)) (Follows b.rules before here)
      follows_next m =
          let other : here.state ≡ before.state → ⊥ = λ z. m (state_is ∙ z ∙ sym state-before) in
          equivalent
          (λ r. record {
            behind = dot-behind;
            alone = d.sound a;
            same = λ z. absurd (other z);
            next = λ _. omega (arith, state_is, state-before);
          })
          (λ F. omega (arith, F.next other, state_is, state-before))
          (eq-decides (get_or kernels (5 * i) 0) (get_or kernels (5 * (i - 1)) 0 + 1))

-- opens every definition of this module
unfoldable pub opens : Unit {0}
unfolding word_before
opens = tt
