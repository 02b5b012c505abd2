-- The kernel rules (7) by a walk over the kernel lines: they hold exactly if the first line is the one of state 0, each other line may stand behind
-- the line before it, and the last line is of the last state. Assumes nothing.
use Rattle.std.specs.Prelude.{ℕ, zero, suc, ◌+◌, ◌*◌, ◌-◌, ◌<◌, ◌≤◌, ◌≡◌, ◌≢◌, Bool, true, false, None, Some, eqb, length, get_or, set}
use Rattle.std.proofs.Common.{sym, ap, subst, ◌∙◌, arith, length-set, get_or-set_same, get_or-set_other, eqb-true}
use Rattle.std.proofs.lemmas.Bool.{false≢true}
use mathlib.Core.List.{List, Memᴰ as Mem}
use Rattle.text.proofs.Positional.{by_less}
use Rattle.grammar.specs.Data.Symbol.{Symbol, Rule, symbol_at}
use Rattle.grammar.specs.Data.Book.{Book, Kernel}
use Rattle.grammar.specs.Data.ListLaws.{at-member, member-at}
use Rattle.grammar.specs.Conditions.Decides.{Decides, refutes, false_of, equivalent, eq-decides, decides-same}
use Rattle.grammar.specs.Automaton.States.{start_kernel, KernelRules}
use Rattle.grammar.specs.Automaton.StatesCheck.{kernel_rules}
use Rattle.grammar.specs.Automaton.KernelRulesLaws.{kernel_rules-decides}
use Rattle.grammar.specs.Automaton.WellNamed.{Distinct, none, next, SameItem, WellNamed}
use Rattle.book.specs.Layout.{symbol_code}
use Rattle.book.specs.Held.{kernel_at, no_kernel}
use Rattle.items.specs.Arrays.{BoundsIn}
use Rattle.items.specs.SymbolCodes.{code_same}
use Rattle.automaton.specs.KernelWords.{NamedIn, StartAlone, word_before, front-word, behind-word, before-low, Follows}
use Rattle.automaton.specs.KernelBounds.{Cut, cut-more, cut_all, cuts-done}

-- a book's rules and kernel lines in arrays, the lines in the order of their states
pub record RuledIn (b : Book) (rules kernels : List ℕ) (count : ℕ) : Type 0 where
  pub named_in : NamedIn b rules kernels
  pub well_named : WellNamed b
  pub ascend : (i j : ℕ) → i ≤ j → j < length b.kernels → (kernel_at b.kernels i).state ≤ (kernel_at b.kernels j).state
  pub counted : count ≡ length b.kernels

-- ---- the walk

-- the first i lines are right, and where the lines of their states and of the next begin is known
pub record Walked (b : Book) (bounds : List ℕ) (i : ℕ) : Type 0 where
  pub some : 0 < i
  pub within : i ≤ length b.kernels
  pub first : kernel_at b.kernels 0 ≡ start_kernel
  pub follow : (j : ℕ) → 0 < j → j < i → Follows b.rules (kernel_at b.kernels (j - 1)) (kernel_at b.kernels j)
  pub long : b.states + 1 ≤ length bounds
  pub cuts : (S : ℕ) → S ≤ (kernel_at b.kernels (i - 1)).state + 1 → Cut b.kernels i S (get_or bounds S 0)

-- the first line
walked-first : {b : Book} (bounds : List ℕ) → 0 < length b.kernels → kernel_at b.kernels 0 ≡ start_kernel → 0 < b.states
    → b.states + 1 ≤ length bounds → Walked b (set (set bounds 0 0) 1 1) 1
walked-first {b} bounds h e s l =
    record {
      some = omega arith;
      within = h;
      first = e;
      follow = λ j p q. absurd (omega arith);
      long = simp length-set l;
      cuts = λ S q. by_less S 1 (λ z. first-cut S (omega arith)) (λ z. second-cut S (omega (arith, state-zero)));
    }
  where
    state-zero : (kernel_at b.kernels 0).state ≡ 0
    state-zero = ap (λ (k : Kernel). k.state) e

    first-cut : (S : ℕ) → S ≡ 0 → Cut b.kernels 1 S (get_or (set (set bounds 0 0) 1 1) S 0)
    first-cut S z =
        let w : get_or (set (set bounds 0 0) 1 1) 0 0 ≡ 0 =
        get_or-set_other (set bounds 0 0) 1 0 1 0 (λ q. omega arith) ∙ get_or-set_same bounds 0 0 0 (omega arith) in
        rw (z, w) (record { within = omega arith; lower = λ i p. absurd (omega arith); upper = λ i p q. omega arith })

    second-cut : (S : ℕ) → S ≡ 1 → Cut b.kernels 1 S (get_or (set (set bounds 0 0) 1 1) S 0)
    second-cut S z =
        let w : get_or (set (set bounds 0 0) 1 1) 1 0 ≡ 1 = get_or-set_same (set bounds 0 0) 1 1 0 (omega (arith, length-set bounds 0 0)) in
        rw (z, w) (cut_all (λ i p. let q : i ≡ 0 = omega arith in rw q (omega (arith, state-zero))))

-- the state stays or is the next
follow-state : {G : List Rule} {k l : Kernel} → Follows G k l → l.state ≤ k.state + 1
follow-state {k = k} {l = l} F = by_less k.state l.state (λ m. omega (arith, F.next (λ z. omega arith))) (λ m. omega arith)

-- no line behind the first is the same
apart-first : {ks : List Kernel} → Distinct SameItem ks → (i : ℕ) → 0 < i → i < length ks → kernel_at ks 0 ≢ kernel_at ks i
apart-first none i p h e = absurd (omega arith)
apart-first (next apart d) zero p h e = absurd (omega arith)
apart-first (next {l = ks} apart d) (suc i) p h e =
    apart (kernel_at ks i) (at-member ks i no_kernel (omega arith)) (record { same_state = cc; same_rule = cc; same_dot = cc })

module _ {b : Book} {rules kernels : List ℕ} {count : ℕ} (H : RuledIn b rules kernels count) where
  abbrev line_at : ℕ → Kernel
  line_at i = kernel_at b.kernels i

  -- by the words of the first line
  pub walked_start : (bounds : List ℕ) {states : ℕ} → (count ≡ 0 → ⊥) → states ≡ b.states → states + 1 ≤ length bounds
      → {t : Bool} → Decides t (line_at 0 ≡ start_kernel) → t ≡ true → Walked b (set (set bounds 0 0) 1 1) 1
  walked_start bounds n s l d r =
      let some : 0 < length b.kernels = omega (arith, H.counted) in
      walked-first bounds some (d.sound r) (omega (arith, H.named_in.state_there 0 some)) (omega arith)

  -- a line more
  walked_on : {bounds : List ℕ} {i : ℕ} → Walked b bounds i → i < length b.kernels → Follows b.rules (line_at (i - 1)) (line_at i)
      → Walked b (set bounds ((line_at i).state + 1) (i + 1)) (i + 1)
  walked_on {bounds} {i} W h F =
      record {
        some = omega arith;
        within = omega arith;
        first = W.first;
        follow = λ j p q. by_less j i (λ l. W.follow j p l) (λ l. let e : j ≡ i = omega arith in rw e F);
        long = simp length-set W.long;
        cuts = λ S q. by_less S (state + 1) (λ l. known S (omega arith)) (λ l. new S (omega (arith, ap (λ (j : ℕ). (line_at j).state) back)));
      }
    where
      state : ℕ
      state = (line_at i).state

      back : i + 1 - 1 ≡ i
      back = omega arith

      known : (S : ℕ) → S ≤ state → Cut b.kernels (i + 1) S (get_or (set bounds (state + 1) (i + 1)) S 0)
      known S l =
          rw (get_or-set_other bounds (state + 1) S (i + 1) 0 (λ e. omega arith))
          (cut-more (W.cuts S (omega (arith, follow-state F))) l)

      new : (S : ℕ) → S ≡ state + 1 → Cut b.kernels (i + 1) S (get_or (set bounds (state + 1) (i + 1)) S 0)
      new S e =
          let w : get_or (set bounds (state + 1) (i + 1)) (state + 1) 0 ≡ i + 1 =
          get_or-set_same bounds (state + 1) (i + 1) 0 (omega (arith, W.long, H.named_in.state_there i h)) in
          rw (e, w) (cut_all (λ j q. omega (arith, H.ascend j i (omega arith) h)))

  -- by the word of its state
  module _ {bounds : List ℕ} {i w : ℕ} (W : Walked b bounds i) (h : i < count) (e : w ≡ get_or kernels (5 * i) 0) where
    inside : i < length b.kernels
    inside = omega (arith, H.counted)

    word_is : w ≡ (line_at i).state
    word_is = e ∙ H.named_in.spelled_in.kernels-in.state_is i inside

    pub walked-place : w + 1 < length bounds
    walked-place = omega (arith, word_is, H.named_in.state_there i inside, W.long)

    pub walked_more : {t : Bool} → Decides t (Follows b.rules (line_at (i - 1)) (line_at i)) → t ≡ true
        → Walked b (set bounds (w + 1) (i + 1)) (i + 1)
    walked_more d r = rw word_is (walked_on W inside (d.sound r))

  -- ---- the rules hold: each line is right

  module _ (K : KernelRules b) where
    -- each state has a line
    line_of : (S : ℕ) → S < b.states → (j : ℕ) × (j < length b.kernels) × ((line_at j).state ≡ S)
    line_of zero l = let (j, h, e) = member-at b.kernels no_kernel K.start_there in (j, h, ap (λ (k : Kernel). k.state) e)
    line_of (suc S) l =
        let (k, m, s) = K.has_kernel (suc S) (omega arith) l in
        let (j, h, e) = member-at b.kernels no_kernel m in
        (j, h, ap (λ (k : Kernel). k.state) e ∙ s)

    some-line : 0 < length b.kernels
    some-line = let (j, h, e) = member-at b.kernels no_kernel K.start_there in omega arith

    first_is : line_at 0 ≡ start_kernel
    first_is =
        let (j, h, e) = member-at b.kernels no_kernel K.start_there in
        let s : (line_at j).state ≡ 0 = ap (λ (k : Kernel). k.state) e in
        K.start_only (line_at 0) (at-member b.kernels 0 no_kernel some-line) (omega (arith, H.ascend 0 j (omega arith) h))

    -- state 0 has the first line alone
    later : (i : ℕ) → 0 < i → i < length b.kernels → (line_at i).state ≢ 0
    later i p h z =
        apart-first H.well_named.distinct_kernels i p h
        (first_is ∙ sym (K.start_only (line_at i) (at-member b.kernels i no_kernel h) z))

    last_is : (line_at (length b.kernels - 1)).state + 1 ≡ b.states
    last_is =
        let there = H.named_in.state_there (length b.kernels - 1) (omega (arith, some-line)) in
        let (j, h, e) = line_of (b.states - 1) (omega arith) in
        omega (arith, H.ascend j (length b.kernels - 1) (omega arith) (omega arith))

    module _ (i : ℕ) (p : 0 < i) (h : i < length b.kernels) where
      abbrev here : Kernel
      here = line_at i

      abbrev before : Kernel
      before = line_at (i - 1)

      here_in : Mem here b.kernels
      here_in = at-member b.kernels i no_kernel h

      before-in : Mem before b.kernels
      before-in = at-member b.kernels (i - 1) no_kernel (omega arith)

      -- no state is left out
      next-state : here.state ≢ before.state → here.state ≡ before.state + 1
      next-state n =
          by_less (before.state + 1) here.state
          (λ less. let (j, l, e) = line_of (before.state + 1) (omega (arith, H.named_in.state_there i h)) in
          absurd (by_less j i (λ q. let z : ⊥ = omega (arith, H.ascend j (i - 1) (omega arith) (omega arith)) in z)
          (λ q. let z : ⊥ = omega (arith, H.ascend i j q l) in z)))
          (λ more. omega (arith, H.ascend (i - 1) i (omega arith) h))

      follow-is : Follows b.rules before here
      follow-is =
          record {
            behind = behind;
            alone = K.start_lookahead here here_in;
            same = λ e. sym (behind-word b.rules here behind)
                ∙ ap (λ (X : Symbol). Some (symbol_code X)) (K.one_symbol here before here_in before-in (later i p h) e)
                ∙ behind-word b.rules before (K.dots before before-in (λ z. later i p h (e ∙ z)));
            next = next-state;
          }
        where
          behind : 1 ≤ here.dot
          behind = K.dots here here_in (later i p h)

  -- ---- each line is right: the rules hold

  module _ {bounds : List ℕ} (W : Walked b bounds (length b.kernels)) where
    state-zero : (line_at 0).state ≡ 0
    state-zero = ap (λ (k : Kernel). k.state) W.first

    -- each line but the first stands right behind another
    line-follows : (i : ℕ) → suc i < length b.kernels → Follows b.rules (line_at i) (line_at (suc i))
    line-follows i h = let e : suc i - 1 ≡ i = omega arith in rw e at (W.follow (suc i) (omega arith) h)

    -- no other line is of state 0: its dot would be in front
    past-zero : (i : ℕ) → 0 < i → i < length b.kernels → (line_at i).state ≢ 0
    past-zero i p h z =
        let F : Follows b.rules (line_at 0) (line_at 1) = line-follows 0 (omega arith) in
        let e : (line_at 1).state ≡ (line_at 0).state = omega (arith, H.ascend 1 i (omega arith) h, state-zero) in
        let none : word_before b.rules (line_at 1) ≡ None = F.same e ∙ front-word b.rules (line_at 0) (ap (λ (k : Kernel). k.dot) W.first) in
        let some = behind-word b.rules (line_at 1) F.behind in
        cc

    not_first : (i : ℕ) → (line_at i).state ≢ 0 → 0 < i
    not_first zero n = absurd (n state-zero)
    not_first (suc i) n = omega arith

    dot-behind : (i : ℕ) → i < length b.kernels → (line_at i).state ≢ 0 → 1 ≤ (line_at i).dot
    dot-behind i h n = (W.follow i (not_first i n) h).behind

    -- each state up to that of a line has one
    found : (i : ℕ) → i < length b.kernels → (S : ℕ) → S ≤ (line_at i).state → (j : ℕ) × (j < length b.kernels) × ((line_at j).state ≡ S)
    found zero h S l = (0, h, omega (arith, state-zero))
    found (suc i) h S l =
        let F : Follows b.rules (line_at i) (line_at (suc i)) = line-follows i h in
        by_less S (line_at (suc i)).state (λ less. found i (omega arith) S (omega (arith, follow-state F))) (λ all. (suc i, h, omega arith))

    -- lines of one state have one word before their dots
    one_word : (i j : ℕ) → i ≤ j → j < length b.kernels → (line_at i).state ≡ (line_at j).state
        → word_before b.rules (line_at i) ≡ word_before b.rules (line_at j)
    one_word i zero l h e = let z : i ≡ 0 = omega arith in rw z
    one_word i (suc j) l h e =
        let F : Follows b.rules (line_at j) (line_at (suc j)) = line-follows j h in
        by_less i (suc j)
        (λ less.
        let s : (line_at j).state ≡ (line_at (suc j)).state =
        omega (arith, H.ascend i j (omega arith) (omega arith), H.ascend j (suc j) (omega arith) h) in
        one_word i j (omega arith) (omega arith) (e ∙ sym s) ∙ sym (F.same (sym s)))
        (λ all. let z : i ≡ suc j = omega arith in rw z)

    -- so they have one symbol
    symbols-same : (i j : ℕ) → i < length b.kernels → j < length b.kernels → (line_at i).state ≢ 0 → (line_at i).state ≡ (line_at j).state
        → symbol_at b.rules (line_at i).rule (line_at i).dot ≡ symbol_at b.rules (line_at j).rule (line_at j).dot
    symbols-same i j h l n e =
        code_same _ _ (before-low H.named_in i h) (before-low H.named_in j l)
        (let same : Some (symbol_code (symbol_at b.rules (line_at i).rule (line_at i).dot)) ≡ Some (symbol_code (symbol_at b.rules (line_at j).rule (line_at j).dot)) =
        behind-word b.rules (line_at i) (dot-behind i h n)
        ∙ by_less i j (λ o. one_word i j (omega arith) l e) (λ o. sym (one_word j i o h (sym e)))
        ∙ sym (behind-word b.rules (line_at j) (dot-behind j l (λ z. n (e ∙ z)))) in
        cc)

    start-lines : (i : ℕ) → i < length b.kernels → (line_at i).state ≡ 0 → line_at i ≡ start_kernel
    start-lines zero h z = W.first
    start-lines (suc i) h z = absurd (past-zero (suc i) (omega arith) h z)

    ends-alone : (i : ℕ) → i < length b.kernels → StartAlone (line_at i)
    ends-alone zero h z = ap (λ (k : Kernel). k.lookaheads) W.first
    ends-alone (suc i) h z = (line-follows i h).alone z

    -- what holds of each line by its number
    each_line : (Q : Kernel → Type 0) → ((i : ℕ) → i < length b.kernels → Q (line_at i)) → (k : Kernel) → Mem k b.kernels → Q k
    each_line Q f k m = let (i, h, e) = member-at b.kernels no_kernel m in subst Q e (f i h)

    rules-hold : (line_at (length b.kernels - 1)).state + 1 ≡ b.states → KernelRules b
    rules-hold last =
        record {
          start_there = rw W.first at (at-member b.kernels 0 no_kernel W.some);
          start_only = each_line (λ k. k.state ≡ 0 → k ≡ start_kernel) start-lines;
          has_kernel = λ S p l.
              let (j, h, e) = found (length b.kernels - 1) (omega (arith, W.some)) S (omega arith) in
              (line_at j, at-member b.kernels j no_kernel h, e);
          dots = each_line (λ k. k.state ≢ 0 → 1 ≤ k.dot) dot-behind;
          one_symbol = λ k l m m'.
              each_line (λ k. k.state ≢ 0 → k.state ≡ l.state → symbol_at b.rules k.rule k.dot ≡ symbol_at b.rules l.rule l.dot)
              (λ i h. each_line (λ l. (line_at i).state ≢ 0 → (line_at i).state ≡ l.state
              → symbol_at b.rules (line_at i).rule (line_at i).dot ≡ symbol_at b.rules l.rule l.dot)
              (λ j q. symbols-same i j h q) l m') k m;
          start_lookahead = each_line StartAlone ends-alone;
        }

    -- and it is known where the lines of each state begin
    bounds-known : (line_at (length b.kernels - 1)).state + 1 ≡ b.states → BoundsIn b.kernels b.states bounds
    bounds-known last = cuts-done b.kernels b.states bounds W.long H.named_in.state_there (λ S l. W.cuts S (omega arith))

-- ---- what the walk over all lines tells

pub record Walks (b : Book) (r : Bool) (bounds : List ℕ) : Type 0 where
  pub right : r ≡ true → Walked b bounds (length b.kernels)
  pub wrong : r ≡ false → KernelRules b → ⊥

-- what the whole test tells
pub record Ruled (b : Book) (r : Bool) (bounds : List ℕ) : Type 0 where
  pub told : r ≡ kernel_rules b
  pub bounds_in : r ≡ true → BoundsIn b.kernels b.states bounds

module _ {b : Book} {rules kernels : List ℕ} {count : ℕ} (H : RuledIn b rules kernels count) {bounds : List ℕ} where
  pub walks-all : {i : ℕ} → Walked b bounds i → count ≤ i → Walks b true bounds
  walks-all {i} W h = record { right = λ _. rw e at W; wrong = λ f. absurd (false≢true (sym f)) }
    where
      e : i ≡ length b.kernels
      e = omega (arith, W.within, H.counted)

  pub walks-fails : {i : ℕ} → 0 < i → i < count → {t : Bool}
      → Decides t (Follows b.rules (kernel_at b.kernels (i - 1)) (kernel_at b.kernels i)) → t ≡ false → Walks b false bounds
  walks-fails {i} p h d f = record {
    right = λ z. absurd (false≢true z);
    wrong = λ _ K. refutes (rw f at d) (follow-is H K i p (omega (arith, H.counted)));
  }

  refused : (KernelRules b → ⊥) → Ruled b false bounds
  refused n = record { told = sym (false_of (kernel_rules-decides H.well_named) n); bounds_in = λ z. absurd (false≢true z) }

  -- there is no line
  pub ruled-none : count ≡ 0 → Ruled b false bounds
  ruled-none z = refused λ K. omega (arith, some-line H K, H.counted)

  pub ruled-first : {t : Bool} → Decides t (kernel_at b.kernels 0 ≡ start_kernel) → t ≡ false → Ruled b false bounds
  ruled-first d f = refused λ K. refutes (rw f at d) (first_is H K)

  pub ruled-lines : {t : Bool} → Walks b t bounds → t ≡ false → Ruled b false bounds
  ruled-lines w f = refused (w.wrong f)

  -- the last line is of the last state
  pub ruled-last : {t : Bool} → Walks b t bounds → t ≡ true → {states last : ℕ} → states ≡ b.states → last ≡ get_or kernels (5 * (count - 1)) 0
      → Ruled b (eqb (last + 1) states) bounds
  ruled-last w e {states} {last} s l = record {
    told = decides-same
        (equivalent (λ q. rules-hold H W (known q)) (λ K. omega (arith, last-state, last_is H K)) (eq-decides (last + 1) states))
        (kernel_rules-decides H.well_named);
    bounds_in = λ q. bounds-known H W (known (eqb-true (last + 1) states q));
  }
    where
      W : Walked b bounds (length b.kernels)
      W = w.right e

      last-state : last ≡ (kernel_at b.kernels (length b.kernels - 1)).state
      last-state =
          l ∙ ap (λ (n : ℕ). get_or kernels (5 * (n - 1)) 0) H.counted
          ∙ H.named_in.spelled_in.kernels-in.state_is (length b.kernels - 1) (omega (arith, W.some))

      known : last + 1 ≡ states → (kernel_at b.kernels (length b.kernels - 1)).state + 1 ≡ b.states
      known q = omega (arith, last-state)
