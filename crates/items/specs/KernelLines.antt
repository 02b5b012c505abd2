-- The kernel lines from one up to another, and what they give their next nonterminals one after the other.
-- Assumes nothing.
use Rattle.std.specs.Prelude.{ℕ, zero, suc, ◌+◌, ◌*◌, ◌-◌, ◌<◌, ◌≤◌, ◌≡◌, refl, Bool, true, false, List, [], ◌∷◌, length, get_or, take, drop}
use Rattle.std.proofs.Common.{sym, ap, ◌∙◌, arith, add-one, drop-cons}
use Rattle.grammar.specs.Automaton.TestLaws.{true-false}
use Rattle.grammar.specs.Data.Symbol.{after}
use Rattle.grammar.specs.Data.Book.{Book, Kernel}
use Rattle.grammar.specs.Automaton.Fixpoint.{Constraint, visit}
use Rattle.grammar.specs.Automaton.FirstSets.{Sets}
use Rattle.grammar.specs.Automaton.ClosureSets.{set_of, derives_into, kernels_in, from_kernels}
use Rattle.book.specs.Held.{KernelsIn, kernel_at}
use Rattle.items.specs.Arrays.{BoundsIn}
use Rattle.items.specs.Passes.{Told}
use Rattle.items.specs.Derives.{GrammarIn}

-- the lines from i up to e
abbrev pub lines : List Kernel → ℕ → ℕ → List Kernel
lines ks i e = take (e - i) (drop i ks)

pub lines_none : (ks : List Kernel) (i e : ℕ) → e ≤ i → lines ks i e ≡ []
lines_none ks i e h = let z : e - i ≡ 0 = omega arith in rw z

pub lines_more : (ks : List Kernel) (i e : ℕ) → i < e → e ≤ length ks → lines ks i e ≡ kernel_at ks i ∷ lines ks (i + 1) e
lines_more ks i e h l =
    let n : e - i ≡ suc (e - suc i) = omega arith in
    let inside : i < length ks = omega arith in
    rw (add-one i, n, drop-cons ks i (record { state = 0; rule = 0; dot = 0; lookaheads = [] }))

-- a book's rules and kernel lines in arrays, with the sets of every rest of a rule; each line names a rule
pub record KernelItemsIn (b : Book) (F : Sets) (rules kernels nullables begins : List ℕ) : Type 0 where
  pub grammar_in : GrammarIn b F rules nullables begins
  pub kernels-in : KernelsIn b.kernels kernels
  pub rule_there : (i : ℕ) → i < length b.kernels → (kernel_at b.kernels i).rule < length b.rules

-- the lines of state S stand from one up to another
pub record StateIn (ks : List Kernel) (S from to : ℕ) : Type 0 where
  pub within : to ≤ length ks
  pub lines_are : kernels_in ks S ≡ lines ks from to

-- no start is past the last line
within-lines : {ks : List Kernel} {states : ℕ} {bounds : List ℕ} → BoundsIn ks states bounds → (n S : ℕ) → S + n ≡ states → get_or bounds S 0 ≤ length ks
within-lines {states = states} {bounds = bounds} H zero S e =
    let s : S ≡ states = omega arith in
    omega (arith, ap (λ (k : ℕ). get_or bounds k 0) s, H.last_is)
within-lines H (suc n) S e = omega (arith, H.ascend S (omega arith), within-lines H n (S + 1) (omega arith))

pub state-in : {ks : List Kernel} {states : ℕ} {bounds : List ℕ} → BoundsIn ks states bounds → (S : ℕ) → S < states
    → StateIn ks S (get_or bounds S 0) (get_or bounds (S + 1) 0)
state-in {states = states} H S h = record { within = within-lines H (states - (S + 1)) (S + 1) (omega arith); lines_are = H.lines_are S h }

-- by words read from the bounds
pub state-words : {ks : List Kernel} {states : ℕ} {bounds : List ℕ} → BoundsIn ks states bounds → (S : ℕ) {from to : ℕ} → S < states
    → from ≡ get_or bounds S 0 → to ≡ get_or bounds (S + 1) 0 → StateIn ks S from to
state-words H S h p q = rw (p, q) (state-in H S h)

-- what line i gives
unfoldable pub line_into : Book → Sets → ℕ → Constraint
line_into b F i = let k : Kernel = kernel_at b.kernels i in derives_into F (after b.rules k.rule k.dot) (λ _. set_of k.lookaheads)

-- by the words of the line
module _ {b : Book} {F : Sets} {rules kernels nullables begins : List ℕ} (H : KernelItemsIn b F rules kernels nullables begins) (i : ℕ)
    (h : i < length b.kernels) where
  pub line-rule : get_or kernels (5 * i + 1) 0 < length b.rules
  line-rule = rw (H.kernels-in.rule_is i h) (H.rule_there i h)

  pub line-told : {sets next : List ℕ} {r : Bool} (P D M : ℕ) → P ≡ get_or kernels (5 * i + 1) 0 → D ≡ get_or kernels (5 * i + 2) 0
      → M ≡ get_or kernels (5 * i + 4) 0 → Told (visit (derives_into F (after b.rules P D) (λ _. M)) sets) sets next r
      → Told (visit (line_into b F i) sets) sets next r
  unfolding line_into
  line-told P D M p d m t = rw (← H.kernels-in.rule_is i h, ← p, ← H.kernels-in.dot_is i h, ← d, ← H.kernels-in.set_is i h, ← m) t

-- ---- lines one after the other

-- the sets are the new ones; if nothing changed, they are the old ones
pub record Begun (new old now : List ℕ) (changed : Bool) : Type 0 where
  pub now_is : now ≡ new
  pub same_is : changed ≡ false → now ≡ old

-- before line i
pub record Beginning (rules kernels nullables begins : List ℕ) (from to : ℕ) (first now : List ℕ) (changed : Bool) (i : ℕ) : Type 0 where
  pub long : length now ≡ length first
  pub same : changed ≡ false → now ≡ first
  pub goes : (b : Book) (F : Sets) → KernelItemsIn b F rules kernels nullables begins → to ≤ length b.kernels
      → from_kernels b F (lines b.kernels i to) now ≡ from_kernels b F (lines b.kernels from to) first

-- one line more
pub lines-visit : (b : Book) (F : Sets) (i to : ℕ) (sets : List ℕ) → i < to → to ≤ length b.kernels
    → from_kernels b F (lines b.kernels i to) sets ≡ from_kernels b F (lines b.kernels (i + 1) to) (visit (line_into b F i) sets)
unfolding from_kernels line_into
lines-visit b F i to sets h l = rw (lines_more b.kernels i to h l)

module _ {rules kernels nullables begins : List ℕ} {from to : ℕ} {first : List ℕ} where
  pub begin-first : Beginning rules kernels nullables begins from to first first false from
  begin-first = record { long = refl; same = λ _. refl; goes = λ b F H l. refl }

  pub begin-ends : {now : List ℕ} {changed : Bool} {i : ℕ} → Beginning rules kernels nullables begins from to first now changed i → to ≤ i
      → (b : Book) (F : Sets) → KernelItemsIn b F rules kernels nullables begins → to ≤ length b.kernels
      → Begun (from_kernels b F (lines b.kernels from to) first) first now changed
  unfolding from_kernels
  begin-ends {i = i} B h b F H l =
      record { now_is = rw (lines_none b.kernels i to h) at (B.goes b F H l); same_is = B.same }

  module _ {now next : List ℕ} {changed r : Bool} {i : ℕ} (B : Beginning rules kernels nullables begins from to first now changed i) (h : i < to)
      (T : (b : Book) (F : Sets) → KernelItemsIn b F rules kernels nullables begins → i < length b.kernels → Told (visit (line_into b F i) now) now next r)
      (l : length next ≡ length now) where
    next-goes : (b : Book) (F : Sets) → KernelItemsIn b F rules kernels nullables begins → to ≤ length b.kernels
        → from_kernels b F (lines b.kernels (i + 1) to) next ≡ from_kernels b F (lines b.kernels from to) first
    next-goes b F H m =
        ap (from_kernels b F (lines b.kernels (i + 1) to)) (T b F H (omega arith)).now_is ∙ sym (lines-visit b F i to now h m) ∙ B.goes b F H m

    pub begin-more : Beginning rules kernels nullables begins from to first next true (i + 1)
    begin-more = record { long = l ∙ B.long; same = λ q. true-false refl q; goes = next-goes }

    pub begin-same : next ≡ now → Beginning rules kernels nullables begins from to first next changed (i + 1)
    begin-same e = record { long = l ∙ B.long; same = λ q. e ∙ B.same q; goes = next-goes }

-- opens every definition of this module
unfoldable pub opens : Unit {0}
unfolding line_into
opens = tt
