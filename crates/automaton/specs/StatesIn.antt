-- The rules and kernel lines of a book in arrays, with where the kernel lines of each state begin: the words are small, and what they say of an item.
-- Assumes nothing.
use Rattle.std.specs.Prelude.{ℕ, zero, suc, ◌+◌, ◌*◌, ◌-◌, ◌<◌, ◌≤◌, ◌≡◌, List, [], ◌∷◌, length, get_or, take, drop}
use Rattle.std.proofs.Common.{arith, add-one, ◌∙◌}
use Rattle.std.proofs.Math.Seq.{slice, slice-cons, take-nil}
use Rattle.grammar.specs.Limits.{MAX_RULES, MAX_RIGHT, MAX_KERNELS}
use Rattle.grammar.specs.Data.Symbol.{right_of}
use Rattle.grammar.specs.Data.Book.{Book, Kernel}
use Rattle.grammar.specs.Conditions.Meaning.{Declared, DeclaredKernel}
use Rattle.grammar.specs.Conditions.MeaningLaws.{right-length}
use Rattle.grammar.specs.Automaton.FirstSets.{Sets}
use Rattle.grammar.specs.Automaton.ClosureSets.{kernels_in}
use Rattle.grammar.specs.Data.ListLaws.{at-member}
use Rattle.book.specs.Held.{KernelsIn, kernel_at}
use Rattle.items.specs.Arrays.{BoundsIn, ClosuresIn, GoTableIn}
use Rattle.items.specs.GrammarIn.{GrammarIn}

-- the rules and the kernel lines, with where those of each state begin
pub record StatesIn (b : Book) (rules kernels bounds : List ℕ) : Type 0 where
  pub grammar_in : GrammarIn b rules
  pub kernels-in : KernelsIn b.kernels kernels
  pub bounds_in : BoundsIn b.kernels b.states bounds

-- with the go table
pub record MovesIn (b : Book) (rules kernels bounds table : List ℕ) : Type 0 where
  pub states_in : StatesIn b rules kernels bounds
  pub table_in : GoTableIn b table

-- with the closures
pub record ItemsIn (b : Book) (F : Sets) (rules kernels bounds closures : List ℕ) : Type 0 where
  pub states_in : StatesIn b rules kernels bounds
  pub closures_in : ClosuresIn b F closures

-- with both
pub record AutomatonIn (b : Book) (F : Sets) (rules kernels bounds closures table : List ℕ) : Type 0 where
  pub states_in : StatesIn b rules kernels bounds
  pub closures_in : ClosuresIn b F closures
  pub table_in : GoTableIn b table

-- parts of it
pub moves : {b : Book} {F : Sets} {rules kernels bounds closures table : List ℕ} → AutomatonIn b F rules kernels bounds closures table
    → MovesIn b rules kernels bounds table
moves h = record { states_in = h.states_in; table_in = h.table_in }

pub items : {b : Book} {F : Sets} {rules kernels bounds closures table : List ℕ} → AutomatonIn b F rules kernels bounds closures table
    → ItemsIn b F rules kernels bounds closures
items h = record { states_in = h.states_in; closures_in = h.closures_in }

-- an item without its lookahead: of a state and a rule of the book, with a dot in the rule
pub record Stands (b : Book) (S P D : ℕ) : Type 0 where
  pub state_there : S < b.states
  pub rule_there : P < length b.rules
  pub dot_there : D ≤ length (right_of b.rules P)

-- the dot one back
pub stands-back : {b : Book} {S P D : ℕ} → Stands b S P D → Stands b S P (D - 1)
stands-back s = record { state_there = s.state_there; rule_there = s.rule_there; dot_there = omega (arith, s.dot_there) }

-- the words of kernel line i
pub record KernelLow (kernels : List ℕ) (i : ℕ) : Type 0 where
  pub there : 5 * i + 5 ≤ length kernels
  pub below : i < MAX_KERNELS
  pub rule_low : get_or kernels (5 * i + 1) 0 < MAX_RULES
  pub dot_low : get_or kernels (5 * i + 2) 0 ≤ MAX_RIGHT

-- the kernel lines of state S stand from `first` up to `last`
pub record Range (b : Book) (S first last : ℕ) : Type 0 where
  pub ordered : first ≤ last
  pub within : last ≤ length b.kernels
  pub below : last ≤ MAX_KERNELS
  pub lines_are : kernels_in b.kernels S ≡ slice first last b.kernels

-- a part in the middle, cut in the other order
take-drop : {A : Type 0} (f t : ℕ) (l : List A) → take (t - f) (drop f l) ≡ slice f t l
take-drop zero t l = let e : t - 0 ≡ t = omega arith in rw e
take-drop (suc f) zero [] = take-nil (0 - suc f)
take-drop (suc f) (suc t) [] = take-nil (suc t - suc f)
take-drop (suc f) zero (x ∷ l) = let e : 0 - suc f ≡ 0 = omega arith in rw e
take-drop (suc f) (suc t) (x ∷ l) = let e : suc t - suc f ≡ t - f = omega arith in rw e (take-drop f t l)

-- a part of the kernel lines begins with its first line
pub lines_next : (ks : List Kernel) {i last : ℕ} → i < last → last ≤ length ks → slice i last ks ≡ kernel_at ks i ∷ slice (i + 1) last ks
lines_next ks {i} {last} h f = rw (add-one i) (slice-cons i last ks _ h f)

pub kernel_there : {b : Book} → Declared b → (i : ℕ) → i < length b.kernels → DeclaredKernel b (kernel_at b.kernels i)
kernel_there {b} d i l = d.kernels-declared (kernel_at b.kernels i) (at-member b.kernels i _ l)

module _ {b : Book} {rules kernels bounds : List ℕ} (h : StatesIn b rules kernels bounds) where
  pub kernel-low : (i : ℕ) → i < length b.kernels → KernelLow kernels i
  kernel-low i l =
      let k : Kernel = kernel_at b.kernels i in
      let d : DeclaredKernel b k = kernel_there h.grammar_in.declared i l in
      record {
        there = omega (arith, h.kernels-in.long, h.kernels-in.fits);
        below = omega (arith, h.kernels-in.fits);
        rule_low = omega (arith, h.kernels-in.rule_is i l, d.rule_there, h.grammar_in.rules_in.fits);
        dot_low = omega (arith, h.kernels-in.dot_is i l, d.dot_there, right-length h.grammar_in.limits k.rule);
      }

  -- its rule is one of the book's
  pub kernel-rule : (i : ℕ) → i < length b.kernels → get_or kernels (5 * i + 1) 0 < length b.rules
  kernel-rule i l = omega (arith, h.kernels-in.rule_is i l, (kernel_there h.grammar_in.declared i l).rule_there)

  -- the bounds ascend to the number of lines
  start-within : (left S : ℕ) → S + left ≡ b.states → get_or bounds S 0 ≤ length b.kernels
  start-within zero S e = let z : S ≡ b.states = omega arith in rw z (omega (arith, h.bounds_in.last_is))
  start-within (suc left) S e = omega (arith, h.bounds_in.ascend S (omega arith), start-within left (S + 1) (omega arith))

  pub state-range : (S : ℕ) → S < b.states → Range b S (get_or bounds S 0) (get_or bounds (S + 1) 0)
  state-range S s =
      let within : get_or bounds (S + 1) 0 ≤ length b.kernels = start-within (b.states - (S + 1)) (S + 1) (omega arith) in
      record {
        ordered = h.bounds_in.ascend S s;
        within = within;
        below = omega (arith, h.kernels-in.fits);
        lines_are = h.bounds_in.lines_are S s ∙ take-drop (get_or bounds S 0) (get_or bounds (S + 1) 0) b.kernels;
      }

  -- both ends are words
  pub state-bounds : (S : ℕ) → S < b.states → S + 1 < length bounds
  state-bounds S s = omega (arith, h.bounds_in.long, h.grammar_in.limits.states_limit.high)
