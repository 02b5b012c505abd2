-- The go lines of a book in an array, and the table that they are put into, from the last line to the first.
-- Assumes nothing.
use Rattle.std.specs.Prelude.{ℕ, suc, ◌+◌, ◌*◌, ◌-◌, ◌<◌, ◌≤◌, ◌≡◌, refl, ◌≢◌, Bool, true, false, ◌&&◌, List, [], ◌∷◌, eqb, length, get_or, drop, set, replicate}
use Rattle.std.proofs.Common.{arith, ◌∙◌, length-set, drop-cons, get_or-set_same, get_or-set_other}
use Rattle.std.proofs.Math.Option.{some}
use Rattle.std.proofs.lemmas.List.{length-replicate, get_or-replicate}
use Rattle.std.proofs.Math.Seq.{drop-length}
use Rattle.grammar.specs.Limits.{MAX_STATES}
use Rattle.grammar.specs.Data.Symbol.{Symbol, terminal, nonterminal}
use Rattle.grammar.specs.Data.Book.{Book, Go}
use Rattle.grammar.specs.Conditions.Meaning.{WithinLimits, Declared, DeclaredGo, GoSymbol}
use Rattle.grammar.specs.Automaton.Small.{number_of}
use Rattle.grammar.specs.Automaton.States.{same_symbol, go_in}
use Rattle.grammar.specs.Conditions.Decides.{Decides, eq-decides, and-decides, refutes}
use Rattle.grammar.specs.Automaton.GoLines.{same_symbol-decides}
use Rattle.grammar.specs.Data.ListLaws.{at-member}
use Rattle.book.specs.Layout.{symbol_code}
use Rattle.book.specs.Held.{GoesIn, go_at}
use Rattle.items.specs.Arrays.{target_code, GoTableIn}
use Rattle.items.specs.SymbolCodes.{code-low, code_same}

-- the go lines of a book that keeps the limits and declares its names
pub record GoLinesIn (b : Book) (goes : List ℕ) (count states : ℕ) : Type 0 where
  pub limits : WithinLimits b
  pub declared : Declared b
  pub lines_in : GoesIn b.goes goes
  pub count_is : count ≡ length b.goes
  pub states_is : states ≡ b.states

-- room for the targets of a number of states, with none in it
pub record Unset (states : ℕ) (table : List ℕ) : Type 0 where
  pub long : 64 * states ≤ length table
  pub none : (i : ℕ) → i < 64 * states → get_or table i 0 ≡ 255

-- room for exactly so many
pub unset-all : (states : ℕ) → Unset states (replicate (64 * states) 255)
unset-all states =
    let all : length {A = ℕ} (replicate (64 * states) 255) ≡ 64 * states = length-replicate (64 * states) 255 in
    record { long = omega arith; none = λ i l. get_or-replicate (64 * states) i 255 0 l }

-- room for more is room for fewer
pub unset-fewer : {states fewer : ℕ} {table : List ℕ} → Unset states table → fewer ≤ states → Unset fewer table
unset-fewer U less = record { long = omega (arith, U.long); none = λ i l. U.none i (omega arith) }

-- the words of line i are there, and small
pub record LineLow (goes : List ℕ) (i : ℕ) : Type 0 where
  pub there : 3 * i + 3 ≤ length goes
  pub state_low : get_or goes (3 * i) 0 < MAX_STATES
  pub symbol_low : get_or goes (3 * i + 1) 0 < 64
  pub target_low : get_or goes (3 * i + 2) 0 < MAX_STATES

-- the table once the lines from i on are in
pub record Filled (goes : List ℕ) (count states i : ℕ) (table : List ℕ) : Type 0 where
  pub within : i ≤ count
  pub long : 64 * states ≤ length table
  pub holds : (b : Book) → GoLinesIn b goes count states → (S : ℕ) (X : Symbol) → S < b.states → GoSymbol b X
      → get_or table (64 * S + symbol_code X) 0 ≡ target_code (go_in (drop i b.goes) S X)

pub go-symbol-low : {b : Book} → WithinLimits b → (X : Symbol) → GoSymbol b X → number_of X < 32
go-symbol-low w (terminal t) h = omega (arith, h.high, w.terminals_limit.high)
go-symbol-low w (nonterminal A) h = omega (arith, w.nonterminals_limit.high)

module _ {b : Book} {goes : List ℕ} {count states : ℕ} (h : GoLinesIn b goes count states) where
  declared-line : (i : ℕ) → i < count → DeclaredGo b (go_at b.goes i)
  declared-line i l = h.declared.goes_declared (go_at b.goes i) (at-member b.goes i _ (omega (arith, h.count_is)))

  pub line_low : (i : ℕ) → i < count → LineLow goes i
  line_low i l =
      let d : DeclaredGo b (go_at b.goes i) = declared-line i l in
      let inside : i < length b.goes = omega (arith, h.count_is) in
      record {
        there = omega (arith, h.lines_in.long, h.lines_in.fits);
        state_low = omega (arith, h.lines_in.state_is i inside, d.state_there, h.limits.states_limit.high);
        symbol_low = rw (h.lines_in.symbol_is i inside)
            (code-low (go_at b.goes i).symbol (go-symbol-low h.limits (go_at b.goes i).symbol d.symbol_there));
        target_low = omega (arith, h.lines_in.target_is i inside, d.target_there, h.limits.states_limit.high);
      }

  -- its state is one of the book's
  pub line-state : (i : ℕ) → i < count → get_or goes (3 * i) 0 < states
  line-state i l =
      let inside : i < length b.goes = omega (arith, h.count_is) in
      omega (arith, h.lines_in.state_is i inside, (declared-line i l).state_there, h.states_is)

-- ---- the table's stages

-- no line is in
pub filled_none : (goes : List ℕ) (count : ℕ) {states : ℕ} {table : List ℕ} → Unset states table → Filled goes count states count table
unfolding go_in target_code
filled_none goes count {states} {table} U = record {
  within = omega arith;
  long = U.long;
  holds = λ b h S X s x. empty b h S X s (code-low X (go-symbol-low h.limits X x));
}
  where
    empty : (b : Book) → GoLinesIn b goes count states → (S : ℕ) (X : Symbol) → S < b.states → symbol_code X < 64
        → get_or table (64 * S + symbol_code X) 0 ≡ target_code (go_in (drop count b.goes) S X)
    empty b h S X s x =
        let none_left : drop count b.goes ≡ [] = rw h.count_is (drop-length b.goes) in
        U.none (64 * S + symbol_code X) (omega (arith, h.states_is)) ∙ rw (none_left, go_in, target_code)

-- a line in front: its target at its place, and what stood before at the others
put-line : (table : List ℕ) (g : Go) (rest : List Go) (S : ℕ) (X : Symbol) → number_of X < 32 → number_of g.symbol < 32
    → 64 * g.state + symbol_code g.symbol < length table → get_or table (64 * S + symbol_code X) 0 ≡ target_code (go_in rest S X)
    → get_or (set table (64 * g.state + symbol_code g.symbol) g.target) (64 * S + symbol_code X) 0 ≡ target_code (go_in (g ∷ rest) S X)
unfolding go_in target_code
put-line table g rest S X x y l e =
    go (eqb g.state S && same_symbol g.symbol X) (and-decides (eq-decides g.state S) (same_symbol-decides g.symbol X))
  where
    place : ℕ
    place = 64 * g.state + symbol_code g.symbol

    apart : ((g.state ≡ S) × (g.symbol ≡ X) → ⊥) → 64 * S + symbol_code X ≢ place
    apart n q =
        let low : symbol_code X < 64 = code-low X x in
        let low' : symbol_code g.symbol < 64 = code-low g.symbol y in
        n (omega arith, code_same g.symbol X y x (omega arith))

    go : (t : Bool) → Decides t ((g.state ≡ S) × (g.symbol ≡ X))
        → get_or (set table place g.target) (64 * S + symbol_code X) 0 ≡ target_code (elim t [ true ↦ some g.target | false ↦ go_in rest S X ])
    go true d =
        let (p, q) = d.sound refl in
        rw (← p, ← q, target_code) (get_or-set_same table place g.target 0 l)
    go false d = get_or-set_other table place (64 * S + symbol_code X) g.target 0 (apart (refutes d)) ∙ e

-- one line more is in
pub filled_more : {goes table : List ℕ} {count states i : ℕ} → Filled goes count states i table → 0 < i
    → Filled goes count states (i - 1)
    (set table (64 * get_or goes (3 * (i - 1)) 0 + get_or goes (3 * (i - 1) + 1) 0) (get_or goes (3 * (i - 1) + 2) 0))
filled_more {goes} {table} {count} {states} {i} f pos = record {
  within = omega (arith, f.within);
  long = simp length-set f.long;
  holds = more;
}
  where
    line : ℕ
    line = i - 1

    more : (b : Book) → GoLinesIn b goes count states → (S : ℕ) (X : Symbol) → S < b.states → GoSymbol b X
        → get_or (set table (64 * get_or goes (3 * line) 0 + get_or goes (3 * line + 1) 0) (get_or goes (3 * line + 2) 0)) (64 * S + symbol_code X) 0
        ≡ target_code (go_in (drop line b.goes) S X)
    more b h S X s x =
        let g : Go = go_at b.goes line in
        let inside : line < length b.goes = omega (arith, f.within, h.count_is) in
        let low : LineLow goes line = line_low h line (omega (arith, f.within)) in
        let there = line-state h line (omega (arith, f.within)) in
        let next : suc line ≡ i = omega arith in
        let d : DeclaredGo b g = declared-line h line (omega (arith, f.within)) in
        let place_is : 64 * get_or goes (3 * line) 0 + get_or goes (3 * line + 1) 0 ≡ 64 * g.state + symbol_code g.symbol =
        omega (arith, h.lines_in.state_is line inside, h.lines_in.symbol_is line inside) in
        rw (place_is, h.lines_in.target_is line inside, drop-cons b.goes line (record { state = 0; symbol = terminal 0; target = 0 }) inside, next)
        (put-line table g (drop i b.goes) S X (go-symbol-low h.limits X x) (go-symbol-low h.limits g.symbol d.symbol_there)
        (omega (arith, f.long)) (f.holds b h S X s x))

-- every line is in
pub filled-all : {goes table : List ℕ} {count states i : ℕ} → Filled goes count states i table → i ≡ 0
    → (b : Book) → GoLinesIn b goes count states → GoTableIn b table
filled-all {i = i} f z b h = record { long = omega (arith, f.long, h.states_is); go_is = λ S X s x. rw z at (f.holds b h S X s x) }
