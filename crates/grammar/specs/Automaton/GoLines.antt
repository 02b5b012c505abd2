-- The look-up of go lines finds what stands in them, and symbols are compared right.
-- That every line is found assumes that no two lines are of one state and symbol (WellNamed).
use Rattle.std.specs.Prelude.{ℕ, ◌≡◌, refl, Bool, true, false, ◌&&◌, eqb}
use Rattle.std.proofs.Math.Decide.{ℕ_discrete}
use Rattle.std.proofs.Math.Option.{some}
use mathlib.Core.List.Memᴰ.{head as in_head}
use mathlib.Core.List.Memᴰ.{tail as in_Tail}
use mathlib.Core.List.{List, [], ◌∷◌, Memᴰ as Mem}
use Rattle.std.proofs.Common.{arith}
use Rattle.grammar.specs.Data.Symbol.{Symbol, Symbol-discrete}
use Rattle.grammar.specs.Data.Book.{Book, Go}
use Rattle.grammar.specs.Automaton.States.{same_symbol, go_in, go_to}
use Rattle.grammar.specs.Conditions.Decides.{Decides, true-decides, false-decides, eq-decides, and-decides}
use Rattle.grammar.specs.Automaton.WellNamed.{WellNamed, one-go}

pub same_symbol-decides : (X Y : Symbol) → Decides (same_symbol X Y) (X ≡ Y)
unfolding same_symbol
same_symbol-decides X Y = go (Symbol-discrete ℕ_discrete X Y)
  where
    go : (d : Dec (X ≡ Y)) → Decides (elim d [ yes e ↦ true | no n ↦ false ]) (X ≡ Y)
    go (yes e) = true-decides e
    go (no n) = false-decides n

-- a line of state S on symbol X to state M
pub record LineTo (gs : List Go) (S : ℕ) (X : Symbol) (M : ℕ) : Type 0 where
  pub line : Go
  pub there : Mem line gs
  pub from_state : line.state ≡ S
  pub on_symbol : line.symbol ≡ X
  pub to_state : line.target ≡ M

matches : (S : ℕ) (X : Symbol) (g : Go) → Decides (eqb g.state S && same_symbol g.symbol X) ((g.state ≡ S) × (g.symbol ≡ X))
matches S X g = and-decides (eq-decides g.state S) (same_symbol-decides g.symbol X)

-- what is found stands in a line
pub go-line : {gs : List Go} {S : ℕ} {X : Symbol} {M : ℕ} → go_in gs S X ≡ some M → LineTo gs S X M
unfolding go_in
go-line {gs = []} e = absurd (let z : ◌≡◌ {A = ℕ} 0 1 = cc in omega arith)
go-line {gs = g ∷ gs} {S} {X} {M} e = go (λ q. further (go-line q)) (eqb g.state S && same_symbol g.symbol X) (matches S X g) e
  where
    further : LineTo gs S X M → LineTo (g ∷ gs) S X M
    further l = record { line = l.line; there = in_Tail l.there; from_state = l.from_state; on_symbol = l.on_symbol; to_state = l.to_state }

    go : (go_in gs S X ≡ some M → LineTo (g ∷ gs) S X M) → (t : Bool) → Decides t ((g.state ≡ S) × (g.symbol ≡ X))
        → elim t [ true ↦ some g.target | false ↦ go_in gs S X ] ≡ some M → LineTo (g ∷ gs) S X M
    go below true d e = record { line = g; there = in_head refl; from_state = (d.sound refl).0; on_symbol = (d.sound refl).1; to_state = cc }
    go below false d e = below e

-- some line is found, where there is one
go-found : {g : Go} {gs : List Go} (S : ℕ) (X : Symbol) → Mem g gs → g.state ≡ S → g.symbol ≡ X → (M : ℕ) × (go_in gs S X ≡ some M)
unfolding go_in
go-found S X (in_head {x = h} q) e f = (h.target, rw ((matches S X h).complete (rw q at e, rw q at f), go_in))
go-found S X (in_Tail {x = h} {xs = gs} m) e f = go (eqb h.state S && same_symbol h.symbol X) (go-found S X m e f)
  where
    go : (t : Bool) → (M : ℕ) × (go_in gs S X ≡ some M) → (M : ℕ) × (elim t [ true ↦ some h.target | false ↦ go_in gs S X ] ≡ some M)
    go true below = (h.target, refl)
    go false below = below

-- every go line of a book is the one that is found
pub line-found : {b : Book} → WellNamed b → (g : Go) → Mem g b.goes → go_to b g.state g.symbol ≡ some g.target
line-found {b} w g m = go (go-found g.state g.symbol m refl refl)
  where
    go : (M : ℕ) × (go_to b g.state g.symbol ≡ some M) → go_to b g.state g.symbol ≡ some g.target
    go (M, e) =
        let l : LineTo b.goes g.state g.symbol M = go-line e in
        let one : l.line ≡ g = one-go w l.line g l.there m (record { same_state = l.from_state; same-symbol = l.on_symbol }) in
        cc
