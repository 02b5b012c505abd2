-- The parts of a go line that is found are declared. Assumes nothing.
use Rattle.std.specs.Prelude.{ℕ, ◌≡◌}
use Rattle.std.proofs.Math.Option.{some}
use Rattle.grammar.specs.Data.Symbol.{Symbol}
use Rattle.grammar.specs.Data.Book.{Book}
use Rattle.grammar.specs.Automaton.States.{go_to}
use Rattle.grammar.specs.Automaton.GoLines.{LineTo, go-line}
use Rattle.grammar.specs.Conditions.Meaning.{IsState, GoSymbol, DeclaredGo, Declared}

pub go-declared : {b : Book} → Declared b → (S : ℕ) (X : Symbol) {M : ℕ} → go_to b S X ≡ some M → IsState b S × GoSymbol b X × IsState b M
go-declared {b} h S X {M} e =
    let l : LineTo b.goes S X M = go-line e in
    let d : DeclaredGo b l.line = h.goes_declared l.line l.there in
    (rw l.from_state at d.state_there, rw l.on_symbol at d.symbol_there, rw l.to_state at d.target_there)
