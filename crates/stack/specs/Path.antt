-- The frames of a run are a path of the states from 0, so that a state's items find below it as many frames as their dots have passed symbols; and
-- every state on the way is a state of the book. Assumes the premises of demand 3.
use Prim.Native.Nat.{ℕ, zero, suc, ◌<◌, ◌≤◌}
use Rattle.std.proofs.Common.{arith, sym, ◌∙◌}
use Rattle.std.specs.Prelude.{◌≡◌, List, [], ◌∷◌, length}
use Rattle.std.proofs.Math.Option.{some}
use Rattle.grammar.specs.Data.Symbol.{Symbol}
use Rattle.grammar.specs.Data.Book.{Book}
use Rattle.grammar.specs.Conditions.Meaning.{Declared}
use Rattle.grammar.specs.Automaton.Items.{Closure}
use Rattle.grammar.specs.Automaton.GoLines.{LineTo, go-line}
use Rattle.grammar.specs.Evaluator.Decorated.{Values, Result}
use Rattle.grammar.specs.Evaluator.Machine.{Tables, Frame, frame, Popped, popped, pop}
use Rattle.grammar.specs.Evaluator.Premises.{Premises}
use Rattle.grammar.specs.Evaluator.PremisesLaws.{dotted, start_only, go-back}

module _ (T : Tables) where
  -- from state 0, over the frames, to a state
  pub data Path : ℕ → List Frame → Type 0 where
    bottom : Path 0 []
    above : {S M p : ℕ} {i : Values} {c : Result} {X : Symbol} {st : List Frame} → Path S st → T.go S X ≡ some M → Path M (frame S i c p ∷ st)

  abbrev pub PoppedPath : Popped → Type 0
  PoppedPath (popped S i q st cs) = Path S st

  pub pop-path : (n : ℕ) {S : ℕ} (i : Values) (p : ℕ) {st : List Frame} (cs : List Result) → Path S st → PoppedPath (pop n S i p st cs)
  unfolding pop
  pop-path zero i p cs q = q
  pop-path (suc n) i p cs bottom = bottom
  pop-path (suc n) i p cs (above {p = r} {i = j} {c = c} q g) = pop-path n j r (c ∷ cs) q

module _ (b : Book) (T : Tables) where
  module _ (H : Premises b T) where
    -- an item of the state on top finds a frame for each symbol before its dot
    pub deep : {S P a : ℕ} {st : List Frame} → Path T S st → (D : ℕ) → Closure b S P D a → D ≤ length st
    deep q zero c = omega arith
    deep bottom (suc D) c = let e = (start_only b T H (dotted b c)).1 in absurd (omega arith)
    deep (above {S = S'} {st = st} q g) (suc D) c =
        let (D', a, β, e, c', h) = go-back b T H g (dotted b c) in
        let d : D' ≡ D = omega arith in
        let l : D ≤ length st = deep {S = S'} q D (rw d at c') in
        omega arith

    -- a go line leads to a state of the book
    pub go-state : Declared b → {S M : ℕ} {X : Symbol} → T.go S X ≡ some M → M < b.states
    go-state d {S} {M} {X} g =
        let l : LineTo b.goes S X M = go-line (sym (H.go_table S X) ∙ g) in
        let h = (d.goes_declared l.line l.there).target_there in
        rw (← l.to_state) h

    pub path-state : Declared b → 0 < b.states → {S : ℕ} {st : List Frame} → Path T S st → S < b.states
    path-state d h bottom = h
    path-state d h (above q g) = go-state d g
