-- A run is refused with 15, 16 or 17 alone.
-- Assumes nothing.
use Rattle.std.specs.Prelude.{ℕ, ◌≤◌, ◌≡◌}
use native.Mathlib.Omega.{arith}
use Rattle.std.proofs.Math.Option.{Option, none, some}
use mathlib.Core.List.{List, [], ◌∷◌}
use Rattle.grammar.specs.Data.Symbol.{Symbol, right_of}
use Rattle.grammar.specs.Data.Book.{Book}
use Rattle.grammar.specs.Automaton.States.{Action, shift, accept, reduce}
use Rattle.grammar.specs.Evaluator.Tree.{Token, next}
use Rattle.grammar.specs.Evaluator.Rows.{Row}
use Rattle.grammar.specs.Evaluator.Machine.{Tables, Frame, Config, config, refused, accepted, Step, more, stop, Popped, popped}
use Rattle.grammar.specs.Evaluator.Machine.{within, room_for_row, room_for_symbol, room_for_rule, arrive, shift_token, push_left, perform, step, evaluate}
use Rattle.grammar.specs.Evaluator.Runs.{Ends, halts, moves}
use Rattle.grammar.proofs.Evaluator.RunLaws.{evaluate-ends}

-- a step that stops with a refusal stops with 15 or more
abbrev pub Late : Step → Type 0
Late (more c) = Unit {0}
Late (stop (accepted rs)) = Unit {0}
Late (stop (refused n)) = 15 ≤ n

late-within : {A : Type 0} (d : Dec A) (n : ℕ) (s : Step) → 15 ≤ n → Late s → Late (within d n s)
unfolding within
late-within (yes a) n s h l = l
late-within (no a) n s h l = h

late-row : (rs : List Row) (s : Step) → Late s → Late (room_for_row rs s)
unfolding room_for_row
late-row rs s l = late-within _ 16 s (omega arith) l

late-symbol : (st : List Frame) (s : Step) → Late s → Late (room_for_symbol st s)
unfolding room_for_symbol
late-symbol st s l = late-within _ 17 s (omega arith) l

late_rule : (γ : List Symbol) (st : List Frame) (s : Step) → Late s → Late (room_for_rule γ st s)
unfolding room_for_rule
late_rule [] st s l = late-symbol st s l
late_rule (X ∷ γ) st s l = l

late-arrive : (o : Option ℕ) (st : List Frame) (z : List Token) (p : ℕ) (rs : List Row) → Late (arrive o st z p rs)
unfolding arrive
late-arrive none st z p rs = omega arith
late-arrive (some S) st z p rs = tt

module _ (b : Book) (T : Tables) where
  late-push : (P : ℕ) (q : Popped) (z : List Token) (p : ℕ) (rs : List Row) → Late (push_left b T P q z p rs)
  unfolding push_left
  late-push P (popped S i q st cs) z p rs = late-arrive _ _ z p _

  late-perform : (x : Option Action) (st : List Frame) (S : ℕ) (z : List Token) (p : ℕ) (rs : List Row) → Late (perform b T x st S z p rs)
  unfolding perform shift_token
  late-perform none st S z p rs = omega arith
  late-perform (some accept) st S z p rs = tt
  late-perform (some shift) st S [] p rs = omega arith
  late-perform (some shift) st S (k ∷ z) p rs = late-row rs _ (late-symbol st _ (late-arrive _ _ z _ _))
  late-perform (some (reduce P)) st S z p rs = late-row rs _ (late_rule (right_of b.rules P) st _ (late-push P _ z p rs))

  late-step : (c : Config) → Late (step b T c)
  unfolding step
  late-step (config st S z p rs) = late-perform (T.act S (next z)) st S z p rs

  late-ends : {c : Config} {n : ℕ} → Ends b T c (refused n) → 15 ≤ n
  late-ends (halts {c = c} e) = rw e at (late-step c)
  late-ends (moves e rest) = late-ends rest

  pub refused-late : (ks : List Token) (n : ℕ) → evaluate b T ks ≡ refused n → 15 ≤ n
  refused-late ks n e = late-ends (rw e at (evaluate-ends b T ks))
