-- The run with fuel: 513 moves are enough, so it always answers, and its answer is the one that the machine ends with. Assumes nothing.
use Prim.Native.Nat.{ℕ, zero, suc, ◌+◌, ◌<◌, ◌≤◌}
use Rattle.std.proofs.Common.{arith, length-append}
use Rattle.std.proofs.Math.Path.{◌≡◌, refl}
use Rattle.std.proofs.Math.Option.{Option, none, some}
use mathlib.Core.List.{List, [], ◌∷◌, ◌++◌}
use Rattle.std.specs.Prelude.{length}
use Rattle.grammar.specs.Limits.{MAX_ROWS}
use Rattle.grammar.specs.Data.Symbol.{right_of}
use Rattle.grammar.specs.Data.Book.{Book}
use Rattle.grammar.specs.Automaton.States.{Action, shift, accept, reduce}
use Rattle.grammar.specs.Evaluator.Tree.{Token, next}
use Rattle.grammar.specs.Evaluator.Rows.{Row}
use Rattle.grammar.specs.Evaluator.Machine.{Tables, Frame, Config, config, Answer, Step, more, stop, start, cell, Popped, popped, pop, shift_token, push_left}
use Rattle.grammar.specs.Evaluator.Machine.{perform, step, run, evaluate}
use Rattle.grammar.specs.Evaluator.Runs.{Ends, halts, moves}
use Rattle.grammar.proofs.Evaluator.Moves.{row_more, symbol-more, rule-more, arrive-more}

abbrev pub row_count : Config → ℕ
row_count (config st S z p rs) = length rs

one_more : (rs : List Row) (r : Row) {c : Config} {st : List Frame} {S p : ℕ} {z : List Token} → c ≡ config st S z p (rs ++ (r ∷ []))
    → row_count c ≡ suc (length rs)
one_more rs r e = rw (e, length-append) (omega arith)

module _ (b : Book) (T : Tables) where
  shift_token-rows : (k : Token) (st : List Frame) (S : ℕ) (z : List Token) (p : ℕ) (rs : List Row) {c : Config} → shift_token b T k st S z p rs ≡ more c
      → row_count c ≡ suc (length rs)
  unfolding shift_token
  shift_token-rows k st S z p rs e = one_more rs _ (arrive-more _ _ z (suc p) _ e).2

  push_left-rows : (P : ℕ) (q : Popped) (z : List Token) (p : ℕ) (rs : List Row) {c : Config} → push_left b T P q z p rs ≡ more c → row_count c ≡ suc (length rs)
  unfolding push_left
  push_left-rows P (popped S i q st cs) z p rs e = one_more rs _ (arrive-more _ _ z p _ e).2

  perform-rows : (S : ℕ) (st : List Frame) (z : List Token) (p : ℕ) (rs : List Row) {c : Config} (x : Option Action) → perform b T x st S z p rs ≡ more c
      → (length rs < MAX_ROWS) × (row_count c ≡ suc (length rs))
  unfolding perform
  perform-rows S st z p rs none e = let f : ◌≡◌ {A = ℕ} 0 1 = cc in absurd (omega arith)
  perform-rows S st z p rs (some accept) e = let f : ◌≡◌ {A = ℕ} 0 1 = cc in absurd (omega arith)
  perform-rows S st [] p rs (some shift) e = let f : ◌≡◌ {A = ℕ} 0 1 = cc in absurd (omega arith)
  perform-rows S st (k ∷ z) p rs (some shift) e =
      let (h, f) = row_more rs e in
      (h, shift_token-rows k st S z p rs (symbol-more st f))
  perform-rows S st z p rs (some (reduce P)) e =
      let (h, f) = row_more rs e in
      (h, push_left-rows P (pop (length (right_of b.rules P)) S (cell T S (next z) st) p st []) z p rs (rule-more (right_of b.rules P) st f))

  -- a move that goes on writes one row
  pub step-rows : (c : Config) {d : Config} → step b T c ≡ more d → (row_count c < MAX_ROWS) × (row_count d ≡ suc (row_count c))
  unfolding step
  step-rows (config st S z p rs) e = perform-rows S st z p rs (T.act S (next z)) e

  run-stop : (n : ℕ) (x : Answer) → run b T n (stop x) ≡ some x
  unfolding run
  run-stop zero x = refl
  run-stop (suc n) x = refl

  -- what the run answers, the machine ends with
  run_ends : (n : ℕ) (c : Config) {x : Answer} → run b T n (more c) ≡ some x → Ends b T c x
  unfolding run
  run_ends zero c e = let f : ◌≡◌ {A = ℕ} 0 1 = cc in absurd (omega arith)
  run_ends (suc n) c {x} e = by (step b T c) refl e (λ d. run_ends n d)
    where
      by : (s : Step) → step b T c ≡ s → run b T n s ≡ some x → ((d : Config) → run b T n (more d) ≡ some x → Ends b T d x) → Ends b T c x
      by (stop y) q e ih = let w = run-stop n y in let same : x ≡ y = cc in rw same (halts q)
      by (more d) q e ih = moves q (ih d e)

  run-answers : (n : ℕ) (c : Config) → row_count c ≤ MAX_ROWS → MAX_ROWS < row_count c + n → (x : Answer) × (run b T n (more c) ≡ some x)
  unfolding run
  run-answers zero c h l = absurd (omega arith)
  run-answers (suc n) c h l = by (step b T c) refl (run-answers n)
    where
      by : (s : Step) → step b T c ≡ s → ((d : Config) → row_count d ≤ MAX_ROWS → MAX_ROWS < row_count d + n → (x : Answer) × (run b T n (more d) ≡ some x))
          → (x : Answer) × (run b T n s ≡ some x)
      by (stop x) q ih = (x, run-stop n x)
      by (more d) q ih = let w = step-rows c q in ih d (omega arith) (omega arith)

  pub evaluate-ends : (ks : List Token) → Ends b T (start ks) (evaluate b T ks)
  unfolding evaluate
  evaluate-ends ks =
      let (x, e) = run-answers (suc MAX_ROWS) (start ks) (omega arith) (omega arith) in
      rw (e, evaluate) (run_ends (suc MAX_ROWS) (start ks) e)
