-- "follow go": a taken book has the line that a shift or a reduce follows, and the go table has its target. Assumes that the book is taken.
use Prim.Native.Nat.{ℕ, zero, suc, ◌+◌, ◌*◌, ◌≤◌, ◌<◌}
use Rattle.std.specs.Prelude.{◌≡◌, List, [], ◌∷◌, length, get_or}
use Rattle.std.proofs.Math.Path.{ap}
use Rattle.std.proofs.Common.{◌∙◌}
use Rattle.std.proofs.Math.Option.{some}
use native.Mathlib.Omega.{arith}
use Rattle.grammar.specs.Data.Symbol.{Symbol, terminal, nonterminal, left_of, right_of, rule_at}
use Rattle.grammar.specs.Data.ListLaws.{drop-member, at-member}
use Rattle.grammar.specs.Data.Book.{Book}
use Rattle.grammar.specs.Format.Ordered.{Spelled}
use Rattle.grammar.specs.Conditions.Meaning.{GoSymbol}
use Rattle.grammar.specs.Automaton.Items.{derives, Closure, kernel, close}
use Rattle.grammar.specs.Automaton.KernelItems.{start_dot}
use Rattle.grammar.specs.Automaton.States.{shift, reduce, Acts, shifts}
use Rattle.grammar.specs.Evaluator.Decorated.{Values, Result}
use Rattle.grammar.specs.Evaluator.Machine.{Frame, Popped, popped, pop}
use Rattle.grammar.specs.Evaluator.PremisesLaws.{dotted, start_only, go_there, go-back}
use Rattle.grammar.proofs.Evaluator.TakenPremises.{premises}
use Rattle.grammar.specs.Refusal.{Sound}
use Rattle.grammar.specs.Engine.{tables_from, tables_of}
use Rattle.book.specs.Layout.{symbol_code}
use Rattle.items.specs.Arrays.{target_code, GoTableIn}
use Rattle.stack.specs.Action.{item-rule, Reduced, reduced}
use Rattle.stack.specs.Path.{Path, bottom, above}

module _ {b : Book} (spelled : Spelled b) (sound : Sound b) where
  -- a shift is of a terminal, and its go line is there
  pub record ShiftGoes (S a : ℕ) : Type 0 where
    pub low : 1 ≤ a
    pub high : a ≤ b.terminals
    pub target : ℕ
    pub goes : (tables_of b).go S (terminal a) ≡ some target

  pub shift-goes : (S a : ℕ) → (tables_of b).act S a ≡ some shift → ShiftGoes S a
  unfolding rule_at
  shift-goes S a e = by ((premises spelled sound).act_only S a shift e)
    where
      by : Acts b S a shift → ShiftGoes S a
      by (shifts {P = P} {D = D} c h) =
          let m = drop-member D (right_of b.rules P) h in
          let there = sound.names.right_symbols (rule_at b.rules P) (at-member b.rules P _ (item-rule sound.names c)) (terminal a) m in
          let (M, g) = go_there b (tables_of b) (premises spelled sound) c h in
          record { low = there.low; high = there.high; target = M; goes = g }

  -- what is left where rule P's right side was popped: the state has the rule's item at its beginning
  abbrev Begins : ℕ → Popped → Type 0
  Begins P (popped S i q st cs) = (a : ℕ) × Closure b S P 0 a

  begins : {S P a : ℕ} {st : List Frame} (i : Values) (p : ℕ) (cs : List Result) → Path (tables_of b) S st → (D : ℕ) → Closure b S P D a
      → Begins P (pop D S i p st cs)
  unfolding pop
  begins {a = a} i p cs q zero c = (a, c)
  begins i p cs bottom (suc D) c = let e = (start_only b (tables_of b) (premises spelled sound) (dotted b c)).1 in absurd (omega arith)
  begins i p cs (above {S = S'} {p = r} {i = j} {c = x} q g) (suc D) c =
      let (D', a, β, e, c', h) = go-back b (tables_of b) (premises spelled sound) g (dotted b c) in
      let d : D' ≡ D = omega arith in
      begins {S = S'} j r (x ∷ cs) q D (rw d at c')

  -- and so its go line on the left side is there
  begin-goes : {S P a : ℕ} → 0 < P → Closure b S P 0 a → (M : ℕ) × ((tables_of b).go S (nonterminal (left_of b.rules P)) ≡ some M)
  begin-goes l (kernel k) = let z = start_dot sound.kernel-rules k in absurd (omega arith)
  begin-goes l (close c (derives h p e f)) = rw e (go_there b (tables_of b) (premises spelled sound) c h)

  pub reduce-goes : (a : ℕ) {S P R q : ℕ} {j : Values} {st below : List Frame} {cs : List Result} (i : Values) (p : ℕ) → Path (tables_of b) S st
      → (tables_of b).act S a ≡ some (reduce P) → pop (length (right_of b.rules P)) S i p st [] ≡ popped R j q below cs
      → (M : ℕ) × ((tables_of b).go R (nonterminal (left_of b.rules P)) ≡ some M)
  reduce-goes a {S} {P} {R} {q} {j} {st} {below} {cs} i p path e back =
      let x : Reduced spelled sound S a P = reduced spelled sound S a P e in
      let w : Begins P (popped R j q below cs) = rw back at (begins i p [] path (length (right_of b.rules P)) x.complete) in
      begin-goes x.later w.1

  -- the target in the table
  pub target-of : {table : List ℕ} → GoTableIn b table → {S M : ℕ} (X : Symbol) → S < b.states → GoSymbol b X → (tables_of b).go S X ≡ some M
      → get_or table (64 * S + symbol_code X) 0 ≡ M
  unfolding target_code tables_of tables_from
  target-of G {S} X s x e = G.go_is S X s x ∙ ap target_code e
