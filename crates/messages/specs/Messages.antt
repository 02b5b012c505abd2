-- A book that is taken, in arrays, and a message under it: what the run is given. Assumes nothing.
use Rattle.std.specs.Prelude.{ℕ, ◌≤◌, ◌≡◌, refl, Bool, true, false, List, [], ◌∷◌, length}
use Rattle.std.proofs.Math.Option.{some}
use Rattle.std.proofs.Common.{arith}
use Rattle.grammar.specs.Limits.{MAX_TOKENS}
use Rattle.grammar.specs.Data.Book.{Book as Lines}
use Rattle.grammar.specs.Format.Ordered.{Spelled}
use Rattle.grammar.specs.Conditions.Decides.{one_to, one_to-decides}
use Rattle.grammar.specs.Refusal.{Sound}
use Rattle.grammar.specs.Evaluator.Tree.{Token, TokensOf, no_tokens, and_tokens}
use Rattle.grammar.specs.Engine.{tokens_of, kinds_in}
use Rattle.book.specs.declared.Book.{Book}
use Rattle.compiler.specs.declared.book_lines.BookLines.{BookLines}
use Rattle.compiler.specs.declared.tables.Tables.{Tables}
use Rattle.compiler.specs.Prepared.{BookReady}

-- the arrays hold a book that is taken, and its tables
pub record TakenBook (numbers : Book) (inherited synthesized rules definitions kernels goes : List ℕ)
    (nullables reaches bounds closures table actions : List ℕ) (b : Lines) : Type 0 where
  pub ready : BookReady numbers inherited synthesized rules definitions kernels goes nullables reaches bounds closures table actions b
  pub spelled : Spelled b
  pub sound : Sound b

-- the same, in the arrays that are lent
abbrev pub TakenIn : Book → BookLines → Tables → Lines → Type 0
TakenIn numbers l t b =
    TakenBook numbers l.inherited.now l.synthesized.now l.rules.now l.definitions.now l.kernels.now l.goes.now t.nullables.now t.reaches.now
    t.bounds.now t.closures.now t.table.now t.actions.now b

-- the numbers are tokens of T terminals, not too many
pub record Message (T : ℕ) (tokens : List ℕ) : Type 0 where
  pub list : List Token
  pub tokens_are : tokens_of tokens ≡ some list
  pub few : length list ≤ MAX_TOKENS
  pub kinds : kinds_in T list ≡ true

kinds-of : (b : Lines) (ks : List Token) → kinds_in b.terminals ks ≡ true → TokensOf b ks
unfolding kinds_in
kinds-of b [] e = no_tokens
kinds-of b (k ∷ ks) e = go (one_to b.terminals k.kind) refl (kinds-of b ks)
  where
    go : (t : Bool) → one_to b.terminals k.kind ≡ t → (kinds_in b.terminals ks ≡ true → TokensOf b ks) → TokensOf b (k ∷ ks)
    go true q more =
        let o = (one_to-decides b.terminals k.kind).sound q in
        let rest : kinds_in b.terminals ks ≡ true = rw (q, kinds_in) at e in
        and_tokens (record { not_end = o.low; declared = o.high }) (more rest)
    go false q _ = absurd (let w : false ≡ true = rw (q, kinds_in) at e in let z : ◌≡◌ {A = ℕ} 0 1 = cc in omega arith)

-- the tokens of a message are of the book
pub message-tokens : (b : Lines) {T : ℕ} {tokens : List ℕ} (m : Message T tokens) → T ≡ b.terminals → TokensOf b m.list
message-tokens b m t = kinds-of b m.list (rw (← t) m.kinds)
