-- A run over the arrays: the next token, the action, and the answer in which the moves end. Assumes that the book is taken.
use Rattle.std.specs.Prelude.{ℕ, zero, suc, ◌+◌, ◌*◌, ◌≤◌, ◌<◌, ◌≡◌, refl, List, [], ◌∷◌, length, get_or, drop}
use Rattle.std.proofs.Math.Path.{sym, ap}
use Rattle.std.proofs.Common.{◌∙◌, arith}
use Rattle.std.proofs.Math.Option.{Option, none, some}
use Rattle.std.proofs.Math.Seq.{drop-nil}
use Rattle.grammar.specs.Data.Book.{Book}
use Rattle.grammar.specs.Automaton.FirstSets.{sets_of}
use Rattle.grammar.specs.Evaluator.Tree.{Token, next, TokensOf, no_tokens, and_tokens}
use Rattle.grammar.specs.Evaluator.Machine.{Config, refused, stop, step}
use Rattle.grammar.specs.Engine.{tokens_of, tables_of}
use Rattle.items.specs.Arrays.{ActionsIn}
use Rattle.stack.specs.declared.action.Move.{Move}
use Rattle.stack.specs.declared.action.Move.TheVariants.{Shift, Reduce, Accept}
use Rattle.stack.specs.declared.action.Action.{Action}
use Rattle.stack.specs.declared.action.Action.TheVariants.{Due, None}
use Rattle.stack.specs.declared.top.Top.{Top}
use Rattle.stack.specs.Action.{action_at, meant, action-means}
use Rattle.machine.specs.Moving.{Driven, Poised, Accepts}
use Rattle.machine.specs.MovingLaws.{none-refused, accept-stops}
use Rattle.machine.specs.ReduceMove.{Reduces}
use Rattle.machine.specs.ShiftMove.{Shifts}
use Rattle.stack.specs.Page.{RowsIn}
use Rattle.stack.specs.Standing.{BookIn, state_low, LeftIn, Message, ConfigIn, stands, state_of, kind_of, first_value, value_of, rows_of, action_of}

-- a book that is taken and a list of tokens, in the arrays that a run reads
pub record RunIn (b : Book) (ks : List Token) (rules definitions : List ℕ) (lines : ℕ)
    (owned kernels bounds closures nullables reaches places spans down up table actions tokens : List ℕ) : Type 0 where
  pub driven : Driven b rules definitions lines owned kernels bounds closures nullables reaches places table
  pub left_in : LeftIn b definitions spans down up
  pub actions_in : ActionsIn b (sets_of b.rules) actions
  pub tokens-in : tokens_of tokens ≡ some ks

-- the same, in the arrays that its moves read where the action is found
pub record MovesIn (b : Book) (rules definitions spans down up table : List ℕ) : Type 0 where
  pub book_in : BookIn b rules definitions table
  pub left_in : LeftIn b definitions spans down up

-- ---- the next token

-- the next token of a list, by the numbers from a place on
record NextIn (ks : List Token) (ns : List ℕ) (p : ℕ) : Type 0 where
  kind_is : next (drop p ks) ≡ get_or ns (2 * p) 0
  value_is : first_value (drop p ks) ≡ get_or ns (2 * p + 1) 0

next-in : (ns : List ℕ) (ks : List Token) → tokens_of ns ≡ some ks → (p : ℕ) → NextIn ks ns p
unfolding tokens_of
next-in [] ks e p =
    let none_left : ks ≡ [] = cc in
    let empty : drop p ks ≡ [] = ap (drop p) none_left ∙ drop-nil p in
    record { kind_is = ap next empty; value_is = ap first_value empty }
next-in (k ∷ []) ks e p = absurd (let z : ◌≡◌ {A = ℕ} 0 1 = cc in omega arith)
next-in (k ∷ v ∷ ns) ks e p = by (tokens_of ns) refl e (next-in ns)
  where
    by : (x : Option (List Token)) → tokens_of ns ≡ x
        → ◌≡◌ {A = Option (List Token)} (elim x [ none ↦ none | some rest ↦ some (record { kind = k; value = v } ∷ rest) ]) (some ks)
        → ((ls : List Token) → tokens_of ns ≡ some ls → (q : ℕ) → NextIn ls ns q) → NextIn ks (k ∷ v ∷ ns) p
    by none t q ih = absurd (let z : ◌≡◌ {A = ℕ} 0 1 = cc in omega arith)
    by (some rest) t q ih =
        let first : ks ≡ record { kind = k; value = v } ∷ rest = cc in
        rw first (at p)
      where
        at : (q : ℕ) → NextIn (record { kind = k; value = v } ∷ rest) (k ∷ v ∷ ns) q
        at zero = record { kind_is = refl; value_is = refl }
        at (suc q) =
            let i : 2 * suc q ≡ suc (suc (2 * q)) = omega arith in
            let j : 2 * suc q + 1 ≡ suc (suc (2 * q + 1)) = omega arith in
            let n : NextIn rest ns q = ih rest t q in
            record { kind_is = rw i n.kind_is; value_is = rw j n.value_is }

-- ---- where a move begins

-- the next token is of the book, or the end mark
next-declared : {b : Book} {ks : List Token} → TokensOf b ks → (p : ℕ) → next (drop p ks) ≤ b.terminals
next-declared {ks = []} no_tokens zero = omega arith
next-declared {ks = []} no_tokens (suc p) = omega arith
next-declared (and_tokens o os) zero = o.declared
next-declared (and_tokens o os) (suc p) = next-declared os p

-- the state and the next token, in numbers that are small
pub record Facing (b : Book) (c : Config) (state kind value : ℕ) : Type 0 where
  pub state_is : state ≡ state_of c
  pub kind_is : kind ≡ kind_of c
  pub value_is : value ≡ value_of c
  pub state_there : state < b.states
  pub kind_there : kind ≤ b.terminals
  pub state_low : state < 128
  pub kind_low : kind < 32

pub facing-of : {b : Book} {ks : List Token} {c : Config} {rules definitions table states inherited synthesized starts rows : List ℕ} {top : Top}
    (tokens : List ℕ) → BookIn b rules definitions table → tokens_of tokens ≡ some ks → Message b ks
    → ConfigIn b ks states inherited synthesized starts rows top c
    → Facing b c (get_or states top.depth 0) (get_or tokens (2 * top.position) 0) (get_or tokens (2 * top.position + 1) 0)
facing-of {b} {ks} {states = states} {top = top} tokens B t M (stands {S = S} {p = p} {z = z} C) =
    let s : get_or states top.depth 0 ≡ S = ap (λ n. get_or states n 0) C.depth_is ∙ C.state_is in
    let n : NextIn ks tokens p = next-in tokens ks t p in
    let k : get_or tokens (2 * top.position) 0 ≡ next z =
    ap (λ q. get_or tokens (2 * q) 0) C.position_is ∙ sym n.kind_is ∙ ap next (sym C.left_is) in
    let v : get_or tokens (2 * top.position + 1) 0 ≡ first_value z =
    ap (λ q. get_or tokens (2 * q + 1) 0) C.position_is ∙ sym n.value_is ∙ ap first_value (sym C.left_is) in
    let there : S < b.states = state_low B C.path in
    let declared : next z ≤ b.terminals = rw C.left_is (next-declared M.tokens p) in
    record {
      state_is = s;
      kind_is = k;
      value_is = v;
      state_there = omega arith;
      kind_there = omega arith;
      state_low = omega (arith, B.sound.limits.states_limit.high);
      kind_low = omega (arith, B.sound.limits.terminals_limit.high);
    }

-- the machine's numbers are small
pub record TopLow (starts : List ℕ) (top : Top) : Type 0 where
  pub depth_low : top.depth ≤ length starts
  pub position_low : top.position ≤ 255

pub top-low : {b : Book} {ks : List Token} {c : Config} {states inherited synthesized starts rows : List ℕ} {top : Top}
    → Message b ks → ConfigIn b ks states inherited synthesized starts rows top c → TopLow starts top
top-low M (stands C) = record {
  depth_low = omega (arith, C.depth_is, C.depth_low);
  position_low = omega (arith, C.position_is, C.position_low, M.few);
}

pub rows-count : {b : Book} {ks : List Token} {c : Config} {states inherited synthesized starts rows : List ℕ} {top : Top}
    → ConfigIn b ks states inherited synthesized starts rows top c → (top.rows ≡ length (rows_of c)) × (length (rows_of c) ≤ 512)
rows-count (stands C) = (C.count_is, C.count_low)

rows-held : {b : Book} {ks : List Token} {c : Config} {states inherited synthesized starts rows : List ℕ} {top : Top}
    → ConfigIn b ks states inherited synthesized starts rows top c → RowsIn (rows_of c) rows
rows-held (stands C) = C.rows_in

-- an action is the machine's
pub record Names (b : Book) (c : Config) (x : Action) : Type 0 where
  pub action_is : meant x ≡ action_of b c

-- that of the state's and the kind's byte in the action table is
pub names-action : {b : Book} {c : Config} {rules definitions table actions : List ℕ} {state kind value : ℕ} → BookIn b rules definitions table
    → ActionsIn b (sets_of b.rules) actions → Facing b c state kind value → Names b c (action_at (get_or actions (32 * state + kind) 0))
names-action {b} {c} {state = state} {kind = kind} B A F = record {
  action_is = action-means B.spelled B.sound A state kind F.state_there F.kind_there
      ∙ ap (λ s. (tables_of b).act s kind) F.state_is ∙ ap ((tables_of b).act (state_of c)) F.kind_is;
}

module _ {b : Book} {c : Config} {x : Action} (N : Names b c x) where
  pub due-none : x ≡ None → step b (tables_of b) c ≡ stop (refused 15)
  unfolding meant
  due-none e = none-refused b c (sym N.action_is ∙ ap meant e)

-- the move that is due
module _ {b : Book} {c : Config} {due : Move} (N : Names b c (Due due)) where
  pub due-accept : {ks : List Token} {states inherited synthesized starts rows : List ℕ} {top : Top} → Poised b ks c states inherited synthesized starts rows top
      → due ≡ Accept → Accepts b c rows
  unfolding meant
  due-accept H e = record { stops = accept-stops b c (sym N.action_is ∙ ap (λ m. meant (Due m)) e); rows_in = rows-held H.config_in }

  pub due-shift : {state kind value : ℕ} → Facing b c state kind value → due ≡ Shift → Shifts b c state kind value
  unfolding meant
  due-shift F e = record {
    action_is = sym N.action_is ∙ ap (λ m. meant (Due m)) e;
    state_is = F.state_is;
    kind_is = F.kind_is;
    value_is = F.value_is;
  }

  pub due-reduce : {P : ℕ} → due ≡ Reduce P → Reduces b c P
  unfolding meant
  due-reduce e = record { action_is = sym N.action_is ∙ ap (λ m. meant (Due m)) e }
