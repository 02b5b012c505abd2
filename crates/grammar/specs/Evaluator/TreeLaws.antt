-- Laws of the need of trees: a node's need by what stands on the stack above its first child. Assumes nothing.
use Rattle.std.specs.Prelude.{ℕ, suc, ◌+◌, max, ◌≤◌, ◌≡◌, List, length}
use Rattle.std.proofs.Common.{arith}
use Rattle.grammar.specs.Data.Symbol.{Symbol}
use Rattle.grammar.specs.Data.Book.{Book}
use Rattle.grammar.specs.Evaluator.Tree.{Tree, leaf, node, Trees, nil, cons, need, need_from, AllStand, nil_stands, cons_stands}

-- the symbols that trees take on the stack while they are built one after another, each staying there
abbrev pub need_all : Trees → ℕ
need_all nil = 0
need_all (cons t ts) = max (need t) (suc (need_all ts))

pub need-positive : (t : Tree) → 1 ≤ need t
need-positive (leaf k) = omega arith
need-positive (node P ts) = omega arith

need_from-all : (n : ℕ) (ts : Trees) → max n (need_from n ts) ≡ n + need_all ts
need_from-all n nil = omega arith
need_from-all n (cons t ts) = omega (arith, need_from-all (suc n) ts, need-positive t)

pub need-node : (P : ℕ) (ts : Trees) → need (node P ts) ≡ max 1 (need_all ts)
need-node P ts = omega (arith, need_from-all 0 ts)

pub need-length : (b : Book) {ts : Trees} {γ : List Symbol} → AllStand b ts γ → length γ ≤ need_all ts
need-length b nil_stands = omega arith
need-length b (cons_stands s ss) = omega (arith, need-length b ss)
