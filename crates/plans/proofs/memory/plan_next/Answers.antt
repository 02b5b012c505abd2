use Prim.Native.Nat.{◌≤◌}
use native.Mathlib.Omega.{arith}
use mathlib.Core.Path.{refl}
use Rattle.grammar.specs.Limits.{MAX_INHERITED}
use Rattle.plans.specs.MemoryLaws.{row-short, plan-filled, slot-filled, told-spare, told-new}
use Rattle.plans.proofs.memory.plan_next.Goals as goal

pub overflow_cast-lists : goal.overflow_cast-lists
overflow_cast-lists c =
    let few : c.plan-n.result ≤ MAX_INHERITED = let (b, masks, C, L, l, M) = c.requires.0 in
    row-short b _ (c.plan-n.ensures.0 b _ masks C L) in
    omega (arith, few)

pub returns-then-slot-last : goal.returns-then-slot-last
returns-then-slot-last c = λ b masks C L l M.
    let E = c.plan-n.ensures.1 in
    told-spare c.requires.2 M l refl (plan-filled _ (omega (arith, E.long, M.last_low, M.lists_long)) (c.plan-n.ensures.0 b _ masks C L)) (slot-filled _ _ E)

pub returns : goal.returns
returns c = λ b masks C L l M.
    let E = c.plan-n.ensures.1 in
    told-new c.requires.2 M l refl (plan-filled _ (omega (arith, E.long, M.last_low, M.lists_long)) (c.plan-n.ensures.0 b _ masks C L)) (slot-filled _ _ E)
    c.if-slot-last.false
