use native.Mathlib.Omega.{arith}
use Rattle.attributes.specs.FormulasHeld as FormulasHeld
use Rattle.plans.specs.PlansLaws.{plan-empty}
use Rattle.plans.specs.MemoryLaws.{plans-check, told-known, told-empty}
use Rattle.plans.proofs.memory.planned.Goals as goal

pub returns-in-Some-clause-plan : goal.returns-in-Some-clause-plan
returns-in-Some-clause-plan c = λ b H s M. told-known c.requires.1 M s (omega (arith, c.in-Some.ensures))

pub returns-then-found-eq0-clause-plan : goal.returns-then-found-eq0-clause-plan
returns-then-found-eq0-clause-plan c = λ b H l M.
    let F = H.formulas_held in
    told-empty c.requires.1 M l
    (plan-empty F.ordered (FormulasHeld.limits F) (FormulasHeld.declared F) c.args.state c.args.terminal (c.members.ensures b _ H l)
    (plans-check H).premises.definitions_limit c.if-found-eq0.true)

pub plan_next-requires : goal.plan_next-requires
plan_next-requires c = let (b, H, l, M) = c.requires.0 in
    ((b, _, plans-check H, c.members.ensures b _ H l, l, M), omega (arith, l, (FormulasHeld.limits H.formulas_held).states_limit.high), c.requires.1)

pub returns-clause-plan : goal.returns-clause-plan
returns-clause-plan c = λ b H l M.
    c.plan_next.ensures b _ (plans-check H) (c.members.ensures b _ H l) l M
