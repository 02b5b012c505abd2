use Prim.Native.Nat.{◌<◌}
use native.Mathlib.Omega.{arith}
use lib.ListN.{length}
use Rattle.grammar.specs.Automaton.LeastLaws.{Family}
use Rattle.items.specs.Passes.{pass-begins, turn_more, turn-same}
use Rattle.items.specs.ClosurePasses.{closure-fits}
use Rattle.items.specs.Leads.{lead-on}
use Rattle.items.proofs.closure.pass.Goals as goal
use Rattle.items.proofs.closure.pass.Goals.{else-visit, then-visit}
use Rattle.items.proofs.closure.pass.Goals.{After-slice_known-1}

-- the words lent are sets
family : (c : After-slice_known-1) → Family 32 c.args.looks.now
family c = record { long = c.requires.2; low = λ i. (c.slice_known-1.given i).fits }

pub loop-rule-init : goal.loop-rule-init
loop-rule-init c =
    let sets = (family (goal.at.loop-rule-init c).After-slice_known-1) in
    λ b F H e. lead-on H c.requires.1 e sets (pass-begins (closure-fits H e sets))

pub loop-rule-preserved : goal.loop-rule-preserved
loop-rule-preserved c =
    let h = c.loop-rule-test.true in
    let told = c.visit.ensures in
    let sets = (family (goal.at.loop-rule-preserved c).After-slice_known-1) in
    let leads = c.requires.1 in
    λ b F H e.
    let fits = closure-fits H e sets in
    let inv = c.loop-rule.invariant b F H e in
    let p : c.loop-rule.rule < length b.rules = omega arith in
    lead-on H leads e sets
    (elim c.if-visit.branch [
      | then-visit w ↦ rw w.changed-is (turn_more fits inv h (told b F H p) w.if-visit.true)
      | else-visit w ↦ rw w.changed-is (turn-same fits inv h (told b F H p) w.if-visit.false)
    ])
