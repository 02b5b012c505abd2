use Prim.Native.Nat.{◌-◌}
use native.Mathlib.Omega.{arith}
use Rattle.automaton.specs.StatesIn.{KernelLow, kernel-low, state-range}
use Rattle.automaton.specs.Advances.{kernel-stands}
use Rattle.automaton.specs.ActionItems.{kernels-none, kernels-more, kernels-fail, kernels-all, line-there}
use Rattle.automaton.proofs.actions.kernels_act.Goals as goal
use Rattle.automaton.proofs.actions.kernels_act.Goals.{In-loop-i}

-- the words of the line before i
low : (c : In-loop-i) → KernelLow c.args.kernels.now
    (c.loop-i.i - 1)
low c = let p = c.requires in
    kernel-low p.1.1 (c.loop-i.i - 1) (line-there c.loop-i.invariant c.loop-i-test.true p.1.0 p.1.1 p.1.2)

pub loop-i-init : goal.loop-i-init
loop-i-init c = let range = state-range c.requires.1.1 c.args.state c.requires.1.2 in
    kernels-none c.args.rules.now c.args.kernels.now c.args.bounds.now c.args.terminals c.args.state c.args.actions.now
    c.word-first.ensures c.word-last.ensures (omega (arith, range.ordered, c.word-first.ensures, c.word-last.ensures))

pub word-rule-requires : goal.word-rule-requires
word-rule-requires c =
    omega (arith, (low (goal.at.word-rule-requires c).In-loop-i).there)

pub word-dot-requires : goal.word-dot-requires
word-dot-requires c =
    omega (arith, (low (goal.at.word-dot-requires c).In-loop-i).there)

pub bounds-kernels-i : goal.bounds-kernels-i
bounds-kernels-i c =
    omega (arith, (low (goal.at.bounds-kernels-i c).In-loop-i).there)

pub give_item-requires : goal.give_item-requires
give_item-requires c = let p = c.requires in
    let inside = line-there c.loop-i.invariant c.loop-i-test.true p.1.0 p.1.1 p.1.2 in (
      omega (arith, p.0, c.loop-i.invariant.long),
      (
        p.1.0,
        p.1.1.grammar_in,
        kernel-stands p.1.1 p.1.2 inside c.word-rule.ensures c.word-dot.ensures,
        p.1.3,
      ),
    )

pub returns-then-not-give_item : goal.returns-then-not-give_item
returns-then-not-give_item c = kernels-fail c.loop-i.invariant c.loop-i-test.true
    c.word-rule.ensures c.word-dot.ensures
    c.give_item.ensures
    c.if-not-give_item.true

pub loop-i-preserved : goal.loop-i-preserved
loop-i-preserved c = kernels-more c.loop-i.invariant c.loop-i-test.true
    c.word-rule.ensures c.word-dot.ensures
    c.give_item.ensures
    c.if-not-give_item.false c.give_item.auto.actions

pub returns : goal.returns
returns c = kernels-all c.loop-i.invariant c.loop-i-test.false
