use Prim.Native.Nat.{◌+◌, ◌*◌, ◌<◌}
use native.Mathlib.Omega.{arith}
use lib.ListN.{get_or}
use Rattle.items.specs.GrammarIn.{RuleLow, rule_low}
use Rattle.automaton.specs.ActionItems.{item-nonterminal, item-terminal}
use Rattle.automaton.proofs.actions.give_item.Goals as goal
use Rattle.automaton.proofs.actions.give_item.Goals.{Else-dot-word}

-- a symbol stands behind the dot
more : (c : Else-dot-word) → c.args.dot < get_or c.args.rules.now
    (10 * c.args.rule + 1) 0
more c = rw c.word.ensures at c.if-dot-word.false

pub word-symbol-requires : goal.word-symbol-requires
word-symbol-requires c =
    let low : RuleLow c.args.rules.now c.args.rule = rule_low c.requires.1.1 c.args.rule c.requires.1.2.rule_there in
    omega (arith, (low).there, (low).size_low, (more (goal.at.word-symbol-requires c).Else-dot-word))

pub returns-then-symbol-ge32 : goal.returns-then-symbol-ge32
returns-then-symbol-ge32 c =
    λ b cells g s t row.
    item-nonterminal g s t c.args.set cells row (more (goal.at.returns-then-symbol-ge32 c).Else-dot-word) c.word-symbol.ensures c.if-symbol-ge32.true

pub returns : goal.returns
returns c =
    let state_low : c.args.state < 128 = omega (arith, c.requires.1.2.state_there, c.requires.1.1.limits.states_limit.high) in
    λ b cells g s t row.
    item-terminal g s t c.args.set cells row (more (goal.at.returns c).Else-dot-word)
    c.word-symbol.ensures c.if-symbol-ge32.false
    (omega (arith, state_low, c.requires.0))
    c.give.ensures
