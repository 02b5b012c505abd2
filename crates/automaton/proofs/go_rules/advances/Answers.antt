use Prim.Native.Nat.{◌+◌, ◌*◌, ◌<◌}
use native.Mathlib.Omega.{arith}
use lib.ListN.{length, get_or}
use Rattle.items.specs.GrammarIn.{RuleLow, rule_low}
use Rattle.automaton.specs.Advances.{advances-complete, advances-nowhere, advances-found, target-range, target-within}
use Rattle.automaton.proofs.go_rules.advances.Goals as goal
use Rattle.automaton.proofs.go_rules.advances.Goals.{Else-dot-word, In-Some, Start}

-- the words of the rule
low : (c : Start) → RuleLow c.args.rules.now c.args.rule
low c = rule_low c.requires.1.states_in.grammar_in c.args.rule c.requires.2.rule_there

-- a symbol stands behind the dot
more : (c : Else-dot-word) → c.args.dot < get_or
    c.args.rules.now (10 * c.args.rule + 1) 0
more c = rw c.word.ensures at c.if-dot-word.false

pub returns-then-dot-word : goal.returns-then-dot-word
returns-then-dot-word c b h s = advances-complete h s c.args.set (rw c.word.ensures at c.if-dot-word.true)

pub word-symbol-requires : goal.word-symbol-requires
word-symbol-requires c =
    omega (arith, (low (goal.at.word-symbol-requires c).Start), (more (goal.at.word-symbol-requires c).Else-dot-word))

pub target_of-requires : goal.target_of-requires
target_of-requires c =
    omega (
      arith,
      (low (goal.at.target_of-requires c).Start).symbol_low c.args.dot (more (goal.at.target_of-requires c).Else-dot-word),
      c.word-symbol.ensures,
      c.requires.2.state_there,
      c.requires.1.states_in.grammar_in.limits.states_limit.high,
      c.requires.1.table_in.long,
    )

pub returns-in_default : goal.returns-in_default
returns-in_default c b h s =
    advances-nowhere h s c.args.set (more (goal.at.returns-in_default c).Else-dot-word) (rw c.word-symbol.ensures at c.in_default.ensures)

-- the target is a state
target : (c : In-Some) → c.in-Some.target + 1 < length c.args.bounds.now
target c = omega (
  arith,
  target-within c.requires.1 c.requires.2 (rw c.word.ensures at c.if-dot-word.false) c.word-symbol.ensures c.in-Some.ensures,
  c.requires.1.states_in.bounds_in.long,
)

pub word-first-requires : goal.word-first-requires
word-first-requires c = omega (arith, target c)

pub word-last-requires : goal.word-last-requires
word-last-requires c = target (goal.at.word-last-requires c).In-Some

pub holds_item-requires : goal.holds_item-requires
holds_item-requires c =
    let range = target-range c.requires.1 c.requires.2 (more (goal.at.holds_item-requires c).Else-dot-word)
    c.word-symbol.ensures c.in-Some.ensures in (
      omega (arith, range.below, c.requires.1.states_in.kernels-in.long, c.word-last.ensures),
      omega (arith, range.ordered, c.word-first.ensures, c.word-last.ensures),
    )

pub returns : goal.returns
returns c b h s =
    advances-found h s (more (goal.at.returns c).Else-dot-word) c.word-symbol.ensures
    c.in-Some.ensures c.args.set c.word-first.ensures c.word-last.ensures
    c.holds_item.ensures
