use native.Mathlib.Omega.{arith}
use Rattle.automaton.specs.StatesIn.{state-range}
use Rattle.automaton.specs.Comes.{searched, has_kernel, has-rule}
use Rattle.automaton.proofs.go_rules.has_item.Goals as goal
use Rattle.automaton.proofs.go_rules.has_item.Goals.{else-dot-eq0-via-else-dot-eq0, else-dot-eq0-via-then-dot-eq0+else-closures-state-ne0}

pub returns-then-closures-state-ne0 : goal.returns-then-closures-state-ne0
returns-then-closures-state-ne0 c = λ b F h s. has-rule h s c.if-dot-eq0.true c.word.ensures c.if-closures-state-ne0.true

pub holds_item-requires : goal.holds_item-requires
holds_item-requires c = let range = state-range c.requires.2.states_in c.args.state c.requires.3.state_there in (
  omega (arith, range.below, c.requires.2.states_in.kernels-in.long, c.word-last.ensures),
  omega (arith, range.ordered, c.word-first.ensures, c.word-last.ensures),
)

pub returns : goal.returns
returns c = λ b F h s.
    has_kernel h s (λ z. elim c.else-dot-eq0.branch [
      | else-dot-eq0-via-then-dot-eq0+else-closures-state-ne0 w ↦ rw w.word.ensures at w.if-closures-state-ne0.false
      | else-dot-eq0-via-else-dot-eq0 w ↦ absurd (w.if-dot-eq0.false z)
    ])
    (searched h s c.word-first.ensures c.word-last.ensures c.empty.ensures c.holds_item.ensures)
