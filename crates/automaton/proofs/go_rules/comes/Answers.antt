use Prim.Native.Nat.{◌≤◌}
use native.Mathlib.Omega.{arith}
use mathlib.Core.Path.{sym, ◌∙◌}
use Rattle.std.proofs.Common.{eqb-true}
use Rattle.std.proofs.lemmas.Bool.{eqb-false}
use borrow.Author.Tests.{eq-eqb}
use Rattle.grammar.specs.Automaton.TestLaws.{true-false}
use Rattle.items.specs.GrammarIn.{RuleLow, rule_low}
use Rattle.automaton.specs.StatesIn.{stands-back}
use Rattle.automaton.specs.Comes.{comes-front, comes-other, comes-item}
use Rattle.automaton.proofs.go_rules.comes.Goals as goal
use Rattle.automaton.proofs.go_rules.comes.Goals.{then-dot-ne0, else-dot-ne0}

pub word-requires : goal.word-requires
word-requires c =
    let low : RuleLow c.args.rules.now c.args.rule = rule_low c.requires.2.states_in.grammar_in c.args.rule c.requires.3.rule_there in
    let dot_low : c.args.dot ≤ 8 = omega (arith, (low).size_low, c.requires.3.dot_there, c.requires.2.states_in.grammar_in.rules_in.size_is c.args.rule c.requires.3.rule_there) in
    omega (arith, (low).there, dot_low)

pub returns-else-word-symbol : goal.returns-else-word-symbol
returns-else-word-symbol c = λ b F X h s x e.
    c.if-word-symbol.false
    ∙ elim c.if-dot-ne0.branch [
      | then-dot-ne0 w ↦ comes-other h s X w.if-dot-ne0.true x e w.word.ensures (eqb-false _ _ (sym w.value-is ∙ c.if-word-symbol.false))
      | else-dot-ne0 w ↦ comes-front h s X w.if-dot-ne0.false
    ]

pub returns-then-word-symbol : goal.returns-then-word-symbol
returns-then-word-symbol c = λ b F X h s x e.
    elim c.if-dot-ne0.branch [
      | then-dot-ne0 w ↦ comes-item h s X w.if-dot-ne0.true x e w.word.ensures (eqb-true _ _ (sym w.value-is ∙ c.if-word-symbol.true))
          (c.has_item.ensures b F h (stands-back s))
      | else-dot-ne0 w ↦ true-false c.if-word-symbol.true (w.value-is ∙ rw (eq-eqb _ _ w.if-dot-ne0.false))
    ]
