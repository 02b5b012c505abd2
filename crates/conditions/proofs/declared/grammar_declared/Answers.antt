use Prim.Native.Nat.{ℕ}
use mathlib.Core.Path.{ap₂, ◌∙◌}
use mathlib.Core.Bool.{◌&&◌}
use Rattle.grammar.specs.Conditions.Decides.{one_to, all}
use Rattle.conditions.specs.AskedLaws.{owners-are}
use Rattle.conditions.specs.DeclaredTests.{grammar_declared}
use Rattle.conditions.specs.DeclaredLaws.{start-rules}
use Rattle.conditions.proofs.declared.grammar_declared.Goals as goal

pub returns : goal.returns
unfolding grammar_declared
returns c = record {
  for_all = λ b h. let k = h.rules_of.counted in
      ap₂ ◌&&◌ (ap₂ ◌&&◌
      (c.owners_declared.ensures
      ∙ ap₂ (λ (n : ℕ). all (one_to n)) k.nonterminals_are (owners-are h.inherited-in k.inherited_are))
      (c.owners_declared-2.ensures ∙ ap₂ (λ (n : ℕ). all (one_to n)) k.nonterminals_are
      (owners-are h.synthesized-in k.synthesized_are)))
      (ap₂ ◌&&◌ c.start_declared.ensures (c.rules_declared.ensures.for_all b h.rules_of)
      ∙ start-rules h.rules_of.within h.rules_of.rules_in);
}
