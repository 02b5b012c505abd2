use mathlib.Core.Path.{ap₂}
use mathlib.Core.Bool.{◌&&◌}
use Rattle.conditions.specs.AskedLaws.{grammar-of, kernels_of, goes_of}
use Rattle.conditions.specs.DeclaredTests.{names_declared}
use Rattle.conditions.proofs.declared.names_declared.Goals as goal

pub grammar_declared-grammar-requires : goal.grammar_declared-grammar-requires
grammar_declared-grammar-requires c = let h = c.requires in (h.0, grammar-of h.1)

pub kernels_declared-requires : goal.kernels_declared-requires
kernels_declared-requires c = let h = c.requires in (h.0, kernels_of h.1)

pub goes_declared-requires : goal.goes_declared-requires
goes_declared-requires c = let h = c.requires in (h.0, goes_of h.1)

pub returns : goal.returns
unfolding names_declared
returns c = record {
  for_all = λ b h.
      ap₂ ◌&&◌ (c.grammar_declared-grammar.ensures.for_all b (grammar-of h))
      (ap₂ ◌&&◌ (c.kernels_declared.ensures.for_all b (kernels_of h)) (c.goes_declared.ensures.for_all b (goes_of h)));
}
