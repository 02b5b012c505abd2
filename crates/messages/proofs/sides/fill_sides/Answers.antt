use Rattle.grammar.specs.Limits.{MAX_INHERITED, MAX_SYNTHESIZED}
use Rattle.messages.specs.Sides.{sides-in}
use Rattle.messages.proofs.sides.fill_sides.Goals as goal

pub returns : goal.returns
returns c = λ b a. sides-in a (c.owned.ensures b.inherited_owners a.inherited-in.owners_in a.inherited-in.counted) (record {
  spans_in = c.fill_spans.ensures b a.lines_in;
  down_in = c.fill_lists.ensures MAX_INHERITED b.inherited_owners a.inherited-in;
  up_in = c.fill_lists-2.ensures MAX_SYNTHESIZED b.synthesized_owners a.synthesized-in;
})
