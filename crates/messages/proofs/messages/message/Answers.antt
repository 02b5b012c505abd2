use mathlib.Core.Path.{◌∙◌}
use Rattle.messages.specs.Pages.{rows_end, page-cleared}
use Rattle.messages.proofs.messages.message.Goals as goal

pub slice_bounds-fill-count : goal.slice_bounds-fill-count
slice_bounds-fill-count c = rows_end _ _ _ (c.in_ok-count.ensures c.requires.some.0 c.requires.some.1 c.requires.message.0)

pub slice_bounds-fill-start : goal.slice_bounds-fill-start
slice_bounds-fill-start c = rows_end _ _ _ (c.in_ok-count.ensures c.requires.some.0 c.requires.some.1 c.requires.message.0)

pub returns : goal.returns
returns c = λ b t m.
    page-cleared _ _ _ (c.message_run.auto.rows ∙ c.requires.message.1) (c.fill.ensures.after (λ y e. e)) (c.in_ok-count.ensures b t m)
