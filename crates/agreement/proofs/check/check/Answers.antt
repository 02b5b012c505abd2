use mathlib.Core.Path.{refl, ◌∙◌}
use mathlib.Core.Bool.{false}
use mathlib.Core.Option.{none}
use lib.ListN.{replicate}
use Rattle.agreement.specs.Progress.{ProgressIn}
use Rattle.agreement.specs.Over.{kept-more}
use Rattle.agreement.specs.CheckLaws.{nothing_yet, begun, check-is}
use Rattle.agreement.proofs.check.check.Goals as goal
use Rattle.agreement.proofs.check.check.Goals.{After-fill-3}

-- the words where the passes begin
start : (c : After-fill-3) → ProgressIn (replicate 16 none) (replicate 128 false) c.fill.new.self c.fill-2.new.self c.args.work.now.nodes.rows.now c.fill-3.new.self
    c.args.work.now.nodes.nexts.now nothing_yet
start c = begun c.requires.1 (c.fill.ensures.after (λ y e. e)) (c.fill-2.ensures.after (λ y e. e)) (c.fill-3.ensures.after (λ y e. e))

pub passes-requires : goal.passes-requires
passes-requires c = (
  (c.requires.0.0, replicate 16 none, replicate 128 false, c.requires.0.1, c.requires.0.2, start (goal.at.passes-requires c).After-fill-3),
  c.skip.ensures,
  c.requires.1.nodes_room.enough,
)

pub returns : goal.returns
returns c =
    let here = (goal.at.returns c).After-fill-3 in
    record {
      room = kept-more (record {
        slots_long = c.fill.auto.self;
        done_long = c.fill-2.auto.self;
        nodes_kept = record {
          rows_same = refl;
          heads_same = refl;
          nexts_same = refl;
          rows_long = refl;
          heads_long = c.fill-3.auto.self;
          nexts_long = refl;
        };
      }) c.passes.ensures.room;
      answer = λ b H e. c.passes.ensures.answer b (replicate 16 none) (replicate 128 false) H e (start here) ∙ check-is b _;
    }
