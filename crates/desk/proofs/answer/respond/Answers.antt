use Rattle.std.proofs.Common.{ap, sym, ◌∙◌}
use Rattle.std.specs.Prelude.{ℕ, Result}
use Rattle.console.specs.Printing.{answer_in, printed-same}
use Rattle.console.specs.Figures.{answer-evaluated}
use Rattle.desk.specs.Answers.{numbered-is, figured-few}
use Rattle.desk.proofs.answer.respond.Goals as goal

pub put_answer-requires : goal.put_answer-requires
put_answer-requires c = record {
  few = rw (numbered-is _ c.map_err-answer.ensures.cases) (figured-few _ _ c.figures.ensures);
  page = c.figures.auto.rows ∙ c.requires.1.rows_long;
  room = c.requires.2;
}

pub returns : goal.returns
returns c =
    let told = numbered-is _ c.map_err-answer.ensures.cases in
    printed-same
    (ap (λ (a : Result ℕ ℕ). answer_in a c.figures.new.rows) told ∙ (c.figures.ensures.answer_is ∙ sym (answer-evaluated _ _ c.requires.0)))
    c.put_answer.ensures
