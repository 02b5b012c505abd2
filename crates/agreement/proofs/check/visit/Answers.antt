use mathlib.Core.Path.{ap}
use mathlib.Core.Bool.{not}
use mathlib.Core.Path.{◌≡◌, refl}
use mathlib.Core.Bool.{true}
use native.Mathlib.Omega.{arith}
use lib.ListN.{get_or, set}
use Rattle.std.proofs.Common.{length-set}
use Rattle.grammar.specs.Formulas.Slots.{own_at}
use Rattle.grammar.specs.Formulas.FormulaCheck.{dot_of, formula_of, line_at}
use Rattle.attributes.specs.CheckingLaws.{attribute_low}
use Rattle.agreement.specs.Over.{kept-same}
use Rattle.agreement.specs.VisitLaws.{visit-done, visit-undue, visit-enters, count_low, asked-line, formed-means, formed-low, formed-progress}
use Rattle.agreement.proofs.check.visit.Goals as goal
use Rattle.agreement.proofs.check.visit.Goals.{Else-not-due}

-- the definition is not done
mark : (c : Else-not-due) → get_or c.args.work.now.done c.args.line 0 ≡ 0
mark c = c.if-work-line-ne0.false

pub returns-then-work-line-ne0 : goal.returns-then-work-line-ne0
returns-then-work-line-ne0 c = record {
  room = kept-same _;
  reached = λ b s d H l R. visit-done H l R c.if-work-line-ne0.true _;
}

pub returns-then-not-due : goal.returns-then-not-due
returns-then-not-due c = record {
  room = kept-same _;
  reached = λ b s d H l R. visit-undue H l R _ (c.due.ensures b s H l R.known_in) (ap not c.if-not-due.true);
}

pub formula_of-r-requires : goal.formula_of-r-requires
formula_of-r-requires c =
    let line = line_at c.requires.0.0 c.args.line in
    let R = c.requires.0.5 in
    record { table = R.table_in; by_index = (line.expression, own_at c.requires.0.1 (dot_of line), asked-line c.requires.0.3 c.requires.0.4 R (mark (goal.at.formula_of-r-requires c).Else-not-due) c.requires.1 refl) }

pub overflow_add-formed : goal.overflow_add-formed
overflow_add-formed c =
    omega (arith, count_low c.requires.0.3 c.requires.0.4 c.requires.0.5 (mark (goal.at.overflow_add-formed c).Else-not-due))

pub enter-requires : goal.enter-requires
enter-requires c =
    let here = (goal.at.enter-requires c).Else-not-due in
    let H = c.requires.0.3 in
    let l = c.requires.0.4 in
    let R = c.requires.0.5 in
    let F = c.formula_of-r.ensures.formed _ _ (asked-line H l R (mark here) c.requires.1 refl) in
    (attribute_low H l, R.words_long, formed-low H l R (mark here) c.requires.1 refl F)

pub returns : goal.returns
returns c =
    let here = (goal.at.returns c).Else-not-due in
    let room = c.requires.1 in
    record {
      room = record {
        slots_long = c.enter.auto.slots;
        done_long = length-set c.args.work.now.done c.args.line 1;
        nodes_kept = c.formula_of-r.ensures.kept;
      };
      reached = λ b s d H l R.
          let F = c.formula_of-r.ensures.formed _ _ (asked-line H l R (mark here) room refl) in
          rw (visit-enters H l R (mark here) c.args.wanted (c.due.ensures b s H l R.known_in) (ap not c.if-not-due.false))
          (c.enter.ensures s (set d c.args.line true) _ _ _ _ (formula_of s (line_at b c.args.line))
          (formed-progress H l R (mark here) room refl F) (formed-means H l R (mark here) room refl F));
    }
