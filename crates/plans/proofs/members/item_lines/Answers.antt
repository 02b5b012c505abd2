use Prim.Native.Nat.{◌<◌, ◌≤◌}
use native.Mathlib.Omega.{arith}
use Rattle.grammar.specs.Formulas.FormulaCheck as grammar
use Rattle.attributes.specs.CheckingLaws.{position_low, position_high, place_is}
use Rattle.plans.specs.LinesAdded.{adding-more}
use Rattle.plans.specs.Found.{each_more}
use Rattle.plans.proofs.members.item_lines.Goals as goal
use Rattle.plans.proofs.members.item_lines.Goals.{In-loop-line}

-- the line is one of the book
there : (c : In-loop-line) → c.loop-line.line < grammar.definitions c.requires.0.0
there c = omega (arith, c.loop-line-test.true, c.requires.0.5)

pub returns-then-word-place : goal.returns-then-word-place
returns-then-word-place c =
    let high : c.word-in-loop-line.result ≤ 8 = omega (arith, c.word-in-loop-line.ensures, position_high c.requires.0.4 (there (goal.at.returns-then-word-place c).In-loop-line)) in
    λ b rules owned masks H e.
    let at = c.loop-line in
    record {
      line = at.line;
      adding = at.invariant.0;
      high = omega (arith, c.loop-line.auto.line-end);
      each = at.invariant.1 b rules owned masks H e;
      ended = λ l z.
          let m : at.line < grammar.definitions b = omega (arith, l, e) in
          c.if-word-place.true (omega (arith, place_is H m c.word.ensures c.word-in-loop-line.ensures, z, c.word-in-loop-line.ensures, position_low H m));
    }

pub loop-line-preserved : goal.loop-line-preserved
loop-line-preserved c =
    let few : c.loop-line.line < 128 = omega (arith, (there (goal.at.loop-line-preserved c).In-loop-line), c.requires.0.4.premises.definitions_limit) in
    let at = c.loop-line in (
      adding-more at.invariant.0 few c.add.ensures,
      λ b rules owned masks H e.
          let m : at.line < grammar.definitions b = omega (arith, c.loop-line-test.true, e) in
          each_more b (at.invariant.1 b rules owned masks H e)
          (omega (arith, place_is H m c.word.ensures c.word-in-loop-line.ensures, c.word-in-loop-line.ensures, position_low H m, c.if-word-place.false)),
    )

pub returns : goal.returns
returns c =
    λ b rules owned masks H e.
    let at = c.loop-line in
    record {
      line = at.line;
      adding = at.invariant.0;
      high = omega (arith, c.loop-line.auto.line-end);
      each = at.invariant.1 b rules owned masks H e;
      ended = λ l z. absurd (omega (arith, l, c.loop-line-test.false));
    }
