use mathlib.Core.Bool.{not}
use Prim.Native.Nat.{ℕ}
use mathlib.Core.Path.{◌≡◌, refl, sym, ap, ◌∙◌}
use mathlib.Core.Bool.{Bool}
use mathlib.Core.List.{List}
use native.Mathlib.Omega.{arith}
use Rattle.grammar.specs.Data.Book.{Book}
use Rattle.grammar.specs.Formulas.FormulaCheck as grammar
use Rattle.attributes.specs.Checking.{member_of, member_in}
use Rattle.agreement.specs.CheckLaws.{all_start, all-turn, one-fails}
use Rattle.agreement.specs.Over.{CheckOver, kept-same, kept-more, room-over}
use Rattle.agreement.specs.Alike.{right-start, right-more}
use Rattle.attributes.specs.Wanted.{check-single}
use Rattle.agreement.proofs.check.parts_right.Goals as goal
use Rattle.agreement.proofs.check.parts_right.Goals.{After-check}

-- the check of a terminal
abbrev answer : List ℕ → Book → ℕ → Bool
answer masks b a = grammar.check b (member_of masks a)

-- that of a turn, of the terminal's items alone
told : (c : After-check) (b : Book) → CheckOver b c.args.parts.now
    → c.args.parts.now.lines ≡ grammar.definitions b → c.check.result ≡ answer c.args.parts.now.masks.now b c.loop-a.a
told c b H e =
    c.check.ensures.answer b H e ∙ ap (λ (set : ℕ). grammar.check b (member_in c.args.parts.now.masks.now set)) c.single.ensures
    ∙ check-single b c.args.parts.now.masks.now c.loop-a.a (omega (arith, c.loop-a-test.true, c.requires.1))

pub loop-a-init : goal.loop-a-init
loop-a-init c = (kept-same _, λ b H e. (all_start _, right-start b c.args.parts.now.masks.now))

pub check-requires : goal.check-requires
check-requires c = (c.requires.0, room-over c.requires.2 c.loop-a.invariant.0)

pub loop-a-preserved-then-has : goal.loop-a-preserved-then-has
loop-a-preserved-then-has c = (
  c.loop-a.invariant.0,
  λ b H e.
      let (all, right) = c.loop-a.invariant.1 b H e in (
        all-turn (answer c.args.parts.now.masks.now b) c.loop-a.a all
            (sym (right c.loop-a.a (omega (arith, c.loop-a-test.true, c.requires.1)) (sym c.has.ensures ∙ c.if-has.true))) refl,
        right,
      ),
)

pub returns-then-not-check : goal.returns-then-not-check
returns-then-not-check c =
    let here = (goal.at.returns-then-not-check c).After-check in
    record {
      room = kept-more c.loop-a.invariant.0 c.check.ensures.room;
      answer = λ b H e t.
          one-fails (answer c.args.parts.now.masks.now b) c.loop-a.a _ (omega (arith, c.loop-a-test.true, t)) (told here b H e) (ap not c.if-not-check.true);
    }

pub loop-a-preserved : goal.loop-a-preserved
loop-a-preserved c =
    let here = (goal.at.loop-a-preserved c).After-check in (
      kept-more c.loop-a.invariant.0 c.check.ensures.room,
      λ b H e.
          let (all, right) = c.loop-a.invariant.1 b H e in
          let now = told here b H e in (
            all-turn (answer c.args.parts.now.masks.now b) c.loop-a.a all now (ap not c.if-not-check.false),
            rw c.union-right.ensures
                (right-more b c.args.parts.now.masks.now c.loop-a.right c.alike-more.result c.loop-a.a right (sym now ∙ c.if-not-check.false)
                (c.alike-more.ensures b c.args.parts.now.rules.now c.args.parts.now.owned.now H e)),
          ),
    )
