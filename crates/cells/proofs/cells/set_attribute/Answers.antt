use Rattle.std.proofs.Common.{ℕ, ◌+◌, ◌-◌, ◌*◌, List, get_or, set, ap}
use Rattle.grammar.specs.Data.Book.{Book}
use Rattle.grammar.specs.Formulas.FormulaCheck.{line_at}
use Rattle.cells.specs.Values.{Asked}
use Rattle.cells.specs.Cells.{LineAsked, line_set}
use Rattle.cells.proofs.cells.set_attribute.Goals as goal

-- the dot that is read
asked-at : {b : Book} {definitions : List ℕ} {height d : ℕ} → LineAsked b definitions height d
    → Asked definitions d (get_or definitions (49 * d + 1) 0 - 1) (line_at b d).expression
asked-at A = rw A.position_is A.asked

pub returns : goal.returns
unfolding line_set
returns c = λ b A.
    rw A.attribute_is
    (ap (λ v. set c.args.inherited.now (16 * c.args.height + (line_at b c.args.line).attribute) v)
    (rw A.position_is at (c.value-v.ensures (line_at b c.args.line).expression (asked-at A))))
