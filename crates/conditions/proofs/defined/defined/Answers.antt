use mathlib.Core.Path.{refl}
use Rattle.conditions.specs.Due.{counts-low}
use Rattle.conditions.specs.DueBook.{inherited-low, synthesized-low, low-rules, defined-answer}
use Rattle.conditions.proofs.defined.defined.Goals as goal

pub count_owned-requires : goal.count_owned-requires
count_owned-requires c = let h = c.requires in (inherited-low h.1, refl)

pub count_owned-requires-2 : goal.count_owned-requires-2
count_owned-requires-2 c = let h = c.requires in (synthesized-low h.1, refl)

pub rights_due-requires : goal.rights_due-requires
rights_due-requires c = let h = c.requires in
    (low-rules h.1, counts-low (inherited-low h.1).few c.count_owned.ensures)

pub lefts_due-requires : goal.lefts_due-requires
lefts_due-requires c = let h = c.requires in
    (low-rules h.1, counts-low (synthesized-low h.1).few c.count_owned-2.ensures)

pub returns : goal.returns
returns c = record {
  for_all = λ b h. defined-answer h c.count_owned.ensures c.count_owned-2.ensures
      c.rights_due.ensures c.lefts_due.ensures;
}
