use mathlib.Core.Path.{refl}
use native.Mathlib.Omega.{arith}
use Rattle.attributes.specs.FormulasHeld.{limits}
use Rattle.compiler.proofs.compile.formulas_right.Goals as goal

pub all_single-requires : goal.all_single-requires
all_single-requires c = let (b, begins, W, O, e, G) = c.requires in (b, _, _, _, _, _, _, _, _, _, W, G)

pub returns-then-all_single : goal.returns-then-all_single
returns-then-all_single c = λ b begins W O e G. c.all_single.ensures c.if-all_single.true b _ _ _ _ _ _ _ _ _ W G

pub formulas_in-requires-clause-held : goal.formulas_in-requires-clause-held
formulas_in-requires-clause-held c = c.requires

pub formulas_in-requires-2 : goal.formulas_in-requires-2
formulas_in-requires-2 c = let (b, begins, W, O, e, G) = c.requires in
    let H = W.formulas_held in record {
      held = c.requires;
      room = (refl, omega arith, omega (arith, H.definitions-counted, (limits H).definitions_limit));
    }
