use native.Mathlib.Omega.{arith}
use mathlib.Core.Path.{◌∙◌}
use Rattle.attributes.specs.FormulasHeld.{terminals-low, held-check}
use Rattle.agreement.specs.Over.{kept-same}
use Rattle.agreement.specs.OneFormula.{state-told, state-single}
use Rattle.agreement.proofs.one_formula.state_right.Goals as goal

pub returns-then-single : goal.returns-then-single
returns-then-single c = record {
  room = kept-same _;
  answer = λ b begins W O L l.
      let H = W.formulas_held in
      state-single H c.args.state
      (c.single.ensures c.if-single.true b _ _ H.ordered H.marks-held.items_in W.fronts_in L (omega (arith, l, H.states_are)));
}

pub masks-requires : goal.masks-requires
masks-requires c = let g = c.requires.0 in
    let H = g.2.formulas_held in
    (g.0, g.1, _, H.marks-held, held-check H g.3 (omega (arith, c.requires.1, H.rules_counted)), H.definitions-counted, omega (arith, g.5, H.states_are))

pub check_state-requires : goal.check_state-requires
check_state-requires c = let g = c.requires.0 in
    let H = g.2.formulas_held in
    let C = held-check H {masks = c.args.sets.now} g.3 (omega (arith, c.requires.1, H.rules_counted)) in
    let M = c.masks.ensures g.0 g.1 _ H.marks-held C H.definitions-counted (omega (arith, g.5, H.states_are)) in (
      (g.0, held-check H g.3 M.long, H.definitions-counted),
      terminals-low H,
      c.requires.2,
    )

pub returns : goal.returns
returns c = record {
  room = c.check_state.ensures.room;
  answer = λ b begins W O L l.
      let H = W.formulas_held in
      let M = c.masks.ensures b begins _ H.marks-held (held-check H O (omega (arith, c.requires.1, H.rules_counted))) H.definitions-counted
      (omega (arith, l, H.states_are)) in
      c.check_state.ensures.answer b (held-check H O M.long) H.definitions-counted H.terminals_are
      ∙ state-told H c.args.state M;
}
