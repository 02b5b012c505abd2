use Rattle.agreement.specs.OneFormula.{states-single}
use Rattle.agreement.proofs.single.all_single.Goals as goal

pub returns : goal.returns
returns c = λ e b rules count definitions lines closures nullables begins reaches terminals W G.
    let H = W.formulas_held in
    states-single H (c.states_single.ensures e b _ _ H.ordered H.marks-held.items_in W.fronts_in G H.states_are)
