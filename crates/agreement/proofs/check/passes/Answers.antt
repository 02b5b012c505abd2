use mathlib.Core.Path.{◌≡◌}
use native.Mathlib.Omega.{arith}
use Rattle.agreement.specs.Over.{kept-more}
use Rattle.agreement.specs.PassesLaws.{few-done, passing-split, passing-turn, passing-further, passing-end}
use Rattle.agreement.proofs.check.passes.Goals as goal

pub pass-requires : goal.pass-requires
pass-requires c = let g = c.requires in
    let P = c.loop-next.invariant.1 g.0.0 g.0.1 g.0.2 g.0.3 g.0.4 g.0.5 in
    ((g.0.0, P.slots, P.done, g.0.3, g.0.4, P.holds), g.1, omega (arith, g.2, c.loop-next.invariant.0.nodes_kept.nexts_long))

pub returns-then-next-p : goal.returns-then-next-p
returns-then-next-p c = record {
  room = kept-more c.loop-next.invariant.0 c.in-Some.ensures.room;
  answer = λ b s d H e Q.
      let P = c.loop-next.invariant.1 b s d H e Q in
      passing-end b _ P e (c.in-Some.ensures.reached b P.slots P.done H e P.holds) c.if-next-p.true;
}

pub loop-next-smaller : goal.loop-next-smaller
loop-next-smaller c = let g = c.requires.0 in
    let P = c.loop-next.invariant.1 g.0 g.1 g.2 g.3 g.4 g.5 in
    let R = c.in-Some.ensures.reached g.0 P.slots P.done g.3 g.4 P.holds in
    let more = passing-further g.0 _ P g.4 R in
    let few = few-done g.0 _ (passing-turn g.0 _ P g.4 R) in
    let other : c.in-Some.next.count ≡ c.loop-next.p.count → ⊥ = c.if-next-p.false in
    omega (arith, more, few, other)

pub loop-next-preserved : goal.loop-next-preserved
loop-next-preserved c = (
  kept-more c.loop-next.invariant.0 c.in-Some.ensures.room,
  λ b s d H e Q.
      let P = c.loop-next.invariant.1 b s d H e Q in
      passing-turn b _ P e (c.in-Some.ensures.reached b P.slots P.done H e P.holds),
)

pub returns : goal.returns
returns c = record {
  room = kept-more c.loop-next.invariant.0 c.in_default.ensures.room;
  answer = λ b s d H e Q.
      let P = c.loop-next.invariant.1 b s d H e Q in
      passing-split b _ P e (c.in_default.ensures.reached b P.slots P.done H e P.holds);
}
