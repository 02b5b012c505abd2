use Rattle.std.proofs.Common.{ℕ, ◌≤◌, ◌≡◌, List, ◌++◌, length, take, drop, length-append, length-drop, arith}
use Rattle.std.proofs.lemmas.List.{length-take-le}
use Rattle.attributes.specs.FormulasHeld.{held-lines}
use Rattle.agreement.proofs.givers.fill_givers.Goals as goal

-- words of which the first n are filled are as many as before
as_many : (words part : List ℕ) (n : ℕ) → n ≤ length words → length part ≡ length (take n words) → length (part ++ drop n words) ≡ length words
as_many words part n h e = omega (arith, length-append part (drop n words), length-drop n words, length-take-le n words h)

pub mark_givers-requires : goal.mark_givers-requires
mark_givers-requires c = let (b, rules, kernels, bounds, closures, nullables, begins, reaches, terminals, states, H) = c.requires.0 in (
  b,
  rules,
  (held-lines H).0,
  _,
  (held-lines H).1,
  H.definitions-counted,
  omega (arith, H.rules_counted, as_many c.args.given.now c.fill.new.self _ c.requires.1 c.fill.ensures.len),
)

pub returns : goal.returns
returns c = λ b rules kernels bounds closures nullables begins reaches terminals states H.
    c.mark_givers.ensures b _ _ _ (held-lines H).1 H.definitions-counted
    (omega (arith, H.rules_counted, as_many c.args.given.now c.fill.new.self _ c.requires.1 c.fill.ensures.len))
