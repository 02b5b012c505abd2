use native.Mathlib.Omega.{arith}
use Rattle.std.proofs.lemmas.Option.{IfSome_then}
use Rattle.book.specs.Numbered.{brief-numbered}
use Rattle.book.proofs.rules.short_left.Goals as goal

pub returns-then-source-a : goal.returns-then-source-a
returns-then-source-a c = let number = c.in_ok-number.ensures in
    IfSome_then _ c.short-then-source-a.ensures (λ left brief. brief-numbered _ _ _ number (omega (arith, c.if-n-at.false, number.near)) c.if-source-a.true brief)
