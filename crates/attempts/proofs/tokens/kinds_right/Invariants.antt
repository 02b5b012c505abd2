use Rattle.std.proofs.Common.{◌*◌, ◌≡◌, drop}
use Rattle.attempts.specs.Tokens.{kinds_right}
use Rattle.attempts.proofs.tokens.kinds_right.Given as goal

abbrev pub invariant-loop-i : goal.invariant-loop-i
invariant-loop-i l = kinds_right l.terminals (drop (2 * l.i) l.tokens) ≡ kinds_right l.terminals l.tokens
