use native.Mathlib.Omega.{arith}
use Rattle.grammar.specs.Format.Reader.{opening}
use Rattle.lines.specs.Heads.{head_read}
use Rattle.lines.proofs.past_head.Goals as goal

pub returns-then-n-m : goal.returns-then-n-m
unfolding opening
returns-then-n-m c = c.head.ensures

pub returns-then-n-m-2 : goal.returns-then-n-m-2
unfolding opening
returns-then-n-m-2 c = c.head-then-n-m-2.ensures

pub returns-then-not-same_four : goal.returns-then-not-same_four
unfolding opening
returns-then-not-same_four c = c.head-then-not-same_four.ensures

pub returns-then-not-same_four-2 : goal.returns-then-not-same_four-2
unfolding opening
returns-then-not-same_four-2 c = c.head-then-not-same_four-2.ensures

pub returns : goal.returns
returns c = head_read c.requires.1 _ _ (omega arith) (c.same_four.ensures c.if-not-same_four.false)
    (c.same_four-2.ensures c.if-not-same_four-2.false)
