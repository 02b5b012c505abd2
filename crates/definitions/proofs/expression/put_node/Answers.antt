use Rattle.std.proofs.Common.{◌≡◌, length}
use Rattle.definitions.specs.ExpressionsLaws.{node_in, node-out}
use borrow.Author.Rules.{rules}
use Rattle.definitions.proofs.expression.put_node.Goals as goal

pub returns-then-k-lt-MAX_NODES : goal.returns-then-k-lt-MAX_NODES
returns-then-k-lt-MAX_NODES c =
    let three : length c.args.words ≡ 3 = search rules in
    rw c.copy_from_slice.ensures.after (node_in c.args.k c.args.words c.args.line.now c.if-k-lt-MAX_NODES.true three c.requires)

pub returns-else-k-lt-MAX_NODES : goal.returns-else-k-lt-MAX_NODES
returns-else-k-lt-MAX_NODES c = node-out _ _ _ c.if-k-lt-MAX_NODES.false
