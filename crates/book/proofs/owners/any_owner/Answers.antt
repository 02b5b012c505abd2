use Rattle.book.specs.Lines.{owner_of}
use Rattle.book.proofs.owners.any_owner.Goals as goal

pub returns : goal.returns
returns c = owner_of _ _ _ _ c.keyword-a.ensures c.numbered-read.ensures c.closing-b.ensures
