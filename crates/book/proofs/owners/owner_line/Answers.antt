use mathlib.Core.Path.{refl}
use Rattle.book.specs.Layout.{owner_words}
use Rattle.book.specs.Sections.{puts_of}
use Rattle.book.proofs.owners.owner_line.Goals as goal

pub returns : goal.returns
unfolding owner_words
returns c = puts_of c.owner-read.ensures refl c.put_line.ensures
