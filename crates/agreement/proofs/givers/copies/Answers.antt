use Rattle.agreement.specs.Given.{copies-told}
use Rattle.agreement.proofs.givers.copies.Goals as goal

pub returns : goal.returns
returns c = λ e b H l. copies-told b H _ l e
