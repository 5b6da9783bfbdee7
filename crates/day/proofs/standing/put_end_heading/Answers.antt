use Rattle.std.proofs.Common.{refl}
use Rattle.day.proofs.standing.put_end_heading.Goals as goal

pub returns : goal.returns
returns c = (c.copy.ensures, refl)
