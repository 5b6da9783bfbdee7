-- `whole::turn_fits` meets its contract: one test.
use mathlib.Core.Path.{sym}
use Rattle.parts.proofs.Laws.Tests.{last}
use Rattle.wholeness.proofs.whole.turn_fits.Goals as goal

pub returns : goal.returns
returns c = sym (last _)
