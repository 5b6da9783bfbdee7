-- `fields::then_rest` meets its contract: each arm's constructor says which step gives the answer.
use mathlib.Core.Path.{◌∙◌}
use Rattle.packet_codec.proofs.fields.then_rest.Goals as goal

pub returns-in-Bad : goal.returns-in-Bad
returns-in-Bad c = rw c.in-Bad.is

pub returns-in-Sound : goal.returns-in-Sound
returns-in-Sound c = c.look_rest.ensures ∙ rw c.in-Sound.is
