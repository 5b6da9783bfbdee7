-- `HeadBits::octets` meets its contract.
use mathlib.Core.Path.{ap, ◌∙◌}
use Rattle.codec.specs.Ring.{file_octets}
use Rattle.codec.proofs.head.HeadBits.octets.Goals as goal

pub returns : goal.returns
returns c = c.file_octets.ensures ∙ ap (file_octets c.args.self.form) c.count.ensures
