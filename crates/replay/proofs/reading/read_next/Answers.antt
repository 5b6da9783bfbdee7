-- `reading::read_next` meets its contract.
use mathlib.Core.Path.{ap, ◌∙◌}
use Rattle.day.specs.Listening.{heard_in, asked_read}
use Rattle.replay.specs.Running.{reading}
use Rattle.replay.proofs.reading.read_next.Goals as goal

pub returns : goal.returns
returns c =
    let g = c.args.g in
    ap (reading g) (c.asked_read-read.ensures ∙ ap (asked_read (heard_in g.n g.channels)) c.read_record-said.ensures)
