-- `Replay::put_start` meets its contract: two parts.
use native.Mathlib.Omega.{arith}
use lib.ListN.{length}
use mathlib.Core.Path.{◌≡◌}
use Rattle.parts.proofs.Laws.Messages.{length_mapped}
use Rattle.bench.specs.Text.{heading}
use Rattle.bench.proofs.Laws.Laying.{room_behind}
use Rattle.day.specs.Printed.{wire_text}
use Rattle.day.specs.Wire.{flying_of}
use Rattle.day.proofs.Laws.Lines.{calls_laid}
use Rattle.day.proofs.Laws.Lined.{wire_most}
use Rattle.replay.proofs.run.Replay.put_start.Goals as goal

pub put_frames-requires : goal.put_frames-requires
put_frames-requires c =
    room_behind c.args.out.now _ heading c.args.at _ 2048 c.put_heading-a.ensures.0 c.put_heading-a.ensures.1 (omega (arith, c.requires))

pub returns : goal.returns
returns c =
    let a = c.args in
    let size : length a.self.wire.items ≡ 64 = search length_mapped in
    calls_laid a.out.now _ _ heading (wire_text (flying_of a.self.wire)) a.at _ _ (omega (arith, wire_most a.self.wire size, c.requires)) c.put_heading-a.ensures c.put_frames.ensures
