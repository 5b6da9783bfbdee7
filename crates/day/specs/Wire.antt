-- The wire as an array of 64 places: its first `count` hold the frames, the oldest first.
use Rattle.std.specs.Prelude.{List, ◌+◌, ltb, take, set, replicate}
use Rattle.parts.specs.Choose.{pick}
use Rattle.bench.specs.Table.{no_frame}
use Rattle.day.specs.declared.wire.Flying.{Flying}
use Rattle.day.specs.declared.wire.Frames.{Frames}

abbrev pub no_flying : Flying
no_flying = record { from = 0; frame = no_frame; to = 0 }

abbrev pub no_frames : Frames
no_frames = record { items = replicate 64 no_flying; count = 0 }

-- the frames
unfoldable pub flying_of : Frames → List Flying
flying_of w = take w.count w.items

unfoldable pub pushed : Frames → Flying → Frames
pushed w f = pick (ltb w.count 64) (record { items = set w.items w.count f; count = w.count + 1 }) w
