-- A station that does not wait and is not addressed, hearing a frame that names no failing station, is handed back as it was and
-- sends nothing: true of every station, so the bench need not touch it. Assumes nothing.
use mathlib.Core.Path.{◌≡◌}
use mathlib.Core.Bool.{true}
use Prim.Native.Nat.{ℕ}
use Rattle.station.specs.Heard.{frame_rule}
use Rattle.parts.specs.declared.frame.Frame.{Frame}
use Rattle.station.specs.declared.station.Station.{Station}
use Rattle.bench.specs.Bystander.{Untouched}
use Rattle.parts.proofs.Laws.Choose.{pick_and}
use Rattle.bench.specs.Delivery.{is_quiet, stands_by}
use Rattle.bench.proofs.Laws.StandsBy.{not_first, untouched}

pub bystander : (s : Station) (f : Frame) (from to : ℕ) → stands_by (is_quiet f) to s ≡ true → Untouched s (frame_rule s f from to)
bystander s f from to e =
    let both = not_first (pick_and e).1 in
    untouched s f from to both.0 (pick_and e).0 both.1
