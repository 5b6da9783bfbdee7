-- By the rule as it was one missed frame does not heal: on a ring of three, station 0 misses the first frame of station 1, which would have
-- acknowledged its own; it still waits when the next frame comes to it, and nobody answers. Assumes nothing.
use mathlib.Core.Path.{◌≡◌, refl}
use lib.Dec.{eqb}
use Rattle.parts.specs.Choose.{pick, all_of, every}
use Rattle.parts.specs.Live.{full, after, seek, successor}
use Rattle.parts.specs.Messages.{fits, only, split_by, better_of, best_of, best}
use Rattle.parts.specs.Refusals.{heard_refusal}
use Rattle.parts.specs.Frames.{is_ahead, acknowledges}
use Rattle.station.specs.Stations.{head, moved, unless}
use Rattle.station.specs.Start.{started, start_rule}
use Rattle.sent.specs.Round.{start_round, send_head, grant, returned, cleared, raised, pass_on, on_token, reply}
use Rattle.station.specs.Heard.{acknowledged, landed, acknowledge, failed, is_last, nothing_more, receive, stored, handle, respond, heard, frame_rule}
use Rattle.std.specs.Prelude.{None}
use Rattle.bench.specs.Ring.{nobody, on_wire, start_at, start_down, ring_with}
use Rattle.bench.specs.Delivery.{handed, delivered, reply_of, deliver_to, step_on, step}
use Rattle.acknowledging.specs.Before.{acknowledges_before, acknowledged_before, acknowledge_before, heard_before, frame_rule_before, handed_before, delivered_before, step_on_before, step_before}
use Rattle.acknowledging.specs.Missing.{miss_on, miss}

pub stuck_before : (step_before (miss (eqb 0) (step (ring_with 3 1)))).wire.sent ≡ None
unfolding pick all_of every full after seek successor fits only split_by better_of best_of best heard_refusal head moved unless started start_rule start_round send_head grant returned cleared raised pass_on on_token reply is_ahead acknowledges acknowledged landed acknowledge failed is_last nothing_more receive stored handle respond heard frame_rule nobody on_wire start_at start_down ring_with handed delivered reply_of deliver_to step_on step acknowledges_before acknowledged_before acknowledge_before heard_before frame_rule_before handed_before delivered_before step_on_before step_before miss_on miss
stuck_before = refl
