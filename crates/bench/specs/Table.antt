-- "The bench keeps a lent table of station records, one for each member": what the functions over the lent table give.
use Rattle.std.specs.Prelude.{Bool, true, false, List, ℕ, zero, suc, ◌+◌, ltb, length, get_or, set, None, Some}
use Rattle.parts.specs.Choose.{pick}
use Rattle.parts.specs.Live.{seats}
use Rattle.parts.specs.Frames.{Dispatch}
use Rattle.parts.specs.declared.frame.Frame.{Frame}
use Rattle.parts.specs.declared.frame.Frame.TheVariants.{Transmit}
use Rattle.parts.specs.declared.request.Request.{Request}
use Rattle.sent.specs.Round.{granting}
use Rattle.station.specs.Queue.{queue_rule}
use Rattle.station.specs.declared.station.Answer.{Answer}
use Rattle.station.specs.declared.station.Station.{Station}
use Rattle.bench.specs.Ring.{nobody}
use Rattle.bench.specs.Delivery.{is_sent, hearing, is_quiet, stands_by, steps}
use Rattle.bench.specs.Rows.{rows_on}
use Rattle.bench.specs.Text.{rows_text}
use Rattle.bench.specs.Running.{steps_text}
use Rattle.bench.specs.declared.ring.Bench.{Bench}
use Rattle.bench.specs.declared.table.Handing.{Handing}
use Rattle.bench.specs.declared.table.Going.{Going}
use Rattle.bench.specs.declared.table.Stepped.{Stepped}
use Rattle.bench.specs.declared.table.QueuedIn.{QueuedIn}

-- who hears what is handed round
abbrev pub hears : Handing → ℕ → Bool
hears h p = hearing h.lost h.from h.to p

-- whom it leaves as it is: who does not hear it, and whoever stands by
abbrev pub left_as_is : Station → ℕ → Handing → Bool
left_as_is s p h = pick (hears h p) (stands_by h.quiet h.to s) true

-- whether the frame leaves the record at p as it is
abbrev pub stays_at : List Station → Handing → ℕ → Bool
stays_at ss h p = left_as_is (get_or ss p nobody) p h

-- of k records from the position p on, the first that the frame does not leave as it is, or the end
unfoldable pub touched_in : ℕ → List Station → Handing → ℕ → ℕ
touched_in zero ss h p = p
touched_in (suc k) ss h p = pick (stays_at ss h p) (touched_in k ss h (suc p)) p

-- the bench that a run in progress is of
abbrev pub bench_in : Going → List Station → Bench
bench_in g ss = record { n = g.n; stations = ss; wire = g.wire }

-- where nothing is on the wire
abbrev pub no_frame : Frame
no_frame = Transmit (granting 0 0 0 0)

abbrev pub handing_by : Going → Dispatch → Handing
handing_by g None = record { n = g.n; m = seats g.n; frame = no_frame; quiet = true; from = 0; to = 0; lost = false }
handing_by g (Some (frame, to)) =
    record { n = g.n; m = seats g.n; frame = frame; quiet = is_quiet frame; from = g.wire.from; to = to; lost = false }

-- what is handed round in the next step
abbrev pub handing_of : Going → Handing
handing_of g = handing_by g g.wire.sent

-- whether there is a next step
abbrev pub goes_on : Going → Bool
goes_on g = pick (ltb g.k g.most) (is_sent g.wire.sent) false

-- the line of the station `to`'s new frame
abbrev pub step_text : ℕ → Dispatch → List ℕ
step_text to reply = rows_text (rows_on (record { from = to; sent = reply }))

-- the new frame on the wire, and its line printed
abbrev pub printed : Going → ℕ → Dispatch → Going
printed g to reply =
    record { n = g.n; wire = record { from = to; sent = reply }; most = g.most; k = g.k + 1; used = g.used + length (step_text to reply) }

-- one step done and printed
abbrev pub went_on : Going → List Station → Going
went_on g ss =
    record {
      n = g.n;
      wire = (steps 1 (bench_in g ss)).wire;
      most = g.most;
      k = g.k + 1;
      used = g.used + length (steps_text 1 (bench_in g ss));
    }

-- all steps done and printed
abbrev pub stepped : Going → List Station → Stepped
stepped g ss =
    record {
      stations = (steps g.most (bench_in g ss)).stations;
      wire = (steps g.most (bench_in g ss)).wire;
      used = g.used + length (steps_text g.most (bench_in g ss));
    }

-- an answer's station in its place, and the answer's number
abbrev pub answered_at : List Station → ℕ → Answer → QueuedIn
answered_at ss p a = record { stations = set ss p a.station; number = a.number }

-- a queue call of the station at the position `from`
abbrev pub queued_in : List Station → ℕ → Request → QueuedIn
queued_in ss from q = answered_at ss from (queue_rule (get_or ss from nobody) q)
