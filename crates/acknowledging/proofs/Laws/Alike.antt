-- Two deliveries of one frame, and a frame that a station hears once it is acknowledged already. Assumes nothing.
use mathlib.Core.Path.{◌≡◌, sym, ap, ◌∙◌}
use mathlib.Core.Bool.{Bool, false≢true}
use Prim.Native.Nat.{ℕ, ◌<◌}
use native.Mathlib.Nat.{zero-add}
use native.Mathlib.Omega.{arith}
use lib.ListN.{length}
use lib.Seq.{ext_get_or}
use Rattle.parts.specs.Moves.{is_waiting}
use Rattle.station.specs.Stations.{state_of}
use Rattle.station.specs.Heard.{acknowledge, respond, frame_rule}
use Rattle.parts.specs.declared.moves.State.TheVariants.{Idle, Waiting}
use Rattle.parts.specs.declared.frame.Frame.{Frame}
use Rattle.station.specs.declared.station.Station.{Station}
use Rattle.station.specs.declared.station.Answer.{Answer}
use Rattle.bench.specs.Ring.{nobody, station_at}
use Rattle.bench.specs.Delivery.{handed, delivered, reply_of, deliver_to}
use Rattle.bench.specs.declared.ring.Bench.{Bench}
use Rattle.bench.proofs.Laws.StandsBy.{unharmed}
use Rattle.bench.proofs.Laws.Delivered.{delivered_length, delivered_at}
use Rattle.bench_theorems.proofs.Laws.Listening.{Listens, idle, waits, rested, idle_stays, acknowledged_by}
use Rattle.bench_theorems.proofs.Laws.Hearing.{Hears, heard_is}

-- ---- two deliveries

module _ (hears : ℕ → Bool) (f : Frame) (to : ℕ) (b c : Bench) (same_n : c.n ≡ b.n) (same_from : c.wire.from ≡ b.wire.from) where
  -- each station of the table answers the same in both
  abbrev pub Alike : Type 0
  Alike = (p : ℕ) → p < length b.stations
      → handed b.n hears f b.wire.from to p (station_at c p) ≡ handed b.n hears f b.wire.from to p (station_at b p)

  module _ (same_length : length c.stations ≡ length b.stations) (alike : Alike) where
    same_table : delivered b.n hears f b.wire.from to 0 c.stations ≡ delivered b.n hears f b.wire.from to 0 b.stations
    same_table =
        ext_get_or nobody _ _
        (delivered_length b.n hears f b.wire.from to 0 c.stations ∙ same_length ∙ sym (delivered_length b.n hears f b.wire.from to 0 b.stations))
        (λ i m.
        let l : length (delivered b.n hears f b.wire.from to 0 c.stations) ≡ length c.stations = delivered_length b.n hears f b.wire.from to 0 c.stations in
        delivered_at b.n hears f b.wire.from to 0 i c.stations nobody (omega arith)
        ∙ ap (λ (j : ℕ). (handed b.n hears f b.wire.from to j (station_at c i)).station) (zero-add i)
        ∙ ap (λ (a : Answer). a.station) (alike i (omega arith))
        ∙ sym (delivered_at b.n hears f b.wire.from to 0 i b.stations nobody (omega arith)
        ∙ ap (λ (j : ℕ). (handed b.n hears f b.wire.from to j (station_at b i)).station) (zero-add i)))

    pub same_delivery : to < length b.stations → deliver_to hears c f to ≡ deliver_to hears b f to
    unfolding deliver_to reply_of
    same_delivery m =
        (λ i. record {
          n = same_n i;
          stations = delivered (same_n i) hears f (same_from i) to 0 c.stations;
          wire = record { from = to; sent = (handed (same_n i) hears f (same_from i) to to (station_at c to)).sent };
        })
        ∙ (λ i. record {
          n = b.n;
          stations = same_table i;
          wire = record { from = to; sent = (alike to m i).sent };
        })

-- ---- acknowledged already

pub waiting_idle : (s : Station) → state_of s ≡ Waiting → state_of s ≡ Idle → ⊥
waiting_idle s w i = false≢true (sym (ap is_waiting i) ∙ ap is_waiting w)

-- who is acknowledged by a number j is acknowledged once, whatever other number acknowledges it
pub once : {x y j k : ℕ} {s : Station} → Listens x j s → Listens y k s → acknowledge (acknowledge s x j) y k ≡ acknowledge s y k
once {x} {y} {j} {k} {s} (idle i) l = ap (λ (t : Station). acknowledge t y k) (idle_stays s x j i)
once {x} {y} {j} {k} {s} (waits w e) (idle i) = absurd (waiting_idle s w i)
once {x} {y} {j} {k} {s} (waits w e) (waits v d) =
    idle_stays (acknowledge s x j) y k (rested {from = x} {k = j} {s = s} (waits w e)).at_rest ∙ acknowledged_by s x j e ∙ sym (acknowledged_by s y k d)

-- so it hears a frame in the same way
pub hears_once : {n limit p x j : ℕ} {s : Station} {f : Frame} {from to : ℕ} → Listens x j s → Hears n limit p s f from to
    → Hears n limit p (acknowledge s x j) f from to → frame_rule (acknowledge s x j) f from to ≡ frame_rule s f from to
hears_once {s = s} {f = f} {from} {to} l h g =
    heard_is g ∙ ap (λ (t : Station). respond (unharmed t) from to f) (once l h.listens) ∙ sym (heard_is h)
