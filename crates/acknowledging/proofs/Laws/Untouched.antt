-- A frame that leaves a station as it is, and a timer below its last. Assumes nothing.
use mathlib.Core.Path.{◌≡◌, refl, sym, ap, subst, ◌∙◌}
use mathlib.Core.Bool.{true}
use Prim.Native.Nat.{ℕ, ◌<◌}
use lib.ListN.{set}
use Rattle.parts.specs.Frames.{number_of, failing_of}
use Rattle.station.specs.Stations.{state_of, awaited_of, answered, moved, unless}
use Rattle.station.specs.Strike.{Struck}
use Rattle.station.specs.Heard.{acknowledge, failed, nothing_more, silent, respond, heard, frame_rule}
use Rattle.station.specs.Timer.{once_more, timer_rule}
use Rattle.parts.specs.declared.moves.State.TheVariants.{Waiting}
use Rattle.std.specs.Prelude.{None, Some}
use Rattle.parts.specs.declared.frame.Frame.{Frame}
use Rattle.station.specs.declared.station.Station.{Station}
use Rattle.station.specs.declared.station.Answer.{Answer}
use Rattle.parts.proofs.Laws.Choose.{pick_true}
use Rattle.station.proofs.Laws.Timer.{timer_again}
use Rattle.bench.specs.Ring.{station_at, on_wire}
use Rattle.bench.specs.Delivery.{is_nobody}
use Rattle.bench.specs.declared.ring.Bench.{Bench}
use Rattle.bench.proofs.Laws.StandsBy.{either, unharmed, failed_nobody}
use Rattle.acknowledging.specs.Missing.{timer_at}
use Rattle.acknowledging.specs.Heals.{Spares}

-- ---- a heard frame

-- a station handed back as it was, nothing sent, nobody struck and nothing given up
pub record Left (s : Station) (a : Answer) : Type 0 where
  pub same : a.station ≡ s
  pub silent : a.sent ≡ None
  pub spares : Spares a

answered_left : (s : Station) (k : ℕ) → Left s (answered s k)
answered_left s k = record { same = refl; silent = refl; spares = record { nobody_struck = refl; none_given_up = refl } }

-- a frame that does not acknowledge it, names nobody failing, and stops
pub left_by : (s : Station) (f : Frame) (from to : ℕ) → acknowledge s from (number_of f) ≡ s → failing_of f ≡ None → nothing_more s to (number_of f) ≡ true
    → Left s (frame_rule s f from to)
unfolding frame_rule moved unless heard respond
left_by s f from to e w stops =
    let is : heard s f from to ≡ silent (unharmed s) =
    ap (λ (t : Station). respond (failed t (failing_of f)) from to f) e
    ∙ ap (λ (k : Struck). respond k from to f) (failed_nobody s (failing_of f) (ap is_nobody w))
    ∙ pick_true _ _ stops in
    either (Left s) _ _ _
    (either (Left s) _ _ _
    (subst (Left s) (sym is) (record { same = refl; silent = refl; spares = record { nobody_struck = refl; none_given_up = refl } }))
    (answered_left s _))
    (answered_left s _)

-- ---- a timer below its last

-- the bench once the station at p has sent its frame again
abbrev pub sent_again : Bench → ℕ → Frame → ℕ → Bench
sent_again c p g to = record { n = c.n; stations = set c.stations p (once_more (station_at c p)); wire = record { from = p; sent = Some (g, to) } }

module _ (c : Bench) (p : ℕ) (g : Frame) (to : ℕ) (w : state_of (station_at c p) ≡ Waiting) (a : awaited_of (station_at c p) ≡ Some (g, to))
    (below : (station_at c p).turn.retries < (station_at c p).limit) where
  pub timer_is : timer_at c p ≡ sent_again c p g to
  unfolding timer_at on_wire
  timer_is =
      (λ i.
      let t : Answer = timer_again (station_at c p) g to w a below i in
      record { n = c.n; stations = set c.stations p t.station; wire = on_wire c.wire p t.sent })
      ∙ (λ i. record { n = c.n; stations = set c.stations p (once_more (station_at c p)); wire = on_wire c.wire p (a i) })

  pub timer_spares : Spares (timer_rule (station_at c p))
  timer_spares = subst Spares (sym (timer_again (station_at c p) g to w a below)) (record { nobody_struck = refl; none_given_up = refl })
