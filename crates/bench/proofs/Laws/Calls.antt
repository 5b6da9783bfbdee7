-- Laws of a queue call on the bench. Assumes nothing.
use mathlib.Core.Path.{◌≡◌, refl, sym, ap, ◌∙◌}
use Prim.Native.Nat.{ℕ, ◌<◌, ◌≤◌}
use lib.Dec.{leb}
use borrow.Author.Tests.{le-leb, lt-leb}
use Rattle.parts.specs.Live.{seats}
use Rattle.parts.specs.declared.request.Request.{Request}
use Rattle.station.specs.Queue.{queue_rule}
use Rattle.station.specs.declared.station.Station.{Station}
use Rattle.station.specs.declared.station.Answer.{Answer}
use Rattle.parts.proofs.Laws.Choose.{pick_true, pick_false}
use Rattle.bench.specs.Ring.{station_at}
use Rattle.bench.specs.Calls.{with_station, queue}
use Rattle.bench.specs.Table.{queued_in}
use Rattle.bench.specs.declared.ring.Bench.{Bench}
use Rattle.bench.specs.declared.calls.Queued.{Queued}
use Rattle.bench.specs.declared.table.QueuedIn.{QueuedIn}

module _ (b : Bench) (m from : ℕ) (q : Request) (e : m ≡ seats b.n) where
  -- a FROM outside the ring
  pub queue_outside : m ≤ from → ◌≡◌ {A = Queued} (record { bench = b; number = 15 }) (queue b from q)
  unfolding queue
  queue_outside h = sym (pick_true _ _ (ap (λ (k : ℕ). leb k from) (sym e) ∙ le-leb m from h))

  -- a FROM inside: the station's own call
  pub queue_inside : (s : Station) (a : Answer) → from < m → s ≡ station_at b from → a ≡ queue_rule s q
      → ◌≡◌ {A = Queued} (record { bench = with_station b from a.station; number = a.number }) (queue b from q)
  unfolding queue
  queue_inside s a h i j = rw (j, i) (sym (pick_false _ _ (ap (λ (k : ℕ). leb k from) (sym e) ∙ lt-leb m from h)))

  -- the same of what the call at the record gives
  pub queue_at_record : (r : QueuedIn) → from < m → r ≡ queued_in b.stations from q
      → ◌≡◌ {A = Queued} (record { bench = record { n = b.n; stations = r.stations; wire = b.wire }; number = r.number }) (queue b from q)
  queue_at_record r h i = rw i (queue_inside (station_at b from) _ h refl refl)
