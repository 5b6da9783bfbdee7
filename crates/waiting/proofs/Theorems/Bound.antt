-- Demand 3: on a fault-free ring of N stations, from 2 to 64, with a retry limit from 1 to 15, an accepted message that stays strictly above every other waiting one until
-- it goes waits for at most 2N+1 short frames and one foreign information frame; it goes no later than as the (2N+3)th frame composed after
-- its acceptance, and what goes is the message. Whatever ran before, and whatever queue calls fall between the steps. Assumes nothing.
use mathlib.Core.Path.{◌≡◌, refl, subst, ◌∙◌}
use mathlib.Core.List.{List, ◌∷◌}
use Prim.Native.Nat.{ℕ, ◌<◌, ◌≤◌}
use native.Mathlib.Omega.{arith}
use Rattle.station.specs.Queue.{new_message}
use Rattle.parts.specs.declared.list.Message.{Message}
use Rattle.parts.specs.declared.request.Request.{Request}
use Rattle.bench.specs.Ring.{station_at}
use Rattle.bench.specs.Calls.{queue}
use Rattle.bench.specs.Runs.{Event, stepped, final}
use Rattle.bench.specs.declared.ring.Bench.{Bench}
use Rattle.bench_theorems.specs.Quiet.{Quiet}
use Rattle.bench_theorems.proofs.Laws.Queueing.{quiet_queue}
use Rattle.bench_theorems.proofs.Theorems.ReachedQuiet.{reached_quiet, reached_n}
use Rattle.waiting.specs.Waiting.{Spot, spot_for, StaysOnTop, at_queue, Bound}
use Rattle.waiting.proofs.Laws.Queueing.{accepted_waits, queue_n}
use Rattle.waiting.proofs.Laws.Stepping.{Holds}
use Rattle.waiting.proofs.Laws.Running.{runs_so, top_now}
use Rattle.waiting.proofs.Laws.Keeping.{ranked, until_it_goes, own_is_its}

module _ (n : ℕ) (x : Spot) (m : Message) (b : Bench) (h : Holds n x m b) (after : List Event) (t : StaysOnTop x m.priority b after) where
  held_bound : Bound n x m b after
  held_bound =
      let a = ranked n x m b h in
      let r = runs_so n x m after b h a.short a.info a.rank t in
      let c = r.counts in
      record {
        within =
            record {
              short_frames = omega (arith, c.few_short, a.few_short);
              information_frames = omega (arith, c.few_information, a.one_information);
              octets = omega (arith, c.octets, c.few_short, a.few_short, c.few_information, a.one_information);
              not_later = omega (arith, c.all_counted, c.few_short, a.few_short, c.few_information, a.one_information);
            };
        it_goes = λ l. r.goes_then (omega (arith, a.few_short, a.one_information));
        waits_until = λ es rest e g. (until_it_goes n x m es rest b h (subst (StaysOnTop x m.priority b) e t) g).holds.waits;
        own_frame = λ es rest e g o.
            let s = until_it_goes n x m es (stepped ∷ rest) b h (subst (StaysOnTop x m.priority b) e t) g in
            own_is_its n x m (final b es) s.holds (top_now x m.priority (final b es) (stepped ∷ rest) s.on_top) o;
      }

-- every ring, every run, every accepted call, and everything after it
pub bound : (n limit : ℕ) → 2 ≤ n → n ≤ 64 → 1 ≤ limit → limit ≤ 15 → (es : List Event) (from : ℕ) (r : Request)
    → (queue (at_queue n limit es) from r).number ≡ 0
    → (after : List Event)
    → StaysOnTop (spot_for (at_queue n limit es) from) r.priority (queue (at_queue n limit es) from r).bench after
    → Bound n (spot_for (at_queue n limit es) from) (new_message (station_at (at_queue n limit es) from) r)
    (queue (at_queue n limit es) from r).bench after
bound n limit two most low high es from r z after t =
    let b : Bench = at_queue n limit es in
    let q : Quiet limit b = reached_quiet n limit two most low high es in
    let size : b.n ≡ n = reached_n n limit two most low high es in
    let a = accepted_waits b q from r z in
    held_bound n (spot_for b from) (new_message (station_at b from) r) (queue b from r).bench
    (record {
      limit = limit;
      quiet = quiet_queue b q from r;
      size = queue_n b q from r ∙ size;
      member = subst (λ (i : ℕ). from < i) size a.member;
      place = refl;
      waits = a.waits;
    })
    after t
