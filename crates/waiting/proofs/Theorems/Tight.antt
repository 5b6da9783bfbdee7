-- "For every N from 3 a run that reaches both figures", whatever the retry limit: on a new ring a message of 1,492 octets is queued at station N-1, then one
-- of a higher priority at station 0, whose own token is on the wire already. It stays on top, and goes as frame 2N+3, after 2N+1 short
-- frames and the foreign information frame, which is as long as one can be. Assumes nothing.
use mathlib.Core.Path.{◌≡◌, sym, subst}
use Prim.Native.Nat.{ℕ, ◌+◌, ◌*◌, ◌≤◌}
use native.Mathlib.Omega.{arith}
use Rattle.bench.specs.Calls.{queue}
use Rattle.bench.specs.Runs.{after_event, final, stepping}
use Rattle.bench.specs.declared.ring.Bench.{Bench}
use Rattle.waiting.specs.Waiting.{Spot, spot_for, at_queue, fewest, its_request, ReachesBound, Tight, foreign_queued}
use Rattle.waiting.proofs.Laws.RunCounts.{Counts}
use Rattle.waiting.proofs.Laws.RunAhead.{Ahead}
use Rattle.waiting.proofs.Laws.TightLoad.{spot}
use Rattle.waiting.proofs.Laws.TightRun.{whole_run}
use Rattle.waiting.proofs.Laws.TightStart.{ready, its_place, its_accepted, begins}

reached : (n : ℕ) (x : Spot) (b : Bench) → Counts x 9 b (stepping (2 * n + 3)) (2 * n + 1) 1 → ReachesBound n x b (stepping (2 * n + 3))
reached n x b c =
    record {
      goes_in_it = c.goes_in_it;
      short_frames = c.figures.short_frames;
      information_frames = c.figures.information_frames;
      octets = c.figures.octets;
      which = omega (arith, c.figures.frames);
    }

module _ (n limit : ℕ) (three : fewest ≤ n) (most : n ≤ 64) (low : 1 ≤ limit) (high : limit ≤ 15) where
  its_bench : Bench
  its_bench = (queue (ready n limit) 0 its_request).bench

  counted : Counts spot 9 its_bench (stepping (2 * n + 3)) (2 * n + 1) 1
  unfolding its_bench
  counted =
      let short : 0 + n + 1 + n ≡ 2 * n + 1 = omega arith in
      let steps : 2 * n + 1 + 1 + 1 ≡ 2 * n + 3 = omega arith in
      subst (λ (k : ℕ). Counts spot 9 its_bench (stepping k) (2 * n + 1) 1) steps
      (subst (λ (s : ℕ). Ahead spot 9 its_bench s 1) short (whole_run n three most its_bench (begins n limit three most low high)))

  its_counted : Counts (spot_for (ready n limit) 0) 9 its_bench (stepping (2 * n + 3)) (2 * n + 1) 1
  its_counted =
      subst (λ (p : ℕ). Counts (record { station = 0; place = p }) 9 its_bench (stepping (2 * n + 3)) (2 * n + 1) 1) (sym (its_place n limit three most low high)) counted

  pub tight : Tight n (at_queue n limit (foreign_queued n))
  unfolding its_bench final after_event
  tight =
      record {
        accepted = its_accepted n limit three most low high;
        stays = its_counted.stays;
        reaches = reached n (spot_for (ready n limit) 0) its_bench its_counted;
      }
