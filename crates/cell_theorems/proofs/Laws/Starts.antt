-- A cell that has started is a new ring of the bench. Assumes nothing.
use mathlib.Core.Path.{sym, ap, subst, ◌∙◌}
use mathlib.Core.List.{List}
use Prim.Native.Nat.{ℕ, ◌<◌}
use native.Mathlib.Omega.{arith}
use Rattle.parts.specs.Live.{after}
use Rattle.station.specs.declared.station.Answer.{Answer}
use Rattle.bench.specs.Ring.{ring_with}
use Rattle.bench_theorems.proofs.Laws.Beginning.{ring_n, ring_at}
use Rattle.bench_theorems.proofs.Laws.Started.{first_frame, first_sent, starts_idle}
use Rattle.bench_theorems.proofs.Laws.Ringing.{first_wire, quiet_start}
use Rattle.cell_theorems.specs.Cell.{Transit, Cell, members, retries, address_at, left, Begun, Started}
use Rattle.cell_theorems.specs.AsBench.{StartsDone}
use Rattle.cell_theorems.proofs.Laws.Files.{two, most, low, high}
use Rattle.cell_theorems.proofs.Laws.Begins.{make_done, start_done, begun_station, begun_keeps, begun_silent, begun_conveys}
use Rattle.cell_theorems.proofs.Laws.Matching.{Carries, Matches, left_carries}

module _ (file : List ℕ) (c : Cell) (s : Started file c) where
  zeroth : 0 < members file
  zeroth = let t = two file s.good in omega (arith, t)

  first_carries : Carries file (c.node 0).store c.wire (ring_with (members file) (retries file)).wire
  first_carries =
      let g = s.good in
      let b : Begun file 0 (c.node 0) = s.begun 0 zeroth in
      let k = begun_conveys file g 0 zeroth (c.node 0) b first_frame (after (members file) 0)
      (first_sent (members file) (retries file) (two file g) (most file g)) in
      subst (λ (w : Transit). Carries file (c.node 0).store w (ring_with (members file) (retries file)).wire) (sym (s.first zeroth))
      (subst (Carries file (c.node 0).store (left (address_at file 0) b.out b.told))
      (sym (first_wire (members file) (retries file) (two file g) (most file g) (low file g) (high file g)))
      (left_carries file (c.node 0).store b.store_octets 0 first_frame (after (members file) 0) b.out b.told k))

  pub started_matches : Matches file c (ring_with (members file) (retries file))
  started_matches =
      let g = s.good in
      record {
        good = g;
        size = ring_n (members file) (retries file) (two file g) (most file g);
        quiet = quiet_start (members file) (retries file) (two file g) (most file g) (low file g) (high file g);
        kept = λ p h. begun_keeps file g p h (c.node p) (s.begun p h);
        stations = λ p h.
            begun_station file g p h (c.node p) (s.begun p h) ∙ sym (ring_at (members file) (retries file) (two file g) (most file g) p h);
        store = (c.node 0).store;
        wire = first_carries;
      }

  pub starts_done : StartsDone file c s
  starts_done =
      let g = s.good in
      record {
        made = λ p h. make_done file g p h (c.node p) (s.begun p h);
        started = λ p h. start_done file g p h (c.node p) (s.begun p h);
        silent = λ p h o.
            begun_silent file g p h (c.node p) (s.begun p h)
            (ap (λ (a : Answer). a.sent) (starts_idle (members file) (retries file) (two file g) (most file g) p o));
      }
