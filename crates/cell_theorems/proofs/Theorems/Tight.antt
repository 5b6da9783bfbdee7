-- "For every N from 3 a run that reaches both figures": every good ring file has a cell that starts, and from every started cell of one with 3
-- members or more, where member 1 listens on channel 0, the calls run so. Assumes nothing.
use mathlib.Core.Path.{◌≡◌, refl, sym, ap, subst, ◌∙◌}
use mathlib.Core.List.{List, [], ◌∷◌}
use Prim.Native.Nat.{ℕ, zero, suc, ◌+◌, ◌-◌, ◌*◌, ◌≤◌}
use native.Mathlib.Omega.{arith}
use lib.ListN.{length}
use Rattle.codec.specs.Octets.{zeros}
use mathlib.Core.Bool.{true}
use Rattle.codec.specs.Ring.{read_ring, position, listens}
use Rattle.codec.specs.Sizes.{most_information}
use Rattle.codec.proofs.Laws.Octets.{length_zeros}
use Rattle.parts.specs.declared.request.Request.{Request}
use Rattle.driver_calls.specs.Calls.{ring_of}
use Rattle.bench.specs.Ring.{ring_with}
use Rattle.bench.specs.Calls.{queue}
use Rattle.bench.specs.Runs.{Event, stepped, queued, final, stepping}
use Rattle.bench.specs.declared.ring.Bench.{Bench}
use Rattle.waiting.specs.Waiting.{Spot, spot_for, before, shorts, informations, octets_on_wire, StaysOnTop, ReachesBound, Tight, fewest, its_request, foreign_request, foreign_queued}
use Rattle.waiting.proofs.Theorems.Tight.{tight}
use Rattle.cell_theorems.specs.Cell.{Cell, members, retries, address_at, Started, Act, asked, Run, done, ask, QueueCall}
use Rattle.cell_theorems.specs.AsBench.{events, bench_after, request_in, rows}
use Rattle.cell_theorems.specs.Waiting.{spot_in, before_in, ReachesIn, handings, its_asking, foreign_asking, TightFrom}
use Rattle.cell_theorems.proofs.Laws.Octets.{zeros_octets}
use Rattle.cell_theorems.proofs.Laws.Files.{two, most, low, high, position_is}
use Rattle.cell_theorems.proofs.Laws.Matching.{Matches}
use Rattle.cell_theorems.proofs.Laws.Queues.{call_number, queue_matches}
use Rattle.cell_theorems.proofs.Laws.Waiting.{before_same, before_length, goes_same, stays_back, spot_same}
use Rattle.cell_theorems.proofs.Laws.Outcomes.{started_cell, starts, asked_cell, asks_it, hand_all, Handings}
use Rattle.cell_theorems.proofs.Laws.Runs.{reached_matches}

pub some_start : (file : List ℕ) → (read_ring file).number ≡ 0 → (c : Cell) × Started file c
some_start file good = (started_cell file, starts file good)

-- ---- the acts are the bench's events

handings_are : (file : List ℕ) (k : ℕ) → events file (handings k) ≡ stepping k
unfolding events handings stepping
handings_are file zero = refl
handings_are file (suc k) = ap (λ (es : List Event). stepped ∷ es) (handings_are file k)

module _ (file : List ℕ) (good : (read_ring file).number ≡ 0) where
  first_is : position (ring_of file) (address_at file 1) ≡ 1
  first_is = position_is file good 1 (two file good)

  module _ (hears : listens (read_ring file).ring 1 0 ≡ true) where
    heard : listens (read_ring file).ring (position (ring_of file) (address_at file 1)) 0 ≡ true
    heard = ap (λ (p : ℕ). listens (read_ring file).ring p 0) first_is ∙ hears

    its_is : request_in file (its_asking file) ≡ its_request
    its_is = λ i. record { to = first_is i; priority = 9; channel = 0; length = 0; listens = heard i }

    foreign_is : request_in file (foreign_asking file) ≡ foreign_request
    foreign_is =
        let long : length (zeros most_information) ≡ 1492 = length_zeros most_information in
        λ i. record { to = first_is i; priority = 5; channel = 0; length = long i; listens = heard i }

    events_are : events file (asked (foreign_asking file) ∷ []) ≡ foreign_queued (members file)
    unfolding events
    events_are = ap (λ (q : Request). queued (members file - 1) q ∷ []) foreign_is

-- ---- the run

module _ (file : List ℕ) (three : fewest ≤ members file) (hears : listens (read_ring file).ring 1 0 ≡ true) (c₀ : Cell) (s : Started file c₀) where
  abbrev n : ℕ
  n = members file

  abbrev asking : List Act
  asking = asked (foreign_asking file) ∷ []

  abbrev b : Bench
  b = bench_after file asking

  c : Cell
  c = asked_cell file c₀ (foreign_asking file)

  foreign_run : Run file c₀ asking c
  unfolding c
  foreign_run =
      let t = two file s.good in
      ask c₀ c c (foreign_asking file) [] (asks_it file c₀ (foreign_asking file) (omega (arith, t)) (zeros_octets most_information)) (done c)

  c₁ : Cell
  c₁ = asked_cell file c (its_asking file)

  its_call : QueueCall file (its_asking file) c c₁
  unfolding c₁
  its_call = let t = two file s.good in asks_it file c (its_asking file) (omega (arith, t)) (zeros_octets 0)

  run : Handings file c₁ (2 * members file + 3)
  run = hand_all file s.good (2 * n + 3) c₁

  -- what is proved of the bench

  bench_tight : Tight n b
  bench_tight =
      let g = s.good in
      subst (λ (es : List Event). Tight n (final (ring_with n (retries file)) es)) (sym (events_are file g hears)) (tight n (retries file) three (most file g) (low file g) (high file g))

  matches : Matches file c b
  matches = reached_matches s foreign_run

  later : Matches file c₁ (queue b 0 (request_in file (its_asking file))).bench
  later = queue_matches file c c₁ b matches (its_asking file) its_call

  -- of the cell's spot, request and acts
  of_cell : (P : Spot → Request → List Event → Type 0) → P (spot_for b 0) its_request (stepping (2 * members file + 3))
      → P (spot_in c 0) (request_in file (its_asking file)) (events file (handings (2 * members file + 3)))
  of_cell P t =
      subst (λ (x : Spot). P x (request_in file (its_asking file)) (events file (handings (2 * n + 3)))) (sym (spot_same matches 0 its_call.member))
      (subst (λ (q : Request). P (spot_for b 0) q (events file (handings (2 * n + 3)))) (sym (its_is file s.good hears))
      (subst (P (spot_for b 0) its_request) (sym (handings_are file (2 * n + 3))) t))

  reaches : ReachesIn file (spot_in c 0) run.run
  reaches =
      let x : Spot = spot_in c 0 in
      let k = of_cell (λ x q es. ReachesBound n x (queue b 0 q).bench es) bench_tight.reaches in
      let same : rows file (before_in x run.run) ≡ before x (queue b 0 (request_in file (its_asking file))).bench (events file (handings (2 * n + 3))) =
      before_same file x its_call.member later run.run in
      record {
        goes_in_it = goes_same file x its_call.member later run.run ∙ k.goes_in_it;
        short_packets = ap shorts same ∙ k.short_frames;
        information_packets = ap informations same ∙ k.information_frames;
        octets = ap octets_on_wire same ∙ k.octets;
        which = omega (arith, before_length file x its_call.member later run.run, k.which);
      }

  pub cell_tight : TightFrom file c₀
  cell_tight =
      record {
        c = c;
        foreign_queued = foreign_run;
        c₁ = c₁;
        call = its_call;
        accepted = call_number file c c₁ b matches (its_asking file) its_call ∙ ap (λ (q : Request). (queue b 0 q).number) (its_is file s.good hears) ∙ bench_tight.accepted;
        c₂ = run.last;
        run = run.run;
        stays = stays_back file (spot_in c 0) its_call.member 9 later run.run (of_cell (λ x q es. StaysOnTop x 9 (queue b 0 q).bench es) bench_tight.stays);
        reaches = reaches;
      }
