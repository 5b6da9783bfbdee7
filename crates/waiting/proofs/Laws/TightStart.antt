-- How the run that reaches the bound begins: a new ring, a message queued at the last station and one at station 0, whose own token
-- is on the wire already. Assumes nothing.
use mathlib.Core.Path.{◌≡◌, refl, sym, ap, subst, ◌∙◌}
use mathlib.Core.Bool.{Bool, true, false}
use mathlib.Core.List.{[], ◌∷◌}
use Prim.Native.Nat.{ℕ, ◌-◌, ◌<◌, ◌≤◌}
use native.Mathlib.Omega.{arith}
use lib.Dec.{eqb}
use borrow.Author.Tests.{eqb-true, eqb-false}
use Rattle.parts.specs.Choose.{pick}
use Rattle.parts.specs.Moves.{move_of, runs}
use Rattle.parts.specs.Messages.{all, lowest_free}
use Rattle.parts.specs.Live.{after}
use Rattle.parts.specs.Frames.{flight}
use Rattle.station.specs.Stations.{state_of, awaited_of, made, quiet, answered, moved}
use Rattle.station.specs.Sight.{sight}
use Rattle.sent.specs.Round.{start_round}
use Rattle.station.specs.Start.{sent_first, started, start_rule}
use Rattle.parts.specs.declared.moves.State.TheVariants.{Idle}
use Rattle.parts.specs.declared.moves.Event.TheVariants.{Start}
use Rattle.std.specs.Prelude.{None}
use Rattle.station.specs.declared.station.Station.{Station}
use Rattle.station.specs.declared.station.Answer.{Answer}
use Rattle.bench.specs.Ring.{station_at, ring_with}
use Rattle.bench.specs.Calls.{queue}
use Rattle.bench.specs.Runs.{queued, after_event, final}
use Rattle.bench.specs.declared.ring.Bench.{Bench}
use Rattle.bench_theorems.specs.Quiet.{Quiet}
use Rattle.bench_theorems.proofs.Laws.Beginning.{ring_n, ring_at}
use Rattle.bench_theorems.proofs.Laws.Started.{first_frame, begun}
use Rattle.bench_theorems.proofs.Laws.Ringing.{first_wire, quiet_start}
use Rattle.bench_theorems.proofs.Laws.Queueing.{quiet_queue, queue_wire}
use Rattle.bench_theorems.proofs.Theorems.ReachedQuiet.{reached_n}
use Rattle.bench_theorems.proofs.Theorems.NoneRefused.{queues}
use Rattle.waiting.specs.Waiting.{its_request, foreign_request}
use Rattle.waiting.proofs.Laws.RunWaiting.{waiting}
use Rattle.waiting.proofs.Laws.RunState.{Runs}
use Rattle.waiting.proofs.Laws.RunQueue.{Unused, unused_waits, unused_place, Proper, queue_number_lem, queue_here, queue_other}
use Rattle.waiting.proofs.Laws.TightLoad.{foreign, load, load_first, load_last, load_between}

-- ---- a new ring

-- a start leaves the send list as it was, and nothing flies
pub record Starts (s t : Station) : Type 0 where
  pub same_sends : t.sends ≡ s.sends
  pub none_flies : flight (awaited_of s) ≡ None → flight (awaited_of t) ≡ None

starts : (s : Station) → Starts s (start_rule s).station
unfolding start_rule moved started start_round pick
starts s = go (eqb (move_of (state_of s) Start) runs) (eqb s.own 0)
  where
    go : (t u : Bool)
        → Starts s
        (pick {A = Answer} t (pick u (sent_first s (start_round (sight s) 0 None)) (answered (quiet s Idle) 0)) (answered s (move_of (state_of s) Start))).station
    go true true = record { same_sends = refl; none_flies = λ e. refl }
    go true false = record { same_sends = refl; none_flies = λ e. refl }
    go false u = record { same_sends = refl; none_flies = λ e. e }

-- the foreign message has been queued
abbrev pub ready : ℕ → ℕ → Bench
ready n limit = (queue (ring_with n limit) (n - 1) foreign_request).bench

module _ (n limit : ℕ) (three : 3 ≤ n) (most : n ≤ 64) (low : 1 ≤ limit) (high : limit ≤ 15) where
  two : 2 ≤ n
  two = omega arith

  unused_start : (p : ℕ) → p < n → Unused n limit p (station_at (ring_with n limit) p)
  unused_start p h =
      subst (Unused n limit p) (sym (ring_at n limit two most p h))
      (record {
        member = (begun n limit two most low high p h).member;
        takes_part = queues (begun n limit two most low high p h).stands;
        empty = (starts (made n limit p)).same_sends;
        none_flies = (starts (made n limit p)).none_flies refl;
      })

  -- ---- the foreign message

  proper_foreign : Proper n (n - 1) foreign_request
  proper_foreign =
      record { member = omega arith; another = λ e. omega arith; some = omega arith; most = omega arith; channel_fits = omega arith; hears = refl; length_fits = omega arith }

  ready_quiet : Quiet limit (ready n limit)
  ready_quiet = quiet_queue (ring_with n limit) (quiet_start n limit two most low high) (n - 1) foreign_request

  ready_n : (ready n limit).n ≡ n
  unfolding final after_event
  ready_n = reached_n n limit two most low high (queued (n - 1) foreign_request ∷ [])

  ready_last : waiting (station_at (ready n limit) (n - 1)) ≡ foreign ∷ []
  ready_last =
      queue_here (ring_with n limit) (quiet_start n limit two most low high) n (ring_n n limit two most) (n - 1) (omega arith) (unused_start (n - 1) (omega arith)) foreign_request proper_foreign

  ready_unused : (p : ℕ) → p < n → (p ≡ n - 1 → ⊥) → Unused n limit p (station_at (ready n limit) p)
  ready_unused p h o =
      subst (Unused n limit p)
      (sym (queue_other (ring_with n limit) (quiet_start n limit two most low high) n (ring_n n limit two most) (n - 1) (omega arith) (unused_start (n - 1) (omega arith)) foreign_request proper_foreign p o))
      (unused_start p h)

  -- ---- the message

  first_unused : Unused n limit 0 (station_at (ready n limit) 0)
  first_unused = ready_unused 0 (omega arith) (λ e. omega arith)

  proper_its : Proper n 0 its_request
  proper_its =
      record { member = omega arith; another = λ e. omega arith; some = omega arith; most = omega arith; channel_fits = omega arith; hears = refl; length_fits = omega arith }

  pub its_place : lowest_free (all (station_at (ready n limit) 0).sends) ≡ 0
  its_place = unused_place first_unused

  pub its_accepted : (queue (ready n limit) 0 its_request).number ≡ 0
  its_accepted = queue_number_lem (ready n limit) ready_quiet n ready_n 0 (omega arith) first_unused its_request proper_its

  -- the run begins
  pub begins : Runs n (load n (foreign ∷ [])) 0 first_frame (after n 0) (queue (ready n limit) 0 its_request).bench
  unfolding final after_event
  begins =
      record {
        limit = limit;
        quiet = quiet_queue (ready n limit) ready_quiet 0 its_request;
        same_n = reached_n n limit two most low high (queued (n - 1) foreign_request ∷ queued 0 its_request ∷ []);
        wire = queue_wire (ready n limit) 0 its_request ∙ queue_wire (ring_with n limit) (n - 1) foreign_request ∙ first_wire n limit two most low high;
        loads = λ p h. go p h (eqb p 0) refl (eqb p (n - 1)) refl;
      }
    where
      same : (p : ℕ) → (p ≡ 0 → ⊥) → station_at (queue (ready n limit) 0 its_request).bench p ≡ station_at (ready n limit) p
      same = queue_other (ready n limit) ready_quiet n ready_n 0 (omega arith) first_unused its_request proper_its

      go : (p : ℕ) → p < n → (t : Bool) → eqb p 0 ≡ t → (u : Bool) → eqb p (n - 1) ≡ u → waiting (station_at (queue (ready n limit) 0 its_request).bench p) ≡ load n (foreign ∷ []) p
      go p h true e u d =
          let z : p ≡ 0 = eqb-true p 0 e in
          ap (λ (i : ℕ). waiting (station_at (queue (ready n limit) 0 its_request).bench i)) z
          ∙ queue_here (ready n limit) ready_quiet n ready_n 0 (omega arith) first_unused its_request proper_its
          ∙ sym (ap (load n (foreign ∷ [])) z ∙ load_first n (foreign ∷ []))
      go p h false e true d =
          let z : p ≡ n - 1 = eqb-true p (n - 1) d in
          ap waiting (same p (eqb-false p 0 e))
          ∙ ap (λ (i : ℕ). waiting (station_at (ready n limit) i)) z
          ∙ ready_last
          ∙ sym (ap (load n (foreign ∷ [])) z ∙ load_last n (foreign ∷ []) two)
      go p h false e false d =
          ap waiting (same p (eqb-false p 0 e))
          ∙ unused_waits (ready_unused p h (eqb-false p (n - 1) d))
          ∙ sym (load_between n (foreign ∷ []) p (eqb-false p 0 e) (eqb-false p (n - 1) d))
