-- A queue call at a node is the bench's queue call at its position. Assumes nothing.
use mathlib.Core.Path.{◌≡◌, refl, sym, ap, subst, ◌∙◌}
use mathlib.Core.Bool.{Bool, true, false}
use mathlib.Core.List.{List}
use Prim.Native.Nat.{ℕ, ◌<◌}
use native.Mathlib.Omega.{arith}
use lib.Dec.{eqb}
use borrow.Author.Tests.{eqb-true, eqb-false}
use lib.ListN.{length}
use lib.Seq.{get_or-set_same, get_or-set_other}
use Rattle.parts.specs.declared.request.Request.{Request}
use Rattle.station.specs.Queue.{queue_rule}
use Rattle.station.specs.declared.station.Station.{Station}
use Rattle.station.specs.declared.station.Answer.{Answer}
use Rattle.codec.specs.Ring.{Ring}
use Rattle.driver_calls.specs.Calls.{ring_kept, station_in, request_of}
use Rattle.bench.specs.Ring.{station_at, nobody}
use Rattle.bench.specs.Calls.{queue, with_station}
use Rattle.bench.specs.Runs.{queued, after_event}
use Rattle.bench.proofs.Laws.Calls.{queue_inside}
use Rattle.bench.specs.declared.calls.Queued.{Queued}
use Rattle.bench.specs.declared.ring.Bench.{Bench}
use Rattle.bench_theorems.proofs.Laws.FullSet.{seats_most}
use Rattle.bench_theorems.proofs.Laws.Queueing.{quiet_queue, queue_wire}
use Rattle.bench_theorems.proofs.Theorems.ReachedQuiet.{event_n}
use Rattle.cell_theorems.specs.Cell.{Node, Transit, Cell, members, Asking, QueueCall}
use Rattle.cell_theorems.specs.AsBench.{request_in, QueueNumbered}
use Rattle.cell_theorems.proofs.Laws.Nodes.{Kept, kept_whole, queue_number_lem, queue_station, queue_keeps}
use Rattle.cell_theorems.proofs.Laws.Matching.{Carries, Matches}

module _ (file : List ℕ) (c c' : Cell) (b : Bench) (m : Matches file c b) (a : Asking) (s : QueueCall file a c c') where
  abbrev p : ℕ
  p = a.at

  abbrev q : Request
  q = request_in file a

  abbrev asks : Request
  asks = request_of (ring_kept (c.node a.at).rec) a.to a.priority a.channel (length a.payload)

  inside : a.at < b.n
  inside = omega (arith, m.size, s.member)

  answer_is : queue_rule (station_in (c.node a.at).rec) asks ≡ queue_rule (station_at b a.at) q
  answer_is =
      ap (λ (x : Station). queue_rule x asks) (m.stations p s.member)
      ∙ ap (λ (r : Ring). queue_rule (station_at b p) (request_of r a.to a.priority a.channel (length a.payload))) (kept_whole (m.kept p s.member))

  bench_is : queue b a.at q ≡ record { bench = with_station b a.at (queue_rule (station_at b a.at) q).station; number = (queue_rule (station_at b a.at) q).number }
  bench_is =
      sym (queue_inside b b.n p q (sym (seats_most b.n m.quiet.picture.most_members)) (station_at b p) (queue_rule (station_at b p) q) inside refl refl)

  pub call_number : QueueNumbered file b a c c' s
  call_number =
      queue_number_lem (m.kept p s.member) asks a.payload s.number s.queues
      ∙ ap (λ (x : Answer). x.number) answer_is
      ∙ sym (ap (λ (x : Queued). x.number) bench_is)

  in_table : a.at < length b.stations
  in_table = omega (arith, m.quiet.table, m.quiet.picture.most_members, inside)

  asked_station : station_in (c'.node a.at).rec ≡ station_at (queue b a.at q).bench a.at
  asked_station =
      queue_station (m.kept p s.member) asks a.payload s.number s.queues
      ∙ ap (λ (x : Answer). x.station) answer_is
      ∙ sym (get_or-set_same b.stations p (queue_rule (station_at b p) q).station nobody in_table)
      ∙ sym (ap (λ (x : Queued). station_at x.bench p) bench_is)

  other_station : (i : ℕ) → i < members file → (i ≡ a.at → ⊥) → station_in (c'.node i).rec ≡ station_at (queue b a.at q).bench i
  other_station i h o =
      ap (λ (x : Node). station_in x.rec) (s.others_stay i h o)
      ∙ m.stations i h
      ∙ sym (get_or-set_other b.stations p i (queue_rule (station_at b p) q).station nobody o)
      ∙ sym (ap (λ (x : Queued). station_at x.bench i) bench_is)

  pub queue_matches : Matches file c' (queue b a.at (request_in file a)).bench
  unfolding after_event
  queue_matches =
      record {
        good = m.good;
        size = event_n b (queued p q) ∙ m.size;
        quiet = quiet_queue b m.quiet p q;
        kept = λ i h. kept_at i h (eqb i p) refl;
        stations = λ i h. station_at_lem i h (eqb i p) refl;
        store = m.store;
        wire = subst (Carries file m.store c'.wire) (sym (queue_wire b p q)) (subst (λ (x : Transit). Carries file m.store x b.wire) (sym s.wire_stays) m.wire);
      }
    where
      kept_at : (i : ℕ) → i < members file → (t : Bool) → eqb i a.at ≡ t → Kept file (c'.node i)
      kept_at i h true e =
          subst (λ (j : ℕ). Kept file (c'.node j)) (sym (eqb-true i p e))
          (queue_keeps (m.kept p s.member) asks a.payload s.number s.queues s.payload_octets)
      kept_at i h false e = subst (Kept file) (sym (s.others_stay i h (eqb-false i p e))) (m.kept i h)

      station_at_lem : (i : ℕ) → i < members file → (t : Bool) → eqb i a.at ≡ t → station_in (c'.node i).rec ≡ station_at (queue b a.at (request_in file a)).bench i
      station_at_lem i h true e =
          subst (λ (j : ℕ). station_in (c'.node j).rec ≡ station_at (queue b a.at (request_in file a)).bench j) (sym (eqb-true i p e)) asked_station
      station_at_lem i h false e = other_station i h (eqb-false i p e)
