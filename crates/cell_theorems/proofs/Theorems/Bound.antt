-- Demand 3 at a driver's calls: a message that a queue call accepts, and that stays strictly above every other waiting one of the records,
-- goes after at most 2N+1 short packets and one of information, (2N+1)*72+1526 octets on the wire as the codec counts them, no later than as the
-- (2N+3)th packet composed after its acceptance. Of every good ring file, whatever ran before and falls between. Assumes nothing.
use mathlib.Core.Path.{◌≡◌, refl, sym, ap, subst, ◌∙◌}
use mathlib.Core.List.{List}
use Prim.Native.Nat.{ℕ}
use native.Mathlib.Omega.{arith}
use lib.ListN.{length}
use Rattle.station.specs.Queue.{new_message}
use Rattle.station.specs.declared.station.Station.{Station}
use Rattle.parts.specs.declared.request.Request.{Request}
use Rattle.codec.specs.Ring.{Ring}
use Rattle.driver_calls.specs.Calls.{ring_kept, station_in, request_of, Queueing}
use Rattle.wire_theorems.specs.Store.{ToSend, send_payload}
use Rattle.wire_theorems.proofs.Theorems.QueuedCarried.{queue_puts}
use Rattle.bench.specs.Ring.{station_at}
use Rattle.bench.specs.Calls.{queue}
use Rattle.bench.specs.declared.ring.Bench.{Bench}
use Rattle.parts.specs.declared.list.Message.{Message}
use Rattle.waiting.specs.Waiting.{Spot, spot_for, before, StaysOnTop, shorts, informations, octets_on_wire, Bound}
use Rattle.waiting.proofs.Theorems.Bound.{bound}
use Rattle.cell_theorems.specs.Cell.{Node, Cell, members, retries, Started, Asking, QueueCall, Act, Run}
use Rattle.cell_theorems.specs.AsBench.{events, bench_after, request_in, rows}
use Rattle.cell_theorems.specs.Waiting.{spot_in, before_in, StaysOnTopIn, BoundIn}
use Rattle.cell_theorems.proofs.Laws.Files.{two, most, low, high}
use Rattle.cell_theorems.proofs.Laws.Nodes.{kept_whole}
use Rattle.cell_theorems.proofs.Laws.Own.{own_packet}
use Rattle.cell_theorems.proofs.Laws.Matching.{Matches}
use Rattle.cell_theorems.proofs.Laws.Queues.{call_number, queue_matches}
use Rattle.cell_theorems.proofs.Laws.Waiting.{before_same, before_length, goes_same, stays_same, spot_same, steps_same}
use Rattle.cell_theorems.proofs.Laws.Runs.{reached_matches}

module _
    {file : List ℕ} {c₀ : Cell} (s : Started file c₀) {acts : List Act} {c : Cell} (r₀ : Run file c₀ acts c) (a : Asking) {c₁ : Cell}
    (q : QueueCall file a c c₁) (accepted : q.number ≡ 0) {after : List Act} {c₂ : Cell} (r : Run file c₁ after c₂)
    (stays : StaysOnTopIn (spot_in c a.at) a.priority r)
  where
    abbrev b : Bench
    b = bench_after file acts

    -- the bench and its message, once it is accepted
    abbrev b₁ : Bench
    b₁ = (queue b a.at (request_in file a)).bench

    abbrev m : Message
    m = new_message (station_at b a.at) (request_in file a)

    abbrev x : Spot
    x = spot_in c a.at

    matches : Matches file c b
    matches = reached_matches s r₀

    later : Matches file c₁ b₁
    later = queue_matches file c c₁ b matches a q

    bench_bound : Bound (members file) x m b₁ (events file after)
    bench_bound =
        let g = s.good in
        let x_is : x ≡ spot_for b a.at = spot_same matches a.at q.member in
        let t = stays_same file x q.member a.priority later r stays in
        subst (λ (y : Spot). Bound (members file) y m b₁ (events file after)) (sym x_is)
        (bound (members file) (retries file) (two file g) (most file g) (low file g) (high file g) (events file acts) a.at (request_in file a)
        (sym (call_number file c c₁ b matches a q) ∙ accepted) (events file after)
        (subst (λ (y : Spot). StaysOnTop y a.priority b₁ (events file after)) x_is t))

    -- its payload is in the store of its node
    put : ToSend m (c₁.node a.at).rec × (send_payload (c₁.node a.at).store m ≡ a.payload)
    put =
        let k = matches.kept a.at q.member in
        let node : Node = c.node a.at in
        let after : Node = c₁.node a.at in
        let asks : Request = request_of (ring_kept node.rec) a.to a.priority a.channel (length a.payload) in
        let call = subst (λ (n : ℕ). Queueing node.rec node.store asks a.payload n after.rec after.store) accepted q.queues in
        let d = queue_puts k.held node.store asks a.payload after.rec after.store refl call in
        let same : new_message (station_in node.rec) asks ≡ m =
        ap (λ (y : Station). new_message y asks) (matches.stations a.at q.member)
        ∙ ap (λ (ring : Ring). new_message (station_at b a.at) (request_of ring a.to a.priority a.channel (length a.payload))) (kept_whole k) in
        (subst (λ (y : Message). ToSend y after.rec) same d.stands, ap (send_payload after.store) (sym same) ∙ d.holds)

    pub cell_bound : BoundIn file (spot_in c a.at) a r
    cell_bound =
        let k = bench_bound.within in
        let same : rows file (before_in x r) ≡ before x b₁ (events file after) = before_same file x q.member later r in
        record {
          short_packets = omega (arith, ap shorts same, k.short_frames);
          information_packets = omega (arith, ap informations same, k.information_frames);
          octets = omega (arith, ap octets_on_wire same, k.octets);
          not_later = omega (arith, before_length file x q.member later r, k.not_later);
          it_goes = λ l. goes_same file x q.member later r ∙ bench_bound.it_goes (omega (arith, steps_same file after));
          own_is =
              own_packet file x q.member a refl m refl later r (record { waits = bench_bound.waits_until; goes_as = bench_bound.own_frame }) put.0 put.1;
        }
