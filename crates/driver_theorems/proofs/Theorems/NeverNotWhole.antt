-- A record that is held is never refused with 35: no call on it gives that number, whatever it is handed. Assumes nothing.
use mathlib.Core.Path.{◌≡◌}
use mathlib.Core.Bool.{Bool, true, false, not, cond}
use mathlib.Core.List.{List, [], ◌∷◌}
use Prim.Native.Nat.{ℕ}
use native.Mathlib.Omega.{arith}
use lib.Dec.{ltb, leb, eqb}
use lib.ListN.{length}
use Rattle.std.specs.Option.{option_map_or}
use Rattle.packet_codec.specs.Packet.{read_packet, read_number}
use Rattle.packet_codec.specs.declared.reading.Refusal.TheVariants.{Size, Identifier, BadAt}
use Rattle.packet_codec.specs.declared.reading.Read.{Read}
use Rattle.packet_codec.specs.declared.reading.Read.TheVariants.{Refused, Good}
use Rattle.parts.specs.declared.request.Request.{Request}
use Rattle.parts.specs.Frames.{Dispatch}
use Rattle.std.specs.Prelude.{Option, None, Some, is_none}
use Rattle.parts.specs.declared.list.Message.{Message}
use Rattle.station.specs.Stations.{awaited_of, alone}
use Rattle.station.specs.Start.{started, start_rule}
use Rattle.station.specs.Timer.{timer_rule, on_timer, silence, after_strike, unanswered}
use Rattle.station.specs.Queue.{accepted, queue_rule}
use Rattle.parts.specs.Refusals.{queue_refusal}
use Rattle.station.specs.Take.{taking, take_rule}
use Rattle.parts.specs.Refusals.{take_refusal}
use Rattle.station.specs.declared.station.Station.{Station}
use Rattle.station.specs.declared.station.Answer.{Answer}
use Rattle.station_theorems.proofs.Laws.Small.{pick_keeps}
use Rattle.records.specs.Record.{read_record}
use Rattle.driver_calls.specs.Calls.{call_number, bad_out, bad_store, bad_buffers, start_answer, timer_answer, frame_answer, queue_answer, take_answer, ring_in, station_in, packet_rule}
use Rattle.driver_theorems.specs.NeverNotWhole.{Never35}
use Rattle.driver_theorems.specs.Held.{Held}
use Rattle.driver_theorems.proofs.Laws.Numbers.{OfMoves, Gives, first_gives, unless_gives, moved_gives, packet_gives}
use Rattle.driver_theorems.proofs.Theorems.Held.{held_sure}

-- ---- numbers that are not 35

abbrev Other : ℕ → Type 0
Other k = k ≡ 35 → ⊥

of_moves : OfMoves Other
of_moves =
    record {
      done = λ q. omega (arith, q);
      thirteen = λ q. omega (arith, q);
      stopped = λ q. omega (arith, q);
      started = λ q. omega (arith, q);
      run = λ q. omega (arith, q);
    }

not_0 : Other 0
not_0 = of_moves.done

-- ---- the rules' own numbers

start_other : (s : Station) → Gives Other (start_rule s)
unfolding start_rule started
start_other s = moved_gives Other of_moves s _ _ (pick_keeps (Gives Other) (eqb s.own 0) _ _ not_0 not_0)

on_timer_other : (s : Station) (d : Dispatch) → Gives Other (on_timer s d)
unfolding on_timer silence after_strike
on_timer_other s None = not_0
on_timer_other s (Some (f, to)) = pick_keeps (Gives Other) _ _ _ not_0 (pick_keeps (Gives Other) (alone (unanswered s to).station) _ _ not_0 not_0)

timer_other : (s : Station) → Gives Other (timer_rule s)
unfolding timer_rule
timer_other s = moved_gives Other of_moves s _ _ (on_timer_other s (awaited_of s))

-- 14 to 19 and 28
refusal_other : (n own : ℕ) (live : Bool) (len : ℕ) (q : Request) → Other (queue_refusal n own live len q)
unfolding queue_refusal
refusal_other n own live len q =
    let a : Other 14 = λ z. omega (arith, z) in
    let b : Other 15 = λ z. omega (arith, z) in
    let c : Other 16 = λ z. omega (arith, z) in
    let d : Other 17 = λ z. omega (arith, z) in
    let e : Other 18 = λ z. omega (arith, z) in
    let f : Other 19 = λ z. omega (arith, z) in
    let g : Other 28 = λ z. omega (arith, z) in
    let ts : List (Bool × ℕ) =
    (eqb q.priority 0, 14)
    ∷ (ltb 255 q.priority, 14)
    ∷ (leb n q.to, 15)
    ∷ (eqb q.to own, 15)
    ∷ (not live, 16)
    ∷ (ltb 7 q.channel, 17)
    ∷ (not q.listens, 28)
    ∷ (ltb 1492 q.length, 18)
    ∷ (leb 16 len, 19)
    ∷ [] in
    first_gives Other 0 ts not_0 (a, (a, (b, (b, (c, (d, (g, (e, (f, tt)))))))))

queue_other : (s : Station) (q : Request) → Gives Other (queue_rule s q)
unfolding queue_rule accepted
queue_other s q = moved_gives Other of_moves s _ _ (unless_gives Other s _ _ (refusal_other _ _ _ _ q) not_0)

-- 17, 20, 21
take_refusal_other : (channel : ℕ) (b : Option Message) (room : ℕ) → Other (take_refusal channel b room)
unfolding take_refusal
take_refusal_other channel b room =
    let c : Other 17 = λ q. omega (arith, q) in
    let d : Other 20 = λ q. omega (arith, q) in
    let e : Other 21 = λ q. omega (arith, q) in
    let ts : List (Bool × ℕ) = (ltb 7 channel, 17) ∷ (is_none b, 20) ∷ (option_map_or (λ (m : Message). ltb room m.length) b false, 21) ∷ [] in
    first_gives Other 0 ts not_0 (c, (d, (e, tt)))

take_other : (s : Station) (channel room : ℕ) → Gives Other (take_rule s channel room)
unfolding take_rule taking
take_other s channel room = moved_gives Other of_moves s _ _ (unless_gives Other s _ _ (take_refusal_other channel _ room) not_0)

-- 10 to 12
read_other : (r : Read) → Other (read_number r)
read_other (Refused Size) = λ q. omega (arith, q)
read_other (Refused Identifier) = λ q. omega (arith, q)
read_other (Refused (BadAt offset)) = λ q. omega (arith, q)
read_other (Good p) = not_0

packet_other : (s : Station) (ring : List ℕ) (from to : ℕ) (packet : List ℕ) → Gives Other (packet_rule s ring from to packet)
packet_other s ring from to packet = packet_gives Other of_moves s ring from to packet (read_other (read_packet ring packet))

-- ---- the theorem

number_other : (bad : Bool) (rec : List ℕ) (a : Answer) → (read_record rec).ok ≡ true → Gives Other a → Other (call_number bad rec a)
unfolding call_number
number_other bad rec a ok g = go bad
  where
    go : (b : Bool) → Other (cond b 9 (cond (not (read_record rec).ok) 35 a.number))
    go true = λ q. omega (arith, q)
    go false = rw ok g

pub never_35 : (rec : List ℕ) → Held rec → Never35 rec
never_35 rec p =
    let ok : (read_record rec).ok ≡ true = (held_sure p).ok in
    let s : Station = station_in rec in
    record {
      start = λ out. number_other (bad_out out) rec (start_answer rec) ok (start_other s);
      frame = λ store out from to packet. number_other (bad_buffers store out) rec (frame_answer rec from to packet) ok (packet_other s (ring_in rec) from to packet);
      timer = λ store out. number_other (bad_buffers store out) rec (timer_answer rec) ok (timer_other s);
      queue = λ store q. number_other (bad_store store) rec (queue_answer rec q) ok (queue_other s q);
      take = λ store channel room. number_other (bad_store store) rec (take_answer rec channel room) ok (take_other s channel (length room));
    }
