-- A frame that is refused with 12 is refused with the offset that reading it gives, whatever the record: the station passes it on.
-- No other number has an offset. Assumes nothing.
use mathlib.Core.Path.{◌≡◌, sym, subst}
use mathlib.Core.Bool.{Bool, not}
use mathlib.Core.List.{List, [], ◌∷◌}
use Prim.Native.Nat.{ℕ, ◌<◌}
use native.Mathlib.Omega.{arith}
use lib.ListN.{length}
use Rattle.packet_codec.specs.BadAt.{Located}
use Rattle.packet_codec.proofs.Theorems.BadAt.{read_located, number_located}
use Rattle.records.specs.Record.{read_record}
use Rattle.driver_calls.specs.Calls.{call_number, bad_buffers, frame_answer, ring_in, station_in, Hearing}
use Rattle.driver_theorems.proofs.Laws.Numbers.{OfMoves, first_gives, packet_gives}

module _ (ring packet : List ℕ) where
  -- any other number of the page
  other : (k : ℕ) → k < 65536 → (k ≡ 12 → ⊥) → Located ring packet k
  other k few n = number_located ring packet k few n

  of_moves : OfMoves (Located ring packet)
  of_moves =
      record {
        done = other 0 (omega arith) (λ q. omega (arith, q));
        thirteen = other 13 (omega arith) (λ q. omega (arith, q));
        stopped = other 22 (omega arith) (λ q. omega (arith, q));
        started = other 23 (omega arith) (λ q. omega (arith, q));
        run = other _ (omega arith) (λ q. omega (arith, q));
      }

number_placed : (bad : Bool) (rec : List ℕ) (from to : ℕ) (packet : List ℕ) → Located (ring_in rec) packet (call_number bad rec (frame_answer rec from to packet))
unfolding call_number
number_placed bad rec from to packet =
    let ring : List ℕ = ring_in rec in
    let P : ℕ → Type 0 = Located ring packet in
    let ts : List (Bool × ℕ) = (bad, 9) ∷ (not (read_record rec).ok, 35) ∷ [] in
    first_gives P (frame_answer rec from to packet).number ts
    (packet_gives P (of_moves ring packet) (station_in rec) ring from to packet (read_located ring packet))
    (other ring packet 9 (omega arith) (λ q. omega (arith, q)), (other ring packet 35 (omega arith) (λ q. omega (arith, q)), tt))

pub frame_located : (rec store : List ℕ) (from to : ℕ) (packet out told : List ℕ) (r : ℕ) (rec' store' out' told' : List ℕ)
    → Hearing rec store from to packet out told r rec' store' out' told' → Located (ring_in rec) packet r
frame_located rec store from to packet out told r rec' store' out' told' h =
    subst (Located (ring_in rec) packet) (sym h.sending.answer) (number_placed (bad_buffers (length store) (length out)) rec from to packet)
