-- Octets stay octets: what a call writes into a store, and the packet that it composes of a store. Assumes nothing.
use mathlib.Core.Bool.{Bool, true, false, cond}
use mathlib.Core.List.{List, [], ◌∷◌, ◌++◌}
use Prim.Native.Nat.{ℕ, zero, suc, ◌+◌, ◌-◌, ◌*◌}
use native.Mathlib.Omega.{arith}
use lib.Dec.{eqb, leb}
use lib.ListN.{length, take, drop}
use Rattle.codec.specs.Octets.{Octets, octets, laid, zeros}
use Rattle.codec.proofs.Laws.Octets.{octets_take, octets_drop}
use Rattle.packet_codec.specs.Packet.{packet_octets, start_octets, addresses_octets, head_octets, short_packet, information_in, kept}
use Rattle.packet_codec.specs.declared.packet.Packet.{Packet}
use Rattle.packet_codec.specs.declared.packet.Packet.TheVariants.{Token as TokenOf, Transmit as TransmitOf, Information as InformationOf}
use Rattle.parts.specs.declared.frame.Frame.{Frame}
use Rattle.parts.specs.declared.frame.Frame.TheVariants.{Token, Transmit, Information}
use Rattle.std.specs.Prelude.{Option, None, Some}
use Rattle.parts.specs.declared.list.Message.{Message}
use Rattle.station_theorems.proofs.Laws.Small.{pick_keeps}
use Rattle.records.specs.Layout.{place_length}
use Rattle.driver_buffers.specs.Places.{in_place, put_place, queued, received, carried_in}
use Rattle.driver_calls.specs.Calls.{heard_information, store_heard}

none_octets : Octets []
none_octets i = omega arith

append_octets : (xs ys : List ℕ) → Octets xs → Octets ys → Octets (xs ++ ys)
append_octets [] ys a b i = b i
append_octets (x ∷ xs) ys a b zero = a 0
append_octets (x ∷ xs) ys a b (suc i) = append_octets xs ys (λ j. a (suc j)) b i

number_octets : (k v : ℕ) → Octets (octets k v)
number_octets zero v i = omega arith
number_octets (suc k) v zero = omega arith
number_octets (suc k) v (suc i) = number_octets k v i

pub zeros_octets : (k : ℕ) → Octets (zeros k)
zeros_octets zero i = omega arith
zeros_octets (suc k) zero = omega arith
zeros_octets (suc k) (suc i) = zeros_octets k i

laid_octets : (l : List ℕ) (at : ℕ) (x : List ℕ) → Octets l → Octets x → Octets (laid l at x)
laid_octets l at x a b =
    append_octets (take at l) (x ++ drop (at + length x) l) (octets_take at l a)
    (append_octets x (drop (at + length x) l) b (octets_drop (at + length x) l a))

-- ---- a packet

start_octets_lem : (identifier priority number : ℕ) → Octets (start_octets identifier priority number)
start_octets_lem i p n = append_octets (octets 1 i) (octets 1 p ++ octets 2 n) (number_octets 1 i) (append_octets (octets 1 p) (octets 2 n) (number_octets 1 p) (number_octets 2 n))

addresses_octets_lem : (a b c : ℕ) → Octets (addresses_octets a b c)
addresses_octets_lem a b c = append_octets (octets 6 a) (octets 6 b ++ octets 6 c) (number_octets 6 a) (append_octets (octets 6 b) (octets 6 c) (number_octets 6 b) (number_octets 6 c))

short_octets : (identifier priority number a b c : ℕ) → Octets (start_octets identifier priority number ++ (addresses_octets a b c ++ zeros 24))
short_octets i p n a b c =
    append_octets (start_octets i p n) (addresses_octets a b c ++ zeros 24) (start_octets_lem i p n)
    (append_octets (addresses_octets a b c) (zeros 24) (addresses_octets_lem a b c) (zeros_octets 24))

pub packet_octets_lem : (p : Packet) (info : List ℕ) → Octets info → Octets (packet_octets p info)
unfolding packet_octets
packet_octets_lem (TokenOf p) info o = short_octets 1 p.priority p.number p.master p.failing p.named
packet_octets_lem (TransmitOf p) info o = short_octets 2 p.priority p.number p.master p.failing p.named
packet_octets_lem (InformationOf h) info o =
    append_octets (head_octets h) (info ++ zeros (short_packet - (8 + length info)))
    (append_octets (start_octets 3 h.priority h.number) (octets 2 h.channel ++ octets 2 h.length) (start_octets_lem 3 h.priority h.number)
    (append_octets (octets 2 h.channel) (octets 2 h.length) (number_octets 2 h.channel) (number_octets 2 h.length)))
    (append_octets info (zeros (short_packet - (8 + length info))) o (zeros_octets (short_packet - (8 + length info))))

-- what it carries
pub carried_octets : (store : List ℕ) (f : Frame) → Octets store → Octets (carried_in store f)
unfolding carried_in in_place
carried_octets store (Token t) o = none_octets
carried_octets store (Transmit t) o = none_octets
carried_octets store (Information i) o = pick_keeps Octets _ _ _ (octets_take i.length _ (octets_drop (i.place * place_length) store o)) none_octets

-- ---- a store

put_octets : (store : List ℕ) (place : ℕ) (x : List ℕ) → Octets store → Octets x → Octets (put_place store place x)
unfolding put_place
put_octets store place x o k = pick_keeps Octets _ _ _ (laid_octets store (place * place_length) x o k) o

pub queued_octets : (store : List ℕ) (d : Option Message) (payload : List ℕ) → Octets store → Octets payload → Octets (queued store d payload)
unfolding queued
queued_octets store None payload o k = o
queued_octets store (Some m) payload o k = put_octets store m.place payload o k

information_octets : (packet : List ℕ) (n : ℕ) → Octets packet → Octets (information_in packet n)
unfolding information_in
information_octets packet n o = go (leb (8 + n) (length packet))
  where
    go : (b : Bool) → Octets (cond b (take n (drop 8 packet)) [])
    go true = octets_take n (drop 8 packet) (octets_drop 8 packet o)
    go false = none_octets

pub heard_octets : (store packet : List ℕ) (d : Option Message) → Octets store → Octets packet → Octets (store_heard store packet d)
unfolding received heard_information
heard_octets store packet None o k = o
heard_octets store packet (Some m) o k = put_octets store _ _ o (information_octets packet m.length k)

pub kept_octets : (r : ℕ) (old new : List ℕ) → Octets old → Octets new → Octets (kept r old new)
kept_octets r old new o n = go (eqb r 0)
  where
    go : (b : Bool) → Octets (cond b new old)
    go true = n
    go false = o
