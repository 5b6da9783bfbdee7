-- How many octets each part of a record has. Assumes nothing.
use mathlib.Core.Path.{◌≡◌, refl, ap, ◌∙◌}
use mathlib.Core.List.{List, ◌++◌}
use Prim.Native.Nat.{ℕ, ◌+◌, ◌-◌, ◌*◌, ◌≤◌}
use native.Mathlib.Omega.{arith}
use lib.ListN.{length, length-append}
use Rattle.codec.specs.Octets.{octets, zeros}
use Rattle.codec.proofs.Laws.Octets.{length_zeros}
use Rattle.parts.specs.declared.live.Live.{Live}
use Rattle.parts.specs.declared.list.Messages.{Messages}
use Rattle.station.specs.declared.station.Station.{Station}
use Rattle.records.specs.Layout.{ring_room, own_at, lost_at, live_at, sends_at, items_in, items_length, list_length, message_length}
use Rattle.records.specs.Fields.{message_octets, items_octets, messages_octets, flag_octets, live_octets, turn_octets}
use Rattle.records.specs.Record.{counts_octets, head_octets, ring_octets}
use Rattle.records.proofs.Laws.Tables.{length_joined}

pub length_live : (l : Live) → length l.on ≡ 64 → length (live_octets l) ≡ 64
length_live l h = length_joined flag_octets 1 (λ b. refl) l.on ∙ ap (λ (n : ℕ). n * 1) h

pub length_items : (l : Messages) → length l.items ≡ 16 → length (items_octets l.items) ≡ items_length
length_items l h = length_joined message_octets message_length (λ m. refl) l.items ∙ ap (λ (n : ℕ). n * message_length) h

pub length_list : (l : Messages) → length l.items ≡ 16 → length (messages_octets l) ≡ list_length
length_list l h = length-append (octets 1 l.len) (items_octets l.items) ∙ ap (λ (n : ℕ). items_in + n) (length_items l h)

pub length_head : (s : Station) → length s.live.on ≡ 64 → length (head_octets s) ≡ sends_at - own_at
length_head s h =
    let counts : List ℕ = counts_octets s.counts in
    length-append (turn_octets s.own s.turn) (counts ++ live_octets s.live)
    ∙ ap (λ (n : ℕ). (lost_at - own_at) + n)
    (length-append counts (live_octets s.live) ∙ ap (λ (n : ℕ). (live_at - lost_at) + n) (length_live s.live h))

pub length_ring : (file : List ℕ) → length file ≤ ring_room → length (ring_octets file) ≡ ring_room
length_ring file h =
    length-append file (zeros (ring_room - length file)) ∙ ap (λ (n : ℕ). length file + n) (length_zeros (ring_room - length file)) ∙ omega arith
