-- Laws of a place that fits. Assumes nothing.
use mathlib.Core.Path.{◌≡◌, refl, sym, ap, ◌∙◌}
use mathlib.Core.Bool.{Bool, true, false, cond, not}
use mathlib.Core.List.{List}
use Prim.Native.Nat.{ℕ, ◌*◌, ◌<◌, ◌≤◌}
use native.Mathlib.Omega.{arith}
use borrow.Author.Tests.{lt-ltb, le-leb, eq-eqb}
use lib.ListN.{length, take, drop}
use Rattle.codec.proofs.Laws.Octets.{length_part}
use Rattle.packet_codec.specs.Packet.{information_length}
use Rattle.parts.proofs.Laws.Choose.{pick_true}
use Rattle.parts.proofs.Laws.Tests.{hold}
use Rattle.parts.specs.declared.frame.Frame.{Frame}
use Rattle.parts.specs.declared.frame.Frame.TheVariants.{Token, Transmit, Information}
use Rattle.station.specs.declared.station.Station.{Station}
use Rattle.station.specs.declared.station.Answer.{Answer}
use Rattle.records.specs.Layout.{place_length, store_length}
use Rattle.records.specs.Record.{read_record}
use Rattle.driver_buffers.specs.Places.{fits_place, in_place, carried_in}
use Rattle.driver_buffers.specs.Packets.{packet_of}
use Rattle.driver_calls.specs.Calls.{call_number, bad_buffers}
use Rattle.driver_calls.proofs.Laws.Calls.{good_buffers}
use Rattle.wire_theorems.specs.Wire.{Outgoing}

pub place_fits : (store place n : ℕ) → store ≡ store_length → place < 32 → n ≤ place_length → fits_place store place n ≡ true
unfolding fits_place
place_fits store place n e h k = hold _ (eq-eqb store store_length e, (lt-ltb place 32 h, (le-leb n place_length k, tt)))

-- so the octets are those of the place
pub place_is : (store : List ℕ) (place n : ℕ) → fits_place (length store) place n ≡ true → in_place store place n ≡ take n (drop (place * place_length) store)
unfolding in_place
place_is store place n e = pick_true _ _ e

pub place_sized : (store : List ℕ) (place n : ℕ) → length store ≡ store_length → place < 32 → n ≤ place_length → length (in_place store place n) ≡ n
place_sized store place n e h k =
    ap length (place_is store place n (place_fits (length store) place n e h k)) ∙ length_part store (place * place_length) n (omega arith)

-- ---- a call that is done had its buffers

pub buffer_good : (bad : Bool) (rec : List ℕ) (a : Answer) → 0 ≡ call_number bad rec a → bad ≡ false
unfolding call_number
buffer_good bad rec a e = go bad e
  where
    go : (b : Bool) → 0 ≡ cond b 9 (cond (not (read_record rec).ok) 35 a.number) → b ≡ false
    go true q = absurd (omega (arith, q))
    go false q = refl

-- and its station's own number is 0
pub own_number : (bad : Bool) (rec : List ℕ) (a : Answer) → 0 ≡ call_number bad rec a → a.number ≡ 0
unfolding call_number
own_number bad rec a e = go bad (not (read_record rec).ok) e
  where
    go : (b c : Bool) → 0 ≡ cond b 9 (cond c 35 a.number) → a.number ≡ 0
    go true c q = absurd (omega (arith, q))
    go false true q = absurd (omega (arith, q))
    go false false q = sym q

pub store_sized : (rec : List ℕ) (a : Answer) (store out : ℕ) → 0 ≡ call_number (bad_buffers store out) rec a → store ≡ store_length
store_sized rec a store out e = (good_buffers store out (buffer_good (bad_buffers store out) rec a e)).0

-- ---- what an outgoing frame carries is as long as it says

pub carried_sized : (ring : List ℕ) (s : Station) (f : Frame) (to : ℕ) → Outgoing ring s f to → (store : List ℕ) → length store ≡ store_length
    → length (carried_in store f) ≡ information_length (packet_of ring f)
unfolding carried_in packet_of
carried_sized ring s (Token t) to o store e = refl
carried_sized ring s (Transmit t) to o store e = refl
carried_sized ring s (Information i) to o store e =
    let c = o.proper.carries in
    let p : i.place < 32 = omega (arith, c.same_place, (o.list.each_good c.message c.there).place_fits) in
    place_sized store i.place i.length e p o.proper.fits_to_write.length_fits
