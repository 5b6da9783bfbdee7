-- Laws of the calls of a driver: what a whole record says, the number in its order, and what a refusal and an answer of 0 leave.
-- Assumes nothing.
use mathlib.Core.Path.{◌≡◌, refl, sym, ap, ◌∙◌, subst}
use mathlib.Core.Bool.{Bool, true, false}
use mathlib.Core.List.{List, []}
use Prim.Native.Nat.{ℕ, ◌+◌, ◌-◌, ◌*◌, ◌≤◌, zero-le}
use native.Mathlib.Omega.{arith}
use borrow.Author.Tests.{ne_eqb, eqb-true, ltb-false, not-false}
use lib.ListN.{length, take, drop, length-take, length-append}
use Rattle.codec.specs.Octets.{Octets, laid, zeros}
use Rattle.packet_codec.specs.Packet.{kept}
use Rattle.codec.specs.Ring.{RingRead, count, addresses_of, ring_of, read_ring}
use Rattle.codec.proofs.Laws.Octets.{length_zeros}
use Rattle.codec.proofs.Laws.Ring.{few_members, read_zero, read_good, length_addresses}
use Rattle.parts.specs.Choose.{pick}
use Rattle.parts.specs.Messages.{none}
use Rattle.parts.proofs.Laws.Choose.{pick_true, pick_false}
use Rattle.std.specs.Prelude.{Option, None, Some}
use Rattle.parts.specs.declared.list.Message.{Message}
use Rattle.station.specs.Stations.{with_turn}
use Rattle.station.specs.Deeds.{carried_out, turn_alone, done_by}
use Rattle.station.proofs.Laws.Decide.{Decides, done_so}
use Rattle.station.specs.declared.rules.deeds.Verdict.{Verdict}
use Rattle.parts.specs.declared.frame.Frame.TheVariants.{Token, Transmit, Information}
use Rattle.parts.specs.Frames.{Dispatch}
use Rattle.station.specs.declared.station.Station.{Station}
use Rattle.station.specs.declared.station.Answer.{Answer}
use Rattle.records.specs.Layout.{own_at, place_length, record_length, store_length}
use Rattle.records.specs.Fields.{turn_octets}
use Rattle.records.specs.Record.{read_record}
use Rattle.records.proofs.Laws.Load.{Held, whole_record}
use Rattle.record_theorems.proofs.Theorems.TurnAlone.{turn_alone_written}
use Rattle.driver_buffers.specs.Places.{fits_place, in_place, carried_in, information_of}
use Rattle.driver_buffers.specs.Packets.{sent_octets}
use Rattle.driver_buffers.specs.Telling.{told_of}
use Rattle.driver_calls.specs.Calls.{ring_in, station_in, call_number, bad_out, bad_store, bad_buffers, record_with, Holds, Left, Sending}
use Rattle.driver_buffers.proofs.Laws.Places.{fits_sound}

-- ---- a record that is whole

-- the ring of a file that reads is in an array of 64
pub length_filled : (file : List ℕ) → (read_ring file).number ≡ 0 → length (read_ring file).ring.addresses ≡ 64
unfolding ring_of
length_filled file e =
    let ms : List ℕ = addresses_of file (count file) in
    let r : read_ring file ≡ record { number = 0; ring = ring_of file } = read_good file (read_zero file e) in
    let few : count file ≤ 64 = rw r at (few_members file) in
    let long : length ms ≡ count file = length_addresses file (count file) in
    ap (λ (x : RingRead). length x.ring.addresses) r
    ∙ length-append ms (zeros (64 - length ms))
    ∙ ap (λ (n : ℕ). length ms + n) (length_zeros (64 - length ms))
    ∙ omega arith

-- as the code has it, with the members that it holds
pub few_held : {rec addresses : List ℕ} {n : ℕ} {st : Station} → Held rec addresses n st → (ms : List ℕ) → ms ≡ take n addresses → length ms ≤ 64
few_held {addresses = addresses} {n = n} h ms e = rw (e, length-take) (omega (arith, h.few))

-- the record is the station's
pub holds : {rec addresses : List ℕ} {n : ℕ} {st : Station} → Held rec addresses n st → Holds rec st
holds h = record { whole = h.ok; station = h.station }

pub holds_sized : {rec : List ℕ} {s : Station} → Holds rec s → record_length ≤ length rec
holds_sized {rec} h =
    let e : length rec ≡ record_length = (whole_record rec h.whole).sized in
    omega arith

-- ---- the information that a frame carries fits

in_place_short : (store : List ℕ) (place n : ℕ) → length (in_place store place n) ≤ place_length
unfolding in_place pick
in_place_short store place n = go (fits_place (length store) place n) refl
  where
    go : (b : Bool) → fits_place (length store) place n ≡ b → length (pick b (take n (drop (place * place_length) store)) []) ≤ place_length
    go true e = rw length-take (omega (arith, (fits_sound (length store) place n e).short))
    go false e = zero-le

carried_short : (store : List ℕ) (d : Dispatch) → length (information_of store d) ≤ place_length
unfolding information_of carried_in
carried_short store None = zero-le
carried_short store (Some (Token t, to)) = zero-le
carried_short store (Some (Transmit t, to)) = zero-le
carried_short store (Some (Information i, to)) = in_place_short store i.place i.length

pub information_short : (store carried : List ℕ) (d : Dispatch) → carried ≡ information_of store d → length carried ≤ place_length
information_short store carried d e = rw e (carried_short store d)

-- ---- buffers of their lengths

pub good_buffers : (store out : ℕ) → bad_buffers store out ≡ false → (store ≡ store_length) × (1500 ≤ out)
unfolding bad_buffers pick
good_buffers store out e = go (bad_store store) refl e
  where
    go : (b : Bool) → bad_store store ≡ b → pick b true (bad_out out) ≡ false → (store ≡ store_length) × (1500 ≤ out)
    go true h e' = absurd (let z : ◌≡◌ {A = ℕ} 0 1 = cc e' in omega arith)
    go false h e' = (eqb-true _ _ (not-false _ h), ltb-false _ _ e')

-- ---- the number: 9, then 35, then the station's own

-- a call that is refused, with the number r
pub record Refusal (bad : Bool) (rec : List ℕ) (a : Answer) (r : ℕ) : Type 0 where
  pub number_is : r ≡ call_number bad rec a
  pub some : r ≡ 0 → ⊥

-- a call that is done
pub record Done (bad : Bool) (rec : List ℕ) (a : Answer) : Type 0 where
  pub number_is : 0 ≡ call_number bad rec a

-- an answer b of the code has it
own_number : (bad : Bool) (rec : List ℕ) (a b : Answer) → bad ≡ false → (read_record rec).ok ≡ true → b ≡ a → b.number ≡ call_number bad rec a
unfolding call_number
own_number bad rec a b good ok answer = ap (λ (x : Answer). x.number) answer ∙ rw (good, ok)

module _ {bad : Bool} {rec : List ℕ} {a : Answer} where
  pub refused_9 : bad ≡ true → Refusal bad rec a 9
  unfolding call_number
  refused_9 b = record { number_is = rw b; some = λ z. omega arith }

  module _ (good : bad ≡ false) where
    pub refused_35 : (read_record rec).ok ≡ false → Refusal bad rec a 35
    unfolding call_number
    refused_35 o = record { number_is = rw (good, o); some = λ z. omega arith }

    module _ (ok : (read_record rec).ok ≡ true) (b : Answer) (answer : b ≡ a) where
      pub refused_own : (b.number ≡ 0 → ⊥) → Refusal bad rec a b.number
      refused_own n = record { number_is = own_number bad rec a b good ok answer; some = n }

      pub done : b.number ≡ 0 → Done bad rec a
      done z = record { number_is = sym z ∙ own_number bad rec a b good ok answer }

-- with a number that is the answer's
pub refused_by : {bad : Bool} {rec : List ℕ} {a : Answer} → bad ≡ false → (read_record rec).ok ≡ true → (b : Answer) → b ≡ a
    → {r : ℕ} → b.number ≡ r → (r ≡ 0 → ⊥) → Refusal bad rec a r
refused_by {bad} {rec} {a} good ok b answer e n =
    subst (Refusal bad rec a) e (refused_own good ok b answer (λ z. n (sym e ∙ z)))

-- ---- what is decided and done has the verdict's number and frame

module _ (s : Station) (v : Verdict) where
  pub done_number : (done_by s v).number ≡ v.number
  unfolding done_by pick carried_out
  done_number = go v.alone
    where
      go : (c : Bool) → (pick c (turn_alone s v) (carried_out s v)).number ≡ v.number
      go true = refl
      go false = refl

  pub done_sent : (done_by s v).sent ≡ v.sent
  unfolding done_by pick carried_out
  done_sent = go v.alone
    where
      go : (c : Bool) → (pick c (turn_alone s v) (carried_out s v)).sent ≡ v.sent
      go true = refl
      go false = refl

  module _ (ring info rec out told rec' out' told' : List ℕ) where
    -- the payload's message, and what is left
    abbrev Settled : Option Message → Answer → Type 0
    Settled p a = (p ≡ a.payload) × Left a ring info rec out told rec' out' told'

    -- the turn alone is written, where the record is the station's
    pub turn_settled : Octets rec → Holds rec s → v.alone ≡ true
        → (rec' ≡ laid rec own_at (turn_octets s.own v.turn)) × ((out' ≡ laid out 0 (sent_octets ring v.sent info)) × (told' ≡ laid told 0 (told_of ring v.sent None none)))
        → Settled None (done_by s v)
    unfolding done_by
    turn_settled o h e w =
        let written : laid rec own_at (turn_octets s.own v.turn) ≡ record_with rec (with_turn s v.turn) =
        subst (λ (x : Station). laid rec own_at (turn_octets x.own v.turn) ≡ record_with rec (with_turn x v.turn)) (sym h.station) (turn_alone_written rec o h.whole v.turn) in
        let left : Settled None (turn_alone s v) = (refl, record { record_is = w.0 ∙ written; out_is = w.1.0; told_is = w.1.1 }) in
        subst (Settled None) (sym (pick_true _ _ e)) left

    pub all_settled : (p : Option Message) → v.alone ≡ false → Settled p (carried_out s v) → Settled p (done_by s v)
    unfolding done_by
    all_settled p e left = subst (Settled p) (sym (pick_false _ _ e)) left

-- an answer a of the code that is b leaves what b leaves
pub left_so : {ring info rec out told rec' out' told' : List ℕ} (a b : Answer) → a ≡ b → rec' ≡ record_with rec a.station
    → out' ≡ laid out 0 (sent_octets ring a.sent info) → told' ≡ laid told 0 (told_of ring a.sent a.struck a.gone)
    → (a.payload ≡ b.payload) × Left b ring info rec out told rec' out' told'
left_so {ring} {info} {rec} {out} {told} {rec'} {out'} {told'} a b e p q r =
    subst (λ (x : Answer). (a.payload ≡ x.payload) × Left x ring info rec out told rec' out' told') e (refl, record { record_is = p; out_is = q; told_is = r })

-- ---- what a call leaves

pub kept_old : (r : ℕ) (old new : List ℕ) → (r ≡ 0 → ⊥) → old ≡ kept r old new
kept_old r old new n = rw (ne_eqb r 0 n)

-- a call that may send

module _ {bad : Bool} {rec : List ℕ} {a : Answer} {ring info out told : List ℕ} where
  pub not_sent : {r : ℕ} → Refusal bad rec a r → Sending (call_number bad rec a) a ring info rec out told r rec out told
  not_sent {r} f =
      record
      { answer = f.number_is; record_is = kept_old r _ _ f.some; out_is = kept_old r _ _ f.some; told_is = kept_old r _ _ f.some }

  -- with an answer b of the code, its members and its information
  pub all_sent : (b : Answer) (ms carried rec' out' told' : List ℕ) → Done bad rec a → b ≡ a → ms ≡ ring → carried ≡ info
      → Left b ms carried rec out told rec' out' told'
      → Sending (call_number bad rec a) a ring info rec out told 0 rec' out' told'
  all_sent b ms carried rec' out' told' d eb em ei s =
      record {
        answer = d.number_is;
        record_is = s.record_is ∙ ap (λ (x : Answer). record_with rec x.station) eb;
        out_is = s.out_is ∙ rw (eb, em, ei);
        told_is = s.told_is ∙ rw (eb, em);
      }

-- a call that may send and whose answer goes by the station alone: start and timer

abbrev pub StationSending : Bool → (Station → Answer) → (Dispatch → List ℕ) → (rec out told : List ℕ) → ℕ → (rec' out' told' : List ℕ) → Type 0
StationSending bad rule info rec =
    Sending (call_number bad rec (rule (station_in rec))) (rule (station_in rec)) (ring_in rec) (info (rule (station_in rec)).sent) rec

-- the answer over the station that is held is the one over the record's
by_station : {rec addresses : List ℕ} {n : ℕ} {st : Station} → Held rec addresses n st → (rule : Station → Answer) (b : Answer) → b ≡ rule st → b ≡ rule (station_in rec)
by_station h rule b answer = answer ∙ ap rule h.station

-- what is decided over it and done is what the rule answers
done_station : {rec addresses : List ℕ} {n : ℕ} {st : Station} → Held rec addresses n st → (rule : Station → Answer) (verdict : Station → Verdict)
    → ((s : Station) → Decides s (rule s) (verdict s)) → (v : Verdict) → v ≡ verdict st → done_by st v ≡ rule (station_in rec)
done_station {st = st} h rule verdict so v asked = by_station h rule (done_by st v) (ap (done_by st) asked ∙ done_so (so st))

module _ {bad : Bool} {rec addresses out told : List ℕ} {n : ℕ} {st : Station} (rule : Station → Answer) (verdict : Station → Verdict)
    (so : (s : Station) → Decides s (rule s) (verdict s))
    (info : Dispatch → List ℕ)
    (good : bad ≡ false)
    (h : Held rec addresses n st)
    (v : Verdict)
    (asked : v ≡ verdict st)
  where
    pub station_refuses : (v.number ≡ 0 → ⊥) → StationSending bad rule info rec out told v.number rec out told
    station_refuses n = not_sent (refused_by good h.ok (done_by st v) (done_station h rule verdict so v asked) (done_number st v) n)

    pub station_sends : v.number ≡ 0 → (ms carried rec' out' told' : List ℕ) → ms ≡ take n addresses → carried ≡ info v.sent
        → Left (done_by st v) ms carried rec out told rec' out' told'
        → StationSending bad rule info rec out told 0 rec' out' told'
    station_sends z ms carried rec' out' told' em ei s =
        let answers : done_by st v ≡ rule (station_in rec) = done_station h rule verdict so v asked in
        all_sent (done_by st v) ms carried rec' out' told' (done good h.ok (done_by st v) answers (done_number st v ∙ z)) answers
        (em ∙ h.members)
        (ei ∙ ap info (sym (done_sent st v)) ∙ ap (λ (x : Answer). info x.sent) answers)
        s
