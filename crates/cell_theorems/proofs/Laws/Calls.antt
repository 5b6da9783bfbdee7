-- Laws of one call: its number where it was lent what it needs, and the heard frame, whose message's place no station looks at. Assumes nothing.
use mathlib.Core.Path.{◌≡◌, refl}
use mathlib.Core.Bool.{Bool, true, false}
use mathlib.Core.List.{List}
use Prim.Native.Nat.{ℕ, ◌≤◌}
use borrow.Author.Tests.{eq-eqb, le-ltb}
use Rattle.packet_codec.specs.Packet.{longest_packet}
use Rattle.parts.specs.Choose.{pick}
use Rattle.parts.specs.declared.frame.Frame.{Frame}
use Rattle.parts.specs.declared.frame.Frame.TheVariants.{Token, Transmit, Information}
use Rattle.parts.specs.declared.request.Request.{Request}
use Rattle.sent.specs.Round.{reply}
use Rattle.station.specs.Stations.{moved, unless}
use Rattle.station.specs.Heard.{frame_rule, heard, respond, handle, stored}
use Rattle.station.specs.Queue.{queue_rule, accepted}
use Rattle.station.specs.declared.station.Station.{Station}
use Rattle.station.specs.declared.station.Answer.{Answer}
use Rattle.station_theorems.proofs.Laws.Small.{pick_keeps}
use Rattle.records.specs.Layout.{store_length}
use Rattle.records.specs.Record.{read_record}
use Rattle.driver_calls.specs.Calls.{call_number, bad_out, bad_store, bad_buffers}
use Rattle.wire_theorems.specs.Wire.{placeless}

-- ---- numbers

pub own_number : (bad : Bool) (rec : List ℕ) (a : Answer) → bad ≡ false → (read_record rec).ok ≡ true → call_number bad rec a ≡ a.number
unfolding call_number
own_number bad rec a good ok = rw (good, ok)

pub out_good : (out : ℕ) → longest_packet ≤ out → bad_out out ≡ false
out_good out h = le-ltb out longest_packet h

pub store_good : (store : ℕ) → store ≡ store_length → bad_store store ≡ false
store_good store e = rw (eq-eqb store store_length e)

pub buffers_good : (store out : ℕ) → store ≡ store_length → longest_packet ≤ out → bad_buffers store out ≡ false
unfolding bad_buffers pick
buffers_good store out e h = rw (eq-eqb store store_length e) (out_good out h)

-- ---- the heard frame

pub same_heard : (s : Station) (f : Frame) (from to : ℕ) → frame_rule s (placeless f) from to ≡ frame_rule s f from to
unfolding frame_rule heard respond handle stored reply
same_heard s (Token t) from to = refl
same_heard s (Transmit t) from to = refl
same_heard s (Information i) from to = refl

-- ---- a queue call that is refused leaves the station

abbrev Stays : Station → Answer → Type 0
Stays s a = (a.number ≡ 0 → ⊥) → a.station ≡ s

pub refused_stays : (s : Station) (q : Request) → Stays s (queue_rule s q)
unfolding queue_rule moved unless accepted
refused_stays s q = pick_keeps (Stays s) _ _ _ (pick_keeps (Stays s) _ _ _ (λ o. absurd (o refl)) (λ o. refl)) (λ o. refl)
