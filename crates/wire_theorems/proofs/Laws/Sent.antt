-- What a call sends is what its station then awaits; so of a whole station's call it is fit and its message is in the send list.
-- Assumes nothing.
use mathlib.Core.Path.{◌≡◌, refl, sym, subst}
use mathlib.Core.Bool.{Bool}
use mathlib.Core.List.{List}
use Prim.Native.Nat.{ℕ}
use lib.Dec.{ltb, eqb}
use Rattle.codec.specs.Ring.{position}
use Rattle.packet_codec.specs.Packet.{read_packet, read_number}
use Rattle.packet_codec.specs.declared.reading.Read.{Read}
use Rattle.packet_codec.specs.declared.reading.Read.TheVariants.{Refused, Good}
use Rattle.std.specs.Prelude.{None, Some}
use Rattle.std.proofs.lemmas.Option.{none-some}
use Rattle.parts.specs.declared.frame.TokenFrame.{TokenFrame}
use Rattle.parts.specs.declared.frame.Frame.{Frame}
use Rattle.parts.specs.declared.frame.Frame.TheVariants.{Token}
use Rattle.parts.specs.Frames.{Dispatch}
use Rattle.sent.specs.Round.{priority_of, opening, start_round}
use Rattle.station.specs.Stations.{awaited_of, head, answered, moved, unless, alone}
use Rattle.station.specs.Start.{started, start_rule}
use Rattle.station.specs.Heard.{handle, respond, heard, frame_rule}
use Rattle.station.specs.Timer.{unanswered, after_strike, silence, on_timer, timer_rule}
use Rattle.station.specs.declared.station.Station.{Station}
use Rattle.station.specs.declared.station.Answer.{Answer}
use Rattle.station_theorems.proofs.Laws.Kept.{list_apart}
use Rattle.station_theorems.proofs.Laws.Sound.{sound}
use Rattle.station_theorems.proofs.Laws.Small.{pick_keeps}
use Rattle.station_theorems.specs.Small.{SmallDispatch}
use Rattle.station_theorems.proofs.Theorems.Whole.{whole_is}
use Rattle.parts.proofs.Laws.Frames.{same_frame}
use Rattle.driver_buffers.specs.Packets.{frame_of}
use Rattle.driver_calls.specs.Calls.{ring_in, heard_then, packet_rule}
use Rattle.driver_theorems.proofs.Laws.MadeRecords.{members_count}
use Rattle.driver_theorems.specs.Held.{Keeps}
use Rattle.driver_theorems.specs.Held.{Sure}
use Rattle.wire_theorems.specs.Wire.{Outgoing}

-- ---- each frame that an answer sends has a property

abbrev pub AwaitsSent : Answer → Type 0
AwaitsSent a = (f : Frame) (to : ℕ) → a.sent ≡ Some (f, to) → awaited_of a.station ≡ Some (f, to)

quiet_awaits : (s : Station) (number : ℕ) → AwaitsSent (answered s number)
quiet_awaits s number f to e = absurd (none-some _ e)

moved_awaits : (s : Station) (number : ℕ) (b : Bool) (a : Answer) → AwaitsSent a → AwaitsSent (Rattle.parts.specs.Choose.pick b a (answered s number))
moved_awaits s number b a h = pick_keeps AwaitsSent b a _ h (quiet_awaits s number)

pub start_awaits : (s : Station) → AwaitsSent (start_rule s)
unfolding start_rule started moved
start_awaits s = moved_awaits s _ _ _ (pick_keeps AwaitsSent (eqb s.own 0) _ _ (λ f to e. e) (λ f to e. absurd (none-some _ e)))

frame_awaits : (s : Station) (g : Frame) (from at : ℕ) → AwaitsSent (frame_rule s g from at)
unfolding frame_rule moved unless heard respond handle
frame_awaits s g from at =
    moved_awaits s _ _ _ (moved_awaits s _ _ _ (pick_keeps AwaitsSent _ _ _ (λ f to e. absurd (none-some _ e)) (λ f to e. e)))

pub packet_awaits : (s : Station) (ring : List ℕ) (from at : ℕ) (packet : List ℕ) → AwaitsSent (packet_rule s ring from at packet)
unfolding packet_rule moved unless
packet_awaits s ring from at packet = moved_awaits s _ _ _ (moved_awaits s _ _ _ (go (read_packet ring packet)))
  where
    go : (d : Read) → AwaitsSent (heard_then s ring (position ring from) (position ring at) d)
    go (Refused why) = quiet_awaits s (read_number (Refused why))
    go (Good p) = frame_awaits s (frame_of ring p) _ _

on_timer_awaits : (s : Station) (d : Dispatch) → awaited_of s ≡ d → AwaitsSent (on_timer s d)
unfolding on_timer silence after_strike
on_timer_awaits s None q = quiet_awaits s 0
on_timer_awaits s (Some (g, at)) q =
    pick_keeps AwaitsSent (ltb s.turn.retries s.limit) _ _ (λ f to e. e)
    (pick_keeps AwaitsSent (alone (unanswered s at).station) _ _ (λ f to e. absurd (none-some _ e)) (λ f to e. e))

pub timer_awaits : (s : Station) → AwaitsSent (timer_rule s)
unfolding timer_rule moved
timer_awaits s = moved_awaits s _ _ _ (on_timer_awaits s (awaited_of s) refl)

-- ---- a start sends a token

abbrev SendsToken : Answer → Type 0
SendsToken a = (f : Frame) (to : ℕ) → a.sent ≡ Some (f, to) → (t : TokenFrame) × (f ≡ Token t)

pub start_sends_token : (s : Station) → SendsToken (start_rule s)
unfolding start_rule started moved start_round
start_sends_token s =
    let opened : TokenFrame = opening s.own (priority_of (head s)) 0 None in
    pick_keeps SendsToken _ _ _
    (pick_keeps SendsToken (eqb s.own 0) _ _ (λ f to e. (opened, sym (same_frame e))) (λ f to e. absurd (none-some _ e)))
    (λ f to e. absurd (none-some _ e))

-- ---- of a held record's station

pub outgoing : (rec : List ℕ) → Sure rec → (a : Answer) → Keeps rec a → (f : Frame) (to : ℕ) → awaited_of a.station ≡ Some (f, to)
    → Outgoing (ring_in rec) a.station f to
outgoing rec h a k f to e =
    let w = whole_is a.station k.0.shaped k.0.is_whole in
    record {
      members = members_count rec a.station h.ok k.1.n_is;
      proper = w.awaited.each_proper f to e;
      list = w.sends;
      places = list_apart a.station.n a.station.own a.station.sends (sound a.station k.0.shaped k.0.is_whole).sends;
      small = subst SmallDispatch e k.1.awaited;
    }
