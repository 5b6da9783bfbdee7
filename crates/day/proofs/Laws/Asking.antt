-- Laws of what a record asks for, and of what a called station answers. Assumes nothing.
use mathlib.Core.Path.{◌≡◌, refl, sym, ap, ◌∙◌}
use mathlib.Core.Bool.{Bool, true, false}
use mathlib.Core.List.{List, [], ◌∷◌}
use Prim.Native.Nat.{ℕ}
use native.Mathlib.Omega.{arith}
use lib.ListN.{length, get_or, replicate}
use Rattle.std.specs.Prelude.{Option, None, Some}
use Rattle.parts.proofs.Laws.Choose.{pick_true}
use Rattle.parts.specs.Live.{seats}
use Rattle.parts.specs.declared.request.Request.{Request}
use Rattle.station.specs.Queue.{queue_rule}
use Rattle.station.specs.Timer.{timer_rule}
use Rattle.station.specs.declared.station.Station.{Station}
use Rattle.station.specs.declared.station.Answer.{Answer}
use Rattle.bench.specs.Delivery.{is_quiet}
use Rattle.bench.specs.declared.table.Handing.{Handing}
use Rattle.capture.specs.declared.record.Event.{Event}
use Rattle.capture.specs.declared.record.Event.TheVariants.{Delivered, LostForAddressee, LostForAll, Timer, Queue}
use Rattle.day.specs.Wire.{no_flying}
use Rattle.day.specs.Calls.{refused_by, timed, called_by}
use Rattle.day.specs.Plans.{no_handing, handing_with, handing_for}
use Rattle.day.specs.declared.wire.Flying.{Flying}
use Rattle.day.specs.declared.wire.Frames.{Frames}
use Rattle.day.specs.declared.calls.Call.{Call}
use Rattle.day.specs.declared.calls.Answered.{Answered}
use Rattle.day.specs.declared.calls.Call.TheVariants.{TimerCall, QueueCall}

-- ---- a call

module _ (s : Station) (c : Option Call) where
  pub call_none : c ≡ None → called_by s c ≡ refused_by s 0
  unfolding called_by
  call_none e = rw e

  pub call_timer : (room : Bool) → c ≡ Some (TimerCall room) → called_by s c ≡ timed s room (timer_rule s)
  unfolding called_by
  call_timer room e = rw e

  pub call_queue : (q : Request) → c ≡ Some (QueueCall q) → called_by s c ≡ refused_by (queue_rule s q).station (queue_rule s q).number
  unfolding called_by
  call_queue q e = rw e

  pub call_timed : (room : Bool) (a : Answer) (r : Answered) → c ≡ Some (TimerCall room) → a ≡ timer_rule s → r ≡ timed s room a → r ≡ called_by s c
  call_timed room a r e x y = y ∙ ap (timed s room) x ∙ sym (call_timer room e)

-- ---- what is asked for

abbrev pub frames_of : Flying → Frames
frames_of f = record { items = replicate 64 f; count = 0 }

abbrev pub handing_by : ℕ → ℕ → Flying → Bool → Bool → Handing
handing_by n m f quiet lost = record { n = n; m = m; frame = f.frame; quiet = quiet; from = f.from; to = f.to; lost = lost }

module _ (n : ℕ) (lost : Bool) where
  pub handing_empty : (wire : List Flying) → length wire ≡ 0 → handing_with n lost wire ≡ no_handing
  unfolding handing_with
  handing_empty [] e = refl
  handing_empty (f ∷ fs) e = absurd (omega (arith, e))

  pub handing_oldest : (wire : List Flying) (f : Flying) (m : ℕ) (quiet : Bool) → (length wire ≡ 0 → ⊥) → f ≡ get_or wire 0 no_flying → quiet ≡ is_quiet f.frame → m ≡ seats n
      → handing_by n m f quiet lost ≡ handing_with n lost wire
  unfolding handing_with
  handing_oldest [] f m quiet some e q s = absurd (some refl)
  handing_oldest (g ∷ gs) f m quiet some e q s = rw (q, s, e)

module _ (n : ℕ) (wire : List Flying) (e : Event) where
  pub hands_delivered : e ≡ Delivered → handing_for n wire e ≡ handing_with n false wire
  unfolding handing_for
  hands_delivered x = rw x

  pub hands_lost : e ≡ LostForAddressee → handing_for n wire e ≡ handing_with n true wire
  unfolding handing_for
  hands_lost x = rw x

  pub hands_nobody : e ≡ LostForAll → handing_for n wire e ≡ no_handing
  unfolding handing_for
  hands_nobody x = rw x

  pub hands_timer : (p : ℕ) → e ≡ Timer p → handing_for n wire e ≡ no_handing
  unfolding handing_for
  hands_timer p x = rw x

  pub hands_queue : (p : ℕ) (q : Request) → e ≡ Queue p q → handing_for n wire e ≡ no_handing
  unfolding handing_for
  hands_queue p q x = rw x

-- ---- as `hand` asks for it

handing_asks : (n : ℕ) (lost : Bool) (wire : List Flying) → ((handing_with n lost wire).m ≡ seats (handing_with n lost wire).n) × ((handing_with n lost wire).quiet ≡ is_quiet (handing_with n lost wire).frame)
unfolding handing_with
handing_asks n lost [] = (sym (pick_true 0 64 refl), refl)
handing_asks n lost (f ∷ rest) = (refl, refl)

pub nobody_asks : (no_handing.m ≡ seats no_handing.n) × (no_handing.quiet ≡ is_quiet no_handing.frame)
nobody_asks = (sym (pick_true 0 64 refl), refl)

pub event_asks : (n : ℕ) (wire : List Flying) (e : Event) → ((handing_for n wire e).m ≡ seats (handing_for n wire e).n) × ((handing_for n wire e).quiet ≡ is_quiet (handing_for n wire e).frame)
unfolding handing_for
event_asks n wire Delivered = handing_asks n false wire
event_asks n wire LostForAddressee = handing_asks n true wire
event_asks n wire LostForAll = nobody_asks
event_asks n wire (Timer p) = nobody_asks
event_asks n wire (Queue p q) = nobody_asks
