-- A frame or a timer that a station refuses changes nothing and prints nothing of it, and a refused queue changes nothing. Assumes nothing.
use mathlib.Core.Path.{◌≡◌, ap, ◌∙◌}
use mathlib.Core.Bool.{Bool, ◌&&◌}
use mathlib.Core.List.{List, [], ◌++◌, append-nil}
use Prim.Native.Nat.{ℕ}
use lib.Dec.{leb}
use lib.ListN.{length, set}
use lib.Seq.{set-get_or}
use Rattle.parts.specs.Choose.{pick}
use Rattle.station.specs.Queue.{queue_rule}
use Rattle.std.specs.Prelude.{Option}
use Rattle.parts.specs.Frames.{Dispatch}
use Rattle.parts.specs.declared.request.Request.{Request}
use Rattle.station.specs.declared.station.Station.{Station}
use Rattle.station.specs.declared.station.Answer.{Answer}
use Rattle.station_theorems.specs.Refusals.{NothingDone, Refuses}
use Rattle.station_theorems.proofs.Theorems.Refusals.{number_alone, frame_refuses, timer_refuses, queue_refuses}
use Rattle.bench.specs.Ring.{nobody}
use Rattle.bench.specs.Rows.{row_on}
use Rattle.bench.specs.Delivery.{is_sent}
use Rattle.bench.specs.Text.{rows_text}
use Rattle.capture.specs.declared.record.Event.TheVariants.{Timer, Queue}
use Rattle.day.specs.declared.wire.Flying.{Flying}
use Rattle.day.specs.Day.{Day, most_frames, member_at, joining}
use Rattle.day.specs.Records.{answer_of, after_call, timer_answer, after_record, event_number}
use Rattle.day.specs.Printed.{struck_text, timer_text, record_text}
use Rattle.replay_theorems.specs.Refused.{NothingHappens}
use Rattle.replay_theorems.proofs.Laws.Handing.{handed_keeps, none_joins}

call_same : (d : Day) (p : ℕ) (a : Answer) → NothingDone (member_at d p) a → after_call d p a ≡ d
unfolding after_call
call_same d p a h =
    let stations : set d.stations p a.station ≡ d.stations =
    ap (λ (s : Station). set d.stations p s) h.station_kept ∙ set-get_or d.stations p nobody in
    let wire : d.wire ++ joining p a.sent ≡ d.wire =
    ap (λ (l : List Flying). d.wire ++ l) (ap (joining p) h.no_frame ∙ none_joins p) ∙ append-nil d.wire in
    λ i. record { n = d.n; stations = stations i; wire = wire i }

call_prints : (p : ℕ) (a : Answer) (s : Station) → NothingDone s a → timer_text p a ≡ []
unfolding timer_text struck_text row_on rows_text
call_prints p a s h =
    ap (λ (w : Option ℕ). struck_text w p ++ rows_text (row_on p a.sent)) h.nobody_struck
    ∙ ap (λ (d : Dispatch). rows_text (row_on p d)) h.no_frame

sends_nothing : (d : Day) (a : Answer) (s : Station) → NothingDone s a → pick {A = ℕ} (is_sent a.sent && leb most_frames (length d.wire)) 36 0 ≡ 0
unfolding pick
sends_nothing d a s h = ap (λ (x : Dispatch). pick {A = ℕ} (is_sent x && leb most_frames (length d.wire)) 36 0) h.no_frame

pub timer_refused : (d : Day) (p : ℕ) → ((timer_answer d p).number ≡ 0 → ⊥) → NothingHappens d (Timer p)
unfolding after_record event_number record_text
timer_refused d p o =
    let h = timer_refuses (member_at d p) o in
    record {
      day_same = call_same d p (timer_answer d p) h;
      goes_on = sends_nothing d (timer_answer d p) (member_at d p) h;
      prints_nothing = call_prints p (timer_answer d p) (member_at d p) h;
    }

pub queue_refused : (d : Day) (p : ℕ) (r : Request) → ((queue_rule (member_at d p) r).number ≡ 0 → ⊥) → after_record d (Queue p r) ≡ d
unfolding after_record
queue_refused d p r o = call_same d p (queue_rule (member_at d p) r) (queue_refuses (member_at d p) r o)

-- of the station that refuses it; nobody is struck, and nothing is sent
pub frame_refused : (d : Day) (hears : ℕ → Bool) (f : Flying) (p : ℕ) → ((answer_of hears d f p).number ≡ 0 → ⊥) → NothingDone (member_at d p) (answer_of hears d f p)
frame_refused d hears f p =
    handed_keeps (Refuses (member_at d p)) d.n hears f.frame f.from f.to p (member_at d p)
    (frame_refuses (member_at d p) f.frame f.from f.to) (λ o. number_alone (member_at d p) 0)
