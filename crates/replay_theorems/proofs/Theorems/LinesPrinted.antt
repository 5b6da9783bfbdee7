-- What a run prints is the text of its lines. Assumes nothing.
use mathlib.Core.Path.{◌≡◌, refl, sym, ap, ◌∙◌}
use mathlib.Core.Bool.{Bool}
use mathlib.Core.List.{List, [], ◌∷◌, ◌++◌, append_assoc, append-nil}
use Prim.Native.Nat.{ℕ, suc}
use Rattle.station.specs.Queue.{queue_rule}
use Rattle.parts.specs.declared.frame.Frame.{Frame}
use Rattle.std.specs.Prelude.{Option, None, Some}
use Rattle.station.specs.declared.station.Station.{Station}
use Rattle.station.specs.declared.station.Answer.{Answer}
use Rattle.bench.specs.Delivery.{handed}
use Rattle.bench.specs.Rows.{row_on}
use Rattle.bench.specs.Text.{rows_text}
use Rattle.bench.specs.declared.rows.Row.{Row}
use Rattle.capture.specs.declared.record.Event.{Event}
use Rattle.capture.specs.declared.record.Event.TheVariants.{Delivered, LostForAddressee, LostForAll, Timer, Queue}
use Rattle.day.specs.declared.wire.Flying.{Flying}
use Rattle.day.specs.Day.{Day, member_at}
use Rattle.day.specs.Records.{hearers, reply_to, timer_answer}
use Rattle.day.specs.Printed.{struck_text, strikes_text, frame_text, take_text, timer_text, record_text, stopped_text}
use Rattle.replay.specs.Runs.{Record, good, bad, Course, record_number, effect_text, turn, turn_text, gone_text}
use Rattle.replay_theorems.specs.Lines.{Line, sent, queued, stopped, line_text, lines_text, struck_line, sent_lines, struck_lines, taken_lines, timer_lines, record_lines, effect_lines, turn_lines, run_lines}
use Rattle.replay_theorems.proofs.Laws.Turning.{Turns, over, stops, goes, turns}

no_lines : [] ≡ lines_text []
unfolding lines_text
no_lines = refl

one_line : (l : Line) → line_text l ≡ lines_text (l ∷ [])
unfolding lines_text
one_line l = sym (append-nil (line_text l))

lines_append : (ls ms : List Line) → lines_text (ls ++ ms) ≡ lines_text ls ++ lines_text ms
unfolding lines_text
lines_append [] ms = refl
lines_append (l ∷ ls) ms = ap (λ (t : List ℕ). line_text l ++ t) (lines_append ls ms) ∙ sym (append_assoc (line_text l) (lines_text ls) (lines_text ms))

-- two pieces of text, each the text of its lines
joined : {t u : List ℕ} (ls ms : List Line) → t ≡ lines_text ls → u ≡ lines_text ms → t ++ u ≡ lines_text (ls ++ ms)
joined {t} {u} ls ms a b = ap (λ (x : List ℕ). x ++ u) a ∙ ap (λ (x : List ℕ). lines_text ls ++ x) b ∙ sym (lines_append ls ms)

-- ---- one record

struck_printed : (w : Option ℕ) (q : ℕ) → struck_text w q ≡ lines_text (struck_line w q)
unfolding struck_line lines_text line_text struck_text
struck_printed None q = refl
struck_printed (Some p) q = sym (append-nil _)

sent_printed : (rows : List Row) → rows_text rows ≡ lines_text (sent_lines rows)
unfolding rows_text sent_lines lines_text line_text
sent_printed [] = refl
sent_printed (r ∷ rs) = ap (λ (t : List ℕ). line_text (sent r) ++ t) (sent_printed rs)

strikes_printed : (n : ℕ) (hears : ℕ → Bool) (f : Frame) (from to p : ℕ) (ss : List Station)
    → strikes_text n hears f from to p ss ≡ lines_text (struck_lines n hears f from to p ss)
unfolding strikes_text struck_lines
strikes_printed n hears f from to p [] = no_lines
strikes_printed n hears f from to p (s ∷ ss) =
    joined (struck_line (handed n hears f from to p s).struck p) (struck_lines n hears f from to (suc p) ss)
    (struck_printed (handed n hears f from to p s).struck p) (strikes_printed n hears f from to (suc p) ss)

taken_printed : (e : Event) (d : Day) (wire : List Flying) → take_text e d wire ≡ lines_text (taken_lines e d wire)
unfolding take_text frame_text taken_lines
taken_printed e d [] = no_lines
taken_printed e d (f ∷ rest) =
    joined (struck_lines d.n (hearers e f) f.frame f.from f.to 0 d.stations) (sent_lines (row_on f.to (reply_to (hearers e f) d f)))
    (strikes_printed d.n (hearers e f) f.frame f.from f.to 0 d.stations) (sent_printed (row_on f.to (reply_to (hearers e f) d f)))

timer_printed : (p : ℕ) (a : Answer) → timer_text p a ≡ lines_text (timer_lines p a)
unfolding timer_text timer_lines
timer_printed p a = joined (struck_line a.struck p) (sent_lines (row_on p a.sent)) (struck_printed a.struck p) (sent_printed (row_on p a.sent))

pub record_printed : (d : Day) (e : Event) → record_text d e ≡ lines_text (record_lines d e)
unfolding record_text record_lines line_text
record_printed d Delivered = taken_printed Delivered d d.wire
record_printed d LostForAddressee = taken_printed LostForAddressee d d.wire
record_printed d LostForAll = taken_printed LostForAll d d.wire
record_printed d (Timer station) = timer_printed station (timer_answer d station)
record_printed d (Queue station request) = one_line (queued (queue_rule (member_at d station) request).number)

-- ---- a run

effect_printed : (d : Day) (r : Record) → effect_text d r ≡ lines_text (effect_lines d r)
effect_printed d (good e) = record_printed d e
effect_printed d (bad number) = no_lines

stop_printed : (number index : ℕ) → stopped_text number index ≡ lines_text (stopped number index ∷ [])
unfolding line_text
stop_printed number index = one_line (stopped number index)

turn_printed : (c : Course) (r : Record) → turn_text c r ≡ lines_text (turn_lines c r)
turn_printed c r = go (turns c r)
  where
    go : Turns c r → turn_text c r ≡ lines_text (turn_lines c r)
    go (over o t) = t.prints ∙ no_lines ∙ ap lines_text (sym t.shows)
    go (stops z o t) = t.prints ∙ stop_printed (record_number c.day r) c.done ∙ ap lines_text (sym t.shows)
    go (goes z n t) = t.prints ∙ effect_printed c.day r ∙ ap lines_text (sym t.shows)

pub lines_printed : (c : Course) (rs : List Record) → gone_text c rs ≡ lines_text (run_lines c rs)
unfolding gone_text run_lines
lines_printed c [] = no_lines
lines_printed c (r ∷ rs) = joined (turn_lines c r) (run_lines (turn c r) rs) (turn_printed c r) (lines_printed (turn c r) rs)
