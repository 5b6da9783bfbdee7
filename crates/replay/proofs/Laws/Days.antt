-- Laws of one record's turn: what the functions over the table give is what the definition says. Assumes nothing.
use mathlib.Core.Path.{◌≡◌, refl, sym, ap, ◌∙◌}
use mathlib.Core.Bool.{Bool, true, false, not, ◌&&◌, false≢true}
use mathlib.Core.List.{List, [], ◌∷◌, ◌++◌, append-nil}
use Prim.Native.Nat.{ℕ, suc, ◌+◌, ◌<◌, ◌≤◌}
use native.Mathlib.Numerals.{add-one}
use native.Mathlib.Omega.{arith}
use lib.Dec.{ltb, eqb}
use lib.ListN.{length, get_or, drop, set, length-append}
use lib.Seq.{set-get_or, take_all}
use borrow.Author.Tests.{eq-eqb, ne_eqb, ltb-true}
use Rattle.parts.specs.Choose.{pick}
use Rattle.parts.specs.Frames.{failing_of, Dispatch}
use Rattle.parts.specs.declared.live.Live.{Live}
use Rattle.std.specs.Prelude.{Option, None, Some}
use Rattle.parts.specs.declared.request.Request.{Request}
use Rattle.parts.proofs.Laws.Choose.{pick_true, pick_false}
use Rattle.station.specs.Stations.{moved, unless}
use Rattle.station.specs.Queue.{queue_rule, accepted}
use Rattle.station.specs.Timer.{timer_rule}
use Rattle.station.specs.declared.station.Station.{Station}
use Rattle.station.specs.declared.station.Answer.{Answer}
use Rattle.bench.specs.Ring.{nobody}
use Rattle.bench.specs.Rows.{row_on}
use Rattle.bench.specs.Text.{rows_text}
use Rattle.bench.specs.Delivery.{handed, delivered, hearing}
use Rattle.bench.specs.Delivery.{is_sent}
use Rattle.bench.specs.Table.{hears, no_frame}
use Rattle.bench.specs.declared.table.Handing.{Handing}
use Rattle.capture.specs.declared.record.Event.{Event}
use Rattle.capture.specs.declared.record.Event.TheVariants.{Delivered, LostForAddressee, LostForAll, Timer, Queue}
use Rattle.capture.specs.declared.record.Read.{Read}
use Rattle.capture.specs.declared.record.Read.TheVariants.{End, Refused, Good}
use Rattle.day.specs.Day.{Day, most_frames, joining}
use Rattle.day.specs.Records.{nobody_hears, hearers, after_frame, take_frame, after_call, after_record, overfills, event_number}
use Rattle.day.specs.Printed.{strikes_text, frame_text, take_text, timer_text, record_text, stopped_text}
use Rattle.replay.specs.Runs.{Record, good, bad, Course, stopped, went_on, record_number, effect, effect_text, turn, turn_text, gone, gone_text}
use Rattle.day.specs.Strikes.{span, marks_text, strikers_text, taken_text}
use Rattle.day.specs.Calls.{refused_by, timed, called_by, told, called_text}
use Rattle.replay.specs.Table.{Way, day_in, course_in, records_in, plan_in, joined_by, timer_lines, onward, halted, after_taken, after_timer, after_event, event_text, after_read, read_text, taken_in, handed_in, called_in, table_in, way_after, text_after}
use Rattle.day.specs.Plans.{no_handing, handing_with, handing_for}
use Rattle.day.specs.declared.wire.Flying.{Flying}
use Rattle.day.specs.declared.calls.Call.{Call}
use Rattle.day.specs.declared.calls.Call.TheVariants.{TimerCall, QueueCall}
use Rattle.day.specs.declared.calls.Answered.{Answered}
use Rattle.day.proofs.Laws.Frames.{unheard_all, unstruck_all, unsent, none_at_all, nobody_at_all, strikers_lines}
use Rattle.day.proofs.Laws.Strikes.{not_less}

-- ---- the turn of a run that goes on

module _ (c : Course) (going : c.number ≡ 0) where
  turn_open : (r : Record) → turn c r ≡ pick (eqb (record_number c.day r) 0) (effect c r) (stopped c (record_number c.day r))
  unfolding turn
  turn_open r = pick_true _ _ (eq-eqb c.number 0 going)

  text_open : (r : Record) → turn_text c r ≡ pick (eqb (record_number c.day r) 0) (effect_text c.day r) (stopped_text (record_number c.day r) c.done)
  unfolding turn_text
  text_open r = pick_true _ _ (eq-eqb c.number 0 going)

  goes : (e : Event) → event_number c.day e ≡ 0 → gone c (good e ∷ []) ≡ went_on c e
  unfolding gone record_number
  goes e z = turn_open (good e) ∙ pick_true _ _ (eq-eqb _ 0 z)

  goes_text : (e : Event) → event_number c.day e ≡ 0 → gone_text c (good e ∷ []) ≡ record_text c.day e
  unfolding gone_text record_number
  goes_text e z = append-nil (turn_text c (good e)) ∙ text_open (good e) ∙ pick_true _ _ (eq-eqb _ 0 z)

  stops : (r : Record) (k : ℕ) → record_number c.day r ≡ k → (k ≡ 0 → ⊥) → gone c (r ∷ []) ≡ stopped c k
  unfolding gone
  stops r k e o =
      turn_open r ∙ ap (λ (n : ℕ). pick (eqb n 0) (effect c r) (stopped c n)) e ∙ pick_false _ _ (ne_eqb k 0 o)

  stops_text : (r : Record) (k : ℕ) → record_number c.day r ≡ k → (k ≡ 0 → ⊥) → gone_text c (r ∷ []) ≡ stopped_text k c.done
  unfolding gone_text
  stops_text r k e o =
      append-nil (turn_text c r) ∙ text_open r ∙ ap (λ (n : ℕ). pick (eqb n 0) (effect_text c.day r) (stopped_text n c.done)) e ∙ pick_false _ _ (ne_eqb k 0 o)

-- ---- the table

-- a call of nobody leaves it
idle_call : (p : ℕ) (ss : List Station) → called_in p None ss ≡ ss
unfolding called_by
idle_call p ss = set-get_or ss p nobody

-- nobody is handed anything
idle_table : (p : ℕ) (c : Option Call) (ss : List Station) → called_in p c (handed_in no_handing ss) ≡ called_in p c ss
idle_table p c ss = ap (called_in p c) (unheard_all 0 (hears no_handing) no_frame 0 0 (none_at_all (hears no_handing)) 0 ss)

-- ---- the wire

joined_few : (wire : List Flying) (p : ℕ) (d : Dispatch) → length wire ≤ 64 → (is_sent d ≡ true → length wire < 64) → joined_by wire p d ≡ wire ++ joining p d
unfolding joining
joined_few wire p None few room = take_all 64 (wire ++ []) (omega (arith, length-append wire []))
joined_few wire p (Some (frame, to)) few room =
    let less : length wire < 64 = room refl in
    take_all 64 (wire ++ _) (omega (arith, length-append wire (record { from = p; frame = frame; to = to } ∷ [])))

abbrev course_of : ℕ → List Station → List Flying → ℕ → ℕ → Course
course_of n ss wire done number = record { day = record { n = n; stations = ss; wire = wire }; done = done; number = number }

-- ---- a frame record

no_marks : (h : Handing) (l : Live) → span h ≡ 0 → strikers_text h l ≡ []
unfolding marks_text
no_marks h l e = ap (λ (k : ℕ). marks_text l (failing_of h.frame) k 0) e

module _ (n : ℕ) (ss : List Station) (size : length ss ≡ 64) where
  abbrev day_of : List Flying → Day
  day_of wire = record { n = n; stations = ss; wire = wire }

  -- what it leaves and prints, of a handing
  abbrev Took : Event → List Flying → Handing → Type 0
  Took e wire h =
      (handed_in h ss ≡ (take_frame e (day_of wire) wire).stations)
      × (joined_by (drop 1 wire) h.to (taken_in h ss).reply ≡ (take_frame e (day_of wire) wire).wire)
      × (taken_text h (taken_in h ss) ≡ take_text e (day_of wire) wire)
      × ((take_frame e (day_of wire) wire).n ≡ n)

  -- nobody is handed anything, and nothing is printed
  no_reply : (taken_in no_handing ss).reply ≡ None
  no_reply = unsent 0 (hears no_handing) no_frame 0 0 0 (get_or ss 0 nobody) (none_at_all (hears no_handing) 0)

  no_text : taken_text no_handing (taken_in no_handing ss) ≡ []
  unfolding span row_on rows_text
  no_text =
      ap (λ (x : List ℕ). x ++ rows_text (row_on 0 (taken_in no_handing ss).reply)) (no_marks no_handing (taken_in no_handing ss).strikers (pick_true 0 0 refl))
      ∙ ap (λ (d : Dispatch). rows_text (row_on 0 d)) no_reply

  took_none : (e : Event) → Took e [] no_handing
  unfolding take_frame take_text joining
  took_none e = (
    unheard_all 0 (hears no_handing) no_frame 0 0 (none_at_all (hears no_handing)) 0 ss,
    ap (λ (d : Dispatch). joined_by [] 0 d) no_reply,
    no_text,
    refl,
  )

  took_one : (e : Event) (lost : Bool) (f : Flying) (rest : List Flying) → length (f ∷ rest) ≤ 64 → hearers e f ≡ hearing lost f.from f.to → Took e (f ∷ rest) (handing_with n lost (f ∷ rest))
  unfolding take_frame take_text handing_with after_frame frame_text
  took_one e lost f rest few same = (
    ap (λ (hs : ℕ → Bool). delivered n hs f.frame f.from f.to 0 ss) (sym same),
    joined_few rest f.to _ (omega arith) (λ z. omega arith) ∙ ap (λ (hs : ℕ → Bool). rest ++ joining f.to (handed n hs f.frame f.from f.to f.to (get_or ss f.to nobody)).sent) (sym same),
    ap (λ (x : List ℕ). x ++ rows_text (row_on f.to (handed n (hearing lost f.from f.to) f.frame f.from f.to f.to (get_or ss f.to nobody)).sent)) (strikers_lines (handing_with n lost (f ∷ rest)) ss size refl refl)
        ∙ ap (λ (hs : ℕ → Bool). strikes_text n hs f.frame f.from f.to 0 ss ++ rows_text (row_on f.to (handed n hs f.frame f.from f.to f.to (get_or ss f.to nobody)).sent)) (sym same),
    refl,
  )

  took_lost : (f : Flying) (rest : List Flying) → length (f ∷ rest) ≤ 64 → Took LostForAll (f ∷ rest) no_handing
  unfolding take_frame take_text after_frame frame_text row_on rows_text joining
  took_lost f rest few = (
    unheard_all 0 (hears no_handing) no_frame 0 0 (none_at_all (hears no_handing)) 0 ss ∙ sym (unheard_all n nobody_hears f.frame f.from f.to (nobody_at_all n) 0 ss),
    ap (λ (d : Dispatch). joined_by rest 0 d) no_reply ∙ take_all 64 (rest ++ []) (omega (arith, length-append rest [])) ∙ sym (ap (λ (d : Dispatch). rest ++ joining f.to d) (unsent n nobody_hears f.frame f.from f.to f.to (get_or ss f.to nobody) (nobody_at_all n f.to))),
    no_text ∙ sym (ap (λ (x : List ℕ). x ++ rows_text (row_on f.to (handed n nobody_hears f.frame f.from f.to f.to (get_or ss f.to nobody)).sent)) (unstruck_all n nobody_hears f.frame f.from f.to (nobody_at_all n) 0 ss) ∙ ap (λ (d : Dispatch). rows_text (row_on f.to d)) (unsent n nobody_hears f.frame f.from f.to f.to (get_or ss f.to nobody) (nobody_at_all n f.to))),
    refl,
  )

-- ---- a queue call sends nothing

sent_in : (b : Bool) (x y : Answer) → x.sent ≡ None → y.sent ≡ None → (pick b x y).sent ≡ None
unfolding pick
sent_in true x y p q = p
sent_in false x y p q = q

queue_silent : (s : Station) (q : Request) → (queue_rule s q).sent ≡ None
unfolding queue_rule moved unless accepted
queue_silent s q = sent_in _ _ _ (sent_in _ _ _ refl refl) refl

silent_joins : (wire : List Flying) (p : ℕ) → wire ++ joining p None ≡ wire
unfolding joining
silent_joins wire p = append-nil wire

-- ---- room for a timer's frame

and_not : (a b : Bool) → b && not a ≡ pick a false b
unfolding pick
and_not true true = refl
and_not true false = refl
and_not false true = refl
and_not false false = refl

room_left : (k : ℕ) (sent : Bool) → pick (ltb k 64) false sent ≡ false → sent ≡ true → k < 64
room_left k sent e s = go (ltb k 64) refl
  where
    go : (b : Bool) → ltb k 64 ≡ b → k < 64
    go true t = ltb-true k 64 t
    go false t = absurd (false≢true (sym e ∙ pick_false false sent t ∙ s))

-- ---- a frame record, whole

-- what a turn comes to: the course and the text of the definition
abbrev pub Turns : Way → Read → List Station → Type 0
Turns w r ss =
    (course_in (way_after w r ss) (table_in (plan_in w r) ss) ≡ gone (course_in w ss) (records_in r))
    × (text_after w r ss ≡ gone_text (course_in w ss) (records_in r))

module _ (w : Way) (ss : List Station) (size : length ss ≡ 64) (going : w.number ≡ 0) (few : length w.wire ≤ 64) where
  -- a handing that does what the event's definition says
  frame_turn : (e : Event) (h : Handing) → Took w.n ss size e w.wire h → after_record (day_in w ss) e ≡ take_frame e (day_in w ss) w.wire → record_text (day_in w ss) e ≡ take_text e (day_in w ss) w.wire → event_number (day_in w ss) e ≡ 0
      → (next : ℕ) → (course_in (after_taken w next h (taken_in h ss)) (called_in 0 None (handed_in h ss)) ≡ gone (course_in w ss) (good e ∷ [])) × (taken_text h (taken_in h ss) ≡ gone_text (course_in w ss) (good e ∷ []))
  frame_turn e h took after prints free next =
      let d : Day = take_frame e (day_in w ss) w.wire in (
        ap (λ (l : List Station). course_of w.n l (joined_by (drop 1 w.wire) h.to (taken_in h ss).reply) (w.done + 1) 0) (idle_call 0 (handed_in h ss) ∙ took.0)
            ∙ ap (λ (l : List Flying). course_of w.n d.stations l (w.done + 1) 0) took.1
            ∙ ap (λ (k : ℕ). course_of w.n d.stations d.wire k 0) (add-one w.done)
            ∙ ap (λ (k : ℕ). course_of k d.stations d.wire (suc w.done) 0) (sym took.3)
            ∙ ap (λ (x : Day). let c : Course = record { day = x; done = suc w.done; number = 0 } in c) (sym after)
            ∙ sym (goes (course_in w ss) going e free),
        took.2 ∙ sym prints ∙ sym (goes_text (course_in w ss) going e free),
      )

  took_by : (wire : List Flying) (e : Event) (lost : Bool) → length wire ≤ 64 → ((f : Flying) → hearers e f ≡ hearing lost f.from f.to) → Took w.n ss size e wire (handing_with w.n lost wire)
  unfolding handing_with
  took_by [] e lost few same = took_none w.n ss size e
  took_by (f ∷ rest) e lost few same = took_one w.n ss size e lost f rest few (same f)

  took_all : (wire : List Flying) → length wire ≤ 64 → Took w.n ss size LostForAll wire no_handing
  took_all [] few = took_none w.n ss size LostForAll
  took_all (f ∷ rest) few = took_lost w.n ss size f rest few

  delivered_turn : (next : ℕ) → Turns w (Good Delivered next) ss
  unfolding plan_in handing_for after_read read_text after_event event_text after_record record_text event_number
  delivered_turn next = frame_turn Delivered (handing_with w.n false w.wire) (took_by w.wire Delivered false few (λ f. refl)) refl refl refl next

  lost_turn : (next : ℕ) → Turns w (Good LostForAddressee next) ss
  unfolding plan_in handing_for after_read read_text after_event event_text after_record record_text event_number
  lost_turn next = frame_turn LostForAddressee (handing_with w.n true w.wire) (took_by w.wire LostForAddressee true few (λ f. refl)) refl refl refl next

  gone_turn : (next : ℕ) → Turns w (Good LostForAll next) ss
  unfolding plan_in handing_for after_read read_text after_event event_text after_record record_text event_number
  gone_turn next = frame_turn LostForAll no_handing (took_all w.wire few) refl refl refl next

  -- ---- a queue record

  queue_turn : (next p : ℕ) (q : Request) → Turns w (Good (Queue p q) next) ss
  unfolding plan_in handing_for after_read read_text after_event event_text after_record record_text event_number called_by after_call
  queue_turn next p q = (
    ap (λ (l : List Station). course_of w.n l w.wire (w.done + 1) 0) (idle_table p (Some (QueueCall q)) ss)
        ∙ ap (λ (k : ℕ). course_of w.n (set ss p (queue_rule (get_or ss p nobody) q).station) w.wire k 0) (add-one w.done)
        ∙ ap (λ (l : List Flying). course_of w.n (set ss p (queue_rule (get_or ss p nobody) q).station) l (suc w.done) 0) (sym (ap (λ (d : Dispatch). w.wire ++ joining p d) (queue_silent (get_or ss p nobody) q) ∙ silent_joins w.wire p))
        ∙ sym (goes (course_in w ss) going (Queue p q) refl),
    sym (goes_text (course_in w ss) going (Queue p q) refl),
  )

  -- ---- the end, and a refused record

  end_turn : Turns w End ss
  unfolding plan_in after_read read_text gone gone_text
  end_turn = (
    ap (λ (l : List Station). course_of w.n l w.wire w.done w.number) (idle_table 0 None ss ∙ idle_call 0 ss),
    refl,
  )

  refused_turn : (k : ℕ) → (k ≡ 0 → ⊥) → Turns w (Refused k) ss
  unfolding plan_in after_read read_text record_number
  refused_turn k o = (
    ap (λ (l : List Station). course_of w.n l w.wire w.done k) (idle_table 0 None ss ∙ idle_call 0 ss) ∙ sym (stops (course_in w ss) going (bad k) k refl o),
    sym (stops_text (course_in w ss) going (bad k) k refl o),
  )

  -- ---- a timer record

  module _ (next p : ℕ) where
    abbrev seat : Station
    seat = get_or ss p nobody

    abbrev rung : Answer
    rung = timer_rule seat

    abbrev full : Bool
    full = pick (ltb (length w.wire) most_frames) false (is_sent rung.sent)

    full_is : overfills (day_in w ss) rung.sent ≡ full
    full_is = ap (λ (b : Bool). is_sent rung.sent && b) (not_less (length w.wire) 64) ∙ and_not (ltb (length w.wire) 64) (is_sent rung.sent)

    refused_timer : full ≡ true → Turns w (Good (Timer p) next) ss
    unfolding plan_in handing_for after_read read_text after_event event_text event_number called_by record_number
    refused_timer t =
        let c : timed seat (ltb (length w.wire) most_frames) rung ≡ refused_by seat 36 = pick_true _ _ t in
        let number : event_number (day_in w ss) (Timer p) ≡ 36 = pick_true 36 0 (full_is ∙ t) in (
          ap (λ (l : List Station). course_in (after_timer w next p (timed seat (ltb (length w.wire) most_frames) rung).told) l) (idle_table p (Some (TimerCall (ltb (length w.wire) most_frames))) ss ∙ ap (λ (k : Answered). set ss p k.station) c ∙ set-get_or ss p nobody)
              ∙ ap (λ (k : Answered). course_in (after_timer w next p k.told) ss) c
              ∙ ap (λ (x : Way). course_in x ss) (pick_false (onward w (joined_by w.wire p None) next (called_text p (told 36 None None))) (halted w 36 (stopped_text 36 w.done)) refl)
              ∙ sym (stops (course_in w ss) going (good (Timer p)) 36 number (λ z. absurd (omega (arith, z)))),
          ap (λ (k : Answered). timer_lines w.done p k.told) c
              ∙ pick_false (called_text p (told 36 None None)) (stopped_text 36 w.done) refl
              ∙ sym (stops_text (course_in w ss) going (good (Timer p)) 36 number (λ z. absurd (omega (arith, z)))),
        )

    rung_timer : full ≡ false → Turns w (Good (Timer p) next) ss
    unfolding plan_in handing_for after_read read_text after_event event_text event_number called_by after_record record_text after_call timer_text
    rung_timer t =
        let c : timed seat (ltb (length w.wire) most_frames) rung ≡ record { station = rung.station; told = told 0 rung.sent rung.struck } = pick_false _ _ t in
        let number : event_number (day_in w ss) (Timer p) ≡ 0 = pick_false 36 0 (full_is ∙ t) in (
          ap (λ (l : List Station). course_in (after_timer w next p (timed seat (ltb (length w.wire) most_frames) rung).told) l) (idle_table p (Some (TimerCall (ltb (length w.wire) most_frames))) ss ∙ ap (λ (k : Answered). set ss p k.station) c)
              ∙ ap (λ (k : Answered). course_in (after_timer w next p k.told) (set ss p rung.station)) c
              ∙ ap (λ (x : Way). course_in x (set ss p rung.station)) (pick_true (onward w (joined_by w.wire p rung.sent) next (called_text p (told 0 rung.sent rung.struck))) (halted w 0 (stopped_text 0 w.done)) refl)
              ∙ ap (λ (l : List Flying). course_of w.n (set ss p rung.station) l (w.done + 1) 0) (joined_few w.wire p rung.sent few (room_left (length w.wire) (is_sent rung.sent) t))
              ∙ ap (λ (k : ℕ). course_of w.n (set ss p rung.station) (w.wire ++ joining p rung.sent) k 0) (add-one w.done)
              ∙ sym (goes (course_in w ss) going (Timer p) number),
          ap (λ (k : Answered). timer_lines w.done p k.told) c
              ∙ pick_true (called_text p (told 0 rung.sent rung.struck)) (stopped_text 0 w.done) refl
              ∙ sym (goes_text (course_in w ss) going (Timer p) number),
        )

    timer_turn : Turns w (Good (Timer p) next) ss
    timer_turn = go full refl
      where
        go : (b : Bool) → full ≡ b → Turns w (Good (Timer p) next) ss
        go true e = refused_timer e
        go false e = rung_timer e

  -- ---- every record

  pub event_turn : (e : Event) (next : ℕ) → Turns w (Good e next) ss
  event_turn Delivered next = delivered_turn next
  event_turn LostForAddressee next = lost_turn next
  event_turn LostForAll next = gone_turn next
  event_turn (Timer p) next = timer_turn next p
  event_turn (Queue p q) next = queue_turn next p q

  -- a refused record has a number
  pub record_turn : (r : Read) → ((k : ℕ) → r ≡ Refused k → (k ≡ 0 → ⊥)) → Turns w r ss
  record_turn End o = end_turn
  record_turn (Refused k) o = refused_turn k (o k refl)
  record_turn (Good e next) o = event_turn e next
