-- Laws of a run over the octets of a capture: what a turn leaves beside the course, and what holds before each turn. Assumes nothing.
use mathlib.Core.Path.{◌≡◌, refl, sym, ap, subst, ◌∙◌}
use mathlib.Core.Bool.{Bool, true, false, cond}
use mathlib.Core.List.{List, [], ◌∷◌, ◌++◌, append-nil, append_assoc}
use Prim.Native.Nat.{ℕ, zero, suc, ◌+◌, ◌*◌, ◌-◌, ◌^◌, ◌<◌, ◌≤◌}
use native.Mathlib.Omega.{arith}
use lib.Dec.{ltb, eqb}
use lib.ListN.{length, take, drop, length-append}
use borrow.Author.Tests.{ne_eqb, eqb-true, eqb-false, ltb-true, ltb-false}
use Rattle.codec.specs.Octets.{laid}
use Rattle.codec.specs.Order.{first_of}
use Rattle.codec.specs.Bits.{bits}
use Rattle.codec.proofs.Laws.Bits.{bits_below}
use Rattle.codec.proofs.Laws.Octets.{laid_none, length_laid}
use Rattle.parts.specs.Choose.{pick}
use Rattle.parts.specs.Frames.{failing_of}
use Rattle.parts.proofs.Laws.Choose.{pick_true, pick_false, pick_and}
use Rattle.station.specs.declared.station.Station.{Station}
use Rattle.bench.specs.Rows.{row_on}
use Rattle.bench.specs.Text.{space, line_feed, text, cell, refused, rows_text, answer_text}
use Rattle.bench.specs.declared.table.Handing.{Handing}
use Rattle.bench.proofs.Laws.Laying.{laid_both, cell_short}
use Rattle.capture.specs.Record.{record_length, fields_of, fields_at, request_of, event_of, read_record}
use Rattle.capture.specs.declared.record.Fields.{Fields}
use Rattle.capture.specs.declared.record.Event.{Event}
use Rattle.capture.specs.declared.record.Event.TheVariants.{Delivered, LostForAddressee, LostForAll, Timer, Queue}
use Rattle.capture.specs.declared.record.Read.{Read}
use Rattle.capture.specs.declared.record.Read.TheVariants.{End, Refused, Good}
use Rattle.capture.proofs.Laws.Reading.{found, refused_is}
use Rattle.day.specs.Day.{joining}
use Rattle.day.specs.Listening.{heard_in, asked, asked_read}
use Rattle.day.specs.Printed.{struck_text, stopped_text}
use Rattle.replay.specs.Runs.{Record, good, bad, read_first, records_from, asked_all, heard_from, Course, turn, turn_text, gone, gone_text}
use Rattle.replay.specs.Running.{next_offset, offset_behind, Begins, course_after, text_of, AllDone}
use Rattle.day.specs.Strikes.{span, marks_text, taken_text}
use Rattle.replay.specs.Table.{Way, course_in, records_in, plan_in, moved_on, halted, onward, joined_by, timer_lines, after_taken, after_timer, after_event, event_text, after_read, read_text, goes_on, table_in, way_after, text_after}
use Rattle.day.specs.Plans.{place_for}
use Rattle.day.specs.Calls.{called_text}
use Rattle.day.specs.declared.wire.Flying.{Flying}
use Rattle.day.specs.declared.calls.Told.{Told}
use Rattle.day.specs.declared.strikes.Taken.{Taken}
use Rattle.replay.proofs.Laws.Days.{record_turn}
use Rattle.day.proofs.Laws.Lines.{struck_short, marks_short, row_most, span_most}
use Rattle.replay.proofs.Laws.Turns.{plan_most}

-- ---- how long the lines of a record are

stopped_short : (k i : ℕ) → length (stopped_text k i) ≤ 23
unfolding stopped_text
stopped_short k i =
    omega (arith, length-append (text "stopped ") (cell k space ++ (text "at " ++ cell i line_feed)), length-append (cell k space) (text "at " ++ cell i line_feed), length-append (text "at ") (cell i line_feed), cell_short k space, cell_short i line_feed)

answer_short : (k : ℕ) → length (answer_text k) ≤ 14
unfolding answer_text
answer_short k = go (eqb k 0) refl
  where
    go : (b : Bool) → eqb k 0 ≡ b → length (pick (eqb k 0) [] (refused ++ cell k line_feed)) ≤ 14
    go true e = let z : length (pick (eqb k 0) [] (refused ++ cell k line_feed)) ≡ 0 = ap length (pick_true [] (refused ++ cell k line_feed) e) in omega arith
    go false e = omega (arith, ap length (pick_false [] (refused ++ cell k line_feed) e), length-append refused (cell k line_feed), cell_short k line_feed)

called_short : (p : ℕ) (a : Told) → length (called_text p a) ≤ 54
called_short p a = omega (arith, length-append (struck_text a.struck p) (rows_text (row_on p a.sent)), struck_short a.struck p, row_most p a.sent)

taken_short : (h : Handing) (t : Taken) → h.m ≤ 64 → length (taken_text h t) ≤ 1440
taken_short h t most =
    let s : span h ≤ 64 = omega (arith, span_most h) in
    omega (arith, length-append (marks_text t.strikers (failing_of h.frame) (span h) 0) (rows_text (row_on h.to t.reply)), marks_short t.strikers (failing_of h.frame) (span h) 0, row_most h.to t.reply)

timer_short : (done p : ℕ) (a : Told) → length (timer_lines done p a) ≤ 1440
timer_short done p a = go (eqb a.number 0) refl
  where
    go : (b : Bool) → eqb a.number 0 ≡ b → length (timer_lines done p a) ≤ 1440
    go true e = omega (arith, ap length (pick_true (called_text p a) (stopped_text a.number done) e), called_short p a)
    go false e = omega (arith, ap length (pick_false (called_text p a) (stopped_text a.number done) e), stopped_short a.number done)

event_short : (w : Way) (e : Event) (h : Handing) (t : Taken) (a : Told) → h.m ≤ 64 → length (event_text w e h t a) ≤ 1440
unfolding event_text
event_short w Delivered h t a most = taken_short h t most
event_short w LostForAddressee h t a most = taken_short h t most
event_short w LostForAll h t a most = taken_short h t most
event_short w (Timer p) h t a most = timer_short w.done p a
event_short w (Queue p q) h t a most = omega (arith, answer_short a.number)

read_short : (w : Way) (r : Read) (h : Handing) (t : Taken) (a : Told) → h.m ≤ 64 → length (read_text w r h t a) ≤ 1440
unfolding read_text
read_short w End h t a most = omega arith
read_short w (Refused k) h t a most = omega (arith, stopped_short k w.done)
read_short w (Good e next) h t a most = event_short w e h t a most

-- ---- what a turn leaves beside the course

-- the ring stays, one turn more is done, what is printed ends behind its lines, and no more than 64 frames are on the wire
pub record Moved (w : Way) (lines : List ℕ) (w₁ : Way) : Type 0 where
  pub members : w₁.n ≡ w.n
  pub heard : w₁.channels ≡ w.channels
  pub same : w₁.most ≡ w.most
  pub next : w₁.k ≡ w.k + 1
  pub end : w₁.used ≡ w.used + length lines
  pub few : length w₁.wire ≤ 64

moved_on_lem : (w : Way) (wire : List Flying) (at done number : ℕ) (lines : List ℕ) → length wire ≤ 64 → Moved w lines (moved_on w wire at done number (w.used + length lines))
moved_on_lem w wire at done number lines few = record { members = refl; heard = refl; same = refl; next = refl; end = refl; few = few }

take_short : (k : ℕ) (l : List Flying) → length (take k l) ≤ k
take_short zero l = omega arith
take_short (suc k) [] = omega arith
take_short (suc k) (x ∷ l) = omega (arith, take_short k l)

module _ (w : Way) (few : length w.wire ≤ 64) where
  moved_timer : (next p : ℕ) (a : Told) → Moved w (timer_lines w.done p a) (after_timer w next p a)
  unfolding pick
  moved_timer next p a = go (eqb a.number 0)
    where
      go : (b : Bool) → Moved w (pick b (called_text p a) (stopped_text a.number w.done)) (pick b (onward w (joined_by w.wire p a.sent) next (called_text p a)) (halted w a.number (stopped_text a.number w.done)))
      go true = moved_on_lem w (joined_by w.wire p a.sent) next (w.done + 1) 0 (called_text p a) (take_short 64 (w.wire ++ joining p a.sent))
      go false = moved_on_lem w w.wire w.at w.done a.number (stopped_text a.number w.done) few

  moved_taken : (next : ℕ) (h : Handing) (t : Taken) → Moved w (taken_text h t) (after_taken w next h t)
  moved_taken next h t =
      moved_on_lem w (joined_by (drop 1 w.wire) h.to t.reply) next (w.done + 1) 0 (taken_text h t) (take_short 64 (drop 1 w.wire ++ joining h.to t.reply))

  moved_event : (e : Event) (next : ℕ) (h : Handing) (t : Taken) (a : Told) → Moved w (event_text w e h t a) (after_event w e next h t a)
  unfolding event_text after_event
  moved_event Delivered next h t a = moved_taken next h t
  moved_event LostForAddressee next h t a = moved_taken next h t
  moved_event LostForAll next h t a = moved_taken next h t
  moved_event (Timer p) next h t a = moved_timer next p a
  moved_event (Queue p q) next h t a = moved_on_lem w w.wire next (w.done + 1) 0 (answer_text a.number) few

  moved_read : (r : Read) (h : Handing) (t : Taken) (a : Told) → Moved w (read_text w r h t a) (after_read w r h t a)
  unfolding read_text after_read
  moved_read End h t a = moved_on_lem w w.wire w.at w.done w.number [] few
  moved_read (Refused k) h t a = moved_on_lem w w.wire w.at w.done k (stopped_text k w.done) few
  moved_read (Good e next) h t a = moved_event e next h t a

-- a turn goes on behind its record, or it stops before it
module _ (w : Way) (next : ℕ) where
  abbrev GoesOn : Way → Type 0
  GoesOn w₁ = w₁.number ≡ 0 → (w₁.at ≡ next) × (w₁.done ≡ w.done + 1)

  abbrev Halts : Way → Type 0
  Halts w₁ = (w₁.number ≡ 0 → ⊥) → (w₁.at ≡ w.at) × (w₁.done ≡ w.done)

  timer_goes : (p : ℕ) (a : Told) → GoesOn (after_timer w next p a) × Halts (after_timer w next p a)
  timer_goes p a = go (eqb a.number 0) refl
    where
      go : (b : Bool) → eqb a.number 0 ≡ b → GoesOn (after_timer w next p a) × Halts (after_timer w next p a)
      go true e = subst (λ (x : Way). GoesOn x × Halts x) (sym (pick_true (onward w (joined_by w.wire p a.sent) next (called_text p a)) (halted w a.number (stopped_text a.number w.done)) e)) ((λ z. (refl, refl)), (λ o. absurd (o refl)))
      go false e = subst (λ (x : Way). GoesOn x × Halts x) (sym (pick_false (onward w (joined_by w.wire p a.sent) next (called_text p a)) (halted w a.number (stopped_text a.number w.done)) e)) ((λ z. absurd (eqb-false _ _ e z)), (λ o. (refl, refl)))

  event_goes : (e : Event) (h : Handing) (t : Taken) (a : Told) → GoesOn (after_event w e next h t a) × Halts (after_event w e next h t a)
  unfolding after_event
  event_goes Delivered h t a = ((λ z. (refl, refl)), (λ o. absurd (o refl)))
  event_goes LostForAddressee h t a = ((λ z. (refl, refl)), (λ o. absurd (o refl)))
  event_goes LostForAll h t a = ((λ z. (refl, refl)), (λ o. absurd (o refl)))
  event_goes (Timer p) h t a = timer_goes p a
  event_goes (Queue p q) h t a = ((λ z. (refl, refl)), (λ o. absurd (o refl)))

-- ---- the place that a record calls

abbrev Below : List (Bool × Event) → ℕ → Type 0
Below [] k = Unit {0}
Below (t ∷ ts) k = (place_for t.1 < k) × Below ts k

first_place : (d : Event) (ts : List (Bool × Event)) (k : ℕ) → place_for d < k → Below ts k → place_for (first_of d ts) < k
first_place d [] k h hs = h
first_place d (t ∷ ts) k h hs = go t.0 hs.0 (first_place d ts k h hs.1)
  where
    go : (b : Bool) → place_for t.1 < k → place_for (first_of d ts) < k → place_for (cond b t.1 (first_of d ts)) < k
    go true x y = x
    go false x y = y

-- the field has 6 bits
event_below : (s : List ℕ) (at : ℕ) → place_for (event_of (fields_at s at)) < 64
unfolding event_of fields_of
event_below s at =
    let b : bits (take record_length (drop at s)) 3 6 < 64 = bits_below (take record_length (drop at s)) 3 6 in
    let f : Fields = fields_at s at in
    first_place (Queue f.station (request_of f)) ((eqb f.kind 0, Delivered) ∷ (eqb f.kind 1, LostForAddressee) ∷ (eqb f.kind 2, LostForAll) ∷ (eqb f.kind 3, Timer f.station) ∷ []) 64 b
    (omega arith, (omega arith, (omega arith, (b, tt))))

same_place : (hears : ℕ → ℕ → Bool) (e : Event) → place_for (asked hears e) ≡ place_for e
same_place hears Delivered = refl
same_place hears LostForAddressee = refl
same_place hears LostForAll = refl
same_place hears (Timer station) = refl
same_place hears (Queue station q) = refl

module _ (n : ℕ) (s : List ℕ) (at : ℕ) where
  good_below : (e : Event) (next : ℕ) → read_record n s at ≡ Good e next → place_for e < 64
  good_below e next q = subst (λ (x : Event). place_for x < 64) (found n s at e next q).event_is (event_below s at)

  place_below : (w : Way) (hears : ℕ → ℕ → Bool) (r : Read) → read_record n s at ≡ r → (plan_in w (asked_read hears r)).place < 64
  unfolding plan_in
  place_below w hears End q = omega arith
  place_below w hears (Refused k) q = omega arith
  place_below w hears (Good e next) q = omega (arith, same_place hears e, good_below e next q)

  -- ---- the records from an offset on

  pub records_end : (k : ℕ) → read_record n s at ≡ End → records_from k n s at ≡ []
  unfolding records_from read_first
  records_end zero q = refl
  records_end (suc k) q = ap (λ (r : Read). read_first r (λ (next : ℕ). records_from k n s next)) q

  pub records_refused : (k number : ℕ) → read_record n s at ≡ Refused number → records_from (suc k) n s at ≡ bad number ∷ []
  unfolding records_from read_first
  records_refused k number q = ap (λ (r : Read). read_first r (λ (next : ℕ). records_from k n s next)) q

  pub records_good : (k : ℕ) (e : Event) (next : ℕ) → read_record n s at ≡ Good e next → records_from (suc k) n s at ≡ good e ∷ records_from k n s next
  unfolding records_from read_first
  records_good k e next q = ap (λ (r : Read). read_first r (λ (next : ℕ). records_from k n s next)) q

  -- and with what the ring file says of them
  module _ (channels : List ℕ) where
    pub heard_end : (k : ℕ) → read_record n s at ≡ End → heard_from n channels k s at ≡ []
    unfolding asked_all
    heard_end k q = ap (asked_all (heard_in n channels)) (records_end k q)

    pub heard_refused : (k number : ℕ) → read_record n s at ≡ Refused number → heard_from n channels (suc k) s at ≡ bad number ∷ []
    unfolding asked_all
    heard_refused k number q = ap (asked_all (heard_in n channels)) (records_refused k number q)

    pub heard_good : (k : ℕ) (e : Event) (next : ℕ) → read_record n s at ≡ Good e next
        → heard_from n channels (suc k) s at ≡ good (asked (heard_in n channels) e) ∷ heard_from n channels k s next
    unfolding asked_all
    heard_good k e next q = ap (asked_all (heard_in n channels)) (records_good k e next q)

-- in the same ring
pub same_heard : (n n₁ : ℕ) (channels channels₁ : List ℕ) → n ≡ n₁ → channels ≡ channels₁ → (k : ℕ) (s : List ℕ) (at : ℕ)
    → heard_from n channels k s at ≡ heard_from n₁ channels₁ k s at
same_heard n n₁ channels channels₁ en ec k s at = ap (λ (m : ℕ). heard_from m channels k s at) en ∙ ap (λ (l : List ℕ). heard_from n₁ l k s at) ec

-- ---- one after the other

pub gone_append : (c : Course) (rs ss : List Record) → gone c (rs ++ ss) ≡ gone (gone c rs) ss
unfolding gone
gone_append c [] ss = refl
gone_append c (r ∷ rs) ss = gone_append (turn c r) rs ss

pub text_append : (c : Course) (rs ss : List Record) → gone_text c (rs ++ ss) ≡ gone_text c rs ++ gone_text (gone c rs) ss
unfolding gone gone_text
text_append c [] ss = refl
text_append c (r ∷ rs) ss = ap (λ (t : List ℕ). turn_text c r ++ t) (text_append (turn c r) rs ss) ∙ sym (append_assoc (turn_text c r) (gone_text (turn c r) rs) (gone_text (gone (turn c r) rs) ss))

-- a stopped course stays, and prints nothing more
module _ (c : Course) (o : c.number ≡ 0 → ⊥) where
  turn_stays : (r : Record) → turn c r ≡ c
  unfolding turn
  turn_stays r = pick_false _ _ (ne_eqb c.number 0 o)

  turn_silent : (r : Record) → turn_text c r ≡ []
  unfolding turn_text
  turn_silent r = pick_false _ _ (ne_eqb c.number 0 o)

  pub gone_stays : (rs : List Record) → gone c rs ≡ c
  unfolding gone
  gone_stays [] = refl
  gone_stays (r ∷ rs) = ap (λ (d : Course). gone d rs) (turn_stays r) ∙ gone_stays rs

  pub gone_silent : (rs : List Record) → gone_text c rs ≡ []
  unfolding gone_text
  gone_silent [] = refl
  gone_silent (r ∷ rs) =
      ap (λ (t : List ℕ). t ++ gone_text (turn c r) rs) (turn_silent r) ∙ ap (λ (d : Course). gone_text d rs) (turn_stays r) ∙ gone_silent rs

-- the same from two lists of records
abbrev Same : Course → List Record → List Record → Type 0
Same c rs ss = (gone c rs ≡ gone c ss) × (gone_text c rs ≡ gone_text c ss)

same_records : (c : Course) (rs ss : List Record) → rs ≡ ss → Same c rs ss
same_records c rs ss e = (ap (gone c) e, ap (gone_text c) e)

same_stopped : (c : Course) (rs ss : List Record) → (c.number ≡ 0 → ⊥) → Same c rs ss
same_stopped c rs ss o = (gone_stays c o rs ∙ sym (gone_stays c o ss), gone_silent c o rs ∙ sym (gone_silent c o ss))

-- ---- the offset behind some records

offset_first : (at : ℕ) (r : Read) (e : Event) (next : ℕ) (more : ℕ → ℕ) → r ≡ Good e next → next_offset at r more ≡ more next
unfolding next_offset
offset_first at r e next more q = ap (λ (x : Read). next_offset at x more) q

not_good_end : (e : Event) (next : ℕ) → End ≡ Good e next → ⊥
not_good_end e next q = let z : ◌≡◌ {A = ℕ} 0 1 = cc in omega arith

not_good_refused : (k : ℕ) (e : Event) (next : ℕ) → Refused k ≡ Good e next → ⊥
not_good_refused k e next q = let z : ◌≡◌ {A = ℕ} 0 1 = cc in omega arith

offset_more : (k n : ℕ) (s : List ℕ) (at : ℕ) (e : Event) (next : ℕ) → read_record n s (offset_behind k n s at) ≡ Good e next → offset_behind (suc k) n s at ≡ next
unfolding offset_behind next_offset
offset_more zero n s at e next q = offset_first at (read_record n s at) e next (λ (x : ℕ). x) q
offset_more (suc k) n s at e next q = go (read_record n s at) refl q (λ (x : ℕ). offset_more k n s x e next)
  where
    go : (r : Read) → read_record n s at ≡ r → read_record n s (next_offset at r (λ (x : ℕ). offset_behind k n s x)) ≡ Good e next
        → ((x : ℕ) → read_record n s (offset_behind k n s x) ≡ Good e next → offset_behind (suc k) n s x ≡ next)
        → next_offset at r (λ (x : ℕ). offset_behind (suc k) n s x) ≡ next
    go End h q more = absurd (not_good_end e next (sym h ∙ q))
    go (Refused j) h q more = absurd (not_good_refused j e next (sym h ∙ q))
    go (Good f x) h q more = more x q

-- ---- none, and one more

pub gone_one : (c : Course) (r : Record) (rs : List Record) → gone c (r ∷ rs) ≡ gone (turn c r) rs
unfolding gone
gone_one c r rs = refl

pub text_one : (c : Course) (r : Record) (rs : List Record) → gone_text c (r ∷ rs) ≡ turn_text c r ++ gone_text (turn c r) rs
unfolding gone_text
text_one c r rs = refl

pub gone_none : (c : Course) → (gone c [] ≡ c) × (gone_text c [] ≡ [])
unfolding gone gone_text
gone_none c = (refl, refl)

pub heard_zero : (n : ℕ) (channels s : List ℕ) (at : ℕ) → heard_from n channels 0 s at ≡ []
unfolding records_from asked_all
heard_zero n channels s at = refl

pub offset_zero : (k n : ℕ) (s : List ℕ) (at : ℕ) → k ≡ 0 → offset_behind k n s at ≡ at
unfolding offset_behind
offset_zero k n s at e = rw e refl

pub offset_next : (k n : ℕ) (s : List ℕ) (at : ℕ) (e : Event) (next : ℕ) → read_record n s at ≡ Good e next → offset_behind (suc k) n s at ≡ offset_behind k n s next
unfolding offset_behind next_offset
offset_next k n s at e next q = ap (λ (r : Read). next_offset at r (λ (x : ℕ). offset_behind k n s x)) q

-- ---- what holds before each turn

-- the way w has come from w₀, over the table ss, and what was printed stands in out
pub record Under (w₀ : Way) (ss₀ : List Station) (s out₀ : List ℕ) (w : Way) (ss : List Station) (out : List ℕ) : Type 0 where
  pub members : w.n ≡ w₀.n
  pub heard : w.channels ≡ w₀.channels
  pub same : w.most ≡ w₀.most
  pub within : w.k ≤ w₀.most
  pub few : length w.wire ≤ 64
  pub table : length ss ≡ 64
  pub passed : w₀.done ≤ w.done
  pub counted : w.done ≤ w₀.done + w.k
  pub bound : w₀.most ≤ 2 ^ 63 - w₀.done
  pub roomy : 1440 * w₀.most ≤ length out₀ - w₀.used
  pub long : length out ≡ length out₀
  pub printed : List ℕ
  pub short : length printed ≤ 1440 * w.k
  pub text : out ≡ laid out₀ w₀.used printed
  pub end : w.used ≡ w₀.used + length printed
  pub left : gone (course_in w ss) (heard_from w₀.n w₀.channels (w₀.most - w.k) s w.at) ≡ course_after w₀ ss₀ s
  pub left_text : printed ++ gone_text (course_in w ss) (heard_from w₀.n w₀.channels (w₀.most - w.k) s w.at) ≡ text_of w₀ ss₀ s
  pub offset : w.at ≡ offset_behind (w.done - w₀.done) w₀.n s w₀.at

offset_none : (k n : ℕ) (s : List ℕ) (at : ℕ) → k ≡ 0 → at ≡ offset_behind k n s at
unfolding offset_behind
offset_none k n s at e = rw e refl

pub under_none : (w₀ : Way) (ss₀ : List Station) (s out₀ : List ℕ) → length ss₀ ≡ 64 → Begins w₀ (length out₀) → Under w₀ ss₀ s out₀ w₀ ss₀ out₀
under_none w₀ ss₀ s out₀ size b =
    let none : w₀.k ≡ 0 = b.none in
    let all : w₀.most - w₀.k ≡ w₀.most = omega arith in
    record {
      members = refl;
      heard = refl;
      same = refl;
      within = omega arith;
      few = b.few;
      table = size;
      passed = omega arith;
      counted = omega arith;
      bound = b.counted;
      roomy = b.roomy;
      long = refl;
      printed = [];
      short = omega arith;
      text = sym (laid_none out₀ w₀.used);
      end = omega arith;
      left = ap (λ (k : ℕ). gone (course_in w₀ ss₀) (heard_from w₀.n w₀.channels k s w₀.at)) all;
      left_text = ap (λ (k : ℕ). gone_text (course_in w₀ ss₀) (heard_from w₀.n w₀.channels k s w₀.at)) all;
      offset = offset_none (w₀.done - w₀.done) w₀.n s w₀.at (omega arith);
    }

-- ---- one turn

not_end_refused : (k : ℕ) → End ≡ Refused k → ⊥
not_end_refused k q = let z : ◌≡◌ {A = ℕ} 0 1 = cc in omega arith

same_number : (k i : ℕ) → Refused k ≡ Refused i → k ≡ i
same_number k i q = cc

good_goes : (w : Way) (e : Event) (next : ℕ) (ss : List Station) → GoesOn w next (way_after w (Good e next) ss) × Halts w next (way_after w (Good e next) ss)
unfolding after_read
good_goes w e next ss = event_goes w next e _ _ _

module _ (w : Way) (ss : List Station) (s : List ℕ) (few : length w.wire ≤ 64) (size : length ss ≡ 64) (going : w.number ≡ 0) where
  -- the rest of the records behind the turn are those from its offset on
  abbrev Follows : Read → Type 0
  Follows r =
      (j : ℕ) → let c : Course = course_in (way_after w r ss) (table_in (plan_in w r) ss) in
      (gone (course_in w ss) (heard_from w.n w.channels (suc j) s w.at) ≡ gone c (heard_from w.n w.channels j s (way_after w r ss).at))
      × (gone_text (course_in w ss) (heard_from w.n w.channels (suc j) s w.at) ≡ text_after w r ss ++ gone_text c (heard_from w.n w.channels j s (way_after w r ss).at))

  -- from what was read, and what is left behind it
  follows : (r : Read) (j : ℕ) (rest : List Record) → ((k : ℕ) → r ≡ Refused k → (k ≡ 0 → ⊥)) → heard_from w.n w.channels (suc j) s w.at ≡ records_in r ++ rest
      → Same (course_in (way_after w r ss) (table_in (plan_in w r) ss)) rest (heard_from w.n w.channels j s (way_after w r ss).at)
      → let c : Course = course_in (way_after w r ss) (table_in (plan_in w r) ss) in
      (gone (course_in w ss) (heard_from w.n w.channels (suc j) s w.at) ≡ gone c (heard_from w.n w.channels j s (way_after w r ss).at))
      × (gone_text (course_in w ss) (heard_from w.n w.channels (suc j) s w.at) ≡ text_after w r ss ++ gone_text c (heard_from w.n w.channels j s (way_after w r ss).at))
  follows r j rest numbered e same =
      let c₀ : Course = course_in w ss in
      let turned = record_turn w ss size going few r numbered in (
        ap (gone c₀) e ∙ gone_append c₀ (records_in r) rest ∙ ap (λ (c : Course). gone c rest) (sym turned.0) ∙ same.0,
        ap (gone_text c₀) e
            ∙ text_append c₀ (records_in r) rest
            ∙ ap (λ (t : List ℕ). t ++ gone_text (gone c₀ (records_in r)) rest) (sym turned.1)
            ∙ ap (λ (c : Course). text_after w r ss ++ gone_text c rest) (sym turned.0)
            ∙ ap (λ (t : List ℕ). text_after w r ss ++ t) same.1,
      )

  follows_end : read_record w.n s w.at ≡ End → Follows End
  unfolding after_read
  follows_end q j =
      follows End j [] (λ k z. absurd (not_end_refused k z)) (heard_end w.n s w.at w.channels (suc j) q)
      (same_records _ [] (heard_from w.n w.channels j s w.at) (sym (heard_end w.n s w.at w.channels j q)))

  follows_refused : (k : ℕ) → (k ≡ 0 → ⊥) → read_record w.n s w.at ≡ Refused k → Follows (Refused k)
  unfolding after_read
  follows_refused k o q j =
      follows (Refused k) j [] (λ i z. subst (λ (m : ℕ). m ≡ 0 → ⊥) (same_number k i z) o) (heard_refused w.n s w.at w.channels j k q)
      (same_stopped _ [] (heard_from w.n w.channels j s w.at) o)

  follows_good : (e : Event) (next : ℕ) → ((k : ℕ) → heard_from w.n w.channels (suc k) s w.at ≡ good e ∷ heard_from w.n w.channels k s next) → Follows (Good e next)
  unfolding after_read
  follows_good e next q j =
      follows (Good e next) j (heard_from w.n w.channels j s next) (λ k z. absurd (not_good_refused k e next (sym z))) (q j)
      (go (eqb (way_after w (Good e next) ss).number 0) refl)
    where
      go : (b : Bool) → eqb (way_after w (Good e next) ss).number 0 ≡ b → Same (course_in (way_after w (Good e next) ss) (table_in (plan_in w (Good e next)) ss)) (heard_from w.n w.channels j s next) (heard_from w.n w.channels j s (way_after w (Good e next) ss).at)
      go true z = same_records _ _ _ (ap (heard_from w.n w.channels j s) (sym ((good_goes w e next ss).0 (eqb-true _ _ z)).0))
      go false z = same_stopped _ _ _ (eqb-false _ _ z)

  pub turn_follows : (r : Read) → read_record w.n s w.at ≡ r → Follows (asked_read (heard_in w.n w.channels) r)
  turn_follows End q = follows_end q
  turn_follows (Refused k) q = follows_refused k (refused_is w.n s w.at k q).2 q
  turn_follows (Good e next) q = follows_good (asked (heard_in w.n w.channels) e) next (λ k. heard_good w.n s w.at w.channels k e next q)

-- ---- the turns

module _ (w₀ : Way) (ss₀ : List Station) (s out₀ : List ℕ) (w : Way) (ss : List Station) (out : List ℕ) (u : Under w₀ ss₀ s out₀ w ss out) where
  under_more : goes_on w ≡ true → (w.k < w.most) × (w.number ≡ 0)
  under_more on = (ltb-true _ _ (pick_and on).0, eqb-true _ _ (pick_and on).1)

  under_room : w.k < w.most → w.used + 1440 ≤ length out
  under_room less = omega (arith, less, u.same, u.end, u.short, u.roomy, u.long)

  pub under_ready : goes_on w ≡ true → (w.done < 2 ^ 63) × ((w.k < w.most) × ((w.used + 1440 ≤ length out) × ((plan_in w (asked_read (heard_in w.n w.channels) (read_record w.n s w.at))).place < 64)))
  under_ready on =
      let less : w.k < w.most = (under_more on).0 in (
        omega (arith, less, u.same, u.counted, u.bound),
        (less, (under_room less, place_below w.n s w.at w (heard_in w.n w.channels) (read_record w.n s w.at) refl)),
      )

  -- where the next record begins, and how many are done
  abbrev Behind : Way → Type 0
  Behind w₁ = (w₁.at ≡ offset_behind (w₁.done - w₀.done) w₀.n s w₀.at) × ((w.done ≤ w₁.done) × (w₁.done ≤ w.done + 1))

  behind_good : (e : Event) (next : ℕ) → read_record w.n s w.at ≡ Good e next → (w₁ : Way) → GoesOn w next w₁ × Halts w next w₁ → Behind w₁
  behind_good e next q w₁ g = go (eqb w₁.number 0) refl
    where
      go : (b : Bool) → eqb w₁.number 0 ≡ b → Behind w₁
      go true z =
          let p : (w₁.at ≡ next) × (w₁.done ≡ w.done + 1) = g.0 (eqb-true _ _ z) in
          let one : suc (w.done - w₀.done) ≡ w₁.done - w₀.done = omega (arith, p.1, u.passed) in
          let here : read_record w₀.n s (offset_behind (w.done - w₀.done) w₀.n s w₀.at) ≡ Good e next =
          ap (λ (i : ℕ). read_record w₀.n s i) (sym u.offset) ∙ ap (λ (n : ℕ). read_record n s w.at) (sym u.members) ∙ q in (
            p.0 ∙ sym (offset_more (w.done - w₀.done) w₀.n s w₀.at e next here) ∙ ap (λ (k : ℕ). offset_behind k w₀.n s w₀.at) one,
            (omega (arith, p.1), omega (arith, p.1)),
          )
      go false z =
          let p : (w₁.at ≡ w.at) × (w₁.done ≡ w.done) = g.1 (eqb-false _ _ z) in
          (p.0 ∙ u.offset ∙ ap (λ (d : ℕ). offset_behind (d - w₀.done) w₀.n s w₀.at) (sym p.1), (omega (arith, p.1), omega (arith, p.1)))

  behind : (r : Read) → read_record w.n s w.at ≡ r → Behind (way_after w (asked_read (heard_in w.n w.channels) r) ss)
  unfolding after_read
  behind End q = (u.offset, (omega arith, omega arith))
  behind (Refused k) q = (u.offset, (omega arith, omega arith))
  behind (Good e next) q = behind_good e next q (way_after w (Good (asked (heard_in w.n w.channels) e) next) ss) (good_goes w (asked (heard_in w.n w.channels) e) next ss)

  module _ (on : goes_on w ≡ true) (d : Read) (q : read_record w.n s w.at ≡ d) where
    abbrev r : Read
    r = asked_read (heard_in w.n w.channels) d

    under_step : length (table_in (plan_in w r) ss) ≡ 64 → Under w₀ ss₀ s out₀ (way_after w r ss) (table_in (plan_in w r) ss) (laid out w.used (text_after w r ss))
    under_step size =
        let less : w.k < w.most = (under_more on).0 in
        let lines : List ℕ = text_after w r ss in
        let w₁ : Way = way_after w r ss in
        let m : Moved w lines w₁ = moved_read w u.few r _ _ _ in
        let b : Behind w₁ = behind d q in
        let j : ℕ = w₀.most - w₁.k in
        let f = turn_follows w ss s u.few u.table (under_more on).1 d q j in
        let short : length lines ≤ 1440 = read_short w r _ _ _ (plan_most w r) in
        let one : suc j ≡ w₀.most - w.k = omega (arith, m.next, less, u.same) in
        let both : length (u.printed ++ lines) ≡ length u.printed + length lines = length-append u.printed lines in
        let put = laid_both out₀ out (laid out w.used lines) u.printed lines w₀.used w.used w₁.used (omega (arith, less, u.same, u.short, u.roomy, short)) u.end m.end u.text refl in
        record {
          members = m.members ∙ u.members;
          heard = m.heard ∙ u.heard;
          same = m.same ∙ u.same;
          within = omega (arith, m.next, less, u.same);
          few = m.few;
          table = size;
          passed = omega (arith, b.1.0, u.passed);
          counted = omega (arith, b.1.1, u.counted, m.next);
          bound = u.bound;
          roomy = u.roomy;
          long = length_laid out lines w.used (omega (arith, under_room less, short)) ∙ u.long;
          printed = u.printed ++ lines;
          short = omega (arith, both, short, u.short, m.next);
          text = put.0;
          end = put.1;
          left =
              ap (gone (course_in w₁ (table_in (plan_in w r) ss))) (same_heard w₀.n w.n w₀.channels w.channels (sym u.members) (sym u.heard) j s w₁.at)
              ∙ sym f.0
              ∙ ap (λ (k : ℕ). gone (course_in w ss) (heard_from w.n w.channels k s w.at)) one
              ∙ ap (gone (course_in w ss)) (same_heard w.n w₀.n w.channels w₀.channels u.members u.heard (w₀.most - w.k) s w.at)
              ∙ u.left;
          left_text =
              append_assoc u.printed lines (gone_text (course_in w₁ (table_in (plan_in w r) ss)) (heard_from w₀.n w₀.channels j s w₁.at))
              ∙ ap (λ (l : List Record). u.printed ++ (lines ++ gone_text (course_in w₁ (table_in (plan_in w r) ss)) l)) (same_heard w₀.n w.n w₀.channels w.channels (sym u.members) (sym u.heard) j s w₁.at)
              ∙ ap (λ (t : List ℕ). u.printed ++ t) (sym f.1)
              ∙ ap (λ (k : ℕ). u.printed ++ gone_text (course_in w ss) (heard_from w.n w.channels k s w.at)) one
              ∙ ap (λ (l : List Record). u.printed ++ gone_text (course_in w ss) l) (same_heard w.n w₀.n w.channels w₀.channels u.members u.heard (w₀.most - w.k) s w.at)
              ∙ u.left_text;
          offset = b.0;
        }

    pub under_on : (w₁ : Way) (ss₁ : List Station) (out₁ : List ℕ) → length ss₁ ≡ length ss → w₁ ≡ way_after w r ss → ss₁ ≡ table_in (plan_in w r) ss → out₁ ≡ laid out w.used (text_after w r ss)
        → Under w₀ ss₀ s out₀ w₁ ss₁ out₁
    under_on w₁ ss₁ out₁ size ew es eo =
        subst (λ (x : Way). Under w₀ ss₀ s out₀ x ss₁ out₁) (sym ew)
        (subst (λ (x : List Station). Under w₀ ss₀ s out₀ (way_after w r ss) x out₁) (sym es)
        (subst (λ (x : List ℕ). Under w₀ ss₀ s out₀ (way_after w r ss) (table_in (plan_in w r) ss) x) (sym eo) (under_step (ap length (sym es) ∙ size ∙ u.table))))

    pub under_nearer : (w₁ : Way) → w₁ ≡ way_after w r ss → w₀.most - w₁.k < w₀.most - w.k
    under_nearer w₁ e =
        let less : w.k < w.most = (under_more on).0 in
        let m : Moved w (text_after w r ss) (way_after w r ss) = moved_read w u.few r _ _ _ in
        let k : w₁.k ≡ w.k + 1 = ap (λ (x : Way). x.k) e ∙ m.next in
        omega (arith, less, u.same, k)

  -- no next turn: all are done, or the run has stopped
  ended : gone (course_in w ss) (heard_from w₀.n w₀.channels (w₀.most - w.k) s w.at) ≡ course_in w ss → gone_text (course_in w ss) (heard_from w₀.n w₀.channels (w₀.most - w.k) s w.at) ≡ [] → AllDone w₀ ss₀ s out₀ w ss out
  ended stays silent =
      let whole : u.printed ≡ text_of w₀ ss₀ s = sym (append-nil u.printed) ∙ ap (λ (t : List ℕ). u.printed ++ t) (sym silent) ∙ u.left_text in
      record {
        course = sym stays ∙ u.left;
        offset = u.offset;
        end = u.end ∙ ap (λ (t : List ℕ). w₀.used + length t) whole;
        text = u.text ∙ ap (laid out₀ w₀.used) whole;
      }

  none_left : w₀.most - w.k ≡ 0 → AllDone w₀ ss₀ s out₀ w ss out
  unfolding records_from asked_all gone gone_text
  none_left e =
      ended (ap (λ (k : ℕ). gone (course_in w ss) (heard_from w₀.n w₀.channels k s w.at)) e) (ap (λ (k : ℕ). gone_text (course_in w ss) (heard_from w₀.n w₀.channels k s w.at)) e)

  pub under_all : goes_on w ≡ false → AllDone w₀ ss₀ s out₀ w ss out
  under_all off = go (ltb w.k w.most) refl
    where
      go : (b : Bool) → ltb w.k w.most ≡ b → AllDone w₀ ss₀ s out₀ w ss out
      go true e =
          let o : w.number ≡ 0 → ⊥ = eqb-false _ _ (sym (pick_true (eqb w.number 0) false e) ∙ off) in
          ended (gone_stays (course_in w ss) o _) (gone_silent (course_in w ss) o _)
      go false e = none_left (omega (arith, ltb-false w.k w.most e, u.same, u.within))
