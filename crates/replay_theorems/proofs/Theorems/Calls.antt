-- What the program prints: of a ring file and a capture that are not refused, the beginning, what its calls write until the run is over, and the end are
-- the output, however many calls there are and however much room each has. Assumes nothing.
use mathlib.Core.Path.{◌≡◌, refl, sym, ap, subst, ◌∙◌}
use mathlib.Core.Bool.{true}
use mathlib.Core.List.{List, ◌++◌, append-nil}
use Prim.Native.Nat.{ℕ, zero, suc, ◌+◌, ◌-◌, ◌≤◌}
use native.Mathlib.Nat.{add_comm}
use native.Mathlib.Omega.{arith}
use lib.ListN.{length, get_or, take, drop, length-append}
use lib.Seq.{length-take-le, drop-cons}
use borrow.Author.Tests.{eq-eqb, ne_eqb}
use Rattle.codec.specs.Ring.{count, limit, ring_of, listens}
use Rattle.parts.specs.Live.{seats}
use Rattle.parts.proofs.Laws.Choose.{pick_true, pick_false}
use Rattle.parts.proofs.Laws.Live.{seats_most}
use Rattle.station.specs.declared.station.Station.{Station}
use Rattle.bench.specs.Ring.{nobody}
use Rattle.bench.specs.Text.{answer_text}
use Rattle.day.specs.Day.{Day}
use Rattle.day.specs.Listening.{heard_in}
use Rattle.day.specs.Printed.{start_text, end_heading, station_text, stations_text, end_text}
use Rattle.replay.specs.Runs.{Record, records_of, asked_all, heard_from, records_with, Course, gone, gone_text, begun, day_text, refusal, output}
use Rattle.replay.specs.Replays.{course_of, is_over, records_now, RanFrom}
use Rattle.replay.specs.declared.run.Replay.{Replay}
use Rattle.replay.specs.declared.run.Ran.{Ran}
use Rattle.replay.proofs.Laws.Running.{same_heard}
use Rattle.replay.proofs.Theorems.Calls.{over_all}
use Rattle.replay_theorems.specs.WholeDay.{WholeDay}
use Rattle.replay_theorems.specs.EveryCapture.{day_of}
use Rattle.replay_theorems.specs.Calls.{BegunFrom, RunCall, CallsFrom, left_by, written_by, station_lines}
use Rattle.replay_theorems.proofs.Laws.Beginning.{start_whole_day}
use Rattle.replay_theorems.proofs.Laws.Offsets.{records_enough}
use Rattle.replay_theorems.proofs.Laws.Calling.{turns_by, calls_whole, calls_channels, calls_join}
use Rattle.replay_theorems.proofs.Theorems.EveryCapture.{output_is, every_capture}

-- ---- a call's octets stand in its out buffer

pub call_fits : (r : Replay) (s out₀ : List ℕ) (at : ℕ) (a : Ran) (out : List ℕ) → RanFrom r s out₀ at a out → at ≤ length out₀ → a.used ≤ length out
call_fits r s out₀ at a out h inside =
    let x : List ℕ = gone_text (course_of r) (records_now r s (length out₀ - at)) in
    let rest : List ℕ = drop (at + length x) out₀ in
    omega (
      arith,
      h.end,
      ap length h.text,
      length-append (take at out₀) (x ++ rest),
      length-append x rest,
      length-take-le at out₀ inside,
    )

-- ---- the stations one by one

lines_from : (r : Replay) (k p : ℕ) → p + k ≤ length r.stations → station_lines r k p ≡ stations_text r.n p (take k (drop p r.stations))
unfolding station_lines stations_text
lines_from r zero p h = refl
lines_from r (suc k) p h =
    ap (λ (t : List ℕ). station_text r.n p (get_or r.stations p nobody) ++ t) (lines_from r k (suc p) (omega arith))
    ∙ ap (λ (ss : List Station). stations_text r.n p (take (suc k) ss)) (sym (drop-cons r.stations p nobody (omega arith)))

pub stations_print : (r : Replay) → length r.stations ≡ 64 → end_heading ++ station_lines r (seats r.n) 0 ≡ end_text (course_of r).day
unfolding end_text
stations_print r size = ap (λ (t : List ℕ). end_heading ++ t) (lines_from r (seats r.n) 0 (omega (arith, size, seats_most r.n)))

-- ---- a refusal of the whole

pub refusal_prints : (file s : List ℕ) → (refusal file s ≡ 0 → ⊥) → answer_text (refusal file s) ≡ output file s
unfolding output
refusal_prints file s o = sym (pick_false _ _ (ne_eqb _ _ o))

-- ---- what the ring file says of the records

who_listens : (file : List ℕ) (p channel : ℕ) → heard_in (count file) (ring_of file).channels p channel ≡ listens (ring_of file) p channel
unfolding listens ring_of
who_listens file p channel = refl

heard_with : (file : List ℕ) (rs : List Record) → asked_all (heard_in (count file) (ring_of file).channels) rs ≡ asked_all (listens (ring_of file)) rs
heard_with file rs = λ i. asked_all (λ (p channel : ℕ). who_listens file p channel i) rs

-- ---- a day

-- of a course that has begun
day_text_lem : (c : Course) (d : Day) (rs : List Record) (t : List ℕ) (e : Course) → c ≡ begun d → e ≡ gone c rs → t ≡ gone_text c rs
    → start_text c.day ++ (t ++ end_text e.day) ≡ day_text d rs
unfolding day_text
day_text_lem c d rs t e b l w = rw (w, l, b) refl

module _ (file s : List ℕ) (good : refusal file s ≡ 0) (r : Replay) (b : BegunFrom file s r) (cs : List RunCall) (h : CallsFrom r s cs) where
  abbrev n : ℕ
  n = count file

  abbrev e : Replay
  e = left_by r cs

  first_course : course_of r ≡ begun (day_of file)
  first_course = b.course ∙ pick_true _ _ (eq-eqb _ _ good)

  first_whole : WholeDay n (limit file) (course_of r).day
  first_whole =
      let p = every_capture file s good in
      subst (λ (c : Course). WholeDay n (limit file) c.day) (sym first_course)
      (start_whole_day n (limit file) p.some_members p.most_members p.some_retry p.most_retries)

  left_whole : WholeDay n (limit file) (course_of e).day
  left_whole = calls_whole n (limit file) (every_capture file s good).most_members s cs r h first_whole

  first_channels : r.channels ≡ (ring_of file).channels
  first_channels = b.open_channels ∙ pick_true _ _ (eq-eqb _ _ good)

  -- as many records as there are octets, and more, are all of them
  all_records : heard_from n (ring_of file).channels (turns_by r cs + length s) s r.at ≡ records_with file s
  all_records =
      ap (heard_from n (ring_of file).channels (turns_by r cs + length s) s) b.first
      ∙ ap (λ (k : ℕ). heard_from n (ring_of file).channels k s 0) (add_comm (turns_by r cs) (length s))
      ∙ ap (asked_all (heard_in n (ring_of file).channels)) (records_enough n s (length s) (turns_by r cs) 0 (omega arith))
      ∙ heard_with file (records_of n s)

  pub calls_print : is_over e s ≡ true → start_text (course_of r).day ++ (written_by cs ++ end_text (course_of e).day) ≡ output file s
  calls_print ends =
      let all = calls_join n (limit file) (every_capture file s good).most_members (ring_of file).channels s cs r h first_whole first_channels (length s) in
      let none = over_all e s ends (length s) in
      let same : heard_from n (ring_of file).channels (length s) s e.at ≡ heard_from e.n e.channels (length s) s e.at =
      same_heard n e.n (ring_of file).channels e.channels (sym left_whole.size) (sym (calls_channels s cs r h ∙ first_channels)) (length s) s e.at in
      let leaves : course_of e ≡ gone (course_of r) (records_with file s) =
      sym (ap (gone (course_of r)) (sym all_records) ∙ all.0 ∙ ap (gone (course_of e)) same ∙ none.0) in
      let writes : written_by cs ≡ gone_text (course_of r) (records_with file s) =
      sym (append-nil (written_by cs))
      ∙ sym (ap (gone_text (course_of r)) (sym all_records) ∙ all.1 ∙ ap (λ (t : List ℕ). written_by cs ++ t) (ap (gone_text (course_of e)) same ∙ none.1)) in
      day_text_lem (course_of r) (day_of file) (records_with file s) (written_by cs) (course_of e) first_course leaves writes ∙ sym (output_is file s good)
