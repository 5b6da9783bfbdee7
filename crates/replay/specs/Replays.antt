-- What the program calls: how a course begins, and how far one call takes it.
use Rattle.std.specs.Prelude.{◌≡◌, Bool, true, false, List, ℕ, ◌+◌, ◌-◌, ◌/◌, ◌^◌, ltb, eqb, length}
use Rattle.codec.specs.Octets.{laid, zeros}
use Rattle.codec.specs.Ring.{count, limit, ring_of}
use Rattle.parts.specs.Choose.{pick}
use Rattle.capture.specs.Record.{read_record}
use Rattle.capture.specs.declared.record.Read.{Read}
use Rattle.capture.specs.declared.record.Read.TheVariants.{End, Refused, Good}
use Rattle.day.specs.Day.{start_day}
use Rattle.replay.specs.Runs.{Record, heard_from, Course, gone, gone_text, begun, refusal}
use Rattle.replay.specs.Running.{longest, offset_behind}
use Rattle.day.specs.Wire.{flying_of}
use Rattle.replay.specs.declared.run.Replay.{Replay}
use Rattle.replay.specs.declared.run.Ran.{Ran}

abbrev pub course_of : Replay → Course
course_of r = record { day = record { n = r.n; stations = r.stations; wire = flying_of r.wire }; done = r.done; number = r.number }

-- what a ring file and a capture begin; where they are refused, a ring of none
abbrev pub begun_by : List ℕ → List ℕ → Course
begun_by file s = pick (eqb (refusal file s) 0) (begun (start_day (count file) (limit file))) (begun (start_day 0 0))

-- and with which open channels
abbrev pub open_by : List ℕ → List ℕ → List ℕ
open_by file s = pick (eqb (refusal file s) 0) (ring_of file).channels (zeros 64)

abbrev pub is_end : Read → Bool
is_end End = true
is_end (Refused number) = false
is_end (Good event next) = false

-- it has stopped, or no record is left
abbrev pub is_over : Replay → List ℕ → Bool
is_over r s = pick (eqb r.number 0) (is_end (read_record r.n s r.at)) true

-- how many records go into `room` octets for sure, as far as they can be counted
unfoldable pub turns_in : ℕ → ℕ → ℕ
turns_in room done = pick (ltb (room / longest) (2 ^ 63 - done)) (room / longest) (2 ^ 63 - done)

-- the records of one call
abbrev pub records_now : Replay → List ℕ → ℕ → List Record
records_now r s room = heard_from r.n r.channels (turns_in room r.done) s r.at

-- what one call leaves and prints
pub record RanFrom (r : Replay) (s out₀ : List ℕ) (at : ℕ) (a : Ran) (out : List ℕ) : Type 0 where
  pub course : course_of a.replay ≡ gone (course_of r) (records_now r s (length out₀ - at))
  pub same_channels : a.replay.channels ≡ r.channels
  pub offset : a.replay.at ≡ offset_behind (a.replay.done - r.done) r.n s r.at
  pub end : a.used ≡ at + length (gone_text (course_of r) (records_now r s (length out₀ - at)))
  pub text : out ≡ laid out₀ at (gone_text (course_of r) (records_now r s (length out₀ - at)))
