-- A run over the octets of a capture: its turns, and what they leave and print.
use Rattle.std.specs.Prelude.{◌≡◌, List, ℕ, zero, suc, ◌+◌, ◌*◌, ◌-◌, ◌^◌, ◌≤◌, length}
use Rattle.codec.specs.Octets.{laid}
use Rattle.station.specs.declared.station.Station.{Station}
use Rattle.capture.specs.Record.{read_record}
use Rattle.capture.specs.declared.record.Read.{Read}
use Rattle.capture.specs.declared.record.Read.TheVariants.{End, Refused, Good}
use Rattle.day.specs.Day.{most_frames}
use Rattle.replay.specs.Runs.{Record, heard_from, Course, gone, gone_text}
use Rattle.replay.specs.Table.{Way, course_in}
use Rattle.replay.specs.declared.going.Going.{Going}

-- ---- the offset of the next record

-- an event says where the next record begins
unfoldable pub next_offset : ℕ → Read → (ℕ → ℕ) → ℕ
next_offset at End more = at
next_offset at (Refused number) more = at
next_offset at (Good event next) more = more next

-- the offset behind k records of a ring of n, from an offset on
unfoldable pub offset_behind : ℕ → ℕ → List ℕ → ℕ → ℕ
offset_behind zero n s at = at
offset_behind (suc k) n s at = next_offset at (read_record n s at) (λ (next : ℕ). offset_behind k n s next)

-- ---- a run's turns

-- the octets that no record's lines pass: 64 strikes and a frame
abbrev pub longest : ℕ
longest = 1440

-- with a record in hand
abbrev pub reading : Going → Read → Going
reading g read =
    record {
      n = g.n;
      channels = g.channels;
      wire = g.wire;
      at = g.at;
      done = g.done;
      number = g.number;
      used = g.used;
      most = g.most;
      k = g.k;
      read = read;
    }

-- no turn is done, there is room for what all of them print, and they can be counted
pub record Begins (w : Way) (room : ℕ) : Type 0 where
  pub none : w.k ≡ 0
  pub counted : w.most ≤ 2 ^ 63 - w.done
  pub roomy : longest * w.most ≤ room - w.used
  pub few : length w.wire ≤ most_frames

-- the records of its turns
abbrev pub records_for : Way → List ℕ → List Record
records_for w s = heard_from w.n w.channels w.most s w.at

-- what they leave, and what they print
abbrev pub course_after : Way → List Station → List ℕ → Course
course_after w ss s = gone (course_in w ss) (records_for w s)

abbrev pub text_of : Way → List Station → List ℕ → List ℕ
text_of w ss s = gone_text (course_in w ss) (records_for w s)

-- the way, the table and the octets once all its turns are done
pub record AllDone (w₀ : Way) (ss₀ : List Station) (s out₀ : List ℕ) (w : Way) (ss : List Station) (out : List ℕ) : Type 0 where
  pub course : course_in w ss ≡ course_after w₀ ss₀ s
  pub offset : w.at ≡ offset_behind (w.done - w₀.done) w₀.n s w₀.at
  pub end : w.used ≡ w₀.used + length (text_of w₀ ss₀ s)
  pub text : out ≡ laid out₀ w₀.used (text_of w₀ ss₀ s)
