-- A ring file and a capture that are not refused: what is printed of them.
use Rattle.std.specs.Prelude.{◌≡◌, List, ◌++◌, ℕ, ◌≤◌}
use Rattle.codec.specs.Ring.{count, limit}
use Rattle.day.specs.Day.{Day, start_day}
use Rattle.day.specs.Printed.{start_text, end_text}
use Rattle.replay.specs.Runs.{Course, gone, begun, records_with, output}
use Rattle.replay_theorems.specs.Lines.{lines_text, run_lines}

-- the day as it begins, and as the capture leaves it
abbrev pub day_of : List ℕ → Day
day_of file = start_day (count file) (limit file)

abbrev pub course_of : List ℕ → List ℕ → Course
course_of file s = gone (begun (day_of file)) (records_with file s)

-- N is 2 to 64 and R 1 to 15; the heading and the first frame, the lines of the run, and the end are printed
pub record Printed (file s : List ℕ) : Type 0 where
  pub some_members : 2 ≤ count file
  pub most_members : count file ≤ 64
  pub some_retry : 1 ≤ limit file
  pub most_retries : limit file ≤ 15
  pub prints : output file s
      ≡ start_text (day_of file) ++ (lines_text (run_lines (begun (day_of file)) (records_with file s)) ++ end_text (course_of file s).day)
