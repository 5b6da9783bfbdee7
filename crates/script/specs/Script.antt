-- What a script does and prints, line by line.
use Rattle.std.specs.Prelude.{Bool, List, [], ◌∷◌, ◌++◌, ℕ, Option, Some, None}
use Rattle.std.specs.Int.{is_in_range}
use Rattle.parts.specs.Choose.{pick}
use Rattle.bench.specs.Ring.{ring_of}
use Rattle.bench.specs.Delivery.{steps}
use Rattle.bench.specs.Calls.{queue}
use Rattle.bench.specs.Rows.{rows_on}
use Rattle.bench.specs.Runs.{frames, stepping}
use Rattle.bench.specs.Text.{rows_text, heading, bad_line, answer_text}
use Rattle.script.specs.Lines.{line_of, lines_of}
use Rattle.bench.specs.declared.ring.Bench.{Bench}
use Rattle.script.specs.declared.lines.Line.{Line}
use Rattle.script.specs.declared.lines.Line.TheVariants.{Ring, Queue, Step}

-- the bench of the ring that there is
abbrev pub Session : Type 0
Session = Option Bench

abbrev pub unbegun : Session
unbegun = None

abbrev pub on_bench : Bench → Session
on_bench b = Some b

-- an N of 2 to 64
unfoldable pub opens : ℕ → Bool
opens n = is_in_range 2 64 n

abbrev pub ring_text : ℕ → List ℕ
ring_text n = heading ++ rows_text (rows_on (ring_of n).wire)

-- a ring begins where there is none, and queue calls and steps go to the one that there is
unfoldable pub does : Session → Option Line → Session
does None None = None
does None (Some (Ring n)) = pick (opens n) (on_bench (ring_of n)) None
does None (Some (Queue from q)) = None
does None (Some (Step count)) = None
does (Some b) None = on_bench b
does (Some b) (Some (Ring n)) = on_bench b
does (Some b) (Some (Queue from q)) = on_bench (queue b from q).bench
does (Some b) (Some (Step count)) = on_bench (steps count b)

-- "an accepted `ring` prints the heading and frame 0; a refused queue prints `refused` and the number; every frame prints a line"
unfoldable pub prints : Session → Option Line → List ℕ
prints None None = bad_line
prints None (Some (Ring n)) = pick (opens n) (ring_text n) bad_line
prints None (Some (Queue from q)) = bad_line
prints None (Some (Step count)) = bad_line
prints (Some b) None = bad_line
prints (Some b) (Some (Ring n)) = bad_line
prints (Some b) (Some (Queue from q)) = answer_text (queue b from q).number
prints (Some b) (Some (Step count)) = rows_text (frames b (stepping count))

unfoldable pub printed : Session → List (List ℕ) → List ℕ
printed s [] = []
printed s (l ∷ ls) = prints s (line_of l) ++ printed (does s (line_of l)) ls

-- the whole input's output
unfoldable pub output : List ℕ → List ℕ
output input = printed unbegun (lines_of input)
