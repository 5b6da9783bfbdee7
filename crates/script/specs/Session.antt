-- A script's lines, call by call: of a line's steps a call does as many as the out buffer has room for, and says how many are left.
use Rattle.std.specs.Prelude.{Bool, List, [], ℕ, ◌+◌, ◌-◌, leb, length, Option, Some, None}
use Rattle.parts.specs.Choose.{pick}
use Rattle.bench.specs.Running.{fitting}
use Rattle.script.specs.Script.{Session, does, prints}
use Rattle.script.specs.declared.lines.Line.{Line}
use Rattle.script.specs.declared.lines.Line.TheVariants.{Ring, Queue, Step}
use Rattle.script.specs.declared.session.Acted.{Acted}

-- whether a call has room for all that it prints at once, steps apart
abbrev pub roomy : ℕ → Bool
roomy room = leb 64 room

-- of a line what is done at once: of its steps those that there is room for
unfoldable pub cut : Option Line → ℕ → Option Line
cut None room = None
cut (Some (Ring n)) room = Some (Ring n)
cut (Some (Queue from q)) room = Some (Queue from q)
cut (Some (Step count)) room = Some (Step (fitting count room))

-- and how many steps are left
unfoldable pub left_of : Session → Option Line → ℕ → ℕ
left_of None l room = 0
left_of (Some b) None room = 0
left_of (Some b) (Some (Ring n)) room = 0
left_of (Some b) (Some (Queue from q)) room = 0
left_of (Some b) (Some (Step count)) room = count - fitting count room

abbrev pub acted_by : List ℕ → ℕ → ℕ → Acted
acted_by text at left = record { used = at + length text; left = left }

-- for want of room nothing is done
unfoldable pub obeyed : Session → Option Line → ℕ → ℕ → Option Acted
obeyed s l room at = pick (roomy room) (Some (acted_by (prints s (cut l room)) at (left_of s l room))) None

unfoldable pub session_after : Session → Option Line → ℕ → Session
session_after s l room = pick (roomy room) (does s (cut l room)) s

unfoldable pub obeyed_text : Session → Option Line → ℕ → List ℕ
obeyed_text s l room = pick (roomy room) (prints s (cut l room)) []
