-- A line that is obeyed in several calls: each does of its steps as many as there is room for, and `step` with those that are left does
-- and prints the rest.
use Rattle.std.specs.Prelude.{◌≡◌, ◌++◌, ℕ, ◌<◌, Option, Some}
use Rattle.script.specs.Script.{Session, does, prints}
use Rattle.script.specs.Session.{cut, left_of}
use Rattle.script.specs.declared.lines.Line.{Line}
use Rattle.script.specs.declared.lines.Line.TheVariants.{Step}

pub record InParts (s : Session) (l : Option Line) (room : ℕ) : Type 0 where
  -- with no steps left the line is done
  pub whole : left_of s l room ≡ 0 → (does s (cut l room) ≡ does s l) × (prints s (cut l room) ≡ prints s l)
  -- else those that are left do the rest
  pub rest : 0 < left_of s l room
      → (does (does s (cut l room)) (Some (Step (left_of s l room))) ≡ does s l)
      × (prints s (cut l room) ++ prints (does s (cut l room)) (Some (Step (left_of s l room))) ≡ prints s l)
