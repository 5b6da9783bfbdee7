-- "The run stops before the first refused record."
use Rattle.std.specs.Prelude.{◌≡◌, List, ◌∷◌, ◌++◌, length}
use Rattle.day.specs.Day.{Day}
use Rattle.day.specs.Printed.{start_text, stopped_text, end_text}
use Rattle.replay.specs.Runs.{Record, record_number, gone, gone_text, begun, day_text}

-- a run of the records that stops: it leaves what the run of those before the refused one leaves, and prints what that prints and the
-- stop line: the number, and how many were done
pub record Stops (d : Day) (rs : List Record) : Type 0 where
  pub before : List Record
  pub refused : Record
  pub rest : List Record
  pub splits : rs ≡ before ++ (refused ∷ rest)
  pub none_before : (gone (begun d) before).number ≡ 0
  pub its_number : record_number (gone (begun d) before).day refused ≡ (gone (begun d) rs).number
  pub leaves : (gone (begun d) rs).day ≡ (gone (begun d) before).day
  pub done : (gone (begun d) rs).done ≡ length before
  pub before_prints : day_text d before ≡ start_text d ++ (gone_text (begun d) before ++ end_text (gone (begun d) before).day)
  pub prints : day_text d rs
      ≡ start_text d ++ (gone_text (begun d) before ++ (stopped_text (gone (begun d) rs).number (length before) ++ end_text (gone (begun d) before).day))
