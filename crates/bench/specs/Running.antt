-- Many steps in one call, with what they print: as many as the out buffer has room for.
use Rattle.std.specs.Prelude.{List, ℕ, ◌+◌, ◌/◌, ltb, length}
use Rattle.parts.specs.Choose.{pick}
use Rattle.bench.specs.Delivery.{steps}
use Rattle.bench.specs.Runs.{frames, stepping}
use Rattle.bench.specs.Text.{rows_text}
use Rattle.bench.specs.declared.ring.Bench.{Bench}
use Rattle.bench.specs.declared.running.Ran.{Ran}

-- no line is longer
abbrev pub longest : ℕ
longest = 32

-- how many of `count` lines go into `room` octets for sure
unfoldable pub fitting : ℕ → ℕ → ℕ
fitting count room = pick (ltb (room / longest) count) (room / longest) count

-- what k steps print
unfoldable pub steps_text : ℕ → Bench → List ℕ
steps_text k b = rows_text (frames b (stepping k))

abbrev pub ran : Bench → ℕ → ℕ → Ran
ran b k at = record { bench = steps k b; used = at + length (steps_text k b); done = k }
