-- Who newly strikes at a frame that is handed round.
use Rattle.std.specs.Prelude.{Bool, true, false, List, [], ◌++◌, ℕ, zero, suc, leb, eqb, get_or, replicate, set, Option, None, Some}
use Rattle.parts.specs.Choose.{pick}
use Rattle.parts.specs.Live.{live_at}
use Rattle.parts.specs.Frames.{failing_of, Dispatch}
use Rattle.parts.specs.Moves.{move_of, runs}
use Rattle.parts.specs.declared.moves.Event.TheVariants.{Heard}
use Rattle.station.specs.Stations.{state_of}
use Rattle.station.specs.Heard.{checks}
use Rattle.parts.specs.declared.live.Live.{Live}
use Rattle.station.specs.declared.station.Station.{Station}
use Rattle.bench.specs.Ring.{nobody}
use Rattle.bench.specs.Rows.{row_on}
use Rattle.bench.specs.Text.{rows_text}
use Rattle.bench.specs.Delivery.{handed}
use Rattle.bench.specs.Table.{hears}
use Rattle.bench.specs.declared.table.Handing.{Handing}
use Rattle.day.specs.Printed.{struck_text}
use Rattle.day.specs.declared.strikes.Taken.{Taken}

abbrev pub is_member : Option ℕ → Bool
is_member None = false
is_member (Some p) = true

-- whether the station at p hears what is handed round and does not refuse it
unfoldable pub heeds : Station → ℕ → Handing → Bool
heeds s p h =
    pick (leb h.n p)
    false
    (pick (hears h p) (pick (eqb (move_of (state_of s) Heard) runs) (eqb (checks s h.from h.to) 0) false) false)

-- whether the station at p newly strikes the failing station of what is handed round
unfoldable pub strikes_by : Station → ℕ → Handing → Bool
strikes_by s p h = is_member (handed h.n (hears h) h.frame h.from h.to p s).struck

abbrev pub strikes_at : List Station → Handing → ℕ → Bool
strikes_at ss h p = strikes_by (get_or ss p nobody) p h

-- how many records may strike: a frame that names no failing station is not asked about
unfoldable pub span : Handing → ℕ
span h = pick h.quiet 0 h.m

abbrev pub no_strikers : Live
no_strikers = record { on = replicate 64 false }

-- one position marked, or not
abbrev pub marked : Live → ℕ → Bool → Live
marked l p b = record { on = set l.on p b }

-- the strikers among the first k records, marked in a set
unfoldable pub strikers_of : Live → ℕ → List Station → Handing → Live
strikers_of l zero ss h = l
strikers_of l (suc k) ss h = marked (strikers_of l k ss h) k (strikes_at ss h k)

-- the line of a station that is marked
abbrev pub mark_text : Live → Option ℕ → ℕ → List ℕ
mark_text l w p = pick (live_at l p) (struck_text w p) []

-- the lines of those that are marked, of k positions from p on
unfoldable pub marks_text : Live → Option ℕ → ℕ → ℕ → List ℕ
marks_text l w zero p = []
marks_text l w (suc k) p = mark_text l w p ++ marks_text l w k (suc p)

abbrev pub strikers_text : Handing → Live → List ℕ
strikers_text h l = marks_text l (failing_of h.frame) (span h) 0

-- ---- and its lines

-- the lines of a frame record: who struck, and the addressee's new frame
abbrev pub taken_text : Handing → Taken → List ℕ
taken_text h t = strikers_text h t.strikers ++ rows_text (row_on h.to t.reply)

abbrev pub taken_of : Live → Dispatch → Taken
taken_of strikers reply = record { strikers = strikers; reply = reply }
