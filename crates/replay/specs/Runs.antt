-- A run: the records of a capture one after the other, until one is refused.
use Rattle.std.specs.Prelude.{Bool, List, [], ◌∷◌, ◌++◌, ℕ, zero, suc, eqb, length}
use Rattle.codec.specs.Ring.{ring_refusal, count, limit, ring_of, listens}
use Rattle.parts.specs.Choose.{pick}
use Rattle.bench.specs.Text.{answer_text}
use Rattle.capture.specs.Record.{capture_number, read_record}
use Rattle.capture.specs.declared.record.Event.{Event}
use Rattle.capture.specs.declared.record.Read.{Read}
use Rattle.capture.specs.declared.record.Read.TheVariants.{End, Refused, Good}
use Rattle.day.specs.Day.{Day, start_day}
use Rattle.day.specs.Listening.{heard_in, asked}
use Rattle.day.specs.Records.{after_record, event_number}
use Rattle.day.specs.Printed.{start_text, record_text, stopped_text, end_text}

-- ---- the records of a capture

-- a record: its event, or the number of its refusal
pub data Record : Type 0 where
  good : Event → Record
  bad : ℕ → Record

-- what was read, and then the records from the next offset on; nothing is read behind a refused one
unfoldable pub read_first : Read → (ℕ → List Record) → List Record
read_first End more = []
read_first (Refused number) more = bad number ∷ []
read_first (Good event next) more = good event ∷ more next

-- at most k records of a ring of n, from an offset on
unfoldable pub records_from : ℕ → ℕ → List ℕ → ℕ → List Record
records_from zero n s at = []
records_from (suc k) n s at = read_first (read_record n s at) (λ (next : ℕ). records_from k n s next)

-- a record has at least one octet
abbrev pub records_of : ℕ → List ℕ → List Record
records_of n s = records_from (length s) n s 0

-- each with what the ring file says of it: who listens on which channel
unfoldable pub asked_all : (ℕ → ℕ → Bool) → List Record → List Record
asked_all hears [] = []
asked_all hears (good event ∷ rs) = good (asked hears event) ∷ asked_all hears rs
asked_all hears (bad number ∷ rs) = bad number ∷ asked_all hears rs

-- at most k of them from an offset on, in a ring of n with these open channels
abbrev pub heard_from : ℕ → List ℕ → ℕ → List ℕ → ℕ → List Record
heard_from n channels k s at = asked_all (heard_in n channels) (records_from k n s at)

-- ---- one after the other

-- a run so far: the day, how many records are done, and 0 or the number of the refusal that has stopped it
pub record Course : Type 0 where
  pub day : Day
  pub done : ℕ
  pub number : ℕ

abbrev pub stopped : Course → ℕ → Course
stopped c number = record { day = c.day; done = c.done; number = number }

abbrev pub went_on : Course → Event → Course
went_on c e = record { day = after_record c.day e; done = suc c.done; number = 0 }

-- the number of a record's refusal: 25, or 36; 0 for none
unfoldable pub record_number : Day → Record → ℕ
record_number d (good e) = event_number d e
record_number d (bad number) = number

abbrev pub effect : Course → Record → Course
effect c (good e) = went_on c e
effect c (bad number) = c

abbrev pub effect_text : Day → Record → List ℕ
effect_text d (good e) = record_text d e
effect_text d (bad number) = []

-- "The run stops before the first refused record."
unfoldable pub turn : Course → Record → Course
turn c r =
    pick (eqb c.number 0)
    (pick (eqb (record_number c.day r) 0) (effect c r) (stopped c (record_number c.day r)))
    c

unfoldable pub turn_text : Course → Record → List ℕ
turn_text c r =
    pick (eqb c.number 0)
    (pick (eqb (record_number c.day r) 0) (effect_text c.day r) (stopped_text (record_number c.day r) c.done))
    []

unfoldable pub gone : Course → List Record → Course
gone c [] = c
gone c (r ∷ rs) = gone (turn c r) rs

unfoldable pub gone_text : Course → List Record → List ℕ
gone_text c [] = []
gone_text c (r ∷ rs) = turn_text c r ++ gone_text (turn c r) rs

-- ---- the whole

abbrev pub begun : Day → Course
begun d = record { day = d; done = 0; number = 0 }

unfoldable pub day_text : Day → List Record → List ℕ
day_text d rs = start_text d ++ (gone_text (begun d) rs ++ end_text (gone (begun d) rs).day)

-- the refusal of the whole: the ring file's, then 24
unfoldable pub refusal : List ℕ → List ℕ → ℕ
refusal file s = pick (eqb (ring_refusal file) 0) (capture_number s) (ring_refusal file)

-- the records of a capture, with what its ring file says of them
abbrev pub records_with : List ℕ → List ℕ → List Record
records_with file s = asked_all (listens (ring_of file)) (records_of (count file) s)

-- what is printed of a ring file and a capture
unfoldable pub output : List ℕ → List ℕ → List ℕ
output file s =
    pick (eqb (refusal file s) 0)
    (day_text (start_day (count file) (limit file)) (records_with file s))
    (answer_text (refusal file s))
