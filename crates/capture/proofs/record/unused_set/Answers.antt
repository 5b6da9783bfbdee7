-- `record::unused_set` meets its contract: the station is looked at last, the other fields before it.
use mathlib.Core.Path.{◌≡◌, sym, ◌∙◌}
use mathlib.Core.Bool.{Bool, true, false, ◌&&◌, ◌||◌, or-true, or-false, and-false}
use Prim.Native.Nat.{ℕ, ◌≤◌, ◌<◌}
use native.Mathlib.Omega.{arith}
use lib.Dec.{ltb}
use borrow.Author.Tests.{lt-ltb, le-ltb}
use Rattle.capture.proofs.record.unused_set.Goals as goal

-- a queue uses all fields
all_used : (kind : ℕ) (s q : Bool) → 4 ≤ kind → false ≡ ((ltb kind 3 && s) || (ltb kind 4 && q))
all_used kind s q h = rw (le-ltb kind 3 (omega arith), le-ltb kind 4 h)

-- no other kind uses those of a queue
queue_field : (kind : ℕ) (s : Bool) (q : Bool) → kind < 4 → q ≡ true → true ≡ ((ltb kind 3 && s) || (ltb kind 4 && q))
queue_field kind s q h e = rw (lt-ltb kind 4 h, e) (sym (or-true (ltb kind 3 && s)))

-- a timer uses the station
station_used : (kind : ℕ) (s q : Bool) → 3 ≤ kind → q ≡ false → false ≡ ((ltb kind 3 && s) || (ltb kind 4 && q))
station_used kind s q h e = rw (le-ltb kind 3 h, e) (sym (and-false (ltb kind 4)))

-- a frame does not
station_unused : (kind : ℕ) (s q : Bool) → kind < 3 → q ≡ false → s ≡ ((ltb kind 3 && s) || (ltb kind 4 && q))
station_unused kind s q h e = rw (lt-ltb kind 3 h, lt-ltb kind 4 (omega arith), e) (sym (or-false s))

pub returns-then-f-ge4 : goal.returns-then-f-ge4
returns-then-f-ge4 c = all_used _ _ _ c.if-f-ge4.true

pub returns-then-queue_field_set : goal.returns-then-queue_field_set
returns-then-queue_field_set c = queue_field _ _ _ c.if-f-ge4.false (sym c.queue_field_set.ensures ∙ c.if-queue_field_set.true)

pub returns-then-f-ge3 : goal.returns-then-f-ge3
returns-then-f-ge3 c =
    station_used _ _ _ c.if-f-ge3.true (sym c.queue_field_set.ensures ∙ c.if-queue_field_set.false)

pub returns : goal.returns
returns c =
    station_unused _ _ _ c.if-f-ge3.false (sym c.queue_field_set.ensures ∙ c.if-queue_field_set.false)
