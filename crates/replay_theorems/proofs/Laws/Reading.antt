-- The records of a capture are read: each is in range, or refused with 25. Assumes nothing.
use mathlib.Core.Path.{◌≡◌, refl}
use mathlib.Core.Bool.{Bool}
use mathlib.Core.List.{List, [], ◌∷◌}
use Prim.Native.Nat.{ℕ, zero, suc}
use lib.ListN.{length}
use Rattle.capture.specs.Record.{read_record, EventFits}
use Rattle.capture.specs.declared.record.Event.{Event}
use Rattle.capture.specs.declared.record.Event.TheVariants.{Delivered, LostForAddressee, LostForAll, Timer, Queue}
use Rattle.capture.specs.declared.record.Read.{Read}
use Rattle.capture.specs.declared.record.Read.TheVariants.{End, Refused, Good}
use Rattle.capture.proofs.Theorems.ReadWrite.{read_fits}
use Rattle.capture.proofs.Theorems.Numbers.{refused_25}
use Rattle.day.specs.Listening.{asked}
use Rattle.replay.specs.Runs.{Record, good, bad, read_first, records_from, records_of, asked_all}
use Rattle.replay_theorems.specs.Read.{AllRead}

first_read : (n : ℕ) (s : List ℕ) (at : ℕ) (r : Read) → read_record n s at ≡ r → (more : ℕ → List Record) → ((next : ℕ) → AllRead n (more next))
    → AllRead n (read_first r more)
unfolding read_first
first_read n s at End e more h = tt
first_read n s at (Refused k) e more h = (refused_25 n s at k e, tt)
first_read n s at (Good event next) e more h = (read_fits n s at event next e, h next)

from_read : (k n : ℕ) (s : List ℕ) (at : ℕ) → AllRead n (records_from k n s at)
unfolding records_from
from_read zero n s at = tt
from_read (suc k) n s at = first_read n s at (read_record n s at) refl (λ (next : ℕ). records_from k n s next) (λ next. from_read k n s next)

pub all_read : (n : ℕ) (s : List ℕ) → AllRead n (records_of n s)
all_read n s = from_read (length s) n s 0

-- and so they are with what the ring file says of them
asked_fits : (n : ℕ) (hears : ℕ → ℕ → Bool) (e : Event) → EventFits n e → EventFits n (asked hears e)
asked_fits n hears Delivered h = h
asked_fits n hears LostForAddressee h = h
asked_fits n hears LostForAll h = h
asked_fits n hears (Timer station) h = h
asked_fits n hears (Queue station q) h =
    record { station_in = h.station_in; to_in = h.to_in; priority_fits = h.priority_fits; channel_fits = h.channel_fits; length_fits = h.length_fits }

asked_read_lem : (n : ℕ) (hears : ℕ → ℕ → Bool) (rs : List Record) → AllRead n rs → AllRead n (asked_all hears rs)
unfolding asked_all
asked_read_lem n hears [] h = tt
asked_read_lem n hears (good e ∷ rs) h = (asked_fits n hears e h.0, asked_read_lem n hears rs h.1)
asked_read_lem n hears (bad number ∷ rs) h = (h.0, asked_read_lem n hears rs h.1)

pub all_asked : (n : ℕ) (hears : ℕ → ℕ → Bool) (s : List ℕ) → AllRead n (asked_all hears (records_of n s))
all_asked n hears s = asked_read_lem n hears (records_of n s) (all_read n s)
