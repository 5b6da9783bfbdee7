-- What the ring file says of a record leaves its kind as it is. Assumes nothing.
use mathlib.Core.Path.{◌≡◌}
use mathlib.Core.Bool.{Bool, true}
use mathlib.Core.List.{List, [], ◌∷◌}
use Prim.Native.Nat.{ℕ}
use Rattle.parts.specs.Choose.{every}
use Rattle.parts.proofs.Laws.Tests.{each, each_none, each_first, each_rest}
use Rattle.capture.specs.declared.record.Event.{Event}
use Rattle.capture.specs.declared.record.Event.TheVariants.{Delivered, LostForAddressee, LostForAll, Timer, Queue}
use Rattle.day.specs.Listening.{asked}
use Rattle.replay.specs.Runs.{Record, good, bad, asked_all}
use Rattle.replay_theorems.specs.FaultFree.{is_fault_free}

one_free : (hears : ℕ → ℕ → Bool) (e : Event) → is_fault_free (good e) ≡ true → is_fault_free (good (asked hears e)) ≡ true
one_free hears Delivered h = h
one_free hears LostForAddressee h = h
one_free hears LostForAll h = h
one_free hears (Timer station) h = h
one_free hears (Queue station q) h = h

pub asked_free : (hears : ℕ → ℕ → Bool) (rs : List Record) → every is_fault_free rs ≡ true → every is_fault_free (asked_all hears rs) ≡ true
unfolding asked_all
asked_free hears [] h = each_none is_fault_free
asked_free hears (good e ∷ rs) h =
    each is_fault_free (good (asked hears e)) (asked_all hears rs) (one_free hears e (each_first is_fault_free (good e) rs h)) (asked_free hears rs (each_rest is_fault_free (good e) rs h))
asked_free hears (bad number ∷ rs) h =
    each is_fault_free (bad number) (asked_all hears rs) (each_first is_fault_free (bad number) rs h) (asked_free hears rs (each_rest is_fault_free (bad number) rs h))
