-- Laws of the store's places. Assumes nothing.
use mathlib.Core.Path.{◌≡◌}
use mathlib.Core.Bool.{true}
use Prim.Native.Nat.{ℕ, ◌<◌, ◌≤◌}
use borrow.Author.Tests.{ltb-true, leb-true, eqb-true}
use Rattle.parts.proofs.Laws.Tests.{held}
use Rattle.records.specs.Layout.{place_length, store_length}
use Rattle.driver_buffers.specs.Places.{fits_place}

-- what it says that octets have room in a place
pub record Fits (store place n : ℕ) : Type 0 where
  pub sized : store ≡ store_length
  pub within : place < 32
  pub short : n ≤ place_length

pub fits_sound : (store place n : ℕ) → fits_place store place n ≡ true → Fits store place n
unfolding fits_place
fits_sound store place n e =
    let h = held _ e in
    record { sized = eqb-true _ _ h.0; within = ltb-true _ _ h.1.0; short = leb-true _ _ h.1.1.0 }
