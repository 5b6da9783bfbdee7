-- `places::in_place` meets its contract.
use mathlib.Core.Path.{sym, ◌∙◌}
use Prim.Native.Nat.{◌*◌}
use native.Mathlib.Nat.{add-sub_cancel_left}
use native.Mathlib.Omega.{arith}
use Rattle.parts.specs.Choose.{pick}
use Rattle.driver_buffers.specs.Places.{in_place}
use Rattle.driver_buffers.proofs.Laws.Places.{fits_sound}
use Rattle.driver_buffers.proofs.places.in_place.Goals as goal

pub overflow_mul-at : goal.overflow_mul-at
overflow_mul-at c = omega (arith, (fits_sound _ _ _ (sym c.fits_place.ensures ∙ c.if-fits_place.true)).within)

pub overflow_add-end : goal.overflow_add-end
overflow_add-end c = omega (arith, (fits_sound _ _ _ (sym c.fits_place.ensures ∙ c.if-fits_place.true)).within, (fits_sound _ _ _ (sym c.fits_place.ensures ∙ c.if-fits_place.true)).short)

pub slice_bounds-result-end : goal.slice_bounds-result-end
slice_bounds-result-end c = omega (arith, (fits_sound _ _ _ (sym c.fits_place.ensures ∙ c.if-fits_place.true)).within, (fits_sound _ _ _ (sym c.fits_place.ensures ∙ c.if-fits_place.true)).short, (fits_sound _ _ _ (sym c.fits_place.ensures ∙ c.if-fits_place.true)).sized)

pub returns-then-fits_place : goal.returns-then-fits_place
unfolding in_place pick
returns-then-fits_place c = simp (add-sub_cancel_left (c.args.place * 1492) c.args.n, sym c.fits_place.ensures ∙ c.if-fits_place.true)

pub returns-else-fits_place : goal.returns-else-fits_place
unfolding in_place pick
returns-else-fits_place c = simp (sym c.fits_place.ensures ∙ c.if-fits_place.false)
