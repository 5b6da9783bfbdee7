-- `places::put_place` meets its contract.
use mathlib.Core.Path.{sym, ◌∙◌}
use native.Mathlib.Omega.{arith}
use Rattle.parts.specs.Choose.{pick}
use Rattle.driver_buffers.specs.Places.{put_place}
use Rattle.driver_buffers.proofs.Laws.Places.{fits_sound}
use Rattle.driver_buffers.proofs.places.put_place.Goals as goal

pub overflow_mul-place : goal.overflow_mul-place
overflow_mul-place c = omega (arith, (fits_sound _ _ _ (sym c.fits_place.ensures ∙ c.if-fits_place.true)).within)

pub copy-requires : goal.copy-requires
copy-requires c = omega (arith, (fits_sound _ _ _ (sym c.fits_place.ensures ∙ c.if-fits_place.true)).within, (fits_sound _ _ _ (sym c.fits_place.ensures ∙ c.if-fits_place.true)).short, (fits_sound _ _ _ (sym c.fits_place.ensures ∙ c.if-fits_place.true)).sized)

pub returns-then-fits_place : goal.returns-then-fits_place
unfolding put_place pick
returns-then-fits_place c = simp (sym c.fits_place.ensures ∙ c.if-fits_place.true) c.copy.ensures

pub returns-else-fits_place : goal.returns-else-fits_place
unfolding put_place pick
returns-else-fits_place c = simp (sym c.fits_place.ensures ∙ c.if-fits_place.false)
