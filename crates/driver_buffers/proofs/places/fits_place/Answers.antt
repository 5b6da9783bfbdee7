-- `places::fits_place` meets its contract.
use mathlib.Core.Path.{sym, ◌∙◌}
use borrow.Author.Tests.{lt-ltb, le-ltb, eq-eqb, ne_eqb}
use Rattle.driver_buffers.specs.Places.{fits_place}
use Rattle.parts.proofs.Laws.Tests.{holds, fails, last}
use Rattle.driver_buffers.proofs.places.fits_place.Goals as goal

pub returns-then-store-ne-STORE : goal.returns-then-store-ne-STORE
unfolding fits_place
returns-then-store-ne-STORE c = sym (fails _ (ne_eqb _ _ c.if-store-ne-STORE.true))

pub returns-then-place-ge32 : goal.returns-then-place-ge32
unfolding fits_place
returns-then-place-ge32 c = sym (holds _ (eq-eqb _ _ c.if-store-ne-STORE.false) ∙ fails _ (le-ltb _ _ c.if-place-ge32.true))

pub returns : goal.returns
unfolding fits_place
returns c = sym (holds _ (eq-eqb _ _ c.if-store-ne-STORE.false) ∙ (holds _ (lt-ltb _ _ c.if-place-ge32.false) ∙ last _))
