-- `whole::whole` meets its contract: at each return the tests that led there say which is the first that fails.
use mathlib.Core.Path.{sym, ap, ◌∙◌}
use Rattle.wholeness.proofs.Laws.Whole.{test_stops, test_passes, test_last}
use Rattle.station.specs.Stations.{state_of}
use Rattle.wholeness.specs.Whole.{company_good, whole}
use Rattle.wholeness.proofs.whole.whole.Goals as goal

pub returns-then-not-ring_good : goal.returns-then-not-ring_good
unfolding whole
returns-then-not-ring_good c =
    sym (test_stops _ _ (sym c.ring_good.ensures ∙ c.if-not-ring_good.true))

pub returns-then-not-seats_good : goal.returns-then-not-seats_good
unfolding whole
returns-then-not-seats_good c =
    sym (test_passes _ _ (sym c.ring_good.ensures ∙ c.if-not-ring_good.false)
    ∙ test_stops _ _ (sym c.seats_good.ensures ∙ c.if-not-seats_good.true))

pub returns-then-not-company_good : goal.returns-then-not-company_good
unfolding whole
returns-then-not-company_good c =
    sym (test_passes _ _ (sym c.ring_good.ensures ∙ c.if-not-ring_good.false)
    ∙ test_passes _ _ (sym c.seats_good.ensures ∙ c.if-not-seats_good.false)
    ∙ test_stops _ _ (sym (c.company_good.ensures ∙ ap (company_good (state_of c.args.s)) c.alone.ensures) ∙ c.if-not-company_good.true))

pub returns-then-not-lists_good : goal.returns-then-not-lists_good
unfolding whole
returns-then-not-lists_good c =
    sym (test_passes _ _ (sym c.ring_good.ensures ∙ c.if-not-ring_good.false)
    ∙ test_passes _ _ (sym c.seats_good.ensures ∙ c.if-not-seats_good.false)
    ∙ test_passes _ _ (sym (c.company_good.ensures ∙ ap (company_good (state_of c.args.s)) c.alone.ensures) ∙ c.if-not-company_good.false)
    ∙ test_stops _ _ (sym c.lists_good.ensures ∙ c.if-not-lists_good.true))

pub returns-then-not-waiters_good : goal.returns-then-not-waiters_good
unfolding whole
returns-then-not-waiters_good c =
    sym (test_passes _ _ (sym c.ring_good.ensures ∙ c.if-not-ring_good.false)
    ∙ test_passes _ _ (sym c.seats_good.ensures ∙ c.if-not-seats_good.false)
    ∙ test_passes _ _ (sym (c.company_good.ensures ∙ ap (company_good (state_of c.args.s)) c.alone.ensures) ∙ c.if-not-company_good.false)
    ∙ test_passes _ _ (sym c.lists_good.ensures ∙ c.if-not-lists_good.false)
    ∙ test_stops _ _ (sym (c.waiters_good.ensures ∙ rw c.flight-f.ensures) ∙ c.if-not-waiters_good.true))

pub returns-then-not-turn_fits : goal.returns-then-not-turn_fits
unfolding whole
returns-then-not-turn_fits c =
    sym (test_passes _ _ (sym c.ring_good.ensures ∙ c.if-not-ring_good.false)
    ∙ test_passes _ _ (sym c.seats_good.ensures ∙ c.if-not-seats_good.false)
    ∙ test_passes _ _ (sym (c.company_good.ensures ∙ ap (company_good (state_of c.args.s)) c.alone.ensures) ∙ c.if-not-company_good.false)
    ∙ test_passes _ _ (sym c.lists_good.ensures ∙ c.if-not-lists_good.false)
    ∙ test_passes _ _ (sym (c.waiters_good.ensures ∙ rw c.flight-f.ensures) ∙ c.if-not-waiters_good.false)
    ∙ test_stops _ _ (sym c.turn_fits.ensures ∙ c.if-not-turn_fits.true))

pub returns : goal.returns
unfolding whole
returns c =
    c.awaited_good.ensures
    ∙ sym (test_passes _ _ (sym c.ring_good.ensures ∙ c.if-not-ring_good.false)
    ∙ test_passes _ _ (sym c.seats_good.ensures ∙ c.if-not-seats_good.false)
    ∙ test_passes _ _ (sym (c.company_good.ensures ∙ ap (company_good (state_of c.args.s)) c.alone.ensures) ∙ c.if-not-company_good.false)
    ∙ test_passes _ _ (sym c.lists_good.ensures ∙ c.if-not-lists_good.false)
    ∙ test_passes _ _ (sym (c.waiters_good.ensures ∙ rw c.flight-f.ensures) ∙ c.if-not-waiters_good.false)
    ∙ test_passes _ _ (sym c.turn_fits.ensures ∙ c.if-not-turn_fits.false)
    ∙ test_last _)
