-- `ring::field_refusal` meets its contract: at each return the tests that led there say which is the first that holds.
use mathlib.Core.Path.{◌≡◌, sym, ◌∙◌}
use mathlib.Core.Bool.{true, false}
use Rattle.codec.specs.Ring.{is_form, last_bad}
use Rattle.codec.proofs.Laws.Ring.{no_form, bad_last, no_others, no_limit, bad_size, no_refusal}
use Rattle.codec.proofs.ring.field_refusal.Goals as goal
use Rattle.codec.proofs.ring.field_refusal.Goals.{Else-last_bad, Else-not-is_form}

pub returns-then-not-is_form : goal.returns-then-not-is_form
returns-then-not-is_form c = sym (no_form _ _ (sym c.is_form.ensures ∙ c.if-not-is_form.true))

-- the form is 1 or 2
a_form : (c : Else-not-is_form) → is_form c.args.head.form ≡ true
a_form c = sym c.is_form.ensures ∙ c.if-not-is_form.false

pub returns-then-last_bad : goal.returns-then-last_bad
returns-then-last_bad c =
    c.last_number.ensures ∙ sym (bad_last _ _ (a_form (goal.at.returns-then-last_bad c).Else-not-is_form) (sym c.last_bad.ensures ∙ c.if-last_bad.true))

-- and the last two bits are good
last_good : (c : Else-last_bad) → last_bad c.args.head.form c.args.head.last ≡ false
last_good c = sym c.last_bad.ensures ∙ c.if-last_bad.false

pub returns-then-head-eq0 : goal.returns-then-head-eq0
returns-then-head-eq0 c =
    sym (no_others _ _ (a_form (goal.at.returns-then-head-eq0 c).Else-not-is_form) (last_good (goal.at.returns-then-head-eq0 c).Else-last_bad) c.if-head-eq0.true)

pub returns-then-head-eq0-2 : goal.returns-then-head-eq0-2
returns-then-head-eq0-2 c =
    sym (no_limit _ _ (a_form (goal.at.returns-then-head-eq0-2 c).Else-not-is_form) (last_good (goal.at.returns-then-head-eq0-2 c).Else-last_bad) c.if-head-eq0.false c.if-head-eq0-2.true)

pub returns-then-size-octets : goal.returns-then-size-octets
returns-then-size-octets c =
    sym (bad_size _ _ (a_form (goal.at.returns-then-size-octets c).Else-not-is_form) (last_good (goal.at.returns-then-size-octets c).Else-last_bad) c.if-head-eq0.false c.if-head-eq0-2.false (λ e. c.if-size-octets.true (e ∙ sym c.octets.ensures)))

pub returns : goal.returns
returns c =
    sym (no_refusal _ _ (a_form (goal.at.returns c).Else-not-is_form) (last_good (goal.at.returns c).Else-last_bad) c.if-head-eq0.false c.if-head-eq0-2.false (c.if-size-octets.false ∙ c.octets.ensures))
