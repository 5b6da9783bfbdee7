-- `making::make` meets its contract: at each return the tests that led there say which number it is.
use mathlib.Core.Path.{◌≡◌, ap, ◌∙◌}
use native.Mathlib.Omega.{arith}
use Rattle.codec.specs.Ring.{count, count_of}
use Rattle.codec.proofs.Laws.Ring.{few_others}
use Rattle.driver_calls.proofs.Laws.Making.{no_record, no_ring, no_seat, all_made, few_counted, head_read, file_fits}
use Rattle.driver_calls.proofs.making.make.Goals as goal
use Rattle.driver_calls.proofs.making.make.Goals.{After-count-n}

pub returns-then-rec-ne-RECORD : goal.returns-then-rec-ne-RECORD
returns-then-rec-ne-RECORD c = no_record _ _ _ c.if-rec-ne-RECORD.true

pub returns-then-number-ne0 : goal.returns-then-number-ne0
returns-then-number-ne0 c = no_ring _ _ _ c.if-rec-ne-RECORD.false _ c.read_into-number.ensures.0 c.if-number-ne0.true

pub head_of-requires : goal.head_of-requires
head_of-requires c = omega (arith, (head_read _ _ c.read_into-number.ensures.0 c.if-number-ne0.false).long)

pub count-n-requires : goal.count-n-requires
count-n-requires c = few_others _ _ c.head_of.ensures

-- how many members there are
counted : (c : After-count-n) → c.count-n.result ≡ count c.args.file.now
counted c = c.count-n.ensures ∙ ap count_of c.head_of.ensures

pub returns-then-n-seat : goal.returns-then-n-seat
returns-then-n-seat c =
    let good = c.if-number-ne0.false in
    no_seat _ _ _ c.if-rec-ne-RECORD.false _ c.read_into-number.ensures.0 good _ (counted (goal.at.returns-then-n-seat c).After-count-n) _ _ (c.read_into-number.ensures.1 good) _ c.members.ensures _ c.position-seat.ensures
    c.if-n-seat.true

pub save_new-requires : goal.save_new-requires
save_new-requires c =
    (omega arith, (file_fits _ _ c.read_into-number.ensures.0 c.if-number-ne0.false, few_counted _ _ (counted (goal.at.save_new-requires c).After-count-n)))

pub returns : goal.returns
returns c =
    let good = c.if-number-ne0.false in
    all_made _ _ _ c.if-rec-ne-RECORD.false _ c.read_into-number.ensures.0 good _ (counted (goal.at.returns c).After-count-n) _ _ (c.read_into-number.ensures.1 good) _ c.members.ensures _ c.position-seat.ensures
    c.if-n-seat.false _
    c.save_new.ensures
