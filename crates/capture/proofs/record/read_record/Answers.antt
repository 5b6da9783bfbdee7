-- `record::read_record` meets its contract: at each return the tests that led there say what is read.
use native.Mathlib.Omega.{arith}
use Rattle.capture.proofs.Laws.Reading.{length_record, fields_between, read_end, read_refused, read_event}
use Rattle.capture.proofs.record.read_record.Goals as goal

pub returns-then-s-lt-RECORD : goal.returns-then-s-lt-RECORD
returns-then-s-lt-RECORD c = read_end _ _ _ (omega arith)

pub returns-then-s-at : goal.returns-then-s-at
returns-then-s-at c = read_end _ _ _ (omega arith)

pub fields_of-f-requires : goal.fields_of-f-requires
fields_of-f-requires c =
    let a = c.args in
    length_record a.s.now a.at (omega arith)

pub returns-then-number-ne0 : goal.returns-then-number-ne0
returns-then-number-ne0 c =
    let a = c.args in
    read_refused _ _ _ (omega arith) _ (fields_between a.s.now a.at _ c.fields_of-f.ensures) _ c.record_number-number.ensures c.if-number-ne0.true

pub returns : goal.returns
returns c =
    let a = c.args in
    read_event _ _ _ (omega arith) _ (fields_between a.s.now a.at _ c.fields_of-f.ensures) _ c.record_number-number.ensures _ c.if-number-ne0.false c.event_of-event.ensures
