-- `text::put_taken` meets its contract: who struck, and the addressee's frame.
use native.Mathlib.Omega.{arith}
use Rattle.parts.specs.Frames.{failing_of}
use Rattle.bench.specs.Rows.{row_on}
use Rattle.bench.specs.Text.{rows_text}
use Rattle.day.specs.Strikes.{span, strikers_text}
use Rattle.day.proofs.Laws.Lines.{marks_short, row_most, calls_laid, span_most, marks_same}
use Rattle.day.proofs.text.put_taken.Goals as goal

pub put_marks-a-requires : goal.put_marks-a-requires
put_marks-a-requires c =
    let a = c.args in omega (arith, c.span_of-m.ensures, span_most a.h)

pub put_wire-requires : goal.put_wire-requires
put_wire-requires c =
    let a = c.args in omega (arith, c.span_of-m.ensures, span_most a.h, c.put_marks-a.ensures.1, marks_short a.t.strikers c.failing_of-failing.result c.span_of-m.result 0)

pub returns : goal.returns
returns c =
    let a = c.args in let same = marks_same a.t.strikers _ _ _ _ c.failing_of-failing.ensures c.span_of-m.ensures in calls_laid a.out.now _ _ (strikers_text a.h a.t.strikers) (rows_text (row_on a.h.to a.t.reply)) a.at _ _ (omega (arith, span_most a.h, marks_short a.t.strikers (failing_of a.h.frame) (span a.h) 0, row_most a.h.to a.t.reply)) (same a.out.now _ a.at _ c.put_marks-a.ensures) c.put_wire.ensures
