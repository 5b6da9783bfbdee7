use mathlib.Core.Path.{◌≡◌, refl, sym, ap, ◌∙◌}
use mathlib.Core.Bool.{Bool, false}
use mathlib.Core.List.{List}
use native.Mathlib.Omega.{arith}
use lib.ListN.{replicate}
use Rattle.parts.specs.declared.live.Live.{Live}
use Rattle.records.specs.Fields.{flag_from, flag_at}
use Rattle.records.proofs.Laws.Tables.{tab_none, tab_more, tab_all}
use Rattle.records.proofs.live.live_from.Goals as goal

abbrev nobody : List Bool
nobody = replicate 64 false

-- a live set is its seats
of_seats : (l : Live) (xs : List Bool) → l.on ≡ xs → l ≡ record { on = xs }
of_seats l xs e = rw (sym e)

pub loop-p-init : goal.loop-p-init
loop-p-init c = (omega arith, tab_none (flag_at c.args.s.now) nobody)

pub overflow_add-p : goal.overflow_add-p
overflow_add-p c = omega arith

pub get-requires : goal.get-requires
get-requires c = (omega arith, omega arith)

pub bounds-o-p : goal.bounds-o-p
bounds-o-p c = omega arith

pub overflow_add-p-in-loop-p : goal.overflow_add-p-in-loop-p
overflow_add-p-in-loop-p c = omega arith

pub loop-p-smaller : goal.loop-p-smaller
loop-p-smaller c = omega arith

pub loop-p-preserved : goal.loop-p-preserved
loop-p-preserved c =
    let l = c.loop-p in
    let a = c.args in
    (omega arith, tab_more (flag_at a.s.now) nobody l.o.on c.flag_from-on.result l.p false c.loop-p-test.true l.invariant.1 (c.flag_from-on.ensures ∙ ap flag_from c.get.ensures.0))

pub returns : goal.returns
returns c =
    let l = c.loop-p in
    let a = c.args in
    of_seats l.o _ (tab_all (flag_at a.s.now) nobody l.o.on l.p 64 (omega arith) refl l.invariant.1)
