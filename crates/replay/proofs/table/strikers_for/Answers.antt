-- `table::strikers_for` meets its contract: those among the records that the frame may reach.
use Rattle.std.proofs.Common.{◌≤◌, subst, sym, ◌∙◌}
use Rattle.bench.specs.declared.table.Handing.{Handing}
use Rattle.replay.specs.Table.{way_of}
use Rattle.replay.proofs.Laws.Turns.{plan_most}
use Rattle.replay.proofs.Laws.Marks.{marks_few, strikers_named}
use Rattle.replay.proofs.table.strikers_for.Goals as goal

pub strikers-requires : goal.strikers-requires
strikers-requires c =
    let h = c.handing_in-h.result in
    let most : h.m ≤ 64 = subst (λ (x : Handing). x.m ≤ 64) (sym c.handing_in-h.ensures) (plan_most (way_of c.args.g) c.args.g.read) in
    marks_few h c.span_of-m.result c.span_of-m.ensures c.args.table.now c.requires most

pub returns : goal.returns
returns c =
    c.strikers.ensures
    ∙ strikers_named c.handing_in-h.result c.span_of-m.result c.no_strikers-none.result c.args.table.now _ c.handing_in-h.ensures c.span_of-m.ensures c.no_strikers-none.ensures
