use Rattle.std.proofs.Common.{◌≡◌, ◌∙◌, sym, true, length}
use Rattle.bench.specs.Table.{goes_on}
use Rattle.bench.proofs.Laws.Stepping.{runs_none, runs_room, runs_on, runs_all, runs_nearer}
use Rattle.bench.proofs.table.run_table.Goals as goal
use Rattle.bench.proofs.table.run_table.Goals.{In-loop-table}

-- there is a next step
on : (c : In-loop-table) → goes_on c.loop-table.r ≡ true
on c = sym c.goes_on.ensures ∙ c.loop-table-test.true

pub loop-table-init : goal.loop-table-init
loop-table-init c = runs_none c.args.g c.args.table.now c.args.out.now c.requires.0 c.requires.1.0 c.requires.1.1

pub advance-r-requires : goal.advance-r-requires
advance-r-requires c =
    let l = c.loop-table in
    let o = on (goal.at.advance-r-requires c).In-loop-table in
    (l.invariant.1.table, (o, runs_room c.args.g c.args.table.now c.args.out.now l.r l.table l.out l.invariant o))

pub loop-table-smaller : goal.loop-table-smaller
loop-table-smaller c =
    let l = c.loop-table in
    runs_nearer c.args.g c.args.table.now c.args.out.now l.r l.table l.out l.invariant c.advance-r.result (on (goal.at.loop-table-smaller c).In-loop-table) c.advance-r.ensures.0

pub loop-table-preserved : goal.loop-table-preserved
loop-table-preserved c =
    let l = c.loop-table in
    let long : length c.advance-r.new.table ≡ length l.table = c.advance-r.auto.table in
    runs_on c.args.g c.args.table.now c.args.out.now l.r l.table l.out l.invariant c.advance-r.result c.advance-r.new.table c.advance-r.new.out
    (on (goal.at.loop-table-preserved c).In-loop-table) long c.advance-r.ensures

pub returns : goal.returns
returns c =
    let l = c.loop-table in
    runs_all c.args.g c.args.table.now c.args.out.now l.r l.table l.out l.invariant (sym c.goes_on.ensures ∙ c.loop-table-test.false)
