use Rattle.std.proofs.Common.{◌≡◌, ◌∙◌, ℕ, List, length, refl, subst, sym, true}
use Rattle.capture.specs.Record.{read_record}
use Rattle.codec.specs.Octets.{laid}
use Rattle.day.specs.Listening.{asked_read, heard_in}
use Rattle.station.specs.declared.station.Station.{Station}
use Rattle.replay.specs.Running.{reading}
use Rattle.replay.specs.Table.{Ready, goes_on, plan_in, table_in, text_after, way_after, way_of}
use Rattle.replay.specs.declared.going.Going.{Going}
use Rattle.replay.proofs.Laws.Running.{under_none, under_ready, under_on, under_all, under_nearer}
use Rattle.replay.proofs.table.run_table.Goals as goal
use Rattle.replay.proofs.table.run_table.Goals.{After-advance-r, In-loop-next}

-- what one record's turn leaves of the run x
abbrev OneDone : Going → List Station → List ℕ → Going → List Station → List ℕ → Type 0
OneDone x ss out p zs us =
    (way_of p ≡ way_after (way_of x) x.read ss)
    × ((zs ≡ table_in (plan_in (way_of x) x.read) ss) × (us ≡ laid out x.used (text_after (way_of x) x.read ss)))

-- there is a next turn
on : (c : In-loop-next) → goes_on (way_of c.loop-next.r) ≡ true
on c = sym c.goes_on.ensures ∙ c.loop-next-test.true

-- the turn that was done, of the record that was read
done : (c : After-advance-r)
    → OneDone (reading c.loop-next.r (asked_read (heard_in c.loop-next.r.n c.loop-next.r.channels) (read_record c.loop-next.r.n c.args.capture.now c.loop-next.r.at))) c.loop-next.table
    c.loop-next.out c.advance-r.result c.advance-r.new.table c.advance-r.new.out
done c =
    subst (λ (x : Going). OneDone x c.loop-next.table c.loop-next.out c.advance-r.result c.advance-r.new.table c.advance-r.new.out) c.read_next-next.ensures c.advance-r.ensures

pub loop-next-init : goal.loop-next-init
loop-next-init c = under_none (way_of c.args.g) c.args.table.now c.args.capture.now c.args.out.now c.requires.0 c.requires.1

pub advance-r-requires : goal.advance-r-requires
advance-r-requires c =
    let l = c.loop-next in (
      l.invariant.table,
      subst (λ (x : Going). Ready x (length l.out)) (sym c.read_next-next.ensures)
          (under_ready (way_of c.args.g) c.args.table.now c.args.capture.now c.args.out.now (way_of l.r) l.table l.out l.invariant (on (goal.at.advance-r-requires c).In-loop-next)),
    )

pub loop-next-smaller : goal.loop-next-smaller
loop-next-smaller c =
    let l = c.loop-next in
    under_nearer (way_of c.args.g) c.args.table.now c.args.capture.now c.args.out.now (way_of l.r) l.table l.out l.invariant (on (goal.at.loop-next-smaller c).In-loop-next)
    (read_record l.r.n c.args.capture.now l.r.at) refl (way_of c.advance-r.result) (done (goal.at.loop-next-smaller c).After-advance-r).0

pub loop-next-preserved : goal.loop-next-preserved
loop-next-preserved c =
    let l = c.loop-next in
    let e = done (goal.at.loop-next-preserved c).After-advance-r in
    let long : length c.advance-r.new.table ≡ length l.table = c.advance-r.auto.table in
    under_on (way_of c.args.g) c.args.table.now c.args.capture.now c.args.out.now (way_of l.r) l.table l.out l.invariant (on (goal.at.loop-next-preserved c).In-loop-next)
    (read_record l.r.n c.args.capture.now l.r.at) refl (way_of c.advance-r.result) c.advance-r.new.table c.advance-r.new.out long e.0 e.1.0 e.1.1

pub returns : goal.returns
returns c =
    let l = c.loop-next in
    under_all (way_of c.args.g) c.args.table.now c.args.capture.now c.args.out.now (way_of l.r) l.table l.out l.invariant (sym c.goes_on.ensures ∙ c.loop-next-test.false)
