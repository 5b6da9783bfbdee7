use Rattle.std.proofs.Common.{sym, ap, ◌∙◌}
use Rattle.script.specs.Reading.{Fed, fed_from}
use Rattle.script.specs.declared.reading.Held.{Held}
use Rattle.script.proofs.Laws.Reading.{fed_none, fed_end, fed_on}
use Rattle.script.proofs.reading.feed.Goals as goal

pub returns-then-c-eq10-clause-held : goal.returns-then-c-eq10-clause-held
returns-then-c-eq10-clause-held c =
    let l = c.loop-c in
    ap (λ (f : Fed). f.held) (sym (fed_end l.held l.rest.now c.in-Some.c.now c.in-Some.behind.now c.in-Some.ensures.cases.0 c.if-c-eq10.true) ∙ l.invariant)

pub returns-then-c-eq10-clause-rest : goal.returns-then-c-eq10-clause-rest
returns-then-c-eq10-clause-rest c =
    let l = c.loop-c in
    ap (λ (f : Fed). f.rest) (sym (fed_end l.held l.rest.now c.in-Some.c.now c.in-Some.behind.now c.in-Some.ensures.cases.0 c.if-c-eq10.true) ∙ l.invariant)

pub loop-c-preserved : goal.loop-c-preserved
loop-c-preserved c =
    let l = c.loop-c in
    ap (λ (h : Held). fed_from h c.in-Some.behind.now) c.hold.ensures
    ∙ sym (fed_on l.held l.rest.now c.in-Some.c.now c.in-Some.behind.now c.in-Some.ensures.cases.0 c.if-c-eq10.false) ∙ l.invariant

pub returns-clause-held : goal.returns-clause-held
returns-clause-held c =
    let l = c.loop-c in
    ap (λ (f : Fed). f.held) (sym (fed_none l.held l.rest.now c.in_default.ensures.cases) ∙ l.invariant)

pub returns-clause-rest : goal.returns-clause-rest
returns-clause-rest c =
    let l = c.loop-c in
    ap (λ (f : Fed). f.rest) (sym (fed_none l.held l.rest.now c.in_default.ensures.cases) ∙ l.invariant)
