-- `standing::put_numbers` meets its contract: one pair behind the other.
use native.Mathlib.Omega.{arith}
use Rattle.bench.specs.Text.{space, line_feed}
use Rattle.bench.proofs.Laws.Laying.{laid_both}
use Rattle.day.specs.Printed.{lists_text, counts_text}
use Rattle.day.proofs.Laws.Standing.{pair_short}
use Rattle.day.proofs.standing.put_numbers.Goals as goal

pub put_pair-requires : goal.put_pair-requires
put_pair-requires c =
    let s = c.args.s in
    omega (arith, c.put_pair-a.ensures.1, pair_short s.sends.len s.receives.len space)

pub returns : goal.returns
unfolding lists_text counts_text
returns c =
    let a = c.args in
    laid_both a.out.now _ _ (lists_text a.s) (counts_text a.s) a.at _ _ (omega (arith, c.requires, pair_short a.s.sends.len a.s.receives.len space, pair_short a.s.counts.lost a.s.counts.givenup line_feed))
    c.put_pair-a.ensures.1 c.put_pair.ensures.1 c.put_pair-a.ensures.0 c.put_pair.ensures.0
