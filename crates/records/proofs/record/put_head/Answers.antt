-- `record::put_head` meets its contract: its writes, side by side, are one.
use mathlib.Core.Path.{refl}
use native.Mathlib.Omega.{arith}
use Rattle.codec.proofs.Laws.Octets.{laid_three}
use Rattle.records.specs.Layout.{own_at, lost_at, live_at}
use Rattle.records.specs.Fields.{turn_octets, live_octets}
use Rattle.records.specs.Record.{counts_octets}
use Rattle.records.proofs.record.put_head.Goals as goal

pub returns : goal.returns
returns c =
    let a = c.args in
    laid_three a.out.now _ _ _ (turn_octets a.own a.turn) (counts_octets a.counts) (live_octets a.live) own_at lost_at live_at refl refl (omega (arith, c.requires)) c.put_turn.ensures c.put_two.ensures c.put_live.ensures
