-- `going::on_frame` meets its contract: the oldest frame leaves, and the addressee's joins.
use Rattle.replay.specs.Table.{way_of}
use Rattle.replay.proofs.Laws.Turns.{taken_on}
use Rattle.replay.proofs.going.on_frame.Goals as goal

pub put_taken-used-requires : goal.put_taken-used-requires
put_taken-used-requires c = (c.requires.1.1.0, c.requires.1.1.1)

pub go_on-requires : goal.go_on-requires
go_on-requires c =
    (c.requires.0, c.requires.1.0)

pub returns : goal.returns
returns c =
    let a = c.args in let p = c.put_taken-used in (taken_on (way_of a.g) _ a.next a.h a.t _ _ _ c.go_on.ensures c.rest-rest.ensures c.join-wire.ensures p.ensures.1, p.ensures.0)
