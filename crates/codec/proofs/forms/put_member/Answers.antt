-- `forms::put_member` meets its contract.
use Rattle.codec.proofs.Laws.Members.{address_alone, with_channels}
use Rattle.codec.proofs.forms.put_member.Goals as goal

pub returns-then-asked-ne2 : goal.returns-then-asked-ne2
returns-then-asked-ne2 c =
    let a = c.args in
    address_alone a.asked a.address a.channels a.at a.out.now _ c.if-asked-ne2.true c.put.ensures

pub returns : goal.returns
returns c =
    let a = c.args in
    with_channels a.asked a.address a.channels a.at a.out.now _ _ c.if-asked-ne2.false c.requires c.put.ensures c.put-2.ensures
