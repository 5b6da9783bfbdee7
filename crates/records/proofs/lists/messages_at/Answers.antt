-- `lists::messages_at` meets its contract: the messages behind the list would be blank.
use mathlib.Core.Path.{ap, ◌∙◌}
use Prim.Native.Nat.{◌+◌}
use Rattle.records.specs.Layout.{items_in}
use Rattle.records.specs.Fields.{first_items}
use Rattle.records.proofs.Laws.Rest.{rest_items}
use Rattle.records.proofs.lists.messages_at.Goals as goal

pub returns : goal.returns
returns c =
    let a = c.args in
    let pre = c.requires in
    let items = c.first_items-items.ensures ∙ ap (first_items a.s.now (a.at + items_in)) c.count_at-k.ensures.0 ∙ rest_items a.s.now a.at pre.0 pre.1 in
    rw (items, c.get.ensures.0)
