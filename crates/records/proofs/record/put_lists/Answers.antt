-- `record::put_lists` meets its contract: its writes, side by side, are one.
use mathlib.Core.Path.{◌≡◌, ap}
use Prim.Native.Nat.{ℕ, ◌+◌}
use native.Mathlib.Omega.{arith}
use lib.ListN.{length}
use Rattle.codec.proofs.Laws.Octets.{then_laid}
use Rattle.parts.proofs.Laws.Messages.{length_mapped}
use Rattle.records.specs.Layout.{sends_at, receives_at}
use Rattle.records.specs.Fields.{messages_octets}
use Rattle.records.proofs.Laws.Sizes.{length_list}
use Rattle.records.proofs.record.put_lists.Goals as goal

pub returns : goal.returns
returns c =
    let a = c.args in
    let h : length a.sends.items ≡ 16 = search length_mapped in
    then_laid a.out.now _ _ (messages_octets a.sends) (messages_octets a.receives) sends_at receives_at (ap (λ (n : ℕ). sends_at + n) (length_list a.sends h)) (omega (arith, c.requires)) c.put_messages.ensures c.put_messages-2.ensures
