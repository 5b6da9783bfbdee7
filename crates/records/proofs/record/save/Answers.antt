-- `record::save` meets its contract: its writes, side by side, are one.
use mathlib.Core.Path.{◌≡◌, ap}
use Prim.Native.Nat.{ℕ, ◌+◌}
use native.Mathlib.Omega.{arith}
use lib.ListN.{length}
use Rattle.codec.proofs.Laws.Octets.{then_laid}
use Rattle.records.specs.Layout.{own_at, sends_at}
use Rattle.records.specs.Record.{head_octets, lists_octets}
use Rattle.records.proofs.Laws.Sizes.{length_head}
use borrow.Author.Rules.{rules}
use Rattle.records.proofs.record.save.Goals as goal

pub returns : goal.returns
returns c =
    let a = c.args in
    let s = a.s in
    let h : length s.live.on ≡ 64 = search rules in
    then_laid a.out.now _ _ (head_octets s) (lists_octets s) own_at sends_at (ap (λ (n : ℕ). own_at + n) (length_head s h)) (omega (arith, c.requires)) c.put_head.ensures c.put_lists.ensures
