-- `live::flags_good` meets its contract.
use mathlib.Core.Path.{sym, ap, ◌∙◌}
use Prim.Native.Nat.{ℕ}
use lib.Dec.{ltb}
use Rattle.records.specs.Layout.{live_at}
use Rattle.records.proofs.Laws.Flags.{flags_greatest}
use Rattle.records.proofs.live.flags_good.Goals as goal

pub returns : goal.returns
returns c = ap (λ (g : ℕ). ltb g 2) c.greatest.ensures ∙ sym (flags_greatest c.args.s.now live_at 64)
