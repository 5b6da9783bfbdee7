-- `going::handing_with` meets its contract: no frame, or the oldest.
use mathlib.Core.Path.{◌≡◌, sym, ◌∙◌}
use lib.ListN.{length}
use Rattle.parts.proofs.Laws.Messages.{length_mapped}
use Rattle.day.specs.Wire.{no_flying, flying_of}
use Rattle.day.proofs.Laws.Wire.{flying_at, some_length}
use Rattle.day.proofs.Laws.Asking.{handing_empty, handing_oldest}
use Rattle.day.proofs.plan.handing_with.Goals as goal

pub returns-then-count-eq0 : goal.returns-then-count-eq0
returns-then-count-eq0 c =
    let a = c.args in c.no_handing.ensures ∙ sym (handing_empty a.n a.lost (flying_of a.w) (sym c.count.ensures ∙ c.if-count-eq0.true))

pub returns : goal.returns
returns c =
    let a = c.args in let h : length a.w.items ≡ 64 = search length_mapped in let some : length (flying_of a.w) ≡ 0 → ⊥ = λ z. c.if-count-eq0.false (c.count.ensures ∙ z) in handing_oldest a.n a.lost (flying_of a.w) _ _ _ some (c.oldest-f.ensures ∙ flying_at a.w h 0 no_flying (some_length _ some)) c.is_quiet-quiet.ensures c.seats-m.ensures
