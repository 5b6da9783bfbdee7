-- `standing::live_octet` meets its contract.
use mathlib.Core.Path.{◌≡◌, sym, ap, ◌∙◌}
use Prim.Native.Nat.{ℕ, ◌<◌, ◌≤◌}
use native.Mathlib.Nat.{zero-add}
use native.Mathlib.Omega.{arith}
use lib.ListN.{get_or}
use Rattle.parts.proofs.Laws.Choose.{pick_true, pick_false}
use Rattle.day.specs.Printed.{live_text}
use Rattle.day.proofs.Laws.Standing.{live_octet, live_space}
use Rattle.day.proofs.standing.live_octet.Goals as goal

inside : (p n : ℕ) → p ≤ n → (p ≡ n → ⊥) → p < n
inside p n h other = omega (arith, other)

pub returns-then-p-n : goal.returns-then-p-n
returns-then-p-n c =
    let a = c.args in
    sym (ap (λ (i : ℕ). get_or (live_text a.live a.n 0) i 0) c.if-p-n.true ∙ live_space a.live a.n 0)

pub returns-then-live_at : goal.returns-then-live_at
returns-then-live_at c =
    let a = c.args in
    sym (live_octet a.live a.n 0 a.p (inside a.p a.n c.requires c.if-p-n.false) ∙ rw (zero-add a.p) (pick_true _ _ (sym c.live_at.ensures ∙ c.if-live_at.true)))

pub returns : goal.returns
returns c =
    let a = c.args in
    sym (live_octet a.live a.n 0 a.p (inside a.p a.n c.requires c.if-p-n.false) ∙ rw (zero-add a.p) (pick_false _ _ (sym c.live_at.ensures ∙ c.if-live_at.false)))
