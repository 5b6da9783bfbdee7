-- Laws of a frame with its addressee: what an equation of two says of each. Assumes nothing.
use Rattle.std.specs.Prelude.{Some}
use Rattle.std.proofs.lemmas.Option.{same_Some}
use mathlib.Core.Path.{◌≡◌, ap}
use Prim.Native.Nat.{ℕ}
use Rattle.parts.specs.Frames.{Dispatch}
use Rattle.parts.specs.declared.frame.Frame.{Frame}

pub same_frame : {f g : Frame} {p q : ℕ} → ◌≡◌ {A = Dispatch} (Some (f, p)) (Some (g, q)) → f ≡ g
same_frame e = ap (λ (q : Frame × ℕ). q.0) (same_Some _ _ e)

pub same_to : {f g : Frame} {p q : ℕ} → ◌≡◌ {A = Dispatch} (Some (f, p)) (Some (g, q)) → p ≡ q
same_to e = ap (λ (q : Frame × ℕ). q.1) (same_Some _ _ e)
