-- Laws of the last handled number: how far it lies behind the number on the wire. Assumes nothing.
use mathlib.Core.Path.{◌≡◌, refl, ap, ◌∙◌}
use mathlib.Core.Bool.{false}
use Prim.Native.Nat.{ℕ, ◌+◌, ◌%◌, ◌^◌, ◌<◌, ◌≤◌}
use native.Mathlib.Nat.{mod-add-mod}
use native.Mathlib.Omega.{arith}
use borrow.Author.Tests.{ne_eqb}
use Rattle.parts.specs.Frames.{next}
use Rattle.station.specs.Heard.{is_last}
use Rattle.std.specs.Prelude.{Option, Some}
use Rattle.bench_theorems.specs.Quiet.{Behind, never, ago}

-- a number not so far behind is another
pub not_last : {k most : ℕ} {h : Option ℕ} → Behind k most h → most < 65536 → is_last h k ≡ false
unfolding is_last
not_last never few = refl
not_last {k} (ago j e some less at) few = ne_eqb j k (λ (q : j ≡ k). omega arith)

-- with the next frame it lies one more behind
pub one_behind : {k most : ℕ} {h : Option ℕ} (more : ℕ) → Behind k most h → most + 1 ≤ more → Behind (next k) more h
one_behind more never m = never
one_behind more (ago j e some less at) m =
    ago j (e + 1) (omega arith) (omega arith)
    (ap next at ∙ mod-add-mod (j + e) (2 ^ 16) 1 ∙ ap (λ (i : ℕ). i % 2 ^ 16) (omega arith))

-- and who handled this one lies 1 behind
pub just_behind : (k more : ℕ) → 1 ≤ more → Behind (next k) more (Some k)
just_behind k more m = ago k 1 (omega arith) m refl
