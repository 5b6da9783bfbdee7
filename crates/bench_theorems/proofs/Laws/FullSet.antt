-- Laws of a full live set: every member is live, and the successor is the next place. Assumes nothing.
use mathlib.Core.Path.{◌≡◌, refl, ap, ◌∙◌}
use mathlib.Core.Bool.{Bool, true, false}
use Prim.Native.Nat.{ℕ, suc, ◌-◌, ◌<◌, ◌≤◌}
use native.Mathlib.Omega.{arith}
use lib.Dec.{ltb}
use lib.ListN.{replicate, length-replicate, get_or-replicate, get_or-append}
use borrow.Author.Tests.{ltb-true, ltb-false}
use Rattle.parts.specs.Live.{live_at, seats, full, after, seek, successor}
use Rattle.parts.proofs.Laws.Live.{seats_inside, seats_all, seek_here}
use Rattle.bench_theorems.proofs.Laws.Offset.{after_member}

pub seats_most : (n : ℕ) → n ≤ 64 → seats n ≡ n
seats_most n h = go (ltb n 64) refl
  where
    go : (b : Bool) → ltb n 64 ≡ b → seats n ≡ n
    go true e = seats_inside n (ltb-true n 64 e)
    go false e = let i : 64 ≤ n = ltb-false n 64 e in seats_all n i ∙ omega arith

pub full_live : (n p : ℕ) → n ≤ 64 → p < n → live_at (full n) p ≡ true
unfolding full
full_live n p h m =
    let e : seats n ≡ n = seats_most n h in
    let l : p < seats n = omega arith in
    get_or-append (replicate (seats n) true) (replicate (64 - seats n) false) false p (omega (arith, length-replicate (seats n) true))
    ∙ get_or-replicate (seats n) p true false l

pub full_successor : (n p : ℕ) → 2 ≤ n → n ≤ 64 → p < n → successor (full n) n p ≡ after n p
unfolding successor
full_successor n p two h m =
    let one : n - 1 ≡ suc (n - 2) = omega arith in
    ap (λ (k : ℕ). seek (full n) n p k p) one
    ∙ seek_here (full n) n p (n - 2) p (full_live n (after n p) h (after_member n p m))
