-- "The successor of a station is the next live one in ring order, cyclically."
use Rattle.std.specs.Prelude.{◌≡◌, true, false, ℕ, ◌+◌, ◌%◌, ◌<◌}
use Rattle.parts.specs.declared.live.Live.{Live}
use Rattle.parts.specs.Live.{live_at}

-- the position k steps after own on a ring of n
abbrev pub onward : ℕ → ℕ → ℕ → ℕ
onward n own k = (own + k) % n

-- s is live and another, and nobody live stands between own and s
pub record Next (l : Live) (n own s : ℕ) : Type 0 where
  pub member : s < n
  pub another : s ≡ own → ⊥
  pub live : live_at l s ≡ true
  pub steps : ℕ
  pub reached : s ≡ onward n own steps
  pub once_round : steps < n
  pub nobody_between : (k : ℕ) → 0 < k → k < steps → live_at l (onward n own k) ≡ false

-- s is the next live one, or own where no other member is live
pub record Successor (l : Live) (n own s : ℕ) : Type 0 where
  pub next : (s ≡ own → ⊥) → Next l n own s
  pub no_other : s ≡ own → (p : ℕ) → p < n → (p ≡ own → ⊥) → live_at l p ≡ false
