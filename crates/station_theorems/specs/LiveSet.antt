-- "The live set holds members only: this station and at least one other when Idle or Waiting, this station only when Alone, all when
-- Offline, not this station when Excluded", in plain facts.
use Rattle.std.specs.Prelude.{◌≡◌, true, false, ℕ, ◌<◌}
use Rattle.parts.specs.Live.{live_at}
use Rattle.parts.specs.declared.moves.State.{State}
use Rattle.parts.specs.declared.moves.State.TheVariants.{Offline, Idle, Waiting, Alone, Excluded}
use Rattle.parts.specs.declared.live.Live.{Live}

-- this station and at least one other
pub record Company (n own : ℕ) (l : Live) : Type 0 where
  pub itself : live_at l own ≡ true
  pub another : ℕ
  pub member : another < n
  pub not_itself : another ≡ own → ⊥
  pub lives : live_at l another ≡ true

-- state by state
pub record LiveSet (st : State) (n own : ℕ) (l : Live) : Type 0 where
  pub members_only : (p : ℕ) → live_at l p ≡ true → p < n
  pub all_when_offline : st ≡ Offline → (p : ℕ) → p < n → live_at l p ≡ true
  pub company_when_idle : st ≡ Idle → Company n own l
  pub company_when_waiting : st ≡ Waiting → Company n own l
  pub itself_when_alone : st ≡ Alone → live_at l own ≡ true
  pub no_other_when_alone : st ≡ Alone → (p : ℕ) → (p ≡ own → ⊥) → live_at l p ≡ false
  pub not_itself_when_excluded : st ≡ Excluded → live_at l own ≡ false
