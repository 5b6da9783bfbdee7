-- Laws of the states: which of them a test or the table of moves leaves. Assumes nothing.
use mathlib.Core.Path.{◌≡◌, refl}
use mathlib.Core.Bool.{true, false≢true}
use Prim.Native.Nat.{ℕ}
use native.Mathlib.Omega.{arith}
use Rattle.parts.specs.Moves.{move_of, runs, is_idle, is_waiting, is_excluded}
use Rattle.parts.specs.declared.moves.State.{State}
use Rattle.parts.specs.declared.moves.State.TheVariants.{Offline, Idle, Waiting, Alone, Excluded}
use Rattle.parts.specs.declared.moves.Event.TheVariants.{Start, Heard, Timer}

-- ---- by the table of moves

no_22 : {A : Type 0} → ◌≡◌ {A = ℕ} 22 100 → A
no_22 e = absurd (omega arith)

no_23 : {A : Type 0} → ◌≡◌ {A = ℕ} 23 100 → A
no_23 e = absurd (omega arith)

pub starts : (st : State) → move_of st Start ≡ runs → st ≡ Offline
starts Offline e = refl
starts Idle e = no_23 e
starts Waiting e = no_23 e
starts Alone e = no_23 e
starts Excluded e = no_23 e

pub waits : (st : State) → move_of st Timer ≡ runs → st ≡ Waiting
waits Offline e = no_22 e
waits Idle e = absurd (let z : ◌≡◌ {A = ℕ} 0 100 = e in omega arith)
waits Waiting e = refl
waits Alone e = no_22 e
waits Excluded e = no_22 e

-- frames are heard when Idle or Waiting
pub heard_cases : (P : State → Type 0) → P Idle → P Waiting → (st : State) → move_of st Heard ≡ runs → P st
heard_cases P i w Offline e = no_22 e
heard_cases P i w Idle e = i
heard_cases P i w Waiting e = w
heard_cases P i w Alone e = no_22 e
heard_cases P i w Excluded e = no_22 e

-- ---- by a test

pub idle_is : (st : State) → is_idle st ≡ true → st ≡ Idle
idle_is Offline e = absurd (false≢true e)
idle_is Idle e = refl
idle_is Waiting e = absurd (false≢true e)
idle_is Alone e = absurd (false≢true e)
idle_is Excluded e = absurd (false≢true e)

pub waiting_is : (st : State) → is_waiting st ≡ true → st ≡ Waiting
waiting_is Offline e = absurd (false≢true e)
waiting_is Idle e = absurd (false≢true e)
waiting_is Waiting e = refl
waiting_is Alone e = absurd (false≢true e)
waiting_is Excluded e = absurd (false≢true e)

pub excluded_is : (st : State) → is_excluded st ≡ true → st ≡ Excluded
excluded_is Offline e = absurd (false≢true e)
excluded_is Idle e = absurd (false≢true e)
excluded_is Waiting e = absurd (false≢true e)
excluded_is Alone e = absurd (false≢true e)
excluded_is Excluded e = refl
