-- Laws of the rule for the timer: what each step is, when its parts are so. Assumes nothing.
use mathlib.Core.Path.{◌≡◌, refl, sym, ap, ◌∙◌}
use Prim.Native.Nat.{ℕ, ◌<◌, ◌≤◌}
use borrow.Author.Tests.{lt-ltb, le-ltb}
use Rattle.parts.specs.Moves.{move_of}
use Rattle.station.specs.Stations.{state_of, awaited_of}
use Rattle.station.specs.Strike.{Struck}
use Rattle.station.specs.Timer.{again, unanswered, after_strike, silence, on_timer, timer_rule}
use Rattle.parts.specs.declared.moves.State.TheVariants.{Waiting}
use Rattle.parts.specs.declared.moves.Event.TheVariants.{Timer}
use Rattle.parts.specs.declared.frame.Frame.{Frame}
use Rattle.std.specs.Prelude.{Some}
use Rattle.station.specs.declared.station.Station.{Station}
use Rattle.parts.proofs.Laws.Choose.{pick_true, pick_false}
use Rattle.station.proofs.Laws.Moved.{moved_runs}

-- ---- below the limit, and at the last timer

pub silence_again : (s : Station) (to : ℕ) (f : Frame) → s.turn.retries < s.limit → again s ≡ silence s to f
unfolding silence
silence_again s to f h = sym (pick_true _ _ (lt-ltb _ _ h))

pub silence_last : (s : Station) (to : ℕ) (f : Frame) (k : Struck) → s.limit ≤ s.turn.retries → k ≡ unanswered s to
    → after_strike k to f ≡ silence s to f
unfolding silence
silence_last s to f k h e = rw e (sym (pick_false _ _ (le-ltb _ _ h)))

-- where a frame is awaited, the rule is these two
pub timer_runs : (s : Station) (f : Frame) (to : ℕ) → state_of s ≡ Waiting → awaited_of s ≡ Some (f, to) → timer_rule s ≡ silence s to f
unfolding timer_rule on_timer
timer_runs s f to w e = moved_runs s Timer (on_timer s (awaited_of s)) (ap (λ st. move_of st Timer) (sym w)) refl ∙ rw e

pub timer_again : (s : Station) (f : Frame) (to : ℕ) → state_of s ≡ Waiting → awaited_of s ≡ Some (f, to) → s.turn.retries < s.limit → timer_rule s ≡ again s
timer_again s f to w e h = timer_runs s f to w e ∙ sym (silence_again s to f h)

pub timer_last : (s : Station) (f : Frame) (to : ℕ) → state_of s ≡ Waiting → awaited_of s ≡ Some (f, to) → s.limit ≤ s.turn.retries
    → timer_rule s ≡ after_strike (unanswered s to) to f
timer_last s f to w e h = timer_runs s f to w e ∙ sym (silence_last s to f (unanswered s to) h refl)
