-- Striking: after a heard frame and after the timer the live set is the old one without the told station; who is told was live, and is a
-- heard token's failing station, or the addressee at the last timer; each of these is struck. Assumes nothing.
use mathlib.Core.Path.{◌≡◌, sym, ap, ◌∙◌}
use mathlib.Core.Bool.{true}
use Prim.Native.Nat.{ℕ}
use Rattle.parts.specs.Live.{live_at}
use Rattle.parts.specs.Frames.{failing_of, Dispatch}
use Rattle.station.specs.Heard.{heard, frame_rule}
use Rattle.station.specs.Timer.{timer_rule}
use Rattle.std.specs.Prelude.{Option, None, Some}
use Rattle.parts.specs.declared.frame.Frame.{Frame}
use Rattle.station.specs.declared.station.Station.{Station}
use Rattle.station.specs.declared.station.Answer.{Answer}
use Rattle.station.proofs.Laws.Heard.{frame_runs}
use Rattle.station.proofs.Laws.Timer.{timer_last}
use Rattle.station_theorems.specs.Striking.{Strikes, FailingHeard, LastTimer, IsStruck}
use Rattle.station_theorems.proofs.Laws.Telling.{left, nobody_no_member, same_member, told_struck, nobody_left}
use Rattle.station_theorems.proofs.Laws.Told.{AnswerFrom, tells_hearing, tells_answered, tells_again, tells_last, either_frame, either_timer}

strikes : (s : Station) (a : Answer) (may : ℕ → Type 0) (w : Option ℕ) → AnswerFrom s w a → ((p : ℕ) → w ≡ Some p → may p) → Strikes s a may
strikes s a may w t m =
    let struck : (p : ℕ) → a.struck ≡ Some p → (w ≡ Some p) × (live_at s.live p ≡ true) = λ p e. told_struck s.live w p (sym t.told_is ∙ e) in
    record {
      told_leaves = λ p e. t.live_left ∙ ap (left s.live) (struck p e).0;
      told_was_live = λ p e. (struck p e).1;
      told_only = λ p e. m p (struck p e).0;
      nobody_leaves = λ e. t.live_left ∙ nobody_left s.live w (sym t.told_is ∙ e);
    }

strikes_nobody : (s : Station) (a : Answer) (may : ℕ → Type 0) → AnswerFrom s None a → Strikes s a may
strikes_nobody s a may t = strikes s a may None t (λ p e. absurd (nobody_no_member p e))

-- ---- a heard frame: only a token's failing station is told, where frames are heard and the checks pass

pub frame_strikes : (s : Station) (f : Frame) (from to : ℕ) → Strikes s (frame_rule s f from to) (FailingHeard s f from to)
frame_strikes s f from to =
    let may : ℕ → Type 0 = FailingHeard s f from to in
    either_frame (λ a. Strikes s a may) s (λ n. strikes_nobody s _ may (tells_answered s n)) f from to
    (λ r c. strikes s (heard s f from to) may (failing_of f) (tells_hearing s f from to) (λ p e. record { hears = r; passed = c; failing_is = e }))

-- ---- the timer: only the addressee of the awaited frame is told, where the retries are not below the limit

same_place : (f : Frame) (p q : ℕ) → Some p ≡ Some q → ◌≡◌ {A = Dispatch} (Some (f, p)) (Some (f, q))
same_place f p q e = ap (λ (q : ℕ). Some (f, q)) (same_member p q e)

pub timer_strikes : (s : Station) → Strikes s (timer_rule s) (LastTimer s)
timer_strikes s =
    either_timer (λ a. Strikes s a (LastTimer s)) s (λ n. strikes_nobody s _ (LastTimer s) (tells_answered s n))
    (strikes_nobody s _ (LastTimer s) (tells_again s))
    (λ f to w e l. strikes s _ (LastTimer s) (Some to) (tells_last s to f)
    (λ p same. record { waits = w; frame = f; awaits = e ∙ same_place f to p same; last = l }))

-- ---- and each of these is struck, and told if it was live

is_struck : (s : Station) (p : ℕ) (a b : Answer) → a ≡ b → AnswerFrom s (Some p) b → IsStruck s p a
is_struck s p a b e t = rw e (record { live_without = t.live_left; told_if_live = t.told_is })

pub frame_strikes_failing : (s : Station) (f : Frame) (from to p : ℕ) → FailingHeard s f from to p → IsStruck s p (frame_rule s f from to)
frame_strikes_failing s f from to p h =
    is_struck s p _ (heard s f from to) (frame_runs s f from to h.hears h.passed)
    (rw h.failing_is at (tells_hearing s f from to))

pub timer_strikes_addressee : (s : Station) (p : ℕ) → LastTimer s p → IsStruck s p (timer_rule s)
timer_strikes_addressee s p h = is_struck s p _ _ (timer_last s h.frame p h.waits h.awaits h.last) (tells_last s p h.frame)
