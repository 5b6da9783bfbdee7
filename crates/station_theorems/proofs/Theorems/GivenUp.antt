-- The given-up count: after a heard frame and after the timer it is more by exactly the number of messages told, up to its stop 4,294,967,295.
-- Assumes nothing.
use mathlib.Core.Path.{◌≡◌, sym, ap, ◌∙◌}
use Prim.Native.Nat.{ℕ}
use Rattle.station.specs.Stations.{add_up_to}
use Rattle.parts.specs.Frames.{failing_of}
use Rattle.station.specs.Heard.{heard, frame_rule}
use Rattle.station.specs.Timer.{timer_rule}
use Rattle.std.specs.Prelude.{Option, None, Some}
use Rattle.parts.specs.declared.frame.Frame.{Frame}
use Rattle.station.specs.declared.station.Station.{Station}
use Rattle.station.specs.declared.station.Answer.{Answer}
use Rattle.station_theorems.specs.GivenUp.{messages_told, CountsGivenUp}
use Rattle.station_theorems.proofs.Laws.Telling.{roomy_length, counts_all, counts_stop}
use Rattle.station_theorems.proofs.Laws.Told.{AnswerFrom, tells_hearing, tells_answered, tells_again, tells_last, either_frame, either_timer}

counts : (s : Station) (a : Answer) (w : Option ℕ) → AnswerFrom s w a → CountsGivenUp s a
counts s a w t =
    let told : a.station.counts.givenup ≡ add_up_to s.counts.givenup (messages_told a) =
    t.counted_up ∙ ap (add_up_to s.counts.givenup) (sym (roomy_length a.gone t.listed)) in
    record {
      counts_exactly = λ h. told ∙ counts_all s.counts.givenup (messages_told a) h;
      counts_up_to = λ b h. told ∙ counts_stop s.counts.givenup (messages_told a) b h;
    }

pub frame_counts_given_up : (s : Station) (f : Frame) (from to : ℕ) → CountsGivenUp s (frame_rule s f from to)
frame_counts_given_up s f from to =
    either_frame (CountsGivenUp s) s (λ n. counts s _ None (tells_answered s n)) f from to
    (λ r c. counts s (heard s f from to) (failing_of f) (tells_hearing s f from to))

pub timer_counts_given_up : (s : Station) → CountsGivenUp s (timer_rule s)
timer_counts_given_up s =
    either_timer (CountsGivenUp s) s (λ n. counts s _ None (tells_answered s n))
    (counts s _ None (tells_again s))
    (λ f to w e l. counts s _ (Some to) (tells_last s to f))
