-- "One missed frame heals."
use Rattle.std.specs.Prelude.{◌≡◌, Bool, true, false, List, ℕ, ◌<◌, None, Some}
use Rattle.parts.specs.Messages.{none}
use Rattle.station.specs.Heard.{frame_rule}
use Rattle.station.specs.Timer.{timer_rule}
use Rattle.parts.specs.declared.frame.Frame.{Frame}
use Rattle.parts.specs.Frames.{Dispatch}
use Rattle.station.specs.declared.station.Answer.{Answer}
use Rattle.bench.specs.Ring.{station_at}
use Rattle.bench.specs.Delivery.{step}
use Rattle.bench.specs.Runs.{Event, final, frames}
use Rattle.bench.specs.declared.ring.Bench.{Bench}
use Rattle.acknowledging.specs.Missing.{heard_but, miss, timer_at, Retries, Meanwhile, afresh}

-- nobody is struck, and no message is given up
pub record Spares (a : Answer) : Type 0 where
  pub nobody_struck : a.struck ≡ None
  pub none_given_up : a.gone ≡ none

-- so in every call of a step in which the stations told by `misses` miss the frame on the wire
unfoldable pub SparesOn : (ℕ → Bool) → Bench → Dispatch → Type 0
SparesOn misses b None = Unit {0}
SparesOn misses b (Some (f, to)) =
    (p : ℕ) → p < b.n → heard_but misses b.wire.from p ≡ true → Spares (frame_rule (station_at b p) f b.wire.from to)

abbrev pub SparesAll : (ℕ → Bool) → Bench → Type 0
SparesAll misses b = SparesOn misses b b.wire.sent

-- nobody misses it
abbrev pub no_one : ℕ → Bool
no_one p = false

-- the addressee hears the frame: it composes the next one at once, and when that has been heard the bench is as if nothing had been missed
pub record AtOnce (misses : ℕ → Bool) (b : Bench) : Type 0 where
  pub next_frame : (miss misses b).wire ≡ (step b).wire
  pub spares_all : SparesAll no_one (miss misses b)
  pub healed : step (miss misses b) ≡ step (step b)

-- the timer of b's sender has run
abbrev pub resent : Bench → Bench → Bench
resent b c = timer_at c b.wire.from

-- in c the sender's timer runs, and everybody hears the frame that goes again: the bench is as if nothing had been missed, and so it stays in
-- every run from then on, retry counts apart
pub record ByTimer (b c : Bench) : Type 0 where
  pub timer_spares : Spares (timer_rule (station_at c b.wire.from))
  pub same_frame : (resent b c).wire ≡ b.wire
  pub spares_all : SparesAll no_one (resent b c)
  pub healed : afresh (step (resent b c)) ≡ step b
  pub same_bench : (es : List Event) → afresh (final (step (resent b c)) es) ≡ final (step b) es
  pub same_frames : (es : List Event) → frames (step (resent b c)) es ≡ frames (step b) es

-- in c the timer of another station runs, and its frame is missed by some
pub record Harmless (misses : ℕ → Bool) (c : Bench) (p : ℕ) : Type 0 where
  pub timer_spares : Spares (timer_rule (station_at c p))
  pub spares_all : SparesAll misses (timer_at c p)

-- the frame on the wire is missed by the stations told by `misses`, whichever they are: its addressee is among them or not
pub record Heals (misses : ℕ → Bool) (b : Bench) : Type 0 where
  pub frame : Frame
  pub to : ℕ
  pub on_wire : b.wire.sent ≡ Some (frame, to)
  pub spares_all : SparesAll misses b
  pub heard : misses to ≡ false → AtOnce misses b
  pub unanswered : misses to ≡ true → (miss misses b).wire.sent ≡ None
  pub meanwhile : misses to ≡ true → (c : Bench) → Meanwhile b.wire.from (miss misses b) c → (p : ℕ) → Retries b.wire.from c p
      → (others : ℕ → Bool) → Harmless others c p
  pub missed : misses to ≡ true → (c : Bench) → Meanwhile b.wire.from (miss misses b) c → ByTimer b c
