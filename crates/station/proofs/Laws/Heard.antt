-- Laws of the rule for a heard frame: what each step is, when its parts are so. Assumes nothing.
use mathlib.Core.Path.{◌≡◌, refl, sym, ap, ◌∙◌}
use mathlib.Core.Bool.{false}
use Prim.Native.Nat.{ℕ, ◌<◌, ◌≤◌}
use borrow.Author.Tests.{le-leb, lt-leb}
use Rattle.parts.specs.Moves.{move_of, runs}
use Rattle.parts.specs.Messages.{pushed}
use Rattle.parts.specs.Frames.{number_of, failing_of, Dispatch}
use Rattle.station.specs.Stations.{state_of, with_receives, with_lost, add_up_to}
use Rattle.station.specs.Sight.{sight}
use Rattle.sent.specs.Round.{reply}
use Rattle.station.specs.Strike.{Struck}
use Rattle.station.specs.Heard.{Stored, acknowledge, failed, nothing_more, receive, stored, send_on, handle, respond, heard, checks, frame_rule}
use Rattle.parts.specs.declared.moves.Event.TheVariants.{Heard}
use Rattle.parts.specs.declared.list.Message.{Message}
use Rattle.parts.specs.declared.list.Messages.{Messages}
use Rattle.std.specs.Prelude.{Option, None, Some}
use Rattle.parts.specs.declared.frame.Frame.{Frame}
use Rattle.station.specs.declared.station.Station.{Station}
use Rattle.sent.specs.declared.round.Sight.{Sight}
use Rattle.parts.proofs.Laws.Choose.{pick_true, pick_false}
use Rattle.station.proofs.Laws.Moved.{moved_runs, unless_passes}

-- ---- stored, or counted lost

pub receives_none : (s : Station) (m : Message) (k : ℕ) → k ≡ add_up_to s.counts.lost 1 → 16 ≤ s.receives.len
    → ◌≡◌ {A = Stored} (record { station = with_lost s k; payload = None }) (receive s m)
unfolding receive
receives_none s m k e h = rw e (sym (pick_true _ _ (le-leb _ _ h)))

pub receives_one : (s t : Station) (m : Message) (l : Messages) → l ≡ pushed s.receives m → t ≡ with_receives s l → s.receives.len < 16
    → ◌≡◌ {A = Stored} (record { station = t; payload = Some m }) (receive s m)
unfolding receive
receives_one s t m l e f h = rw (f, e) (sym (pick_false _ _ (lt-leb _ _ h)))

-- ---- what is sent, or nothing

pub handles : (k : Struck) (t : Stored) (f : Frame) (n : ℕ) (v : Sight) (d : Dispatch) → n ≡ number_of f → v ≡ sight t.station → d ≡ reply v f
    → send_on k t n d ≡ handle k t f
unfolding handle
handles k t f n v d i j e = rw (e, j, i)

pub responds : (k : Struck) (from to : ℕ) (f : Frame) (n : ℕ) (t : Stored) → n ≡ number_of f → nothing_more k.station to n ≡ false
    → t ≡ stored k.station from f → handle k t f ≡ respond k from to f
unfolding respond
responds k from to f n t i h e = rw e (sym (pick_false _ _ (ap (nothing_more k.station to) (sym i) ∙ h)))

-- ---- the steps in order

pub hears : (s : Station) (f : Frame) (from to n : ℕ) (t : Station) (w : Option ℕ) (k : Struck) → n ≡ number_of f → t ≡ acknowledge s from n
    → w ≡ failing_of f → k ≡ failed t w → respond k from to f ≡ heard s f from to
unfolding heard
hears s f from to n t w k i j e g = rw (g, e, j, i)

-- where frames are heard and the checks pass, the rule is these steps
pub frame_runs : (s : Station) (f : Frame) (from to : ℕ) → move_of (state_of s) Heard ≡ runs → checks s from to ≡ 0 → frame_rule s f from to ≡ heard s f from to
unfolding frame_rule
frame_runs s f from to r c = moved_runs s Heard _ refl r ∙ unless_passes s (checks s from to) _ refl c
