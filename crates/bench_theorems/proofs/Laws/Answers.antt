-- What each station of a quiet ring answers to the frame on the wire. Assumes nothing.
use mathlib.Core.Path.{◌≡◌, refl, sym, ◌∙◌}
use mathlib.Core.Bool.{Bool, true, false}
use Prim.Native.Nat.{ℕ, ◌<◌}
use native.Mathlib.Omega.{arith}
use lib.Dec.{eqb}
use borrow.Author.Tests.{eqb-true, eqb-false}
use Rattle.parts.specs.Frames.{number_of, failing_of}
use Rattle.station.specs.Stations.{state_of, awaited_of, head}
use Rattle.sent.specs.Round.{reply}
use Rattle.station.specs.Heard.{is_last, frame_rule}
use Rattle.wholeness.specs.Whole.{carried}
use Rattle.parts.specs.declared.moves.State.TheVariants.{Waiting}
use Rattle.std.specs.Prelude.{None, Some}
use Rattle.parts.specs.declared.frame.Frame.{Frame}
use Rattle.station.specs.declared.station.Station.{Station}
use Rattle.parts.proofs.Laws.Ahead.{next_ahead}
use Rattle.bench_theorems.specs.Quiet.{Stands, sender, last_sender, at_rest, Phase, token, transmit, information, Picture}
use Rattle.bench_theorems.proofs.Laws.Numbers.{not_last}
use Rattle.bench_theorems.proofs.Laws.Listening.{Listens, idle, waits, ahead_acknowledges}
use Rattle.bench_theorems.proofs.Laws.Hearing.{Hears}
use Rattle.bench_theorems.proofs.Laws.Longest.{longest_below}
use Rattle.bench_theorems.proofs.Laws.Answering.{view, Silent, Answering, stays_silent, gives_answer}
use Rattle.bench_theorems.proofs.Laws.Replies.{Replied}
use Rattle.bench_theorems.proofs.Laws.Awaiting.{awaited_there}
use Rattle.bench_theorems.proofs.Laws.TokenReplies.{reply_replied}

-- ---- who a station is to a frame

pub data Role (from to p : ℕ) : Type 0 where
  sends : p ≡ from → Role from to p
  answers : p ≡ to → (p ≡ from → ⊥) → Role from to p
  overhears : (p ≡ to → ⊥) → (p ≡ from → ⊥) → Role from to p

pub role : (from to p : ℕ) → Role from to p
role from to p = go (eqb p from) refl (eqb p to) refl
  where
    go : (a : Bool) → eqb p from ≡ a → (b : Bool) → eqb p to ≡ b → Role from to p
    go true x b y = sends (eqb-true p from x)
    go false x true y = answers (eqb-true p to y) (eqb-false p from x)
    go false x false y = overhears (eqb-false p to y) (eqb-false p from x)

pub nobody_failing : {n from to : ℕ} {f : Frame} → Phase n from to f → failing_of f ≡ None
nobody_failing (token t w a b) = w
nobody_failing (transmit t m a) = refl
nobody_failing (information i) = refl

-- everybody but the sender is Idle or acknowledged
pub stands_listens : {from before : ℕ} {f : Frame} {to p : ℕ} {s : Station} → (p ≡ from → ⊥) → Stands from before f to p s → Listens from (number_of f) s
stands_listens o (sender e w a) = absurd (o e)
stands_listens {from} {f = f} {s = s} o (last_sender x e w g a k) =
    waits w (ahead_acknowledges s from (number_of f) g from w a ∙ next_ahead (number_of g) (number_of f) k)
stands_listens o (at_rest x y i) = idle i

-- the sender waits for the frame
pub record Waits (f : Frame) (to : ℕ) (s : Station) : Type 0 where
  pub waiting : state_of s ≡ Waiting
  pub awaited : awaited_of s ≡ Some (f, to)

pub stands_waits : {from before : ℕ} {f : Frame} {to p : ℕ} {s : Station} → p ≡ from → Stands from before f to p s → Waits f to s
stands_waits e (sender x w a) = record { waiting = w; awaited = a }
stands_waits e (last_sender o x w g a k) = absurd (o e)
stands_waits e (at_rest o x i) = absurd (o e)

-- ---- what each answers

module _ {n limit : ℕ} {at : ℕ → Station} {from : ℕ} {f : Frame} {to : ℕ} (w : Picture n limit at from f to) where
  pub hears_at : (p : ℕ) → p < n → (p ≡ from → ⊥) → Hears n limit p (at p) f from to
  hears_at p h o =
      record {
        some_members = w.some_members;
        most_members = w.most_members;
        place = h;
        member = w.members p h;
        listens = stands_listens o (w.turns p h);
        sender = w.sender_member;
        addressee = w.addressee_member;
        apart = λ e. w.another (sym e);
        another = λ e. o (sym e);
        nobody = nobody_failing w.phase;
        fits = w.fits;
      }

  pub silent_at : (p : ℕ) → p < n → (p ≡ from → ⊥) → (p ≡ to → ⊥) → Silent n limit p (at p) (frame_rule (at p) f from to)
  silent_at p h o x = stays_silent (hears_at p h o) (λ e. x (sym e))

  -- the addressee has not handled the frame
  pub fresh : is_last (at to).turn.handled (number_of f) ≡ false
  fresh = not_last (w.handled to w.addressee_member) (omega (arith, longest_below n from f to w.some_members w.fits, w.most_members))

  pub answer_at : Answering n limit to f (at to) (frame_rule (at to) f from to)
  answer_at = gives_answer (hears_at to w.addressee_member w.another) refl fresh

  pub reply_at : Replied n from f to (head (at to)) (reply (view n to (head (at to))) f)
  reply_at = reply_replied n w.most_members to w.addressee_member (head (at to)) from w.sender_member w.phase w.fits

  -- so the addressee sends a frame
  pub new_sent : (frame_rule (at to) f from to).sent ≡ Some (reply_at.frame, reply_at.to)
  new_sent = answer_at.sent ∙ reply_at.sent

  -- and a message that the frame on the wire carries is in flight at its sender
  pub carried_there : carried (at from).sends f to ≡ true
  carried_there =
      let s = stands_waits refl (w.turns from w.sender_member) in
      awaited_there (w.members from w.sender_member) s.awaited
