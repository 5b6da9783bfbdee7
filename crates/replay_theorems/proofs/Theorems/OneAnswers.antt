-- A frame record takes the oldest frame, and does nothing with none. Only the addressee answers the frame: whoever else hears it sends
-- nothing; so a frame record takes one frame and adds at most one. Assumes nothing.
use mathlib.Core.Path.{◌≡◌, refl, sym, ap, ◌∙◌}
use mathlib.Core.Bool.{Bool, true, false, false≢true}
use mathlib.Core.List.{List, [], ◌∷◌}
use Prim.Native.Nat.{ℕ, ◌≤◌}
use native.Mathlib.Omega.{arith}
use lib.Dec.{ltb}
use lib.ListN.{length}
use borrow.Author.Tests.{ltb-true, ltb-false}
use Rattle.std.specs.Prelude.{None}
use Rattle.station.specs.declared.station.Answer.{Answer}
use Rattle.bench.proofs.Laws.Delivered.{handed_outside}
use Rattle.capture.specs.declared.record.Event.{Event}
use Rattle.capture.specs.declared.record.Event.TheVariants.{Delivered, LostForAddressee, LostForAll, Timer, Queue}
use Rattle.day.specs.declared.wire.Flying.{Flying}
use Rattle.day.specs.Day.{Day, most_frames, member_at, start_day}
use Rattle.day.specs.Records.{hearers, answer_of, reply_to, after_frame, take_frame, after_record}
use Rattle.replay.specs.Runs.{Record, gone, begun}
use Rattle.replay_theorems.specs.WholeDay.{WholeDay}
use Rattle.replay_theorems.specs.OneAnswers.{is_frame, FrameRecord}
use Rattle.replay_theorems.proofs.Laws.Placed.{frame_silent}
use Rattle.replay_theorems.proofs.Laws.Handing.{handed_keeps, frame_at, frame_wire, joining_few}
use Rattle.replay_theorems.proofs.Theorems.StaysWhole.{stays_whole}

-- a frame record is a frame taken
taken : (d : Day) (e : Event) → is_frame e ≡ true → after_record d e ≡ take_frame e d d.wire
unfolding after_record
taken d Delivered h = refl
taken d LostForAddressee h = refl
taken d LostForAll h = refl
taken d (Timer p) h = absurd (false≢true h)
taken d (Queue p q) h = absurd (false≢true h)

none_taken : (e : Event) (d : Day) → take_frame e d [] ≡ d
unfolding take_frame
none_taken e d = refl

one_taken : (e : Event) (d : Day) (f : Flying) (rest : List Flying) → take_frame e d (f ∷ rest) ≡ after_frame (hearers e f) d f rest
unfolding take_frame
one_taken e d f rest = refl

module _ {n limit : ℕ} {d : Day} (w : WholeDay n limit d) (most : n ≤ 64) where
  silent : (hears : ℕ → Bool) (f : Flying) (p : ℕ) → (p ≡ f.to → ⊥) → (answer_of hears d f p).sent ≡ None
  silent hears f p o = go (ltb p n) refl
    where
      go : (t : Bool) → ltb p n ≡ t → (answer_of hears d f p).sent ≡ None
      go true x =
          handed_keeps (λ (a : Answer). a.sent ≡ None) d.n hears f.frame f.from f.to p (member_at d p)
          (frame_silent (member_at d p) f.frame f.from f.to (λ e. o (sym (e ∙ (w.members p (ltb-true p n x)).own))))
          refl
      go false x =
          ap (λ (a : Answer). a.sent) (handed_outside d.n hears f.frame f.from f.to p (member_at d p) (omega (arith, w.size, ltb-false p n x)))

  frame_record : (e : Event) → is_frame e ≡ true → FrameRecord d e
  frame_record e h =
      record {
        with_none = λ x. taken d e h ∙ ap (take_frame e d) x ∙ none_taken e d;
        with_some = λ f rest x.
            let is : after_record d e ≡ after_frame (hearers e f) d f rest = taken d e h ∙ ap (take_frame e d) x ∙ one_taken e d f rest in
            record {
              stations_after = λ p i.
                  ap (λ (c : Day). member_at c p) is ∙ frame_at (hearers e f) d f rest p (omega (arith, w.table, w.size));
              others_silent = silent (hearers e f) f;
              wire_after = ap (λ (c : Day). c.wire) is ∙ frame_wire (hearers e f) d f rest;
              at_most_one = joining_few f.to (reply_to (hearers e f) d f);
            };
      }

pub one_answers : (n limit : ℕ) → 2 ≤ n → n ≤ 64 → 1 ≤ limit → limit ≤ 15 → (rs : List Record) (e : Event) → is_frame e ≡ true
    → FrameRecord (gone (begun (start_day n limit)) rs).day e
one_answers n limit two most low high rs e h = frame_record (stays_whole n limit two most low high rs) most e h

-- and there are never more than 64
pub never_more : (n limit : ℕ) → 2 ≤ n → n ≤ 64 → 1 ≤ limit → limit ≤ 15 → (rs : List Record) → length (gone (begun (start_day n limit)) rs).day.wire ≤ most_frames
never_more n limit two most low high rs = (stays_whole n limit two most low high rs).never_more
