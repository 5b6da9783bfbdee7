-- Laws of a delivered frame, position by position. Assumes nothing.
use mathlib.Core.Path.{◌≡◌, refl, sym, ap, ◌∙◌}
use mathlib.Core.Bool.{Bool, true, false, not, ◌&&◌}
use mathlib.Core.List.{List, [], ◌∷◌}
use Prim.Native.Nat.{ℕ, zero, suc, ◌+◌, ◌<◌, ◌≤◌}
use native.Mathlib.Nat.{add-zero, zero-add}
use native.Mathlib.Omega.{arith}
use lib.Dec.{ltb, eqb}
use lib.ListN.{length, get_or}
use borrow.Author.Tests.{lt-ltb, le-ltb, eq-eqb, ne_eqb}
use Rattle.parts.specs.Choose.{pick}
use Rattle.station.specs.Heard.{frame_rule}
use Rattle.station.specs.Stations.{answered}
use Rattle.parts.specs.declared.frame.Frame.{Frame}
use Rattle.station.specs.declared.station.Station.{Station}
use Rattle.station.specs.declared.station.Answer.{Answer}
use Rattle.parts.proofs.Laws.Choose.{pick_true, pick_false}
use Rattle.bench.specs.Ring.{nobody, station_at}
use Rattle.bench.specs.Delivery.{handed, delivered, reply_of, deliver_to, others, hearing}
use Rattle.bench.specs.declared.ring.Bench.{Bench}
use Rattle.bench.proofs.Laws.StandsBy.{either}

module _ (n : ℕ) (hears : ℕ → Bool) (f : Frame) (from to : ℕ) where
  pub delivered_length : (p : ℕ) (l : List Station) → length (delivered n hears f from to p l) ≡ length l
  unfolding delivered
  delivered_length p [] = refl
  delivered_length p (s ∷ ss) = ap suc (delivered_length (suc p) ss)

  -- each station is handed the frame by its position
  pub delivered_at : (p i : ℕ) (l : List Station) (d : Station) → i < length l
      → get_or (delivered n hears f from to p l) i d ≡ (handed n hears f from to (p + i) (get_or l i d)).station
  unfolding delivered
  delivered_at p i [] d h = absurd (omega arith)
  delivered_at p zero (s ∷ ss) d h = ap (λ (q : ℕ). (handed n hears f from to q s).station) (sym (add-zero p))
  delivered_at p (suc i) (s ∷ ss) d h =
      delivered_at (suc p) i ss d (omega arith)
      ∙ ap (λ (q : ℕ). (handed n hears f from to q (get_or ss i d)).station) (omega arith)

  -- a member that hears the frame answers by its rule; who does not, or is no member, stays as it is
  pub handed_hears : (p : ℕ) (s : Station) → p < n → hears p ≡ true → handed n hears f from to p s ≡ frame_rule s f from to
  unfolding handed
  handed_hears p s m h = pick_true _ _ (pick_true _ _ (lt-ltb p n m) ∙ h)

  pub handed_not : (p : ℕ) (s : Station) → hears p ≡ false → handed n hears f from to p s ≡ answered s 0
  unfolding handed
  handed_not p s h = pick_false _ _ (go (ltb p n))
    where
      go : (b : Bool) → pick b (hears p) false ≡ false
      go b = either (λ (x : Bool). x ≡ false) b _ _ h refl

  pub handed_outside : (p : ℕ) (s : Station) → n ≤ p → handed n hears f from to p s ≡ answered s 0
  unfolding handed
  handed_outside p s o = pick_false _ _ (pick_false _ _ (le-ltb p n o))

-- ---- the bench

module _ (hears : ℕ → Bool) (b : Bench) (f : Frame) (to : ℕ) where
  -- each station of the table has been handed the frame
  pub handed_at : (p : ℕ) → p < length b.stations → station_at (deliver_to hears b f to) p ≡ (handed b.n hears f b.wire.from to p (station_at b p)).station
  unfolding deliver_to
  handed_at p h =
      delivered_at b.n hears f b.wire.from to 0 p b.stations nobody h
      ∙ ap (λ (i : ℕ). (handed b.n hears f b.wire.from to i (station_at b p)).station) (zero-add p)

  pub heard_at : (p : ℕ) → p < length b.stations → p < b.n → hears p ≡ true
      → station_at (deliver_to hears b f to) p ≡ (frame_rule (station_at b p) f b.wire.from to).station
  heard_at p h m e = handed_at p h ∙ ap (λ (a : Answer). a.station) (handed_hears b.n hears f b.wire.from to p (station_at b p) m e)

  pub unheard_at : (p : ℕ) → p < length b.stations → hears p ≡ false → station_at (deliver_to hears b f to) p ≡ station_at b p
  unheard_at p h e = handed_at p h ∙ ap (λ (a : Answer). a.station) (handed_not b.n hears f b.wire.from to p (station_at b p) e)

  pub replies_at : to < b.n → hears to ≡ true → reply_of hears b f to ≡ (frame_rule (station_at b to) f b.wire.from to).sent
  unfolding reply_of
  replies_at m e = ap (λ (a : Answer). a.sent) (handed_hears b.n hears f b.wire.from to to (station_at b to) m e)

-- who hears on a perfect wire
pub others_hear : (from p : ℕ) → (p ≡ from → ⊥) → others from p ≡ true
others_hear from p o = ap not (ne_eqb p from o)

pub sender_not : (from p : ℕ) → p ≡ from → others from p ≡ false
sender_not from p e = ap not (eq-eqb p from e)

-- who hears a frame, by whether it is lost for its addressee
pub hearing_sender : (lost : Bool) (from to p : ℕ) → p ≡ from → hearing lost from to p ≡ false
hearing_sender false from to p e = sender_not from p e
hearing_sender true from to p e = ap (λ (b : Bool). b && not (eqb p to)) (sender_not from p e)

pub hearing_lost : (lost : Bool) (from to p : ℕ) → lost ≡ true → (p ≡ from → ⊥) → hearing lost from to p ≡ not (eqb p to)
hearing_lost lost from to p l o = rw l (ap (λ (b : Bool). b && not (eqb p to)) (others_hear from p o))

pub hearing_whole : (lost : Bool) (from to p : ℕ) → lost ≡ false → (p ≡ from → ⊥) → hearing lost from to p ≡ true
hearing_whole lost from to p l o = rw l (others_hear from p o)
