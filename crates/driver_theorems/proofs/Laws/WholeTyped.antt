-- A whole station whose numbers are small is one that the code can hold: every field is within its type. Assumes nothing.
use mathlib.Core.Path.{◌≡◌, refl, sym, ◌∙◌}
use mathlib.Core.Bool.{Bool, true, false}
use Prim.Native.Nat.{ℕ, suc, ◌<◌, ◌≤◌}
use native.Mathlib.Omega.{arith}
use lib.Dec.{ltb}
use lib.ListN.{length, get_or, take, drop, length-take, get_or-eq_default}
use lib.Seq.{get_or-take, split_at}
use borrow.Author.Tests.{ltb-true, ltb-false}
use Rattle.parts.specs.Messages.{all, blank}
use Rattle.station.specs.Stations.{awaited_of}
use Rattle.parts.specs.declared.list.Message.{Message}
use Rattle.parts.specs.declared.list.Messages.{Messages}
use Rattle.std.specs.Prelude.{Option, None, Some}
use Rattle.parts.specs.declared.frame.Frame.{Frame}
use Rattle.parts.specs.declared.frame.Frame.TheVariants.{Token, Transmit, Information}
use Rattle.parts.specs.Frames.{Dispatch}
use Rattle.station.specs.declared.station.Station.{Station}
use Rattle.station_theorems.specs.Shaped.{WholeStation}
use Rattle.station_theorems.specs.Small.{Small, SmallList, SmallDispatch, SmallHandled, SmallFrame, small_message}
use Rattle.station_theorems.specs.GoodList.{GoodList, GoodMessage}
use Rattle.station_theorems.specs.Awaited.{Proper}
use Rattle.station_theorems.proofs.Laws.Members.{standing, each_member}
use Rattle.station_theorems.proofs.Theorems.Whole.{whole_is}
use Rattle.record_theorems.specs.Typed.{TypedMessage, TypedList, TypedWhom, TypedFrame, TypedDispatch, TypedHandled, Typed}

-- ---- a list

blank_typed : TypedMessage blank
blank_typed = record { other_u8 = omega arith; priority_u8 = omega arith; channel_u8 = omega arith; length_u16 = omega arith; place_u8 = omega arith }

typed_is : (m b : Message) → m ≡ b → TypedMessage b → TypedMessage m
typed_is m b e t = rw e t

module _ (n own : ℕ) (few : n ≤ 64) (l : Messages) (g : GoodList n own l) (k : SmallList l) where
  message_typed : (m : Message) → GoodMessage n own m → m.priority < 256 → TypedMessage m
  message_typed m h p =
      record {
        other_u8 = omega (arith, h.member);
        priority_u8 = p;
        channel_u8 = omega (arith, h.channel_fits);
        length_u16 = omega (arith, h.length_fits);
        place_u8 = omega (arith, h.place_fits);
      }

  used_typed : (i : ℕ) → i < l.len → TypedMessage (get_or l.items i blank)
  used_typed i h =
      let long : length (all l) ≡ l.len = length-take l.len l.items ∙ omega (arith, g.at_most_sixteen, k.slots) in
      let m : Message = get_or (all l) i blank in
      let there = standing (take i (all l)) (drop (suc i) (all l)) m (all l) (split_at (all l) i blank (omega (arith, long))) in
      typed_is _ m (sym (get_or-take l.len l.items i blank h))
      (message_typed m (g.each_good m there) (ltb-true _ _ (each_member small_message there k.messages)))

  slot_typed : (i : ℕ) → TypedMessage (get_or l.items i blank)
  slot_typed i = go (ltb i l.len) refl (ltb i 16) refl
    where
      go : (a : Bool) → ltb i l.len ≡ a → (b : Bool) → ltb i 16 ≡ b → TypedMessage (get_or l.items i blank)
      go true a b c = used_typed i (ltb-true _ _ a)
      go false a true c = typed_is _ blank (g.blank_behind i (ltb-false _ _ a) (ltb-true _ _ c)) blank_typed
      go false a false c = typed_is _ blank (get_or-eq_default l.items blank (omega (arith, k.slots, ltb-false i 16 c))) blank_typed

  pub list_typed : TypedList l
  list_typed = record { slots = k.slots; each = slot_typed }

-- ---- the awaited frame

whom_typed : (n : ℕ) → n ≤ 64 → (w : Option ℕ) → ((p : ℕ) → w ≡ Some p → p < n) → TypedWhom w
whom_typed n few None h = tt
whom_typed n few (Some p) h = omega (arith, few, h p refl)

module _ (n own : ℕ) (few : n ≤ 64) (l : Messages) (g : GoodList n own l) where
  frame_typed : (f : Frame) (to : ℕ) → Proper n own l f to → SmallFrame f → TypedFrame f
  frame_typed (Token t) to p k =
      record {
        number_u16 = k.number;
        priority_u8 = k.priority;
        master_u8 = omega (arith, few, p.fits_to_write.master_member);
        failing_u8 = whom_typed n few t.failing p.fits_to_write.failing_member;
        named_u8 = omega (arith, few, p.fits_to_write.named_member);
      }
  frame_typed (Transmit t) to p k =
      record {
        number_u16 = k.number;
        priority_u8 = k.priority;
        master_u8 = omega (arith, few, p.fits_to_write.master_member);
        named_u8 = omega (arith, few, p.fits_to_write.named_member);
      }
  frame_typed (Information i) to p k =
      let c = p.carries in
      record {
        number_u16 = k.number;
        priority_u8 = k.priority;
        channel_u8 = omega (arith, p.fits_to_write.channel_fits);
        length_u16 = omega (arith, p.fits_to_write.length_fits);
        place_u8 = omega (arith, c.same_place, (g.each_good c.message c.there).place_fits);
      }

  dispatch_typed : (d : Dispatch) → ((f : Frame) (to : ℕ) → d ≡ Some (f, to) → Proper n own l f to) → SmallDispatch d → TypedDispatch d
  dispatch_typed None p k = tt
  dispatch_typed (Some (f, to)) p k = (frame_typed f to (p f to refl) k, omega (arith, few, (p f to refl).member))

handled_typed : (h : Option ℕ) → SmallHandled h → TypedHandled h
handled_typed None k = tt
handled_typed (Some j) k = k

-- ---- the station

pub whole_typed : (n limit : ℕ) (s : Station) → WholeStation s → Small n limit s → Typed s
whole_typed n limit s w k =
    let h = whole_is s w.shaped w.is_whole in
    let few : s.n ≤ 64 = h.good_ring.most_members in
    record {
      own_u8 = omega (arith, few, h.good_ring.member);
      seats = w.shaped.seats;
      sends = list_typed s.n s.own few s.sends h.sends k.sends;
      receives = list_typed s.n s.own few s.receives h.receives k.receives;
      turn =
          record {
            awaited = dispatch_typed s.n s.own few s.sends h.sends (awaited_of s) h.awaited.each_proper k.awaited;
            handled = handled_typed s.turn.handled k.handled;
            retries_u8 = omega (arith, h.retries_fit, h.good_ring.most_retries);
          };
      lost_u32 = k.lost;
      givenup_u32 = k.givenup;
    }
