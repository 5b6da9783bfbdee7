-- What a member of a quiet ring replies: a frame with the next number, that takes the round a step further. Assumes nothing.
use mathlib.Core.Path.{◌≡◌, refl}
use mathlib.Core.Bool.{Bool, true, false, cond}
use Prim.Native.Nat.{ℕ, ◌+◌, ◌<◌, ◌≤◌}
use native.Mathlib.Omega.{arith}
use lib.Dec.{eqb}
use borrow.Author.Tests.{eqb-true, eqb-false}
use Rattle.parts.proofs.Laws.Choose.{map_or_keeps}
use Rattle.parts.specs.Choose.{pick}
use Rattle.parts.specs.Live.{after}
use Rattle.parts.specs.Frames.{number_of, next, Dispatch}
use Rattle.sent.specs.Round.{priority_of, opening, carrying, start_round, information_of, send_head}
use Rattle.parts.specs.declared.list.Message.{Message}
use Rattle.std.specs.Prelude.{Option, None, Some}
use Rattle.parts.specs.declared.frame.Frame.{Frame}
use Rattle.parts.specs.declared.frame.Frame.TheVariants.{Token, Information}
use Rattle.bench_theorems.specs.Quiet.{longest, Phase, token, information, Offers, no_bid, bid, sent}
use Rattle.bench_theorems.proofs.Laws.Longest.{longest_information, longest_round}
use Rattle.bench_theorems.proofs.Laws.Answering.{view}

-- d is the next frame after f from `from`, sent by the station at p with the head h
pub record Replied (n from : ℕ) (f : Frame) (p : ℕ) (h : Option Message) (d : Dispatch) : Type 0 where
  pub frame : Frame
  pub to : ℕ
  pub sent : d ≡ Some (frame, to)
  pub number : number_of frame ≡ next (number_of f)
  pub phase : Phase n p to frame
  pub longer : (q : ℕ) → q < n → (q ≡ p → ⊥) → longest n from f q + 1 ≤ longest n p frame q
  pub offers : (heads : ℕ → ℕ) → heads p ≡ priority_of h → Offers heads f → Offers heads frame

pub either : (P : Dispatch → Type 0) (b : Bool) (x y : Dispatch) → (b ≡ true → P x) → (b ≡ false → P y) → P (pick b x y)
unfolding pick
either P true x y p q = p refl
either P false x y p q = q refl

pub first_of : (P : Dispatch → Type 0) (b : Bool) (x y : Dispatch) → (b ≡ true → P x) → (b ≡ false → P y) → P (cond b x y)
first_of P true x y p q = p refl
first_of P false x y p q = q refl

-- a token in its own name offers what its master has
own_offer : (heads : ℕ → ℕ) (p pr k : ℕ) (w : Option ℕ) → heads p ≡ pr → Offers heads (Token (opening p pr k w))
own_offer heads p pr k w e = go (eqb pr 0) refl
  where
    go : (b : Bool) → eqb pr 0 ≡ b → Offers heads (Token (opening p pr k w))
    go true t = no_bid (opening p pr k w) (eqb-true pr 0 t) refl
    go false t = let some : pr ≡ 0 → ⊥ = eqb-false pr 0 t in bid (opening p pr k w) (omega (arith, some)) (omega arith)

module _ (n p : ℕ) (place : p < n) (h : Option Message) (from : ℕ) (f : Frame) where
  pub round_replied : ((q : ℕ) → longest n from f q ≤ n + 2) → Replied n from f p h (start_round (view n p h) (next (number_of f)) None)
  unfolding start_round
  round_replied few =
      record {
        frame = Token (opening p (priority_of h) (next (number_of f)) None);
        to = after n p;
        sent = refl;
        number = refl;
        phase = token (opening p (priority_of h) (next (number_of f)) None) refl refl (omega arith);
        longer = λ q m o. omega (arith, few q, longest_round n p (priority_of h) (next (number_of f)) None q place m o);
        offers = λ heads e x. own_offer heads p (priority_of h) (next (number_of f)) None e;
      }

  information_replied : ((q : ℕ) → longest n from f q ≤ n + 1) → (m : Message) → Replied n from f p h (information_of (next (number_of f)) m)
  information_replied few m =
      record {
        frame = Information (carrying (next (number_of f)) m);
        to = m.other;
        sent = refl;
        number = refl;
        phase = information _;
        longer = λ q i o. omega (arith, few q, longest_information n p (carrying (next (number_of f)) m) q);
        offers = λ heads e x. sent _;
      }

  pub send_replied : ((q : ℕ) → longest n from f q ≤ n + 1) → Replied n from f p h (send_head (view n p h) (next (number_of f)))
  unfolding send_head
  send_replied few =
      map_or_keeps (Replied n from f p h) _ h _ (information_replied few) (round_replied (λ q. omega (arith, few q)))
