-- The reply to a token, to a transmit token and to information, at a member of a quiet ring. Assumes nothing.
use mathlib.Core.Path.{◌≡◌, refl, sym, ap, subst, ◌∙◌}
use mathlib.Core.Bool.{Bool, true, false}
use Prim.Native.Nat.{ℕ, ◌+◌, ◌<◌, ◌≤◌}
use native.Mathlib.Omega.{arith}
use lib.Dec.{ltb, eqb}
use borrow.Author.Tests.{leb-false, eqb-true, eqb-false, ltb-true}
use Rattle.parts.specs.Choose.{pick}
use Rattle.parts.specs.Live.{after}
use Rattle.parts.specs.Frames.{next, fit, Dispatch}
use Rattle.sent.specs.Round.{priority_of, granting, passing, grant, returned, bid_of, own_bid, cleared, raised, forward, pass_on, on_token, reply}
use Rattle.parts.specs.declared.list.Message.{Message}
use Rattle.std.specs.Prelude.{Option, None, Some}
use Rattle.parts.specs.declared.frame.TokenFrame.{TokenFrame}
use Rattle.parts.specs.declared.frame.Frame.{Frame}
use Rattle.parts.specs.declared.frame.Frame.TheVariants.{Token, Transmit, Information}
use Rattle.sent.specs.declared.round.Bid.{Bid}
use Rattle.parts.proofs.Laws.Choose.{pick_true}
use Rattle.station_theorems.proofs.Laws.Sending.{passes}
use Rattle.bench_theorems.specs.Quiet.{offset, longest, Phase, token, transmit, information, Offers, no_bid, bid, granted}
use Rattle.bench_theorems.proofs.Laws.Offset.{offset_more}
use Rattle.bench_theorems.proofs.Laws.Longest.{longest_transmit, longest_information, longest_back, longest_on}
use Rattle.bench_theorems.proofs.Laws.FullSet.{full_live}
use Rattle.bench_theorems.proofs.Laws.Answering.{view}
use Rattle.bench_theorems.proofs.Laws.Replies.{Replied, either, first_of, round_replied, send_replied}

-- ---- what is offered

-- a token of another number offers the same
renumbered : {heads : ℕ → ℕ} {t : TokenFrame} (j : ℕ) (w : Option ℕ) → Offers heads (Token t) → Offers heads (Token (passing j t w (bid_of t)))
renumbered j w (no_bid t z e) = no_bid _ z e
renumbered j w (bid t a b) = bid _ a b

-- what a token offers is granted
grants : {heads : ℕ → ℕ} {t : TokenFrame} (j p : ℕ) → (t.priority ≡ 0 → ⊥) → Offers heads (Token t) → Offers heads (Transmit (granting j t.priority p t.named))
grants j p some (no_bid t z e) = absurd (some z)
grants j p some (bid t a b) = granted _ a b

-- ---- a token

module _ (n : ℕ) (most : n ≤ 64) (p : ℕ) (place : p < n) (h : Option Message) (from : ℕ) (sender : from < n) (t : TokenFrame) (nobody : t.failing ≡ None) (master : t.master < n) (name : t.named < n) (at : p ≡ after n from) where
  abbrev m : ℕ
  m = t.master

  abbrev k : ℕ
  k = t.number

  abbrev asked_by : Frame
  asked_by = Token t

  abbrev Reply : Dispatch → Type 0
  Reply = Replied n from asked_by p h

  -- back at its master
  module _ (back : m ≡ p) where
    all_asked : (q : ℕ) → longest n from asked_by q ≡ n
    all_asked q = longest_back n from t q master sender (sym at ∙ sym back)

    grant_replied : (t.priority ≡ 0 → ⊥) → Reply (grant (view n p h) (next k) t.priority t.named)
    unfolding grant
    grant_replied some =
        either Reply _ _ _
        (λ e.
        record {
          frame = Transmit (granting (next k) t.priority p t.named);
          to = t.named;
          sent = refl;
          number = refl;
          phase = transmit _ refl refl;
          longer = λ q i o. omega (arith, all_asked q, longest_transmit n p (granting (next k) t.priority p t.named) q);
          offers = λ heads x y. grants (next k) p some y;
        })
        (λ e. round_replied n p place h from asked_by (λ q. omega (arith, all_asked q)))

    returned_replied : Reply (returned (view n p h) (next k) t.priority t.named)
    unfolding returned
    returned_replied =
        first_of Reply _ _ _
        (λ e. round_replied n p place h from asked_by (λ q. omega (arith, all_asked q)))
        (λ e. first_of Reply (eqb t.named p) _ _
        (λ e'. send_replied n p place h from asked_by (λ q. omega (arith, all_asked q)))
        (λ e'. grant_replied (eqb-false t.priority 0 e)))

  -- on its way
  module _ (other : p ≡ m → ⊥) (asked : offset n m t.named ≤ offset n m from) where
    abbrev on : Bid → TokenFrame
    on b = passing (next k) t t.failing b

    more : offset n m p ≡ offset n m from + 1
    more = ap (offset n m) at ∙ offset_more n m master from sender (λ x. other (at ∙ x))

    on_replied : (b : Bid) → offset n m b.named ≤ offset n m p
        → ((heads : ℕ → ℕ) → heads p ≡ priority_of h → Offers heads asked_by → Offers heads (Token (on b)))
        → Reply (Some (Token (on b), after n p))
    on_replied b a x =
        record {
          frame = Token (on b);
          to = after n p;
          sent = refl;
          number = refl;
          phase = token _ nobody refl a;
          longer = λ q i o. longest_on n from p q t (next k) t.failing b master sender place i at other o;
          offers = x;
        }

    raised_replied : Reply (forward (view n p h) (next k) t t.failing (raised (view n p h) (bid_of t)))
    unfolding raised pick
    raised_replied = go (ltb t.priority (priority_of h)) refl
      where
        go : (b : Bool) → ltb t.priority (priority_of h) ≡ b
            → Reply (forward (view n p h) (next k) t t.failing (pick b (own_bid (view n p h)) (bid_of t)))
        go true e =
            let higher : t.priority < priority_of h = ltb-true t.priority (priority_of h) e in
            on_replied (own_bid (view n p h)) (omega arith) (λ heads x y. bid _ (omega arith) (omega arith))
        go false e = on_replied (bid_of t) (omega (arith, more)) (λ heads x y. renumbered (next k) t.failing y)

    passed_replied : Reply (pass_on (view n p h) (next k) t)
    unfolding pass_on cleared
    passed_replied =
        subst Reply
        (sym
        (pick_true _ _ (full_live n m most master)
        ∙ ap (λ (b : Bid). forward (view n p h) (next k) t t.failing (raised (view n p h) b)) (pick_true (bid_of t) (own_bid (view n p h)) (full_live n t.named most name))))
        raised_replied

  token_replied : offset n m t.named ≤ offset n m from → Reply (reply (view n p h) asked_by)
  unfolding reply on_token
  token_replied asked =
      either Reply _ _ _ (λ e. returned_replied (eqb-true m p e)) (λ e. passed_replied (λ x. eqb-false m p e (sym x)) asked)

-- ---- any frame

pub reply_replied : (n : ℕ) → n ≤ 64 → (p : ℕ) → p < n → (h : Option Message) (from : ℕ) → from < n → {f : Frame} → Phase n from p f → fit n f ≡ true
    → Replied n from f p h (reply (view n p h) f)
unfolding reply
reply_replied n most p place h from sender (token t nobody at asked) e =
    let m = passes e in
    let u = passes m.1 in
    token_replied n most p place h from sender t nobody (leb-false n t.master m.0) (leb-false n t.named u.0) at asked
reply_replied n most p place h from sender (transmit t own at) e =
    send_replied n p place h from (Transmit t) (λ q. omega (arith, longest_transmit n from t q))
reply_replied n most p place h from sender (information i) e =
    round_replied n p place h from (Information i) (λ q. omega (arith, longest_information n from i q))
