-- Each step that does not compose the message's own frame lowers the rank by the frame composed: the reply to a token, to a transmit
-- token and to information, at a member of a quiet ring. Assumes nothing.
use mathlib.Core.Path.{◌≡◌, refl, sym, ap, ◌∙◌}
use mathlib.Core.Bool.{Bool, true, false}
use Prim.Native.Nat.{ℕ, ◌+◌, ◌-◌, ◌<◌, ◌≤◌}
use native.Mathlib.Omega.{arith}
use lib.Dec.{eqb}
use borrow.Author.Tests.{leb-false, eqb-true, eqb-false, lt-ltb, le-ltb}
use Rattle.parts.specs.Choose.{pick}
use Rattle.parts.specs.Live.{after}
use Rattle.parts.specs.Frames.{next, fit}
use Rattle.sent.specs.Round.{priority_of, passing, returned, bid_of, own_bid, cleared, raised, forward, pass_on, on_token, reply}
use Rattle.std.specs.Prelude.{Option}
use Rattle.parts.specs.declared.list.Message.{Message}
use Rattle.parts.specs.declared.frame.TokenFrame.{TokenFrame}
use Rattle.parts.specs.declared.frame.TransmitFrame.{TransmitFrame}
use Rattle.parts.specs.declared.frame.InformationFrame.{InformationFrame}
use Rattle.parts.specs.declared.frame.Frame.{Frame}
use Rattle.parts.specs.declared.frame.Frame.TheVariants.{Token, Transmit, Information}
use Rattle.sent.specs.declared.round.Bid.{Bid}
use Rattle.sent.specs.declared.round.Sight.{Sight}
use Rattle.parts.proofs.Laws.Choose.{pick_true, pick_false}
use Rattle.station_theorems.proofs.Laws.Sending.{passes}
use Rattle.bench_theorems.specs.Quiet.{offset, Phase, token, transmit, information, Offers, no_bid, bid}
use Rattle.bench_theorems.proofs.Laws.Offset.{offset_below, offset_more, offset_last, offset_same}
use Rattle.bench_theorems.proofs.Laws.FullSet.{full_live}
use Rattle.bench_theorems.proofs.Laws.Answering.{view}
use Rattle.bench_theorems.proofs.Laws.Replies.{either, first_of}
use Rattle.waiting.proofs.Laws.Ahead.{Tops, Ahead, named, to_ask, passed_over, granted, granted_another, another's, Turns, another}
use Rattle.waiting.proofs.Laws.Rounds.{round_turns, send_turns, grant_turns}

-- the message m is on top at s; the station at p is addressed
module _ (n : ℕ) (most : n ≤ 64) (heads : ℕ → Option Message) (s : ℕ) (m : Message) (t : Tops n heads s m) (p : ℕ) (place : p < n) where
  -- ---- a token from the station before, with its bid

  module _ (from : ℕ) (sender : from < n) (k : TokenFrame) (master_member : k.master < n) (name-member : k.named < n) (at : p ≡ after n from) where
    abbrev master : ℕ
    master = k.master

    abbrev name : ℕ
    name = k.named

    abbrev view_p : Sight
    view_p = view n p (heads p)

    -- as it goes on with the bid b
    abbrev on : Bid → TokenFrame
    on b = passing (next k.number) k k.failing b

    -- a bid for another station is lower
    lower_bid : Offers (λ (q : ℕ). priority_of (heads q)) (Token k) → (name ≡ s → ⊥) → k.priority < m.priority
    lower_bid (no_bid j z e) o = omega (arith, t.some_priority)
    lower_bid (bid j x y) o = omega (arith, t.lower name name-member o)

    -- it is back at its master: none is left to be asked
    module _ (back : master ≡ p) where
      last_asked : offset n master from + 1 ≡ n
      last_asked = offset_last n master master_member from sender (sym at ∙ sym back)

      back_turns : (short info : ℕ) → 1 ≤ short → (k.priority ≡ 0 → n + 1 ≤ short) → ((name ≡ s → ⊥) → (n + 2 ≤ short) × (1 ≤ info))
          → Turns n s m p short info (returned view_p (next k.number) k.priority name)
      unfolding returned
      back_turns short info one zero enough =
          first_of (Turns n s m p short info) _ _ _
          (λ e. round_turns n heads s m t p place short info (next k.number) (zero (eqb-true k.priority 0 e)))
          (λ e. first_of (Turns n s m p short info) (eqb name p) _ _
          (λ e'. send_turns n heads s m t p place short info (next k.number)
          (λ o. let w = enough (λ x. o (sym (eqb-true name p e') ∙ x)) in omega arith))
          (λ e'. grant_turns n heads s m t p place short info (next k.number) k.priority name most name-member one enough))

    -- it goes on
    module _ (other : p ≡ master → ⊥) where
      more : offset n master p ≡ offset n master from + 1
      more = ap (offset n master) at ∙ offset_more n master master_member from sender (λ x. other (at ∙ x))

      passed_is : pass_on view_p (next k.number) k
          ≡ forward view_p (next k.number) k k.failing (raised view_p (bid_of k))
      unfolding pass_on cleared
      passed_is =
          pick_true _ _ (full_live n master most master_member)
          ∙ ap (λ (b : Bid). forward view_p (next k.number) k k.failing (raised view_p b)) (pick_true _ _ (full_live n name most name-member))

      -- the bid that it carries on
      its_bid : (short info short' info' : ℕ) (b : Bid) → raised view_p (bid_of k) ≡ b
          → Ahead n s m.priority p (Token (on b)) short' info' → 1 + short' ≤ short → info' ≤ info
          → Turns n s m p short info (pass_on view_p (next k.number) k)
      its_bid short info short' info' b e a x y =
          another (Token (on b)) (after n p)
          (passed_is ∙ ap (λ (c : Bid). forward view_p (next k.number) k k.failing c) e) (λ q. refl) short' info' a (omega arith) (omega arith)

      -- whatever that is
      any_bid : (short info short' info' : ℕ) → ((b : Bid) → Ahead n s m.priority p (Token (on b)) short' info')
          → 1 + short' ≤ short → info' ≤ info
          → Turns n s m p short info (pass_on view_p (next k.number) k)
      any_bid short info short' info' a x y = its_bid short info short' info' (raised view_p (bid_of k)) refl (a _) x y

      onward : (short info : ℕ) → Offers (λ (q : ℕ). priority_of (heads q)) (Token k) → offset n master name ≤ offset n master from
          → Ahead n s m.priority from (Token k) short info
          → Turns n s m p short info (pass_on view_p (next k.number) k)
      unfolding raised pick
      onward short info o asked (named j q e) =
          let elsewhere : p ≡ s → ⊥ = λ x. let z : offset n master p ≡ offset n master name = ap (offset n master) (x ∙ sym q) in omega (arith, more) in
          its_bid _ _ (n - offset n master p) 0 (bid_of k)
          (pick_false _ _ (le-ltb k.priority (priority_of (heads p)) (omega (arith, t.lower p place elsewhere))))
          (named _ q e) (omega (arith, more, offset_below n master master_member from)) (omega arith)
      onward short info o asked (to_ask j l) = go (eqb p s) refl
        where
          go : (x : Bool) → eqb p s ≡ x
              → Turns n s m p (n - offset n master from) 0 (pass_on view_p (next k.number) k)
          go true x =
              let here : p ≡ s = eqb-true p s x in
              let own_priority : priority_of (heads p) ≡ m.priority = ap (λ (i : ℕ). priority_of (heads i)) here ∙ ap priority_of t.own_head in
              let another_named : name ≡ s → ⊥ = λ y. let z : offset n master name ≡ offset n master s = ap (offset n master) y in omega arith in
              let low : k.priority < m.priority = lower_bid o another_named in
              its_bid _ _ (n - offset n master p) 0 (own_bid view_p)
              (pick_true _ _ (lt-ltb k.priority (priority_of (heads p)) (omega arith)))
              (named _ here own_priority) (omega (arith, more, offset_below n master master_member from)) (omega arith)
          go false x =
              let elsewhere : p ≡ s → ⊥ = eqb-false p s x in
              let not_same : offset n master p ≡ offset n master s → ⊥ = λ y. elsewhere (offset_same n master master_member p s place t.member y) in
              let yet : offset n master p < offset n master s = omega (arith, more, not_same) in
              any_bid _ _ (n - offset n master p) 0 (λ b. to_ask _ yet) (omega (arith, more, offset_below n master master_member from)) (omega arith)
      onward short info o asked (passed_over j) =
          any_bid _ _ (n - offset n master p + (n + 1)) 1 (λ b. passed_over _) (omega (arith, more, offset_below n master master_member from)) (omega arith)

    returns : (short info : ℕ) → master ≡ p → Ahead n s m.priority from (Token k) short info
        → Turns n s m p short info (returned view_p (next k.number) k.priority name)
    returns short info back (named j q e) =
        back_turns back _ _ (omega (arith, last_asked back)) (λ z. absurd (omega (arith, t.some_priority))) (λ o. absurd (o q))
    returns short info back (to_ask j l) = absurd (omega (arith, last_asked back, offset_below n master master_member s))
    returns short info back (passed_over j) =
        back_turns back _ _ (omega (arith, last_asked back)) (λ z. omega (arith, last_asked back)) (λ o. omega (arith, last_asked back))

    token_turns : (short info : ℕ) → Offers (λ (q : ℕ). priority_of (heads q)) (Token k) → offset n master name ≤ offset n master from
        → Ahead n s m.priority from (Token k) short info → Turns n s m p short info (reply view_p (Token k))
    unfolding reply on_token
    token_turns short info o asked a =
        either (Turns n s m p short info) _ _ _ (λ e. returns short info (eqb-true master p e) a) (λ e. onward (λ x. eqb-false master p e (sym x)) short info o asked a)

  -- ---- any frame

  transmit_turns : (from : ℕ) (g : TransmitFrame) (short info : ℕ) → p ≡ g.named → Ahead n s m.priority from (Transmit g) short info
      → Turns n s m p short info (reply (view n p (heads p)) (Transmit g))
  unfolding reply
  transmit_turns from g short info at (granted j q) = send_turns n heads s m t p place _ _ (next g.number) (λ o. absurd (o (at ∙ q)))
  transmit_turns from g short info at (granted_another j) = send_turns n heads s m t p place _ _ (next g.number) (λ o. omega arith)

  information_turns : (from : ℕ) (i : InformationFrame) (short info : ℕ) → Ahead n s m.priority from (Information i) short info
      → Turns n s m p short info (reply (view n p (heads p)) (Information i))
  unfolding reply
  information_turns from i short info (another's j) = round_turns n heads s m t p place _ _ (next i.number) (omega arith)

  pub reply_turns : {from : ℕ} {f : Frame} (short info : ℕ) → from < n → Phase n from p f → fit n f ≡ true → Offers (λ (q : ℕ). priority_of (heads q)) f
      → Ahead n s m.priority from f short info → Turns n s m p short info (reply (view n p (heads p)) f)
  reply_turns {from} short info sender (token k nobody at asked) e o a =
      let x = passes e in
      let y = passes x.1 in
      token_turns from sender k (leb-false n k.master x.0) (leb-false n k.named y.0) at short info o asked a
  reply_turns {from} short info sender (transmit g own at) e o a = transmit_turns from g short info at a
  reply_turns {from} short info sender (information i) e o a = information_turns from i short info a
