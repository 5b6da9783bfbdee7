-- Laws of what is sent: each frame that a station composes is fit, goes to another member, and carries a message that is there.
-- Assumes nothing.
use mathlib.Core.Path.{◌≡◌, refl, sym, ap, ◌∙◌}
use mathlib.Core.Bool.{Bool, true, false, not, cond, false≢true}
use Prim.Native.Nat.{ℕ, ◌<◌}
use lib.Dec.{eqb}
use borrow.Author.Tests.{lt-ltb, le-ltb, lt-leb, leb-true, leb-false, ltb-true, eqb-false, eq-eqb, ne_eqb, not-true}
use Rattle.parts.specs.Choose.{pick, every}
use Rattle.parts.specs.Messages.{all, best}
use Rattle.parts.specs.Live.{live_at, successor}
use Rattle.parts.specs.Frames.{next, member_or_nobody, fit, Dispatch}
use Rattle.station.specs.Stations.{alone, head}
use Rattle.station.specs.Sight.{sight}
use Rattle.sent.specs.Round.{start_round, carrying, information_of, send_head, granting, grant, returned, bid_of, own_bid, cleared, raised, forward, pass_on, on_token, reply}
use Rattle.sent.specs.Resend.{renamed, token_again, resend}
use Rattle.wholeness.specs.Whole.{message_good, list_good, same_message, carried, awaited_good}
use Rattle.parts.specs.declared.moves.State.TheVariants.{Waiting}
use Rattle.parts.specs.declared.list.Message.{Message}
use Rattle.std.specs.Prelude.{Option, None, Some}
use Rattle.parts.specs.declared.frame.TokenFrame.{TokenFrame}
use Rattle.parts.specs.declared.frame.Frame.{Frame}
use Rattle.parts.specs.declared.frame.Frame.TheVariants.{Token, Transmit, Information}
use Rattle.sent.specs.declared.round.Bid.{Bid}
use Rattle.station.specs.declared.station.Station.{Station}
use Rattle.parts.proofs.Laws.Choose.{pick_false, map_or_either}
use Rattle.parts.proofs.Laws.Tests.{held, hold}
use Rattle.station_theorems.proofs.Laws.Kept.{list_messages, list_apart}
use Rattle.station_theorems.proofs.Laws.Carried.{each_within, best_found}
use Rattle.station_theorems.proofs.Theorems.Successor.{successor_is}
use Rattle.station_theorems.proofs.Theorems.Head.{head_is_first}

-- ---- a test that must not hold, then another

pub passes : {b c : Bool} → pick b false c ≡ true → (b ≡ false) × (c ≡ true)
unfolding pick
passes {b} {c} = go b
  where
    go : (b : Bool) → pick b false c ≡ true → (b ≡ false) × (c ≡ true)
    go true e = absurd (false≢true e)
    go false e = (refl, e)

pub pass : {b c : Bool} → b ≡ false → c ≡ true → pick b false c ≡ true
pass p q = pick_false _ _ p ∙ q

-- ---- either way

either : (P : Dispatch → Type 0) (b : Bool) (x y : Dispatch) → (b ≡ true → P x) → (b ≡ false → P y) → P (pick b x y)
unfolding pick
either P true x y p q = p refl
either P false x y p q = q refl

first_of : (P : Dispatch → Type 0) (b : Bool) (x y : Dispatch) → (b ≡ true → P x) → (b ≡ false → P y) → P (cond b x y)
first_of P true x y p q = p refl
first_of P false x y p q = q refl

bid_of_lem : (n : ℕ) (b : Bool) (x y : Bid) → x.named < n → y.named < n → (pick b x y).named < n
unfolding pick
bid_of_lem n true x y p q = p
bid_of_lem n false x y p q = q

-- ---- a station with others

module _ (s : Station) (member : s.own < s.n) (good : list_good s.n s.own s.sends ≡ true) (others : alone s ≡ false) where
  -- a frame that it may await an acknowledgement for
  abbrev pub Proper : Dispatch → Type 0
  Proper d = awaited_good Waiting s.n s.own s.sends d ≡ true

  proper : (f : Frame) (to : ℕ) → fit s.n f ≡ true → to < s.n → (to ≡ s.own → ⊥) → carried s.sends f to ≡ true → Proper (Some (f, to))
  unfolding awaited_good
  proper f to a b c d = hold _ (refl, (a, (lt-ltb to s.n b, (ap not (ne_eqb to s.own c), (d, tt)))))

  -- a token to the successor
  token_proper : (t : TokenFrame) → t.master < s.n → member_or_nobody s.n t.failing ≡ true → t.named < s.n
      → Proper (Some (Token t, successor s.live s.n s.own))
  unfolding carried
  token_proper t a b c =
      let k = (successor_is s.n s.own member s.live).next (eqb-false _ _ others) in
      proper (Token t) (successor s.live s.n s.own) (pass (lt-leb s.n t.master a) (pass (lt-leb s.n t.named c) b)) k.member k.another refl

  pub round_proper : (number : ℕ) (failing : Option ℕ) → member_or_nobody s.n failing ≡ true → Proper (start_round (sight s) number failing)
  unfolding start_round
  round_proper number failing e = token_proper _ member e member

  -- the head
  found_same : (number : ℕ) (b : Option Message) (m : Message) → b ≡ Some m → same_message b m.other (carrying number m) ≡ true
  unfolding same_message
  found_same number b m e =
      ap (λ (x : Option Message). same_message x m.other (carrying number m)) e
      ∙ hold _ (eq-eqb m.other m.other refl, (eq-eqb m.priority m.priority refl, (eq-eqb m.channel m.channel refl, (eq-eqb m.length m.length refl, tt))))

  head_proper : (number : ℕ) (m : Message) → head s ≡ Some m → Proper (information_of number m)
  unfolding message_good carried best
  head_proper number m e =
      let f = (head_is_first s).first m e in
      let g = held _ (each_within (message_good s.n s.own) m f.before f.behind (ap (every (message_good s.n s.own)) (sym f.stands) ∙ list_messages s.n s.own s.sends good)) in
      proper (Information (carrying number m)) m.other
      (pass (not-true _ g.1.0) (pass (le-ltb 7 m.channel (leb-true m.channel 7 g.1.1.0)) g.1.1.1.0))
      (ltb-true m.other s.n g.1.1.1.1.0)
      (eqb-false m.other s.own (not-true _ g.1.1.1.1.1.0))
      (found_same number _ m (best_found (all s.sends) f.before f.behind m (list_apart s.n s.own s.sends good) f.stands))

  send_proper : (number : ℕ) → Proper (send_head (sight s) number)
  unfolding send_head
  send_proper number = map_or_either Proper _ (head s) _ (head_proper number) (λ e. round_proper number None refl)

  grant_proper : (number priority named : ℕ) → (priority ≡ 0 → ⊥) → named < s.n → (named ≡ s.own → ⊥) → Proper (grant (sight s) number priority named)
  unfolding grant carried
  grant_proper number priority named a b c =
      either Proper _ _ _
      (λ e. proper (Transmit (granting number priority s.own named)) named (pass (ne_eqb priority 0 a) (pass (lt-leb s.n s.own member) (lt-ltb named s.n b))) b c refl)
      (λ e. round_proper number None refl)

  returned_proper : (number priority named : ℕ) → named < s.n → Proper (returned (sight s) number priority named)
  unfolding returned
  returned_proper number priority named b =
      first_of Proper _ _ _ (λ e. round_proper number None refl)
      (λ e. first_of Proper _ _ _ (λ e'. send_proper number) (λ e'. grant_proper number priority named (eqb-false priority 0 e) b (eqb-false named s.own e')))

  -- a token of a bid
  bid_cleared : (b : Bid) → b.named < s.n → (cleared (sight s) b).named < s.n
  unfolding cleared
  bid_cleared b h = bid_of_lem s.n _ b (own_bid (sight s)) h member

  bid_raised : (b : Bid) → b.named < s.n → (raised (sight s) b).named < s.n
  unfolding raised
  bid_raised b h = bid_of_lem s.n _ (own_bid (sight s)) b member h

  bid_renamed : (to : ℕ) (b : Bid) → b.named < s.n → (renamed (sight s) to b).named < s.n
  unfolding renamed
  bid_renamed to b h = bid_of_lem s.n _ (own_bid (sight s)) b member h

  pass_proper : (number : ℕ) (t : TokenFrame) → t.master < s.n → member_or_nobody s.n t.failing ≡ true → t.named < s.n
      → Proper (pass_on (sight s) number t)
  unfolding pass_on
  pass_proper number t x y z =
      either Proper _ _ _
      (λ e. token_proper _ x y (bid_raised (cleared (sight s) (bid_of t)) (bid_cleared (bid_of t) z)))
      (λ e. round_proper number None refl)

  -- the frame sent on a heard one
  pub reply_proper : (f : Frame) → fit s.n f ≡ true → Proper (reply (sight s) f)
  unfolding reply on_token
  reply_proper (Token t) e =
      let m = passes e in
      let u = passes m.1 in
      either Proper _ _ _
      (λ x. returned_proper (next t.number) t.priority t.named (leb-false s.n t.named u.0))
      (λ x. pass_proper (next t.number) t (leb-false s.n t.master m.0) u.1 (leb-false s.n t.named u.0))
  reply_proper (Transmit t) e = send_proper (next t.number)
  reply_proper (Information i) e = round_proper (next i.number) None refl

  -- the frame sent in place of one that `to` did not acknowledge
  again_proper : (number to : ℕ) (t : TokenFrame) → to < s.n → t.master < s.n → t.named < s.n → Proper (token_again (sight s) number to t)
  unfolding token_again
  again_proper number to t h x z =
      let anew : Dispatch = start_round (sight s) number (Some to) in
      let on : Dispatch = forward (sight s) number t (Some to) (renamed (sight s) to (bid_of t)) in
      let gone : Bool = not (live_at s.live t.master) in
      let anew_proper : Proper anew = round_proper number (Some to) (lt-ltb to s.n h) in
      first_of Proper (eqb t.master s.own) anew (cond gone anew on) (λ e. anew_proper)
      (λ e. first_of Proper gone anew on (λ e'. anew_proper) (λ e'. token_proper _ x (lt-ltb to s.n h) (bid_renamed to (bid_of t) z)))

  pub resend_proper : (to : ℕ) (f : Frame) → to < s.n → fit s.n f ≡ true → Proper (resend (sight s) to f)
  unfolding resend
  resend_proper to (Token t) h e =
      let m = passes e in
      let u = passes m.1 in
      again_proper (next t.number) to t h (leb-false s.n t.master m.0) (leb-false s.n t.named u.0)
  resend_proper to (Transmit t) h e = round_proper (next t.number) (Some to) (lt-ltb to s.n h)
  resend_proper to (Information i) h e = round_proper (next i.number) (Some to) (lt-ltb to s.n h)
