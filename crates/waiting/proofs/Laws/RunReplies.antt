-- What a member of a full ring replies, its best waiting message known: a token passed on, replaced, granted; information; a round.
-- Assumes nothing.
use mathlib.Core.Path.{◌≡◌, refl, ap, ◌∙◌}
use Prim.Native.Nat.{ℕ, ◌<◌, ◌≤◌}
use borrow.Author.Tests.{lt-ltb, le-ltb, eq-eqb, ne_eqb}
use Rattle.std.specs.Option.{option_map_or}
use Rattle.parts.specs.Live.{after}
use Rattle.parts.specs.Frames.{next}
use Rattle.sent.specs.Round.{priority_of, opening, granting, passing, start_round, information_of, send_head, grant, returned, bid_of, own_bid, cleared, raised, forward, pass_on, on_token, reply}
use Rattle.parts.specs.declared.list.Message.{Message}
use Rattle.std.specs.Prelude.{Option, None, Some}
use Rattle.parts.specs.declared.frame.TokenFrame.{TokenFrame}
use Rattle.parts.specs.declared.frame.TransmitFrame.{TransmitFrame}
use Rattle.parts.specs.declared.frame.InformationFrame.{InformationFrame}
use Rattle.parts.specs.declared.frame.Frame.TheVariants.{Token, Transmit, Information}
use Rattle.sent.specs.declared.round.Bid.{Bid}
use Rattle.parts.proofs.Laws.Choose.{pick_true, pick_false}
use Rattle.bench_theorems.proofs.Laws.FullSet.{full_live}
use Rattle.bench_theorems.proofs.Laws.Answering.{view}

-- a token with the number k, and with another bid
abbrev pub bidding : TokenFrame → ℕ → Bid → TokenFrame
bidding t k b = passing k t t.failing b

abbrev pub numbered : TokenFrame → ℕ → TokenFrame
numbered t k = bidding t k (bid_of t)

module _ (n : ℕ) (most : n ≤ 64) (p : ℕ) (h : Option Message) (t : TokenFrame) (master : t.master < n) (name : t.named < n) where
  -- ---- a token on its way
  module _ (other : t.master ≡ p → ⊥) where
    on_way : (b : Bid) → raised (view n p h) (bid_of t) ≡ b → reply (view n p h) (Token t) ≡ Some (Token (bidding t (next t.number) b), after n p)
    unfolding reply on_token pass_on cleared
    on_way b e =
        pick_false _ _ (ne_eqb t.master p other)
        ∙ pick_true _ _ (full_live n t.master most master)
        ∙ ap (λ (c : Bid). forward (view n p h) (next t.number) t t.failing (raised (view n p h) c))
        (pick_true (bid_of t) (own_bid (view n p h)) (full_live n t.named most name))
        ∙ ap (forward (view n p h) (next t.number) t t.failing) e

    -- nothing higher waits: it goes on as it is
    pub passes_on : priority_of h ≤ t.priority → reply (view n p h) (Token t) ≡ Some (Token (numbered t (next t.number)), after n p)
    unfolding raised
    passes_on low = on_way (bid_of t) (pick_false _ _ (le-ltb t.priority (priority_of h) low))

    -- something higher does: priority and name are replaced
    pub replaces : t.priority < priority_of h
        → reply (view n p h) (Token t) ≡ Some (Token (bidding t (next t.number) (record { priority = priority_of h; named = p })), after n p)
    unfolding raised
    replaces high = on_way (record { priority = priority_of h; named = p }) (pick_true _ _ (lt-ltb t.priority (priority_of h) high))

  -- ---- back at its master, another station being named
  pub grants : t.master ≡ p → (t.priority ≡ 0 → ⊥) → (t.named ≡ p → ⊥)
      → reply (view n p h) (Token t) ≡ Some (Transmit (granting (next t.number) t.priority p t.named), t.named)
  unfolding reply on_token returned grant
  grants back some other =
      pick_true _ _ (eq-eqb t.master p back)
      ∙ rw (ne_eqb t.priority 0 some, ne_eqb t.named p other)
      (pick_true _ _ (full_live n t.named most name))

-- a transmit token: the head goes
pub sends_head : (n p : ℕ) (h : Option Message) (m : Message) (t : TransmitFrame) → h ≡ Some m
    → reply (view n p h) (Transmit t) ≡ information_of (next t.number) m
unfolding reply send_head
sends_head n p h m t e =
    ap (λ (b : Option Message). option_map_or (information_of (next t.number)) b (start_round (view n p h) (next t.number) None)) e

-- information: a round starts
pub starts_round : (n p : ℕ) (h : Option Message) (i : InformationFrame)
    → reply (view n p h) (Information i) ≡ Some (Token (opening p (priority_of h) (next i.number) None), after n p)
unfolding reply start_round
starts_round n p h i = refl
