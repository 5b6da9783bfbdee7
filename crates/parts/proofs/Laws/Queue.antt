-- Laws of what queue asks. Assumes nothing.
use Rattle.std.proofs.Common.{◌≡◌, ℕ, ◌<◌, ◌≤◌, Bool, true, not, eqb, ltb, leb, [], ◌∷◌, arith, ltb-false, leb-false}
use borrow.Author.Tests.{eqb-false, not-false}
use Rattle.codec.proofs.Laws.Order.{none_holds}
use Rattle.parts.specs.declared.request.Request.{Request}
use Rattle.parts.specs.Refusals.{queue_refusal}

-- what is asked of a message that is handed over
pub record QueueGood (n own : ℕ) (live : Bool) (len : ℕ) (q : Request) : Type 0 where
  pub some_priority : q.priority ≡ 0 → ⊥
  pub priority_fits : q.priority ≤ 255
  pub member : q.to < n
  pub another : q.to ≡ own → ⊥
  pub lives : live ≡ true
  pub channel_fits : q.channel ≤ 7
  pub heard : q.listens ≡ true
  pub length_fits : q.length ≤ 1492
  pub room : len < 16

-- a message that is not refused is good
pub queue_good : (n own : ℕ) (live : Bool) (len : ℕ) (q : Request) → queue_refusal n own live len q ≡ 0
    → QueueGood n own live len q
unfolding queue_refusal
queue_good n own live len q e =
    let h = none_holds 0
    ((eqb q.priority 0, 14) ∷ (ltb 255 q.priority, 14) ∷ (leb n q.to, 15) ∷ (eqb q.to own, 15) ∷ (not live, 16) ∷ (ltb 7 q.channel, 17) ∷ (not q.listens, 28) ∷ (ltb 1492 q.length, 18) ∷ (leb 16 len, 19) ∷ [])
    ((λ z. omega arith), ((λ z. omega arith), ((λ z. omega arith), ((λ z. omega arith), ((λ z. omega arith), ((λ z. omega arith), ((λ z. omega arith), ((λ z. omega arith), ((λ z. omega arith), tt))))))))) e in
    record {
      some_priority = eqb-false _ _ h.0;
      priority_fits = ltb-false _ _ h.1.0;
      member = leb-false _ _ h.1.1.0;
      another = eqb-false _ _ h.1.1.1.0;
      lives = not-false _ h.1.1.1.1.0;
      channel_fits = ltb-false _ _ h.1.1.1.1.1.0;
      heard = not-false _ h.1.1.1.1.1.1.0;
      length_fits = ltb-false _ _ h.1.1.1.1.1.1.1.0;
      room = leb-false _ _ h.1.1.1.1.1.1.1.1.0;
    }
