-- Laws of a delivery in progress: the first p positions have been handed the frame, the others not yet. Assumes nothing.
use mathlib.Core.Path.{◌≡◌, refl, sym, ap, ◌∙◌}
use mathlib.Core.Bool.{Bool, true, false}
use mathlib.Core.List.{List, [], ◌∷◌}
use Prim.Native.Nat.{ℕ, zero, suc, ◌<◌, ◌≤◌}
use native.Mathlib.Nat.{zero-add}
use native.Mathlib.Omega.{arith}
use lib.Dec.{ltb, eqb}
use lib.ListN.{length, get_or, set, length-set, get_or-eq_default}
use lib.Seq.{get_or-set_same, get_or-set_other, ext_get_or}
use borrow.Author.Tests.{lt-ltb, le-ltb, ltb-true, ltb-false, eqb-true, eqb-false}
use Rattle.parts.specs.Choose.{pick}
use Rattle.parts.specs.Live.{seats}
use Rattle.station.specs.Stations.{moved}
use Rattle.station.specs.Heard.{frame_rule}
use Rattle.parts.specs.declared.frame.Frame.{Frame}
use Rattle.parts.specs.Frames.{Dispatch}
use Rattle.std.specs.Prelude.{None}
use Rattle.station.specs.declared.station.Station.{Station}
use Rattle.station.specs.declared.station.Answer.{Answer}
use Rattle.bench.specs.Bystander.{Untouched}
use Rattle.parts.proofs.Laws.Choose.{pick_true, pick_false}
use Rattle.bench.specs.Ring.{nobody}
use Rattle.bench.specs.Delivery.{handed, delivered, reply_to}
use Rattle.bench.proofs.Laws.StandsBy.{either}
use Rattle.bench.proofs.Laws.Delivered.{delivered_length, delivered_at, handed_outside}

-- what lies past the table answers nothing
nobody_silent : (f : Frame) (from to : ℕ) → (frame_rule nobody f from to).sent ≡ None
unfolding frame_rule moved nobody pick
nobody_silent f from to = refl

nobody_answers : (n : ℕ) (hears : ℕ → Bool) (f : Frame) (from to p : ℕ) → (handed n hears f from to p nobody).sent ≡ None
unfolding handed
nobody_answers n hears f from to p = either (λ (a : Answer). a.sent ≡ None) _ _ _ (nobody_silent f from to) refl

pub seats_members : (n p : ℕ) → p < seats n → p < n
seats_members n p h = go (ltb n 64) refl
  where
    go : (b : Bool) → ltb n 64 ≡ b → p < n
    go true e = let x : seats n ≡ n = pick_true n 64 e in omega arith
    go false e = let x : seats n ≡ 64 = pick_false n 64 e in let y : 64 ≤ n = ltb-false n 64 e in omega arith

-- past the ring, or past the table
pub past_seats : (n p : ℕ) → seats n ≤ p → p < 64 → n ≤ p
past_seats n p h w = go (ltb n 64) refl
  where
    go : (b : Bool) → ltb n 64 ≡ b → n ≤ p
    go true e = let x : seats n ≡ n = pick_true n 64 e in omega arith
    go false e = let x : seats n ≡ 64 = pick_false n 64 e in absurd (omega arith)

-- what stands in a list does not hang on what stands past it
pub inside : {A : Type 0} (l : List A) (i : ℕ) (d e : A) → i < length l → get_or l i d ≡ get_or l i e
inside [] i d e h = absurd (omega arith)
inside (x ∷ l) zero d e h = refl
inside (x ∷ l) (suc i) d e h = inside l i d e (omega arith)

-- ---- the delivery in progress

module _ (n : ℕ) (hears : ℕ → Bool) (f : Frame) (from to : ℕ) (old : List Station) where
  pub record Passed (cur : List Station) (reply : Dispatch) (p : ℕ) : Type 0 where
    pub long : length cur ≡ length old
    pub done : (q : ℕ) → q < p → get_or cur q nobody ≡ (handed n hears f from to q (get_or old q nobody)).station
    pub rest : (q : ℕ) → p ≤ q → get_or cur q nobody ≡ get_or old q nobody
    pub answer : reply ≡ pick (ltb to p) (handed n hears f from to to (get_or old to nobody)).sent None

  pub passed_none : Passed old None 0
  passed_none = record { long = refl; done = λ q h. absurd (omega arith); rest = λ q h. refl; answer = sym (pick_false _ _ (le-ltb to 0 (omega arith))) }

  module _ (cur : List Station) (reply : Dispatch) (p : ℕ) (w : Passed cur reply p) where
    -- the reply once the position p is passed, which sends `sent`
    reply_more : (sent : Dispatch) → sent ≡ (handed n hears f from to p (get_or old p nobody)).sent
        → pick (eqb p to) sent reply ≡ pick (ltb to (suc p)) (handed n hears f from to to (get_or old to nobody)).sent None
    reply_more sent e = go (eqb p to) refl
      where
        past : (p ≡ to → ⊥) → (b : Bool) → ltb to p ≡ b → ltb to (suc p) ≡ b
        past o true t = let h : to < p = ltb-true to p t in lt-ltb to (suc p) (omega arith)
        past o false t = let h : p ≤ to = ltb-false to p t in le-ltb to (suc p) (omega (arith, o))

        go : (b : Bool) → eqb p to ≡ b → pick (eqb p to) sent reply ≡ pick (ltb to (suc p)) (handed n hears f from to to (get_or old to nobody)).sent None
        go true t =
            let q : p ≡ to = eqb-true p to t in
            pick_true _ _ t ∙ e ∙ ap (λ (i : ℕ). (handed n hears f from to i (get_or old i nobody)).sent) q ∙ sym (pick_true _ _ (lt-ltb to (suc p) (omega arith)))
        go false t =
            pick_false _ _ t ∙ w.answer
            ∙ ap (λ (b : Bool). pick b (handed n hears f from to to (get_or old to nobody)).sent None) (sym (past (eqb-false p to t) (ltb to p) refl))

    -- a station that is handed back as it was, and sends nothing
    pub passed_by : Untouched (get_or cur p nobody) (handed n hears f from to p (get_or cur p nobody)) → Passed cur reply (suc p)
    passed_by u =
        record {
          long = w.long;
          done = λ q h. go q h (eqb q p) refl;
          rest = λ q h. w.rest q (omega arith);
          answer = sym (kept (eqb p to) refl) ∙ reply_more None (sym u.silent ∙ ap (λ (s : Station). (handed n hears f from to p s).sent) (w.rest p (omega arith)));
        }
      where
        go : (q : ℕ) → q < suc p → (b : Bool) → eqb q p ≡ b → get_or cur q nobody ≡ (handed n hears f from to q (get_or old q nobody)).station
        go q h true t =
            let e : q ≡ p = eqb-true q p t in
            ap (λ (i : ℕ). get_or cur i nobody) e ∙ sym u.same
            ∙ ap (λ (s : Station). (handed n hears f from to p s).station) (w.rest p (omega arith))
            ∙ ap (λ (i : ℕ). (handed n hears f from to i (get_or old i nobody)).station) (sym e)
        go q h false t = w.done q (let o : q ≡ p → ⊥ = eqb-false q p t in omega (arith, o))

        kept : (b : Bool) → eqb p to ≡ b → pick (eqb p to) None reply ≡ reply
        kept true t =
            pick_true _ _ t
            ∙ sym (w.answer ∙ pick_false _ _ (le-ltb to p (let e : p ≡ to = eqb-true p to t in omega arith)))
        kept false t = pick_false _ _ t

    -- a station that is handed the frame
    pub passed_on : (a : Answer) → p < length cur → a ≡ handed n hears f from to p (get_or cur p nobody)
        → Passed (set cur p a.station) (reply_to p to a.sent reply) (suc p)
    passed_on a room e =
        record {
          long = length-set cur p a.station ∙ w.long;
          done = λ q h. go q h (eqb q p) refl;
          rest = λ q h. get_or-set_other cur p q a.station nobody (λ (i : q ≡ p). absurd (omega arith)) ∙ w.rest q (omega arith);
          answer = reply_more a.sent (ap (λ (x : Answer). x.sent) e ∙ ap (λ (s : Station). (handed n hears f from to p s).sent) (w.rest p (omega arith)));
        }
      where
        go : (q : ℕ) → q < suc p → (b : Bool) → eqb q p ≡ b → get_or (set cur p a.station) q nobody ≡ (handed n hears f from to q (get_or old q nobody)).station
        go q h true t =
            let i : q ≡ p = eqb-true q p t in
            ap (λ (j : ℕ). get_or (set cur p a.station) j nobody) i
            ∙ get_or-set_same cur p a.station nobody room
            ∙ ap (λ (x : Answer). x.station) e
            ∙ ap (λ (s : Station). (handed n hears f from to p s).station) (w.rest p (omega arith))
            ∙ ap (λ (j : ℕ). (handed n hears f from to j (get_or old j nobody)).station) (sym i)
        go q h false t =
            get_or-set_other cur p q a.station nobody (eqb-false q p t)
            ∙ w.done q (let o : q ≡ p → ⊥ = eqb-false q p t in omega (arith, o))

  -- all members have been handed the frame
  module _ (cur : List Station) (reply : Dispatch) (p : ℕ) (w : Passed cur reply p) (all : seats n ≤ p) (table : length old ≡ 64) where
    pub passed_table : cur ≡ delivered n hears f from to 0 old
    passed_table =
        ext_get_or nobody cur (delivered n hears f from to 0 old) (w.long ∙ sym (delivered_length n hears f from to 0 old))
        (λ i h. each i (omega (arith, w.long)) (ltb i p) refl ∙ sym (delivered_at n hears f from to 0 i old nobody (omega (arith, w.long)) ∙ ap (λ (q : ℕ). (handed n hears f from to q (get_or old i nobody)).station) (zero-add i)))
      where
        each : (i : ℕ) → i < 64 → (b : Bool) → ltb i p ≡ b → get_or cur i nobody ≡ (handed n hears f from to i (get_or old i nobody)).station
        each i h true t = w.done i (ltb-true i p t)
        each i h false t =
            let o : p ≤ i = ltb-false i p t in
            w.rest i o
            ∙ sym (ap (λ (a : Answer). a.station) (handed_outside n hears f from to i (get_or old i nobody) (past_seats n i (omega arith) h)))

    pub passed_reply : reply ≡ (handed n hears f from to to (get_or old to nobody)).sent
    passed_reply = w.answer ∙ go (ltb to p) refl
      where
        none : (b : Bool) → ltb to 64 ≡ b → p ≤ to → (handed n hears f from to to (get_or old to nobody)).sent ≡ None
        none true t h =
            ap (λ (a : Answer). a.sent)
            (handed_outside n hears f from to to (get_or old to nobody) (past_seats n to (omega arith) (ltb-true to 64 t)))
        none false t h =
            let x : 64 ≤ to = ltb-false to 64 t in
            ap (λ (s : Station). (handed n hears f from to to s).sent) (get_or-eq_default old nobody {n = to} (omega arith))
            ∙ nobody_answers n hears f from to to

        go : (b : Bool) → ltb to p ≡ b → pick (ltb to p) (handed n hears f from to to (get_or old to nobody)).sent None ≡ (handed n hears f from to to (get_or old to nobody)).sent
        go true t = pick_true _ _ t
        go false t = pick_false _ _ t ∙ sym (none (ltb to 64) refl (ltb-false to p t))
