-- "A frame is awaited exactly when Waiting, fit to write and to another member, and a message is in flight exactly when that frame is
-- its information frame": what whole's test of the awaited frame says. Assumes nothing.
use mathlib.Core.Path.{◌≡◌, refl, sym, ap, subst, ◌∙◌}
use mathlib.Core.Bool.{Bool, true, false, not, false≢true}
use mathlib.Core.List.{[]}
use Prim.Native.Nat.{ℕ, ◌<◌}
use native.Mathlib.Omega.{arith}
use borrow.Author.Tests.{ltb-true, ltb-false, leb-true, leb-false, eqb-true, eqb-false, not-true, lt-ltb, le-ltb, le-leb, lt-leb, eq-eqb, ne_eqb}
use Rattle.parts.specs.Moves.{is_waiting}
use Rattle.parts.specs.Messages.{all, fits, best, best_of}
use Rattle.parts.specs.Frames.{member_or_nobody, fit, Dispatch}
use Rattle.wholeness.specs.Whole.{apart, same_message, carried, awaited_good}
use Rattle.parts.specs.declared.moves.State.{State}
use Rattle.parts.specs.declared.list.Message.{Message}
use Rattle.parts.specs.declared.list.Messages.{Messages}
use Rattle.parts.specs.declared.list.Which.TheVariants.{HasPlace}
use Rattle.std.specs.Prelude.{Option, None, Some}
use Rattle.std.proofs.lemmas.Option.{none-some}
use Rattle.parts.proofs.Laws.Frames.{same_frame, same_to}
use Rattle.parts.specs.declared.frame.InformationFrame.{InformationFrame}
use Rattle.parts.specs.declared.frame.Frame.{Frame}
use Rattle.parts.specs.declared.frame.Frame.TheVariants.{Token, Transmit, Information}
use Rattle.station_theorems.specs.Awaited.{Fit, Carrying, Proper, Awaited}
use Rattle.station_theorems.proofs.Laws.States.{waiting_is}
use Rattle.parts.proofs.Laws.Tests.{held, hold}
use Rattle.station_theorems.proofs.Laws.Carried.{best_found}
use Rattle.station_theorems.proofs.Laws.Sending.{passes, pass}
use Rattle.station_theorems.proofs.Laws.Members.{standing, stood}
use Rattle.station_theorems.proofs.Theorems.Head.{best_is_first}

-- ---- fit to write: members, and fields in range

failing_fits : (n : ℕ) (w : Option ℕ) → member_or_nobody n w ≡ true → (p : ℕ) → w ≡ Some p → p < n
failing_fits n None e p q = absurd (let z : ◌≡◌ {A = ℕ} 0 1 = cc in omega arith)
failing_fits n (Some r) e p q = let same : r ≡ p = cc in let h : r < n = ltb-true r n e in omega arith

fits_failing : (n : ℕ) (w : Option ℕ) → ((p : ℕ) → w ≡ Some p → p < n) → member_or_nobody n w ≡ true
fits_failing n None k = refl
fits_failing n (Some r) k = lt-ltb r n (k r refl)

pub fit_is : (n : ℕ) (f : Frame) → fit n f ≡ true → Fit n f
fit_is n (Token t) e =
    let m = passes e in
    let u = passes m.1 in
    record { master_member = leb-false n t.master m.0; named_member = leb-false n t.named u.0; failing_member = failing_fits n t.failing u.1 }
fit_is n (Transmit t) e =
    let p = passes e in
    let u = passes p.1 in
    record { some_priority = eqb-false _ _ p.0; master_member = leb-false n t.master u.0; named_member = ltb-true t.named n u.1 }
fit_is n (Information i) e =
    let t = passes e in
    let u = passes t.1 in
    record { some_priority = eqb-false _ _ t.0; channel_fits = ltb-false 7 i.channel u.0; length_fits = leb-true i.length 1492 u.1 }

pub is_fit : (n : ℕ) (f : Frame) → Fit n f → fit n f ≡ true
is_fit n (Token t) k =
    pass (lt-leb n t.master k.master_member) (pass (lt-leb n t.named k.named_member) (fits_failing n t.failing k.failing_member))
is_fit n (Transmit t) k =
    pass (ne_eqb t.priority 0 k.some_priority) (pass (lt-leb n t.master k.master_member) (lt-ltb t.named n k.named_member))
is_fit n (Information i) k =
    pass (ne_eqb i.priority 0 k.some_priority) (pass (le-ltb 7 i.channel k.channel_fits) (le-leb i.length 1492 k.length_fits))

-- ---- the message of an information frame is in the send list

carries_is : (l : Messages) (f : Frame) (to : ℕ) → carried l f to ≡ true → Carrying l f to
unfolding carried same_message fits
carries_is l (Token t) to e = tt
carries_is l (Transmit t) to e = tt
carries_is l (Information i) to e = go (best (HasPlace i.place) l) refl e
  where
    go : (b : Option Message) → best (HasPlace i.place) l ≡ b → same_message b to i ≡ true → Carrying l (Information i) to
    go None q e = absurd (false≢true e)
    go (Some m) q e =
        let t = held _ e in
        let f = (best_is_first (HasPlace i.place) l).first m q in
        record {
          message = m;
          there = standing f.before f.behind _ (all l) f.stands;
          same_place = eqb-true _ _ f.fitting;
          same_other = eqb-true _ _ t.0;
          same_priority = eqb-true _ _ t.1.0;
          same_channel = eqb-true _ _ t.1.1.0;
          same_length = eqb-true _ _ t.1.1.1.0;
        }

same_as : (b : Option Message) (m : Message) (to : ℕ) (i : InformationFrame) → b ≡ Some m → m.other ≡ to → m.priority ≡ i.priority → m.channel ≡ i.channel
    → m.length ≡ i.length → same_message b to i ≡ true
unfolding same_message
same_as b m to i e o p c l =
    ap (λ (x : Option Message). same_message x to i) e
    ∙ hold _ (eq-eqb m.other to o, (eq-eqb m.priority i.priority p, (eq-eqb m.channel i.channel c, (eq-eqb m.length i.length l, tt))))

is_carried : (l : Messages) → apart [] (all l) ≡ true → (f : Frame) (to : ℕ) → Carrying l f to → carried l f to ≡ true
unfolding carried best
is_carried l a (Token t) to k = refl
is_carried l a (Transmit t) to k = refl
is_carried l a (Information i) to k =
    let w = stood k.there in
    same_as _ k.message to i
    (ap (λ (p : ℕ). best_of (HasPlace p) (all l) None) (sym k.same_place) ∙ best_found (all l) w.0 w.1 k.message a w.2)
    k.same_other k.same_priority k.same_channel k.same_length

-- ---- the awaited frame

pub awaited_is : (st : State) (n own : ℕ) (l : Messages) (d : Dispatch) → awaited_good st n own l d ≡ true → Awaited st n own l d
unfolding awaited_good
awaited_is st n own l None e =
    record {
      one_when_waiting = λ q. absurd (false≢true (sym (not-true _ e) ∙ ap is_waiting q));
      none_otherwise = λ q. refl;
      each_proper = λ f to q. absurd (let z : ◌≡◌ {A = ℕ} 0 1 = cc in omega arith);
    }
awaited_is st n own l (Some (f, to)) e =
    let t = held _ e in
    let p : Proper n own l f to =
    record {
      fits_to_write = fit_is n f t.1.0;
      member = ltb-true to n t.1.1.0;
      another = eqb-false to own (not-true _ t.1.1.1.0);
      carries = carries_is l f to t.1.1.1.1.0;
    } in
    record {
      one_when_waiting = λ q. (f, to, refl);
      none_otherwise = λ q. absurd (q (waiting_is st t.0));
      each_proper = λ g r q.
          subst (λ (x : Frame). Proper n own l x r) (same_frame q) (subst (Proper n own l f) (same_to q) p);
    }

pub is_awaited : (st : State) (n own : ℕ) (l : Messages) → apart [] (all l) ≡ true → (d : Dispatch) → Awaited st n own l d → awaited_good st n own l d ≡ true
unfolding awaited_good
is_awaited st n own l a None k = go (is_waiting st) refl
  where
    go : (b : Bool) → is_waiting st ≡ b → not (is_waiting st) ≡ true
    go true e = absurd (none-some _ (k.one_when_waiting (waiting_is st e)).2)
    go false e = ap not e
is_awaited st n own l a (Some (f, to)) k = go (is_waiting st) refl
  where
    p : Proper n own l f to
    p = k.each_proper f to refl

    go : (b : Bool) → is_waiting st ≡ b → awaited_good st n own l (Some (f, to)) ≡ true
    go true e =
        hold _
        (e, (is_fit n f p.fits_to_write, (lt-ltb to n p.member, (ap not (ne_eqb to own p.another), (is_carried l a f to p.carries, tt)))))
    go false e = absurd (none-some _ (sym (k.none_otherwise (λ w. false≢true (sym e ∙ ap is_waiting w)))))
