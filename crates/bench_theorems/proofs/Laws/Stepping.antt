-- The picture after a step: everybody has heard the frame, and the addressee's reply is on the wire. Assumes nothing.
use mathlib.Core.Path.{◌≡◌, refl, sym, ap, subst, ◌∙◌}
use Prim.Native.Nat.{ℕ, ◌<◌}
use native.Mathlib.Omega.{arith}
use Rattle.parts.specs.Frames.{number_of, next, flight, flight_in}
use Rattle.station.specs.Stations.{state_of, awaited_of, head}
use Rattle.sent.specs.Round.{priority_of}
use Rattle.station.specs.Heard.{frame_rule}
use Rattle.parts.specs.declared.frame.Frame.{Frame}
use Rattle.std.specs.Prelude.{None, Some}
use Rattle.station.specs.declared.station.Station.{Station}
use Rattle.bench_theorems.specs.Quiet.{Member, Stands, sender, last_sender, at_rest, head_priority, Behind, longest, Picture}
use Rattle.bench_theorems.proofs.Laws.Numbers.{one_behind, just_behind}
use Rattle.bench_theorems.proofs.Laws.Longest.{longest_here}
use Rattle.bench_theorems.proofs.Laws.Awaiting.{Proper, awaited_proper, still_offers}
use Rattle.bench_theorems.proofs.Laws.Answers.{Role, sends, answers, overhears, role, stands_waits, silent_at, answer_at, reply_at, new_sent}

module _
    {n limit : ℕ} {at : ℕ → Station} {from : ℕ} {f : Frame} {to : ℕ} (w : Picture n limit at from f to) (later : ℕ → Station)
    (stays : later from ≡ at from) (heard : (p : ℕ) → p < n → (p ≡ from → ⊥) → later p ≡ (frame_rule (at p) f from to).station)
  where
    abbrev new_frame : Frame
    new_frame = (reply_at w).frame

    abbrev new_to : ℕ
    new_to = (reply_at w).to

    same_sender : (p : ℕ) → p ≡ from → later p ≡ at p
    same_sender p e = ap later e ∙ stays ∙ ap at (sym e)

    -- who answers stands at the addressee's place
    at_addressee : (P : ℕ → Station → Type 0) (p : ℕ) → p ≡ to → P to (frame_rule (at to) f from to).station → P p (later p)
    at_addressee P p e x =
        subst (λ (q : ℕ). P q (later q)) (sym e) (subst (P to) (sym (heard to w.addressee_member w.another)) x)

    later_member : (p : ℕ) → p < n → Member n limit p (later p)
    later_member p h = go (role from to p)
      where
        go : Role from to p → Member n limit p (later p)
        go (sends e) = subst (Member n limit p) (sym (same_sender p e)) (w.members p h)
        go (answers e o) = at_addressee (Member n limit) p e (answer_at w).member
        go (overhears x o) = subst (Member n limit p) (sym (heard p h o)) (silent_at w p h o x).member

    new_awaited : awaited_of (later to) ≡ Some (new_frame, new_to)
    new_awaited = ap awaited_of (heard to w.addressee_member w.another) ∙ (answer_at w).awaited ∙ new_sent w

    new_proper : Proper n to new_frame new_to
    new_proper = awaited_proper (later_member to w.addressee_member) new_awaited

    later_stands : (p : ℕ) → p < n → Stands to from new_frame new_to p (later p)
    later_stands p h = go (role from to p)
      where
        go : Role from to p → Stands to from new_frame new_to p (later p)
        go (sends e) =
            let t = stands_waits e (w.turns p h) in
            last_sender (λ x. w.another (sym x ∙ e)) e
            (ap state_of (same_sender p e) ∙ t.waiting) f (ap awaited_of (same_sender p e) ∙ t.awaited) (sym (reply_at w).number)
        go (answers e o) =
            at_addressee (Stands to from new_frame new_to) p e
            (sender refl (answer_at w).waiting ((answer_at w).awaited ∙ new_sent w))
        go (overhears x o) = at_rest x o (ap state_of (heard p h o) ∙ (silent_at w p h o x).at_rest)

    -- the last handled numbers lie one more behind, and the addressee's 1
    later_handled : (p : ℕ) → p < n → Behind (number_of new_frame) (longest n to new_frame p) (later p).turn.handled
    later_handled p h = subst (λ (k : ℕ). Behind k (longest n to new_frame p) (later p).turn.handled) (sym (reply_at w).number) (go (role from to p))
      where
        older : (p ≡ to → ⊥) → (later p).turn.handled ≡ (at p).turn.handled → Behind (next (number_of f)) (longest n to new_frame p) (later p).turn.handled
        older x e =
            subst (Behind (next (number_of f)) (longest n to new_frame p)) (sym e)
            (one_behind (longest n to new_frame p) (w.handled p h) ((reply_at w).longer p h x))

        go : Role from to p → Behind (next (number_of f)) (longest n to new_frame p) (later p).turn.handled
        go (sends e) = older (λ x. w.another (sym x ∙ e)) (ap (λ (s : Station). s.turn.handled) (same_sender p e))
        go (answers e o) =
            at_addressee (λ q s. Behind (next (number_of f)) (longest n to new_frame q) s.turn.handled) p e
            (subst (Behind (next (number_of f)) (longest n to new_frame to)) (sym (answer_at w).handled)
            (just_behind (number_of f) (longest n to new_frame to) (longest_here n to new_frame)))
        go (overhears x o) =
            older x (ap (λ (s : Station). s.turn.handled) (heard p h o) ∙ (silent_at w p h o x).same_handled)

    -- no head changes but where one goes out as information
    later_head : flight_in new_frame ≡ None → (p : ℕ) → p < n → head (later p) ≡ head (at p)
    later_head none p h = go (role from to p)
      where
        go : Role from to p → head (later p) ≡ head (at p)
        go (sends e) = ap head (same_sender p e)
        go (answers e o) =
            at_addressee (λ q s. head s ≡ head (at q)) p e
            ((answer_at w).same_head (ap flight (new_sent w) ∙ none))
        go (overhears x o) = ap head (heard p h o) ∙ (silent_at w p h o x).same_head

    pub picture_step : Picture n limit later to (reply_at w).frame (reply_at w).to
    picture_step =
        record {
          some_members = w.some_members;
          most_members = w.most_members;
          members = later_member;
          sender_member = w.addressee_member;
          addressee_member = new_proper.member;
          another = new_proper.another;
          fits = new_proper.fits;
          phase = (reply_at w).phase;
          offers =
              still_offers (λ p. head_priority (at p)) (λ p. head_priority (later p)) new_proper.fits
              (λ none q h. omega (arith, ap priority_of (later_head none q h)))
              ((reply_at w).offers (λ p. head_priority (at p)) refl w.offers);
          before = from;
          before_member = w.sender_member;
          first = λ e. absurd (w.another (sym e));
          turns = later_stands;
          handled = later_handled;
        }
