-- Calls one after the other: what is left of the records behind a call is what the next one begins with, and where a run is over nothing is left. Assumes nothing.
use mathlib.Core.Path.{◌≡◌, refl, sym, ap, ◌∙◌}
use mathlib.Core.Bool.{Bool, true, false, false≢true}
use mathlib.Core.List.{List, [], ◌∷◌, ◌++◌, append_assoc}
use Prim.Native.Nat.{ℕ, zero, suc, ◌+◌, ◌-◌, ◌≤◌}
use native.Mathlib.Nat.{zero-add}
use native.Mathlib.Omega.{arith}
use lib.Dec.{eqb}
use lib.ListN.{length}
use borrow.Author.Tests.{eq-eqb, ne_eqb, eqb-true, eqb-false}
use Rattle.parts.specs.Choose.{pick}
use Rattle.parts.proofs.Laws.Choose.{pick_true, pick_false}
use Rattle.capture.specs.Record.{read_record}
use Rattle.capture.specs.declared.record.Event.{Event}
use Rattle.capture.specs.declared.record.Read.{Read}
use Rattle.capture.specs.declared.record.Read.TheVariants.{End, Refused, Good}
use Rattle.capture.proofs.Laws.Reading.{refused_is}
use Rattle.day.specs.Listening.{heard_in, asked}
use Rattle.replay.specs.Replays.{course_of, is_end, is_over, turns_in, records_now, RanFrom}
use Rattle.replay.specs.Running.{offset_behind}
use Rattle.replay.specs.Runs.{Record, good, bad, heard_from, Course, stopped, went_on, record_number, effect, turn, turn_text, gone, gone_text}
use Rattle.replay.specs.declared.run.Replay.{Replay}
use Rattle.replay.specs.declared.run.Ran.{Ran}
use Rattle.replay.proofs.Laws.Running.{heard_end, heard_refused, heard_good, gone_stays, gone_silent, gone_one, text_one, gone_none, heard_zero, offset_zero, offset_next}

-- ---- one record

turn_counts : (c : Course) (e : Event) → c.number ≡ 0 → (turn c (good e)).number ≡ 0 → (turn c (good e)).done ≡ suc c.done
unfolding turn
turn_counts c e going z = go (eqb (record_number c.day (good e)) 0) refl
  where
    opened : (x : Course) → pick (eqb c.number 0) x c ≡ x
    opened x = pick_true x c (eq-eqb c.number 0 going)

    go : (b : Bool) → eqb (record_number c.day (good e)) 0 ≡ b → (turn c (good e)).done ≡ suc c.done
    go true t = ap (λ (x : Course). x.done) (opened (pick (eqb (record_number c.day (good e)) 0) (went_on c e) (stopped c (record_number c.day (good e)))) ∙ pick_true (went_on c e) (stopped c (record_number c.day (good e))) t)
    go false t = absurd (eqb-false _ _ t (sym (ap (λ (x : Course). x.number) (opened (pick (eqb (record_number c.day (good e)) 0) (went_on c e) (stopped c (record_number c.day (good e)))) ∙ pick_false (went_on c e) (stopped c (record_number c.day (good e))) t)) ∙ z))

pick_both : (P : Course → Type 0) (b : Bool) (x y : Course) → P x → P y → P (pick b x y)
unfolding pick
pick_both P true x y p q = p
pick_both P false x y p q = q

effect_grows : (c : Course) (r : Record) → c.done ≤ (effect c r).done
effect_grows c (good e) = omega arith
effect_grows c (bad k) = omega arith

turn_grows : (c : Course) (r : Record) → c.done ≤ (turn c r).done
unfolding turn
turn_grows c r =
    pick_both (λ (x : Course). c.done ≤ x.done) (eqb c.number 0) _ c
    (pick_both (λ (x : Course). c.done ≤ x.done) (eqb (record_number c.day r) 0) (effect c r) (stopped c (record_number c.day r)) (effect_grows c r) (omega arith))
    (omega arith)

gone_grows : (c : Course) (rs : List Record) → c.done ≤ (gone c rs).done
unfolding gone
gone_grows c [] = omega arith
gone_grows c (r ∷ rs) = omega (arith, turn_grows c r, gone_grows (turn c r) rs)

-- a refused record stops the run
turn_stops : (c : Course) (k : ℕ) → c.number ≡ 0 → (k ≡ 0 → ⊥) → (turn c (bad k)).number ≡ k
unfolding turn record_number
turn_stops c k going o =
    ap (λ (x : Course). x.number)
    (pick_true (pick (eqb k 0) (effect c (bad k)) (stopped c k)) c (eq-eqb c.number 0 going) ∙ pick_false (effect c (bad k)) (stopped c k) (ne_eqb k 0 o))

-- ---- some records, and then more

module _ (n : ℕ) (channels s : List ℕ) (j : ℕ) where
  -- an event with what the ring file says of it
  abbrev told : Event → Event
  told = asked (heard_in n channels)

  -- the course c₁ after some records whose lines are t, and the offset behind them
  abbrev Joins : Course → List Record → Course → List ℕ → ℕ → Type 0
  Joins c all c₁ t at₁ = (gone c all ≡ gone c₁ (heard_from n channels j s at₁)) × (gone_text c all ≡ t ++ gone_text c₁ (heard_from n channels j s at₁))

  abbrev Joined : Course → ℕ → ℕ → Type 0
  Joined c k at =
      Joins c (heard_from n channels (k + j) s at) (gone c (heard_from n channels k s at)) (gone_text c (heard_from n channels k s at)) (offset_behind ((gone c (heard_from n channels k s at)).done - c.done) n s at)

  -- a stopped course
  joins_stopped : (c : Course) (all rs : List Record) (at₁ : ℕ) → (c.number ≡ 0 → ⊥) → Joins c all (gone c rs) (gone_text c rs) at₁
  joins_stopped c all rs at₁ o =
      let same : gone c rs ≡ c = gone_stays c o rs in
      let rest : List Record = heard_from n channels j s at₁ in (
        gone_stays c o all ∙ sym (gone_stays c o rest) ∙ ap (λ (x : Course). gone x rest) (sym same),
        gone_silent c o all ∙ sym (ap (λ (t : List ℕ). t ++ gone_text (gone c rs) rest) (gone_silent c o rs) ∙ ap (λ (x : Course). gone_text x rest) same ∙ gone_silent c o rest),
      )

  -- no records at all
  joins_none : (c : Course) (all rs : List Record) (at₁ : ℕ) → rs ≡ [] → all ≡ heard_from n channels j s at₁ → Joins c all (gone c rs) (gone_text c rs) at₁
  joins_none c all rs at₁ er ea =
      let rest : List Record = heard_from n channels j s at₁ in (
        ap (gone c) ea ∙ ap (λ (x : Course). gone x rest) (sym (ap (gone c) er ∙ (gone_none c).0)),
        ap (gone_text c) ea ∙ ap (λ (x : Course). gone_text x rest) (sym (ap (gone c) er ∙ (gone_none c).0)) ∙ ap (λ (t : List ℕ). t ++ gone_text (gone c rs) rest) (sym (ap (gone_text c) er ∙ (gone_none c).1)),
      )

  -- one record first
  joins_first : (c : Course) (r : Record) (all rs : List Record) (at₁ : ℕ) → Joins (turn c r) all (gone (turn c r) rs) (gone_text (turn c r) rs) at₁ → Joins c (r ∷ all) (gone c (r ∷ rs)) (gone_text c (r ∷ rs)) at₁
  joins_first c r all rs at₁ h =
      let rest : List Record = heard_from n channels j s at₁ in (
        gone_one c r all ∙ h.0 ∙ ap (λ (x : Course). gone x rest) (sym (gone_one c r rs)),
        text_one c r all
            ∙ ap (λ (t : List ℕ). turn_text c r ++ t) h.1
            ∙ sym (append_assoc (turn_text c r) (gone_text (turn c r) rs) (gone_text (gone (turn c r) rs) rest))
            ∙ ap (λ (t : List ℕ). t ++ gone_text (gone (turn c r) rs) rest) (sym (text_one c r rs))
            ∙ ap (λ (x : Course). gone_text c (r ∷ rs) ++ gone_text x rest) (sym (gone_one c r rs)),
      )

  -- by other names
  joins_as : (c : Course) (all all' rs rs' : List Record) (at₁ at₁' : ℕ) → all ≡ all' → rs ≡ rs' → at₁ ≡ at₁' → Joins c all' (gone c rs') (gone_text c rs') at₁' → Joins c all (gone c rs) (gone_text c rs) at₁
  joins_as c all all' rs rs' at₁ at₁' ea er eo h = rw (ea, er, eo) h

  one_more : (k : ℕ) → suc k + j ≡ suc (k + j)
  one_more k = omega arith

  -- the end: nothing is left
  joined_end : (k : ℕ) (c : Course) (at : ℕ) → read_record n s at ≡ End → Joined c (suc k) at
  joined_end k c at q =
      let rs : List Record = heard_from n channels (suc k) s at in
      let er : rs ≡ [] = heard_end n s at channels (suc k) q in
      let here : offset_behind ((gone c rs).done - c.done) n s at ≡ at = offset_zero _ n s at (omega (arith, ap (λ (x : Course). x.done) (ap (gone c) er ∙ (gone_none c).0))) in
      joins_none c (heard_from n channels (suc k + j) s at) rs _ er (heard_end n s at channels (suc k + j) q ∙ sym (heard_end n s at channels j q) ∙ ap (heard_from n channels j s) (sym here))

  joined_refused : (k : ℕ) (c : Course) (at x : ℕ) → c.number ≡ 0 → (x ≡ 0 → ⊥) → read_record n s at ≡ Refused x → Joined c (suc k) at
  joined_refused k c at x going o q =
      joins_as c _ (bad x ∷ []) _ (bad x ∷ []) _ _ (ap (λ (i : ℕ). heard_from n channels i s at) (one_more k) ∙ heard_refused n s at channels (k + j) x q) (heard_refused n s at channels k x q) refl
      (joins_first c (bad x) [] [] _ (joins_stopped (turn c (bad x)) [] [] _ (λ z. o (sym (turn_stops c x going o) ∙ z))))

  joined_good : (k : ℕ) (c : Course) (at : ℕ) (e : Event) (next : ℕ) → c.number ≡ 0 → read_record n s at ≡ Good e next → Joined (turn c (good (told e))) k next → Joined c (suc k) at
  joined_good k c at e next going q more = go (eqb (turn c (good (told e))).number 0) refl
    where
      all : heard_from n channels (suc k + j) s at ≡ good (told e) ∷ heard_from n channels (k + j) s next
      all = ap (λ (i : ℕ). heard_from n channels i s at) (one_more k) ∙ heard_good n s at channels (k + j) e next q

      go : (b : Bool) → eqb (turn c (good (told e))).number 0 ≡ b → Joined c (suc k) at
      go true z =
          let d : Course = turn c (good (told e)) in
          let rs : List Record = heard_from n channels k s next in
          let one : d.done ≡ suc c.done = turn_counts c (told e) going (eqb-true _ _ z) in
          let same : gone c (heard_from n channels (suc k) s at) ≡ gone d rs = ap (gone c) (heard_good n s at channels k e next q) ∙ gone_one c (good (told e)) rs in
          let count : (gone c (heard_from n channels (suc k) s at)).done - c.done ≡ suc ((gone d rs).done - d.done) = omega (arith, ap (λ (x : Course). x.done) same, one, gone_grows d rs) in
          joins_as c _ (good (told e) ∷ heard_from n channels (k + j) s next) _ (good (told e) ∷ rs) _ (offset_behind ((gone d rs).done - d.done) n s next) all (heard_good n s at channels k e next q)
          (ap (λ (i : ℕ). offset_behind i n s at) count ∙ offset_next ((gone d rs).done - d.done) n s at e next q)
          (joins_first c (good (told e)) (heard_from n channels (k + j) s next) rs (offset_behind ((gone d rs).done - d.done) n s next) more)
      go false z =
          joins_as c _ (good (told e) ∷ heard_from n channels (k + j) s next) _ (good (told e) ∷ heard_from n channels k s next) _ _ all (heard_good n s at channels k e next q) refl
          (joins_first c (good (told e)) (heard_from n channels (k + j) s next) (heard_from n channels k s next) _ (joins_stopped (turn c (good (told e))) (heard_from n channels (k + j) s next) (heard_from n channels k s next) _ (eqb-false _ _ z)))

  joined_read : (k : ℕ) (c : Course) (at : ℕ) → c.number ≡ 0 → ((d : Course) (x : ℕ) → Joined d k x) → (r : Read) → read_record n s at ≡ r → Joined c (suc k) at
  joined_read k c at going more End q = joined_end k c at q
  joined_read k c at going more (Refused x) q = joined_refused k c at x going (refused_is n s at x q).2 q
  joined_read k c at going more (Good e next) q = joined_good k c at e next going q (more (turn c (good (told e))) next)

  joined : (k : ℕ) (c : Course) (at : ℕ) → Joined c k at
  joined zero c at =
      let rs : List Record = heard_from n channels 0 s at in
      let none : rs ≡ [] = heard_zero n channels s at in
      let here : offset_behind ((gone c rs).done - c.done) n s at ≡ at = offset_zero _ n s at (omega (arith, ap (λ (x : Course). x.done) (ap (gone c) none ∙ (gone_none c).0))) in
      joins_none c (heard_from n channels (0 + j) s at) rs _ none (ap (λ (i : ℕ). heard_from n channels i s at) (zero-add j) ∙ ap (heard_from n channels j s) (sym here))
  joined (suc k) c at = go (eqb c.number 0) refl (λ (d : Course) (x : ℕ). joined k d x)
    where
      go : (b : Bool) → eqb c.number 0 ≡ b → ((d : Course) (x : ℕ) → Joined d k x) → Joined c (suc k) at
      go true t more = joined_read k c at (eqb-true _ _ t) more (read_record n s at) refl
      go false t more = joins_stopped c (heard_from n channels (suc k + j) s at) (heard_from n channels (suc k) s at) _ (eqb-false _ _ t)

-- ---- calls

-- a call, and then j records more: as many records in one
pub call_joins : (r : Replay) (s out₀ : List ℕ) (at : ℕ) (a : Ran) (out : List ℕ) → RanFrom r s out₀ at a out → (j : ℕ)
    → (gone (course_of r) (heard_from r.n r.channels (turns_in (length out₀ - at) r.done + j) s r.at) ≡ gone (course_of a.replay) (heard_from r.n r.channels j s a.replay.at))
    × (gone_text (course_of r) (heard_from r.n r.channels (turns_in (length out₀ - at) r.done + j) s r.at) ≡ gone_text (course_of r) (records_now r s (length out₀ - at)) ++ gone_text (course_of a.replay) (heard_from r.n r.channels j s a.replay.at))
call_joins r s out₀ at a out h j =
    let k : ℕ = turns_in (length out₀ - at) r.done in
    let c₁ : Course = gone (course_of r) (records_now r s (length out₀ - at)) in
    let all = joined r.n r.channels s j k (course_of r) r.at in
    let here : a.replay.at ≡ offset_behind (c₁.done - r.done) r.n s r.at = h.offset ∙ ap (λ (c : Course). offset_behind (c.done - r.done) r.n s r.at) h.course in (
      all.0
          ∙ ap (λ (i : ℕ). gone c₁ (heard_from r.n r.channels j s i)) (sym here)
          ∙ ap (λ (c : Course). gone c (heard_from r.n r.channels j s a.replay.at)) (sym h.course),
      all.1
          ∙ ap (λ (i : ℕ). gone_text (course_of r) (records_now r s (length out₀ - at)) ++ gone_text c₁ (heard_from r.n r.channels j s i)) (sym here)
          ∙ ap (λ (c : Course). gone_text (course_of r) (records_now r s (length out₀ - at)) ++ gone_text c (heard_from r.n r.channels j s a.replay.at)) (sym h.course),
    )

end_read : (d : Read) → is_end d ≡ true → d ≡ End
end_read End e = refl
end_read (Refused k) e = absurd (false≢true e)
end_read (Good e' next) e = absurd (false≢true e)

-- where it is over, however many records there might be: nothing changes, and nothing is printed
pub over_all : (r : Replay) (s : List ℕ) → is_over r s ≡ true → (k : ℕ) → (gone (course_of r) (heard_from r.n r.channels k s r.at) ≡ course_of r) × (gone_text (course_of r) (heard_from r.n r.channels k s r.at) ≡ [])
over_all r s over k = go (eqb r.number 0) refl
  where
    go : (b : Bool) → eqb r.number 0 ≡ b → (gone (course_of r) (heard_from r.n r.channels k s r.at) ≡ course_of r) × (gone_text (course_of r) (heard_from r.n r.channels k s r.at) ≡ [])
    go true t =
        let e : heard_from r.n r.channels k s r.at ≡ [] = heard_end r.n s r.at r.channels k (end_read _ (sym (pick_true (is_end (read_record r.n s r.at)) true t) ∙ over)) in
        (ap (gone (course_of r)) e ∙ (gone_none (course_of r)).0, ap (gone_text (course_of r)) e ∙ (gone_none (course_of r)).1)
    go false t = (gone_stays (course_of r) (eqb-false _ _ t) _, gone_silent (course_of r) (eqb-false _ _ t) _)
