-- Laws of the records from an offset on: there are no more of them than octets, and a run is as many octets further as it has done records, at least.
-- Assumes nothing.
use mathlib.Core.Path.{◌≡◌, refl, sym, ap, subst, ◌∙◌}
use mathlib.Core.Bool.{Bool, true, false}
use mathlib.Core.List.{List, [], ◌∷◌}
use Prim.Native.Nat.{ℕ, zero, suc, ◌+◌, ◌-◌, ◌<◌, ◌≤◌}
use native.Mathlib.Omega.{arith}
use lib.Dec.{eqb}
use lib.ListN.{length}
use borrow.Author.Tests.{eqb-true, eqb-false}
use Rattle.capture.specs.Record.{read_record}
use Rattle.capture.specs.declared.record.Event.{Event}
use Rattle.capture.specs.declared.record.Read.{Read}
use Rattle.capture.specs.declared.record.Read.TheVariants.{End, Refused, Good}
use Rattle.capture.proofs.Laws.Reading.{read_end, found, refused_is}
use Rattle.day.specs.Listening.{heard_in, asked}
use Rattle.replay.specs.Running.{offset_behind}
use Rattle.replay.specs.Runs.{Record, good, bad, records_from, heard_from, Course, stopped, went_on, turn, gone}
use Rattle.replay.proofs.Laws.Running.{records_end, records_refused, records_good, heard_end, heard_refused, heard_good, gone_stays, gone_one, gone_none, heard_zero, offset_zero, offset_next}
use Rattle.replay_theorems.proofs.Laws.Turning.{Turns, over, stops, goes, turns, bad_number}

module _ (n : ℕ) (s : List ℕ) where
  -- ---- as many as there are octets is enough

  pub records_enough : (k j at : ℕ) → length s ≤ at + k → records_from (k + j) n s at ≡ records_from k n s at
  records_enough zero j at h =
      let q : read_record n s at ≡ End = sym (read_end n s at (omega arith)) in
      records_end n s at (0 + j) q ∙ sym (records_end n s at 0 q)
  records_enough (suc k) j at h = go (read_record n s at) refl (λ (x : ℕ). records_enough k j x)
    where
      one : suc k + j ≡ suc (k + j)
      one = omega arith

      go : (r : Read) → read_record n s at ≡ r → ((x : ℕ) → length s ≤ x + k → records_from (k + j) n s x ≡ records_from k n s x)
          → records_from (suc k + j) n s at ≡ records_from (suc k) n s at
      go End q more = records_end n s at (suc k + j) q ∙ sym (records_end n s at (suc k) q)
      go (Refused x) q more =
          ap (λ (i : ℕ). records_from i n s at) one ∙ records_refused n s at (k + j) x q ∙ sym (records_refused n s at k x q)
      go (Good e next) q more =
          ap (λ (i : ℕ). records_from i n s at) one
          ∙ records_good n s at (k + j) e next q
          ∙ ap (λ (rs : List Record). good e ∷ rs) (more next (omega (arith, (found n s at e next q).next_is)))
          ∙ sym (records_good n s at k e next q)

  -- ---- how far

  -- from an offset with some records done, until more are done: each is of one octet at least
  abbrev pub Further : ℕ → ℕ → ℕ → Type 0
  Further at done more = (done ≤ more) × (at + (more - done) ≤ offset_behind (more - done) n s at)

  none_done : (at done more : ℕ) → more ≡ done → Further at done more
  none_done at done more e =
      let z : more - done ≡ 0 = omega (arith, e) in
      (omega (arith, e), omega (arith, z, offset_zero (more - done) n s at z))

  one_done : (at done more : ℕ) (e : Event) (next : ℕ) → read_record n s at ≡ Good e next → Further next (suc done) more → Further at done more
  one_done at done more e next q f =
      let one : more - done ≡ suc (more - suc done) = omega (arith, f.0) in
      let there : offset_behind (more - done) n s at ≡ offset_behind (more - suc done) n s next =
      ap (λ (i : ℕ). offset_behind i n s at) one ∙ offset_next (more - suc done) n s at e next q in
      (omega (arith, f.0), omega (arith, one, there, f.0, f.1, (found n s at e next q).next_is))

module _ (n : ℕ) (channels s : List ℕ) where
  -- an event with what the ring file says of it
  abbrev told : Event → Event
  told = asked (heard_in n channels)

  -- ---- the first of them: there is none, it stops the run, or the run goes on behind it

  data First (k : ℕ) (c : Course) (at : ℕ) : Type 0 where
    ends : read_record n s at ≡ End → gone c (heard_from n channels (suc k) s at) ≡ c → First k c at
    halts : (x : ℕ) → (x ≡ 0 → ⊥) → gone c (heard_from n channels (suc k) s at) ≡ stopped c x → First k c at
    follows : (e : Event) (next : ℕ) → read_record n s at ≡ Good e next
        → gone c (heard_from n channels (suc k) s at) ≡ gone (went_on c (told e)) (heard_from n channels k s next) → First k c at

  first_refused : (k : ℕ) (c : Course) (at x : ℕ) → c.number ≡ 0 → read_record n s at ≡ Refused x → First k c at
  first_refused k c at x z q = go (turns c (bad x))
    where
      leaves : gone c (heard_from n channels (suc k) s at) ≡ turn c (bad x)
      leaves = ap (gone c) (heard_refused n s at channels k x q) ∙ gone_one c (bad x) [] ∙ (gone_none (turn c (bad x))).0

      go : Turns c (bad x) → First k c at
      go (over o t) = absurd (o z)
      go (stops y o t) = halts _ o (leaves ∙ t.leaves)
      go (goes y w t) = absurd ((refused_is n s at x q).2 (sym (bad_number c.day x) ∙ w))

  first_good : (k : ℕ) (c : Course) (at : ℕ) (e : Event) (next : ℕ) → c.number ≡ 0 → read_record n s at ≡ Good e next → First k c at
  first_good k c at e next z q = go (turns c (good (told e)))
    where
      leaves : gone c (heard_from n channels (suc k) s at) ≡ gone (turn c (good (told e))) (heard_from n channels k s next)
      leaves = ap (gone c) (heard_good n s at channels k e next q) ∙ gone_one c (good (told e)) (heard_from n channels k s next)

      go : Turns c (good (told e)) → First k c at
      go (over o t) = absurd (o z)
      go (stops y o t) = halts _ o (leaves ∙ ap (λ (x : Course). gone x (heard_from n channels k s next)) t.leaves ∙ gone_stays _ o (heard_from n channels k s next))
      go (goes y w t) = follows e next q (leaves ∙ ap (λ (x : Course). gone x (heard_from n channels k s next)) t.leaves)

  first : (k : ℕ) (c : Course) (at : ℕ) → c.number ≡ 0 → First k c at
  first k c at z = go (read_record n s at) refl
    where
      go : (r : Read) → read_record n s at ≡ r → First k c at
      go End q = ends q (ap (gone c) (heard_end n s at channels (suc k) q) ∙ (gone_none c).0)
      go (Refused x) q = first_refused k c at x z q
      go (Good e next) q = first_good k c at e next z q

  -- k records
  abbrev RunsOn : ℕ → Type 0
  RunsOn k = (c : Course) (at : ℕ) → Further n s at c.done (gone c (heard_from n channels k s at)).done

  first_further : (k : ℕ) (c : Course) (at : ℕ) → RunsOn k → First k c at → Further n s at c.done (gone c (heard_from n channels (suc k) s at)).done
  first_further k c at more (ends q l) = none_done n s at c.done _ (ap (λ (x : Course). x.done) l)
  first_further k c at more (halts x o l) = none_done n s at c.done _ (ap (λ (x : Course). x.done) l)
  first_further k c at more (follows e next q l) =
      subst (Further n s at c.done) (ap (λ (x : Course). x.done) (sym l)) (one_done n s at c.done _ e next q (more (went_on c (told e)) next))

  pub gone_further : (k : ℕ) → RunsOn k
  gone_further zero c at = none_done n s at c.done _ (ap (λ (x : Course). x.done) (ap (gone c) (heard_zero n channels s at) ∙ (gone_none c).0))
  gone_further (suc k) c at = go (eqb c.number 0) refl (gone_further k)
    where
      go : (b : Bool) → eqb c.number 0 ≡ b → RunsOn k → Further n s at c.done (gone c (heard_from n channels (suc k) s at)).done
      go true t more = first_further k c at more (first k c at (eqb-true _ _ t))
      go false t more = none_done n s at c.done _ (ap (λ (x : Course). x.done) (gone_stays c (eqb-false _ _ t) _))

  -- a run that is not over does one record at least, or stops
  pub does_one : (k : ℕ) (c : Course) (at : ℕ) → c.number ≡ 0 → (read_record n s at ≡ End → ⊥) → (gone c (heard_from n channels (suc k) s at)).number ≡ 0
      → c.done < (gone c (heard_from n channels (suc k) s at)).done
  does_one k c at z more going = go (first k c at z)
    where
      go : First k c at → c.done < (gone c (heard_from n channels (suc k) s at)).done
      go (ends q e) = absurd (more q)
      go (halts x o e) = absurd (o (ap (λ (y : Course). y.number) (sym e) ∙ going))
      go (follows e next q l) = omega (arith, ap (λ (x : Course). x.done) l, (gone_further k (went_on c (told e)) next).0)
