-- Where a message of the send list goes, by what leaves it. Assumes nothing.
use mathlib.Core.Path.{◌≡◌, refl, sym, ap, subst, ◌∙◌}
use mathlib.Core.Bool.{Bool, true, false, not, ◌&&◌, ◌||◌, false≢true, and-false, or-true}
use mathlib.Core.List.Memᴰ
use mathlib.Core.List.{List, [], Memᴰ}
use mathlib.Core.Logic.{◌⊎◌, inl, inr}
use Rattle.parts.specs.Messages.{all, only, has_place}
use Rattle.wholeness.specs.Whole.{apart}
use Rattle.parts.specs.declared.list.Message.{Message}
use Rattle.std.specs.Prelude.{Option, ℕ}
use Rattle.station.specs.declared.station.Station.{Station}
use Rattle.station.specs.declared.station.Answer.{Answer}
use Rattle.station_theorems.specs.Leaves.{waits_to, flying, AnswerLeaves}
use Rattle.station_theorems.proofs.Laws.Only.{member_taken, taken_member}
use Rattle.station_theorems.proofs.Laws.Leaving.{place_left_free}

-- two tests that hold
and_parts : (b c : Bool) → (b && c) ≡ true → (b ≡ true) × (c ≡ true)
and_parts true c e = (refl, e)
and_parts false c e = absurd (false≢true e)

module _ (s : Station) (places : apart [] (all s.sends) ≡ true) (a : Answer) (w : Option ℕ) (flew landed : Bool) (k : AnswerLeaves s w flew landed a) where
  abbrev ms : List Message
  ms = all s.sends

  abbrev leaving : Message → Bool
  leaving m = waits_to s w m || ((flew || landed) && flying s m)

  -- a message that does not leave stays
  stays : (m : Message) → Memᴰ m ms → leaving m ≡ false → Memᴰ m (all a.station.sends)
  stays m h e = subst (Memᴰ m) (sym k.remaining) (member_taken (λ (x : Message). not (leaving x)) m ms h (ap not e))

  -- a message that leaves leaves its place free
  pub frees : (m : Message) → Memᴰ m ms → leaving m ≡ true → has_place (all a.station.sends) m.place ≡ false
  frees m h e = rw k.remaining (place_left_free (λ (x : Message). not (leaving x)) ms places m h (ap not e))

  -- an acknowledged message, too
  pub landed_frees : landed ≡ true → (m : Message) → Memᴰ m ms → flying s m ≡ true → has_place (all a.station.sends) m.place ≡ false
  landed_frees j m h e =
      frees m h
      (ap (λ (z : Bool). waits_to s w m || ((flew || z) && flying s m)) j
      ∙ ap (λ (y : Bool). waits_to s w m || (y && flying s m)) (or-true flew)
      ∙ ap (λ (g : Bool). waits_to s w m || g) e
      ∙ or-true (waits_to s w m))

  -- a message that is told stood in the list, and left it
  pub one_of_told : (m : Message) → Memᴰ m (all a.gone) → Memᴰ m ms × (leaving m ≡ true)
  one_of_told m h = go (Memᴰ.append_cases (only (waits_to s w) ms) (subst (Memᴰ m) k.told h))
    where
      go : Memᴰ m (only (waits_to s w) ms) ⊎ Memᴰ m (only (λ (x : Message). flew && flying s x) ms) → Memᴰ m ms × (leaving m ≡ true)
      go (inl i) =
          let r = taken_member (waits_to s w) m ms i in
          (r.0, ap (λ (v : Bool). v || ((flew || landed) && flying s m)) r.1)
      go (inr i) =
          let r = taken_member (λ (x : Message). flew && flying s x) m ms i in
          let t = and_parts flew (flying s m) r.1 in (
            r.0,
            ap (λ (y : Bool). waits_to s w m || ((y || landed) && flying s m)) t.0
                ∙ ap (λ (g : Bool). waits_to s w m || g) t.1
                ∙ or-true (waits_to s w m),
          )

  -- a message of the list stays, or is told, or is acknowledged
  pub one_of_old : (acked : Type 0) → (landed ≡ true → acked) → (m : Message) → Memᴰ m ms
      → Memᴰ m (all a.station.sends) ⊎ (Memᴰ m (all a.gone) ⊎ (acked × (flying s m ≡ true)))
  one_of_old acked why m h = go (waits_to s w m) refl (flying s m) refl flew refl landed refl
    where
      go : (v : Bool) → waits_to s w m ≡ v → (g : Bool) → flying s m ≡ g → (y : Bool) → flew ≡ y → (z : Bool) → landed ≡ z
          → Memᴰ m (all a.station.sends) ⊎ (Memᴰ m (all a.gone) ⊎ (acked × (flying s m ≡ true)))
      go true e g e' y i z j =
          inr (inl (subst (Memᴰ m) (sym k.told) (Memᴰ.append_left _ (member_taken (waits_to s w) m ms h e))))
      go false e false e' y i z j =
          inl (stays m h
          (ap (λ (v : Bool). v || ((flew || landed) && flying s m)) e ∙ ap (λ (g : Bool). (flew || landed) && g) e' ∙ and-false (flew || landed)))
      go false e true e' true i z j =
          inr (inl (subst (Memᴰ m) (sym k.told)
          (Memᴰ.append_right (only (waits_to s w) ms)
          (member_taken (λ (x : Message). flew && flying s x) m ms h (ap (λ (y : Bool). y && flying s m) i ∙ e')))))
      go false e true e' false i true j = inr (inr (why j, e'))
      go false e true e' false i false j =
          inl (stays m h
          (ap (λ (v : Bool). v || ((flew || landed) && flying s m)) e
          ∙ ap (λ (y : Bool). (y || landed) && flying s m) i
          ∙ ap (λ (z : Bool). z && flying s m) j))
