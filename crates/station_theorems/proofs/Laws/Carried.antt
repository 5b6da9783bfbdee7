-- Laws of the message at a place: what a push or a split leaves of it. Assumes nothing.
use mathlib.Core.Path.{◌≡◌, refl, sym, ap, ◌∙◌}
use mathlib.Core.Bool.{Bool, true, false, false≢true}
use mathlib.Core.List.{List, [], ◌∷◌, ◌++◌}
use Prim.Native.Nat.{ℕ}
use lib.Dec.{eqb}
use borrow.Author.Tests.{eqb-true, eqb-false, eq-eqb, ne_eqb}
use Rattle.parts.specs.Choose.{every}
use Rattle.parts.specs.Messages.{fits, better_of, best_of, only, has_place}
use Rattle.std.specs.Prelude.{Option, None, Some, is_some}
use Rattle.wholeness.specs.Whole.{apart}
use Rattle.parts.specs.declared.list.Message.{Message}
use Rattle.parts.specs.declared.list.Which.{Which}
use Rattle.parts.specs.declared.list.Which.TheVariants.{HasPlace}
use Rattle.parts.proofs.Laws.Messages.{place_none, place_here, place_later, best_none, best_more, better_unfit, better_first, only_none, only_one, only_not}
use Rattle.parts.proofs.Laws.Tests.{each_first, each_rest}
use Rattle.station_theorems.proofs.Laws.Kept.{place_left, place_right, place_append, apart_first, apart_rest}

-- ---- one after the other

pub best_append : (w : Which) (xs ys : List Message) (b : Option Message) → best_of w (xs ++ ys) b ≡ best_of w ys (best_of w xs b)
unfolding best_of
best_append w [] ys b = refl
best_append w (x ∷ xs) ys b = best_append w xs ys (better_of w b x)

-- ---- by a place

module _ (p : ℕ) where
  -- none has it
  pub best_nowhere : (ms : List Message) (b : Option Message) → has_place ms p ≡ false → best_of (HasPlace p) ms b ≡ b
  unfolding fits
  best_nowhere [] b h = best_none (HasPlace p) b
  best_nowhere (m ∷ ms) b h = go (eqb m.place p) refl (best_nowhere ms b (place_right (m ∷ []) ms p h))
    where
      go : (t : Bool) → eqb m.place p ≡ t → best_of (HasPlace p) ms b ≡ b → best_of (HasPlace p) (m ∷ ms) b ≡ b
      go true e r = absurd (false≢true (sym (place_left (m ∷ []) ms p h) ∙ place_here m [] p (eqb-true _ _ e)))
      go false e r = best_more (HasPlace p) m ms b ∙ ap (best_of (HasPlace p) ms) (better_unfit (HasPlace p) b m e) ∙ r

  -- so where one is found, one has it
  pub best_somewhere : (ms : List Message) → is_some (best_of (HasPlace p) ms None) ≡ true → has_place ms p ≡ true
  best_somewhere ms e = go (has_place ms p) refl
    where
      go : (t : Bool) → has_place ms p ≡ t → has_place ms p ≡ true
      go true h = h
      go false h = absurd (false≢true (sym (ap (λ (b : Option Message). is_some b) (best_nowhere ms None h)) ∙ e))

  -- one more with another place
  pub best_pushed : (ms : List Message) (m : Message) → is_some (best_of (HasPlace p) ms None) ≡ true → has_place ms m.place ≡ false
      → best_of (HasPlace p) (ms ++ m ∷ []) None ≡ best_of (HasPlace p) ms None
  unfolding fits
  best_pushed ms m e h =
      best_append (HasPlace p) ms (m ∷ []) None
      ∙ best_more (HasPlace p) m [] (best_of (HasPlace p) ms None)
      ∙ best_none (HasPlace p) _
      ∙ better_unfit (HasPlace p) (best_of (HasPlace p) ms None) m (ne_eqb _ _ (λ q. false≢true (sym h ∙ ap (has_place ms) q ∙ best_somewhere ms e)))

  -- those that a test takes, where it takes each that has the place
  pub best_only : (g : Message → Bool) → ((m : Message) → m.place ≡ p → g m ≡ true) → (ms : List Message) (b : Option Message)
      → best_of (HasPlace p) (only g ms) b ≡ best_of (HasPlace p) ms b
  unfolding fits
  best_only g w [] b = rw (only_none g)
  best_only g w (m ∷ ms) b = go (g m) refl (best_only g w ms)
    where
      go : (t : Bool) → g m ≡ t → ((c : Option Message) → best_of (HasPlace p) (only g ms) c ≡ best_of (HasPlace p) ms c)
          → best_of (HasPlace p) (only g (m ∷ ms)) b ≡ best_of (HasPlace p) (m ∷ ms) b
      go true e r =
          ap (λ (l : List Message). best_of (HasPlace p) l b) (only_one g m ms e)
          ∙ best_more (HasPlace p) m (only g ms) b
          ∙ r (better_of (HasPlace p) b m)
          ∙ sym (best_more (HasPlace p) m ms b)
      go false e r =
          ap (λ (l : List Message). best_of (HasPlace p) l b) (only_not g m ms e)
          ∙ r b
          ∙ ap (best_of (HasPlace p) ms) (sym (better_unfit (HasPlace p) b m (ne_eqb _ _ (λ q. false≢true (sym e ∙ w m q)))))
          ∙ sym (best_more (HasPlace p) m ms b)

-- ---- a message that stands in the list

pub each_within : (f : Message → Bool) (m : Message) (xs ys : List Message) → every f (xs ++ m ∷ ys) ≡ true → f m ≡ true
each_within f m [] ys e = each_first f m ys e
each_within f m (x ∷ xs) ys e = each_within f m xs ys (each_rest f x (xs ++ m ∷ ys) e)

-- where places are apart, it alone has its place
apart_within : (b xs ys : List Message) (m : Message) → apart b (xs ++ m ∷ ys) ≡ true
    → (has_place b m.place ≡ false) × (has_place xs m.place ≡ false) × (has_place ys m.place ≡ false)
apart_within b [] ys m e = (apart_first b m ys e, place_none m.place, others (b ++ m ∷ []) ys (apart_rest b m ys e) m.place (last b m))
  where
    last : (b : List Message) (m : Message) → has_place (b ++ m ∷ []) m.place ≡ true
    last b m = go (has_place (b ++ m ∷ []) m.place) refl
      where
        go : (t : Bool) → has_place (b ++ m ∷ []) m.place ≡ t → has_place (b ++ m ∷ []) m.place ≡ true
        go true q = q
        go false q = absurd (false≢true (sym (place_right b (m ∷ []) m.place q) ∙ place_here m [] m.place refl))

    others : (c zs : List Message) → apart c zs ≡ true → (p : ℕ) → has_place c p ≡ true → has_place zs p ≡ false
    others c [] a p h = place_none p
    others c (z ∷ zs) a p h = go (eqb z.place p) refl (others (c ++ z ∷ []) zs (apart_rest c z zs a) p (still c z p h))
      where
        still : (c : List Message) (z : Message) (p : ℕ) → has_place c p ≡ true → has_place (c ++ z ∷ []) p ≡ true
        still c z p h = up (has_place (c ++ z ∷ []) p) refl
          where
            up : (t : Bool) → has_place (c ++ z ∷ []) p ≡ t → has_place (c ++ z ∷ []) p ≡ true
            up true q = q
            up false q = absurd (false≢true (sym (place_left c (z ∷ []) p q) ∙ h))

        go : (t : Bool) → eqb z.place p ≡ t → has_place zs p ≡ false → has_place (z ∷ zs) p ≡ false
        go true q r = absurd (false≢true (sym (apart_first c z zs a) ∙ ap (has_place c) (eqb-true z.place p q) ∙ h))
        go false q r = place_later z zs p (eqb-false z.place p q) ∙ r
apart_within b (x ∷ xs) ys m e =
    let r = apart_within (b ++ x ∷ []) xs ys m (apart_rest b x (xs ++ m ∷ ys) e) in
    (place_left b (x ∷ []) m.place r.0, place_append (x ∷ []) xs m.place (place_right b (x ∷ []) m.place r.0) r.1, r.2)

-- so it is found by it
pub best_found : (ms xs ys : List Message) (m : Message) → apart [] ms ≡ true → ms ≡ xs ++ m ∷ ys → best_of (HasPlace m.place) ms None ≡ Some m
unfolding fits
best_found ms xs ys m a e =
    let r = apart_within [] xs ys m (ap (apart []) (sym e) ∙ a) in
    ap (λ (l : List Message). best_of (HasPlace m.place) l None) e
    ∙ best_append (HasPlace m.place) xs (m ∷ ys) None
    ∙ ap (best_of (HasPlace m.place) (m ∷ ys)) (best_nowhere m.place xs None r.1)
    ∙ best_more (HasPlace m.place) m ys None
    ∙ ap (best_of (HasPlace m.place) ys) (better_first (HasPlace m.place) None m (eq-eqb m.place m.place refl) refl)
    ∙ best_nowhere m.place ys (Some m) r.2
