-- Laws of the messages that a test takes out of a list: two tests, tests that agree, members. Assumes nothing.
use mathlib.Core.Path.{◌≡◌, refl, sym, ap, subst, ◌∙◌}
use mathlib.Core.Bool.{Bool, true, false, not, ◌&&◌}
use mathlib.Core.List.Memᴰ
use mathlib.Core.List.{List, [], ◌∷◌, Memᴰ}
use mathlib.Core.Logic.{◌⊎◌, inl, inr}
use Prim.Native.Nat.{suc, ◌+◌}
use native.Mathlib.Omega.{arith}
use lib.ListN.{length}
use Rattle.parts.specs.declared.list.Message.{Message}
use Rattle.parts.specs.Messages.{only}
use Rattle.parts.proofs.Laws.Messages.{only_none, only_one, only_not}

-- ---- tests that agree take the same

pub only_same : (f g : Message → Bool) → ((m : Message) → f m ≡ g m) → (ms : List Message) → only f ms ≡ only g ms
only_same f g w [] = only_none f ∙ sym (only_none g)
only_same f g w (m ∷ ms) = go (f m) refl (only_same f g w ms)
  where
    go : (b : Bool) → f m ≡ b → only f ms ≡ only g ms → only f (m ∷ ms) ≡ only g (m ∷ ms)
    go true e r = only_one f m ms e ∙ ap (λ (l : List Message). m ∷ l) r ∙ sym (only_one g m ms (sym (w m) ∙ e))
    go false e r = only_not f m ms e ∙ r ∙ sym (only_not g m ms (sym (w m) ∙ e))

-- a test that holds of each takes all, one that holds of none takes none
module _ (f : Message → Bool) where
  pub only_all : ((m : Message) → f m ≡ true) → (ms : List Message) → only f ms ≡ ms
  only_all w [] = only_none f
  only_all w (m ∷ ms) = only_one f m ms (w m) ∙ ap (λ (l : List Message). m ∷ l) (only_all w ms)

  pub only_nothing : ((m : Message) → f m ≡ false) → (ms : List Message) → only f ms ≡ []
  only_nothing w [] = only_none f
  only_nothing w (m ∷ ms) = only_not f m ms (w m) ∙ only_nothing w ms

  -- where it takes none, the opposite test takes all
  pub none_taken : (ms : List Message) → only f ms ≡ [] → only (λ (m : Message). not (f m)) ms ≡ ms
  none_taken [] e = only_none (λ (m : Message). not (f m))
  none_taken (m ∷ ms) e = go (f m) refl (none_taken ms)
    where
      others : Message → Bool
      others x = not (f x)

      go : (b : Bool) → f m ≡ b → (only f ms ≡ [] → only others ms ≡ ms) → only others (m ∷ ms) ≡ m ∷ ms
      go true t r =
          let z : suc (length (only f ms)) ≡ 0 = ap length (sym (only_one f m ms t) ∙ e) in
          absurd (omega arith)
      go false t r = only_one others m ms (ap not t) ∙ ap (λ (l : List Message). m ∷ l) (r (sym (only_not f m ms t) ∙ e))

  -- the two parts together are as many as the list
  pub two_parts : (ms : List Message) → length (only f ms) + length (only (λ (m : Message). not (f m)) ms) ≡ length ms
  two_parts [] = rw (only_none f, only_none (λ (m : Message). not (f m)))
  two_parts (m ∷ ms) = go (f m) refl (two_parts ms)
    where
      others : Message → Bool
      others x = not (f x)

      go : (b : Bool) → f m ≡ b → length (only f ms) + length (only others ms) ≡ length ms
          → length (only f (m ∷ ms)) + length (only others (m ∷ ms)) ≡ suc (length ms)
      go true t r = rw (only_one f m ms t, only_not others m ms (ap not t)) (omega arith)
      go false t r = rw (only_not f m ms t, only_one others m ms (ap not t)) (omega arith)

-- ---- one test after the other

pub only_twice : (f g : Message → Bool) (ms : List Message) → only f (only g ms) ≡ only (λ (m : Message). g m && f m) ms
only_twice f g [] = ap (only f) (only_none g) ∙ only_none f ∙ sym (only_none (λ (m : Message). g m && f m))
only_twice f g (m ∷ ms) = go (g m) refl (f m) refl (only_twice f g ms)
  where
    both : Message → Bool
    both x = g x && f x

    go : (b : Bool) → g m ≡ b → (c : Bool) → f m ≡ c → only f (only g ms) ≡ only both ms → only f (only g (m ∷ ms)) ≡ only both (m ∷ ms)
    go true s true t r =
        let e : both m ≡ true = rw (s, t) in
        ap (only f) (only_one g m ms s) ∙ only_one f m (only g ms) t ∙ ap (λ (l : List Message). m ∷ l) r ∙ sym (only_one both m ms e)
    go true s false t r =
        let e : both m ≡ false = rw (s, t) in
        ap (only f) (only_one g m ms s) ∙ only_not f m (only g ms) t ∙ r ∙ sym (only_not both m ms e)
    go false s c t r =
        let e : both m ≡ false = rw s in
        ap (only f) (only_not g m ms s) ∙ r ∙ sym (only_not both m ms e)

-- ---- members

module _ (f : Message → Bool) (x : Message) where
  pub member_taken : (ms : List Message) → Memᴰ x ms → f x ≡ true → Memᴰ x (only f ms)
  member_taken ms (Memᴰ.head {x = m} {xs = xs} e) t =
      rw (only_one f m xs (ap f (sym e) ∙ t)) (Memᴰ.head e)
  member_taken ms (Memᴰ.tail {x = m} {xs = xs} h) t = go (f m) refl (member_taken xs h t)
    where
      go : (b : Bool) → f m ≡ b → Memᴰ x (only f xs) → Memᴰ x (only f (m ∷ xs))
      go true e r = rw (only_one f m xs e) (Memᴰ.tail r)
      go false e r = rw (only_not f m xs e) r

  pub taken_member : (ms : List Message) → Memᴰ x (only f ms) → Memᴰ x ms × (f x ≡ true)
  taken_member [] h = absurd (Memᴰ.not-nil (subst (Memᴰ x) (only_none f) h))
  taken_member (m ∷ ms) h = go (f m) refl (taken_member ms)
    where
      here_or_later : f m ≡ true → (Memᴰ x (only f ms) → Memᴰ x ms × (f x ≡ true)) → (x ≡ m) ⊎ Memᴰ x (only f ms)
          → Memᴰ x (m ∷ ms) × (f x ≡ true)
      here_or_later t rest (inl e) = (Memᴰ.head e, ap f e ∙ t)
      here_or_later t rest (inr i) = (Memᴰ.tail (rest i).0, (rest i).1)

      go : (b : Bool) → f m ≡ b → (Memᴰ x (only f ms) → Memᴰ x ms × (f x ≡ true)) → Memᴰ x (m ∷ ms) × (f x ≡ true)
      go true t rest = here_or_later t rest (Memᴰ.cases_cons (subst (Memᴰ x) (only_one f m ms t) h))
      go false t rest = let r = rest (subst (Memᴰ x) (only_not f m ms t) h) in (Memᴰ.tail r.0, r.1)
