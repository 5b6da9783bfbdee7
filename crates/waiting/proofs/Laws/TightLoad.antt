-- What waits in the run that reaches the bound: the message at station 0, and for a time another at the last station. Assumes nothing.
use mathlib.Core.Path.{◌≡◌, refl, sym, ap, subst, ◌∙◌}
use mathlib.Core.Bool.{Bool, true, false}
use mathlib.Core.List.Memᴰ
use mathlib.Core.List.{List, [], ◌∷◌, Memᴰ}
use Prim.Native.Nat.{ℕ, ◌-◌, ◌<◌, ◌≤◌}
use native.Mathlib.Omega.{arith}
use lib.Dec.{eqb}
use borrow.Author.Tests.{eqb-true, eqb-false, eq-eqb, ne_eqb}
use Rattle.parts.specs.Choose.{pick}
use Rattle.parts.specs.Messages.{message_for}
use Rattle.parts.specs.declared.list.Message.{Message}
use Rattle.parts.proofs.Laws.Choose.{pick_true, pick_false}
use Rattle.waiting.specs.Waiting.{Spot, its_request, foreign_request}
use Rattle.waiting.proofs.Laws.RunAhead.{Below}

-- to station 1 with priority 9 and no octets
abbrev pub its : Message
its = message_for its_request 0

-- to station 1 with priority 5 and 1,492 octets
abbrev pub foreign : Message
foreign = message_for foreign_request 0

abbrev pub spot : Spot
spot = record { station = 0; place = 0 }

-- it waits at station 0, and ms at station n - 1
unfoldable pub load : ℕ → List Message → ℕ → List Message
load n ms p = pick (eqb p 0) (its ∷ []) (pick (eqb p (n - 1)) ms [])

module _ (n : ℕ) (ms : List Message) where
  pub load_first : load n ms 0 ≡ its ∷ []
  unfolding load
  load_first = pick_true _ _ refl

  pub load_last : 2 ≤ n → load n ms (n - 1) ≡ ms
  unfolding load
  load_last two = pick_false _ _ (ne_eqb (n - 1) 0 (λ e. omega arith)) ∙ pick_true _ _ (eq-eqb (n - 1) (n - 1) refl)

  pub load_between : (p : ℕ) → (p ≡ 0 → ⊥) → (p ≡ n - 1 → ⊥) → load n ms p ≡ []
  unfolding load
  load_between p a b = pick_false _ _ (ne_eqb p 0 a) ∙ pick_false _ _ (ne_eqb p (n - 1) b)

-- but for station n - 1 it does not matter what waits there
pub load_same : (n : ℕ) (ms ns : List Message) (p : ℕ) → (p ≡ n - 1 → ⊥) → load n ms p ≡ load n ns p
load_same n ms ns p o = go (eqb p 0) refl
  where
    go : (t : Bool) → eqb p 0 ≡ t → load n ms p ≡ load n ns p
    go true e = let z : p ≡ 0 = eqb-true p 0 e in ap (load n ms) z ∙ load_first n ms ∙ sym (load_first n ns) ∙ ap (load n ns) (sym z)
    go false e = load_between n ms p (eqb-false p 0 e) o ∙ sym (load_between n ns p (eqb-false p 0 e) o)

-- with nothing at the last station all others are empty
pub load_none : (n p : ℕ) → 2 ≤ n → (p ≡ 0 → ⊥) → load n [] p ≡ []
load_none n p two a = go (eqb p (n - 1)) refl
  where
    go : (t : Bool) → eqb p (n - 1) ≡ t → load n [] p ≡ []
    go true e = ap (load n []) (eqb-true p (n - 1) e) ∙ load_last n [] two
    go false e = load_between n [] p a (eqb-false p (n - 1) e)

-- it is on top where all of ms are lower
pub load_below : (n : ℕ) (ms : List Message) → 2 ≤ n → ((m : Message) → Memᴰ m ms → m.priority < 9) → Below spot 9 n (load n ms)
load_below n ms two low p h m l other = go (eqb p 0) refl (eqb p (n - 1)) refl
  where
    go : (t : Bool) → eqb p 0 ≡ t → (u : Bool) → eqb p (n - 1) ≡ u → m.priority < 9
    go true e u d =
        let z : p ≡ 0 = eqb-true p 0 e in
        let same : m ≡ its = Memᴰ.eq_of_singleton (subst (Memᴰ m) (ap (load n ms) z ∙ load_first n ms) l) in
        absurd (other (z, ap (λ (a : Message). a.place) same))
    go false e true d = low m (subst (Memᴰ m) (ap (load n ms) (eqb-true p (n - 1) d) ∙ load_last n ms two) l)
    go false e false d = absurd (Memᴰ.not-nil (subst (Memᴰ m) (load_between n ms p (eqb-false p 0 e) (eqb-false p (n - 1) d)) l))
