-- Laws of a flag for each place of a list's messages. Assumes nothing.
use Rattle.std.proofs.Common.{◌≡◌, ℕ, zero, suc, ◌<◌, Bool, true, false, eqb, List, [], ◌∷◌, ◌++◌, length, get_or, set, replicate, sym, refl, ap, ◌∙◌, get_or-set_other, get_or-set_same, eqb-true}
use borrow.Author.Tests.{eqb-false}
use Rattle.parts.specs.Choose.{pick}
use Rattle.parts.specs.declared.list.Message.{Message}
use Rattle.parts.specs.Messages.{has_place, Marked}
use Rattle.parts.proofs.Laws.Messages.{place_none, place_here, place_later}

module _ (m : Message) (p : ℕ) where
  pub place_last : (ms : List Message) → m.place ≡ p → has_place (ms ++ m ∷ []) p ≡ true
  unfolding has_place pick
  place_last [] e = place_here m [] p e
  place_last (x ∷ ms) e = ap (pick (eqb x.place p) true) (place_last ms e) ∙ either (eqb x.place p)
    where
      either : (b : Bool) → pick b true true ≡ true
      either true = refl
      either false = refl

  pub place_before : (ms : List Message) → (m.place ≡ p → ⊥) → has_place (ms ++ m ∷ []) p ≡ has_place ms p
  unfolding has_place
  place_before [] n = place_later m [] p n
  place_before (x ∷ ms) n = ap (pick (eqb x.place p) true) (place_before ms n)

pub marked_at : (flags : List Bool) (ms : List Message) → Marked flags ms → (p : ℕ) → get_or flags p false ≡ has_place ms p
unfolding Marked
marked_at flags ms h = h

unset : (n p : ℕ) → get_or (replicate n false) p false ≡ false
unset zero p = refl
unset (suc n) zero = refl
unset (suc n) (suc p) = unset n p

pub marked_none : (n : ℕ) → Marked (replicate n false) []
unfolding Marked
marked_none n = λ p. unset n p ∙ sym (place_none p)

pub marked_more : (flags : List Bool) (ms ns : List Message) (m : Message) → ns ≡ ms ++ m ∷ [] → m.place < length flags → Marked flags ms
    → Marked (set flags m.place true) ns
unfolding Marked
marked_more flags ms ns m e h k = λ p. go p (eqb m.place p) refl
  where
    go : (p : ℕ) (b : Bool) → eqb m.place p ≡ b → get_or (set flags m.place true) p false ≡ has_place ns p
    go p true q =
        let s : m.place ≡ p = eqb-true m.place p q in
        ap (λ (j : ℕ). get_or (set flags m.place true) j false) (sym s)
        ∙ get_or-set_same flags m.place true false h
        ∙ sym (place_last m p ms s)
        ∙ ap (λ (l : List Message). has_place l p) (sym e)
    go p false q =
        get_or-set_other flags m.place p true false (λ s. eqb-false m.place p q (sym s))
        ∙ k p
        ∙ sym (place_before m p ms (eqb-false m.place p q))
        ∙ ap (λ (l : List Message). has_place l p) (sym e)

pub marked_same : (flags : List Bool) (ms ns : List Message) → ms ≡ ns → Marked flags ms → Marked flags ns
marked_same flags ms ns e k = rw (sym e) k
