-- Laws of the best message of a list from which others have gone: who does not compete may be passed over before or after. Assumes nothing.
use Rattle.std.proofs.Common.{◌≡◌, Bool, true, false, not, ◌&&◌, ltb, List, [], ◌∷◌, Option, None, Some, is_some, sym, refl, ap, ◌∙◌}
use mathlib.Core.Bool.{false≢true}
use lib.Seq.{take-append_seam}
use Rattle.std.specs.Option.{option_map_or}
use Rattle.parts.specs.Choose.{pick}
use Rattle.parts.specs.declared.list.Message.{Message}
use Rattle.parts.specs.declared.list.Messages.{Messages}
use Rattle.parts.specs.declared.list.Which.{Which}
use Rattle.parts.specs.Messages.{all, pack, fits, only, split_by, better_of, best_of, best}
use Rattle.parts.proofs.Laws.Messages.{best_none, best_more, better_unfit, only_none, only_one, only_not}

pub all_pack : (ms : List Message) → all (pack ms) ≡ ms
unfolding pack
all_pack ms = take-append_seam ms _

-- ---- tests that agree choose alike

module _ (w v : Which) (alike : (m : Message) → fits w m ≡ fits v m) where
  pub better_alike : (b : Option Message) (m : Message) → better_of w b m ≡ better_of v b m
  unfolding better_of
  better_alike b m = rw (alike m)

  pub best_alike : (ms : List Message) (b : Option Message) → best_of w ms b ≡ best_of v ms b
  unfolding best_of
  best_alike [] b = refl
  best_alike (m ∷ ms) b = ap (best_of w ms) (better_alike b m) ∙ best_alike ms (better_of v b m)

-- ---- the best of those that a test keeps

module _ (w v : Which) (g : Message → Bool) (both : (m : Message) → fits v m ≡ g m && fits w m) where
  passed : (b : Option Message) (m : Message) → g m ≡ true → better_of w b m ≡ better_of v b m
  unfolding better_of
  passed b m e = rw (both m, e)

  pub best_kept : (ms : List Message) (b : Option Message) → best_of w (only g ms) b ≡ best_of v ms b
  best_kept [] b = ap (λ (l : List Message). best_of w l b) (only_none g) ∙ best_none w b ∙ sym (best_none v b)
  best_kept (m ∷ ms) b = go (g m) refl (best_kept ms)
    where
      go : (t : Bool) → g m ≡ t → ((c : Option Message) → best_of w (only g ms) c ≡ best_of v ms c) → best_of w (only g (m ∷ ms)) b ≡ best_of v (m ∷ ms) b
      go true e r =
          ap (λ (l : List Message). best_of w l b) (only_one g m ms e)
          ∙ best_more w m (only g ms) b
          ∙ r (better_of w b m)
          ∙ ap (best_of v ms) (passed b m e)
          ∙ sym (best_more v m ms b)
      go false e r =
          ap (λ (l : List Message). best_of w l b) (only_not g m ms e)
          ∙ r b
          ∙ ap (best_of v ms) (sym (better_unfit v b m (both m ∙ ap (λ (t : Bool). t && fits w m) e)))
          ∙ sym (best_more v m ms b)

-- of a list that some have left
pub best_of_kept : (w v u : Which) → ((m : Message) → fits v m ≡ not (fits u m) && fits w m) → (l : Messages) → best w (split_by u l).kept ≡ best v l
unfolding best split_by
best_of_kept w v u both l =
    ap (λ (ms : List Message). best_of w ms None) (all_pack (only (λ (m : Message). not (fits u m)) (all l)))
    ∙ best_kept w v (λ (m : Message). not (fits u m)) both (all l) None

-- ---- where none fits, none goes

module _ (w : Which) where
  better_some : (b : Option Message) (m : Message) → is_some b ≡ true → is_some (better_of w b m) ≡ true
  unfolding better_of pick
  better_some b m e = go (fits w m) (option_map_or (λ (c : Message). ltb c.priority m.priority) b true)
    where
      go : (f h : Bool) → is_some (pick f (pick h (Some m) b) b) ≡ true
      go true true = refl
      go true false = e
      go false h = e

  best_some : (ms : List Message) (b : Option Message) → is_some b ≡ true → is_some (best_of w ms b) ≡ true
  unfolding best_of
  best_some [] b e = e
  best_some (m ∷ ms) b e = best_some ms (better_of w b m) (better_some b m e)

  first_some : (b : Option Message) (m : Message) → fits w m ≡ true → is_some (better_of w b m) ≡ true
  unfolding better_of pick
  first_some None m f = rw f refl
  first_some (Some c) m f = rw f (go (ltb c.priority m.priority))
    where
      go : (h : Bool) → is_some (pick h (Some m) (Some c)) ≡ true
      go true = refl
      go false = refl

  pub none_goes : (ms : List Message) (b : Option Message) → is_some (best_of w ms b) ≡ false → only (λ (m : Message). not (fits w m)) ms ≡ ms
  none_goes [] b e = only_none (λ (m : Message). not (fits w m))
  none_goes (m ∷ ms) b e = go (fits w m) refl (none_goes ms b)
    where
      others : Message → Bool
      others x = not (fits w x)

      go : (t : Bool) → fits w m ≡ t → (is_some (best_of w ms b) ≡ false → only others ms ≡ ms) → only others (m ∷ ms) ≡ m ∷ ms
      go true f r = absurd (false≢true (sym e ∙ ap (λ (x : Option Message). is_some x) (best_more w m ms b) ∙ best_some ms (better_of w b m) (first_some b m f)))
      go false f r =
          only_one others m ms (ap not f)
          ∙ ap (λ (l : List Message). m ∷ l)
          (r (sym (ap (λ (x : Option Message). is_some x) (best_more w m ms b ∙ ap (best_of w ms) (better_unfit w b m f))) ∙ e))

-- so the best of the others is the best of all that do not fit
pub best_none_gone : (w v u : Which) → ((m : Message) → fits v m ≡ not (fits u m) && fits w m) → (l : Messages) → is_some (best u l) ≡ false → best w l ≡ best v l
unfolding best
best_none_gone w v u both l e =
    ap (λ (ms : List Message). best_of w ms None) (sym (none_goes u (all l) None e))
    ∙ best_kept w v (λ (m : Message). not (fits u m)) both (all l) None
