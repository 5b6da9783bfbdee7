-- "The head is the waiting message with the highest priority, the earliest accepted among equals; the one in flight does not wait":
-- the best of a list among those that fit a choice, and so the head of a station. Assumes nothing.
use mathlib.Core.Path.{◌≡◌, refl, sym, ap, subst, ◌∙◌}
use mathlib.Core.Bool.{Bool, true, false, false≢true}
use mathlib.Core.List.Memᴰ
use mathlib.Core.List.{List, [], ◌∷◌, ◌++◌, append_assoc, append-nil, Memᴰ}
use mathlib.Core.Logic.{◌⊎◌, inl, inr}
use Prim.Native.Nat.{◌<◌, ◌≤◌}
use native.Mathlib.Omega.{arith}
use lib.Dec.{ltb}
use lib.Seq.{append_snoc}
use borrow.Author.Tests.{ltb-true, ltb-false}
use Rattle.std.proofs.lemmas.Option.{none-some, same_Some}
use Rattle.parts.specs.declared.list.Message.{Message}
use Rattle.parts.specs.declared.list.Messages.{Messages}
use Rattle.std.specs.Prelude.{Option, None, Some}
use Rattle.parts.specs.declared.list.Which.{Which}
use Rattle.parts.specs.declared.list.Which.TheVariants.{AnyWaiting}
use Rattle.station.specs.declared.station.Station.{Station}
use Rattle.parts.specs.Messages.{all, fits, better_of, best_of, best}
use Rattle.parts.specs.Frames.{flight}
use Rattle.station.specs.Stations.{awaited_of, head}
use Rattle.parts.proofs.Laws.Messages.{best_none, best_more, better_unfit, better_first, better_higher, better_kept}
use Rattle.station_theorems.specs.Head.{First, Chosen}

-- a flag is not both
apart : {t : Bool} → t ≡ true → t ≡ false → ⊥
apart p q = false≢true (sym q ∙ p)

module _ (w : Which) where
  -- none of the list is of a higher priority
  none_higher : (ms : List Message) (m : Message) → First w ms m → (x : Message) → Memᴰ x ms → fits w x ≡ true → x.priority ≤ m.priority
  none_higher ms m f x h t = go (Memᴰ.append_cases f.before (subst (Memᴰ x) f.stands h))
    where
      go : Memᴰ x f.before ⊎ Memᴰ x (m ∷ f.behind) → x.priority ≤ m.priority
      go (inl i) = let r : x.priority < m.priority = f.lower_before x i t in omega arith
      go (inr i) = at_or_behind (Memᴰ.cases_cons i)
        where
          at_or_behind : (x ≡ m) ⊎ Memᴰ x f.behind → x.priority ≤ m.priority
          at_or_behind (inl e) = let same : x.priority ≡ m.priority = ap (λ (y : Message). y.priority) e in omega arith
          at_or_behind (inr k) = f.none_higher_behind x k t

  -- one message more behind a list
  module _ (ms : List Message) (b : Option Message) (m : Message) (c : Chosen w ms b) where
    -- a member of the longer list
    old_or_last : {xs : List Message} (x : Message) → Memᴰ x (xs ++ (m ∷ [])) → Memᴰ x xs ⊎ (x ≡ m)
    old_or_last {xs} x h = go (Memᴰ.append_cases xs h)
      where
        go : Memᴰ x xs ⊎ Memᴰ x (m ∷ []) → Memᴰ x xs ⊎ (x ≡ m)
        go (inl i) = inl i
        go (inr i) = inr (Memᴰ.eq_of_singleton i)

    -- the one found so far stays the first
    stays : (n : Message) → b ≡ Some n → (fits w m ≡ true → m.priority ≤ n.priority) → First w (ms ++ (m ∷ [])) n
    stays n e low =
        let f = c.first n e in
        record {
          before = f.before;
          behind = f.behind ++ (m ∷ []);
          stands = ap (λ (l : List Message). l ++ (m ∷ [])) f.stands ∙ append_assoc f.before (n ∷ f.behind) (m ∷ []);
          fitting = f.fitting;
          lower_before = f.lower_before;
          none_higher_behind = λ x h t. go x t f.none_higher_behind (old_or_last x h);
        }
      where
        go : {xs : List Message} (x : Message) → fits w x ≡ true
            → ((y : Message) → Memᴰ y xs → fits w y ≡ true → y.priority ≤ n.priority)
            → Memᴰ x xs ⊎ (x ≡ m) → x.priority ≤ n.priority
        go x t old (inl i) = old x i t
        go x t old (inr q) = rw q (low (ap (fits w) (sym q) ∙ t))

    -- the new one is the first
    comes : fits w m ≡ true → ((x : Message) → Memᴰ x ms → fits w x ≡ true → x.priority < m.priority) → Chosen w (ms ++ (m ∷ [])) (Some m)
    comes t lower =
        record {
          first = λ n e.
              subst (First w (ms ++ (m ∷ []))) (same_Some _ _ e)
              (record {
                before = ms;
                behind = [];
                stands = refl;
                fitting = t;
                lower_before = lower;
                none_higher_behind = λ x h. absurd (Memᴰ.not-nil h);
              });
          none_fits = λ e. absurd (none-some _ (sym e));
        }

    more : Chosen w (ms ++ (m ∷ [])) (better_of w b m)
    more = go (fits w m) refl b refl
      where
        over : (n : Message) → b ≡ Some n → fits w m ≡ true → (v : Bool) → ltb n.priority m.priority ≡ v → Chosen w (ms ++ (m ∷ [])) (better_of w b m)
        over n e t true d =
            let higher : n.priority < m.priority = ltb-true n.priority m.priority d in
            rw (better_higher w b m t n e higher)
            (comes t (λ x h q. let r : x.priority ≤ n.priority = none_higher ms n (c.first n e) x h q in omega arith))
        over n e t false d =
            let kept : m.priority ≤ n.priority = ltb-false n.priority m.priority d in
            rw (better_kept w b m t n e kept)
            (record { first = λ o i. stays o i (λ q. same_low o (same_Some _ _ (sym e ∙ i)) kept); none_fits = λ z. absurd (none-some _ (sym z ∙ e)) })
          where
            same_low : (o : Message) → n ≡ o → m.priority ≤ n.priority → m.priority ≤ o.priority
            same_low o i = subst (λ (y : Message). m.priority ≤ n.priority → m.priority ≤ y.priority) i (λ low. low)

        go : (t : Bool) → fits w m ≡ t → (o : Option Message) → b ≡ o → Chosen w (ms ++ (m ∷ [])) (better_of w b m)
        go false t o e =
            rw (better_unfit w b m t)
            (record {
              first = λ n i. stays n i (λ q. absurd (apart q t));
              none_fits = λ n x h. unfit n x (old_or_last x h);
            })
          where
            unfit : b ≡ None → (x : Message) → Memᴰ x ms ⊎ (x ≡ m) → fits w x ≡ false
            unfit n x (inl i) = c.none_fits n x i
            unfit n x (inr q) = ap (fits w) q ∙ t
        go true t None e = rw (better_first w b m t e) (comes t (λ x h q. absurd (apart q (c.none_fits e x h))))
        go true t (Some n) e = over n e t (ltb n.priority m.priority) refl

  -- and a list behind a list
  more_all : (ms ns : List Message) (b : Option Message) → Chosen w ms b → Chosen w (ms ++ ns) (best_of w ns b)
  more_all ms [] b c = rw (append-nil, best_none w b) c
  more_all ms (m ∷ ns) b c = rw (best_more w m ns b, ← append_snoc ms m ns) (more_all (ms ++ (m ∷ [])) ns (better_of w b m) (more ms b m c))

  none_yet : Chosen w [] None
  none_yet = record { first = λ m e. absurd (none-some _ e); none_fits = λ e x h. absurd (Memᴰ.not-nil h) }

  pub best_is_first : (l : Messages) → Chosen w (all l) (best w l)
  unfolding best
  best_is_first l = more_all [] (all l) None none_yet

-- of the messages that wait
pub head_is_first : (s : Station) → Chosen (AnyWaiting (flight (awaited_of s))) (all s.sends) (head s)
unfolding head
head_is_first s = best_is_first (AnyWaiting (flight (awaited_of s))) s.sends
