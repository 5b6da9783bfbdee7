-- Laws of a good list under a push and a split: what it keeps. Assumes nothing.
use mathlib.Core.Path.{◌≡◌, refl, sym, ap, ◌∙◌}
use mathlib.Core.Bool.{Bool, true, false}
use mathlib.Core.List.{List, [], ◌∷◌, ◌++◌}
use Prim.Native.Nat.{ℕ, suc, ◌+◌, ◌-◌, ◌<◌, ◌≤◌}
use native.Mathlib.Numerals.{add-one}
use native.Mathlib.Omega.{arith}
use lib.Dec.{eqb}
use lib.ListN.{take, drop, set, length, length-append, length-take, length-set, replicate, length-replicate}
use lib.Seq.{take-suc-set, drop-set-lt, drop-cons, take-append_seam, drop-append_seam}
use borrow.Author.Tests.{leb-true, le-leb}
use Rattle.parts.specs.Choose.{pick, every}
use Rattle.parts.specs.Messages.{all, blank, pack, pushed, only, has_place}
use Rattle.wholeness.specs.Whole.{message_good, apart, is_blank, list_good}
use Rattle.parts.specs.declared.list.Message.{Message}
use Rattle.parts.specs.declared.list.Messages.{Messages}
use Rattle.parts.proofs.Laws.Messages.{place_none, only_none, only_one, only_not, only_length, pushed_inside}
use Rattle.parts.proofs.Laws.Tests.{held, hold, each_none, each_first, each_rest, each, each_snoc, each_same}

-- ---- what passes a test among those that another test takes

module _ (f g h : Message → Bool) (w : (m : Message) → f m ≡ true → g m ≡ true → h m ≡ true) where
  pub each_taken : (ms : List Message) → every f ms ≡ true → every h (only g ms) ≡ true
  each_taken [] e = rw (only_none g) (each_none h)
  each_taken (m ∷ ms) e = go (g m) refl (each_taken ms (each_rest f m ms e))
    where
      go : (b : Bool) → g m ≡ b → every h (only g ms) ≡ true → every h (only g (m ∷ ms)) ≡ true
      go true t r = rw (only_one g m ms t) (each h m (only g ms) (w m (each_first f m ms e) t) r)
      go false t r = rw (only_not g m ms t) r

pub each_only : (f g : Message → Bool) (ms : List Message) → every f ms ≡ true → every f (only g ms) ≡ true
each_only f g ms e = each_taken f g f (λ m p q. p) ms e

-- ---- places

pub place_append : (xs ys : List Message) (p : ℕ) → has_place xs p ≡ false → has_place ys p ≡ false → has_place (xs ++ ys) p ≡ false
unfolding has_place pick
place_append [] ys p a b = b
place_append (x ∷ xs) ys p a b = go (eqb x.place p) a (λ e. place_append xs ys p e b)
  where
    go : (t : Bool) → pick t true (has_place xs p) ≡ false → (has_place xs p ≡ false → has_place (xs ++ ys) p ≡ false) → pick t true (has_place (xs ++ ys) p) ≡ false
    go true e r = e
    go false e r = r e

pub place_left : (xs ys : List Message) (p : ℕ) → has_place (xs ++ ys) p ≡ false → has_place xs p ≡ false
unfolding has_place pick
place_left [] ys p a = refl
place_left (x ∷ xs) ys p a = go (eqb x.place p) a (place_left xs ys p)
  where
    go : (t : Bool) → pick t true (has_place (xs ++ ys) p) ≡ false → (has_place (xs ++ ys) p ≡ false → has_place xs p ≡ false) → pick t true (has_place xs p) ≡ false
    go true e r = e
    go false e r = r e

pub place_right : (xs ys : List Message) (p : ℕ) → has_place (xs ++ ys) p ≡ false → has_place ys p ≡ false
unfolding has_place pick
place_right [] ys p a = a
place_right (x ∷ xs) ys p a = go (eqb x.place p) a (place_right xs ys p)
  where
    go : (t : Bool) → pick t true (has_place (xs ++ ys) p) ≡ false → (has_place (xs ++ ys) p ≡ false → has_place ys p ≡ false) → has_place ys p ≡ false
    go true e r = absurd (mathlib.Core.Bool.false≢true (sym e))
    go false e r = r e

-- ---- places apart

module _ (b : List Message) (m : Message) (ms : List Message) where
  pub apart_first : apart b (m ∷ ms) ≡ true → has_place b m.place ≡ false
  unfolding apart pick
  apart_first e = go (has_place b m.place) e
    where
      go : (t : Bool) → pick t false (apart (b ++ m ∷ []) ms) ≡ true → t ≡ false
      go true e' = absurd (mathlib.Core.Bool.false≢true e')
      go false e' = refl

  pub apart_rest : apart b (m ∷ ms) ≡ true → apart (b ++ m ∷ []) ms ≡ true
  unfolding apart pick
  apart_rest e = go (has_place b m.place) e
    where
      go : (t : Bool) → pick t false (apart (b ++ m ∷ []) ms) ≡ true → apart (b ++ m ∷ []) ms ≡ true
      go true e' = absurd (mathlib.Core.Bool.false≢true e')
      go false e' = e'

  pub apart_both : has_place b m.place ≡ false → apart (b ++ m ∷ []) ms ≡ true → apart b (m ∷ ms) ≡ true
  unfolding apart pick
  apart_both p q = rw p q

pub apart_end : (b : List Message) → apart b [] ≡ true
unfolding apart
apart_end b = refl

-- one more at the end, with a place of its own
pub apart_snoc : (b ms : List Message) (m : Message) → apart b ms ≡ true → has_place b m.place ≡ false → has_place ms m.place ≡ false → apart b (ms ++ m ∷ []) ≡ true
apart_snoc b [] m a p q = apart_both b m [] p (apart_end (b ++ m ∷ []))
apart_snoc b (x ∷ xs) m a p q =
    let here : has_place (x ∷ []) m.place ≡ false = place_left (x ∷ []) xs m.place q in
    let there : has_place xs m.place ≡ false = place_right (x ∷ []) xs m.place q in
    apart_both b x (xs ++ m ∷ []) (apart_first b x xs a) (apart_snoc (b ++ x ∷ []) xs m (apart_rest b x xs a) (place_append b (x ∷ []) m.place p here) there)

-- what a part of the places leaves apart
module _ (g : Message → Bool) where
  pub apart_only : (b c ms : List Message) → ((p : ℕ) → has_place b p ≡ false → has_place c p ≡ false) → apart b ms ≡ true → apart c (only g ms) ≡ true
  apart_only b c [] w a = rw (only_none g) (apart_end c)
  apart_only b c (m ∷ ms) w a =
      go (g m) refl
      (apart_only (b ++ m ∷ []) (c ++ m ∷ []) ms
      (λ p e. place_append c (m ∷ []) p (w p (place_left b (m ∷ []) p e)) (place_right b (m ∷ []) p e)) (apart_rest b m ms a))
      (apart_only (b ++ m ∷ []) c ms (λ p e. w p (place_left b (m ∷ []) p e)) (apart_rest b m ms a))
    where
      go : (t : Bool) → g m ≡ t → apart (c ++ m ∷ []) (only g ms) ≡ true → apart c (only g ms) ≡ true → apart c (only g (m ∷ ms)) ≡ true
      go true e r s = rw (only_one g m ms e) (apart_both c m (only g ms) (w m.place (apart_first b m ms a)) r)
      go false e r s = rw (only_not g m ms e) s

-- ---- a packed list

pub pack_all : (ms : List Message) → all (pack ms) ≡ ms
unfolding pack
pack_all ms = take-append_seam ms (replicate (16 - length ms) blank)

pub pack_rest : (ms : List Message) → every is_blank (drop (pack ms).len (pack ms).items) ≡ true
unfolding pack is_blank
pack_rest ms = rw (drop-append_seam ms (replicate (16 - length ms) blank)) (each_same is_blank blank blank_blank (16 - length ms))
  where
    blank_blank : is_blank blank ≡ true
    blank_blank = hold _ (refl, (refl, (refl, (refl, (refl, tt)))))

pub pack_len : (ms : List Message) → (pack ms).len ≡ length ms
unfolding pack
pack_len ms = refl

pub pack_length : (ms : List Message) → length ms ≤ 16 → length (pack ms).items ≡ 16
unfolding pack
pack_length ms h = length-append ms (replicate (16 - length ms) blank) ∙ rw (length-replicate (16 - length ms) blank) (omega arith)

-- ---- a good list

module _ (n own : ℕ) (l : Messages) (good : list_good n own l ≡ true) where
  pub list_short : l.len ≤ 16
  unfolding list_good
  list_short = leb-true l.len 16 (held _ good).0

  pub list_messages : every (message_good n own) (all l) ≡ true
  unfolding list_good
  list_messages = (held _ good).1.0

  pub list_apart : apart [] (all l) ≡ true
  unfolding list_good
  list_apart = (held _ good).1.1.0

  pub list_blank : every is_blank (drop l.len l.items) ≡ true
  unfolding list_good
  list_blank = (held _ good).1.1.1.0

  pub list_length : length (all l) ≤ 16
  list_length = omega (arith, length-take l.len l.items, list_short)

pub list_made : (n own : ℕ) (l : Messages) → l.len ≤ 16 → every (message_good n own) (all l) ≡ true → apart [] (all l) ≡ true
    → every is_blank (drop l.len l.items) ≡ true → list_good n own l ≡ true
unfolding list_good
list_made n own l a b c d = hold _ (le-leb l.len 16 a, (b, (c, (d, tt))))

pub list_packed : (n own : ℕ) (ms : List Message) → length ms ≤ 16 → every (message_good n own) ms ≡ true → apart [] ms ≡ true → list_good n own (pack ms) ≡ true
list_packed n own ms h a b =
    list_made n own (pack ms) (rw (pack_len ms) h) (rw (pack_all ms) a) (rw (pack_all ms) b) (pack_rest ms)

-- those that a test takes
pub list_only : (n own : ℕ) (g : Message → Bool) (l : Messages) → list_good n own l ≡ true → list_good n own (pack (only g (all l))) ≡ true
list_only n own g l good =
    list_packed n own (only g (all l)) (omega (arith, only_length g (all l), list_length n own l good))
    (each_only (message_good n own) g (all l) (list_messages n own l good))
    (apart_only g [] [] (all l) (λ p e. e) (list_apart n own l good))

-- one more at the end
module _ (l : Messages) (m : Message) (full : length l.items ≡ 16) (room : l.len < 16) where
  pub push_all : all (pushed l m) ≡ all l ++ m ∷ []
  push_all = rw (pushed_inside l m room) (ap (λ (k : ℕ). take k (set l.items l.len m)) (add-one l.len) ∙ take-suc-set l.items l.len m (omega arith))

  pub push_rest : drop (pushed l m).len (pushed l m).items ≡ drop (suc l.len) l.items
  push_rest = rw (pushed_inside l m room) (ap (λ (k : ℕ). drop k (set l.items l.len m)) (add-one l.len) ∙ drop-set-lt (suc l.len) l.items l.len m (omega arith))

  pub push_len : (pushed l m).len ≡ l.len + 1
  push_len = ap (λ (x : Messages). x.len) (pushed_inside l m room)

  pub push_length : length (pushed l m).items ≡ 16
  push_length = ap (λ (x : Messages). length x.items) (pushed_inside l m room) ∙ length-set l.items l.len m ∙ full

  pub list_pushed : (n own : ℕ) → list_good n own l ≡ true → message_good n own m ≡ true → has_place (all l) m.place ≡ false → list_good n own (pushed l m) ≡ true
  list_pushed n own good g free =
      list_made n own (pushed l m) (rw push_len (omega arith))
      (rw push_all (each_snoc (message_good n own) (all l) m (list_messages n own l good) g))
      (rw push_all (apart_snoc [] (all l) m (list_apart n own l good) (place_none m.place) free))
      (rw push_rest (each_rest is_blank _ _ (rw (drop-cons l.items l.len blank (omega arith)) at (list_blank n own l good))))
