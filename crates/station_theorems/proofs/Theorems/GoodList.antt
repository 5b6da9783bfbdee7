-- "Each list has at most 16 messages, each with its own place, priority, channel and length in range, and another member as its other
-- end": what whole's test of a list says. Assumes nothing.
use mathlib.Core.Path.{◌≡◌, refl, sym, ap, ◌∙◌}
use mathlib.Core.Bool.{true, not}
use mathlib.Core.List.{List, [], ◌∷◌}
use Prim.Native.Nat.{ℕ, zero, suc, ◌+◌, ◌-◌, ◌<◌}
use native.Mathlib.Omega.{arith}
use lib.ListN.{length, get_or, drop, length-drop}
use lib.Seq.{get_or-drop}
use borrow.Author.Tests.{ltb-true, leb-true, eqb-true, eqb-false, not-true, lt-ltb, le-leb, ne_eqb}
use Rattle.parts.specs.Choose.{every}
use Rattle.parts.specs.Messages.{all, blank}
use Rattle.wholeness.specs.Whole.{message_good, is_blank, list_good}
use Rattle.parts.specs.declared.list.Message.{Message}
use Rattle.parts.specs.declared.list.Messages.{Messages}
use Rattle.parts.proofs.Laws.Messages.{place_none}
use Rattle.parts.proofs.Laws.Tests.{held, hold, each_none, each_first, each_rest, each}
use Rattle.station_theorems.specs.GoodList.{GoodMessage, GoodList}
use Rattle.station_theorems.proofs.Laws.Kept.{list_short, list_messages, list_apart, list_blank, list_made}
use Rattle.station_theorems.proofs.Laws.Members.{each_member, each_of, apart_at, apart_of}

-- ---- a message

pub good_message : (n own : ℕ) (m : Message) → message_good n own m ≡ true → GoodMessage n own m
unfolding message_good
good_message n own m e =
    let t = held _ e in
    record {
      place_fits = ltb-true _ _ t.0;
      some_priority = eqb-false _ _ (not-true _ t.1.0);
      channel_fits = leb-true _ _ t.1.1.0;
      length_fits = leb-true _ _ t.1.1.1.0;
      member = ltb-true _ _ t.1.1.1.1.0;
      another = eqb-false _ _ (not-true _ t.1.1.1.1.1.0);
    }

pub message_good_lem : (n own : ℕ) (m : Message) → GoodMessage n own m → message_good n own m ≡ true
unfolding message_good
message_good_lem n own m k =
    hold _ (
      lt-ltb _ _ k.place_fits,
      (
        ap not (ne_eqb _ _ k.some_priority),
        (
          le-leb _ _ k.channel_fits,
          (
            le-leb _ _ k.length_fits,
            (
              lt-ltb _ _ k.member,
              (ap not (ne_eqb _ _ k.another), tt),
            ),
          ),
        ),
      ),
    )

-- ---- a blank slot

blank_is : (m : Message) → is_blank m ≡ true → m ≡ blank
unfolding is_blank
blank_is m e =
    let t = held _ e in
    let a : m.other ≡ 0 = eqb-true _ _ t.0 in
    let b : m.priority ≡ 0 = eqb-true _ _ t.1.0 in
    let c : m.channel ≡ 0 = eqb-true _ _ t.1.1.0 in
    let d : m.length ≡ 0 = eqb-true _ _ t.1.1.1.0 in
    let f : m.place ≡ 0 = eqb-true _ _ t.1.1.1.1.0 in
    same m.other m.priority m.channel m.length m.place a b c d f
  where
    same : (o p c l q : ℕ) → o ≡ 0 → p ≡ 0 → c ≡ 0 → l ≡ 0 → q ≡ 0
        → ◌≡◌ {A = Message} (record { other = o; priority = p; channel = c; length = l; place = q }) blank
    same o p c l q a b d e f = rw (a, b, d, e, f)

is_blank_lem : (m : Message) → m ≡ blank → is_blank m ≡ true
unfolding is_blank
is_blank_lem m e = ap is_blank e ∙ hold _ (refl, (refl, (refl, (refl, (refl, tt)))))

blank_each : (l : List Message) → every is_blank l ≡ true → (i : ℕ) → i < length l → get_or l i blank ≡ blank
blank_each [] e i h = refl
blank_each (m ∷ l) e zero h = blank_is m (each_first is_blank m l e)
blank_each (m ∷ l) e (suc i) h = blank_each l (each_rest is_blank m l e) i (omega arith)

each_blank : (l : List Message) → ((i : ℕ) → i < length l → get_or l i blank ≡ blank) → every is_blank l ≡ true
each_blank [] w = each_none is_blank
each_blank (m ∷ l) w = each is_blank m l (is_blank_lem m (w 0 (omega arith))) (each_blank l (λ i h. w (suc i) (omega arith)))

-- ---- the list

module _ (n own : ℕ) (l : Messages) (full : length l.items ≡ 16) where
  pub good_list : list_good n own l ≡ true → GoodList n own l
  good_list e =
      record {
        at_most_sixteen = list_short n own l e;
        each_good = λ m h. good_message n own m (each_member (message_good n own) h (list_messages n own l e));
        own_places = (apart_at [] (all l) (list_apart n own l e)).1;
        blank_behind = λ i h k.
            let at : l.len + (i - l.len) ≡ i = omega arith in
            ap (λ (j : ℕ). get_or l.items j blank) (sym at)
            ∙ sym (get_or-drop l.len l.items (i - l.len) blank)
            ∙ blank_each (drop l.len l.items) (list_blank n own l e) (i - l.len) (omega (arith, length-drop l.len l.items));
      }

  pub list_good_lem : GoodList n own l → list_good n own l ≡ true
  list_good_lem k =
      list_made n own l k.at_most_sixteen
      (each_of (message_good n own) (all l) (λ m h. message_good_lem n own m (k.each_good m h)))
      (apart_of [] (all l) (λ i h. place_none _) k.own_places)
      (each_blank (drop l.len l.items)
      (λ i h. get_or-drop l.len l.items i blank ∙ k.blank_behind (l.len + i) (omega arith) (omega (arith, length-drop l.len l.items))))
