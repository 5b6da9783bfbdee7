-- Laws of messages and their lists. Assumes nothing.
use Rattle.std.proofs.Common.{◌≡◌, ℕ, suc, ◌+◌, ◌-◌, ◌<◌, ◌≤◌, Bool, true, false, ltb, List, [], ◌∷◌, ◌++◌, map, length, get_or, take, drop, set, replicate, Option, None, Some, sym, refl, ap, ◌∙◌, append-nil, add-one, arith, length-append, drop_of_length-le, length-take, take_all, drop-cons, get_or-take, take-suc, ltb-false, ltb-true, le-ltb, lt-ltb, eq-eqb, ne_eqb}
use lib.ListN.{length-map}
use lib.Seq.{set_at, append_snoc}
use Rattle.std.specs.Option.{option_map_or}
use Rattle.parts.specs.Choose.{pick}
use Rattle.parts.specs.declared.list.Message.{Message}
use Rattle.parts.specs.declared.list.Messages.{Messages}
use Rattle.parts.specs.declared.list.Top.{Top}
use Rattle.parts.specs.declared.list.Parts.{Parts}
use Rattle.parts.specs.declared.list.Which.{Which}
use Rattle.parts.specs.Messages.{all, used, blank, pack, pushed, fits, only, split_by, chosen_by, better_of, best_of, standing, top_at, higher_of, has_place, free_from}
use Rattle.parts.proofs.Laws.Choose.{pick_true, pick_false}

-- what owning an array of structs tells of its list
pub length_mapped : (X Y : Type 0) (f : X → Y) (l : List X) (n : ℕ) → length (map f l) ≡ n → length l ≡ n
length_mapped X Y f l n p = sym (length-map l f) ∙ p

-- ---- how many

pub used_inside : (l : Messages) → l.len < 16 → used l ≡ l.len
used_inside l h = pick_true l.len 16 (lt-ltb l.len 16 h)

pub used_full : (l : Messages) → 16 ≤ l.len → used l ≡ 16
used_full l h = pick_false l.len 16 (le-ltb l.len 16 h)

pub used_most : (l : Messages) → (used l ≤ 16) × (used l ≤ l.len)
used_most l = go (ltb l.len 16) refl
  where
    go : (b : Bool) → ltb l.len 16 ≡ b → (used l ≤ 16) × (used l ≤ l.len)
    go true e =
        let h : l.len < 16 = ltb-true l.len 16 e in
        let u : used l ≡ l.len = used_inside l h in
        omega arith
    go false e =
        let h : 16 ≤ l.len = ltb-false l.len 16 e in
        let u : used l ≡ 16 = used_full l h in
        omega arith

-- ---- one message after the other, of the array of a list

module _ (l : Messages) (full : length l.items ≡ 16) where
  pub length_all : length (all l) ≡ used l
  length_all = go (ltb l.len 16) refl
    where
      go : (b : Bool) → ltb l.len 16 ≡ b → length (all l) ≡ used l
      go true e =
          let h : l.len < 16 = ltb-true l.len 16 e in
          length-take l.len l.items ∙ rw full (omega (arith, used_inside l h))
      go false e =
          let h : 16 ≤ l.len = ltb-false l.len 16 e in
          length-take l.len l.items ∙ rw full (omega (arith, used_full l h))

  pub message_at : (i : ℕ) → i < used l → get_or (all l) i blank ≡ get_or l.items i blank
  message_at i h = get_or-take l.len l.items i blank (omega (arith, used_most l))

  pub all_from : (i : ℕ) → i < used l → drop i (all l) ≡ get_or l.items i blank ∷ drop (i + 1) (all l)
  all_from i h =
      drop-cons (all l) i blank (omega (arith, length_all))
      ∙ ap (λ (n : ℕ). get_or (all l) i blank ∷ drop n (all l)) (sym (add-one i))
      ∙ ap (λ (m : Message). m ∷ drop (i + 1) (all l)) (message_at i h)

  pub all_to : (i : ℕ) → i < used l → take (i + 1) (all l) ≡ take i (all l) ++ (get_or l.items i blank ∷ [])
  all_to i h =
      ap (λ (n : ℕ). take n (all l)) (add-one i)
      ∙ take-suc (all l) i blank (omega (arith, length_all))
      ∙ ap (λ (m : Message). take i (all l) ++ (m ∷ [])) (message_at i h)

  pub none_from : (i : ℕ) → used l ≤ i → drop i (all l) ≡ []
  none_from i h = drop_of_length-le (all l) {i = i} (omega (arith, length_all))

  pub whole_to : (i : ℕ) → used l ≤ i → take i (all l) ≡ all l
  whole_to i h = take_all i (all l) (omega (arith, length_all))

-- ---- places

pub place_none : (p : ℕ) → has_place [] p ≡ false
unfolding has_place
place_none p = refl

module _ (m : Message) (ms : List Message) (p : ℕ) where
  pub place_here : m.place ≡ p → has_place (m ∷ ms) p ≡ true
  unfolding has_place
  place_here e = pick_true true (has_place ms p) (eq-eqb m.place p e)

  pub place_later : (m.place ≡ p → ⊥) → has_place (m ∷ ms) p ≡ has_place ms p
  unfolding has_place
  place_later n = pick_false true (has_place ms p) (ne_eqb m.place p n)

module _ (k p : ℕ) (ms : List Message) where
  pub free_here : has_place ms p ≡ false → free_from (suc k) p ms ≡ p
  unfolding free_from
  free_here h = pick_false (free_from k (suc p) ms) p h

  pub free_later : has_place ms p ≡ true → free_from (suc k) p ms ≡ free_from k (suc p) ms
  unfolding free_from
  free_later h = pick_true (free_from k (suc p) ms) p h

pub free_none : (p : ℕ) (ms : List Message) → free_from 0 p ms ≡ p
unfolding free_from
free_none p ms = refl

-- ---- the best

module _ (w : Which) where
  pub best_none : (b : Option Message) → best_of w [] b ≡ b
  unfolding best_of
  best_none b = refl

  pub best_more : (m : Message) (ms : List Message) (b : Option Message) → best_of w (m ∷ ms) b ≡ best_of w ms (better_of w b m)
  unfolding best_of
  best_more m ms b = refl

-- ---- the messages that a test takes

module _ (f : Message → Bool) where
  pub only_none : only f [] ≡ []
  unfolding only
  only_none = refl

  pub only_one : (m : Message) (ms : List Message) → f m ≡ true → only f (m ∷ ms) ≡ m ∷ only f ms
  unfolding only
  only_one m ms e = pick_true (m ∷ only f ms) (only f ms) e

  pub only_not : (m : Message) (ms : List Message) → f m ≡ false → only f (m ∷ ms) ≡ only f ms
  unfolding only
  only_not m ms e = pick_false (m ∷ only f ms) (only f ms) e

  pub only_append : (ms ns : List Message) → only f (ms ++ ns) ≡ only f ms ++ only f ns
  unfolding only
  only_append [] ns = refl
  only_append (m ∷ ms) ns = go (f m) (only_append ms ns)
    where
      go : (b : Bool) → only f (ms ++ ns) ≡ only f ms ++ only f ns
          → pick b (m ∷ only f (ms ++ ns)) (only f (ms ++ ns)) ≡ pick b (m ∷ only f ms) (only f ms) ++ only f ns
      go true e = pick_true (m ∷ only f (ms ++ ns)) (only f (ms ++ ns)) refl ∙ ap (λ (l : List Message). m ∷ l) e ∙ ap (λ (l : List Message). l ++ only f ns) (sym (pick_true (m ∷ only f ms) (only f ms) refl))
      go false e = pick_false (m ∷ only f (ms ++ ns)) (only f (ms ++ ns)) refl ∙ e ∙ ap (λ (l : List Message). l ++ only f ns) (sym (pick_false (m ∷ only f ms) (only f ms) refl))

  pub only_length : (ms : List Message) → length (only f ms) ≤ length ms
  only_length [] = rw only_none (omega arith)
  only_length (m ∷ ms) = go (f m) refl (only_length ms)
    where
      go : (b : Bool) → f m ≡ b → length (only f ms) ≤ length ms → length (only f (m ∷ ms)) ≤ suc (length ms)
      go true e h = rw (only_one m ms e) (omega arith)
      go false e h = rw (only_not m ms e) (omega arith)

-- ---- a list's array

pub pushed_inside : (l : Messages) (m : Message) → l.len < 16 → pushed l m ≡ record { items = set l.items l.len m; len = l.len + 1 }
unfolding pushed
pushed_inside l m h = pick_true (record { items = set l.items l.len m; len = l.len + 1 }) l (lt-ltb l.len 16 h)

pub pushed_full : (l : Messages) (m : Message) → 16 ≤ l.len → pushed l m ≡ l
unfolding pushed
pushed_full l m h = pick_false (record { items = set l.items l.len m; len = l.len + 1 }) l (le-ltb l.len 16 h)

pub pack_more : (ms : List Message) (m : Message) → length ms < 16 → pushed (pack ms) m ≡ pack (ms ++ (m ∷ []))
unfolding pack
pack_more ms m h =
    let one : 16 - length ms ≡ suc (15 - length ms) = omega arith in
    let longer : length (ms ++ (m ∷ [])) ≡ length ms + 1 = length-append ms (m ∷ []) in
    let rest : 16 - (length ms + 1) ≡ 15 - length ms = omega arith in
    pushed_inside (pack ms) m h
    ∙ rw (longer, one, rest, set_at ms blank (replicate (15 - length ms) blank) m (length ms) refl, append_snoc)

-- ---- one message more for the best

module _ (w : Which) (b : Option Message) (m : Message) where
  abbrev lower : Option Message → Bool
  lower o = option_map_or (λ (c : Message). ltb c.priority m.priority) o true

  pub better_unfit : fits w m ≡ false → better_of w b m ≡ b
  unfolding better_of
  better_unfit e = pick_false _ b e

  module _ (e : fits w m ≡ true) where
    pub better_first : b ≡ None → better_of w b m ≡ Some m
    unfolding better_of
    better_first f = pick_true _ b e ∙ pick_true _ b (ap lower f)

    pub better_higher : (c : Message) → b ≡ Some c → c.priority < m.priority → better_of w b m ≡ Some m
    unfolding better_of
    better_higher c f h = pick_true _ b e ∙ pick_true _ b (ap lower f ∙ lt-ltb c.priority m.priority h)

    pub better_kept : (c : Message) → b ≡ Some c → m.priority ≤ c.priority → better_of w b m ≡ b
    unfolding better_of
    better_kept c f h = pick_true _ b e ∙ pick_false _ b (ap lower f ∙ le-ltb c.priority m.priority h)

-- ---- the same by position

module _ (w : Which) (t : Top) (m : Message) (i : ℕ) where
  pub higher_unfit : fits w m ≡ false → higher_of w t m i ≡ t
  unfolding higher_of
  higher_unfit e = pick_false _ t e

  module _ (e : fits w m ≡ true) where
    pub higher_first : 16 ≤ t.at → higher_of w t m i ≡ top_at m i
    unfolding higher_of
    higher_first f = pick_true _ t e ∙ pick_false _ (top_at m i) (le-ltb t.at 16 f)

    pub higher_above : t.at < 16 → t.priority < m.priority → higher_of w t m i ≡ top_at m i
    unfolding higher_of
    higher_above f h = pick_true _ t e ∙ pick_true _ (top_at m i) (lt-ltb t.at 16 f) ∙ pick_true (top_at m i) t (lt-ltb t.priority m.priority h)

    pub higher_kept : t.at < 16 → m.priority ≤ t.priority → higher_of w t m i ≡ t
    unfolding higher_of
    higher_kept f h = pick_true _ t e ∙ pick_true _ (top_at m i) (lt-ltb t.at 16 f) ∙ pick_false (top_at m i) t (le-ltb t.priority m.priority h)

pub standing_on : (l : Messages) (i : ℕ) → i < 16 → standing l i ≡ Some (get_or l.items i blank)
standing_on l i h = pick_true (Some (get_or l.items i blank)) None (lt-ltb i 16 h)

pub standing_off : (l : Messages) (i : ℕ) → 16 ≤ i → standing l i ≡ None
standing_off l i h = pick_false (Some (get_or l.items i blank)) None (le-ltb i 16 h)

-- the priority of a message, if there is one
abbrev pub height : Option Message → ℕ
height o = option_map_or (λ (m : Message). m.priority) o 0

-- a turn: the message at the position is the best so far, before and after
module _ (w : Which) (l : Messages) (t r : Top) (i : ℕ) (inside : i < 16) (p : t.priority ≡ height (standing l t.at)) where
  abbrev m : Message
  m = get_or l.items i blank

  abbrev b : Option Message
  b = standing l t.at

  abbrev Turned : Type 0
  Turned = (standing l r.at ≡ better_of w b m) × (r.priority ≡ height (standing l r.at))

  same_top : r ≡ t → better_of w b m ≡ b → Turned
  same_top e k = (
    ap (λ (x : Top). standing l x.at) e ∙ sym k,
    ap (λ (x : Top). x.priority) e ∙ p ∙ ap (λ (x : Top). height (standing l x.at)) (sym e),
  )

  new_top : r ≡ top_at m i → better_of w b m ≡ Some m → Turned
  new_top e k = (
    ap (λ (x : Top). standing l x.at) e ∙ standing_on l i inside ∙ sym k,
    ap (λ (x : Top). x.priority) e ∙ ap height (sym (standing_on l i inside)) ∙ ap (λ (x : Top). height (standing l x.at)) (sym e),
  )

  pub standing_turn : r ≡ higher_of w t m i → Turned
  standing_turn e = go (fits w m) refl (ltb t.at 16) refl (ltb t.priority m.priority) refl
    where
      go : (f : Bool) → fits w m ≡ f → (s : Bool) → ltb t.at 16 ≡ s → (h : Bool) → ltb t.priority m.priority ≡ h → Turned
      go false f s s_is h h_is = same_top (e ∙ higher_unfit w t m i f) (better_unfit w b m f)
      go true f false s_is h h_is =
          let off : 16 ≤ t.at = ltb-false t.at 16 s_is in
          new_top (e ∙ higher_first w t m i f off) (better_first w b m f (standing_off l t.at off))
      go true f true s_is true h_is =
          let on : t.at < 16 = ltb-true t.at 16 s_is in
          let above : t.priority < m.priority = ltb-true t.priority m.priority h_is in
          let above_best : (get_or l.items t.at blank).priority < m.priority = omega (arith, p ∙ ap height (standing_on l t.at on)) in
          new_top (e ∙ higher_above w t m i f on above) (better_higher w b m f _ (standing_on l t.at on) above_best)
      go true f true s_is false h_is =
          let on : t.at < 16 = ltb-true t.at 16 s_is in
          let below : m.priority ≤ t.priority = ltb-false t.priority m.priority h_is in
          let below_best : m.priority ≤ (get_or l.items t.at blank).priority = omega (arith, p ∙ ap height (standing_on l t.at on)) in
          same_top (e ∙ higher_kept w t m i f on below) (better_kept w b m f _ (standing_on l t.at on) below_best)

-- ---- one part of a list

pack_none : record { items = replicate 16 blank; len = 0 } ≡ pack []
unfolding pack
pack_none = refl

-- a blank stored behind the last changes nothing
pack_same : (ms : List Message) → length ms < 16 → set (pack ms).items (pack ms).len blank ≡ (pack ms).items
unfolding pack
pack_same ms h =
    let one : 16 - length ms ≡ suc (15 - length ms) = omega arith in
    rw (one, set_at ms blank (replicate (15 - length ms) blank) blank (length ms) refl)

pack_len : (ms : List Message) → (pack ms).len ≡ length ms
unfolding pack
pack_len ms = refl

-- what one turn makes of a list: the message or a blank in the next slot
abbrev turned : Bool → Messages → Message → Messages
turned b o m = record { items = set o.items o.len (pick b m blank); len = pick b (o.len + 1) o.len }

module _ (f : Message → Bool) (ms : List Message) (m : Message) (room : length ms < 16) where
  chosen_more : turned (f m) (pack (only f ms)) m ≡ pack (only f (ms ++ (m ∷ [])))
  chosen_more = go (f m) refl
    where
      short : length (only f ms) < 16
      short = omega (arith, only_length f ms)

      inside : (pack (only f ms)).len < 16
      inside = rw (pack_len (only f ms)) short

      go : (b : Bool) → f m ≡ b → turned b (pack (only f ms)) m ≡ pack (only f (ms ++ (m ∷ [])))
      go true e =
          rw (pick_true m blank refl, pick_true ((pack (only f ms)).len + 1) (pack (only f ms)).len refl)
          (sym (pushed_inside (pack (only f ms)) m inside)
          ∙ pack_more (only f ms) m short
          ∙ ap pack (sym (only_append f ms (m ∷ []) ∙ ap (λ (l : List Message). only f ms ++ l) (only_one f m [] e ∙ ap (λ (l : List Message). m ∷ l) (only_none f)))))
      go false e =
          rw (pick_false m blank refl, pick_false ((pack (only f ms)).len + 1) (pack (only f ms)).len refl)
          (ap (λ (x : List Message). let r : Messages = record { items = x; len = (pack (only f ms)).len } in r) (pack_same (only f ms) short)
          ∙ ap pack (sym (only_append f ms (m ∷ []) ∙ ap (λ (l : List Message). only f ms ++ l) (only_not f m [] e ∙ only_none f) ∙ append-nil (only f ms))))

abbrev pub stored : List Message → ℕ → Messages
stored items k = record { items = items; len = k }

pub grown_most : (b : Bool) (k : ℕ) → pick b (k + 1) k ≤ k + 1
grown_most true k = rw (pick_true (k + 1) k refl) (omega arith)
grown_most false k = rw (pick_false (k + 1) k refl) (omega arith)

-- a turn of the loop that chooses
pub chosen_turn : (f : Message → Bool) (ms ns : List Message) (m v : Message) (items : List Message) (k n : ℕ) (b : Bool)
    → length ms < 16 → ns ≡ ms ++ (m ∷ []) → stored items k ≡ pack (only f ms)
    → b ≡ f m → v ≡ pick b m blank → n ≡ pick b (k + 1) k → stored (set items k v) n ≡ pack (only f ns)
chosen_turn f ms ns m v items k n b room e o t p q =
    ap (λ (x : Message). stored (set items k x) n) p
    ∙ ap (stored (set items k (pick b m blank))) q
    ∙ ap (λ (c : Bool). turned c (stored items k) m) t
    ∙ ap (λ (x : Messages). turned (f m) x m) o
    ∙ chosen_more f ms m room
    ∙ ap (λ (l : List Message). pack (only f l)) (sym e)

pub chosen_none : (f : Message → Bool) → stored (replicate 16 blank) 0 ≡ pack (only f [])
chosen_none f = pack_none ∙ ap pack (sym (only_none f))

pub both_parts : (w : Which) (l k g : Messages) → k ≡ chosen_by w false l → g ≡ chosen_by w true l → record { kept = k; gone = g } ≡ split_by w l
unfolding split_by chosen_by pick
both_parts w l k g p q = ap (λ (x : Messages). let r : Parts = record { kept = x; gone = g } in r) p ∙ ap (λ (x : Messages). let r : Parts = record { kept = chosen_by w false l; gone = x } in r) q

-- ---- the loop over places

module _ (n p : ℕ) (ms : List Message) where
  pub turn_free : p < n → has_place ms p ≡ false → free_from (n - p) p ms ≡ p
  turn_free h e =
      let one_left : n - p ≡ suc (n - (p + 1)) = omega arith in
      ap (λ (k : ℕ). free_from k p ms) one_left ∙ free_here (n - (p + 1)) p ms e

  pub turn_taken : p < n → has_place ms p ≡ true → free_from (n - p) p ms ≡ free_from (n - (p + 1)) (p + 1) ms
  turn_taken h e =
      let one_left : n - p ≡ suc (n - (p + 1)) = omega arith in
      ap (λ (k : ℕ). free_from k p ms) one_left ∙ free_later (n - (p + 1)) p ms e ∙ ap (λ (q : ℕ). free_from (n - (p + 1)) q ms) (sym (add-one p))

  pub turn_all : n ≤ p → free_from (n - p) p ms ≡ p
  turn_all h =
      let none_left : n - p ≡ 0 = omega arith in
      ap (λ (k : ℕ). free_from k p ms) none_left ∙ free_none p ms
