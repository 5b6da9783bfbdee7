-- Laws of what follows a list's messages: only zeros, exactly where the messages that they would make are blank. Assumes nothing.
use mathlib.Core.Path.{◌≡◌, refl, sym, ap, ◌∙◌}
use mathlib.Core.Bool.{Bool, true, false, cond}
use mathlib.Core.List.{List, ◌∷◌}
use Prim.Native.Nat.{ℕ, zero, suc, ◌+◌, ◌-◌, ◌*◌, ◌<◌, ◌≤◌, min}
use native.Mathlib.Nat.{add-zero}
use native.Mathlib.Numerals.{add-one}
use native.Mathlib.Omega.{arith}
use borrow.Author.Tests.{eq-eqb, eqb-true, leb-true, leb-false}
use lib.Dec.{eqb, leb}
use lib.ListN.{length, drop, get_or, replicate, get_or-replicate, drop_of_length-le}
use lib.Seq.{drop-cons, drop_at}
use Rattle.codec.specs.Octets.{number_at, first_nonzero}
use Rattle.codec.proofs.Laws.Octets.{number_more}
use Rattle.codec.proofs.Laws.Zeros.{zeros_more}
use Rattle.parts.specs.Choose.{every}
use Rattle.parts.specs.Messages.{blank}
use Rattle.parts.specs.declared.list.Message.{Message}
use Rattle.parts.proofs.Laws.Tests.{held, hold, each_none, each_same, each_first, each_rest}
use Rattle.wholeness.specs.Whole.{is_blank, rest_blank, list_good, lists_good, whole}
use Rattle.records.specs.Layout.{items_in, items_length, list_length, message_priority_in, message_channel_in, message_place_in, message_length_in, message_length, sends_at, receives_at, record_length}
use Rattle.records.specs.Tables.{tab}
use Rattle.records.specs.Fields.{message_at, item_at, items_at, messages_at, count_at, first_items, rest_good}
use Rattle.records.specs.Record.{station_from, station_of, rests_good}
use Rattle.records.proofs.Laws.Tables.{length_tab, tab_get, tab_rest}

-- ---- zeros make blanks

each_zero : (s : List ℕ) (at k : ℕ) → first_nonzero s at k ≡ at + k → (i : ℕ) → i < k → get_or s (at + i) 0 ≡ 0
each_zero s at zero e i h = absurd (omega arith)
each_zero s at (suc k) e i h = go (eqb (get_or s at 0) 0) refl e (each_zero s (suc at) k) i h
  where
    go : (b : Bool) → eqb (get_or s at 0) 0 ≡ b → cond b (first_nonzero s (suc at) k) at ≡ at + suc k
        → (first_nonzero s (suc at) k ≡ suc at + k → (i : ℕ) → i < k → get_or s (suc at + i) 0 ≡ 0)
        → (i : ℕ) → i < suc k → get_or s (at + i) 0 ≡ 0
    go false b e' rest i h = absurd (omega arith)
    go true b e' rest zero h = ap (λ (n : ℕ). get_or s n 0) (add-zero at) ∙ eqb-true _ _ b
    go true b e' rest (suc i) h =
        let next : at + suc i ≡ suc at + i = omega arith in
        let end : at + suc k ≡ suc at + k = omega arith in
        ap (λ (n : ℕ). get_or s n 0) next ∙ rest (e' ∙ end) i (omega arith)

number_zero : (s : List ℕ) (at k : ℕ) → at + k ≤ length s → ((i : ℕ) → i < k → get_or s (at + i) 0 ≡ 0) → number_at s at k ≡ 0
number_zero s at zero h p = refl
number_zero s at (suc k) h p =
    let front : number_at s at k ≡ 0 = number_zero s at k (omega arith) (λ i less. p i (omega arith)) in
    let last : get_or s (at + k) 0 ≡ 0 = p k (omega arith) in
    let more : number_at s at (k + 1) ≡ number_at s at k * 256 + get_or s (at + k) 0 = number_more s at k (omega arith) in
    ap (number_at s at) (sym (add-one k)) ∙ more ∙ omega arith

no_message : (a b c d e : ℕ) → a ≡ 0 → b ≡ 0 → c ≡ 0 → d ≡ 0 → e ≡ 0
    → ◌≡◌ {A = Message} (record { other = a; priority = b; channel = c; length = d; place = e }) blank
no_message a b c d e ea eb ec ed ee = rw (ea, eb, ec, ed, ee)

message_blank : (s : List ℕ) (at : ℕ) → at + message_length ≤ length s → ((i : ℕ) → i < message_length → get_or s (at + i) 0 ≡ 0) → message_at s at ≡ blank
message_blank s at h p =
    let part : (j k : ℕ) → j + k ≤ message_length → number_at s (at + j) k ≡ 0 =
    λ j k w.
    number_zero s (at + j) k (omega arith)
    (λ i less. let there : at + j + i ≡ at + (j + i) = omega arith in ap (λ (n : ℕ). get_or s n 0) there ∙ p (j + i) (omega arith)) in
    no_message _ _ _ _ _ (number_zero s at 1 (omega arith) (λ i less. p i (omega arith))) (part message_priority_in 1 (omega arith)) (part message_channel_in 1 (omega arith)) (part message_length_in 2 (omega arith)) (part message_place_in 1 (omega arith))

items_rest : (s : List ℕ) (b c end : ℕ) → c ≤ 16 → b + items_length ≡ end → end ≤ length s
    → first_nonzero s (b + c * message_length) (end - (b + c * message_length)) ≡ end → first_items s b c ≡ items_at s b
items_rest s b c end few e room z =
    let from : ℕ = b + c * message_length in
    let all : end ≡ from + (end - from) = omega arith in
    let zero_at : (i : ℕ) → i < end - from → get_or s (from + i) 0 ≡ 0 = each_zero s from (end - from) (z ∙ all) in
    tab_rest (item_at s b) (replicate 16 blank) blank (16 - c) c (omega arith)
    (λ n lo hi.
    let below : n < 16 = hi in
    message_blank s (b + n * message_length) (omega arith)
    (λ i less.
    let there : b + n * message_length + i ≡ from + ((n - c) * message_length + i) = omega arith in
    ap (λ (k : ℕ). get_or s k 0) there ∙ zero_at ((n - c) * message_length + i) (omega arith))
    ∙ sym (get_or-replicate 16 n blank blank below))

pub rest_items : (s : List ℕ) (at : ℕ) → at + list_length ≤ length s → rest_good s at ≡ true → first_items s (at + items_in) (count_at s at) ≡ items_at s (at + items_in)
unfolding rest_good
rest_items s at h e =
    items_rest s (at + items_in) (count_at s at) (at + list_length) (omega arith) (omega arith) h (eqb-true _ _ e)

-- ---- blanks are made of zeros

passed : (s : List ℕ) (i k next end : ℕ) → i + k ≡ next → next ≤ end → end ≤ length s → number_at s i k ≡ 0
    → first_nonzero s i (end - i) ≡ first_nonzero s next (end - next)
passed s i k next end e more within z =
    zeros_more s i k end (omega arith) within z ∙ ap (λ (n : ℕ). first_nonzero s n (end - n)) e

blank_passed : (s : List ℕ) (at end : ℕ) → at + message_length ≤ end → end ≤ length s → is_blank (message_at s at) ≡ true
    → first_nonzero s at (end - at) ≡ first_nonzero s (at + message_length) (end - (at + message_length))
unfolding is_blank
blank_passed s at end more within e =
    let t = held _ e in
    passed s at 1 (at + message_priority_in) end refl (omega arith) within (eqb-true _ _ t.0)
    ∙ passed s (at + message_priority_in) 1 (at + message_channel_in) end (omega arith) (omega arith) within (eqb-true _ _ t.1.0)
    ∙ passed s (at + message_channel_in) 1 (at + message_place_in) end (omega arith) (omega arith) within (eqb-true _ _ t.1.1.0)
    ∙ passed s (at + message_place_in) 1 (at + message_length_in) end (omega arith) (omega arith) within (eqb-true _ _ t.1.1.1.1.0)
    ∙ passed s (at + message_length_in) 2 (at + message_length) end (omega arith) more within (eqb-true _ _ t.1.1.1.0)

module _ (s : List ℕ) (b n end : ℕ) (sized : b + n * message_length ≡ end) (within : end ≤ length s) where
  blanks_passed : (j i : ℕ) → i + j ≡ n → every is_blank (drop i (tab (item_at s b) n)) ≡ true → first_nonzero s (b + i * message_length) (end - (b + i * message_length)) ≡ end
  blanks_passed zero i e p =
      let here : b + i * message_length ≡ end = omega arith in
      let none : end - (b + i * message_length) ≡ 0 = omega arith in
      ap (first_nonzero s (b + i * message_length)) none ∙ here
  blanks_passed (suc j) i e p =
      let less : i < n = omega arith in
      let cons : drop i (tab (item_at s b) n) ≡ item_at s b i ∷ drop (suc i) (tab (item_at s b) n) =
      drop-cons (tab (item_at s b) n) i blank (rw (length_tab (item_at s b) n) less)
      ∙ ap (λ (m : Message). m ∷ drop (suc i) (tab (item_at s b) n)) (tab_get (item_at s b) n i blank less) in
      let q : every is_blank (item_at s b i ∷ drop (suc i) (tab (item_at s b) n)) ≡ true = ap (every is_blank) (sym cons) ∙ p in
      let next : b + i * message_length + message_length ≡ b + suc i * message_length = omega arith in
      blank_passed s (b + i * message_length) end (omega arith) within (each_first is_blank _ _ q)
      ∙ ap (λ (k : ℕ). first_nonzero s k (end - k)) next
      ∙ blanks_passed j (suc i) (omega arith) (each_rest is_blank _ _ q)

list_rest : (s : List ℕ) (at n own : ℕ) → at + list_length ≤ length s → list_good n own (messages_at s at) ≡ true → rest_good s at ≡ true
unfolding list_good rest_good
list_rest s at n own h e =
    let t = held _ e in
    let says : ℕ = number_at s at 1 in
    let few : says ≤ 16 = leb-true _ _ t.0 in
    let same : min 16 says ≡ says = omega arith in
    eq-eqb _ _
    (ap (λ (c : ℕ). first_nonzero s (at + items_in + c * message_length) (at + list_length - (at + items_in + c * message_length))) same
    ∙ blanks_passed s (at + items_in) 16 (at + list_length) (omega arith) h (16 - says) says (omega arith) t.1.1.1.0)

-- ---- what follows a list's messages, as it is read

pub blanks : (k n : ℕ) → every is_blank (drop k (replicate n blank)) ≡ true
unfolding is_blank
blanks zero n = each_same is_blank blank (hold _ (refl, (refl, (refl, (refl, (refl, tt)))))) n
blanks (suc k) zero = each_none is_blank
blanks (suc k) (suc n) = blanks k n

rest_blank_lem : (s : List ℕ) (at : ℕ) → at + list_length ≤ length s → rest_good s at ≡ true → rest_blank (messages_at s at) ≡ true
rest_blank_lem s at h e = go (leb says 16) refl
  where
    says : ℕ
    says = number_at s at 1

    go : (b : Bool) → leb says 16 ≡ b → every is_blank (drop says (items_at s (at + items_in))) ≡ true
    go true few =
        let within : says ≤ 16 = leb-true _ _ few in
        let same : min 16 says ≡ says = omega arith in
        ap (λ (l : List Message). every is_blank (drop says l))
        (sym (rest_items s at h e) ∙ ap (first_items s (at + items_in)) same)
        ∙ ap (every is_blank) (drop_at (tab (item_at s (at + items_in)) says) (drop says (replicate 16 blank)) says (length_tab (item_at s (at + items_in)) says))
        ∙ blanks says 16
    go false many =
        let past : 16 < says = leb-false says 16 many in
        let long : length (items_at s (at + items_in)) ≡ 16 = length_tab (item_at s (at + items_in)) 16 in
        ap (every is_blank) (drop_of_length-le (items_at s (at + items_in)) {i = says} (omega arith)) ∙ each_none is_blank

-- ---- a whole record

pub whole_rests : (s : List ℕ) → length s ≡ record_length → whole (station_of s) ≡ true → rests_good s ≡ true
unfolding whole lists_good rests_good
whole_rests s sized e =
    let lists = held _ (held _ e).1.1.1.0 in
    hold _ (list_rest s sends_at _ _ (omega arith) lists.0, (list_rest s receives_at _ _ (omega arith) lists.1.0, tt))

module _ (s : List ℕ) (e : rests_good s ≡ true) where
  pub sends_rest : rest_good s sends_at ≡ true
  unfolding rests_good
  sends_rest = (held _ e).0

  pub receives_rest : rest_good s receives_at ≡ true
  unfolding rests_good
  receives_rest = (held _ e).1.0

-- what a station read from it has
pub station_rests : (s : List ℕ) (n limit : ℕ) → record_length ≤ length s → rests_good s ≡ true
    → (rest_blank (station_from s n limit).sends ≡ true) × (rest_blank (station_from s n limit).receives ≡ true)
station_rests s n limit h e =
    (rest_blank_lem s sends_at (omega arith) (sends_rest s e), rest_blank_lem s receives_at (omega arith) (receives_rest s e))
