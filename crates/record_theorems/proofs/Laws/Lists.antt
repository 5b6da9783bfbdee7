-- A message and a list of 16 in a record. Assumes nothing.
use mathlib.Core.Path.{◌≡◌, refl, sym, ap, ◌∙◌}
use mathlib.Core.List.{List, [], ◌∷◌, ◌++◌}
use Prim.Native.Nat.{ℕ, suc, ◌+◌, ◌*◌, ◌<◌, ◌≤◌}
use native.Mathlib.Nat.{add-zero}
use native.Mathlib.Omega.{arith}
use lib.ListN.{length, get_or, drop}
use Rattle.codec.specs.Octets.{Octets, octets, number_at}
use Rattle.codec.proofs.Laws.Octets.{field_then}
use Rattle.parts.specs.Messages.{blank}
use Rattle.parts.specs.declared.list.Message.{Message}
use Rattle.parts.specs.declared.list.Messages.{Messages}
use Rattle.records.specs.Layout.{items_in, list_length, message_length}
use Rattle.records.specs.Fields.{message_at, message_octets, item_at, items_at, messages_at, items_octets, messages_octets}
use Rattle.record_theorems.specs.Typed.{TypedMessage, TypedList}
use Rattle.record_theorems.proofs.Laws.Goes.{Goes, goes_join, goes_first, goes_second, goes_number}
use Rattle.record_theorems.proofs.Laws.Numbers.{Field, numbers_read, numbers_written}
use Rattle.record_theorems.proofs.Laws.Rows.{row_written, row_item, tab_is}

abbrev message_fields : Message → List Field
message_fields m = (1, m.other) ∷ (1, m.priority) ∷ (1, m.channel) ∷ (1, m.place) ∷ (2, m.length) ∷ []

module _ (s : List ℕ) (at : ℕ) where
  here : (k : ℕ) → number_at s (at + 0) k ≡ number_at s at k
  here k = ap (λ (n : ℕ). number_at s n k) (add-zero at)

  -- ---- what reads is written

  pub message_written : (next : ℕ) → Octets s → at + message_length ≡ next → next ≤ length s → Goes s at (message_octets (message_at s at)) next
  message_written next o e h =
      numbers_written s at o (message_fields (message_at s at)) next e h (here 1, (refl, (refl, (refl, (refl, tt)))))

  -- ---- what is written reads

  pub message_reads : (m : Message) (next : ℕ) → TypedMessage m → Goes s at (message_octets m) next → message_at s at ≡ m
  message_reads m next t p =
      let r = numbers_read s at (message_fields m) next (t.other_u8, (t.priority_u8, (t.channel_u8, (t.place_u8, (t.length_u16, tt))))) p in
      let other : number_at s at 1 ≡ m.other = sym (here 1) ∙ r.0 in
      λ i. record { other = other i; priority = r.1.0 i; channel = r.1.1.0 i; length = r.1.1.1.1.0 i; place = r.1.1.1.0 i }

module _ (s : List ℕ) (at : ℕ) where
  abbrev first : ℕ
  first = at + items_in

  pub list_written : (next : ℕ) → Octets s → at + list_length ≡ next → next ≤ length s → Goes s at (messages_octets (messages_at s at)) next
  list_written next o e h =
      let end : first + 16 * message_length ≡ next = omega arith in
      let items : Goes s first (items_octets (items_at s first)) (first + 16 * message_length) =
      row_written message_octets s message_length first (item_at s first) 16
      (λ i less. message_written s (first + i * message_length) (first + suc i * message_length) o (omega arith) (omega arith)) in
      goes_join s (octets 1 (number_at s at 1)) (items_octets (items_at s first)) at first next
      (field_then s at 1 first o refl (omega arith))
      (items ∙ ap (λ (n : ℕ). items_octets (items_at s first) ++ drop n s) end)

  pub list_reads : (l : Messages) (next : ℕ) → TypedList l → l.len < 256 → Goes s at (messages_octets l) next → messages_at s at ≡ l
  list_reads l next t few p =
      let len : number_at s at 1 ≡ l.len = goes_number s 1 l.len at first few (goes_first s (octets 1 l.len) (items_octets l.items) at first next refl p) in
      let rest : Goes s first (items_octets l.items) next = goes_second s (octets 1 l.len) (items_octets l.items) at first next refl p in
      let items : items_at s first ≡ l.items =
      tab_is (item_at s first) l.items blank 16 t.slots
      (λ i less.
      message_reads s (first + i * message_length) (get_or l.items i blank) (first + suc i * message_length) (t.each i)
      (row_item message_octets s message_length (λ m. refl) l.items blank first next rest i (omega (arith, t.slots)))) in
      λ i. record { items = items i; len = len i }
