-- The node at a position, made of the file and started: it holds what the bench's station there begins with. Assumes nothing.
use mathlib.Core.Path.{◌≡◌, refl, ap, subst, ◌∙◌}
use mathlib.Core.List.{List}
use Prim.Native.Nat.{ℕ, ◌<◌}
use lib.ListN.{get_or}
use Rattle.codec.specs.Ring.{read_ring}
use Rattle.parts.specs.declared.frame.Frame.{Frame}
use Rattle.std.specs.Prelude.{None, Some}
use Rattle.station.specs.Stations.{made}
use Rattle.station.specs.Start.{start_rule}
use Rattle.station.specs.declared.station.Answer.{Answer}
use Rattle.driver_buffers.specs.Packets.{sent_size}
use Rattle.driver_calls.specs.Calls.{ring_in, ring_of, station_in, start_answer, Making, Starting}
use Rattle.driver_theorems.specs.Held.{Held, by_make, by_start}
use Rattle.driver_theorems.proofs.Theorems.Held.{held_sure, made_reads, start_sure}
use Rattle.wire_theorems.specs.Wire.{Conveyed, on_start}
use Rattle.wire_theorems.proofs.Laws.Rings.{ring_is}
use Rattle.wire_theorems.proofs.Theorems.Conveyed.{sends_conveyed}
use Rattle.bench.specs.Ring.{first_answer}
use Rattle.bench_theorems.proofs.Theorems.NoneRefused.{no_start_refused}
use Rattle.cell_theorems.specs.Cell.{Node, members, retries, address_at, Begun as BegunNode}
use Rattle.cell_theorems.proofs.Laws.Calls.{own_number, out_good}
use Rattle.cell_theorems.proofs.Laws.Files.{two, most, low, high, position_is, makes}
use Rattle.cell_theorems.proofs.Laws.Nodes.{Kept, kept_new, done_station}

module _ (file : List ℕ) (good : (read_ring file).number ≡ 0) (p : ℕ) (h : p < members file) (node : Node) (b : BegunNode file p node) where
  abbrev first : Answer
  first = first_answer (members file) (retries file) p

  pub make_done : b.make_number ≡ 0
  make_done = b.makes.answer ∙ makes file good b.blank b.blank_long p h

  making : Making b.blank file (address_at file p) 0 b.made
  making = subst (λ (r : ℕ). Making b.blank file (address_at file p) r b.made) make_done b.makes

  held_made : Held b.made
  held_made = by_make b.blank file (address_at file p) b.made making

  made_is : station_in b.made ≡ made (members file) (retries file) p
  made_is =
      (made_reads b.blank file (address_at file p) b.made making).reads.station
      ∙ ap (made (members file) (retries file)) (position_is file good p h)

  answer_is : start_answer b.made ≡ first
  answer_is = ap start_rule made_is

  pub start_done : b.number ≡ 0
  start_done =
      b.starts.answer
      ∙ own_number _ b.made (start_answer b.made) (out_good _ b.lent.out_long) (held_sure held_made).ok
      ∙ ap (λ (a : Answer). a.number) answer_is
      ∙ no_start_refused (members file) (retries file) (two file good) (most file good) (low file good) (high file good) p h

  pub begun_station : station_in node.rec ≡ first.station
  begun_station =
      done_station b.made node.rec b.number (start_answer b.made) (held_sure held_made) (start_sure b.made (held_sure held_made))
      b.starts.record_is start_done
      ∙ ap (λ (a : Answer). a.station) answer_is

  pub begun_keeps : Kept file node
  unfolding held_made
  begun_keeps =
      record {
        held = by_start b.made b.lent.out b.lent.told b.number node.rec b.out b.told held_made b.starts;
        of_file = refl;
        store_long = b.store_long;
        store_octets = b.store_octets;
      }

  pub begun_silent : first.sent ≡ None → get_or b.told 0 0 ≡ 0
  unfolding sent_size
  begun_silent e =
      ap (λ (l : List ℕ). get_or l 0 0) (b.starts.told_is ∙ kept_new b.number b.lent.told _ start_done)
      ∙ ap (sent_size (ring_in b.made)) (ap (λ (a : Answer). a.sent) answer_is ∙ e)

  -- whatever the store
  pub begun_conveys : (f : Frame) (to : ℕ) → first.sent ≡ Some (f, to) → Conveyed (ring_of file) node.store f to b.out b.told
  unfolding held_made
  begun_conveys f to e =
      let s = subst (λ (r : ℕ). Starting b.made b.lent.out b.lent.told r node.rec b.out b.told) start_done b.starts in
      subst (λ (r : List ℕ). Conveyed r node.store f to b.out b.told) (ring_is held_made)
      (sends_conveyed held_made
      (on_start b.made node.store b.lent.out b.lent.told node.rec b.out b.told f to s (ap (λ (a : Answer). a.sent) answer_is ∙ e))
      held_made refl)
