-- Laws of a quiet bench, as a day: a frame delivered is its step, and a queue its queue call. Assumes nothing.
use mathlib.Core.Path.{◌≡◌, refl, sym, ap, subst, ◌∙◌}
use mathlib.Core.Bool.{Bool, true, false}
use mathlib.Core.List.{List, [], ◌∷◌, ◌++◌, append-nil}
use Prim.Native.Nat.{ℕ, suc, ◌+◌, ◌<◌}
use native.Mathlib.Nat.{zero-add, add-zero}
use native.Mathlib.Omega.{arith}
use lib.Dec.{ltb}
use lib.ListN.{length, get_or, set}
use borrow.Author.Tests.{ltb-true, ltb-false, lt-leb}
use Rattle.parts.specs.Live.{seats}
use Rattle.station.specs.Heard.{frame_rule}
use Rattle.station.specs.Queue.{queue_rule}
use Rattle.std.specs.Prelude.{Option, None}
use Rattle.parts.specs.declared.frame.Frame.{Frame}
use Rattle.parts.specs.declared.request.Request.{Request}
use Rattle.station.specs.declared.station.Station.{Station}
use Rattle.station.specs.declared.station.Answer.{Answer}
use Rattle.parts.proofs.Laws.Choose.{pick_false}
use Rattle.bench.specs.Ring.{nobody, station_at}
use Rattle.bench.specs.Delivery.{handed, others, reply_of, deliver_to, deliver, step}
use Rattle.bench.specs.Rows.{rows_on}
use Rattle.bench.specs.Calls.{queue_at, queue}
use Rattle.bench.specs.Runs.{stepped, queued as queue_call, composed}
use Rattle.bench.specs.declared.ring.Bench.{Bench}
use Rattle.bench.specs.declared.calls.Queued.{Queued}
use Rattle.bench.proofs.Laws.Delivered.{handed_hears, handed_not, handed_outside, others_hear, sender_not}
use Rattle.bench_theorems.specs.Quiet.{Quiet}
use Rattle.bench_theorems.proofs.Laws.FullSet.{seats_most}
use Rattle.bench_theorems.proofs.Laws.Answers.{Role, sends, answers, overhears, role, silent_at, answer_at}
use Rattle.bench_theorems.proofs.Laws.Delivering.{step_delivers}
use Rattle.capture.specs.declared.record.Event.TheVariants.{Delivered, Queue}
use Rattle.day.specs.declared.wire.Flying.{Flying}
use Rattle.day.specs.Day.{Day, joining, begun_by}
use Rattle.day.specs.Records.{after_frame, take_frame, after_call, after_record}
use Rattle.replay_theorems.specs.Lines.{Line, queued, struck_line, sent_lines, struck_lines, taken_lines, record_lines}
use Rattle.replay_theorems.specs.FaultFree.{event_lines}
use Rattle.replay_theorems.proofs.Laws.Placed.{queue_silent}
use Rattle.replay_theorems.proofs.Laws.Handing.{none_joins}
use Rattle.replay_theorems.proofs.Laws.Beginning.{wire_begun}

-- ---- where nobody is struck there is no line of it

no_line : (w : Option ℕ) (q : ℕ) → w ≡ None → struck_line w q ≡ []
unfolding struck_line
no_line w q e = ap (λ (v : Option ℕ). struck_line v q) e

no_lines : (n : ℕ) (hears : ℕ → Bool) (f : Frame) (from to k : ℕ) (ss : List Station)
    → ((i : ℕ) → i < length ss → (handed n hears f from to (k + i) (get_or ss i nobody)).struck ≡ None) → struck_lines n hears f from to k ss ≡ []
unfolding struck_lines
no_lines n hears f from to k [] h = refl
no_lines n hears f from to k (s ∷ ss) h =
    let here : (handed n hears f from to k s).struck ≡ None =
    ap (λ (j : ℕ). (handed n hears f from to j s).struck) (sym (add-zero k)) ∙ h 0 (omega arith) in
    ap (λ (l : List Line). l ++ struck_lines n hears f from to (suc k) ss) (no_line _ k here)
    ∙ no_lines n hears f from to (suc k) ss
    (λ i o. ap (λ (j : ℕ). (handed n hears f from to j (get_or ss i nobody)).struck) (omega arith) ∙ h (suc i) (omega arith))

-- ---- a step

module _ {limit : ℕ} (b : Bench) (q : Quiet limit b) where
  -- whom the frame on the wire strikes
  unharmed : (p : ℕ) → (handed b.n (others b.wire.from) q.frame b.wire.from q.to p (station_at b p)).struck ≡ None
  unharmed p = go (ltb p b.n) refl (role b.wire.from q.to p)
    where
      hears : ℕ → Bool
      hears = others b.wire.from

      heard : p < b.n → (p ≡ b.wire.from → ⊥) → handed b.n hears q.frame b.wire.from q.to p (station_at b p) ≡ frame_rule (station_at b p) q.frame b.wire.from q.to
      heard h o = handed_hears b.n hears q.frame b.wire.from q.to p (station_at b p) h (others_hear b.wire.from p o)

      go : (t : Bool) → ltb p b.n ≡ t → Role b.wire.from q.to p
          → (handed b.n hears q.frame b.wire.from q.to p (station_at b p)).struck ≡ None
      go false x r =
          ap (λ (a : Answer). a.struck) (handed_outside b.n hears q.frame b.wire.from q.to p (station_at b p) (ltb-false p b.n x))
      go true x (sends e) =
          ap (λ (a : Answer). a.struck) (handed_not b.n hears q.frame b.wire.from q.to p (station_at b p) (sender_not b.wire.from p e))
      go true x (answers e o) =
          ap (λ (a : Answer). a.struck) (heard (ltb-true p b.n x) o)
          ∙ subst (λ (i : ℕ). (frame_rule (station_at b i) q.frame b.wire.from q.to).struck ≡ None) (sym e) (answer_at q.picture).nobody_struck
      go true x (overhears y o) =
          ap (λ (a : Answer). a.struck) (heard (ltb-true p b.n x) o) ∙ (silent_at q.picture p (ltb-true p b.n x) o y).nobody_struck

  -- the frame on the wire
  abbrev flying : Flying
  flying = record { from = b.wire.from; frame = q.frame; to = q.to }

  delivered_same : take_frame Delivered (begun_by b) (flying ∷ []) ≡ begun_by (deliver b q.frame q.to)
  unfolding take_frame after_frame deliver_to reply_of
  delivered_same = refl

  pub step_same : after_record (begun_by b) Delivered ≡ begun_by (step b)
  unfolding after_record
  step_same = ap (take_frame Delivered (begun_by b)) (wire_begun b q) ∙ delivered_same ∙ ap begun_by (sym (step_delivers b q))

  delivered_lines : taken_lines Delivered (begun_by b) (flying ∷ []) ≡ sent_lines (rows_on (deliver b q.frame q.to).wire)
  unfolding taken_lines deliver_to reply_of
  delivered_lines =
      ap (λ (l : List Line). l ++ sent_lines (rows_on (deliver b q.frame q.to).wire))
      (no_lines b.n (others b.wire.from) q.frame b.wire.from q.to 0 b.stations
      (λ i h. ap (λ (j : ℕ). (handed b.n (others b.wire.from) q.frame b.wire.from q.to j (station_at b i)).struck) (zero-add i) ∙ unharmed i))

  pub step_lines : record_lines (begun_by b) Delivered ≡ event_lines b stepped
  unfolding record_lines event_lines composed
  step_lines =
      ap (taken_lines Delivered (begun_by b)) (wire_begun b q) ∙ delivered_lines ∙ ap (λ (c : Bench). sent_lines (rows_on c.wire)) (sym (step_delivers b q))

  pub step_n : (step b).n ≡ b.n
  unfolding deliver_to
  step_n = ap (λ (c : Bench). c.n) (step_delivers b q)

  -- ---- a queue call of a member

  module _ (from : ℕ) (inside : from < b.n) (r : Request) where
    queue_is : queue b from r ≡ queue_at b from (queue_rule (station_at b from) r)
    unfolding queue
    queue_is = pick_false _ _ (lt-leb (seats b.n) from (omega (arith, seats_most b.n q.picture.most_members)))

    called_same : after_call (begun_by b) from (queue_rule (station_at b from) r) ≡ begun_by (queue_at b from (queue_rule (station_at b from) r)).bench
    unfolding after_call
    called_same =
        ap (λ (w : List Flying). let c : Day = record { n = b.n; stations = set b.stations from (queue_rule (station_at b from) r).station; wire = w } in c)
        (ap (λ (l : List Flying). (begun_by b).wire ++ l) (ap (joining from) (queue_silent (station_at b from) r) ∙ none_joins from) ∙ append-nil (begun_by b).wire)

    pub queue_same : after_record (begun_by b) (Queue from r) ≡ begun_by (queue b from r).bench
    unfolding after_record
    queue_same = called_same ∙ ap (λ (k : Queued). begun_by k.bench) (sym queue_is)

    pub queue_number_lem : (queue_rule (station_at b from) r).number ≡ (queue b from r).number
    queue_number_lem = ap (λ (k : Queued). k.number) (sym queue_is)

    pub queue_lines : record_lines (begun_by b) (Queue from r) ≡ event_lines b (queue_call from r)
    unfolding record_lines event_lines
    queue_lines = ap (λ (k : ℕ). queued k ∷ []) queue_number_lem

    pub queue_n : (queue b from r).bench.n ≡ b.n
    queue_n = ap (λ (k : Queued). k.bench.n) queue_is
