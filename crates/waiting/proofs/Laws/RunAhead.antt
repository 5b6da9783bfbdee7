-- A run step by step, with the message on top: each short frame, each information frame and its own are counted. Assumes nothing.
use mathlib.Core.Path.{◌≡◌, refl, ap, subst, ◌∙◌}
use mathlib.Core.Bool.{Bool, true, false, ◌&&◌}
use mathlib.Core.List.{List, ◌∷◌, Memᴰ}
use Prim.Native.Nat.{ℕ, suc, ◌+◌, ◌<◌}
use native.Mathlib.Omega.{arith}
use lib.Dec.{eqb}
use borrow.Author.Tests.{eq-eqb, ne_eqb}
use Rattle.parts.specs.Messages.{all}
use Rattle.parts.specs.Frames.{flight, flight_in}
use Rattle.station.specs.Stations.{awaited_of}
use Rattle.sent.specs.Round.{reply}
use Rattle.parts.specs.declared.list.Message.{Message}
use Rattle.parts.specs.declared.frame.TokenFrame.{TokenFrame}
use Rattle.parts.specs.declared.frame.TransmitFrame.{TransmitFrame}
use Rattle.parts.specs.declared.frame.InformationFrame.{InformationFrame}
use Rattle.parts.specs.declared.frame.Frame.{Frame}
use Rattle.parts.specs.declared.frame.Frame.TheVariants.{Token, Transmit, Information}
use Rattle.std.specs.Prelude.{Some, Option, None}
use Rattle.bench.specs.Ring.{station_at}
use Rattle.bench.specs.Delivery.{step}
use Rattle.bench.specs.Runs.{Event, stepped, stepping}
use Rattle.bench.specs.declared.ring.Bench.{Bench}
use Rattle.bench_theorems.proofs.Laws.Answering.{view}
use Rattle.waiting.specs.Waiting.{Spot, own, OnTop, is_at}
use Rattle.waiting.proofs.Laws.RunWaiting.{resting, waiting, top, resting_listed}
use Rattle.waiting.proofs.Laws.RunState.{wire_of, Runs, wire_step, runs_step, runs_on}
use Rattle.waiting.proofs.Laws.RunCounts.{Weighs, Counts, counts_own, counts_more}

-- ---- kinds of frames

pub record Short (g : Frame) : Type 0 where
  pub weighs : Weighs g 1 0
  pub carries_none : flight_in g ≡ None

pub token_short : (t : TokenFrame) → Short (Token t)
token_short t = record { weighs = record { short = refl; information = refl; octets = refl; one = refl }; carries_none = refl }

pub transmit_short : (t : TransmitFrame) → Short (Transmit t)
transmit_short t = record { weighs = record { short = refl; information = refl; octets = refl; one = refl }; carries_none = refl }

pub longest_weighs : (i : InformationFrame) → i.length ≡ 1492 → Weighs (Information i) 0 1
longest_weighs i e = record { short = refl; information = refl; octets = omega (arith, e); one = refl }

-- ---- whose frame it is

module _ (x : Spot) (from : ℕ) (f : Frame) (to : ℕ) where
  own_short : flight_in f ≡ None → own x (wire_of from (Some (f, to))) ≡ false
  unfolding own
  own_short e = go (eqb from x.station)
    where
      go : (t : Bool) → t && is_at (flight_in f) x.place ≡ false
      go true = ap (λ (l : Option ℕ). is_at l x.place) e
      go false = refl

  own_other : (from ≡ x.station → ⊥) → own x (wire_of from (Some (f, to))) ≡ false
  unfolding own
  own_other o = ap (λ (u : Bool). u && is_at (flight_in f) x.place) (ne_eqb from x.station o)

  own_its : from ≡ x.station → flight_in f ≡ Some x.place → own x (wire_of from (Some (f, to))) ≡ true
  unfolding own
  own_its a b = rw (eq-eqb from x.station a, b) (eq-eqb x.place x.place refl)

-- ---- the run

module _ (x : Spot) (priority : ℕ) where
  -- it goes once s short frames and i information frames have been composed
  abbrev pub Ahead : Bench → ℕ → ℕ → Type 0
  Ahead b s i = Counts x priority b (stepping (s + i + 1)) s i

  -- every other message is lower
  abbrev pub Below : ℕ → (ℕ → List Message) → Type 0
  Below n load = (p : ℕ) → p < n → (m : Message) → Memᴰ m (load p) → ((p ≡ x.station) × (m.place ≡ x.place) → ⊥) → m.priority < priority

  module _ {n : ℕ} {load : ℕ → List Message} {from : ℕ} {f : Frame} {to : ℕ} {b : Bench} (r : Runs n load from f to b) (below : Below n load) where
    on_top : OnTop x priority b
    unfolding waiting
    on_top p h m w other =
        let inside : p < n = omega (arith, r.same_n) in
        below p inside m (subst (Memᴰ m) (r.loads p inside) (resting_listed (flight (awaited_of (station_at b p))) m (all (station_at b p).sends) w.rests w.listed)) other

    -- one frame that is not its own, and what follows
    one_more : {s i : ℕ} (g : Frame) (q u v s' i' : ℕ) → (step b).wire ≡ wire_of to (Some (g, q)) → own x (wire_of to (Some (g, q))) ≡ false → Weighs g u v
        → u + s ≡ s' → v + i ≡ i' → Ahead (step b) s i → Ahead b s' i'
    unfolding stepping
    one_more {s} {i} g q u v s' i' wire other w d e rest =
        let many : suc (s + i + 1) ≡ s' + i' + 1 = omega (arith, w.one) in
        let events : ◌≡◌ {A = List Event} (stepped ∷ stepping (s + i + 1)) (stepping (s' + i' + 1)) = ap stepping many in
        subst (λ (es : List Event). Counts x priority b es s' i') events
        (subst (λ (k : ℕ). Counts x priority b (stepped ∷ stepping (s + i + 1)) s' k) e
        (subst (λ (k : ℕ). Counts x priority b (stepped ∷ stepping (s + i + 1)) k (v + i)) d
        (counts_more x priority b on_top (stepping (s + i + 1)) to g q u v wire (ap (own x) wire ∙ other) w rest)))

    -- the reply is a short frame
    pub ahead_short : {s i : ℕ} (g : Frame) (q : ℕ) → reply (view n to (top (load to))) f ≡ Some (g, q) → Short g
        → (Runs n load to g q (step b) → Ahead (step b) s i) → Ahead b (s + 1) i
    ahead_short {s} {i} g q e t rest =
        one_more g q 1 0 (s + 1) i (wire_step r ∙ ap (wire_of to) e) (own_short x to g q t.carries_none) t.weighs (omega arith) (omega arith)
        (rest (runs_on r g q t.carries_none e))

    -- the reply is an information frame from elsewhere
    pub ahead_information : {s i : ℕ} (later : ℕ → List Message) (g : Frame) (q : ℕ) → reply (view n to (top (load to))) f ≡ Some (g, q) → Weighs g 0 1
        → (to ≡ x.station → ⊥) → later to ≡ resting (flight_in g) (load to) → ((p : ℕ) → p < n → (p ≡ to → ⊥) → later p ≡ load p)
        → (Runs n later to g q (step b) → Ahead (step b) s i) → Ahead b s (i + 1)
    ahead_information {s} {i} later g q e t other here there rest =
        one_more g q 0 1 s (i + 1) (wire_step r ∙ ap (wire_of to) e) (own_other x to g q other) t (omega arith) (omega arith)
        (rest (runs_step r later g q e here there))

    -- the reply is its own frame
    pub ahead_own : (g : Frame) (q : ℕ) → reply (view n to (top (load to))) f ≡ Some (g, q) → to ≡ x.station → flight_in g ≡ Some x.place
        → Ahead b 0 0
    unfolding stepping
    ahead_own g q e its on =
        counts_own x priority b on_top (stepping 0) (ap (own x) (wire_step r ∙ ap (wire_of to) e) ∙ own_its x to g q its on)
