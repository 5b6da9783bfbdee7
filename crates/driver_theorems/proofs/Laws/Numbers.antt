-- What the numbers of a heard frame have in common: whatever holds of those that the rules and the reading give holds of the call's.
-- Assumes nothing.
use mathlib.Core.Bool.{Bool, true, false, not, cond}
use mathlib.Core.List.{List, [], ◌∷◌}
use Prim.Native.Nat.{ℕ}
use lib.Dec.{leb, eqb}
use Rattle.codec.specs.Order.{first_of}
use Rattle.packet_codec.specs.Packet.{read_packet, read_number}
use Rattle.packet_codec.specs.declared.reading.Read.{Read}
use Rattle.packet_codec.specs.declared.reading.Read.TheVariants.{Refused, Good}
use Rattle.parts.specs.Moves.{on, runs, move_of}
use Rattle.parts.specs.declared.moves.State.{State}
use Rattle.parts.specs.declared.moves.State.TheVariants.{Offline, Idle, Waiting, Alone, Excluded}
use Rattle.parts.specs.declared.moves.Event.{Event}
use Rattle.parts.specs.declared.moves.Event.TheVariants.{Start, Heard, Timer, Queue, Take}
use Rattle.parts.specs.declared.frame.Frame.{Frame}
use Rattle.station.specs.Stations.{state_of, moved, unless}
use Rattle.station.specs.Heard.{heard, respond, handle, frame_rule}
use Rattle.parts.specs.Refusals.{heard_refusal}
use Rattle.station.specs.declared.station.Station.{Station}
use Rattle.station.specs.declared.station.Answer.{Answer}
use Rattle.station_theorems.proofs.Laws.Small.{pick_keeps}
use Rattle.driver_calls.specs.Calls.{heard_then, packet_rule}

-- it holds of the numbers of the table of moves, of done, and of 13
pub record OfMoves (P : ℕ → Type 0) : Type 0 where
  pub done : P 0
  pub thirteen : P 13
  pub stopped : P 22
  pub started : P 23
  pub run : P runs

module _ (P : ℕ → Type 0) where
  abbrev pub Gives : Answer → Type 0
  Gives a = P a.number

  -- of each test's number
  abbrev pub Each : List (Bool × ℕ) → Type 0
  Each [] = Unit {0}
  Each (t ∷ ts) = P t.1 × Each ts

  -- an order of checks gives one of its numbers
  pub first_gives : (d : ℕ) (ts : List (Bool × ℕ)) → P d → Each ts → P (first_of d ts)
  first_gives d [] o a = o
  first_gives d (t ∷ ts) o a = go t.0 a.0 (first_gives d ts o a.1)
    where
      go : (b : Bool) → P t.1 → P (first_of d ts) → P (cond b t.1 (first_of d ts))
      go true p q = p
      go false p q = q

  -- a number of the page's table of moves
  on_gives : (e : Event) (a b c d f : ℕ) → P a → P b → P c → P d → P f → P (on e a b c d f)
  on_gives Start a b c d f p q r s t = p
  on_gives Heard a b c d f p q r s t = q
  on_gives Timer a b c d f p q r s t = r
  on_gives Queue a b c d f p q r s t = s
  on_gives Take a b c d f p q r s t = t

  pub unless_gives : (s : Station) (number : ℕ) (a : Answer) → P number → Gives a → Gives (unless s number a)
  unfolding unless
  unless_gives s number a o g = pick_keeps Gives _ a _ g o

  module _ (m : OfMoves P) where
    move_gives : (st : State) (e : Event) → P (move_of st e)
    move_gives Offline e = on_gives e runs 22 22 22 runs m.run m.stopped m.stopped m.stopped m.run
    move_gives Idle e = on_gives e 23 runs 0 runs runs m.started m.run m.done m.run m.run
    move_gives Waiting e = on_gives e 23 runs runs runs runs m.started m.run m.run m.run m.run
    move_gives Alone e = on_gives e 23 22 22 22 runs m.started m.stopped m.stopped m.stopped m.run
    move_gives Excluded e = on_gives e 23 22 22 22 runs m.started m.stopped m.stopped m.stopped m.run

    pub moved_gives : (s : Station) (e : Event) (a : Answer) → Gives a → Gives (moved s e a)
    unfolding moved
    moved_gives s e a g = pick_keeps Gives _ a _ g (move_gives (state_of s) e)

    -- 13
    checks_gives : (n own : ℕ) (alive : Bool) (from to : ℕ) → P (heard_refusal n own alive from to)
    unfolding heard_refusal
    checks_gives n own alive from to =
        let o : P 13 = m.thirteen in
        let ts : List (Bool × ℕ) = (leb n from, 13) ∷ (leb n to, 13) ∷ (eqb from to, 13) ∷ (not alive, 13) ∷ (eqb from own, 13) ∷ [] in
        first_gives 0 ts m.done (o, (o, (o, (o, (o, tt)))))

    heard_gives : (s : Station) (f : Frame) (from to : ℕ) → Gives (heard s f from to)
    unfolding heard respond handle
    heard_gives s f from to = pick_keeps Gives _ _ _ m.done m.done

    frame_gives : (s : Station) (f : Frame) (from to : ℕ) → Gives (frame_rule s f from to)
    unfolding frame_rule
    frame_gives s f from to = moved_gives s _ _ (unless_gives s _ _ (checks_gives _ _ _ from to) (heard_gives s f from to))

    -- 10 to 12
    then_gives : (s : Station) (ring : List ℕ) (from to : ℕ) (d : Read) → P (read_number d) → Gives (heard_then s ring from to d)
    then_gives s ring from to (Refused why) r = r
    then_gives s ring from to (Good p) r = frame_gives s _ from to

    pub packet_gives : (s : Station) (ring : List ℕ) (from to : ℕ) (packet : List ℕ) → P (read_number (read_packet ring packet)) → Gives (packet_rule s ring from to packet)
    unfolding packet_rule
    packet_gives s ring from to packet read =
        moved_gives s _ _ (unless_gives s _ _ (checks_gives _ _ _ _ _) (then_gives s ring _ _ (read_packet ring packet) read))
