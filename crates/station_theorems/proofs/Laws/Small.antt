-- Numbers that stay within their types' ranges where wholeness says nothing of them: frame numbers, priorities, counts. Assumes nothing.
use mathlib.Core.Path.{◌≡◌, refl, subst}
use mathlib.Core.Bool.{Bool, true, false, not}
use mathlib.Core.List.{List, [], ◌∷◌}
use Prim.Native.Nat.{ℕ, ◌+◌, ◌-◌, ◌<◌, ◌≤◌}
use native.Mathlib.Omega.{arith}
use lib.Dec.{leb, ltb, eqb}
use lib.ListN.{length, length-take}
use borrow.Author.Tests.{leb-true, ltb-true, ltb-false, lt-ltb}
use Rattle.parts.proofs.Laws.Choose.{map_or_either}
use Rattle.codec.specs.Order.{first_of}
use Rattle.parts.specs.Choose.{pick, every}
use Rattle.parts.specs.Messages.{all, pushed, only, fits, split_by, better_of, best_of, best}
use Rattle.parts.specs.Live.{live_at}
use Rattle.parts.specs.Frames.{next}
use Rattle.station.specs.Stations.{add_up_to}
use Rattle.sent.specs.Round.{priority_of, start_round, send_head, grant, returned, bid_of, cleared, raised, pass_on, on_token, reply}
use Rattle.parts.specs.declared.list.Message.{Message}
use Rattle.parts.specs.declared.list.Messages.{Messages}
use Rattle.parts.specs.declared.list.Which.{Which}
use Rattle.std.specs.Prelude.{Option, None, Some}
use Rattle.parts.specs.declared.frame.TokenFrame.{TokenFrame}
use Rattle.parts.specs.declared.frame.Frame.{Frame}
use Rattle.parts.specs.declared.frame.Frame.TheVariants.{Token, Transmit, Information}
use Rattle.sent.specs.declared.round.Bid.{Bid}
use Rattle.sent.specs.declared.round.Sight.{Sight}
use Rattle.parts.proofs.Laws.Messages.{only_length, pushed_full}
use Rattle.parts.proofs.Laws.Tests.{each_first, each_rest, each_snoc}
use Rattle.station_theorems.specs.Small.{small_message, SmallFrame, SmallDispatch, SmallList}
use Rattle.station_theorems.proofs.Laws.Kept.{each_only, pack_all, pack_length, push_all, push_length}

-- ---- of two, either is small

pub pick_keeps : {A : Type 0} (P : A → Type 0) (b : Bool) (x y : A) → P x → P y → P (pick b x y)
unfolding pick
pick_keeps P true x y p q = p
pick_keeps P false x y p q = q

pub pick_keeps_if : {A : Type 0} (P : A → Type 0) (b : Bool) (x y : A) → (b ≡ true → P x) → P y → P (pick b x y)
unfolding pick
pick_keeps_if P true x y p q = p refl
pick_keeps_if P false x y p q = q

-- ---- lists

pub split_small : (w : Which) (l : Messages) → SmallList l → SmallList (split_by w l).kept
unfolding split_by
split_small w l h =
    let stay : Message → Bool = λ (m : Message). not (fits w m) in
    let few : length (all l) ≤ 16 = omega (arith, h.slots, length-take l.len l.items) in
    record {
      slots = pack_length (only stay (all l)) (omega (arith, few, only_length stay (all l)));
      messages = rw (pack_all (only stay (all l))) (each_only small_message stay (all l) h.messages);
    }

pub push_small : (l : Messages) (m : Message) → SmallList l → m.priority < 256 → SmallList (pushed l m)
push_small l m h p = go (ltb l.len 16) refl
  where
    go : (b : Bool) → ltb l.len 16 ≡ b → SmallList (pushed l m)
    go true e =
        let room : l.len < 16 = ltb-true _ _ e in
        record {
          slots = push_length l m h.slots room;
          messages = rw (push_all l m h.slots room) (each_snoc small_message (all l) m h.messages (lt-ltb _ _ p));
        }
    go false e = rw (pushed_full l m (ltb-false _ _ e)) h

-- ---- the best of a list

abbrev pub SmallBest : Option Message → Type 0
SmallBest b = priority_of b < 256

better_small : (w : Which) (b : Option Message) (m : Message) → SmallBest b → m.priority < 256 → SmallBest (better_of w b m)
unfolding better_of
better_small w b m p q =
    pick_keeps SmallBest (fits w m) _ _ (pick_keeps SmallBest _ (Some m) b q p) p

bests_small : (w : Which) (ms : List Message) (b : Option Message) → every small_message ms ≡ true → SmallBest b → SmallBest (best_of w ms b)
unfolding best_of
bests_small w [] b e p = p
bests_small w (m ∷ ms) b e p =
    bests_small w ms (better_of w b m) (each_rest small_message m ms e)
    (better_small w b m p (ltb-true _ _ (each_first small_message m ms e)))

pub best_small : (w : Which) (l : Messages) → SmallList l → SmallBest (best w l)
unfolding best
best_small w l h = bests_small w (all l) None h.messages (omega arith)

-- ---- counts and numbers

pub add_small : (c k : ℕ) → c < 4294967296 → add_up_to c k < 4294967296
unfolding add_up_to
add_small c k low = pick_keeps_if (λ (x : ℕ). x < 4294967296) (leb k (4294967295 - c)) (c + k) 4294967295 (λ e. omega (arith, low, leb-true k (4294967295 - c) e)) (omega arith)

pub next_small : (k : ℕ) → next k < 65536
next_small k = omega arith

-- ---- what is sent

module _ (v : Sight) (h : SmallBest v.head) (k : ℕ) (small : k < 65536) where
  pub own_small : priority_of v.head < 256
  own_small = h

  pub start_small : (w : Option ℕ) → SmallDispatch (start_round v k w)
  unfolding start_round
  start_small w = record { number = small; priority = own_small }

  pub send_small : SmallDispatch (send_head v k)
  unfolding send_head
  send_small = map_or_either SmallDispatch _ v.head _ (λ m e. record { number = small; priority = subst SmallBest e h }) (λ e. start_small _)

  grant_small : (priority named : ℕ) → priority < 256 → SmallDispatch (grant v k priority named)
  unfolding grant
  grant_small priority named p = pick_keeps SmallDispatch (live_at v.live named) _ _ (record { number = small; priority = p }) (start_small _)

  returned_small : (priority named : ℕ) → priority < 256 → SmallDispatch (returned v k priority named)
  unfolding returned
  returned_small priority named p =
      go (eqb priority 0) (eqb named v.own)
    where
      go : (a b : Bool) → SmallDispatch (first_of (grant v k priority named) ((a, start_round v k None) ∷ (b, send_head v k) ∷ []))
      go true b = start_small _
      go false true = send_small
      go false false = grant_small priority named p

  passed_small : (t : TokenFrame) → t.priority < 256 → SmallDispatch (pass_on v k t)
  unfolding pass_on raised cleared
  passed_small t p =
      let b : Bid = bid_of t in
      let own : ℕ = priority_of v.head in
      let clear : (cleared v b).priority < 256 = pick_keeps (λ (x : Bid). x.priority < 256) (live_at v.live b.named) b _ p own_small in
      let raise : (raised v (cleared v b)).priority < 256 = pick_keeps (λ (x : Bid). x.priority < 256) (ltb (cleared v b).priority own) _ (cleared v b) own_small clear in
      pick_keeps SmallDispatch (live_at v.live t.master) _ _ (record { number = small; priority = raise }) (start_small _)

  token_small : (t : TokenFrame) → t.priority < 256 → SmallDispatch (on_token v k t)
  unfolding on_token
  token_small t p =
      pick_keeps SmallDispatch (eqb t.master v.own) _ _ (returned_small t.priority t.named p) (passed_small t p)

pub reply_small : (v : Sight) → SmallBest v.head → (f : Frame) → SmallFrame f → SmallDispatch (reply v f)
unfolding reply
reply_small v h (Token t) s = token_small v h (next t.number) (next_small t.number) t s.priority
reply_small v h (Transmit t) s = send_small v h (next t.number) (next_small t.number)
reply_small v h (Information i) s = start_small v h (next i.number) (next_small i.number) _
