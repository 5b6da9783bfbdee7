-- Laws of a session's calls: each answer of the code is the one that the definitions give. Assumes nothing.
use Rattle.std.proofs.Common.{◌≡◌, ℕ, ◌+◌, ◌-◌, ◌<◌, ◌≤◌, Bool, true, false, List, [], ◌++◌, length, ltb, eqb, length-append, ◌/◌, Some, None, refl, sym, ap, ◌∙◌, arith}
use Rattle.std.specs.Prelude.{Option, IfSome}
use Rattle.std.proofs.lemmas.Bool.{le-leb, lt-leb, ltb-true}
use Rattle.std.proofs.lemmas.Bool.Decides.{nat_tests}
use Rattle.codec.specs.Octets.{laid}
use Rattle.codec.proofs.Laws.Octets.{laid_none}
use Rattle.parts.specs.Choose.{pick}
use Rattle.parts.proofs.Laws.Choose.{pick_true, pick_false}
use Rattle.parts.specs.declared.request.Request.{Request}
use Rattle.bench.specs.Ring.{ring_of}
use Rattle.bench.specs.Delivery.{steps}
use Rattle.bench.specs.Calls.{queue}
use Rattle.bench.specs.Rows.{rows_on}
use Rattle.bench.specs.Text.{line_feed, cell, rows_text, refused, heading, bad_line, answer_text}
use Rattle.bench.specs.Running.{fitting, steps_text}
use Rattle.bench.specs.declared.ring.Bench.{Bench}
use Rattle.bench.proofs.Laws.Laying.{laid_both, cell_short}
use Rattle.bench.proofs.Laws.Running.{wire_short, steps_short, fitting_room}
use Rattle.script.specs.Script.{Session, on_bench, opens, ring_text, does, prints}
use Rattle.script.specs.Session.{roomy, cut, left_of, acted_by, obeyed, session_after, obeyed_text}
use Rattle.script.specs.declared.lines.Line.{Line}
use Rattle.script.specs.declared.lines.Line.TheVariants.{Ring, Queue, Step}
use Rattle.script.specs.declared.session.Acted.{Acted}

-- ---- what a line does where there is room

-- what a call with so much room does of a line: the session after it, what is printed, and the steps that are left
pub record Outcome (s : Session) (l : Option Line) (room : ℕ) (t : Session) (text : List ℕ) (left : ℕ) : Type 0 where
  pub after : t ≡ does s (cut l room)
  pub printed : text ≡ prints s (cut l room)
  pub rest : left ≡ left_of s l room
  pub short : length text ≤ room

pub fitting_most : (count room : ℕ) → fitting count room ≤ count
unfolding fitting
fitting_most count room = go (ltb (room / 32) count) refl
  where
    go : (b : Bool) → ltb (room / 32) count ≡ b → pick (ltb (room / 32) count) (room / 32) count ≤ count
    go true e = rw (pick_true {b = ltb (room / 32) count} (room / 32) count e) (omega (arith, ltb-true (room / 32) count e))
    go false e = rw (pick_false {b = ltb (room / 32) count} (room / 32) count e) (omega arith)

answer_short : (number : ℕ) → length (answer_text number) ≤ 14
unfolding answer_text pick
answer_short number = go (eqb number 0)
  where
    go : (b : Bool) → length (pick b [] (refused ++ cell number line_feed)) ≤ 14
    go true = omega arith
    go false = omega (arith, length-append refused (cell number line_feed), cell_short number line_feed)

ring_short : (n : ℕ) → length (ring_text n) ≤ 60
ring_short n = omega (arith, length-append heading (rows_text (rows_on (ring_of n).wire)), wire_short (ring_of n).wire)

module _ (room : ℕ) (h : 64 ≤ room) where
  -- a line of no good shape
  pub bad_shape : (s : Session) → Outcome s None room s bad_line 0
  unfolding does prints cut left_of
  bad_shape None = record { after = refl; printed = refl; rest = refl; short = omega arith }
  bad_shape (Some b) = record { after = refl; printed = refl; rest = refl; short = omega arith }

  -- before any ring
  pub no_ring : (n : ℕ) → opens n ≡ false → Outcome None (Some (Ring n)) room None bad_line 0
  unfolding does prints cut left_of
  no_ring n o = record { after = sym (pick_false _ _ o); printed = sym (pick_false _ _ o); rest = refl; short = omega arith }

  pub too_early : (l : Line) → ((n : ℕ) → l ≡ Ring n → ⊥) → Outcome None (Some l) room None bad_line 0
  unfolding does prints cut left_of
  too_early (Ring n) o = absurd (o n refl)
  too_early (Queue from q) o = record { after = refl; printed = refl; rest = refl; short = omega arith }
  too_early (Step count) o = record { after = refl; printed = refl; rest = refl; short = omega arith }

  pub begins : (n : ℕ) → opens n ≡ true → Outcome None (Some (Ring n)) room (on_bench (ring_of n)) (ring_text n) 0
  unfolding does prints cut left_of
  begins n o = record { after = sym (pick_true _ _ o); printed = sym (pick_true _ _ o); rest = refl; short = omega (arith, ring_short n) }

  -- on a ring
  module _ (b : Bench) where
    pub second_ring : (n : ℕ) → Outcome (Some b) (Some (Ring n)) room (on_bench b) bad_line 0
    unfolding does prints cut left_of
    second_ring n = record { after = refl; printed = refl; rest = refl; short = omega arith }

    pub queues : (from : ℕ) (q : Request) → Outcome (Some b) (Some (Queue from q)) room (on_bench (queue b from q).bench) (answer_text (queue b from q).number) 0
    unfolding does prints cut left_of
    queues from q = record { after = refl; printed = refl; rest = refl; short = omega (arith, answer_short (queue b from q).number) }

    pub steps_on : (count : ℕ)
        → Outcome (Some b) (Some (Step count)) room (on_bench (steps (fitting count room) b)) (steps_text (fitting count room) b) (count - fitting count room)
    unfolding does prints cut left_of steps_text
    steps_on count =
        record { after = refl; printed = refl; rest = refl; short = omega (arith, steps_short (fitting count room) b, fitting_room count room) }

-- ---- a call

-- what a call hands back, and what it leaves
abbrev pub Obeyed : Session → Option Line → List ℕ → ℕ → Option Acted → Session → List ℕ → Type 0
Obeyed s l out at r t out₁ =
    record {
      acted : r ≡ obeyed s l (length out - at) at;
      session : t ≡ session_after s l (length out - at);
      within : IfSome r (λ acted. acted.used ≤ length out);
      text : out₁ ≡ laid out at (obeyed_text s l (length out - at));
    }

module _ (s : Session) (l : Option Line) (out : List ℕ) (at : ℕ) where
  pub obey_short : length out - at < 64 → Obeyed s l out at None s out
  unfolding obeyed session_after obeyed_text
  obey_short h =
      let f : roomy (length out - at) ≡ false = lt-leb 64 (length out - at) h in
      record {
        acted = sym (pick_false _ _ f);
        session = sym (pick_false _ _ f);
        within = tt;
        text = sym (ap (laid out at) (pick_false _ _ f) ∙ laid_none out at);
      }

  -- with the session and the line as the code has found them to be
  pub obey_by : {s₁ t₁ : Session} {l₁ : Option Line} {text : List ℕ} {left : ℕ} → Outcome s₁ l₁ (length out - at) t₁ text left
      → (r : Acted) (t : Session) (out₁ : List ℕ) → s ≡ s₁ → l ≡ l₁ → 64 ≤ length out - at
      → r ≡ acted_by text at left → t ≡ t₁ → out₁ ≡ laid out at text → Obeyed s l out at (Some r) t out₁
  unfolding obeyed session_after obeyed_text
  obey_by {text = text} {left} o r t out₁ es el h er et p =
      let room : ℕ = length out - at in
      let f : roomy room ≡ true = le-leb 64 room h in
      let after : t ≡ does s (cut l room) = et ∙ o.after ∙ sym (rw (es, el) refl) in
      let printed : text ≡ prints s (cut l room) = o.printed ∙ sym (rw (es, el) refl) in
      let rest : left ≡ left_of s l room = o.rest ∙ sym (rw (es, el) refl) in
      record {
        acted =
            ap Some (er ∙ ap (λ x. acted_by x at left) printed ∙ ap (acted_by (prints s (cut l room)) at) rest) ∙ sym (pick_true _ _ f);
        session = after ∙ sym (pick_true _ _ f);
        within = omega (arith, o.short, ap (λ (a : Acted). a.used) er);
        text = p ∙ ap (laid out at) (printed ∙ sym (pick_true _ _ f));
      }

-- the heading and frame 0, one behind the other
pub ring_laid : (l l₁ l₂ : List ℕ) (at a used n : ℕ) (b : Bench) → at + 64 ≤ length l → b ≡ ring_of n
    → (l₁ ≡ laid l at heading) × (a ≡ at + length heading) → (l₂ ≡ laid l₁ a (rows_text (rows_on b.wire))) × (used ≡ a + length (rows_text (rows_on b.wire)))
    → l₂ ≡ laid l at (ring_text n)
ring_laid l l₁ l₂ at a used n b h e p q =
    let s : length (rows_text (rows_on b.wire)) ≤ 32 = wire_short b.wire in
    let o : (l₂ ≡ laid l at (heading ++ rows_text (rows_on b.wire))) × (used ≡ at + length (heading ++ rows_text (rows_on b.wire))) =
    laid_both l l₁ l₂ heading (rows_text (rows_on b.wire)) at a used (omega arith) p.1 q.1 p.0 q.0 in
    let t : heading ++ rows_text (rows_on b.wire) ≡ ring_text n = ap (λ (x : Bench). heading ++ rows_text (rows_on x.wire)) e in
    o.0 ∙ ap (laid l at) t

pub opens_few : (n : ℕ) → opens n ≡ true → n ≤ 64
unfolding opens
opens_few n e = grind (arith, nat_tests)
