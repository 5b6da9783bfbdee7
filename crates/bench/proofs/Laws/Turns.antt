-- Laws of one turn of a delivery, as the code takes it: a station that is left as it is, or one that is handed the frame. Assumes nothing.
use mathlib.Core.Path.{◌≡◌, refl, sym, ap, ◌∙◌}
use mathlib.Core.Bool.{Bool, true, false, false≢true}
use mathlib.Core.List.{List}
use Prim.Native.Nat.{ℕ, ◌+◌, ◌<◌}
use native.Mathlib.Numerals.{add-one}
use lib.ListN.{length, get_or, set}
use Rattle.parts.specs.Choose.{pick}
use Rattle.parts.specs.Live.{seats}
use Rattle.station.specs.Heard.{frame_rule}
use Rattle.parts.specs.declared.frame.Frame.{Frame}
use Rattle.parts.specs.Frames.{Dispatch}
use Rattle.station.specs.declared.station.Station.{Station}
use Rattle.station.specs.declared.station.Answer.{Answer}
use Rattle.bench.specs.Bystander.{Untouched}
use Rattle.parts.proofs.Laws.Choose.{pick_true, pick_false}
use Rattle.bench.specs.Ring.{nobody}
use Rattle.bench.specs.Delivery.{is_quiet, stands_by, handed, reply_to}
use Rattle.bench.proofs.Laws.StandsBy.{either, answered_untouched}
use Rattle.bench.proofs.Laws.Delivered.{handed_hears, handed_not}
use Rattle.bench.proofs.Laws.Passing.{seats_members, Passed, passed_by, passed_on}
use Rattle.bench.proofs.Theorems.Bystander.{bystander}

-- whoever stands by is untouched, whether it hears the frame or not
pub stands_handed : (n : ℕ) (hears : ℕ → Bool) (f : Frame) (from to p : ℕ) (s : Station) → stands_by (is_quiet f) to s ≡ true
    → Untouched s (handed n hears f from to p s)
unfolding handed
stands_handed n hears f from to p s e = either (Untouched s) _ _ _ (bystander s f from to e) (answered_untouched s 0)

module _ (n : ℕ) (hears : ℕ → Bool) (f : Frame) (from to : ℕ) (old cur : List Station) (reply : Dispatch) (p : ℕ) (w : Passed n hears f from to old cur reply p)
    (quiet : Bool) (eq : quiet ≡ is_quiet f) where
  abbrev left : Bool
  left = pick (hears p) (stands_by quiet to (get_or cur p nobody)) true

  -- who does not hear it, or a bystander
  pub turn_left : left ≡ true → Passed n hears f from to old cur reply (p + 1)
  turn_left t = rw (add-one p) (passed_by n hears f from to old cur reply p w (go (hears p) refl))
    where
      go : (b : Bool) → hears p ≡ b → Untouched (get_or cur p nobody) (handed n hears f from to p (get_or cur p nobody))
      go true e =
          stands_handed n hears f from to p (get_or cur p nobody)
          (ap (λ (x : Bool). stands_by x to (get_or cur p nobody)) (sym eq) ∙ sym (pick_true _ _ e) ∙ t)
      go false e = rw (handed_not n hears f from to p (get_or cur p nobody) e) (answered_untouched (get_or cur p nobody) 0)

  pub turn_heard : left ≡ false → (a : Answer) (next : Dispatch) → p < seats n → p < length cur → a ≡ frame_rule (get_or cur p nobody) f from to
      → next ≡ reply_to p to a.sent reply → Passed n hears f from to old (set cur p a.station) next (p + 1)
  turn_heard t a next h room ea en =
      rw (add-one p, en)
      (passed_on n hears f from to old cur reply p w a room
      (ea ∙ sym (handed_hears n hears f from to p (get_or cur p nobody) (seats_members n p h) (go (hears p) refl))))
    where
      go : (b : Bool) → hears p ≡ b → hears p ≡ true
      go true e = e
      go false e = absurd (false≢true (sym t ∙ pick_false _ _ e))
