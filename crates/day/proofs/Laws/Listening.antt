-- Laws of who listens, in a ring of n with these open channels. Assumes nothing.
use mathlib.Core.Path.{◌≡◌, refl, sym, ap, ◌∙◌}
use mathlib.Core.Bool.{Bool, true}
use mathlib.Core.List.{List}
use Prim.Native.Nat.{ℕ, ◌<◌, ◌≤◌}
use borrow.Author.Tests.{le-leb, lt-leb, lt-ltb, le-ltb}
use lib.ListN.{get_or}
use Rattle.codec.specs.Ring.{is_open, listens}
use Rattle.parts.specs.declared.request.Request.{Request}
use Rattle.capture.specs.declared.record.Event.{Event}
use Rattle.capture.specs.declared.record.Event.TheVariants.{Queue}
use Rattle.capture.specs.declared.record.Read.{Read}
use Rattle.capture.specs.declared.record.Read.TheVariants.{Good}
use Rattle.day.specs.Listening.{heard_in, saying, asked, asked_read}

module _ (n : ℕ) (channels : List ℕ) (p channel : ℕ) where
  pub nobody_there : n ≤ p → true ≡ heard_in n channels p channel
  unfolding listens
  nobody_there h = rw (le-leb n p h)

  pub no_channel : p < n → 7 < channel → true ≡ heard_in n channels p channel
  unfolding listens
  no_channel h c = rw (lt-leb n p h, lt-ltb 7 channel c)

  pub open_there : p < n → channel ≤ 7 → is_open (get_or channels p 0) channel ≡ heard_in n channels p channel
  unfolding listens
  open_there h c = rw (lt-leb n p h, le-ltb 7 channel c) refl

-- ---- what is asked, by what is known of the event and of what was read

module _ (hears : ℕ → ℕ → Bool) where
  pub asked_queue : (e : Event) (station : ℕ) (q q₁ : Request) (b : Bool) → e ≡ Queue station q → b ≡ hears q.to q.channel → q₁ ≡ saying q b → Queue station q₁ ≡ asked hears e
  asked_queue e station q q₁ b is x y = ap (Queue station) (y ∙ ap (saying q) x) ∙ sym (ap (asked hears) is)

  pub asked_good : (r : Read) (e e₁ : Event) (next : ℕ) → r ≡ Good e next → e₁ ≡ asked hears e → Good e₁ next ≡ asked_read hears r
  asked_good r e e₁ next is x = ap (λ (d : Event). Good d next) x ∙ sym (ap (asked_read hears) is)
