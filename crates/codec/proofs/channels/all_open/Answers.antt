use mathlib.Core.Path.{◌≡◌, refl, sym, ap, ◌∙◌}
use mathlib.Core.Bool.{Bool, ◌&&◌}
use Prim.Native.Nat.{ℕ, ◌+◌, ◌≤◌}
use native.Mathlib.Omega.{arith}
use lib.Dec.{eqb}
use Rattle.codec.specs.Ring.{form, file_octets, all_channels, channels_of, all_open}
use Rattle.codec.proofs.Laws.Ring.{octets_grow}
use Rattle.codec.proofs.Laws.Channels.{all_more}
use Rattle.codec.proofs.channels.all_open.Goals as goal

pub loop-i-init : goal.loop-i-init
unfolding all_open channels_of
loop-i-init c = (omega arith, refl)

pub channels_at-requires : goal.channels_at-requires
channels_at-requires c =
    let i = c.loop-i.i in
    let f = form c.args.file.now in
    let g : file_octets f (i + 1) ≤ file_octets f c.args.n = octets_grow f (i + 1) c.args.n (omega (arith, c.loop-i-test.true)) in
    (omega arith, omega (arith, g, c.requires.1))

pub overflow_add-i : goal.overflow_add-i
overflow_add-i c = omega arith

pub loop-i-smaller : goal.loop-i-smaller
loop-i-smaller c = omega arith

pub loop-i-preserved : goal.loop-i-preserved
loop-i-preserved c =
    let l = c.loop-i in
    let file = c.args.file.now in (
      omega arith,
      c.open_too-open.ensures
          ∙ ap (λ (b : Bool). b && eqb c.channels_at.result all_channels) l.invariant.1
          ∙ ap (λ (v : ℕ). all_open (channels_of file l.i) && eqb v all_channels) c.channels_at.ensures
          ∙ sym (all_more file l.i),
    )

pub returns : goal.returns
returns c =
    let l = c.loop-i in
    let e : l.i ≡ c.args.n = omega arith in
    rw e at l.invariant.1
