-- `forms::is_plain` meets its contract.
use mathlib.Core.Path.{◌≡◌, sym, ap, ◌∙◌}
use Prim.Native.Nat.{ℕ}
use native.Mathlib.Omega.{arith}
use Rattle.codec.specs.Ring.{version_of, version, channels_of, all_open}
use Rattle.codec.proofs.Laws.Bits.{bits_below}
use Rattle.codec.proofs.Laws.Forms.{other_version, first_version}
use Rattle.codec.proofs.forms.is_plain.Goals as goal
use Rattle.codec.proofs.forms.is_plain.Goals.{After-version_of}

-- the version is the file's
the_version : (c : After-version_of) → c.version_of.result ≡ version c.args.file.now
the_version c = c.version_of.ensures ∙ ap version_of c.requires.0

pub returns-then-version_of-ne1 : goal.returns-then-version_of-ne1
returns-then-version_of-ne1 c = sym (other_version _ (λ e. c.if-version_of-ne1.true (the_version (goal.at.returns-then-version_of-ne1 c).After-version_of ∙ e)))

pub all_open-requires : goal.all_open-requires
all_open-requires c =
    (omega (arith, c.requires.1.0, bits_below c.args.file.now 4 6), c.requires.1.1)

pub returns : goal.returns
returns c =
    c.all_open.ensures
    ∙ ap (λ (k : ℕ). all_open (channels_of c.args.file.now k)) c.requires.1.0
    ∙ sym (first_version c.args.file.now (sym (the_version (goal.at.returns c).After-version_of) ∙ c.if-version_of-ne1.false))
