-- Reading a script octet by octet: of a line its first 40 octets are kept, and each line is obeyed as its line feed comes.
use Rattle.std.specs.Prelude.{◌≡◌, List, [], ◌∷◌, ◌++◌, ℕ, ◌+◌, ltb, eqb, length, take, set, replicate, Option, Some, None}
use Rattle.parts.specs.Choose.{pick}
use Rattle.bench.specs.Text.{line_feed}
use Rattle.script.specs.Lines.{line_of}
use Rattle.script.specs.Script.{Session, does, prints}
use Rattle.script.specs.declared.reading.Held.{Held}

-- nothing of a line
abbrev pub no_held : Held
no_held = record { octets = replicate 40 0; len = 0 }

-- the octets that are kept
abbrev pub kept_of : Held → List ℕ
kept_of h = take h.len h.octets

-- one octet more, where there is room
unfoldable pub keep_one : Held → ℕ → Held
keep_one h c = pick (ltb h.len 40) (record { octets = set h.octets h.len c; len = h.len + 1 }) h

-- of the octets x of a line the first 40 are kept
pub record Keeps (h : Held) (x : List ℕ) : Type 0 where
  pub long : length h.octets ≡ 40
  pub many : h.len ≡ length (take 40 x)
  pub kept : kept_of h ≡ take 40 x

-- a line after more of it was read, and what stands behind its line feed, where that has come
pub record Fed : Type 0 where
  pub held : Held
  pub rest : Option (List ℕ)

-- the octets as far as the next line feed
unfoldable pub fed_from : Held → List ℕ → Fed
fed_from h [] = record { held = h; rest = None }
fed_from h (c ∷ s) = pick (eqb c line_feed) (record { held = h; rest = Some s }) (fed_from (keep_one h c) s)

-- what the rest of the input prints, in a session and with what is kept of the line before it; at the end a line may lack its line feed
unfoldable pub told : Session → Held → List ℕ → List ℕ
told s h [] = pick (ltb 0 h.len) (prints s (line_of (kept_of h))) []
told s h (c ∷ i) =
    pick (eqb c line_feed)
    (prints s (line_of (kept_of h)) ++ told (does s (line_of (kept_of h))) no_held i)
    (told s (keep_one h c) i)
