-- What is printed.
use Rattle.std.specs.Prelude.{List, [], ◌∷◌, ◌++◌, ℕ, zero, suc, ◌+◌, ◌/◌, ◌%◌, ◌^◌, ltb, eqb}
use Prim.Native.Char.{code}
use Prim.Native.String.{String, [] as end, ◌∷◌ as ◌∷ₛ◌}
use Rattle.codec.specs.Order.{first_of}
use Rattle.parts.specs.Choose.{pick}
use Rattle.bench.specs.declared.rows.Kind.{Kind}
use Rattle.bench.specs.declared.rows.Kind.TheVariants.{T, G, I}
use Rattle.bench.specs.declared.rows.Row.{Row}

abbrev pub space : ℕ
space = 32

abbrev pub line_feed : ℕ
line_feed = 10

-- the octets of a text
abbrev pub text : String → List ℕ
text end = []
text (c ∷ₛ s) = code c ∷ text s

-- ---- numbers below 100,000

-- how many digits a number has
unfoldable pub width : ℕ → ℕ
width v = first_of 5 ((ltb v 10, 1) ∷ (ltb v 100, 2) ∷ (ltb v 1000, 3) ∷ (ltb v 10000, 4) ∷ [])

-- its last k digits, the most significant first
abbrev pub digits : ℕ → ℕ → List ℕ
digits zero v = []
digits (suc k) v = (48 + v / 10 ^ k % 10) ∷ digits k v

unfoldable pub decimal : ℕ → List ℕ
decimal v = digits (width v) v

-- a number, and what stands behind it
unfoldable pub cell : ℕ → ℕ → List ℕ
cell v behind = decimal v ++ behind ∷ []

-- ---- a row: "number, kind, sender, addressee, priority, octets on the wire"

abbrev pub letter : Kind → ℕ
letter T = 84
letter G = 71
letter I = 73

-- "words are parted by one space, printed ones too"
unfoldable pub front_text : ℕ → Kind → List ℕ
front_text number kind = cell number space ++ letter kind ∷ space ∷ []

unfoldable pub ends_text : ℕ → ℕ → List ℕ
ends_text from to = cell from space ++ cell to space

unfoldable pub back_text : ℕ → ℕ → List ℕ
back_text priority octets = cell priority space ++ cell octets line_feed

unfoldable pub row_text : Row → List ℕ
row_text r = front_text r.number r.kind ++ (ends_text r.from r.to ++ back_text r.priority r.octets)

unfoldable pub rows_text : List Row → List ℕ
rows_text [] = []
rows_text (r ∷ rs) = row_text r ++ rows_text rs

-- ---- the other lines

abbrev pub heading : List ℕ
heading = text "no kind from to prio octets" ++ line_feed ∷ []

abbrev pub bad_line : List ℕ
bad_line = text "bad line" ++ line_feed ∷ []

-- "a refused queue prints `refused` and the number"
abbrev pub refused : List ℕ
refused = text "refused "

unfoldable pub answer_text : ℕ → List ℕ
answer_text number = pick (eqb number 0) [] (refused ++ cell number line_feed)
