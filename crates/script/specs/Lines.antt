-- A script's lines: the words of a line, the numbers among them, and the three shapes that are read.
use Rattle.std.specs.Prelude.{Bool, true, List, [], ◌∷◌, ℕ, ◌+◌, ◌*◌, ◌-◌, leb, eqb, length, get_or, drop, Option, Some, None}
use Rattle.std.specs.List.{slice_split, list_all}
use Rattle.std.specs.Str.{all_ascii_digits, bytes_eq}
use Rattle.codec.specs.Order.{first_of}
use Rattle.parts.specs.Choose.{pick, all_of}
use Rattle.parts.specs.declared.request.Request.{Request}
use Rattle.bench.specs.Text.{space, line_feed, text}
use Rattle.script.specs.declared.lines.Line.{Line}
use Rattle.script.specs.declared.lines.Line.TheVariants.{Ring, Queue, Step}

-- ---- the words: "parted by one space"

unfoldable pub words : List ℕ → List (List ℕ)
words s = slice_split (λ c. eqb c space) s

-- ---- the numbers: "1 to 5 digits, at most 65,535"

-- what digits say, after those that said v
unfoldable pub value_from : ℕ → List ℕ → ℕ
value_from v [] = v
value_from v (c ∷ w) = value_from (v * 10 + (c - 48)) w

abbrev pub value : List ℕ → ℕ
value w = value_from 0 w

unfoldable pub is_number : List ℕ → Bool
is_number w = all_of (leb 1 (length w) ∷ leb (length w) 5 ∷ all_ascii_digits w ∷ leb (value w) 65535 ∷ [])

unfoldable pub number_in : List ℕ → Option ℕ
number_in w = pick (is_number w) (Some (value w)) None

-- ---- the shapes

abbrev pub ring_word : List ℕ
ring_word = text "ring"

abbrev pub queue_word : List ℕ
queue_word = text "queue"

abbrev pub step_word : List ℕ
step_word = text "step"

abbrev pub word_at : List (List ℕ) → ℕ → List ℕ
word_at ws i = get_or ws i []

abbrev pub value_at : List (List ℕ) → ℕ → ℕ
value_at ws i = value (word_at ws i)

-- the word, and k numbers behind it
unfoldable pub shaped : List ℕ → ℕ → List (List ℕ) → Bool
shaped w k ws = all_of (bytes_eq (word_at ws 0) w ∷ eqb (length ws) (k + 1) ∷ list_all is_number (drop 1 ws) ∷ [])

-- TO, PRIORITY, CHANNEL and LENGTH
abbrev pub request_in : List (List ℕ) → Request
request_in ws = record { to = value_at ws 2; priority = value_at ws 3; channel = value_at ws 4; length = value_at ws 5; listens = true }

-- `ring N`, `queue FROM TO PRIORITY CHANNEL LENGTH`, `step COUNT`
unfoldable pub line_of_words : List (List ℕ) → Option Line
line_of_words ws =
    first_of None
    ((shaped ring_word 1 ws, Some (Ring (value_at ws 1)))
    ∷ (shaped queue_word 5 ws, Some (Queue (value_at ws 1) (request_in ws)))
    ∷ (shaped step_word 1 ws, Some (Step (value_at ws 1)))
    ∷ [])

unfoldable pub line_of : List ℕ → Option Line
line_of s = line_of_words (words s)

-- ---- the input's lines: "the last line feed may be missing"

-- one octet more in front of the first line, which begins with it where there is none
abbrev pub opening : ℕ → List (List ℕ) → List (List ℕ)
opening c [] = (c ∷ []) ∷ []
opening c (l ∷ ls) = (c ∷ l) ∷ ls

unfoldable pub lines_of : List ℕ → List (List ℕ)
lines_of [] = []
lines_of (c ∷ s) = pick (eqb c line_feed) ([] ∷ lines_of s) (opening c (lines_of s))
