-- What the definitions give is what the page says, in every case of the table. Assumes nothing.
use mathlib.Core.Path.{◌≡◌, refl, ap, ◌∙◌}
use mathlib.Core.List.{List, [], ◌∷◌, ◌++◌, map}
use Prim.Native.Nat.{ℕ, zero, suc, ◌+◌, ◌*◌}
use Rattle.codec.specs.Bits.{bits}
use Rattle.codec.specs.Ring.{RingRead, form, count, stride, member_at, addresses_of, bad_address, position, head_refusal, address_refusal, addresses_refusal, ring_refusal, ring_of as ring_in, read_ring, channels_of, members_octets, ring_file}
use Rattle.codec.proofs.Laws.Ring.{refused_late, read_good}
use Rattle.parts.specs.Choose.{pick, all_of, every}
use Rattle.parts.specs.Live.{full, after, seek, successor}
use Rattle.parts.specs.Messages.{pack, pushed, fits, only, split_by, better_of, best_of, best, has_place, free_from, lowest_free}
use Rattle.station.specs.Stations.{add_up_to, head, moved, unless}
use Rattle.station.specs.Start.{started, start_rule}
use Rattle.sent.specs.Round.{start_round, send_head, grant, returned, cleared, raised, pass_on, on_token, reply}
use Rattle.station.specs.Heard.{acknowledged, landed, acknowledge, strike_other, strike_heard, failed, is_last, nothing_more, receive, stored, handle, respond, heard, frame_rule}
use Rattle.parts.specs.Refusals.{heard_refusal}
use Rattle.parts.specs.Frames.{is_ahead, acknowledges}
use Rattle.station.specs.Strike.{give_up_to, give_up_at, give_up_flight}
use Rattle.parts.specs.Live.{newly}
use Rattle.station.specs.Queue.{accepted, queue_rule}
use Rattle.parts.specs.Refusals.{queue_refusal}
use Rattle.bench.specs.Ring.{nobody, on_wire, start_at, start_down, ring_with}
use Rattle.bench.specs.Calls.{queue}
use Rattle.bench.specs.Delivery.{handed, delivered, reply_of, deliver_to, step_on, step, steps}
use Rattle.bench.specs.Rows.{row_of, row_on}
use Rattle.bench.specs.Runs.{after_event, composed, final, frames, stepping}
use Rattle.bench.specs.Text.{width, decimal, cell, front_text, ends_text, back_text, row_text, rows_text, answer_text}
use Rattle.script.specs.Lines.{words, value_from, is_number, shaped, line_of_words, line_of, lines_of}
use Rattle.script.specs.Script.{opens, does, prints, printed, output}
use Rattle.waiting.specs.Waiting.{own, before, shorts, octets_on_wire}
use Rattle.proved_cases.specs.Cases.{Case, members, ring, longest_read, other_cases, cases}

-- ---- a long file read, with its stride computed once

addresses_by : ℕ → List ℕ → ℕ → List ℕ
addresses_by width file zero = []
addresses_by width file (suc n) = addresses_by width file n ++ (bits file ((2 + width * n) * 8) 48 ∷ [])

by_stride : (file : List ℕ) (n : ℕ) → addresses_of file n ≡ addresses_by (stride (form file)) file n
unfolding addresses_of addresses_by
by_stride file zero = refl
by_stride file (suc n) = ap (λ (l : List ℕ). l ++ (bits file (member_at file n * 8) 48 ∷ [])) (by_stride file n)

reads : (file : List ℕ) (width : ℕ) → stride (form file) ≡ width → head_refusal file ≡ 0 → addresses_refusal (addresses_by width file (count file)) ≡ 0
    → read_ring file ≡ record { number = 0; ring = ring_in file }
reads file width w h a =
    let n : ℕ = count file in
    read_good file (refused_late file h ∙ ap addresses_refusal (by_stride file n ∙ ap (λ (k : ℕ). addresses_by k file n) w) ∙ a)

abbrev told : RingRead → List ℕ
told r = r.number ∷ r.ring.n ∷ r.ring.limit ∷ []

longest_1 : (longest_read 1).given ≡ (longest_read 1).page
unfolding addresses_by members bits bad_address position head_refusal address_refusal addresses_refusal ring_in members_octets ring_file
longest_1 = ap told (reads (ring_file (ring 1 64 15)) 6 refl refl refl)

longest_2 : (longest_read 2).given ≡ (longest_read 2).page
unfolding addresses_by members bits bad_address position head_refusal address_refusal addresses_refusal ring_in members_octets ring_file
longest_2 = ap told (reads (ring_file (ring 2 64 15)) 7 refl refl refl)

-- ---- the table

others_hold : map (λ (c : Case). c.given) other_cases ≡ map (λ (c : Case). c.page) other_cases
unfolding other_cases members bits addresses_of bad_address position ring_refusal ring_in read_ring channels_of members_octets ring_file pick all_of every full after seek successor pack pushed fits only split_by better_of best_of best has_place free_from lowest_free add_up_to head moved unless started start_rule start_round send_head grant returned cleared raised pass_on on_token reply heard_refusal is_ahead acknowledges acknowledged landed acknowledge strike_other strike_heard failed is_last nothing_more receive stored handle respond heard frame_rule newly give_up_to give_up_at give_up_flight queue_refusal accepted queue_rule nobody on_wire start_at start_down ring_with queue handed delivered reply_of deliver_to step_on step steps row_of row_on after_event composed final frames stepping width decimal cell front_text ends_text back_text row_text rows_text answer_text words value_from is_number shaped line_of_words line_of lines_of opens does prints printed output own before shorts octets_on_wire
others_hold = refl

one_more : (c : Case) (cs : List Case) → c.given ≡ c.page → map (λ (c : Case). c.given) cs ≡ map (λ (c : Case). c.page) cs
    → map (λ (c : Case). c.given) (c ∷ cs) ≡ map (λ (c : Case). c.page) (c ∷ cs)
one_more c cs e h = λ i. e i ∷ h i

pub all_hold : map (λ (c : Case). c.given) cases ≡ map (λ (c : Case). c.page) cases
unfolding cases
all_hold = one_more (longest_read 1) (longest_read 2 ∷ other_cases) longest_1 (one_more (longest_read 2) other_cases longest_2 others_hold)
