-- Each instruction has a line.
use Rattle.std.proofs.Common.{◌≡◌, ◌∙◌, ℕ, zero, suc, ◌+◌, ◌<◌, ◌≤◌, List, [], ◌∷◌, length, take, drop, arith, refl, ap}
use Rattle.std.specs.Prelude.{slice_get}
use Rattle.std.proofs.lemmas.List.{length-drop, length-take-le}
use Rattle.object_view.proofs.Places.{within_from}
use Rattle.semantics.specs.Program.{first_of}
use Rattle.map_text.specs.Laws.{EachHasLine}

get_taken : {X : Type 0} (xs : List X) (n i : ℕ) → i < n → slice_get (take n xs) i ≡ slice_get xs i
get_taken xs zero i l = absurd (omega (arith, l))
get_taken [] (suc n) i l = refl
get_taken (x ∷ xs) (suc n) zero l = refl
get_taken (x ∷ xs) (suc n) (suc i) l = get_taken xs n i (omega (arith, l))

get_dropped : {X : Type 0} (xs : List X) (n i : ℕ) → slice_get (drop n xs) i ≡ slice_get xs (n + i)
get_dropped xs zero i =
    let start : i ≡ 0 + i = omega arith in
    ap (slice_get xs) start
get_dropped [] (suc n) i = refl
get_dropped (x ∷ xs) (suc n) i =
    let up : suc (n + i) ≡ suc n + i = omega arith in
    get_dropped xs n i ∙ ap (slice_get (x ∷ xs)) up

pub each_has_line : EachHasLine
each_has_line p os code b count is =
    let inside = within_from p.blocks code b is in
    let rest = length-drop (first_of p code) os in
    let room : length b.instrs ≤ length (drop (first_of p code) os) = omega (arith, inside, rest, count) in (
      length-take-le (length b.instrs) (drop (first_of p code) os) room,
      λ instr less. get_taken (drop (first_of p code) os) (length b.instrs) instr less ∙ get_dropped os (first_of p code) instr,
    )
