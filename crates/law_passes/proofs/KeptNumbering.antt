-- The numbers of instructions in the folded plan.
use Rattle.std.proofs.Common.{◌≡◌, refl, sym, ap, ◌∙◌, ℕ, zero, suc, ◌+◌, ◌-◌, ◌<◌, Bool, true, false, List, [], ◌∷◌, length, Some, None, if◌then◌else◌, arith}
use Rattle.std.proofs.Common.{zero-add, nat_lt, lt-ltb, le-ltb}
use Rattle.std.specs.Prelude.{slice_get, ◌&&◌, not}
use Rattle.semantics.specs.Program.{CodeBlock, instr_from}
use Rattle.semantics.specs.Plan.{Plan}
use Rattle.semantics.proofs.BlockPlaces.{first_in, first_next}
use Rattle.folding.specs.Folds.{is_folded}
use Rattle.folding.specs.Places.{layout_of, folds_at, new_place}
use Rattle.folding.proofs.Pairs.{closed_uses}
use Rattle.law_passes.specs.Kept.{kept_block, kept_blocks}

abbrev pub is_nil : List ℕ → Bool
is_nil [] = true
is_nil xs = false

-- the tokens of the instruction stand for themselves
abbrev pub plain_at : Plan → CodeBlock → ℕ → Bool
plain_at p c n = not (is_folded (folds_at (layout_of p c) n)) && is_nil (closed_uses p c n)

abbrev pub new_ip : Plan → List CodeBlock → ℕ → ℕ
new_ip p [] ip = ip
new_ip p (c ∷ cs) ip = if nat_lt ip (length c.instrs) then new_place (layout_of p c) ip else length (kept_block p c).instrs + new_ip p cs (ip - length c.instrs)

abbrev pub plain_ip : Plan → List CodeBlock → ℕ → Bool
plain_ip p [] ip = false
plain_ip p (c ∷ cs) ip = if nat_lt ip (length c.instrs) then plain_at p c ip else plain_ip p cs (ip - length c.instrs)

abbrev pub end_of : List CodeBlock → ℕ
end_of [] = 0
end_of (c ∷ cs) = length c.instrs + end_of cs

-- `g` and `h` of `Folds`
abbrev pub place_ip : Plan → ℕ → ℕ
place_ip p ip = new_ip p p.program.blocks ip

abbrev pub word_ip : Plan → ℕ → ℕ
word_ip p ip = if plain_ip p p.program.blocks ip then new_ip p p.program.blocks ip else end_of (kept_blocks p p.program.blocks)

pub ip_at : (p : Plan) (bs : List CodeBlock) (b n : ℕ) (c : CodeBlock) → slice_get bs b ≡ Some c → n < length c.instrs
    → new_ip p bs (first_in bs b + n) ≡ first_in (kept_blocks p bs) b + new_place (layout_of p c) n
ip_at p [] b n c e l = absurd (cc)
ip_at p (x ∷ bs) zero n c e l =
    let same : x ≡ c = cc in
    let len : length x.instrs ≡ length c.instrs = ap (λ (c : CodeBlock). length c.instrs) same in
    ap (λ (t : Bool). if t then new_place (layout_of p x) (0 + n) else length (kept_block p x).instrs + new_ip p bs (0 + n - length x.instrs))
    (lt-ltb (0 + n) (length x.instrs) (omega (arith, l, len)))
    ∙ (λ k. new_place (layout_of p (same k)) (zero-add n k)) ∙ sym (zero-add (new_place (layout_of p c) n))
ip_at p (x ∷ bs) (suc b) n c e l =
    let m = first_next x bs b in
    let k = first_next (kept_block p x) (kept_blocks p bs) b in
    let ip = first_in (x ∷ bs) (suc b) + n in
    let back : ip - length x.instrs ≡ first_in bs b + n = omega (arith, m) in
    let one : new_ip p (x ∷ bs) ip ≡ length (kept_block p x).instrs + new_ip p bs (ip - length x.instrs) =
    ap (λ (t : Bool). if t then new_place (layout_of p x) ip else length (kept_block p x).instrs + new_ip p bs (ip - length x.instrs))
    (le-ltb ip (length x.instrs) (omega (arith, m))) in
    let more : new_ip p bs (ip - length x.instrs) ≡ first_in (kept_blocks p bs) b + new_place (layout_of p c) n = ap (new_ip p bs) back
    ∙ ip_at p bs b n c e l in
    omega (arith, one, more, k)

pub plain_is : (p : Plan) (bs : List CodeBlock) (b n : ℕ) (c : CodeBlock) → slice_get bs b ≡ Some c → n < length c.instrs
    → plain_ip p bs (first_in bs b + n) ≡ plain_at p c n
plain_is p [] b n c e l = absurd (cc)
plain_is p (x ∷ bs) zero n c e l =
    let same : x ≡ c = cc in
    let len : length x.instrs ≡ length c.instrs = ap (λ (c : CodeBlock). length c.instrs) same in
    ap (λ (t : Bool). if t then plain_at p x (0 + n) else plain_ip p bs (0 + n - length x.instrs)) (lt-ltb (0 + n) (length x.instrs) (omega (arith, l, len)))
    ∙ (λ k. plain_at p (same k) (zero-add n k))
plain_is p (x ∷ bs) (suc b) n c e l =
    let m = first_next x bs b in
    let ip = first_in (x ∷ bs) (suc b) + n in
    let back : ip - length x.instrs ≡ first_in bs b + n = omega (arith, m) in
    ap (λ (t : Bool). if t then plain_at p x ip else plain_ip p bs (ip - length x.instrs)) (le-ltb ip (length x.instrs) (omega (arith, m)))
    ∙ ap (plain_ip p bs) back ∙ plain_is p bs b n c e l

-- nothing is at the end
pub none_at_end : (bs : List CodeBlock) → instr_from bs (end_of bs) ≡ None
none_at_end [] = refl
none_at_end (c ∷ cs) =
    let back : length c.instrs + end_of cs - length c.instrs ≡ end_of cs = omega arith in
    ap (λ (t : Bool). if t then slice_get c.instrs (length c.instrs + end_of cs) else instr_from cs (length c.instrs + end_of cs - length c.instrs))
    (le-ltb (length c.instrs + end_of cs) (length c.instrs) (omega arith))
    ∙ ap (instr_from cs) back ∙ none_at_end cs

-- after the code no place stands for itself, and all its places are one
plain_past : (p : Plan) (bs : List CodeBlock) (k : ℕ) → plain_ip p bs (end_of bs + k) ≡ false
plain_past p [] k = refl
plain_past p (c ∷ bs) k =
    let ip : ℕ = length c.instrs + end_of bs + k in
    let back : ip - length c.instrs ≡ end_of bs + k = omega arith in
    ap (λ (t : Bool). if t then plain_at p c ip else plain_ip p bs (ip - length c.instrs)) (le-ltb ip (length c.instrs) (omega arith))
    ∙ ap (plain_ip p bs) back ∙ plain_past p bs k

pub places_meet : (p : Plan) → ((b c : ℕ) → word_ip p b ≡ word_ip p c → b ≡ c) → ⊥
places_meet p apart =
    let end : ℕ = end_of p.program.blocks in
    let here : (k : ℕ) → word_ip p (end + k) ≡ end_of (kept_blocks p p.program.blocks) =
    (λ k. ap (λ (t : Bool). if t then new_ip p p.program.blocks (end + k) else end_of (kept_blocks p p.program.blocks)) (plain_past p p.program.blocks k)) in
    let same = apart (end + 0) (end + 1) (here 0 ∙ sym (here 1)) in
    omega (arith, same)
