-- What a block holds splits where its lines do, and a block holds all its lines.
use Rattle.std.proofs.Common.{◌≡◌, ℕ, ◌+◌, ◌-◌, Bool, false, List, [], ◌∷◌, ◌++◌, length, Some, None, nat_lt, if◌then◌else◌, refl, sym, ◌∙◌, ap}
use Rattle.std.proofs.Common.{subst, arith, le-ltb, append_assoc, length-append}
use Rattle.std.specs.Prelude.{slice_get}
use Rattle.semantics.specs.Graph.{Node, Block, node_at}
use Rattle.source.specs.Holds.{Holds}

pub holds_split : {N : Type 0} → (b : Block N) (n : ℕ) (xs ys : List (Node N)) → Holds b n (xs ++ ys) → Holds b n xs × Holds b (n + length xs) ys
holds_split b n [] ys h = (tt, subst (λ m. Holds b m ys) (omega arith) h)
holds_split b n (x ∷ xs) ys h =
    let later = holds_split b (n + 1) xs ys h.1 in ((h.0, later.0), subst (λ m. Holds b m ys) (omega arith) later.1)

got_behind : {X : Type 0} → (before after : List X) (x : X) → slice_get (before ++ x ∷ after) (length before) ≡ Some x
got_behind [] after x = refl
got_behind (y ∷ before) after x = got_behind before after x

holds_behind : {N : Type 0} → (b : Block N) (before lines : List (Node N)) → b.nodes ≡ before ++ lines → Holds b (b.inputs + length before) lines
holds_behind b before [] e = tt
holds_behind {N} b before (line ∷ lines) e =
    let n = b.inputs + length before in
    let past : nat_lt n b.inputs ≡ false = le-ltb n b.inputs (omega arith) in
    let place : n - b.inputs ≡ length before = omega arith in
    let here : node_at b n ≡ Some line =
    ap (λ (t : Bool). if t then None else slice_get b.nodes (n - b.inputs)) past ∙ ap (λ i. slice_get b.nodes i) place
    ∙ ap (λ l. slice_get l (length before)) e ∙ got_behind before lines line in
    let rest = holds_behind b (before ++ line ∷ []) lines (e ∙ sym (append_assoc before (line ∷ []) lines)) in
    let long : length (before ++ line ∷ []) ≡ length before + 1 = length-append before (line ∷ []) in
    (here, subst (λ m. Holds b m lines) (omega (arith, long)) rest)

pub holds_whole : {N : Type 0} → (b : Block N) (lines : List (Node N)) → b.nodes ≡ lines → Holds b b.inputs lines
holds_whole b lines e = subst (λ m. Holds b m lines) (omega arith) (holds_behind b [] lines e)
