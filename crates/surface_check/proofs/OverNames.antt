-- Names of lists, and `let`.
use Rattle.std.specs.Prelude.{◌≡◌, ℕ, suc, ◌+◌, not, ◌&&◌, Bool, List, [], ◌∷◌, ◌++◌, length, map, is_some, Option, Some}
use Rattle.std.specs.Prelude.{Ok}
use Rattle.std.proofs.Common.{◌∙◌, ap, sym, arith}
use Rattle.source.specs.declared.fault.FaultKind.TheVariants.{SameName}
use Rattle.source.specs.Tree.{Name, NameAt, Target, Bind, Drop}
use Rattle.source.specs.Outside.{is_in, bound_by}
use Rattle.surface.specs.Words.{Words, target_word}
use Rattle.surface.specs.First.{◌>>=◌, must_be}
use Rattle.surface.specs.Known.{lookup}
use Rattle.surface.specs.Rules.{new_name, new_targets}
use Rattle.source_check.specs.Steps.{since, onto}
use Rattle.source_check.proofs.Stacks.{since-append}
use Rattle.surface_check.specs.declared.frame.Frame.TheVariants as frame
use Rattle.surface_check.specs.Steps.{Open, Plain, is_new, bound, steps}
use Rattle.surface_check.proofs.HeadsRead.{by_bytes}
use Rattle.surface_check.proofs.Over.{Setting, around, runs, bind_assoc, then_equal, lookup_is}

-- names of a list are pending, the last one first
abbrev pub naming : Open Name → List Name → ℕ → Open Name
naming s before k = record s { pending = before ++ s.pending; frames = frame.Names (length s.pending) k ∷ s.frames }

-- whether a name is new in such a list
abbrev new_in : List Name → List (Name × ℕ) → List Name → Name → Bool
new_in names arrays before x = not (is_in x names) && not (is_some (lookup arrays x)) && not (is_in x before)

pub new_is : (g : Setting) (s : Open Name) (before : List Name) (x : Name)
    → is_new by_bytes g.items s (since (length s.pending) (before ++ s.pending)) x ≡ new_in g.known.names s.arrays before x
new_is g s before x = ap (λ (xs : List Name). is_new by_bytes g.items s xs x) (since-append before s.pending)
    ∙ ap (λ (o : Option ℕ). not (is_some (g.items.item x)) && not (is_some o) && not (is_in x before)) (lookup_is s.arrays x)
    ∙ ap (λ (b : Bool). not b && not (is_some (lookup s.arrays x)) && not (is_in x before)) (g.pins.names x)

-- a name that must be new
pub bound_as : (g : Setting) (s : Open Name) (before : List Name) (k : ℕ) (x : NameAt) (ws : Words)
    → (bound by_bytes g.items (record s { pending = before ++ s.pending }) x.at x.name (Some (frame.Names (length s.pending) k)) >>= λ u. steps by_bytes g.items u
    ws) ≡ (new_name (around g s) before x >>= λ new. runs g (naming s (x.name ∷ before) (k + 1)) ws)
bound_as g s before k x ws =
    ap (λ (b : Bool). (must_be b SameName x.at >>= λ new. Ok (Plain (naming s (x.name ∷ before) (k + 1)))) >>= λ u. steps by_bytes g.items u ws) (new_is g s before
    x.name)
    ∙ bind_assoc (must_be (new_in g.known.names s.arrays before x.name) SameName x.at) (λ new. Ok (Plain (naming s (x.name ∷ before) (k + 1)))) (λ u. steps
    by_bytes g.items u ws)

nothing_more : (k : ℕ) → k ≡ k + 0
nothing_more k = omega arith

one_more : (k m : ℕ) → (k + 1) + m ≡ k + suc m
one_more k m = omega arith

pub over_targets : (g : Setting) (targets : List Target) (s : Open Name) (before : List Name) (k : ℕ) (rest : Words)
    → runs g (naming s before k) (map target_word targets ++ rest)
    ≡ (new_targets (around g s) before targets >>= λ u. runs g (naming s (onto (bound_by targets) before) (k + length targets)) rest)
over_targets g [] s before k rest = ap (λ (i : ℕ). runs g (naming s before i) rest) (nothing_more k)
over_targets g (Drop ∷ targets) s before k rest = over_targets g targets s before (k + 1) rest
    ∙ ap (λ (i : ℕ). new_targets (around g s) before targets >>= λ u. runs g (naming s (onto (bound_by targets) before) i) rest) (one_more k (length targets))
over_targets g (Bind x ∷ targets) s before k rest = bound_as g s before k x (map target_word targets ++ rest)
    ∙ then_equal (new_name (around g s) before x) _ (λ new. new_targets (around g s) (x.name ∷ before) targets >>= λ u. runs g (naming s (onto (bound_by targets)
    (x.name ∷ before)) (k + suc (length targets))) rest) (λ new. over_targets g targets s (x.name ∷ before) (k + 1) rest
    ∙ ap (λ (i : ℕ). new_targets (around g s) (x.name ∷ before) targets >>= λ u. runs g (naming s (onto (bound_by targets) (x.name ∷ before)) i) rest) (one_more k
    (length targets)))
    ∙ sym (bind_assoc (new_name (around g s) before x) (λ new. new_targets (around g s) (x.name ∷ before) targets) (λ u. runs g (naming s (onto (bound_by targets)
    (x.name ∷ before)) (k + suc (length targets))) rest))
