-- Each graph block's plain code has the block's inputs.
use Rattle.std.proofs.Common.{◌≡◌, ℕ, zero, suc, ◌+◌, ◌<◌, Bool, true, false, List, [], ◌∷◌, ◌++◌, length, refl, sym, subst, arith, append_assoc, append-nil}
use Rattle.std.proofs.Common.{if◌then◌else◌, length-append}
use Rattle.std.specs.Prelude.{slice_get, ⊤}
use Rattle.semantics.specs.Graph.{Block, Flow}
use Rattle.semantics.specs.Program.{CodeBlock}
use Rattle.semantics.specs.Orderly as Orderly
use Rattle.semantics.specs.Faithful as Faithful
use Rattle.schemas.specs.Variants.{some_block_loops, variants_of}
use Rattle.schemas.specs.Blocks.{Coded}
use Rattle.schemas.specs.Expanded.{Codes, with_code, no_codes, plain_code, variant_code, plain_codes, variant_codes, expanded}

-- the first code blocks have the inputs of these blocks
abbrev SameInputs : List CodeBlock → List (Block ℕ) → Type 0
SameInputs cs [] = ⊤
SameInputs [] (g ∷ gs) = ⊥
SameInputs (c ∷ cs) (g ∷ gs) = (c.inputs ≡ g.inputs) × SameInputs cs gs

push : (cs : List CodeBlock) (gs : List (Block ℕ)) (c : CodeBlock) (g : Block ℕ) → length cs ≡ length gs → SameInputs cs gs → c.inputs ≡ g.inputs
    → SameInputs (cs ++ c ∷ []) (gs ++ g ∷ [])
push [] [] c g e h q = (q, tt)
push (x ∷ cs) (y ∷ gs) c g e h q = (h.0, push cs gs c g (omega (arith, e)) h.1 q)
push [] (y ∷ gs) c g e h q = cc
push (x ∷ cs) [] c g e h q = cc

behind : (cs : List CodeBlock) (gs : List (Block ℕ)) (c : CodeBlock) → SameInputs cs gs → SameInputs (cs ++ c ∷ []) gs
behind cs [] c h = tt
behind [] (g ∷ gs) c h = absurd h
behind (x ∷ cs) (g ∷ gs) c h = (h.0, behind cs gs c h.1)

same_plain : (v : ℕ) (bs : List (Block ℕ)) (vars : List ℕ) (n : ℕ) (b : Block ℕ) → (plain_code v bs vars n b).code.inputs ≡ b.inputs
unfolding plain_code
same_plain v bs vars n b = refl

plains : (cs : Codes) (gs : List (Block ℕ)) (v : ℕ) (bs : List (Block ℕ)) (vars : List ℕ) (n : ℕ) (rest : List (Block ℕ)) → length cs.blocks ≡ length gs
    → SameInputs cs.blocks gs → SameInputs (plain_codes cs v bs vars n rest).blocks (gs ++ rest)
plains cs gs v bs vars n [] e h = subst (SameInputs cs.blocks) (sym (append-nil gs)) h
plains cs gs v bs vars n (b ∷ rest) e h =
    let x : Coded = plain_code v bs vars n b in
    let l = length-append cs.blocks (x.code ∷ []) in
    let m = length-append gs (b ∷ []) in
    subst (SameInputs (plain_codes (with_code cs x) v bs vars (n + 1) rest).blocks) (append_assoc gs (b ∷ []) rest)
    (plains (with_code cs x) (gs ++ b ∷ []) v bs vars (n + 1) rest (omega (arith, e, l, m)) (push cs.blocks gs x.code b e h (same_plain v bs vars n b)))

variants : (cs : Codes) (gs : List (Block ℕ)) (v : ℕ) (bs : List (Block ℕ)) (vars : List ℕ) (n : ℕ) (rest : List (Block ℕ))
    → SameInputs cs.blocks gs → SameInputs (variant_codes cs v bs vars n rest).blocks gs
variants cs gs v bs vars n [] h = h
variants cs gs v bs vars n (b ∷ rest) h =
    variants (if some_block_loops n bs then with_code cs (variant_code v bs vars n b) else cs) gs v bs vars (n + 1) rest (by (some_block_loops n bs))
  where
    by : (t : Bool) → SameInputs (if t then with_code cs (variant_code v bs vars n b) else cs).blocks gs
    by true = behind cs.blocks gs (variant_code v bs vars n b).code h
    by false = h

at : (cs : List CodeBlock) (gs : List (Block ℕ)) (k : ℕ) → k < length gs → SameInputs cs gs
    → Orderly.inputs_in (slice_get cs k) ≡ Faithful.inputs_in (slice_get gs k)
at cs [] k low h = absurd (omega (arith, low))
at [] (g ∷ gs) k low h = absurd h
at (c ∷ cs) (g ∷ gs) zero low h = h.0
at (c ∷ cs) (g ∷ gs) (suc k) low h = at cs gs k (omega (arith, low)) h.1

pub takes_inputs : (fl : Flow) → fl.main < length fl.blocks → Orderly.inputs_of (expanded fl) ≡ Faithful.inputs_of fl
takes_inputs fl low =
    let vars : List ℕ = variants_of fl.blocks in
    at (expanded fl).program.blocks fl.blocks fl.main low
    (variants (plain_codes no_codes fl.version fl.blocks vars 0 fl.blocks) fl.blocks fl.version fl.blocks vars 0 fl.blocks
    (plains no_codes [] fl.version fl.blocks vars 0 fl.blocks refl tt))
