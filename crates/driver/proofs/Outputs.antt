-- The code of a graph has as many outputs as its main.
use Rattle.std.proofs.Common.{◌≡◌, ℕ, zero, suc, ◌+◌, ◌<◌, Bool, true, false, List, [], ◌∷◌, ◌++◌, length, map, refl, sym, subst, ◌∙◌, arith}
use Rattle.std.proofs.Common.{append_assoc, append-nil, if◌then◌else◌, length-append}
use Rattle.std.specs.Prelude.{slice_get, ⊤}
use Rattle.semantics.specs.Graph.{Graph, Block, Flow, flow_of}
use Rattle.semantics.specs.WellFormed.{WellFormed}
use Rattle.semantics.specs.Program.{CodeBlock}
use Rattle.semantics.specs.Plan.{Plan}
use Rattle.semantics.specs.Placed.{placed_blocks}
use Rattle.semantics.specs.Machine.{results_in, outputs_of}
use Rattle.schemas.specs.Variants.{some_block_loops, variants_of}
use Rattle.schemas.specs.Blocks.{Coded}
use Rattle.schemas.specs.Expanded.{Codes, with_code, no_codes, plain_code, variant_code, plain_codes, variant_codes, expanded}
use Rattle.folding.specs.Folded.{folded, folded_block}
use Rattle.fanout.specs.Narrowed.{narrowed_block}
use Rattle.select.specs.Emitted.{emitted_block}
use Rattle.law_wiring.proofs.ArcsLaws.{plain_outputs}
use Rattle.law_compiler.specs.Objects.{plan_of}
use Rattle.law_compiler.proofs.Objects.{main_there}
use Rattle.driver.specs.Compiled.{outputs_in, flow_outputs}

-- the first code blocks have the outputs of these blocks
abbrev SameOutputs : List CodeBlock → List (Block ℕ) → Type 0
SameOutputs cs [] = ⊤
SameOutputs [] (g ∷ gs) = ⊥
SameOutputs (c ∷ cs) (g ∷ gs) = (c.outputs ≡ g.outputs) × SameOutputs cs gs

push : (cs : List CodeBlock) (gs : List (Block ℕ)) (c : CodeBlock) (g : Block ℕ) → length cs ≡ length gs → SameOutputs cs gs → c.outputs ≡ g.outputs
    → SameOutputs (cs ++ c ∷ []) (gs ++ g ∷ [])
push [] [] c g e h q = (q, tt)
push (x ∷ cs) (y ∷ gs) c g e h q = (h.0, push cs gs c g (omega (arith, e)) h.1 q)
push [] (y ∷ gs) c g e h q = cc
push (x ∷ cs) [] c g e h q = cc

behind : (cs : List CodeBlock) (gs : List (Block ℕ)) (c : CodeBlock) → SameOutputs cs gs → SameOutputs (cs ++ c ∷ []) gs
behind cs [] c h = tt
behind [] (g ∷ gs) c h = absurd h
behind (x ∷ cs) (g ∷ gs) c h = (h.0, behind cs gs c h.1)

plains : (cs : Codes) (gs : List (Block ℕ)) (v : ℕ) (bs : List (Block ℕ)) (vars : List ℕ) (n : ℕ) (rest : List (Block ℕ)) → length cs.blocks ≡ length gs
    → SameOutputs cs.blocks gs → SameOutputs (plain_codes cs v bs vars n rest).blocks (gs ++ rest)
plains cs gs v bs vars n [] e h = subst (SameOutputs cs.blocks) (sym (append-nil gs)) h
plains cs gs v bs vars n (b ∷ rest) e h =
    let x : Coded = plain_code v bs vars n b in
    let l = length-append cs.blocks (x.code ∷ []) in
    let m = length-append gs (b ∷ []) in
    subst (SameOutputs (plain_codes (with_code cs x) v bs vars (n + 1) rest).blocks) (append_assoc gs (b ∷ []) rest)
    (plains (with_code cs x) (gs ++ b ∷ []) v bs vars (n + 1) rest (omega (arith, e, l, m)) (push cs.blocks gs x.code b e h (plain_outputs v bs vars n b)))

variants : (cs : Codes) (gs : List (Block ℕ)) (v : ℕ) (bs : List (Block ℕ)) (vars : List ℕ) (n : ℕ) (rest : List (Block ℕ))
    → SameOutputs cs.blocks gs → SameOutputs (variant_codes cs v bs vars n rest).blocks gs
variants cs gs v bs vars n [] h = h
variants cs gs v bs vars n (b ∷ rest) h =
    variants (if some_block_loops n bs then with_code cs (variant_code v bs vars n b) else cs) gs v bs vars (n + 1) rest (by (some_block_loops n bs))
  where
    by : (t : Bool) → SameOutputs (if t then with_code cs (variant_code v bs vars n b) else cs).blocks gs
    by true = behind cs.blocks gs (variant_code v bs vars n b).code h
    by false = h

at : (cs : List CodeBlock) (gs : List (Block ℕ)) (k : ℕ) → k < length gs → SameOutputs cs gs → results_in (slice_get cs k) ≡ outputs_in (slice_get gs k)
at cs [] k low h = absurd (omega (arith, low))
at [] (g ∷ gs) k low h = absurd h
at (c ∷ cs) (g ∷ gs) zero low h = h.0
at (c ∷ cs) (g ∷ gs) (suc k) low h = at cs gs k (omega (arith, low)) h.1

expanded_outputs : (fl : Flow) → fl.main < length fl.blocks → outputs_of (expanded fl).program ≡ flow_outputs fl
expanded_outputs fl low =
    let vars : List ℕ = variants_of fl.blocks in
    at (expanded fl).program.blocks fl.blocks fl.main low
    (variants (plain_codes no_codes fl.version fl.blocks vars 0 fl.blocks) fl.blocks fl.version fl.blocks vars 0 fl.blocks
    (plains no_codes [] fl.version fl.blocks vars 0 fl.blocks refl tt))

-- what is made of a block keeps them
kept : (f : CodeBlock → CodeBlock) → ((c : CodeBlock) → (f c).outputs ≡ c.outputs) → (cs : List CodeBlock) (k : ℕ)
    → results_in (slice_get (map f cs) k) ≡ results_in (slice_get cs k)
kept f same [] k = refl
kept f same (c ∷ cs) zero = same c
kept f same (c ∷ cs) (suc k) = kept f same cs k

pub plan_outputs : (g : Graph) → WellFormed g → outputs_of (plan_of g).program ≡ flow_outputs (flow_of g)
plan_outputs g well =
    let p : Plan = expanded (flow_of g) in
    let q : Plan = folded p in
    kept (narrowed_block q) (λ c. refl) q.program.blocks p.program.main ∙ kept (folded_block p) (λ c. refl) p.program.blocks p.program.main
    ∙ expanded_outputs (flow_of g) (main_there g well)

-- and so does emission
pub same_outputs : (v : ℕ) (ss : List (List ℕ)) (cs : List CodeBlock) (i : ℕ) → length ss ≡ length cs
    → results_in (slice_get (map (emitted_block v) (placed_blocks ss cs)) i) ≡ results_in (slice_get cs i)
same_outputs v [] [] i e = refl
same_outputs v [] (c ∷ cs) i e = cc
same_outputs v (s ∷ ss) [] i e = cc
same_outputs v (s ∷ ss) (c ∷ cs) zero e = refl
same_outputs v (s ∷ ss) (c ∷ cs) (suc i) e = same_outputs v ss cs i (omega (arith, e))
