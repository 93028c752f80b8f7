-- What each instruction of an object belongs to: the passes move instructions, leave out literals, and add copies, each of which belongs
-- to what the instruction belongs to whose destinations it leads to. Slots and the selection of code move nothing.
use Rattle.std.specs.Prelude.{ℕ, false, List, [], ◌∷◌, ◌++◌, replicate, slice_get, slice_index_or, Option}
use Rattle.semantics.specs.Graph.{Flow}
use Rattle.semantics.specs.Program.{Instr, CodeBlock}
use Rattle.semantics.specs.Plan.{Plan}
use Rattle.schemas.specs.Expanded.{expanded}
use Rattle.folding.specs.Places as FoldedPlaces
use Rattle.folding.specs.Folded.{folded, remaining_from}
use Rattle.fanout.specs.Places.{size}
use Rattle.fanout.specs.Narrowed.{layout_of, parts_of, spread_of}
use Rattle.code_map.specs.declared.part.Part.{Part}
use Rattle.code_map.specs.declared.owner.Owner.{Owner}
use Rattle.code_map.specs.Owners.{owner, expanded_owners}

abbrev pub owner_at : List Owner → ℕ → Owner
owner_at os n = slice_index_or os n (owner 0 false Part.Continuation)

-- FOLDING: what is left has its owner
abbrev pub folded_owners : Plan → List Owner → CodeBlock → List Owner
folded_owners p os c = remaining_from (FoldedPlaces.layout_of p c) (λ (n : ℕ) (i : Instr). owner_at os n) 0 c.instrs

-- NARROWING: each instruction has its owner, and so have its copies
abbrev pub copied : List Owner → ℕ → Instr → List Owner
copied os n i = replicate (size i) (owner_at os n)

abbrev pub narrowed_owners : Plan → List Owner → CodeBlock → List Owner
narrowed_owners p os c = spread_of (layout_of p c).tied (λ (n : ℕ) (i : Instr). owner_at os n) (copied os) 0 [] (parts_of c)

-- of all blocks
abbrev pub all_folded : Plan → List (List Owner) → List CodeBlock → List (List Owner)
all_folded p oss [] = []
all_folded p [] (c ∷ cs) = folded_owners p [] c ∷ all_folded p [] cs
all_folded p (os ∷ oss) (c ∷ cs) = folded_owners p os c ∷ all_folded p oss cs

abbrev pub all_narrowed : Plan → List (List Owner) → List CodeBlock → List (List Owner)
all_narrowed p oss [] = []
all_narrowed p [] (c ∷ cs) = narrowed_owners p [] c ∷ all_narrowed p [] cs
all_narrowed p (os ∷ oss) (c ∷ cs) = narrowed_owners p os c ∷ all_narrowed p oss cs

-- THE OBJECT, block by block: the n-th list has the owners of the n-th code block's instructions, in order
abbrev pub wide_folded : Plan → List (List Owner) → List (List Owner)
wide_folded p oss = all_folded p oss p.program.blocks

abbrev pub folded_narrowed : Plan → List (List Owner) → List (List Owner)
folded_narrowed p oss = all_narrowed p oss p.program.blocks

abbrev pub carried : Plan → List (List Owner) → List (List Owner)
carried p oss = folded_narrowed (folded p) (wide_folded p oss)

abbrev pub block_owners : Flow → List (List Owner)
block_owners fl = carried (expanded fl) (expanded_owners fl)

-- as instructions are numbered through all blocks
abbrev pub joined : List (List Owner) → List Owner
joined [] = []
joined (os ∷ oss) = os ++ joined oss

abbrev pub owners_of : Flow → List Owner
owners_of fl = joined (block_owners fl)

-- the owner of the instruction of that number, if there is one
abbrev pub owner_of : Flow → ℕ → Option Owner
owner_of fl ip = slice_get (owners_of fl) ip
