-- Neither slots nor the form of an object change how many instructions a block has.
use Rattle.std.proofs.Common.{◌≡◌, refl, ap, ◌∙◌, ℕ, max, List, [], ◌∷◌, length, arith}
use Rattle.std.proofs.lemmas.List.{length-map}
use Rattle.semantics.specs.declared.version.Version.{Version}
use Rattle.semantics.specs.Versions.{version_number}
use Rattle.semantics.specs.Program.{CodeBlock}
use Rattle.semantics.specs.Faithful.{largest}
use Rattle.semantics.specs.Sharing.{placed_instrs}
use Rattle.semantics.specs.Placed.{placed_blocks}
use Rattle.semantics.specs.Plan.{Plan}
use Rattle.select.specs.Emitted.{emitted, emitted_blocks, emitted_instrs, code_of}

largest_blocks : (version : ℕ) (slots : List (List ℕ)) (cs : List CodeBlock) → length slots ≡ length cs
    → largest (emitted_blocks version (placed_blocks slots cs)) ≡ largest cs
largest_blocks version [] [] long = refl
largest_blocks version [] (c ∷ cs) long = absurd (omega (arith, long))
largest_blocks version (ss ∷ more) [] long = absurd (omega (arith, long))
largest_blocks version (ss ∷ more) (c ∷ cs) long =
    let own : length (emitted_instrs version (placed_instrs ss c.instrs)) ≡ length c.instrs =
    length-map (placed_instrs ss c.instrs) (emitted version) ∙ length-map c.instrs _ in
    ap (λ (n : ℕ). max n (largest (emitted_blocks version (placed_blocks more cs)))) own
    ∙ ap (max (length c.instrs)) (largest_blocks version more cs (omega (arith, long)))

pub same_largest : (p : Plan) (slots : List (List ℕ)) (version : Version) → length slots ≡ length p.program.blocks
    → largest (code_of version p slots).blocks ≡ largest p.program.blocks
same_largest p slots version long = largest_blocks (version_number version) slots p.program.blocks long
