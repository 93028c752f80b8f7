use Rattle.std.proofs.Common.{◌≡◌, ◌++◌, drop, map}
use Rattle.code_map.specs.Numbered as Numbered
use Rattle.code_map.proofs.carried.joined.Given as goal

abbrev pub invariant-loop-code : goal.invariant-loop-code
invariant-loop-code g l =
    l.map.items ++ Numbered.picked_blocks (map (λ os. os.items) l.owners) l.folded l.narrowed l.code (drop l.code l.folded.program.blocks)
    ≡ Numbered.joined (map (λ os. os.items) l.owners) l.folded l.narrowed
