use Rattle.std.proofs.Common.{◌≡◌, take, drop}
use Rattle.graph_check.specs.Names.{names_of_blocks, IsIndexOf}
use Rattle.graph_check.specs.FirstFault.{first_in, block_name_fault}
use Rattle.graph_check.proofs.names.index_blocks.Given as goal

abbrev pub invariant-loop-i : goal.invariant-loop-i
invariant-loop-i g l = record {
  index : IsIndexOf l.index (take l.i (names_of_blocks l.blocks.items));
  before : first_in (block_name_fault (names_of_blocks l.blocks.items)) 0 (names_of_blocks l.blocks.items)
      ≡ first_in (block_name_fault (names_of_blocks l.blocks.items)) l.i (drop l.i (names_of_blocks l.blocks.items));
}
