use Rattle.lowering.proofs.Lowers.{machine_lowers, blocks_are_made, blocks_of_graph}
use Rattle.lowering.proofs.ResultsGathered.{results_are_gathered, arrays_are_gathered}
use Rattle.lowering.proofs.words_are_lowered.Goals as goal

pub returns : goal.returns
returns c = record { machine = machine_lowers; made = blocks_are_made; graph = blocks_of_graph; results = results_are_gathered; arrays = arrays_are_gathered }
