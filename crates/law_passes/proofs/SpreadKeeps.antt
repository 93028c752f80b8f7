-- A plan that is another one with copies inserted keeps what passes must keep.
use Rattle.law_passes.specs.Spreads.{SpreadPlansKeep}
use Rattle.law_passes.proofs.SpreadSimulates.{spread_simulates}
use Rattle.law_simulation.proofs.SimulationKeeps.{simulation_keeps}

pub spread_plans_keep : SpreadPlansKeep
spread_plans_keep p q S wired orderly lands = simulation_keeps p q (spread_simulates p q S) wired orderly lands
