use Rattle.test_meshes.specs.Playing.{IsPlaying}
use Rattle.test_meshes.proofs.player.Player.run_to_stop.Given as goal

abbrev pub invariant-rounds : goal.invariant-rounds
invariant-rounds g l = IsPlaying l.mesh l.self
