use Rattle.std.proofs.Common.{ap, ◌∙◌}
use Rattle.frame_manager.specs.Flags.{out_flags}
use Rattle.frame_manager.proofs.Flagged.{flags_of_zeros}
use Rattle.frame_manager.proofs.frames.Frames.all_out.Goals as goal

pub returns : goal.returns
returns g c = ap (out_flags c.args.count) c.in_ok-words.ensures ∙ flags_of_zeros c.args.count _
