use Rattle.std.proofs.Common.{ap₂}
use Rattle.std.specs.Prelude.{codes}
use Rattle.profile_text.specs.Picture.{decimals_text}
use Rattle.sink.proofs.Sent.{sends_same}
use Rattle.profile_text.proofs.picture.send_ratio.Goals as goal

pub returns : goal.returns
returns g c =
    sends_same c.send_decimals.result _ _ _ _ (ap₂ (λ m n. decimals_text (codes ", parallelism ") m n (codes "</text>\n"))
    c.parallelism_of-parallelism.ensures.whole c.parallelism_of-parallelism.ensures.hundredths) c.send_decimals.ensures
