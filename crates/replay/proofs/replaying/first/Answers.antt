use Rattle.std.proofs.Common.{◌∙◌, refl, sym, ap, ◌+◌, ℕ}
use Rattle.replay.proofs.Watching.{stands_first}
use Rattle.replay.proofs.replaying.first.Goals as goal

pub returns : goal.returns
returns g c = (
  c.from-2.ensures,
  λ p xs count. stands_first p _ c.args.frames xs c.requires c.from-2.ensures c.new.ensures.empty c.new.ensures.none c.new-2.ensures
      (ap (λ (k : ℕ). k + 1) (c.from.ensures ∙ sym count)) refl refl,
)
