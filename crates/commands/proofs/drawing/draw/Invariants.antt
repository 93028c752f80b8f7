use Rattle.std.proofs.Common.{◌≡◌, ◌-◌, ◌++◌, ◌<◌, ℕ, All}
use Rattle.commands.specs.Ordered.{number_after, picks_from}
use Rattle.commands.proofs.drawing.draw.Given as goal

abbrev pub invariant-loop-drawn : goal.invariant-loop-drawn
invariant-loop-drawn g l = record {
  drawn : l.picks.items ++ picks_from l.elements (l.count - l._drawn) l.number ≡ picks_from l.elements l.count l.first;
  below : All (λ (pick : ℕ × ℕ). pick.0 < l.elements) l.picks.items;
  next : number_after (l.count - l._drawn) l.number ≡ number_after l.count l.first;
}
