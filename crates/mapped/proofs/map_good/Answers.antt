use Rattle.std.proofs.Common.{◌≡◌, subst}
use Rattle.std.specs.Prelude.{MatchResult}
use Rattle.semantics.specs.Graph.{Graph, flow_of}
use Rattle.code_map.specs.Carried.{owners_of}
use Rattle.driver.specs.Compiled.{IsObjectOf, IsTooLarge}
use Rattle.mapped.specs.declared.Mapped.{Mapped}
use Rattle.mapped.proofs.map_good.Goals as goal

pub returns : goal.returns
returns g c = λ well.
    subst (λ (h : Graph). MatchResult c.map_checked.result
    (λ (m : Mapped g.row.A.Denot). (m.checked ≡ h) × IsObjectOf h m.object.bytes × (m.owners.items ≡ owners_of (flow_of h))) (IsTooLarge h))
    (c.in_ok-checked.ensures well).0 c.map_checked.ensures
