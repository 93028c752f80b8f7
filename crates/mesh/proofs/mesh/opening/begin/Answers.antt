use Rattle.std.proofs.Common.{rules, ◌≡◌, List, length, ℕ, sym, refl, subst, set, replicate, None}
use Rattle.tags.specs.declared.token.Token.{Token}
use Rattle.atomic_table.specs.Table.{opening}
use Rattle.mesh.specs.Rule.{Preserved, first_view}
use Rattle.mesh.proofs.SeatSteps.{opens}
use Rattle.mesh.proofs.mesh.opening.begin.Goals as goal

pub vacant-requires : goal.vacant-requires
vacant-requires g c =
    let tokens : c.extend_from_slice.new.self.items ≡ c.args.start.now = search rules in
    subst (λ (z : List Token). Preserved g.B.Bundle.tokens c.args.elements z
    (opening (set (replicate {A = ℕ} 258 0) 256 (length c.args.start.now)) (replicate 256 None) (first_view c.args.elements z))) (sym tokens)
    (opens g.B.Bundle.tokens c.args.elements c.args.start.now 258 256 refl refl c.requires.elements.0 c.requires.elements.1
    c.requires.start)
