use Rattle.std.proofs.Common.{sym, subst, List, get_or}
use Rattle.std.specs.Prelude.{All}
use Rattle.tags.specs.declared.token.Token.{Token}
use Rattle.element.specs.Near.{Bounds, IsNearToken}
use Rattle.element.specs.Holding.{Fixed, fixed_of, IsFor}
use Rattle.schedule.specs.State.{setting_in}
use Rattle.schedule.specs.Setting.{Setting}
use Rattle.schedule.proofs.Staying.{bounds_as}
use Rattle.machine.specs.Bundles.{bounds_within}
use Rattle.machine.proofs.taking.receive_or_hold.Goals as goal

pub receive_all-requires : goal.receive_all-requires
receive_all-requires g c =
    let s : Setting = setting_in g.C.Instructions.program g.C.Instructions.width c.args.shape.now in
    let f : Fixed = fixed_of c.args.runner.now.lane in
    let tokens : List Token = c.args.bundle.tokens in
    let some = c.in-Some.ensures.some in
    let near = subst (λ (b : Bounds). All (IsNearToken b) tokens) c.of.ensures
    (subst (λ (l : List Token). All (IsNearToken (bounds_within c.of.result)) l) some.0 some.1) in
    subst (λ (l : List Token). All (IsFor f) l) (sym some.0)
    (λ k d low. record {
      near = subst (λ (b : Bounds). IsNearToken b (get_or tokens k d)) (sym (bounds_as s f c.requires.runs)) (near k d low);
      addressed = c.requires.addressed k d low;
    })
