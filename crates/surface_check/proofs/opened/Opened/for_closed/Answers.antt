use Rattle.std.proofs.Common.{◌≡◌, ◌∙◌, ℕ, ◌+◌, ◌-◌, nat_le, Bool, Ok, length, ap, sym}
use Rattle.source.specs.declared.fault.FaultKind.TheVariants.{Arity, TooWide}
use Rattle.source_check.specs.Steps.{since}
use Rattle.surface.specs.First.{must_be}
use Rattle.surface.specs.Rules.{one_if}
use Rattle.surface_check.specs.declared.frame.Kind.TheVariants as kind
use Rattle.surface_check.specs.Machine.{items_in}
use Rattle.surface_check.specs.Steps.{Open, Plain, as_many, values_of, ended}
use Rattle.surface_check.proofs.OpenParts.{for_ends}
use Rattle.surface_check.proofs.opened.Opened.for_closed.Goals as goal

pub returns : goal.returns
returns g c =
    let others = c.saturating_sub-others.ensures in
    let last : c.self.inside.last.count ≡ c.args.self.now.last.count = ap (λ (o : Open ℕ). o.last.count) c.self.view_is in
    let many : must_be (as_many c.args.self.now.last.count (c.args.names - 1)) Arity c.args.at ≡ Ok c.in_ok-must_be.field-0 =
    (λ i. must_be (as_many (sym last i) (sym others i)) Arity c.args.at) ∙ ap (λ (b : Bool). must_be b Arity c.args.at) (sym c.as_many.ensures)
    ∙ sym c.must_be.ensures ∙ c.in_ok-must_be.was in
    let narrow : must_be (nat_le (c.args.names + c.len_since-outside.result + one_if c.end_is_carried-carried.result) 15) TooWide c.args.at ≡ Ok c.in_ok-must_be-2.field-0 =
    ap (λ (b : Bool). must_be b TooWide c.args.at) (sym c.is_narrow_with.ensures) ∙ sym c.must_be-2.ensures ∙ c.in_ok-must_be-2.was in
    let outside : c.len_since-outside.result ≡ length (since c.args.self.now.turn.start c.args.self.now.used) =
    c.len_since-outside.ensures ∙ ap (λ (o : Open ℕ). length (since o.turn.start o.used)) c.self.view_is in
    for_ends (items_in c.args.table.now) c.args.self.now c.args.at c.args.outer c.args.names c.args.mark c.end_is_carried-carried.result
    c.len_since-outside.result c.end_is_carried-carried.new.self c.end_left.new.self c.left_turn.new.self c.in_ok-must_be.field-0 c.in_ok-must_be-2.field-0
    many c.end_is_carried-carried.ensures.carried outside narrow c.end_is_carried-carried.ensures.left c.end_left.ensures c.in_ok-left_turn.ensures
    ∙ ap (λ (o : Open ℕ). Ok (Plain o)) (sym (c.ended.ensures ∙ ap (λ (n : ℕ). ended c.left_turn.new.self n c.args.at kind.Other)
    (c.values_of.ensures ∙ ap values_of others)))
