use Rattle.std.proofs.Common.{sym, arith, ap, ◌∙◌, ◌-◌, ℕ, Option, Some, None, Bor, List, option_map}
use Rattle.command_line.specs.Words.{sizes_from}
use Rattle.command_line.specs.declared.sizes.Sizes.{Sizes}
use Rattle.command_line.proofs.Included.{no_number, no_room, one_number}
use Rattle.command_line.proofs.options.+sizes_from.Goals as goal

pub returns-then-room-eq0 : goal.returns-then-room-eq0
returns-then-room-eq0 t c = sym (ap (λ (r : ℕ). sizes_from c.args.sizes r c.args.list.now) (omega (arith, c.if-room-eq0.true))
    ∙ no_room c.args.sizes c.args.list.now)

pub returns-in-Some-Some : goal.returns-in-Some-Some
returns-in-Some-Some t c =
    c.sizes_from.ensures ∙ ap (λ (z : Sizes). sizes_from z (c.args.room - 1) c.in-Some-Some.more.now) c.with.ensures
    ∙ sym (one_number c.args.sizes c.args.room (c.args.room - 1) c.in-Some-Some.number c.parts_at.result.0.now c.args.list.now
    (Some c.in-Some-Some.more.now) (omega (arith, c.if-room-eq0.false))
    (sym (ap (λ (m : Option (Bor (List ℕ))). (c.parts_at.result.0.now, option_map (λ s. s.now) m)) c.in-Some-Some.is-1) ∙ c.parts_at.ensures)
    (sym c.in-Some-Some.is-0 ∙ c.number_of.ensures))

pub returns-in-Some-None : goal.returns-in-Some-None
returns-in-Some-None t c =
    ap Some c.with-in-Some-None.ensures
    ∙ sym (one_number c.args.sizes c.args.room (c.args.room - 1) c.in-Some-None.number c.parts_at.result.0.now c.args.list.now None
    (omega (arith, c.if-room-eq0.false))
    (sym (ap (λ (m : Option (Bor (List ℕ))). (c.parts_at.result.0.now, option_map (λ s. s.now) m)) c.in-Some-None.is-1) ∙ c.parts_at.ensures)
    (sym c.in-Some-None.is-0 ∙ c.number_of.ensures))

pub returns-in-None-default : goal.returns-in-None-default
returns-in-None-default t c =
    sym (no_number c.args.sizes c.args.room (c.args.room - 1) _ c.args.list.now _ (omega (arith, c.if-room-eq0.false)) c.parts_at.ensures
    (sym c.in-None-default.is-0 ∙ c.number_of.ensures))
