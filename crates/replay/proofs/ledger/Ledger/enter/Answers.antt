use Rattle.std.proofs.Common.{◌≡◌, ◌∙◌, refl, sym, ap, subst, ℕ, ◌<◌, ◌++◌, List, length, map, set, Option, Some, None}
use Rattle.std.specs.Prelude.{All, IfSome}
use Rattle.std.proofs.lemmas.Result.{err_from_is_err_and}
use Rattle.std.proofs.lemmas.Option.{slice_get_within}
use Rattle.tags.specs.Addresses.{element_of}
use Rattle.tags.specs.declared.token.Token.{Token}
use Rattle.semantics.specs.Program.{Program}
use Rattle.semantics.specs.Machine.{outputs_of}
use Rattle.element.specs.Holding.{LaneView, Fixed, IsFor, fixed_of}
use Rattle.replay.specs.declared.extent.Extent.{Extent}
use Rattle.replay.specs.Entering.{StateIs, Took, place_used, state_at, deed_by, change_by}
use Rattle.replay.specs.Entering.{IsThere, IsExcluded, IsUnfit, on_way}
use Rattle.replay.proofs.Entering.{enters}
use Rattle.replay.proofs.Places.{one_of_all, all_after}
use Rattle.replay.proofs.Fitting.{place_there, token_there, never_there, excluded_unfit, passed_on}
use Rattle.replay.proofs.ledger.Ledger.enter.Goals as goal

pub returns-clause-entered : goal.returns-clause-entered
returns-clause-entered g c z b elements frames records =
    let p = g.C.Instructions.program c.args.code.now in
    let ev = c.args.event.now in
    let t : Token = ev.1 in
    let x : Extent = c.args.self.now.extent in
    let l = c.args.self.now.lane in
    let k = c.replace.new.self.lane in
    let ps : List (Option Token) = c.args.self.now.places.items in
    let number : ℕ = c.in-Some.number in
    let u = c.state_at-before.result in
    let v = c.state_at-after.result in
    let made : List Token = c.in_ok-made.made.items in
    let used : c.place_used-used.result ≡ place_used p t.to = c.place_used-used.ensures.exact in
    let before : StateIs l (place_used p t.to) u = λ s part. c.state_at-before.ensures s part ∙ ap (state_at s) used in
    let after : StateIs k (place_used p t.to) v = subst (λ (w : LaneView). StateIs w (place_used p t.to) v) (sym c.replace.ensures.lane)
    (λ s part. c.state_at-after.ensures s part ∙ ap (state_at s) used) in
    let took : Took p l t made k = subst (λ (w : LaneView). Took p l t made w) (sym c.replace.ensures.lane)
    (subst (λ (q : Program). Took q l t made c.fire.new.self.lane) c.requires.whole.program c.in_ok-made.ensures.did) in
    let places : c.replace.new.self.places.items ≡ set ps number None ++ map Some made = c.in_ok-replace.ensures.places
    ∙ ap (λ y. set y.items number None ++ map Some c.deref.result.now) c.fire.ensures.places
    ∙ ap (λ (ts : List Token). set ps number None ++ map Some ts) c.deref.ensures.value in
    let outputs : c.replace.new.self.extent.outputs ≡ outputs_of p = ap (λ (y : Extent). y.outputs) (c.replace.ensures.extent ∙ c.fire.ensures.extent)
    ∙ c.requires.extent.outputs in
    let count : c.len.result ≡ length made = c.len.ensures ∙ c.in_ok-made.made.ok.0 in
    enters p x l k c.requires.whole z ev.0 number t b ps c.replace.new.self.places.items frames
    (ap (λ (i : ℕ). element_of i t.to) elements ∙ sym c.element.ensures ∙ c.if-element-event.false)
    records c.in-Some.ensures.there made took places
    u v (record { number = number; deed = c.deed_by-deed.result; change = c.change_by-change.result; made = made })
    before after refl refl
    (c.deed_by-deed.ensures ∙ ap (λ (i : ℕ). deed_by t.to u v i) count)
    (c.change_by-change.ensures ∙ ap (λ (i : ℕ). change_by i t.to t.word c.place_used-used.result v c.deref-2.result.now) outputs
    ∙ ap (λ y. change_by (outputs_of p) t.to t.word y v c.deref-2.result.now) used
    ∙ ap (λ (ts : List Token). change_by (outputs_of p) t.to t.word (place_used p t.to) v ts) c.deref-2.ensures.value)

pub returns-in_default-clause-unfit : goal.returns-in_default-clause-unfit
returns-in_default-clause-unfit g c z b elements frames records m ev =
    let t : Token = c.args.event.now.1 in
    let ps = c.args.self.now.places.items in
    never_there ps t c.number_of.result c.in_default.is c.number_of.ensures.none
    (token_there (g.C.Instructions.program c.args.code.now) z c.args.event.now.0 t c.args.self.now.lane ps b m records ev)

pub state_at-before-requires-clause-there : goal.state_at-before-requires-clause-there
state_at-before-requires-clause-there g c =
    let t : Token = c.args.event.now.1 in
    let l = c.args.self.now.lane in
    place_there (g.C.Instructions.program c.args.code.now) c.args.self.now.extent (g.C.Instructions.width c.args.code.now) l t c.place_used-used.result
    c.requires.whole c.requires.extent
    (one_of_all (IsFor (fixed_of l)) c.args.self.now.places.items c.in-Some.number t c.in-Some.ensures.there c.requires.ready.near)
    c.place_used-used.ensures.exact c.place_used-used.ensures.short

pub state_at-after-requires-clause-there : goal.state_at-after-requires-clause-there
state_at-after-requires-clause-there g c =
    let t : Token = c.args.event.now.1 in
    let l = c.args.self.now.lane in
    subst (λ (x : Extent). IfSome c.place_used-used.result (IsThere x)) (sym c.fire.ensures.extent)
    (place_there (g.C.Instructions.program c.args.code.now) c.args.self.now.extent (g.C.Instructions.width c.args.code.now) l t c.place_used-used.result
    c.requires.whole c.requires.extent
    (one_of_all (IsFor (fixed_of l)) c.args.self.now.places.items c.in-Some.number t c.in-Some.ensures.there c.requires.ready.near)
    c.place_used-used.ensures.exact c.place_used-used.ensures.short)

pub fire-requires-clause-near : goal.fire-requires-clause-near
fire-requires-clause-near g c =
    one_of_all (IsFor (fixed_of c.args.self.now.lane)) c.args.self.now.places.items c.in-Some.number c.args.event.now.1 c.in-Some.ensures.there
    c.requires.ready.near

pub replace-requires : goal.replace-requires
replace-requires g c =
    subst (λ v. c.in-Some.number < length v.items) (sym c.fire.ensures.places)
    (slice_get_within c.args.self.now.places.items c.in-Some.number (Some c.args.event.now.1) c.in-Some.ensures.there)

pub returns-clause-ready : goal.returns-clause-ready
returns-clause-ready g c =
    let t : Token = c.args.event.now.1 in
    let l = c.args.self.now.lane in
    let ps : List (Option Token) = c.args.self.now.places.items in
    let number : ℕ = c.in-Some.number in
    let made : List Token = c.in_ok-made.made.items in
    let places : c.replace.new.self.places.items ≡ set ps number None ++ map Some made = c.in_ok-replace.ensures.places
    ∙ ap (λ y. set y.items number None ++ map Some c.deref.result.now) c.fire.ensures.places
    ∙ ap (λ (ts : List Token). set ps number None ++ map Some ts) c.deref.ensures.value in
    let fixed : fixed_of l ≡ fixed_of c.replace.new.self.lane = sym (ap fixed_of c.replace.ensures.lane ∙ c.fire.ensures.fixed) in
    record {
      idle = ap (λ (v : LaneView). v.held.queue) c.replace.ensures.lane ∙ ap (λ h. h.queue) c.in_ok-made.ensures.did.after;
      near = subst (λ (f : Fixed). All (IsFor f) (on_way c.replace.new.self.places.items)) fixed
          (all_after ps c.replace.new.self.places.items number t made c.in-Some.ensures.there places (IsFor (fixed_of l)) c.requires.ready.near
          c.in_ok-made.ensures.near);
    }

pub returns-in_err-made-clause-unfit : goal.returns-in_err-made-clause-unfit
returns-in_err-made-clause-unfit g c =
    let p = g.C.Instructions.program c.args.code.now in
    let t : Token = c.args.event.now.1 in
    let l = c.args.self.now.lane in
    let ev = c.args.event.now in
    let from = err_from_is_err_and c.from_residual.result c.from_residual.ensures.1 in
    passed_on (IsExcluded l t) (IsUnfit p c.args.self.now ev) c.from_residual.result from.0 c.in_err-made.field-0.0 from.1 from.2
    (λ excluded z b elements frames records m e.
    excluded_unfit p z ev.0 t l c.args.self.now.places.items b m c.requires.whole.program excluded records e)
    c.in_err-made.ensures.excluded
