use Rattle.std.proofs.Common.{◌≡◌, ◌*◌, Ok, Err, sym, refl, rules, subst}
use Rattle.semantics.specs.Machine.{Events}
use Rattle.replay.specs.DoesAs.{IsReplay}
use Rattle.driver.proofs.ObjectRuns.{object_of, opened_of}
use Rattle.driver.proofs.Watched.{is_a_run, seen}
use Rattle.driver.proofs.watching.moments_of.Goals as goal

pub returns-in-Ok : goal.returns-in-Ok
returns-in-Ok g c =
    let o = c.args.code.now in
    let b = c.bytes-bytes.ensures in
    let events : c.deref.result.now ≡ c.args.report.now.events = search rules in
    seen o.bytes c.args.inputs.now c.args.config c.requires.0 c.args.report.now o (opened_of c.bytes-bytes.result.now c.object.result.now o b.same
    c.object.ensures b.opened)
    (object_of c.bytes-bytes.result.now c.object.result.now o b.same c.object.ensures b.object) c.requires.1
    (c.args.config.elements * c.args.config.frames) c.inputs-count.result c.in-Ok.moments.items refl (sym c.inputs-count.ensures.exact)
    (subst (λ (l : Events). IsReplay o.code.program (c.args.config.elements * c.args.config.frames) c.inputs-count.result l
    (Ok c.in-Ok.moments.items)) events c.in-Ok.ensures)

pub unreachable-requires : goal.unreachable-requires
unreachable-requires g c =
    let o = c.args.code.now in
    let b = c.bytes-bytes.ensures in
    let events : c.deref.result.now ≡ c.args.report.now.events = search rules in
    is_a_run o.bytes c.args.inputs.now c.args.config c.requires.0 c.args.report.now o (opened_of c.bytes-bytes.result.now c.object.result.now o b.same
    c.object.ensures b.opened)
    (object_of c.bytes-bytes.result.now c.object.result.now o b.same c.object.ensures b.object) c.requires.1
    (c.args.config.elements * c.args.config.frames) c.inputs-count.result c.in-Err-NotARun.field-0 refl (sym c.inputs-count.ensures.exact) (search rules)
    (subst (λ (l : Events). IsReplay o.code.program (c.args.config.elements * c.args.config.frames) c.inputs-count.result l
    (Err c.in-Err-NotARun.field-0)) events c.in-Err-NotARun.ensures)
