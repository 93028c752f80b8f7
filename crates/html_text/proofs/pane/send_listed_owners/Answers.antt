use Rattle.std.proofs.Common.{refl, get_or, false}
use Rattle.std.proofs.lemmas.Result.{err_from_is_err_and}
use Rattle.std.proofs.lemmas.Option.{slice_get-get_or}
use Rattle.code_map.specs.declared.part.Part.{Part}
use Rattle.html_text.specs.PaneText.{owner_text}
use Rattle.sink.proofs.Sent.{sends_from, sends_other}
use Rattle.sink.proofs.Numbered.{more, stop, done}
use Rattle.html_text.proofs.pane.send_listed_owners.Goals as goal

pub returns-in_err-send_owner : goal.returns-in_err-send_owner
returns-in_err-send_owner g c =
    let p = err_from_is_err_and c.from_residual.result c.from_residual.ensures.1 in
    let l = c.loop-place in
    rw p.1 (stop owner_text l.place c.args.owners.now (get_or c.args.owners.now l.place (record { block = 0; turns = false; part = Part.Continuation })) p.0 _ _ _
    (slice_get-get_or c.args.owners.now l.place (record { block = 0; turns = false; part = Part.Continuation }) c.loop-place-test.true) l.invariant
    (sends_other c.in_err-send_owner.field-0.0 p.0 _ _ _ c.in_err-send_owner.ensures))

pub loop-place-preserved : goal.loop-place-preserved
loop-place-preserved g c =
    let l = c.loop-place in
    more owner_text l.place c.args.owners.now (get_or c.args.owners.now l.place (record { block = 0; turns = false; part = Part.Continuation })) _ _ _
    (slice_get-get_or c.args.owners.now l.place (record { block = 0; turns = false; part = Part.Continuation }) c.loop-place-test.true) l.invariant
    (sends_from _ _ _ _ c.in_ok-send_owner.was c.send_owner.ensures)

pub returns : goal.returns
returns g c =
    let l = c.loop-place in
    done owner_text l.place c.args.owners.now _ tt _ _ refl c.loop-place-test.false l.invariant
