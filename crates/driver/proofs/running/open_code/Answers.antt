use Rattle.std.proofs.Common.{◌∙◌, ap}
use Rattle.object_view.specs.Reading.{Opened}
use Rattle.driver.proofs.OpenedObjects.{is_opened, same_bytes}
use Rattle.driver.proofs.running.open_code.Goals as goal

pub returns-clause-opened : goal.returns-clause-opened
returns-clause-opened g c =
    let o = c.in_ok-object.object in
    let e = c.in_ok-object.ensures in
    (c.in_ok-code.ensures ∙ e.opened, is_opened c.args.bytes.now o e.opened e.refused e.object e.complete)

pub returns-clause-bytes : goal.returns-clause-bytes
returns-clause-bytes g c = ap (λ (x : Opened). x.bytes) (c.in_ok-code.ensures ∙ c.in_ok-object.ensures.opened) ∙ same_bytes c.args.bytes.now
