use Rattle.std.proofs.Common.{refl, ◌∙◌}
use Rattle.semantics.specs.Versions.{version_number}
use Rattle.object_view.proofs.Passed.{into_room, passed}
use Rattle.object_view.proofs.Unique.{opened_as}
use Rattle.object_view.proofs.Views.{bytes_seen}
use Rattle.object_view.proofs.owned.OwnedObject.of.Goals as goal

pub invariant_of-result : goal.invariant_of-result
invariant_of-result g c =
    let made = into_room _ c.in-Ok.field-0 _ _ _ c.new-bytes.ensures.items c.in-Ok.ensures in
    passed (version_number c.args.version) c.args.code.now c.write.new.writer.items c.requires made

pub returns-in-Ok-clause-bytes : goal.returns-in-Ok-clause-bytes
returns-in-Ok-clause-bytes g c = bytes_seen c.write.new.writer.items _ refl ∙ into_room _ c.in-Ok.field-0 _ _ _ c.new-bytes.ensures.items c.in-Ok.ensures

pub returns-in-Ok-clause-version : goal.returns-in-Ok-clause-version
returns-in-Ok-clause-version g c =
    let made = into_room _ c.in-Ok.field-0 _ _ _ c.new-bytes.ensures.items c.in-Ok.ensures in
    (opened_as c.write.new.writer.items (version_number c.args.version) c.args.code.now _ refl (made, c.requires)).0

pub returns-in-Ok-clause-code : goal.returns-in-Ok-clause-code
returns-in-Ok-clause-code g c =
    let made = into_room _ c.in-Ok.field-0 _ _ _ c.new-bytes.ensures.items c.in-Ok.ensures in
    (opened_as c.write.new.writer.items (version_number c.args.version) c.args.code.now _ refl (made, c.requires)).1
