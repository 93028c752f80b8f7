use Rattle.semantics.specs.Versions.{version_number}
use Rattle.object_view.specs.Fields.{word_at}
use Rattle.object_view.proofs.Views.{version_seen}
use Rattle.std.proofs.Common.{sym, ap, ◌∙◌}
use Rattle.object_view.proofs.object.Object.version.Goals as goal

pub returns : goal.returns
returns c =
    let t = c.self.inside.tables in
    let w = word_at t.bytes.now in
    ap version_number t.version_parsed ∙ sym (version_seen t.bytes.now _ c.self.view_is)
