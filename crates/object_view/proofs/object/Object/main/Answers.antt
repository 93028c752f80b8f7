use Rattle.object_view.specs.Fields.{word_at}
use Rattle.object_view.proofs.Views.{main_seen}
use Rattle.std.proofs.Common.{sym, ◌∙◌}
use Rattle.object_view.proofs.object.Object.main.Goals as goal

pub returns : goal.returns
returns c =
    let t = c.self.inside.tables in
    let w = word_at t.bytes.now in
    t.main_parsed ∙ sym (main_seen t.bytes.now _ c.self.view_is)
