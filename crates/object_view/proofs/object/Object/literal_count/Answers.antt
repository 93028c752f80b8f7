use Rattle.object_view.specs.Fields.{word_at}
use Rattle.object_view.specs.Reading.{literal_in}
use Rattle.object_view.proofs.Tabulated.{length_tabulated}
use Rattle.object_view.proofs.Views.{literals_seen}
use Rattle.std.proofs.Common.{length, sym, ap, ◌∙◌}
use Rattle.object_view.proofs.object.Object.literal_count.Goals as goal

pub returns : goal.returns
returns c =
    let t = c.self.inside.tables in
    let w = word_at t.bytes.now in
    t.literals_parsed ∙ sym (ap length (literals_seen t.bytes.now _ c.self.view_is) ∙ length_tabulated (literal_in w) 0 (w 3))
