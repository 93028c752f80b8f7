use Rattle.std.proofs.Common.{sym, ◌∙◌}
use Rattle.object_view.proofs.Views.{bytes_seen}
use Rattle.object_view.proofs.owned.OwnedObject.bytes.Goals as goal

pub returns : goal.returns
returns g c = c.deref.ensures.value ∙ sym (bytes_seen c.self.inside.bytes.items _ c.self.view_is)
