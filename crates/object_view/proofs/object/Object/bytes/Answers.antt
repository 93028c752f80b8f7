use Rattle.std.proofs.Common.{sym}
use Rattle.object_view.proofs.Views.{bytes_seen}
use Rattle.object_view.proofs.Sound.{opened_spelt}
use Rattle.object_view.proofs.Lawful.{opened_lawful}
use Rattle.object_view.proofs.Facts.{none_refused}
use Rattle.object_view.proofs.Unique.{opened_as}
use Rattle.object_view.proofs.object.Object.bytes.Goals as goal

pub returns-clause-same : goal.returns-clause-same
returns-clause-same c = sym (bytes_seen c.self.inside.tables.bytes.now _ c.self.view_is)

pub returns-clause-object : goal.returns-clause-object
returns-clause-object c =
    let b = c.self.inside.tables.bytes.now in
    (opened_spelt b _ c.self.invariant.1 c.self.invariant.0 c.self.view_is, opened_lawful b _ c.self.invariant.1 c.self.invariant.0 c.self.view_is)

pub returns-clause-opened : goal.returns-clause-opened
returns-clause-opened c = sym c.self.view_is

pub returns-clause-unrefused : goal.returns-clause-unrefused
returns-clause-unrefused c = none_refused c.self.inside.tables.bytes.now c.self.invariant.0

pub returns-clause-only : goal.returns-clause-only
returns-clause-only c = λ version d is. opened_as c.self.inside.tables.bytes.now version d _ c.self.view_is is
