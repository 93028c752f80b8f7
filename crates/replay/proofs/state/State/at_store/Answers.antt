use Rattle.std.proofs.Common.{sym, subst, ap}
use Rattle.replay.specs.declared.cells.Cell.{Cell}
use Rattle.replay.specs.declared.moment.Deed.TheVariants as deed
use Rattle.replay.specs.Known.{kept}
use Rattle.replay.proofs.Serving.{Waits, stored, stored_as, stored_some}
use Rattle.replay.proofs.state.State.at_store.Goals.{in-Vacant, in-Deferred}
use Rattle.replay.proofs.state.State.at_store.Goals as goal

pub returns-then-readers-eq0-clause-does_as : goal.returns-then-readers-eq0-clause-does_as
returns-then-readers-eq0-clause-does_as g c p s n made holds near token happens =
    let waits : Waits (kept c.args.self.now.cells c.args.cell) c.match-cell.readers = elim c.match-cell.branch [
      | in-Vacant w ↦ subst (λ (k : Cell). Waits k c.match-cell.readers) w.in-Vacant.ensures w.readers-is
      | in-Deferred w ↦ subst (λ (k : Cell). Waits k c.match-cell.readers) w.in-Deferred.ensures w.readers-is
    ] in
    stored p c.args.self.now s holds near c.args.cell c.args.value c.args.cont c.match-cell.readers c.in-Some.made c.set.new.self deed.Stored made n
    token.word waits c.in_ok-set.ensures
    c.in-Some.ensures.1 (sym (ap stored_as c.if-readers-eq0.true)) happens

pub returns-else-readers-eq0-clause-does_as : goal.returns-else-readers-eq0-clause-does_as
returns-else-readers-eq0-clause-does_as g c p s n made holds near token happens =
    let waits : Waits (kept c.args.self.now.cells c.args.cell) c.match-cell.readers = elim c.match-cell.branch [
      | in-Vacant w ↦ subst (λ (k : Cell). Waits k c.match-cell.readers) w.in-Vacant.ensures w.readers-is
      | in-Deferred w ↦ subst (λ (k : Cell). Waits k c.match-cell.readers) w.in-Deferred.ensures w.readers-is
    ] in
    stored p c.args.self.now s holds near c.args.cell c.args.value c.args.cont c.match-cell.readers c.in-Some.made c.set.new.self deed.Served made n
    token.word waits c.in_ok-set.ensures
    c.in-Some.ensures.1 (stored_some c.match-cell.readers c.if-readers-eq0.false) happens
