use Rattle.std.proofs.Common.{◌++◌, IfErr, subst}
use Rattle.replay.specs.declared.extent.Extent.{Extent}
use Rattle.replay.specs.Entering.{Says, HasNoRun}
use Rattle.replay.proofs.books.keep_books.Goals as goal

pub returns-clause-unfit : goal.returns-clause-unfit
returns-clause-unfit g c =
    subst (λ (x : Extent). IfErr c.keep_in.result (λ fault. Says fault (HasNoRun (g.C.Instructions.program c.args.code.now) x c.args.inputs.now
    (c.args.earlier.now ++ c.args.events.now)))) c.in_ok-ledger.ensures.1 c.keep_in.ensures.unfit
