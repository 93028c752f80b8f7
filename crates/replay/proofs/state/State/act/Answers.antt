use Rattle.std.proofs.Common.{Ok}
use Rattle.tags.specs.declared.token.To.{To}
use Rattle.tags.specs.declared.token.Word.{Word}
use Rattle.semantics.specs.Machine.{outputs_of}
use Rattle.replay.specs.declared.moment.Deed.TheVariants as deed
use Rattle.replay.proofs.Serving.{follows_same, arrived}
use Rattle.replay.proofs.state.State.act.Goals as goal

pub returns-in-Fetch-Back-clause-does_as : goal.returns-in-Fetch-Back-clause-does_as
returns-in-Fetch-Back-clause-does_as g c =
    let p = g.C.Instructions.program c.args.code.now in
    follows_same p c.args.self.now c.at_fetch.new.self c.at_fetch.result c.args.token (To.Fetch c.in-Fetch-Back.cell)
    (Word.Back c.in-Fetch-Back.cont) c.in-Fetch-Back.is-0 c.in-Fetch-Back.is-1 (c.at_fetch.ensures.does_as p)

pub returns-in-Store-Back-clause-does_as : goal.returns-in-Store-Back-clause-does_as
returns-in-Store-Back-clause-does_as g c =
    let p = g.C.Instructions.program c.args.code.now in
    follows_same p c.args.self.now c.at_store.new.self c.at_store.result c.args.token (To.Store c.in-Store-Back.cell c.in-Store-Back.value)
    (Word.Back c.in-Store-Back.cont) c.in-Store-Back.is-0 c.in-Store-Back.is-1 (c.at_store.ensures.does_as p)

pub returns-in-Manager-Back-clause-does_as : goal.returns-in-Manager-Back-clause-does_as
returns-in-Manager-Back-clause-does_as g c =
    let p = g.C.Instructions.program c.args.code.now in
    follows_same p c.args.self.now c.at_manager.new.self c.at_manager.result c.args.token To.Manager
    (Word.Back c.in-Manager-Back.cont) c.in-Manager-Back.is-0 c.in-Manager-Back.is-1 (c.at_manager.ensures.does_as p)

pub returns-in-Release-default-clause-does_as : goal.returns-in-Release-default-clause-does_as
returns-in-Release-default-clause-does_as g c =
    let p = g.C.Instructions.program c.args.code.now in
    follows_same p c.args.self.now c.at_release.new.self c.at_release.result c.args.token
    (To.Release c.in-Release-default.frame) c.args.token.word c.in-Release-default.is-0 (λ i. c.args.token.word) (c.at_release.ensures.does_as p)

pub returns-in-Host-default-clause-does_as : goal.returns-in-Host-default-clause-does_as
returns-in-Host-default-clause-does_as g c =
    let p = g.C.Instructions.program c.args.code.now in
    follows_same p c.args.self.now c.args.self.now (Ok record { deed = deed.Arrived; made = 0 }) c.args.token
    (To.Host c.in-Host-default.port-0) c.args.token.word c.in-Host-default.is-0 (λ i. c.args.token.word)
    (λ s n made holds near token happens. arrived p c.args.self.now s holds near (outputs_of p) c.in-Host-default.port-0 c.args.token.word made n happens)
