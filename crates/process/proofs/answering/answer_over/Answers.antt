use Rattle.std.proofs.Common.{subst}
use Rattle.std.specs.Prelude.{ℕ, Option, MatchResult}
use Rattle.command_line.specs.declared.RunOptions.{RunOptions}
use Rattle.commands.specs.Served.{Refuses}
use Rattle.process.specs.Files.{PrintsAsked}
use Rattle.process.proofs.answering.answer_over.Goals as goal

pub returns-in-Some : goal.returns-in-Some
returns-in-Some g c =
    let old = g.W.Write.contents c.args.writer.now in
    let new = g.W.Write.contents c.answer_page.new.writer in
    subst (λ (a : Option (RunOptions × Option ℕ)). MatchResult c.args.input.now
    (λ v. PrintsAsked a c.args.bytes.now v.items c.args.request.now c.answer_page.result old new) (Refuses c.answer_page.result old new))
    c.in-Some.ensures c.answer_page.ensures

pub returns-in-None : goal.returns-in-None
returns-in-None g c =
    let old = g.W.Write.contents c.args.writer.now in
    let new = g.W.Write.contents c.answer_input.new.writer in
    subst (λ (a : Option (RunOptions × Option ℕ)). MatchResult c.args.input.now
    (λ v. PrintsAsked a c.args.bytes.now v.items c.args.request.now c.answer_input.result old new) (Refuses c.answer_input.result old new))
    c.in-None.ensures c.answer_input.ensures
