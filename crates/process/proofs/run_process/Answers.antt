use Rattle.std.proofs.Common.{map, drop}
use Rattle.hints.specs.Hints.{wants_hint}
use Rattle.process.specs.Hinted.{accounts_by_hint}
use Rattle.process.specs.Process.{Ends, IsWanted}
use Rattle.process.proofs.Wanted.{is_wanted, ok_of}
use Rattle.process.proofs.run_process.Goals as goal

pub returns-clause-wants : goal.returns-clause-wants
returns-clause-wants g c =
    let words = map g.S.AsStr.text (drop 1 c.args.words.now) in
    let remaining = g.I.Read.remaining in
    let contents = g.W.Write.contents in
    let silent = g.E.Write.contents c.args.errors.now in
    let spoken = g.E.Write.contents c.run_explained.new.errors in
    ok_of c.run_explained.result
    (λ e. Ends accounts_by_hint words (remaining c.args.reader) (remaining e.reader) (contents c.args.writer) (contents e.writer) silent spoken
    e.outcome e.status e.hint_sent) _
    (λ e. IsWanted (wants_hint e.outcome) e.hint_sent)
    (λ e ends. is_wanted words (remaining c.args.reader) (remaining e.reader) silent spoken e.outcome e.hint_sent ends.explains)
    c.run_explained.ensures
