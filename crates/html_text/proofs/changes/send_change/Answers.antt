use Rattle.std.proofs.Common.{refl, sym, ap, ℕ, [], List, Option}
use Rattle.html_text.specs.DataText.{change_text}
use Rattle.sink.proofs.Sent.{appends_none, sends_whole, sends_same}
use Rattle.html_text.proofs.changes.send_change.Goals as goal

pub returns-in-Nothing : goal.returns-in-Nothing
returns-in-Nothing g c =
    let w : Option (List ℕ) = g.W.Write.contents c.args.writer.now in
    sends_same _ w w [] (change_text c.args.change) (ap change_text (sym c.in-Nothing.is)) (sends_whole _ tt w w [] refl (appends_none w))
