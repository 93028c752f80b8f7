use Rattle.std.proofs.Common.{refl, sym, ap, ℕ, [], List, Option}
use Rattle.html_text.specs.DataText.{state_text}
use Rattle.sink.proofs.Sent.{appends_none, sends_whole, sends_same}
use Rattle.html_text.proofs.changes.send_state.Goals as goal

pub returns-in-Empty : goal.returns-in-Empty
returns-in-Empty g c =
    let w : Option (List ℕ) = g.W.Write.contents c.args.writer.now in
    sends_same _ w w [] (state_text c.args.state.now) (ap state_text (sym c.in-Empty.is)) (sends_whole _ tt w w [] refl (appends_none w))
