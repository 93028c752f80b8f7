use Rattle.std.proofs.Common.{ℕ, List, refl, subst}
use Rattle.sink.specs.Sends.{Sends}
use Rattle.files.specs.Files.{unread_line}
use Rattle.process.proofs.filed.run_unread.Goals as goal

pub returns : goal.returns
returns g c = record {
  unread = c.args.unread;
  sent = c.send_unread.result;
  told =
      subst (λ (name : List ℕ). Sends c.send_unread.result (g.E.Write.contents c.args.errors.now) (g.E.Write.contents c.send_unread.new.writer)
      (unread_line name c.args.unread)) c.text_of.ensures c.send_unread.ensures;
  nothing = refl;
  unserved = refl;
  exit = refl;
}
