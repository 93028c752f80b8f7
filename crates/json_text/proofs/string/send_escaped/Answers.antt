use Rattle.std.proofs.Common.{sym}
use Rattle.sink.proofs.Sent.{sends_same}
use Rattle.json_text.specs.Json.{escaped}
use Rattle.json_text.proofs.Plain.{plain}
use Rattle.json_text.proofs.string.send_escaped.Goals as goal

pub returns-then-are_plain : goal.returns-then-are_plain
returns-then-are_plain g c =
    sends_same c.send.result _ _ c.args.text.now (escaped c.args.text.now) (sym (plain c.args.text.now (sym c.if-are_plain.ensures))) c.send.ensures
