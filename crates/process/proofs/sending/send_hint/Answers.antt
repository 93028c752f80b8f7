use Rattle.std.proofs.Common.{subst, map, drop}
use Rattle.std.specs.Prelude.{Some, option_map}
use Rattle.process.proofs.Sent.{sent_all, sent_part}
use Rattle.process.specs.Hinted.{text_of}
use Rattle.process.proofs.sending.send_hint.Goals as goal

pub returns-in-Ok : goal.returns-in-Ok
returns-in-Ok g c = (text_of c.in-Ok-Some.hint, rw c.in-Ok-Some.field-0-is at c.in-Ok-Some.ensures, sent_all _ _ _ _ _ c.in-Ok.ensures)

pub returns-in-Ok-Some : goal.returns-in-Ok-Some
returns-in-Ok-Some g c = let part = sent_part _ _ _ _ _ c.in-Err-write.ensures in (
  part.0,
  part.1,
  subst (λ t. g.X.Explain.accounts (map g.S.AsStr.text (drop 1 c.args.words.now)) (option_map (λ i. i.now) c.args.input) c.args.outcome (Some t))
      part.2 (rw c.in-Ok-Some.field-0-is at c.in-Ok-Some.ensures),
  part.3,
)
