use Rattle.std.proofs.Common.{Ok, Err, ap, map, drop}
use Rattle.json_text.specs.Json.{json_of}
use Rattle.process.specs.Files.{Picked, PrintsInput}
use Rattle.process.proofs.FileAnswers.{as_json}
use Rattle.process.proofs.answering.answer_json.Goals as goal

pub returns-in-Ok-write_json : goal.returns-in-Ok-write_json
returns-in-Ok-write_json g c =
    as_json (λ s o a. Picked c.args.options (map g.S.AsStr.text (drop 1 c.args.words.now))
    (λ s o a. PrintsInput c.args.bytes.now c.args.request.now c.args.input.now s o a) s o a) c.in-Ok.outcome _ c.answer_picked.new.writer.items _ _
    (Ok c.in-Ok-write_json.field-0) _ c.new-text.ensures.items c.in-Ok.ensures (ap json_of c.deref.ensures.value) c.in-Ok-write_json.ensures

pub returns-in-Ok : goal.returns-in-Ok
returns-in-Ok g c =
    as_json (λ s o a. Picked c.args.options (map g.S.AsStr.text (drop 1 c.args.words.now))
    (λ s o a. PrintsInput c.args.bytes.now c.args.request.now c.args.input.now s o a) s o a) c.in-Ok.outcome _ c.answer_picked.new.writer.items _ _
    (Err c.in-Err-write_json.fault) _ c.new-text.ensures.items c.in-Ok.ensures (ap json_of c.deref.ensures.value) c.in-Err-write_json.ensures
