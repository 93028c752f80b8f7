use Rattle.std.proofs.Common.{sym, ◌∙◌, inr}
use Rattle.graph_file.specs.Fields.{sources_from}
use Rattle.graph_file.proofs.Loops.{goes_on, fails, is_done}
use Rattle.graph_file.proofs.fields.source_fields.Goals as goal

pub returns-in_default-source : goal.returns-in_default-source
returns-in_default-source g c = inr (fails c.loop-field.sources.items c.loop-field.rest c.in-Some.field.now c.in-Some.after
    (sources_from c.args.fields) c.in-Some.ensures (sym c.source.ensures ∙ c.in_default-source.is) c.loop-field.invariant)

pub loop-field-preserved : goal.loop-field-preserved
loop-field-preserved g c = rw c.in_ok-push.ensures.items (goes_on c.loop-field.sources.items c.loop-field.rest c.in-Some.field.now c.in-Some.after
    c.in-Some-source.source (sources_from c.args.fields) c.in-Some.ensures (sym c.source.ensures ∙ c.in-Some-source.is) c.loop-field.invariant)

pub returns : goal.returns
returns g c = is_done c.loop-field.sources.items c.loop-field.rest (sources_from c.args.fields) c.in_default.ensures c.loop-field.invariant
