use Rattle.std.proofs.Common.{◌≡◌, ◌++◌, Some, sym, ap, ◌∙◌}
use Rattle.std.specs.Cmp.Lexicographic.{other_text}
use Rattle.sink.proofs.Sent.{sends_from}
use Rattle.semantics.specs.Program.{Code}
use Rattle.semantics.specs.Bytes.{bytes_of}
use Rattle.semantics.specs.Versions.{version_number}
use Rattle.test_object_changes.proofs.outcome.outcome_of.Goals as goal

pub returns : goal.returns
returns g c =
    let out = c.write.new.writer.items in
    let all = sends_from c.write.result (Some c.new-written.result.items) (Some out) _ c.in_ok-write.was c.write.ensures in
    let written = all ∙ ap (λ bs. bs ++ bytes_of (version_number c.version.result) c.in_ok-code.code) c.new-written.ensures.items in
    let told = ap (λ (code : Code). bytes_of (version_number c.version.result) code) c.in_ok-code.ensures ∙ ap (λ n. bytes_of n c.in-Ok.object.code)
    c.version.ensures in
    let same : c.as_slice.result.now ≡ c.args.bytes.now = c.as_slice.ensures.value ∙ written ∙ told ∙ sym c.in-Ok.ensures.object.0 in
    absurd (other_text c.as_slice.result.now c.args.bytes.now (sym c.if-eq.false ∙ c.eq.ensures) same)
