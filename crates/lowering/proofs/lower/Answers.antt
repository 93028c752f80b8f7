use Rattle.std.proofs.Common.{◌≡◌, Err, ◌∙◌, rules}
use Rattle.source.specs.Lowered as definition
use Rattle.lowering.proofs.Exact.{good_exact, bad_exact}
use Rattle.lowering.proofs.lower.Goals as goal

pub returns-in_err-sizes-clause-refused : goal.returns-in_err-sizes-clause-refused
returns-in_err-sizes-clause-refused g c = λ p i.
    let k : definition.lowered p ≡ Err c.in_err-sizes.field-0.0 =
    bad_exact c.args.named.now.checked.program.names c.args.named.now.checked.program.words c.in-Ok.parts.arrays.items c.in-Ok.parts.blocks.items
    c.deref.result.now c.sizes.result c.in_err-sizes.field-0.0 c.args.named.now.checked.checked (c.in-Ok.ensures.arrays, c.in-Ok.ensures.blocks)
    c.deref.ensures.value c.sizes.ensures c.in_err-sizes.was p i in
    search rules

pub returns-clause-lowered : goal.returns-clause-lowered
returns-clause-lowered g c = λ p i.
    good_exact c.args.named.now.checked.program.names c.args.named.now.checked.program.words c.in-Ok-build.lowered.arrays.items c.in-Ok.parts.blocks.items
    c.deref.result.now c.in-Ok-build.lowered.blocks.items c.in-Ok-build.lowered.places.items c.sizes.result c.in_ok-sizes.field-0
    c.args.named.now.checked.checked
    (c.in-Ok-build.ensures.arrays ∙ c.in-Ok.ensures.arrays, c.in-Ok.ensures.blocks) c.deref.ensures.value c.sizes.ensures c.in_ok-sizes.was
    c.in-Ok-build.ensures.blocks c.in-Ok-build.ensures.places p i
