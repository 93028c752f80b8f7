use Rattle.object_view.specs.Fields.{word_at}
use Rattle.object_view.specs.Reading.{array_in}
use Rattle.object_view.proofs.Tabulated.{get_tabulated, past_tabulated}
use Rattle.object_view.proofs.Views.{arrays_seen}
use Rattle.std.proofs.Common.{Some, sym, ap, ◌∙◌, arith}
use Rattle.std.specs.Prelude.{slice_get}
use Rattle.object_view.proofs.object.Object.array.Goals as goal

pub returns-then-number-self : goal.returns-then-number-self
returns-then-number-self c =
    let t = c.self.inside.tables in
    let w = word_at t.bytes.now in
    sym (ap (λ zs. slice_get zs c.args.number) (arrays_seen t.bytes.now _ c.self.view_is) ∙ past_tabulated (array_in w) 0 (w 4) c.args.number
    (omega (arith, t.arrays_parsed)))

pub returns : goal.returns
returns c =
    let t = c.self.inside.tables in
    let w = word_at t.bytes.now in
    ap (λ z. Some z) c.array.ensures ∙ sym (ap (λ zs. slice_get zs c.args.number) (arrays_seen t.bytes.now _ c.self.view_is)
    ∙ get_tabulated (array_in w) 0 (w 4) c.args.number c.args.number (omega (arith, t.arrays_parsed)) (omega arith))
