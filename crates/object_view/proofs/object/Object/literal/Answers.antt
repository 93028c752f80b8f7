use Rattle.object_view.specs.Fields.{word_at}
use Rattle.object_view.specs.Reading.{literal_in}
use Rattle.object_view.proofs.Tabulated.{get_tabulated, past_tabulated}
use Rattle.object_view.proofs.Views.{literals_seen}
use Rattle.std.proofs.Common.{◌≡◌, Some, sym, ap, ◌∙◌, arith}
use Rattle.std.proofs.lemmas.Int.{to_z-of_z}
use Rattle.std.specs.Prelude.{slice_get}
use Rattle.object_view.proofs.object.Object.literal.Goals as goal

pub returns-then-number-self : goal.returns-then-number-self
returns-then-number-self c =
    let t = c.self.inside.tables in
    let w = word_at t.bytes.now in
    sym (ap (λ zs. slice_get zs c.args.number) (literals_seen t.bytes.now _ c.self.view_is) ∙ past_tabulated (literal_in w) 0 (w 3) c.args.number
    (omega (arith, t.literals_parsed)))

pub returns : goal.returns
returns c =
    let t = c.self.inside.tables in
    let w = word_at t.bytes.now in
    let e : Some c.literal.result ≡ slice_get c.args.self.now.code.literals c.args.number =
    ap (λ z. Some z) c.literal.ensures ∙ sym (ap (λ zs. slice_get zs c.args.number) (literals_seen t.bytes.now _ c.self.view_is)
    ∙ get_tabulated (literal_in w) 0 (w 3) c.args.number c.args.number (omega (arith, t.literals_parsed)) (omega arith)) in
    grind (arith, to_z-of_z, e)
