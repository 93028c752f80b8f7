use Rattle.std.proofs.Common.{Some, None, arith, ap, sym, ◌∙◌}
use Rattle.std.proofs.lemmas.Str.Pattern.{split_parts}
use Rattle.command_line.specs.Words.{parts_at}
use Rattle.command_line.proofs.WordForms.{parts_at-there, parts_at-without}
use Rattle.command_line.proofs.options.parts_at.Goals as goal

pub returns-in-Some : goal.returns-in-Some
returns-in-Some c =
    let parts = split_parts c.args.separator c.args.text.now (Some (c.in-Some.first, c.in-Some.rest)) c.in-Some.ensures.cases (omega (arith, c.requires)) in
    sym (ap (parts_at c.args.separator) parts.0 ∙ parts_at-there c.args.separator c.in-Some.first.now c.in-Some.rest.now parts.1)

pub returns-in-None : goal.returns-in-None
returns-in-None c =
    let lacks = split_parts c.args.separator c.args.text.now None c.in-None.ensures.cases (omega (arith, c.requires)) in
    sym (parts_at-without c.args.separator c.args.text.now lacks)
