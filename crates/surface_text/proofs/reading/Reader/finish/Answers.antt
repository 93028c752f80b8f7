use Rattle.std.proofs.Common.{length, sym, subst}
use Rattle.surface_text.specs.Running.{state, ending, IsFault}
use Rattle.surface_text.proofs.reading.Reader.finish.Goals as goal

pub returns : goal.returns
returns g c =
    let table = c.args.self.names.table.items in
    let parser = c.args.self.parser in
    let end = length c.args.text.now in
    subst (λ fault. IsFault fault (ending end (state table parser.stack.items parser.words.items))) (sym c.refused_at.ensures) (c.in-Err.ensures table end)
