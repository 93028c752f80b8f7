use Rattle.std.proofs.Common.{◌<◌, ◌≤◌, length, sym, subst, arith}
use Rattle.surface_text.specs.Reading.{IsParseFault}
use Rattle.surface_text.proofs.Tokens.{reads_on, stops, finishes, same_read}
use Rattle.surface_text.proofs.Trees.{reported, read_so}
use Rattle.surface_text.proofs.reading.parse.Goals as goal

pub returns-in-Err : goal.returns-in-Err
returns-in-Err g c =
    let reader = c.loop-token.reader in
    let tokens = c.args.tokens.now in
    let h : c.loop-token.token-index < length tokens = omega arith in
    subst (IsParseFault c.args.text.now tokens) (sym c.refused_at.ensures)
    (reported c.args.text.now tokens _ (stops c.args.text.now tokens c.loop-token.token-index _ reader.names.numbers reader.names.table.items
    reader.parser.stack.items reader.parser.words.items
    c.in-Err.stopped.kind h (same_read tokens c.loop-token.token-index _ _ h) c.loop-token.invariant c.in-Err.ensures))

pub loop-token-preserved : goal.loop-token-preserved
loop-token-preserved g c =
    let reader = c.loop-token.reader in
    let tokens = c.args.tokens.now in
    let h : c.loop-token.token-index < length tokens = omega arith in
    reads_on c.args.text.now tokens c.loop-token.token-index _ reader.names.numbers reader.names.table.items reader.parser.stack.items reader.parser.words.items
    c.read.new.self.names.numbers c.read.new.self.names.table.items c.read.new.self.parser.stack.items c.read.new.self.parser.words.items
    h (same_read tokens c.loop-token.token-index _ _ h) c.loop-token.invariant c.in_default-read.ensures

pub returns : goal.returns
returns g c =
    let reader = c.loop-token.reader in
    let tokens = c.args.tokens.now in
    let h : length tokens ≤ c.loop-token.token-index = omega arith in
    read_so c.args.text.now tokens (λ p. p.names.items) (λ p. p.words.items) (λ u. u.fault) c.finish.result
    (finishes c.args.text.now tokens c.loop-token.token-index reader.names.numbers reader.names.table.items reader.parser.stack.items
    reader.parser.words.items
    (λ p. p.names.items) (λ p. p.words.items) (λ u. u.fault) c.finish.result h c.loop-token.invariant c.finish.ensures)
