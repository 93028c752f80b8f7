use Rattle.surface_text.specs.Reading.{IsReading}
use Rattle.surface_text.proofs.reading.parse.Given as goal

abbrev pub invariant-loop-token : goal.invariant-loop-token
invariant-loop-token g l =
    IsReading l.text l.tokens l.token-index l.reader.names.numbers l.reader.names.table.items l.reader.parser.stack.items l.reader.parser.words.items
