use Rattle.std.proofs.Common.{◌≡◌, ◌<◌, ℕ, List, [], length, take, subst, rules}
use Rattle.std.proofs.lemmas.List.{append-nil}
use Rattle.std.specs.Io.KnownBytes.{Consumes}
use Rattle.files.proofs.Reading.{consumes_more, all_read}
use Rattle.files.proofs.bytes.read_bytes.Goals as goal

pub returns-then-count-eq0-clause-all : goal.returns-then-count-eq0-clause-all
returns-then-count-eq0-clause-all g c =
    let none : c.in-Ok.count ≡ 0 = search rules in
    let room : 0 < length c.read.new.buf = search rules in
    let read = c.in-Ok.ensures.bytes in
    let old = g.R.Read.remaining c.args.reader.now in
    let new = g.R.Read.remaining c.read.new.self in
    let last : Consumes (g.R.Read.remaining c.loop.reader) new [] = subst (λ (n : ℕ). Consumes (g.R.Read.remaining c.loop.reader) new
    (take n c.read.new.buf)) none read.0 in
    all_read old new c.loop.bytes.items
    (subst (λ (p : List ℕ). Consumes old new p) (append-nil c.loop.bytes.items) (consumes_more old (g.R.Read.remaining c.loop.reader) new
    c.loop.bytes.items [] c.loop.invariant.0 last))
    (read.1 none room)
