use Rattle.std.proofs.Common.{◌≡◌, ◌+◌, ◌%◌, ◌^◌, length, get_or, sym, ap, ◌∙◌, arith}
use Rattle.token_queue.specs.Ring.{between, IsPower}
use Rattle.token_queue.specs.Tokens.{Tokens}
use Rattle.token_queue.proofs.Rings.{is_power, held_long, get_or-held}
use Rattle.token_queue.proofs.queue.TokenQueue.packed.Goals as goal

pub returns : goal.returns
returns g c =
    let q = c.self.inside in
    let xs = q.places.items in
    let ok = c.self.invariant in
    let long : length c.args.self.now.items ≡ between q.head q.tail = ap (λ (t : Tokens). length t.items) (sym c.self.view_is)
    ∙ held_long q.head q.tail xs ok.fits in
    let some = c.requires in
    let fits = ok.fits in
    let power : IsPower (length xs) = is_power (length xs) (omega arith) ok.power in
    let places : c.len.result ≡ length xs = c.len.ensures ∙ q.places.ok.0 in
    c.index.ensures ∙ ap (λ at. get_or xs at c.index.result.now) (c.place.ensures.exact ∙ ap (λ n. (q.head + c.args.at) % 2 ^ 64 % n) places)
    ∙ sym (get_or-held q.head q.tail xs power ok.few ok.begun ok.ended ok.fits c.args.at c.index.result.now (omega arith))
    ∙ ap (λ (t : Tokens). get_or t.items c.args.at c.index.result.now) c.self.view_is
