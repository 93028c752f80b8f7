use Rattle.std.proofs.Common.{◌≡◌, length, drop, sym, ap, ◌∙◌, arith}
use Rattle.token_queue.specs.Ring.{between, IsPower}
use Rattle.token_queue.specs.Tokens.{Tokens}
use Rattle.token_queue.proofs.Rings.{is_power, held_long, held_popped}
use Rattle.token_queue.proofs.queue.TokenQueue.pop_front.Goals as goal

pub returns-clause-items : goal.returns-clause-items
returns-clause-items g c =
    let q = c.self.inside in
    let xs = q.places.items in
    let ok = c.self.invariant in
    let long : length c.args.self.now.items ≡ between q.head q.tail = ap (λ (t : Tokens). length t.items) (sym c.self.view_is)
    ∙ held_long q.head q.tail xs ok.fits in
    let some = c.requires in
    let fits = ok.fits in
    let power : IsPower (length xs) = is_power (length xs) (omega arith) ok.power in
    held_popped q.head q.tail xs power ok.few ok.begun ok.ended ok.fits (omega arith) ∙ ap (λ (t : Tokens). drop 1 t.items) c.self.view_is
