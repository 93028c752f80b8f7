use Rattle.std.proofs.Common.{◌≡◌, ◌+◌, ◌-◌, ◌%◌, ◌^◌, length, set, ◌∷◌, sym, ap, ◌∙◌, arith}
use Rattle.token_queue.specs.Ring.{between, held, IsPower}
use Rattle.token_queue.specs.Tokens.{Tokens}
use Rattle.token_queue.proofs.Rings.{is_power, held_long, held_put_back}
use Rattle.token_queue.proofs.queue.TokenQueue.put_back.Goals as goal

pub returns-clause-items : goal.returns-clause-items
returns-clause-items g c =
    let q = c.self.inside in
    let xs = q.places.items in
    let ok = c.self.invariant in
    let long : length c.args.self.now.items ≡ between q.head q.tail = ap (λ (t : Tokens). length t.items) (sym c.self.view_is)
    ∙ held_long q.head q.tail xs ok.fits in
    let free = c.requires.room in
    let fits = ok.fits in
    let room : c.args.self.now.room ≡ length xs = ap (λ (t : Tokens). t.room) (sym c.self.view_is) in
    let gone : c.args.self.now.gone ≡ q.head = ap (λ (t : Tokens). t.gone) (sym c.self.view_is) in
    let some = c.requires.some in
    let power : IsPower (length xs) = is_power (length xs) (omega arith) ok.power in
    let places : c.len.result ≡ length xs = c.len.ensures ∙ q.places.ok.0 in
    let before : (q.head + (2 ^ 64 - 1)) % 2 ^ 64 ≡ q.head - 1 = (let b = ok.begun in omega arith) in
    ap (λ at. held ((q.head + (2 ^ 64 - 1)) % 2 ^ 64) q.tail (set xs at c.args.token)) (c.place-at.ensures.exact ∙ ap (λ n. ((q.head + (2 ^ 64 - 1)) % 2 ^ 64) % n) places)
    ∙ ap (λ h. held h q.tail (set xs (h % length xs) c.args.token)) before
    ∙ held_put_back q.head q.tail xs power ok.few (omega arith) ok.begun ok.ended (omega arith) c.args.token
    ∙ ap (λ (t : Tokens). c.args.token ∷ t.items) c.self.view_is
