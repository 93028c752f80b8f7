use Rattle.std.proofs.Common.{◌≡◌, ◌+◌, ◌%◌, ◌^◌, length, set, [], ◌∷◌, ◌++◌, sym, ap, ◌∙◌, arith}
use Rattle.token_queue.specs.Ring.{between, held, IsPower}
use Rattle.token_queue.specs.Tokens.{Tokens}
use Rattle.token_queue.proofs.Rings.{is_power, held_long, held_pushed}
use Rattle.token_queue.proofs.queue.TokenQueue.push_packed.Goals as goal

pub returns-clause-items : goal.returns-clause-items
returns-clause-items g c =
    let q = c.self.inside in
    let xs = q.places.items in
    let ok = c.self.invariant in
    let long : length c.args.self.now.items ≡ between q.head q.tail = ap (λ (t : Tokens). length t.items) (sym c.self.view_is)
    ∙ held_long q.head q.tail xs ok.fits in
    let some = c.requires in
    let fits = ok.fits in
    let room : c.args.self.now.room ≡ length xs = ap (λ (t : Tokens). t.room) (sym c.self.view_is) in
    let power : IsPower (length xs) = is_power (length xs) (omega arith) ok.power in
    let places : c.len.result ≡ length xs = c.len.ensures ∙ q.places.ok.0 in
    ap (λ at. held q.head ((q.tail + 1) % 2 ^ 64) (set xs at c.args.token)) (c.place-at.ensures.exact ∙ ap (λ n. q.tail % n) places)
    ∙ held_pushed q.head q.tail xs power ok.few ok.begun ok.ended ok.fits c.args.token (omega arith)
    ∙ ap (λ (t : Tokens). t.items ++ c.args.token ∷ []) c.self.view_is
