use Rattle.std.proofs.Common.{refl, ◌≡◌, ℕ, ◌+◌, ◌-◌, ◌%◌, ◌^◌, length, set, get_or, drop, sym, ap, subst, ◌∙◌, arith, length-set}
use Rattle.std.proofs.Math.Nat.{mod-lt}
use Rattle.token_queue.specs.Ring.{ring, between, held, IsPower}
use Rattle.token_queue.specs.Tokens.{Tokens}
use Rattle.token_queue.proofs.Rings.{is_power, power_some, held_long, held_popped, place_on, opened_more, opened_all, opening, opening_all}
use Rattle.token_queue.proofs.queue.TokenQueue.remove.Goals as goal

pub loop-moved-init : goal.loop-moved-init
loop-moved-init g c =
    let first : c.args.at ≡ c.args.at - 0 = omega arith in
    record {
      places = refl;
      mask = refl;
      head = refl;
      tail = refl;
      items = ap (λ (t : Tokens). t.items) c.self.view_is ∙ sym (opening_all c.args.self.now.items c.args.at c.requires)
          ∙ ap (λ i. opening c.args.self.now.items c.args.at i) first;
    }

pub loop-moved-preserved : goal.loop-moved-preserved
loop-moved-preserved g c =
    let q = c.loop-moved.self-inside in
    let at = c.args.at in
    let within = c.loop-moved-test.true in
    let i = at - c.loop-moved.moved - 1 in
    let to : i + 1 ≡ at - c.loop-moved.moved = omega arith in
    let next : at - (c.loop-moved.moved + 1) ≡ i = omega arith in
    let ys = q.places.items in
    let inv = c.loop-moved.invariant in
    let ok = c.self.invariant in
    let h = c.self.inside.head in
    let b = between h c.self.inside.tail in
    let N = c.len-places.result in
    let x = c.index-earlier.result.now in
    let items = c.args.self.now.items in
    let all : N ≡ length c.self.inside.places.items = c.len-places.ensures ∙ c.self.inside.places.ok.0 in
    let long : length items ≡ b = ap (λ (t : Tokens). length t.items) (sym c.self.view_is) ∙ held_long h c.self.inside.tail c.self.inside.places.items ok.fits in
    let same : length ys ≡ N = inv.places ∙ sym all in
    let some = c.requires in
    let fits = ok.fits in
    let few = ok.few in
    let power : IsPower N = subst (λ (n : ℕ). IsPower n) (sym all) (is_power (length c.self.inside.places.items) (omega arith) ok.power) in
    let place : c.place-in-loop-moved.result ≡ (h % N + (i + 1)) % N =
    c.place-in-loop-moved.ensures.exact ∙ place_on N h (i + 1) power (omega arith) in
    let earlier : x ≡ get_or ys ((h % N + i) % N) x =
    c.index-earlier.ensures ∙ ap (λ at. get_or ys at x) (c.place.ensures.exact ∙ place_on N h i power (omega arith)) in
    let was : ring (h % N) b ys ≡ opening items at (i + 1) =
    ap (λ n. ring (h % n) b ys) (sym same) ∙ inv.items ∙ ap (λ j. opening items at j) (sym to) in
    record {
      places = length-set ys c.place-in-loop-moved.result x ∙ inv.places;
      mask = inv.mask;
      head = inv.head;
      tail = inv.tail;
      items =
          ap (λ n. ring (h % n) b (set ys c.place-in-loop-moved.result x)) (length-set ys c.place-in-loop-moved.result x ∙ same)
          ∙ ap (λ p. ring (h % N) b (set ys p x)) place
          ∙ opened_more N (h % N) b ys items at i x (mod-lt h (power_some N power)) (omega arith) same (sym long) was (omega arith) (omega arith) earlier
          ∙ ap (λ j. opening items at j) (sym next);
    }

pub returns-clause-items : goal.returns-clause-items
returns-clause-items g c =
    let q = c.loop-moved.self-inside in
    let ys = q.places.items in
    let inv = c.loop-moved.invariant in
    let ok = c.self.invariant in
    let h = c.self.inside.head in
    let t = c.self.inside.tail in
    let b = between h t in
    let items = c.args.self.now.items in
    let long : length items ≡ b = ap (λ (ts : Tokens). length ts.items) (sym c.self.view_is) ∙ held_long h t c.self.inside.places.items ok.fits in
    let some = c.requires in
    let fits = ok.fits in
    let done = c.loop-moved-test.false in
    let end : c.args.at - c.loop-moved.moved ≡ 0 = omega arith in
    let places = inv.places in
    let power : IsPower (length ys) = subst (λ (n : ℕ). IsPower n) (sym places) (is_power (length c.self.inside.places.items) (omega arith) ok.power) in
    ap (λ k. held ((h + 1) % 2 ^ 64) k ys) inv.tail
    ∙ held_popped h t ys power (omega arith) ok.begun ok.ended (omega arith) (omega arith)
    ∙ ap (drop 1) (inv.items ∙ ap (λ i. opening items c.args.at i) end)
    ∙ opened_all items c.args.at some
