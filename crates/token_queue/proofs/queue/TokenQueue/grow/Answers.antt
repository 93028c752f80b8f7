use Rattle.std.proofs.Common.{rules, ℕ, ◌≡◌, ◌-◌, ◌%◌, ◌≤◌, ◌++◌, length, drop, take, bit_and, List, sym, ap, ◌∙◌}
use Rattle.std.specs.Prelude.{replicate, vec_len}
use Rattle.std.specs.List.{slice_rotate_right}
use Rattle.tags.specs.declared.token.Token.{Token}
use Rattle.token_queue.specs.Ring.{between, held, ring, IsPower}
use Rattle.token_queue.specs.Tokens.{Tokens}
use Rattle.token_queue.proofs.Rings.{held_long, held_grown, turned_back, ring_turned_back, masked, front_within, power_some}
use Rattle.std.proofs.Math.Nat.{mod-lt, le_of_lt}
use Rattle.token_queue.proofs.queue.TokenQueue.grow.Goals as goal

pub returns-in-Err-clause-items : goal.returns-in-Err-clause-items
returns-in-Err-clause-items g c =
    let q = c.self.inside in
    let xs : List Token = q.places.items in
    let ok = c.self.invariant in
    let k = bit_and q.head q.mask in
    let within : k ≤ length xs = front_within q.head q.mask xs ok.masked in
    let turned : c.rotate_left.new.self.items ≡ drop k xs ++ take k xs = c.rotate_left.ensures.items in
    let kept : c.resize.new.self.items ≡ c.rotate_left.new.self.items = c.in-Err.ensures.items in
    let vs : List Token = c.resize.new.self.items in
    let round : c.rotate_right.new.self.items ≡ drop (vec_len c.resize.new.self - k) vs ++ take (vec_len c.resize.new.self - k) vs = c.rotate_right.ensures.items in
    let back : c.rotate_right.new.self.items ≡ slice_rotate_right vs k =
    round ∙ ap (λ (j : ℕ). drop (j - k) vs ++ take (j - k) vs) c.resize.new.self.ok.0 in
    let same : c.rotate_right.new.self.items ≡ xs = back ∙ ap (λ (ys : List Token). slice_rotate_right ys k) (kept ∙ turned) ∙ turned_back k xs within in
    ap (λ (ys : List Token). held q.head q.tail ys) same ∙ ap (λ (t : Tokens). t.items) c.self.view_is

pub returns-in-Err-clause-err : goal.returns-in-Err-clause-err
returns-in-Err-clause-err g c =
    let q = c.self.inside in
    let xs : List Token = q.places.items in
    let ok = c.self.invariant in
    let k = bit_and q.head q.mask in
    let within : k ≤ length xs = front_within q.head q.mask xs ok.masked in
    let turned : c.rotate_left.new.self.items ≡ drop k xs ++ take k xs = c.rotate_left.ensures.items in
    let kept : c.resize.new.self.items ≡ c.rotate_left.new.self.items = c.in-Err.ensures.items in
    let vs : List Token = c.resize.new.self.items in
    let round : c.rotate_right.new.self.items ≡ drop (vec_len c.resize.new.self - k) vs ++ take (vec_len c.resize.new.self - k) vs = c.rotate_right.ensures.items in
    let back : c.rotate_right.new.self.items ≡ slice_rotate_right vs k =
    round ∙ ap (λ (j : ℕ). drop (j - k) vs ++ take (j - k) vs) c.resize.new.self.ok.0 in
    let same : c.rotate_right.new.self.items ≡ xs = back ∙ ap (λ (ys : List Token). slice_rotate_right ys k) (kept ∙ turned) ∙ turned_back k xs within in
    ap (λ (ys : List Token). record { items = held q.head q.tail ys; room = length ys; gone = q.head }) same ∙ c.self.view_is

pub returns-clause-items : goal.returns-clause-items
returns-clause-items g c =
    let q = c.self.inside in
    let xs : List Token = q.places.items in
    let ok = c.self.invariant in
    let n = c.len-count.result in
    let m = c.in_ok-places.places in
    let long : length c.args.self.now.items ≡ between q.head q.tail = ap (λ (t : Tokens). length t.items) (sym c.self.view_is)
    ∙ held_long q.head q.tail xs ok.fits in
    let count : n ≡ between q.head q.tail = c.len-count.ensures ∙ long in
    let fits = ok.fits in
    let few = ok.few in
    let large : n ≤ m = search rules in
    let zs : List Token = replicate (m - vec_len c.rotate_left.new.self) c.pack.result in
    let rs : List Token = c.rotate_left.new.self.items in
    let vs : List Token = c.resize.new.self.items in
    let items : vs ≡ take m rs ++ zs = c.in_default.ensures.items in
    let turned : rs ≡ drop (bit_and q.head q.mask) xs ++ take (bit_and q.head q.mask) xs = c.rotate_left.ensures.items in
    let places : length vs ≡ m = search rules in
    let power : IsPower m = search rules in
    let k : bit_and q.head (m - 1) ≡ q.head % m = masked m q.head power in
    let first = bit_and q.head (m - 1) in
    let long : vec_len c.resize.new.self ≡ m = c.resize.new.self.ok.0 ∙ places in
    let round : c.rotate_right-2.new.self.items ≡ drop (vec_len c.resize.new.self - first) vs ++ take (vec_len c.resize.new.self - first) vs =
    c.rotate_right-2.ensures.items in
    let back : c.rotate_right-2.new.self.items ≡ drop (m - q.head % m) vs ++ take (m - q.head % m) vs =
    round ∙ ap (λ (j : ℕ). drop (vec_len c.resize.new.self - j) vs ++ take (vec_len c.resize.new.self - j) vs) k
    ∙ ap (λ (j : ℕ). drop (j - q.head % m) vs ++ take (j - q.head % m) vs) long in
    let as_many : length c.rotate_right-2.new.self.items ≡ m = search rules in
    ap (λ (j : ℕ). ring (q.head % j) (between q.head q.tail) c.rotate_right-2.new.self.items) as_many
    ∙ ap (λ (ys : List Token). ring (q.head % m) (between q.head q.tail) ys) back
    ∙ ring_turned_back m (q.head % m) (between q.head q.tail) vs places (le_of_lt (mod-lt q.head (power_some m power)))
    ∙ ap (λ (j : ℕ). take j vs) (sym count) ∙ ap (take n) (items ∙ ap (λ (ys : List Token). take m ys ++ zs) turned)
    ∙ held_grown q.head q.tail q.mask n m xs zs ok.power ok.masked ok.fits count large
    ∙ ap (λ (t : Tokens). t.items) c.self.view_is
