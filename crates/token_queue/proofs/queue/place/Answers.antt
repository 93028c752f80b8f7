use Rattle.std.proofs.Common.{◌≡◌, ◌<◌, ◌%◌, ℕ, bit_and, sym, subst}
use Rattle.std.proofs.Math.Nat.{mod-lt}
use Rattle.token_queue.proofs.Rings.{masked, power_some}
use Rattle.token_queue.proofs.queue.place.Goals as goal

pub returns-clause-exact : goal.returns-clause-exact
returns-clause-exact c = subst (λ (m : ℕ). bit_and c.args.count m ≡ c.args.count % c.args._places) (sym c.requires.mask) (masked _ _ c.requires.power)

pub returns-clause-within : goal.returns-clause-within
returns-clause-within c =
    let is : bit_and c.args.count c.args.mask ≡ c.args.count % c.args._places =
    subst (λ (m : ℕ). bit_and c.args.count m ≡ c.args.count % c.args._places) (sym c.requires.mask) (masked _ _ c.requires.power) in
    subst (λ (n : ℕ). n < c.args._places) (sym is) (mod-lt c.args.count (power_some _ c.requires.power))
