use Rattle.std.proofs.Common.{◌≡◌, refl, sym, ◌∙◌, ap, subst, suc, ◌-◌, Some, None, IsSome, arith}
use Rattle.std.specs.Option.{option_copied_mut}
use Rattle.std.specs.HashMap as hash
use Rattle.ordering.specs.Keys.{same}
use Rattle.ordering.specs.Pools.{same_key, more_than_one}
use Rattle.ordering.proofs.Copies.{one_less, changed_twice}
use Rattle.ordering.proofs.pool.Pool.take.Goals as goal

pub returns-then-more-gt0-clause-some : goal.returns-then-more-gt0-clause-some
returns-then-more-gt0-clause-some g c _ =
    let m = c.args.self.now.more in
    let more = c.in-Some.more.now in
    let here : hash.get same_key m (record { 0 = c.args.token }) ≡ Some more = sym c.get_mut.ensures.value ∙ ap option_copied_mut c.in-Some.is in
    let some = c.if-more-gt0.true in
    let count : more_than_one (hash.get same_key m (record { 0 = c.args.token })) ≡ suc more = ap more_than_one here in
    one_less (λ q. hash.get same_key m (record { 0 = q })) (λ q. hash.get same_key (c.get_mut.follows.lender (more - 1)) (record { 0 = q }))
    c.args.token (Some (more - 1))
    (λ q. ((c.get_mut.follows.holds (more - 1)).3 (subst IsSome (sym here) refl)).0 (record { 0 = q }))
    (omega (arith, count, some))

pub returns-else-more-gt0-clause-some : goal.returns-else-more-gt0-clause-some
returns-else-more-gt0-clause-some g c _ =
    let m = c.args.self.now.more in
    let more = c.in-Some.more.now in
    let here : hash.get same_key m (record { 0 = c.args.token }) ≡ Some more = sym c.get_mut.ensures.value ∙ ap option_copied_mut c.in-Some.is in
    let none = c.if-more-gt0.false in
    let count : more_than_one (hash.get same_key m (record { 0 = c.args.token })) ≡ suc more = ap more_than_one here in
    one_less (λ q. hash.get same_key m (record { 0 = q })) (λ q. hash.get same_key c.remove.new.self (record { 0 = q })) c.args.token None
    (λ q. changed_twice (same c.args.token q) (hash.get same_key m (record { 0 = q })) (hash.get same_key (c.get_mut.follows.lender more)
    (record { 0 = q })) (hash.get same_key c.remove.new.self (record { 0 = q })) (Some more) None (c.remove.ensures.updates.0 (record { 0 = q }))
    (((c.get_mut.follows.holds more).3 (subst IsSome (sym here) refl)).0 (record { 0 = q })))
    (omega (arith, count, none))
