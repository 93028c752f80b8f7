use Rattle.std.proofs.Common.{sym, ◌∙◌, subst, ℕ, length, arith}
use Rattle.semantics.specs.Machine.{Events}
use Rattle.ordering.specs.Pools.{amount}
use Rattle.ordering.specs.Orders.{OrderedSoFar}
use Rattle.ordering.proofs.Placing.{starts, ends}
use Rattle.ordering.proofs.legal_order.order.Goals as goal

pub passes-init : goal.passes-init
passes-init g c =
    let whole = c.in_ok-rests.ensures in
    record {
      so_far = λ log start last history perm.
          subst (λ (events : Events). OrderedSoFar (length c.args.logs.now) log start last (amount c.put_all.new.self) c.in_ok-rests.rests.items
          events) (sym c.new-events.ensures.items)
          (starts c.args.logs.now log start last c.args.opening.now (amount c.put_all.new.self) c.in_ok-rests.rests.items history perm whole
          (λ q. (let put = c.in_ok-put_all.ensures q in let none = c.new-pool.ensures q in omega (arith, put, none))));
      count = whole.0;
    }

pub passes-preserved : goal.passes-preserved
passes-preserved g c =
    let inv = c.passes.invariant in
    let pass = c.in_ok-pass.ensures in
    let before = amount c.passes.pool in
    let after = amount c.pass.new.pool in
    record {
      so_far = λ log start last history perm.
          let at_pass = subst (λ (n : ℕ). OrderedSoFar n log start last before c.passes.rests.items c.passes.events.items) (sym inv.count)
          (inv.so_far log start last history perm) in
          subst (λ (n : ℕ). OrderedSoFar n log start last after c.pass.new.rests.items c.pass.new.events.items) inv.count (pass.so_far log start last at_pass);
      count = pass.count ∙ inv.count;
    }

pub returns : goal.returns
returns g c log start last history perm =
    let inv = c.passes.invariant in
    let pass = c.in_ok-pass.ensures in
    let before = amount c.passes.pool in
    let after = amount c.pass.new.pool in
    let at_pass = subst (λ (n : ℕ). OrderedSoFar n log start last before c.passes.rests.items c.passes.events.items) (sym inv.count)
    (inv.so_far log start last history perm) in
    let so_far = subst (λ (n : ℕ). OrderedSoFar n log start last after c.pass.new.rests.items c.pass.new.events.items) inv.count
    (pass.so_far log start last at_pass) in
    ends c.args.logs.now log start last after c.pass.new.rests.items c.pass.new.events.items history (pass.count ∙ inv.count) so_far
    (pass.stuck c.if-branch.false)
