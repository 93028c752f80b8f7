use Rattle.std.proofs.Common.{ap, subst, sym, ◌<◌, length, arith}
use Rattle.tags.proofs.Elements.{element_below}
use Rattle.element.specs.Near.{IsNearToken}
use Rattle.schedule.proofs.Memory.{ok_then, err_then}
use Rattle.machine.specs.Bundles.{BundleView}
use Rattle.machine.proofs.Keeping.{keeps_more, keeps_as_many}
use Rattle.machine.proofs.bundling.keep.Goals as goal

pub push-requires : goal.push-requires
push-requires g c =
    let below = element_below c.args.elements c.args.token.now.to c.requires.some in
    let e = c.element_of_packed-to.ensures in
    let low : c.element_of_packed-to.result < c.args.elements = omega (arith, below, e) in
    record {
      near = subst (λ (b : BundleView). IsNearToken b.bounds c.args.token.now) (sym c.index_mut.ensures.value)
          (c.requires.near c.element_of_packed-to.result c.index_mut.result.now low);
    }

pub returns-clause-err : goal.returns-clause-err
returns-clause-err g c =
    let below = element_below c.args.elements c.args.token.now.to c.requires.some in
    let e = c.element_of_packed-to.ensures in
    let n = c.requires.count in
    let low : c.element_of_packed-to.result < length c.args.unposted.now.items = omega (arith, below, e, n) in
    err_then c.push.result _ _ (λ same. keeps_as_many c.args.elements c.args.unposted.now.items c.element_of_packed-to.result c.index_mut.result.now
    c.push.new.self n low c.index_mut.ensures.value same) c.push.ensures.err

pub returns-clause-ok : goal.returns-clause-ok
returns-clause-ok g c =
    let below = element_below c.args.elements c.args.token.now.to c.requires.some in
    let e = c.element_of_packed-to.ensures in
    let n = c.requires.count in
    let low : c.element_of_packed-to.result < length c.args.unposted.now.items = omega (arith, below, e, n) in
    ok_then c.push.result _ _ (λ is. keeps_more c.args.elements c.args.unposted.now.items c.element_of_packed-to.result c.index_mut.result.now
    c.push.new.self c.args.token.now n low c.index_mut.ensures.value (ap (λ (b : BundleView). b.tokens) is) (ap (λ (b : BundleView). b.bounds) is)
    (sym e)) c.push.ensures.ok
