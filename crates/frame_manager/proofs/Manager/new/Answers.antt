use Rattle.std.proofs.Common.{◌≡◌, ◌∙◌, ◌-◌, ap, sym, subst, arith}
use Rattle.frame_manager.specs.Flags.{out_count}
use Rattle.frame_manager.proofs.Counts.{IsOpened, opened_all, count_at_first}
use Rattle.frame_manager.proofs.ManagerLemmas.{seen, with_flags}
use Rattle.frame_manager.proofs.Manager.new.Goals as goal

pub invariant_of-result : goal.invariant_of-result
invariant_of-result g c =
    let end : c.loop-frame.frame ≡ c.args.frames = omega arith in
    let all = opened_all c.loop-frame.flags c.args.frames c.requires (subst (λ i. IsOpened c.loop-frame.flags c.args.frames i) end c.loop-frame.invariant) in
    (omega (arith, c.loop-frame.invariant.size, c.ranges.frames.fits), sym (ap out_count all ∙ count_at_first (c.args.frames - 1)))

pub returns : goal.returns
returns g c =
    let end : c.loop-frame.frame ≡ c.args.frames = omega arith in
    ap (seen c.loop-frame.flags) c.new.ensures.items
    ∙ ap with_flags (opened_all c.loop-frame.flags c.args.frames c.requires (subst (λ i. IsOpened c.loop-frame.flags c.args.frames i) end
    c.loop-frame.invariant))
