use Rattle.std.proofs.Common.{◌≡◌, ◌<◌, ◌*◌, ◌∙◌, ℕ, List, All, true, [], sym, ap, arith, subst, refl, rules}
use Rattle.schedule.specs.declared.halt.Halt.{Halt}
use Rattle.schedule.specs.Runs.{Plays}
use Rattle.schedule.specs.Setting.{Setting}
use Rattle.commands.specs.Agreed.{most_picks}
use Rattle.commands.proofs.PlayedOn.{begin, begin_at, go_on, halted, next_at, used_up}
use Rattle.commands.proofs.orders.play_drawn.Goals as goal

pub loop-time-init : goal.loop-time-init
loop-time-init g c = record {
  few = omega arith;
  number = begin_at c.args.elements c.args.first c.args.machine.now;
  so_far = begin c.args.elements
      c.args.first c.args.machine.now;
}

pub play-halt-requires : goal.play-halt-requires
play-halt-requires g c =
    let so = c.loop-time.invariant.so_far in
    let same = ap (λ (z : Setting). z.elements) so.setting ∙ c.requires.elements in
    subst (λ (n : ℕ). All (λ (pick : ℕ × ℕ). pick.0 < n) c.deref.result.now) (sym same)
    (subst (λ (l : List (ℕ × ℕ)). All (λ (pick : ℕ × ℕ). pick.0 < c.args.elements) l) (sym c.deref.ensures.value) c.in_ok-drawn.ensures.below)

pub returns-then-ne : goal.returns-then-ne
returns-then-ne g c =
    let so = c.loop-time.invariant in
    let p = c.play-halt.ensures.plays in
    let other : c.play-halt.result ≡ Halt.Steps → ⊥ = search rules in
    halted c.args.elements c.args.first c.args.machine.now c.loop-time._time c.loop-time.number c.loop-time.machine c.play-halt.new.self so.so_far so.number
    c.deref.result.now (c.deref.ensures.value ∙ c.in_ok-drawn.ensures.drawn) p.0 p.2 c.play-halt.result p.1 c.play-halt.ensures.cell other

pub loop-time-preserved : goal.loop-time-preserved
loop-time-preserved g c =
    let so = c.loop-time.invariant in
    let p = c.play-halt.ensures.plays in
    let is : c.play-halt.result ≡ Halt.Steps = search rules in
    record {
      few = omega (arith, c.loop-time-test.true);
      number = next_at c.args.elements c.args.first c.args.machine.now c.loop-time._time c.loop-time.number so.number c.in_ok-drawn.drawn.next
          c.in_ok-drawn.ensures.next;
      so_far = go_on c.args.elements c.args.first c.args.machine.now c.loop-time._time c.loop-time.number c.loop-time.machine c.play-halt.new.self
          so.so_far so.number
          c.deref.result.now (c.deref.ensures.value ∙ c.in_ok-drawn.ensures.drawn) p.0 p.2
          (subst (λ (h : Halt). Plays true c.deref.result.now c.loop-time.machine.state c.play-halt.new.self.state h p.0) is p.1) c.play-halt.ensures.setting;
    }

pub returns : goal.returns
returns g c =
    let so = c.loop-time.invariant in
    let p = c.play.ensures.plays in
    let all : 4096 * c.loop-time._time ≡ most_picks = omega (arith, so.few, c.loop-time-test.false) in
    used_up c.args.elements c.args.first c.args.machine.now c.loop-time._time c.loop-time.machine c.play.new.self so.so_far all c.play.result [] refl
    p.0 p.2 p.1 c.play.ensures.cell
