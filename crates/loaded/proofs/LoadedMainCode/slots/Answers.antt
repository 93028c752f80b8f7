use Rattle.std.proofs.Common.{◌≤◌, ◌<◌, ℕ, sym, subst}
use Rattle.loaded.proofs.Seen.{ready}
use Rattle.loaded.proofs.Sizes.{few_slots, some_slots, slots_fit}
use Rattle.loaded.proofs.LoadedMainCode.slots.Goals as goal

pub returns-clause-some : goal.returns-clause-some
returns-clause-some g c =
    let r = ready _ _ _ _ _ _ _ c.self.view_is c.self.invariant in
    subst (λ (n : ℕ). 0 < n) (sym r.slots_parsed) (some_slots c.args.self.now.code)

pub returns-clause-few : goal.returns-clause-few
returns-clause-few g c =
    let r = ready _ _ _ _ _ _ _ c.self.view_is c.self.invariant in
    subst (λ (n : ℕ). n ≤ 512) (sym r.slots_parsed) (few_slots c.args.self.now.version c.args.self.now.code r.lawful)

pub returns-clause-fits : goal.returns-clause-fits
returns-clause-fits g c =
    let r = ready _ _ _ _ _ _ _ c.self.view_is c.self.invariant in
    slots_fit c.args.self.now.version c.args.self.now.code r.lawful
