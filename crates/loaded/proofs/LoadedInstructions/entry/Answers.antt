use Rattle.std.proofs.Common.{◌<◌, ◌^◌, ℕ, sym, subst}
use Rattle.loaded.proofs.Seen.{ready}
use Rattle.loaded.proofs.Tables.{entry_found, entry_beyond}
use Rattle.loaded.proofs.Short.{few_before}
use Rattle.loaded.proofs.LoadedInstructions.entry.Goals as goal

pub returns-in-Some-clause-exact : goal.returns-in-Some-clause-exact
returns-in-Some-clause-exact g c =
    let r = ready _ _ _ _ _ _ _ c.self.view_is c.self.invariant in
    let found = c.in-Some.ensures.lookup in
    entry_found c.args.self.now.code.program c.deref.result.now c.self.inside.entries.items c.args.block c.in-Some.entry.now c.deref.ensures.value
    r.entries_parsed found.3.0 found.1

pub returns-in-Some-clause-short : goal.returns-in-Some-clause-short
returns-in-Some-clause-short g c =
    let r = ready _ _ _ _ _ _ _ c.self.view_is c.self.invariant in
    subst (λ (n : ℕ). n < 2 ^ 30) (sym (returns-in-Some-clause-exact g c)) (few_before c.args.self.now.version c.args.self.now.code c.args.block r.lawful)

pub returns-in-None-clause-exact : goal.returns-in-None-clause-exact
returns-in-None-clause-exact g c =
    let r = ready _ _ _ _ _ _ _ c.self.view_is c.self.invariant in
    let found = c.in-None.ensures.lookup in
    entry_beyond c.args.self.now.code.program c.deref.result.now c.self.inside.entries.items c.args.block c.self.inside.instrs c.deref.ensures.value
    r.entries_parsed r.instrs_parsed found.3

pub returns-in-None-clause-short : goal.returns-in-None-clause-short
returns-in-None-clause-short g c =
    let r = ready _ _ _ _ _ _ _ c.self.view_is c.self.invariant in
    subst (λ (n : ℕ). n < 2 ^ 30) (sym (returns-in-None-clause-exact g c)) (few_before c.args.self.now.version c.args.self.now.code c.args.block r.lawful)
