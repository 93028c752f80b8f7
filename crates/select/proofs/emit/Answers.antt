use Rattle.std.proofs.Common.{◌≡◌, ℤ, List, sym, subst, All, Contains, rules}
use Rattle.std.specs.Prelude.{None}
use Rattle.semantics.specs.Versions.{version_number}
use Rattle.semantics.proofs.Lines.{version_is}
use Rattle.select.specs.Literals.{used_in, table_of, too_far}
use Rattle.select.proofs.Tables.{table_has, table_only}
use Rattle.select.proofs.Codes.{is_code}
use Rattle.select.proofs.emit.Goals as goal

pub returns-clause-all_used : goal.returns-clause-all_used
returns-clause-all_used g c =
    let bs = c.args.plan.now.program.blocks in
    let table : c.in_ok-literals.literals.items ≡ table_of bs = search rules in
    subst (λ (zs : List ℤ). All (Contains zs) (used_in bs)) (sym table) (table_has bs)

pub returns-clause-only_used : goal.returns-clause-only_used
returns-clause-only_used g c =
    let bs = c.args.plan.now.program.blocks in
    let table : c.in_ok-literals.literals.items ≡ table_of bs = search rules in
    subst (All (Contains (used_in bs))) (sym table) (table_only bs)

pub returns-clause-spelling : goal.returns-clause-spelling
returns-clause-spelling g c =
    let bs = c.args.plan.now.program.blocks in
    let table : c.in_ok-literals.literals.items ≡ table_of bs = search rules in
    let far : too_far bs ≡ None = search rules in
    λ e. is_code (version_number c.args.version) c.args.plan.now c.args.slots.now _ (version_is c.args.version) (search rules) table far
    c.in_ok-literals.ensures.ascending c.in_ok-literals.ensures.fit e
