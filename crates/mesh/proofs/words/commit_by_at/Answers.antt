use Rattle.std.proofs.Common.{◌≡◌, ◌<◌, ◌≤◌, ◌+◌, ◌-◌, ◌^◌, ◌%◌, length, ℕ, arith, sym, subst}
use mathlib.Core.Option.{none}
use Rattle.atomic_table.specs.Table.{step}
use Rattle.mesh.specs.Places.{part_of}
use Rattle.mesh.specs.Deeds.{created}
use Rattle.mesh.specs.Seats.{AllTo}
use Rattle.mesh.proofs.WordSteps.{commits}
use Rattle.mesh.proofs.words.commit_by_at.Goals as goal

pub fetch_add-requires : goal.fetch_add-requires
fetch_add-requires g c = let t = c.requires.table in let s = c.requires.seat in let k = c.requires.tokens in let words : c.args.top.now.table_id.words
    ≡ 258 = t.1 in
    let spends : length g.J.Ask.spent ≡ c.args.spent = c.requires.asked.0 in let makes : length g.J.Ask.made ≡ c.args.made = c.requires.asked.1 in (
      t.0,
      omega arith,
      commits g.B.Bundle.tokens _ _ _ _ c.args.place.now.me.0 c.args.place.now.me.1 (part_of c.args.place.now) s.2 s.1 (step 0 0 0 0 none) g.J.Ask.spent
          g.J.Ask.made k.2.0 (λ x. (x + (c.args.made - c.args.spent)) % 2 ^ 64)
          (subst (λ (z : ℕ). 0 < z) (sym spends) k.0)
          (subst (λ (z : ℕ). AllTo c.args.place.now.me.0.elements z g.J.Ask.spent) (sym s.3) k.1)
          (subst (λ (z : ℕ). created (part_of c.args.place.now).deeds + z ≤ 2 ^ 40) (sym makes) c.requires.few) k.2.1 (λ x le lt. omega arith),
    )

pub fetch_sub-requires : goal.fetch_sub-requires
fetch_sub-requires g c = let t = c.requires.table in let s = c.requires.seat in let k = c.requires.tokens in let words : c.args.top.now.table_id.words
    ≡ 258 = t.1 in
    let spends : length g.J.Ask.spent ≡ c.args.spent = c.requires.asked.0 in let makes : length g.J.Ask.made ≡ c.args.made = c.requires.asked.1 in (
      t.0,
      omega arith,
      commits g.B.Bundle.tokens _ _ _ _ c.args.place.now.me.0 c.args.place.now.me.1 (part_of c.args.place.now) s.2 s.1 (step 0 0 0 0 none) g.J.Ask.spent
          g.J.Ask.made k.2.0 (λ x. (x + (2 ^ 64 - (c.args.spent - c.args.made))) % 2 ^ 64)
          (subst (λ (z : ℕ). 0 < z) (sym spends) k.0)
          (subst (λ (z : ℕ). AllTo c.args.place.now.me.0.elements z g.J.Ask.spent) (sym s.3) k.1)
          (subst (λ (z : ℕ). created (part_of c.args.place.now).deeds + z ≤ 2 ^ 40) (sym makes) c.requires.few) k.2.1 (λ x le lt. omega arith),
    )
