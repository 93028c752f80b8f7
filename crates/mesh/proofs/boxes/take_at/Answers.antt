use Rattle.std.proofs.Common.{rules, ◌≡◌, ◌<◌, [], ◌∷◌, ℕ, ◌+◌, ◌*◌, arith, ap, sym, ◌∙◌, refl, subst, Some, None}
use Rattle.atomic_table.specs.Table.{rest}
use Rattle.mesh.specs.declared.view.Stage.TheVariants.{Taking}
use Rattle.mesh.specs.declared.view.Part.{Part}
use Rattle.mesh.specs.declared.view.View.{View}
use Rattle.mesh.specs.Rule.{after_take, posed, with_part, Sits}
use Rattle.mesh.specs.Places.{part_of}
use Rattle.mesh.specs.Seats.{AllTo}
use Rattle.mesh.proofs.AtSeats.{looks_from_at, gives_empty_at, second}
use Rattle.mesh.proofs.boxes.take_at.Goals as goal

pub load-requires : goal.load-requires
load-requires g c = let t = c.requires.table in let s = c.requires.seat in let words : c.args.top.now.table_id.words ≡ 258 = t.1
    in let le : c.args.element < 16 = s.1 in let la : c.args.from < 16 = s.2 in (
      t.0,
      omega arith,
      looks_from_at g.B.Bundle.tokens _ _ _ _ c.args.element c.args.place.now.me (part_of c.args.place.now) t.2 s.0.1 s.0.2 s.0.3 c.args.from s.0.0 s.0.4 s.3,
    )

pub returns-then-load-eq0-clause-none : goal.returns-then-load-eq0-clause-none
returns-then-load-eq0-clause-none g c = let s = c.requires.seat in
    (c.load.ensures.2 (part_of c.args.place.now) c.args.from s.0.2 (ap (λ (z : ℕ). 16 * c.args.from + z) (sym s.0.3))
    (subst (λ (z : ℕ). z < 16) (sym s.0.3) s.1)).0 (search rules)

pub exchange-bundle-requires : goal.exchange-bundle-requires
exchange-bundle-requires g c = let s = c.requires.seat in let p : Part = part_of c.args.place.now in
    let did = (c.load.ensures.2 p c.args.from s.0.2 (ap (λ (z : ℕ). 16 * c.args.from + z) (sym s.0.3)) (subst (λ (z : ℕ). z < 16) (sym s.0.3) s.1)).1
    (search rules) in
    let carried = ap (λ m. m.1) did.1 in
    (c.load.ensures.0 ∙ c.requires.table.0, (Some did.0, carried ∙ ap (λ cs. (16 * c.args.from + c.args.element, Some did.0) ∷ rest cs) (sym carried)))

pub store-requires : goal.store-requires
store-requires g c = let t = c.requires.table in let s = c.requires.seat in let p : Part = part_of c.args.place.now
    in let words : c.args.top.now.table_id.words ≡ 258 = t.1 in let le : c.args.element < 16 = s.1 in let la : c.args.from < 16 = s.2 in
    let did = (c.load.ensures.2 p c.args.from s.0.2 (ap (λ (z : ℕ). 16 * c.args.from + z) (sym s.0.3)) (subst (λ (z : ℕ). z < 16) (sym s.0.3) s.1)).1
    (search rules) in
    let bare = c.exchange-bundle.ensures.3 ∙ ap (λ m. (m.0, (16 * c.args.from + c.args.element, None) ∷ rest m.1)) did.1 in
    let v = ap (λ m. m.0) bare in (
      c.exchange-bundle.ensures.0 ∙ (c.load.ensures.0 ∙ t.0),
      omega arith,
      gives_empty_at g.B.Bundle.tokens _ _ _ _ c.args.element c.exchange-bundle.new.seat.me (posed p (Taking c.args.from (g.B.Bundle.tokens did.0))) t.2
          (subst Sits (sym v) s.0.1) (ap (λ (u : View). u.parts) v) s.0.3 c.args.from (g.B.Bundle.tokens did.0)
          (ap (λ m. m.1) bare) refl s.3,
    )

pub returns-clause-table : goal.returns-clause-table
returns-clause-table g c = c.store.ensures.0 ∙ (c.exchange-bundle.ensures.0 ∙ c.load.ensures.0)

pub returns-clause-some : goal.returns-clause-some
returns-clause-some g c = let s = c.requires.seat in let p : Part = part_of c.args.place.now in
    let did = (c.load.ensures.2 p c.args.from s.0.2 (ap (λ (z : ℕ). 16 * c.args.from + z) (sym s.0.3)) (subst (λ (z : ℕ). z < 16) (sym s.0.3) s.1)).1
    (search rules) in
    let bare = c.exchange-bundle.ensures.3 ∙ ap (λ m. (m.0, (16 * c.args.from + c.args.element, None) ∷ rest m.1)) did.1 in
    let v = ap (λ m. m.0) bare in
    let gave = c.store.ensures.2 (posed p (Taking c.args.from (g.B.Bundle.tokens did.0))) c.args.from (g.B.Bundle.tokens did.0) (ap (λ (u : View). u.parts) v) refl in
    let got : c.exchange-bundle.result ≡ Some did.0 = ap (second None) (sym c.exchange-bundle.ensures.2 ∙ ap (λ m. m.1) did.1) in
    rw got (
      gave ∙ ap (λ m. (with_part m.0 (after_take p c.args.from (g.B.Bundle.tokens did.0)), [])) bare,
      subst (λ (z : ℕ). AllTo c.args.place.now.me.0.elements z
          (g.B.Bundle.tokens did.0)) s.0.3 did.2,
    )
