use Rattle.std.proofs.Common.{rules, ◌≡◌, ◌<◌, [], ◌∷◌, List, ℕ, ◌+◌, ◌*◌, arith, ap, sym, ◌∙◌, refl, subst, Some, None}
use Rattle.tags.specs.declared.token.Token.{Token}
use Rattle.atomic_table.specs.Table.{rest}
use Rattle.mesh.specs.declared.view.Deed.TheVariants.{FoundFull}
use Rattle.mesh.specs.declared.view.Stage.TheVariants.{Posting}
use Rattle.mesh.specs.declared.view.Part.{Part}
use Rattle.mesh.specs.Rule.{after_post, noted, posed, with_part, Sits}
use Rattle.mesh.specs.declared.view.View.{View}
use Rattle.mesh.specs.Places.{part_of}
use Rattle.mesh.specs.Seats.{AllTo}
use Rattle.mesh.proofs.AtSeats.{looks_to_at, gives_full_at}
use Rattle.mesh.proofs.boxes.post_as.Goals as goal

pub load-requires : goal.load-requires
load-requires g c = let t = c.requires.table in let s = c.requires.seat in let words : c.args.top.now.table_id.words ≡ 258 = t.1
    in let le : c.args.element < 16 = s.1 in let lb : c.args.to < 16 = s.2 in (
      t.0,
      omega arith,
      looks_to_at g.B.Bundle.tokens _ _ _ _ c.args.element c.args.place.now.me (part_of c.args.place.now) t.2 s.0.1 s.0.2 s.0.3 _ c.args.to s.0.0 s.0.4 s.3,
    )

pub returns-then-load-ne0-clause-err : goal.returns-then-load-ne0-clause-err
returns-then-load-ne0-clause-err g c = let s = c.requires.seat in let p : Part = part_of c.args.place.now in
    let did = (c.load.ensures.2 p c.args.to s.0.2 (ap (λ (z : ℕ). 16 * z + c.args.to) (sym s.0.3)) s.2).1 (search rules) in
    (refl, did ∙ ap (λ (x : List Token). (with_part c.args.place.now.me.0 (noted p (FoundFull c.args.to x)), [])) c.requires.offered)

pub exchange-empty-requires : goal.exchange-empty-requires
exchange-empty-requires g c = let s = c.requires.seat in let p : Part = part_of c.args.place.now in
    let did = (c.load.ensures.2 p c.args.to s.0.2 (ap (λ (z : ℕ). 16 * z + c.args.to) (sym s.0.3)) s.2).0 (search rules) in
    let carried = ap (λ m. m.1) did in
    (c.load.ensures.0 ∙ c.requires.table.0, (None, carried ∙ ap (λ cs. (16 * c.args.element + c.args.to, None) ∷ rest cs) (sym carried)))

pub store-requires : goal.store-requires
store-requires g c = let t = c.requires.table in let s = c.requires.seat in let p : Part = part_of c.args.place.now
    in let words : c.args.top.now.table_id.words ≡ 258 = t.1 in let le : c.args.element < 16 = s.1 in let lb : c.args.to < 16 = s.2 in
    let did = (c.load.ensures.2 p c.args.to s.0.2 (ap (λ (z : ℕ). 16 * z + c.args.to) (sym s.0.3)) s.2).0 (search rules) in
    let filled = c.exchange-empty.ensures.3 ∙ ap (λ m. (m.0, (16 * c.args.element + c.args.to, Some c.args.bundle) ∷ rest m.1)) did in
    let v = ap (λ m. m.0) filled in (
      c.exchange-empty.ensures.0 ∙ (c.load.ensures.0 ∙ t.0),
      omega arith,
      gives_full_at g.B.Bundle.tokens _ _ _ _ c.args.element c.exchange-empty.new.seat.me (posed p (Posting c.args.to)) t.2 (subst Sits (sym v) s.0.1)
          (ap (λ (u : View). u.parts) v) s.0.3 c.args.to c.args.bundle
          c.requires.held.1.0 (ap (λ m. m.1) filled) refl s.3 (subst (λ (z : ℕ). AllTo z c.args.to (g.B.Bundle.tokens c.args.bundle))
          (sym (ap (λ (u : View). u.elements) v)) c.requires.held.0) c.requires.held.1.1,
    )

pub returns-clause-table : goal.returns-clause-table
returns-clause-table g c = c.store.ensures.0 ∙ (c.exchange-empty.ensures.0 ∙ c.load.ensures.0)

pub returns-clause-ok : goal.returns-clause-ok
returns-clause-ok g c = let t = c.requires.table in let s = c.requires.seat in let p : Part = part_of c.args.place.now
    in let p1 : Part = posed p (Posting c.args.to) in
    let did = (c.load.ensures.2 p c.args.to s.0.2 (ap (λ (z : ℕ). 16 * z + c.args.to) (sym s.0.3)) s.2).0 (search rules) in
    let filled = c.exchange-empty.ensures.3 ∙ ap (λ m. (m.0, (16 * c.args.element + c.args.to, Some c.args.bundle) ∷ rest m.1)) did in
    let v = ap (λ m. m.0) filled in
    let gave = c.store.ensures.2 p1 c.args.to c.args.bundle (ap (λ (u : View). u.parts) v) refl (ap (λ m. m.1) filled) in
    let q : Part = after_post p c.args.to (g.B.Bundle.tokens c.args.bundle) gave.0 in
    (gave.0, gave.1, gave.2 ∙ ap (λ m. (with_part m.0 q, [])) filled)
