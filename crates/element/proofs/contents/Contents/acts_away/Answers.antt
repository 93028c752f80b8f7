use Rattle.std.proofs.Common.{◌≡◌, refl, sym, ◌∙◌, ap, subst, ℕ, ◌/◌, ◌%◌, ◌<◌, length, Option}
use Rattle.std.specs.Prelude.{sum, IsSome}
use Rattle.std.proofs.lemmas.Option.{slice_get-get_or}
use Rattle.tags.specs.declared.token.To.{To}
use Rattle.tags.specs.Addresses.{element_of}
use Rattle.semantics.specs.Program.{Program}
use Rattle.semantics.specs.Machine.{CellState, Vacant}
use Rattle.istructure.proofs.Places.{is_place, cell_at-place}
use Rattle.element.specs.Near.{IsNearTo}
use Rattle.element.specs.Parts.{Part, IsSound, bounds}
use Rattle.element.specs.Holding.{part_of}
use Rattle.element.specs.Changed.{OwnsCell}
use Rattle.element.proofs.contents.Contents.acts_away.Goals as goal

-- a cell that lies here is among those of the element
owns : (p : Program) (h : Part) (x : ℕ) → IsSound p h → x % h.shape.elements ≡ h.shape.element → x < sum p.arrays → OwnsCell h x
owns p h x sound ours low =
    let here : x % h.cells.elements ≡ h.cells.element = ap (λ (n : ℕ). x % n) sound.own_elements ∙ ours ∙ sym sound.own_element in
    let within : x / h.cells.elements < length h.cells.states = subst (λ (n : ℕ). x / n < length h.cells.states) (sym sound.own_elements)
    (sound.own x ours low) in
    let there = cell_at-place h.cells x (x / h.cells.elements) (is_place h.cells x (x / h.cells.elements) record
    { ours = here; here = refl; within = within }) in
    subst (λ (o : Option CellState). IsSome o) (sym (there ∙ slice_get-get_or h.cells.states (x / h.cells.elements) Vacant within)) refl

pub stores-requires-clause-own : goal.stores-requires-clause-own
stores-requires-clause-own g c =
    let p = g.C.Instructions.program c.args._code.now in
    let h : Part = part_of c.args.self.now in
    let to_is : c.args.token.to ≡ To.Store c.in-Store.cell c.in-Store.value = sym c.to.ensures ∙ c.in-Store.is in
    let ours = subst (λ (to : To). element_of h.shape.elements to ≡ h.shape.element) to_is c.requires.can.addressed in
    let low = subst (λ (to : To). IsNearTo (bounds p h.shape) to) to_is c.requires.can.near.to in
    owns p h c.in-Store.cell c.requires.can.sound.part ours low
