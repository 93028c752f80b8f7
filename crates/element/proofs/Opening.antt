-- A lane before the first event, and lanes that make none.
use Rattle.std.proofs.Common.{◌≡◌, ◌≢◌, refl, sym, ◌∙◌, ap, subst, ℕ, zero, suc, ◌-◌, ◌*◌, ◌/◌, ◌%◌, ◌<◌, ◌≤◌, Bool, false, List, [], ◌∷◌, ◌++◌}
use Rattle.std.proofs.Common.{length, get_or, replicate, Option, Some, None, arith, ⊎_elim}
use Rattle.std.specs.Prelude.{All, sum, ◌==◌}
use Rattle.std.proofs.lemmas.List.{get_or_past, length-replicate}
use Rattle.std.proofs.lemmas.Option.{get_or_from_slice_get}
use Rattle.std.proofs.Math.Dec.{eqb-suc-zero}
use Rattle.istructure.proofs.Fresh.{vacant_here}
use Rattle.std.proofs.lemmas.List.Elements.{All-nil, All-weaker, All-replicate, All-push}
use Rattle.std.proofs.lemmas.Bool.{cases_lt}
use Rattle.tags.specs.declared.value.Value.{Value}
use Rattle.tags.specs.declared.token.Token.{Token}
use Rattle.tags.specs.declared.slot.SlotState.{SlotState}
use Rattle.tags.specs.declared.slot.SlotState.TheVariants.{Empty}
use Rattle.tags.specs.Addresses.{element_of}
use Rattle.semantics.specs.Program.{Program}
use Rattle.semantics.specs.Machine.{Store, CellState, Vacant, at_start}
use Rattle.istructure.specs.OwnCells.{OwnCells, cell_at, all_vacant, own_count}
use Rattle.istructure.specs.Holds.{HoldsCells}
use Rattle.istructure.proofs.Places.{place_from_state, place_is}
use Rattle.frame_manager.specs.Managed.{Managed, is_out, at_first}
use Rattle.element.specs.Near.{Bounds, IsNearCont, IsNearToken, IsNearSlot, IsNearCell}
use Rattle.element.specs.Parts.{Shape, Part, Manages, IsSound, IsSoundManager, bounds}
use Rattle.element.specs.Holding.{Holding, with_queue, IsSoundLane}
use Rattle.element.specs.Openings.{IsOpening, StartsAs, OthersStay}
use Rattle.element.proofs.Only.{manages_as}

pub others_stay : OthersStay
others_stay p z h old new same elements ne own_element own_elements part = record {
  slots = λ f r ours there low. same.slots f r (not_there f ours) ∙ part.slots f r ours there low;
  cells = λ x state e. same.cells x (not_there x (cell_ours x state e)) ∙ part.cells x state e;
  manager = λ first. manages_as h.manager old new (same.out (not_zero first)) (same.requests (not_zero first)) (part.manager first);
  outputs = λ first j. ap (λ (k : ℕ → Option Value). k j) (same.outputs (not_zero first)) ∙ part.outputs first j;
  done = λ first. same.done (not_zero first) ∙ part.done first;
}
  where
    not_there : (f : ℕ) → f % h.shape.elements ≡ h.shape.element → f % z.elements ≢ z.element
    not_there f ours e = ne (sym ours ∙ ap (λ (n : ℕ). f % n) elements ∙ e)

    not_zero : h.shape.element ≡ 0 → z.element ≢ 0
    not_zero first e = ne (first ∙ sym e)

    cell_ours : (x : ℕ) (state : CellState) → cell_at h.cells x ≡ Some state → x % h.shape.elements ≡ h.shape.element
    cell_ours x state e = let w = place_from_state h.cells x state e in let q = place_is h.cells x w.0 w.1
        in subst (λ (n : ℕ). x % n ≡ h.shape.element) own_elements (q.ours ∙ own_element)

-- a received token
pub received_sound : (p : Program) (h : Holding) (t : Token) → IsSoundLane p h → IsNearToken (bounds p h.part.shape) t
    → element_of h.part.shape.elements t.to ≡ h.part.shape.element → IsSoundLane p (with_queue h (h.queue ++ t ∷ []))
received_sound p h t sound near ours = record {
  part = sound.part;
  near = All-push (IsNearToken (bounds p h.part.shape)) h.queue t sound.near near;
  addressed = All-push (λ (x : Token). element_of h.part.shape.elements x.to ≡ h.part.shape.element) h.queue t sound.addressed ours;
  answered = sound.answered;
}

-- ALL IS EMPTY
own_there : (z : Shape) (n x : ℕ) → z.element < z.elements → x % z.elements ≡ z.element → x < n
    → x / z.elements < length (all_vacant n z.element z.elements).states
own_there z n x there ours low =
    let own = all_vacant n z.element z.elements in
    let w = place_from_state own x Vacant (vacant_here n z.element z.elements x there low ours) in
    let q = place_is own x w.0 w.1 in
    subst (λ (k : ℕ). k < length own.states) (sym q.here) q.within

all_of : {A : Type 0} (xs : List A) (v : A) (k : ℕ) → All (λ (x : A). x ≡ v) xs → v ≡ get_or xs k v
all_of xs v k all = ⊎_elim (λ (l : k < length xs). sym (all k v l)) (λ (l : length xs ≤ k). sym (get_or_past xs k v l)) (cases_lt k (length xs))

vacant_held : (z : Shape) (n : ℕ) (s : Store) → ((x : ℕ) → s.cells x ≡ Vacant) → HoldsCells (all_vacant n z.element z.elements) s
vacant_held z n s none x state e =
    let own = all_vacant n z.element z.elements in
    let w = place_from_state own x state e in
    let count : ℕ = own_count n z.element z.elements in
    none x ∙ all_of (replicate count Vacant) Vacant w.0 (All-replicate (λ (c : CellState). c ≡ Vacant) count Vacant refl)
    ∙ get_or_from_slice_get own.states w.0 state Vacant w.2

first_out : (n f : ℕ) → (f == 0) ≡ is_out (at_first n) f
first_out n zero = refl
first_out n (suc f) = eqb-suc-zero f ∙ all_of (replicate (n - 1) false) false f (All-replicate (λ (b : Bool). b ≡ false) (n - 1) false refl)

first_count : (n : ℕ) → 0 < n → length (at_first n).out ≡ n
first_count n some = let e = length-replicate (n - 1) false in omega (arith, e)

opening_sound : (p : Program) (h : Part) → IsOpening p h → IsSound p h
opening_sound p h o = record {
  there = o.there;
  bank = o.bank;
  slots = All-weaker (λ (s : SlotState). s ≡ Empty) (IsNearSlot b) (λ s e. subst (λ (v : SlotState). IsNearSlot b v) (sym e) tt) h.states o.empty;
  own_element = ap (λ (c : OwnCells). c.element) o.cells;
  own_elements = ap (λ (c : OwnCells). c.elements) o.cells;
  own = λ x ours low. subst (λ (c : OwnCells). x / h.shape.elements < length c.states) (sym o.cells) (own_there h.shape (sum p.arrays) x o.there ours low);
  readers = subst (λ (c : OwnCells). All (IsNearCell b) c.states) (sym o.cells)
      (All-replicate (IsNearCell b) (own_count (sum p.arrays) h.shape.element h.shape.elements) Vacant tt);
  manager = λ first. subst (λ (m : Option Managed). IsSoundManager b m) (sym (o.manager first)) (
    first_count (h.shape.elements * h.shape.frames)
        o.some,
    All-nil (IsNearCont b),
  );
  outputs = o.outputs;
}
  where
    b : Bounds
    b = bounds p h.shape

opening_part : (p : Program) (h : Part) → IsOpening p h → StartsAs p h
opening_part p h o inputs = record {
  slots = λ f r ours there low. all_of h.states Empty _ o.empty;
  cells = subst (λ (c : OwnCells). HoldsCells c (at_start p inputs).store) (sym o.cells) (vacant_held h.shape (sum p.arrays) (at_start p inputs).store
      (λ x. refl));
  manager = λ first. subst (λ (m : Option Managed). Manages m (at_start p inputs).store) (sym (o.manager first))
      (record { out = λ f. first_out (h.shape.elements * h.shape.frames) f; requests = refl });
  outputs = λ first j. all_of h.outputs None j o.none;
  done = λ first. sym o.done;
}

pub lane_opens : (p : Program) (h : Holding) → h.queue ≡ [] → h.answered ≡ [] → IsOpening p h.part → IsSoundLane p h × StartsAs p h.part
lane_opens p h queue answered o = (
  record {
    part = opening_sound p h.part o;
    near = subst (λ (ts : List Token). All (IsNearToken (bounds p h.part.shape)) ts) (sym queue) (All-nil (IsNearToken (bounds p h.part.shape)));
    addressed = subst (λ (ts : List Token). All (λ (t : Token). element_of h.part.shape.elements t.to ≡ h.part.shape.element) ts) (sym queue)
        (All-nil (λ (t : Token). element_of h.part.shape.elements t.to ≡ h.part.shape.element));
    answered = answered;
  },
  opening_part p h.part o,
)
