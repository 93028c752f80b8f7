-- Lanes before the first event.
use Rattle.std.proofs.Common.{◌≡◌, refl, sym, ◌∙◌, ap, subst, ℕ, zero, suc, ◌+◌, ◌-◌, ◌*◌, ◌<◌, ◌≤◌, List, length, take, drop, replicate, Option}
use Rattle.std.proofs.Common.{Some, None, Result, arith}
use Rattle.std.specs.Prelude.{All, sum, IfOk}
use Rattle.std.proofs.Math.Nat.{one-le-mul, suc-mul}
use Rattle.std.proofs.lemmas.List.{length-replicate, take-replicate, drop-replicate}
use Rattle.std.proofs.lemmas.List.Elements.{All-replicate}
use Rattle.tags.specs.declared.value.Value.{Value}
use Rattle.tags.specs.declared.slot.SlotState.{SlotState}
use Rattle.tags.specs.declared.slot.SlotState.TheVariants.{Empty}
use Rattle.semantics.specs.Program.{Program}
use Rattle.semantics.specs.Machine.{outputs_of}
use Rattle.istructure.specs.OwnCells.{OwnCells, all_vacant}
use Rattle.frame_manager.specs.Managed.{Managed, at_first}
use Rattle.element.specs.Parts.{Shape}
use Rattle.element.specs.Holding.{Holding, IsSoundLane}
use Rattle.element.specs.Openings.{opened, IsOpening, StartsAs}
use Rattle.schedule.specs.Starts.{IsFresh, sized}

pub three_ok : {X Y : Type 0} (r : Result X Y) (P Q S R : X → Type 0) → ((x : X) → P x → Q x → S x → R x) → IfOk r P → IfOk r Q → IfOk r S → IfOk r R
three_ok (Result.Ok x) P Q S R f p q s = f x p q s
three_ok (Result.Err e) P Q S R f p q s = tt

module _ (p : Program) (z : Shape) (states : List SlotState) (cells : OwnCells) (manager : Option Managed) (outputs : ℕ) (h : Holding)
    (is : h ≡ opened z states cells manager outputs) where
  shape_is : h.part.shape ≡ z
  shape_is = ap (λ (x : Holding). x.part.shape) is

  pub opening : z.element < z.elements → 0 < z.frames → z.start + z.frames * z.width ≤ length states → All (λ (s : SlotState). s ≡ Empty) states
      → cells ≡ all_vacant (sum p.arrays) z.element z.elements → (z.element ≡ 0 → manager ≡ Some (at_first (z.elements * z.frames))) → outputs
      ≡ outputs_of p → IsOpening p h.part
  opening there frames bank empty cells_are manager_is outputs_are =
      let some : 1 ≤ z.elements * z.frames = one-le-mul {a = z.elements} {b = z.frames} (omega arith) (omega arith) in
      subst (λ (x : Holding). IsOpening p x.part) (sym is) (record {
        there = there;
        some = some;
        bank = bank;
        empty = empty;
        cells = cells_are;
        manager = manager_is;
        outputs = λ first. length-replicate outputs None ∙ outputs_are;
        none = All-replicate (λ (o : Option Value). o ≡ None) outputs None refl;
        done = refl;
      })

  pub fresh : IsSoundLane p h → StartsAs p h.part → IsFresh (sized p z.elements z.frames z.width 0) z.element h
  fresh sound starts = record {
    element = ap (λ (x : Shape). x.element) shape_is;
    elements = ap (λ (x : Shape). x.elements) shape_is;
    frames = ap (λ (x : Shape). x.frames) shape_is;
    width = ap (λ (x : Shape). x.width) shape_is;
    sound = sound;
    starts = starts;
    queue = ap (λ (x : Holding). x.queue) is;
    made = ap (λ (x : Holding). x.made) is;
  }

-- SO MANY BANKS
pub at_least : (k s : ℕ) → 0 < k → s ≤ k * s
at_least zero s some = absurd (omega arith)
at_least (suc j) s some = let e : suc j * s ≡ j * s + s = suc-mul j s in omega (arith, e)

one_less : (k s : ℕ) → 0 < k → k * s - s ≡ (k - 1) * s
one_less zero s some = absurd (omega arith)
one_less (suc j) s some =
    let e : suc j * s ≡ j * s + s = suc-mul j s in
    let f : suc j - 1 ≡ j = omega arith in
    let g : (suc j - 1) * s ≡ j * s = ap (λ (n : ℕ). n * s) f in
    omega (arith, e, g)

pub bank_states_are : (k s : ℕ) (states left : List SlotState) → 0 < k → left ≡ replicate (k * s) Empty → states ≡ take s left → states ≡ replicate s Empty
bank_states_are k s states left some left_is is = is ∙ ap (λ (l : List SlotState). take s l) left_is ∙ take-replicate s (k * s) Empty (at_least k s some)

pub banks_left : (n e s : ℕ) (left new : List SlotState) → e < n → left ≡ replicate ((n - e) * s) Empty → new ≡ drop s left → new
    ≡ replicate ((n - (e + 1)) * s) Empty
banks_left n e s left new low left_is is =
    let some : 0 < n - e = omega arith in
    let less : (n - e) * s - s ≡ (n - e - 1) * s = one_less (n - e) s some in
    let count : n - e - 1 ≡ n - (e + 1) = omega arith in
    is ∙ ap (λ (l : List SlotState). drop s l) left_is ∙ drop-replicate s ((n - e) * s) Empty
    ∙ ap (λ (m : ℕ). replicate m Empty) (less ∙ ap (λ (m : ℕ). m * s) count)

pub banks_arrived : (n e s : ℕ) (left : List SlotState) → e < n → left ≡ replicate ((n - e) * s) Empty → s ≤ length left
banks_arrived n e s left low left_is =
    let some : 0 < n - e = omega arith in
    let least = at_least (n - e) s some in
    let count : length left ≡ (n - e) * s = ap (λ (l : List SlotState). length l) left_is ∙ length-replicate ((n - e) * s) Empty in
    omega arith
