-- A lane before the first event.
use Rattle.std.specs.Prelude.{◌≡◌, ◌≢◌, ℕ, ◌+◌, ◌*◌, ◌<◌, ◌≤◌, ℤ, false, List, [], length, replicate, All, Option, Some, None, sum}
use Rattle.tags.specs.declared.value.Value.{Value}
use Rattle.tags.specs.declared.slot.SlotState.{SlotState}
use Rattle.tags.specs.declared.slot.SlotState.TheVariants.{Empty}
use Rattle.semantics.specs.Program.{Program}
use Rattle.semantics.specs.Machine.{Store, at_start, outputs_of}
use Rattle.istructure.specs.OwnCells.{OwnCells, all_vacant}
use Rattle.frame_manager.specs.Managed.{Managed, at_first}
use Rattle.frame_store.specs.declared.bank.BankMut.{BankMut}
use Rattle.element.specs.Parts.{Shape, Part, IsPart, SameElsewhere}
use Rattle.element.specs.Holding.{Holding}

abbrev pub shape_at : ℕ → ℕ → BankMut → Shape
shape_at element elements b = record { element = element; elements = elements; start = b.start; frames = b.frames; width = b.width }

abbrev pub opened : Shape → List SlotState → OwnCells → Option Managed → ℕ → Holding
opened z states cells manager outputs = record {
  part = record {
    shape = z;
    states = states;
    cells = cells;
    manager = manager;
    outputs = replicate
        outputs None;
    done = false;
  };
  queue = [];
  made = 0;
  answered = [];
}

-- All is empty, and on element 0 frame 0 is out.
pub record IsOpening (p : Program) (h : Part) : Type 0 where
  pub there : h.shape.element < h.shape.elements
  pub some : 0 < h.shape.elements * h.shape.frames
  pub bank : h.shape.start + h.shape.frames * h.shape.width ≤ length h.states
  pub empty : All (λ (s : SlotState). s ≡ Empty) h.states
  pub cells : h.cells ≡ all_vacant (sum p.arrays) h.shape.element h.shape.elements
  pub manager : h.shape.element ≡ 0 → h.manager ≡ Some (at_first (h.shape.elements * h.shape.frames))
  pub outputs : h.shape.element ≡ 0 → length h.outputs ≡ outputs_of p
  pub none : All (λ (o : Option Value). o ≡ None) h.outputs
  pub done : h.done ≡ false

-- it is the element's part of the machine at the start
abbrev pub StartsAs : Program → Part → Type 0
StartsAs p h = (inputs : List ℤ) → IsPart h (at_start p inputs).store

-- where one element makes an event, the parts of the others stay
abbrev pub OthersStay : Type 0
OthersStay = (p : Program) (z : Shape) (h : Part) (old new : Store) → SameElsewhere z old new → h.shape.elements ≡ z.elements → h.shape.element ≢ z.element
    → h.cells.element ≡ h.shape.element → h.cells.elements ≡ h.shape.elements → IsPart h old → IsPart h new
