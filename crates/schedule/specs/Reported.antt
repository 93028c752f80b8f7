-- What a report says of lanes.
use Rattle.std.specs.Prelude.{◌≡◌, ℕ, zero, suc, ◌%◌, List, [], ◌∷◌, ◌++◌, length, Option, Some, None, slice_get, slice_index_or, sum, replicate, ◌⊎◌, map}
use Rattle.tags.specs.declared.value.Value.{Value}
use Rattle.tags.specs.declared.slot.SlotState.{SlotState}
use Rattle.tags.specs.declared.slot.SlotState.TheVariants.{Empty}
use Rattle.semantics.specs.declared.report.End.{End}
use Rattle.semantics.specs.Report.{Report, sum_below, waiters}
use Rattle.semantics.specs.Program.{Program}
use Rattle.semantics.specs.Machine.{Events, outputs_of}
use Rattle.schedule.specs.declared.halt.Halt.{Halt}
use Rattle.schedule.specs.Runs.{SoFar, EndsAs}
use Rattle.schedule.specs.Setting.{Setting, total}
use Rattle.istructure.specs.OwnCells.{value_at, cell_at, readers_in}
use Rattle.frame_manager.specs.Managed.{Managed}
use Rattle.frame_manager.specs.Flags.{out_count}
use Rattle.element.specs.Parts.{slot_place}
use Rattle.element.specs.Holding.{Holding, held_of}
use Rattle.schedule.specs.declared.elements.Elements.{Elements}
use Rattle.schedule.specs.State.{state_of}

abbrev pub value_of : ℕ → Option Holding → Option Value
value_of x None = None
value_of x (Some h) = value_at h.part.cells x

abbrev pub readers_of : ℕ → Option Holding → ℕ
readers_of x None = 0
readers_of x (Some h) = readers_in (cell_at h.part.cells x)

-- cell x and frame f lie on element x mod n and f mod n
abbrev pub cell_value : ℕ → List Holding → ℕ → Option Value
cell_value n lanes x = value_of x (slice_get lanes (x % n))

abbrev pub cell_readers : ℕ → List Holding → ℕ → ℕ
cell_readers n lanes x = readers_of x (slice_get lanes (x % n))

abbrev pub entry : ℕ → Option Value → List (ℕ × Value)
entry x None = []
entry x (Some v) = (x, v) ∷ []

-- the full ones of the first k cells
abbrev pub full_below : ℕ → List Holding → ℕ → List (ℕ × Value)
full_below n lanes zero = []
full_below n lanes (suc k) = full_below n lanes k ++ entry k (cell_value n lanes k)

abbrev pub slot_of_lane : ℕ → ℕ → Option Holding → SlotState
slot_of_lane f r None = Empty
slot_of_lane f r (Some h) = slice_index_or h.part.states (slot_place h.part.shape f r) Empty

abbrev pub slot_at : ℕ → List Holding → ℕ → ℕ → SlotState
slot_at n lanes f r = slot_of_lane f r (slice_get lanes (f % n))

abbrev pub credits_below : ℕ → List Holding → ℕ → ℕ → ℕ
credits_below n lanes width f = sum_below width (λ r. waiters (slot_at n lanes f r))

abbrev pub requests_in : Option Managed → ℕ
requests_in None = 0
requests_in (Some m) = length m.requests

abbrev pub out_in : Option Managed → ℕ
out_in None = 0
out_in (Some m) = out_count m.out

-- the report says what lanes hold, of which this is the first
pub record ShowsLanes (g : Setting) (lanes : List Holding) (first : Holding) (r : Report) : Type 0 where
  pub there : slice_get lanes 0 ≡ Some first
  pub outputs : r.outputs ≡ first.part.outputs
  pub cells : r.cells ≡ full_below g.elements lanes (sum g.program.arrays)
  pub deferred : r.deferred ≡ sum_below (sum g.program.arrays) (λ x. cell_readers g.elements lanes x)
  pub requests : r.waiting_frames ≡ requests_in first.part.manager
  pub credits : r.waiting_credits ≡ sum_below (total g) (λ f. credits_below g.elements lanes g.width f)
  pub out : r.frames_out ≡ out_in first.part.manager

-- the same of what a report is made of
abbrev pub ShowsLaneParts : Setting → List Holding → List (Option Value) → List (ℕ × Value) → ℕ → ℕ → ℕ → ℕ → Type 0
ShowsLaneParts g lanes outputs cells deferred requests credits out =
    (first : Holding) × (slice_get lanes 0 ≡ Some first) × (outputs ≡ first.part.outputs) × (cells ≡ full_below g.elements lanes (sum g.program.arrays))
    × (deferred ≡ sum_below (sum g.program.arrays) (λ x. cell_readers g.elements lanes x)) × (requests ≡ requests_in first.part.manager)
    × (credits ≡ sum_below (total g) (λ f. credits_below g.elements lanes g.width f)) × (out ≡ out_in first.part.manager)

-- the report of the machine before its first event, with `outputs` outputs
abbrev pub opening_picture : ℕ → Report
opening_picture outputs = record {
  end = End.Memory;
  outputs = replicate outputs None;
  cells = [];
  deferred = 0;
  waiting_frames = 0;
  waiting_credits =
      0;
  frames_out = 1;
  events = [];
}

-- The report has the events and the end, and says what the lanes hold; where its own lists were refused it is that of the machine
-- before its first event.
abbrev pub IsReportOf : SoFar → Halt → Report → Type 0
IsReportOf k halt r =
    (r ≡ opening_picture (outputs_of k.state.setting.program))
    ⊎ ((r.events ≡ k.events) × EndsAs k.state.setting.program r halt × ((first : Holding) × ShowsLanes k.state.setting k.state.lanes first r))

-- The report of lanes: it has these events and the end, and says what they hold; or its own lists were refused.
abbrev pub ReportsLanes : Setting → List Holding → Events → Halt → Report → Type 0
ReportsLanes g lanes evs halt r =
    (r ≡ opening_picture (outputs_of g.program))
    ⊎ ((r.events ≡ evs) × EndsAs g.program r halt × ShowsLaneParts g lanes r.outputs r.cells r.deferred r.waiting_frames r.waiting_credits r.frames_out)

-- the same of elements in memory
abbrev pub Reports : {C A : Type 0} → (C → Program) → (C → ℕ) → Elements C A → Events → Halt → Report → Type 0
Reports program width m evs halt r = ReportsLanes (state_of program width m).setting (map held_of m.lanes.items) evs halt r
