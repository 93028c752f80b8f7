-- What a report of a run of an object says, by whatever means the object was made.
use Rattle.std.specs.Prelude.{◌≡◌, ℕ, ◌<◌, Bool, false, ℤ, List, length}
use Rattle.semantics.specs.Program.{Program, Code}
use Rattle.semantics.specs.Bytes.{IsObject}
use Rattle.semantics.specs.Report.{Report, Shows}
use Rattle.frame_order.specs.InOrder.{IsOrdered}
use Rattle.schedule.specs.declared.config.Config.{Config}
use Rattle.schedule.specs.Setting.{inputs_of as inputs_in_code}
use Rattle.schedule.specs.Runs.{SoFar}
use Rattle.schedule.specs.Starts.{IsGood, Opens}
use Rattle.driver.specs.declared.order.Order.{Order}
use Rattle.driver.specs.Orders.{size_of, RunsByTurns}

-- The bytes are an object, and the machine is at its start on the code of it.
pub record StartsObject (bytes : List ℕ) (inputs : List ℤ) (c : Config) (m : SoFar) : Type 0 where
  pub version : ℕ
  pub code : Code
  pub object : IsObject bytes version code
  -- the bytes are an object of no other code
  pub only : (v : ℕ) (d : Code) → IsObject bytes v d → code ≡ d
  pub width : ℕ
  pub opens : Opens code.program width c inputs m

-- The bytes are an object, and the report is of a run of its code.
pub record ShowsObject (bytes : List ℕ) (inputs : List ℤ) (c : Config) (by_list may_stop : Bool) (r : Report) : Type 0 where
  pub version : ℕ
  pub code : Code
  pub object : IsObject bytes version code
  -- the bytes are an object of no other code
  pub only : (v : ℕ) (c : Code) → IsObject bytes v c → code ≡ c
  pub inputs_fit : length inputs ≡ inputs_in_code code.program
  -- the configuration is one that the machine takes
  pub good : IsGood c
  pub some_frame : 0 < c.frames
  pub shows : Shows code.program (size_of c) inputs c.steps by_list may_stop r
  -- its events are those of a run in which the free frame of least number is handed out, and a released frame goes to the request that has waited longest
  pub in_order : IsOrdered code.program (size_of c) inputs r.events

-- The run of the object's code has the order that `Ordered` asks for.
pub record RunsObject (bytes : List ℕ) (inputs : List ℤ) (c : Config) (Ordered : Program → Config → List ℤ → Report → Type 0) (r : Report) : Type 0 where
  pub version : ℕ
  pub code : Code
  pub object : IsObject bytes version code
  pub ordered : Ordered code.program c inputs r

-- The report is of a run of the object in this order: only where the elements take turns on one thread is the order promised, and no
-- gate asked.
abbrev pub ShowsObjectIn : Order → List ℕ → List ℤ → Config → Bool → Report → Type 0
ShowsObjectIn (Order.InTurn take) bytes inputs c may_stop r = ShowsObject bytes inputs c false false r × RunsObject bytes inputs c (RunsByTurns take) r
ShowsObjectIn (Order.InRounds take) bytes inputs c may_stop r = ShowsObject bytes inputs c false may_stop r
ShowsObjectIn (Order.Free take) bytes inputs c may_stop r = ShowsObject bytes inputs c false may_stop r
