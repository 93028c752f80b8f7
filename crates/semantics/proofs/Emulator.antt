-- One run of the machine, for the examples: it takes the first token that has an event.
use Rattle.std.proofs.Common.{ℕ, zero, suc, ◌+◌, true, false, ℤ, List, [], ◌∷◌, ◌++◌, map, Option, Some, None}
use Rattle.std.specs.Prelude.{if◌then◌else◌, nat_lt}
use Rattle.tags.specs.declared.value.Value.{Value}
use Rattle.tags.specs.declared.value.Origin.TheVariants.{Untold}
use Rattle.tags.specs.declared.token.Port.TheVariants.{Left, Right}
use Rattle.tags.specs.declared.token.Cont.{Cont}
use Rattle.tags.specs.declared.token.Word.{Word}
use Rattle.tags.specs.declared.token.To.{To}
use Rattle.tags.specs.declared.token.Token.{Token}
use Rattle.semantics.specs.declared.program.Dest.{Dest}
use Rattle.semantics.specs.declared.program.Op.{Op}
use Rattle.semantics.specs.Program.{Instr, Program, instr_at}
use Rattle.semantics.specs.Rule.{Outcome, Becomes, Excluded, rule_at}
use Rattle.semantics.specs.Machine.{Machine, Store, CellState, Vacant, Full, Deferred, slot_in, slot_used, with_slot_in, with_cell, with_out}
use Rattle.semantics.specs.Machine.{with_requests, with_output, with_done, answer, answers, outputs_of, at_start, stuck_rule, host_rule}

-- the store after an event and the tokens that it makes, or none where the token has no event
abbrev Done : Type 0
Done = Option (Store × List Token)

abbrev by_outcome : Store → ℕ → Option ℕ → Outcome → Done
by_outcome s f r (Excluded n) = None
by_outcome s f r (Becomes v ts) = Some (with_slot_in s f r v, ts)

abbrev by_fetch : Store → ℕ → Cont → CellState → Done
by_fetch s x c Vacant = Some (with_cell s x (Deferred (c ∷ [])), [])
by_fetch s x c (Deferred rs) = Some (with_cell s x (Deferred (rs ++ c ∷ [])), [])
by_fetch s x c (Full v) = Some (s, answer c (Word.Val v) ∷ [])

abbrev by_store : Store → ℕ → Value → Cont → CellState → Done
by_store s x v c Vacant = Some (with_cell s x (Full v), answer c (Word.Val v) ∷ [])
by_store s x v c (Deferred rs) = Some (with_cell s x (Full v), answers (rs ++ c ∷ []) v)
by_store s x v c (Full w) = None

-- the free frame of least number
abbrev free_from : ℕ → ℕ → Store → Option ℕ
free_from zero f s = None
free_from (suc n) f s = if s.out f then free_from n (f + 1) s else Some f

abbrev by_request : Store → Cont → Option ℕ → Done
by_request s c None = Some (with_requests s (s.requests ++ c ∷ []), [])
by_request s c (Some f) = Some (with_out s f true, answer c (Word.Frame f) ∷ [])

abbrev by_release : Store → ℕ → List Cont → Done
by_release s f [] = Some (with_out s f false, [])
by_release s f (c ∷ cs) = Some (with_requests s cs, answer c (Word.Frame f) ∷ [])

abbrev by_host : Store → ℕ → Option ℕ → ℕ → Word → Done
by_host s m (Some r) j w = None
by_host s m None j (Word.Val v) = if nat_lt j m then Some (with_output s j v, []) else Some (with_done s, [])
by_host s m None j w = Some (with_done s, [])

abbrev by_token : Program → ℕ → Store → To → Word → Done
by_token p n s (To.Instr f ip port) w = by_outcome s f (slot_used (instr_at p ip)) (rule_at p record { frame = f; ip = ip } (instr_at p ip)
    (slot_in s f (slot_used (instr_at p ip))) port w)
by_token p n s (To.Fetch x) (Word.Back c) = by_fetch s x c (s.cells x)
by_token p n s (To.Store x v) (Word.Back c) = by_store s x v c (s.cells x)
by_token p n s To.Manager (Word.Back c) = by_request s c (free_from n 0 s)
by_token p n s (To.Release f) w = if s.out f then by_release s f s.requests else None
by_token p n s (To.Host j) w = by_host s (outputs_of p) (host_rule (outputs_of p) s j w) j w
by_token p n s t w = None

-- an event: the token that it took, those that it made, and the machine after it
pub record Happened : Type 0 where
  pub token : Token
  pub made : List Token
  pub after : Machine

abbrev pub event_from : Program → ℕ → Store → List Token → List Token → Option Happened
event_from p n s before [] = None
event_from p n s before (t ∷ ts) =
    elim (by_token p n s t.to t.word) as (λ x. Option Happened) [
      | None ↦ event_from p n s (before ++ t ∷ []) ts
      | Some r ↦ Some record { token = t; made = r.1; after = record { store = r.0; pool = before ++ ts ++ r.1 } }
    ]

-- the machine at the end of a bounded run, and how many events the run had
pub record Came : Type 0 where
  pub machine : Machine
  pub events : ℕ

abbrev came_from : ℕ → Program → ℕ → ℕ → Machine → Came
came_from zero p n e m = record { machine = m; events = e }
came_from (suc k) p n e m = elim (event_from p n m.store [] m.pool) as (λ x. Came) [
  | None ↦ record { machine = m; events = e }
  | Some u
      ↦ came_from k p n (e + 1) u.after
]

-- a run with that number of frames
abbrev pub come : Program → ℕ → List ℤ → Came
come p frames inputs = came_from 200 p frames 0 (at_start p inputs)

-- for each token that is left, the rule that excludes it
abbrev pub excluded : Program → Came → List (Option ℕ)
excluded p c = map (λ (t : Token). stuck_rule p c.machine.store t.to t.word) c.machine.pool

-- BUILDING CODE
abbrev pub instr : Op → ℕ → List Dest → List Dest → Instr
instr op slot firsts seconds = record { op = op; origin = Untold; slot = slot; firsts = firsts; seconds = seconds }

abbrev pub left : ℕ → List Dest
left n = record { ahead = n; port = Left } ∷ []

abbrev pub right : ℕ → List Dest
right n = record { ahead = n; port = Right } ∷ []

abbrev pub none : List Dest
none = []

abbrev pub one_block : ℕ → ℕ → ℕ → List Instr → Program
one_block inputs outputs slots instrs = record {
  blocks = record { inputs = inputs; outputs = outputs; slots = slots; instrs = instrs }
      ∷ [];
  arrays = [];
  main = 0;
}
