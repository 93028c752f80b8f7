use Rattle.std.proofs.Common.{◌≡◌, drop, map}
use Rattle.semantics.specs.Graph.{flow_of}
use Rattle.schemas.specs.Flows.{resolved_named}
use Rattle.code_map.specs.Found as Found
use Rattle.code_map.proofs.blocks.push_plain.Given as goal

abbrev pub invariant-loop-number : goal.invariant-loop-number
invariant-loop-number g l =
    Found.all_plain (flow_of l.checked).blocks l.plan (map (λ os. os.items) l.owners.items) l.number (map (resolved_named l.checked) (drop l.number l.blocks))
    ≡ Found.all_plain (flow_of l.checked).blocks l.plan (map (λ os. os.items) l.fn.owners.items) 0 (map (resolved_named l.checked) l.blocks)
