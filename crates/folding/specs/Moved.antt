-- Instructions in their new places, with their new operands.
use Rattle.std.specs.Prelude.{ℕ, ◌+◌, ◌-◌, Bool, ◌||◌, List, ◌∷◌, flat_map, if◌then◌else◌, []}
use Rattle.tags.specs.declared.token.Port.{Port}
use Rattle.semantics.specs.declared.program.Dest.{Dest}
use Rattle.semantics.specs.Program.{Instr}
use Rattle.folding.specs.Folds.{is_folded, is_closed, new_port, new_op}
use Rattle.folding.specs.Places.{Layout, new_place, new_holder, gone_at, folds_at}

-- no word arrives at that port any more: the instruction is left out, or it has that operand in the code
abbrev pub is_shut : Layout → ℕ → Port → Bool
is_shut l m q = gone_at l m || is_closed (folds_at l m) q

-- a destination, by its place and the place of what names it
abbrev pub dest_at : ℕ → ℕ → Port → Dest
dest_at from to port = record { ahead = to - from; port = port }

-- a destination of the n-th instruction, to the m-th one
abbrev pub new_dest : Layout → ℕ → ℕ → Port → Dest
new_dest l n m q = dest_at (new_place l n) (new_place l m) (new_port (folds_at l m) q)

abbrev pub moved_dest : Layout → ℕ → Dest → List Dest
moved_dest l n d = if is_shut l (n + d.ahead) d.port then [] else new_dest l n (n + d.ahead) d.port ∷ []

abbrev pub moved_dests : Layout → ℕ → List Dest → List Dest
moved_dests l n ds = flat_map (moved_dest l n) ds

-- a folded instruction has no holder
abbrev pub new_slot : Layout → ℕ → ℕ → ℕ
new_slot l n h = if is_folded (folds_at l n) then 0 else new_holder l h

-- the n-th instruction
abbrev pub moved : Layout → ℕ → Instr → Instr
moved l n i = record {
  op = new_op (folds_at l n) i.op;
  origin = i.origin;
  slot = new_slot l n i.slot;
  firsts = moved_dests l n i.firsts;
  seconds =
      moved_dests l n i.seconds;
}
