-- Programs that differ only in what no event shows: how destinations are split where all of them are sent to, origins
-- where no fault is made, and slots where none is used.
use Rattle.std.specs.Prelude.{◌≡◌, Bool, true, false, List, [], ◌∷◌, ◌++◌, ⊤}
use Rattle.semantics.specs.declared.program.Op.{Op}
use Rattle.semantics.specs.declared.program.Op.TheVariants.{Switch, Fetch, Store, Frame, Link, Ask}
use Rattle.semantics.specs.Program.{Instr, CodeBlock, Program}
use Rattle.semantics.specs.Rule.{slot_of}
use Rattle.semantics.specs.Opcodes.{may_fault}

-- where first destinations are distinguished from second ones: at a switch and a link, and where the answer goes to the first
abbrev pub is_split : Op → Bool
is_split Switch = true
is_split (Link b) = true
is_split (Fetch a) = true
is_split (Store a) = true
is_split Frame = true
is_split (Ask o) = true
is_split op = false

pub record AreAlikeInstrs (i j : Instr) : Type 0 where
  pub op : i.op ≡ j.op
  pub slot : slot_of i i.op ≡ slot_of j j.op
  pub dests : i.firsts ++ i.seconds ≡ j.firsts ++ j.seconds
  pub firsts : is_split i.op ≡ true → i.firsts ≡ j.firsts
  pub seconds : is_split i.op ≡ true → i.seconds ≡ j.seconds
  pub origin : may_fault i.op ≡ true → i.origin ≡ j.origin

-- as many, and each is alike
abbrev pub AllAlike : List Instr → List Instr → Type 0
AllAlike [] [] = ⊤
AllAlike [] (j ∷ js) = ⊥
AllAlike (i ∷ is) [] = ⊥
AllAlike (i ∷ is) (j ∷ js) = AreAlikeInstrs i j × AllAlike is js

pub record AreAlikeBlocks (c d : CodeBlock) : Type 0 where
  pub inputs : c.inputs ≡ d.inputs
  pub outputs : c.outputs ≡ d.outputs
  pub instrs : AllAlike c.instrs d.instrs

abbrev pub AllBlocksAlike : List CodeBlock → List CodeBlock → Type 0
AllBlocksAlike [] [] = ⊤
AllBlocksAlike [] (d ∷ ds) = ⊥
AllBlocksAlike (c ∷ cs) [] = ⊥
AllBlocksAlike (c ∷ cs) (d ∷ ds) = AreAlikeBlocks c d × AllBlocksAlike cs ds

pub record AreAlike (p q : Program) : Type 0 where
  pub blocks : AllBlocksAlike p.blocks q.blocks
  pub arrays : p.arrays ≡ q.arrays
  pub main : p.main ≡ q.main
