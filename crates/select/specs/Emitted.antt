-- The instructions of an object: those of a plan in which each uses its holder's slot, in their places.
use Rattle.std.specs.Prelude.{ℕ, ◌==◌, Bool, true, false, List, ◌++◌, map, take, drop, if◌then◌else◌}
use Rattle.tags.specs.declared.value.Origin.{Origin}
use Rattle.tags.specs.declared.value.Origin.TheVariants.{Untold}
use Rattle.semantics.specs.declared.program.Dest.{Dest}
use Rattle.semantics.specs.Program.{Instr, CodeBlock, Program}
use Rattle.semantics.specs.Plan.{Plan}
use Rattle.semantics.specs.Placed.{placed}
use Rattle.semantics.specs.Opcodes.{may_fault, has_sides}
use Rattle.semantics.specs.declared.version.Version.{Version}
use Rattle.semantics.specs.Versions.{version_number}

-- There is an origin where a fault can be made, in an object of version 2.
abbrev pub stated : ℕ → Bool → Origin → Origin
stated version false o = Untold
stated version true o = if version == 2 then o else Untold

-- Where first and second destinations do not differ, one is the first and the others are the second ones.
abbrev pub firsts_of : Bool → List Dest → List Dest → List Dest
firsts_of true ds es = ds
firsts_of false ds es = take 1 (ds ++ es)

abbrev pub seconds_of : Bool → List Dest → List Dest → List Dest
seconds_of true ds es = es
seconds_of false ds es = drop 1 (ds ++ es)

abbrev pub emitted : ℕ → Instr → Instr
emitted version i = record i {
  origin = stated version (may_fault i.op) i.origin;
  firsts = firsts_of (has_sides i.op) i.firsts i.seconds;
  seconds =
      seconds_of (has_sides i.op) i.firsts i.seconds;
}

abbrev pub emitted_instrs : ℕ → List Instr → List Instr
emitted_instrs version is = map (emitted version) is

abbrev pub emitted_block : ℕ → CodeBlock → CodeBlock
emitted_block version c = record c { instrs = emitted_instrs version c.instrs }

abbrev pub emitted_blocks : ℕ → List CodeBlock → List CodeBlock
emitted_blocks version cs = map (emitted_block version) cs

abbrev pub emitted_program : ℕ → Program → Program
emitted_program version p = record { blocks = emitted_blocks version p.blocks; arrays = p.arrays; main = p.main }

-- the program of a plan's code
abbrev pub code_of : Version → Plan → List (List ℕ) → Program
code_of version p slots = emitted_program (version_number version) (placed p slots)
