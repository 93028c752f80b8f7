-- THE TABLE OF WHAT IS KNOWN, as code has it: what the item of each name is, by the name's number.
use Rattle.std.specs.Prelude.{◌≡◌, ℕ, ◌<◌, ◌⊎◌, List, length, slice_index_or, Option, None, Result, Ok, Err, ⊤, MatchResult}
use Rattle.source.specs.Tree.{Name}
use Rattle.source.specs.declared.fault.FaultKind.TheVariants.{Memory}
use Rattle.source.specs.Words.{name_of}
use Rattle.surface.specs.declared.fault.Fault.{Fault}
use Rattle.surface.specs.declared.fault.FaultKind.TheVariants.{Core}
use Rattle.surface.specs.declared.word.Word.{Word}
use Rattle.surface.specs.Tree.{Program}
use Rattle.surface.specs.Words.{IsProgram}
use Rattle.surface.specs.First.{◌>>=◌}
use Rattle.surface.specs.Known.{Known, nothing, lookup, product}
use Rattle.surface.specs.Rules.{heads}
use Rattle.surface_check.specs.declared.entry.Entry.{Entry}
use Rattle.surface_check.specs.declared.heads.Head.{Head}
use Rattle.surface_check.specs.Evaluates.{Evaluation}
use Rattle.surface_check.specs.declared.evaluation.Part.{Part}
use Rattle.surface_check.specs.declared.heads.Measured.{Measured}
use Rattle.surface_check.specs.Heads.{Heads, lengths_from, shape}
use Rattle.surface_check.specs.Pins.{constant_in, array_in, signature_in}

pub record TableView : Type 0 where
  pub entries : List (Option Entry)
  -- the ranks of all parameters, in order of the functions
  pub ranks : List ℕ

abbrev pub item_in : List (Option Entry) → ℕ → Option Entry
item_in entries n = slice_index_or entries n None

-- What the table says of the names is what is known.
pub record IsTable (names : List Name) (item : ℕ → Option Entry) (ranks : List ℕ) (known : Known) : Type 0 where
  pub constants : (n : ℕ) → n < length names → constant_in (item n) ≡ lookup known.constants (name_of names n)
  pub arrays : (n : ℕ) → n < length names → array_in (item n) ≡ lookup known.arrays (name_of names n)
  pub functions : (n : ℕ) → n < length names → signature_in ranks (item n) ≡ lookup known.functions (name_of names n)

-- a table of all that is known of the program whose words these are
abbrev pub Knows : List Name → List (Word ℕ) → TableView → Type 0
Knows names ws t = (p : Program) → IsProgram names ws p
    → (known : Known) × (heads nothing p ≡ Ok known) × IsTable names (item_in t.entries) t.ranks known

-- heads as code keeps them
pub record HeadsView : Type 0 where
  pub table : TableView
  pub arrays : ℕ
  pub cells : ℕ
  pub open_head : Head ℕ
  pub evaluation : Evaluation

abbrev pub heads_in : HeadsView → Heads ℕ
heads_in k = record {
  item = item_in k.table.entries;
  ranks = k.table.ranks;
  arrays = k.arrays;
  cells = k.cells;
  open_head = k.open_head;
  evaluation = k.evaluation;
}

-- REFUSALS
abbrev pub out_of_memory : Fault
out_of_memory = record { kind = Core Memory; at = 0 }

-- A step in code does what the definition says, or a growth was refused.
abbrev pub DoesAs : {X : Type 0} → Result ⊤ Fault → X → Result X Fault → Type 0
DoesAs result new wanted = MatchResult result (λ u. wanted ≡ Ok new) (λ f. (f ≡ out_of_memory) ⊎ (wanted ≡ Err f))

-- An answer is the definition's, or a growth was refused.
abbrev pub Answers : {X : Type 0} → Result X Fault → Result X Fault → Type 0
Answers result wanted = MatchResult result (λ x. wanted ≡ Ok x) (λ f. (f ≡ out_of_memory) ⊎ (wanted ≡ Err f))

-- the lengths of an array, and how many cells they make
abbrev pub measured : List Part → Result Measured Fault
measured parts = do
  ns ← lengths_from 1 parts
  Ok record { lengths = shape ns; cells = product ns }

-- the items and the ranks that all heads have
abbrev pub HeadsGive : TableView → Result (Heads ℕ) Fault → Type 0
HeadsGive t (Ok h) = (h.item ≡ item_in t.entries) × (h.ranks ≡ t.ranks)
HeadsGive t (Err f) = ⊥
