-- STACKS IN CODE. A stack of names has the last one first, and each name's last place is looked up in one step.
use Rattle.std.specs.Prelude.{◌≡◌, ℕ, suc, ◌==◌, ◌⊎◌, Bool, List, [], ◌∷◌, length, map, slice_index_or, Option, None, Result, MatchResult, Ok, Err}
use Rattle.std.specs.Prelude.{⊤, if◌then◌else◌}
use Rattle.source.specs.declared.fault.Fault.{Fault}
use Rattle.source.specs.declared.fault.FaultKind.TheVariants.{Memory}
use Rattle.source_check.specs.declared.bindings.Binding.{Binding}
use Rattle.source_check.specs.declared.frame.Entry.{Entry}
use Rattle.source_check.specs.Heads.{Heads}
use Rattle.source_check.specs.Steps.{Names, onto}

-- the place after the last entry of that name, counted from the bottom, or 0
abbrev pub place : ℕ → List ℕ → ℕ
place n [] = 0
place n (x ∷ xs) = if n == x then suc (length xs) else place n xs

abbrev pub names_in : List Binding → List ℕ
names_in bs = map (λ (b : Binding). b.name) bs

-- the last one first
abbrev pub turned_round : {X : Type 0} → List X → List X
turned_round xs = onto xs []

-- Each entry has the place that its name had before it.
abbrev pub AreShadowed : List Binding → Type 0
AreShadowed [] = ⊤
AreShadowed (b ∷ bs) = (b.before ≡ place b.name (names_in bs)) × AreShadowed bs

pub record IsStack (entries : List Binding) (places : List ℕ) : Type 0 where
  pub placed : (n : ℕ) → slice_index_or places n 0 ≡ place n (names_in (turned_round entries))
  pub shadowed : AreShadowed (turned_round entries)

-- names by their numbers
abbrev pub by_number : ℕ → ℕ → Bool
by_number i j = i == j

-- what each name's item is, by the name's number
abbrev pub item_in : List (Option Entry) → ℕ → Option Entry
item_in entries n = slice_index_or entries n None

abbrev pub numbers : List (Option Entry) → Names ℕ
numbers entries = record { same = by_number; item = item_in entries }

-- heads as code keeps them
pub record HeadsView : Type 0 where
  pub entries : List (Option Entry)
  pub arrays : ℕ
  pub cells : ℕ
  pub current : Option ℕ
  pub params : ℕ
  pub results : ℕ

abbrev pub heads_in : HeadsView → Heads ℕ
heads_in k = record { item = item_in k.entries; arrays = k.arrays; cells = k.cells; current = k.current; params = k.params; results = k.results }

-- REFUSALS
abbrev pub out_of_memory : Fault
out_of_memory = record { kind = Memory; at = 0 }

-- A step in code does what the definition says, or a growth was refused.
abbrev pub DoesAs : {X : Type 0} → Result ⊤ Fault → X → Result X Fault → Type 0
DoesAs result new wanted = MatchResult result (λ u. wanted ≡ Ok new) (λ f. (f ≡ out_of_memory) ⊎ (wanted ≡ Err f))

-- the items that all heads have
abbrev pub HeadsGive : List (Option Entry) → Result (Heads ℕ) Fault → Type 0
HeadsGive entries (Ok h) = h.item ≡ item_in entries
HeadsGive entries (Err f) = ⊥
