-- STACKS OF NAMES IN CODE. A stack of names has the last one first, and each name's last place is looked up in one step.
use Rattle.std.specs.Prelude.{◌≡◌, ℕ, List, [], ◌∷◌, map, slice_index_or, ⊤}
use Rattle.source_check.specs.Stack.{place, turned_round}
use Rattle.surface_check.specs.declared.bindings.Binding.{Binding}

abbrev pub names_in : List Binding → List ℕ
names_in bs = map (λ (b : Binding). b.name) bs

-- Each entry has the place that its name had before it.
abbrev pub AreShadowed : List Binding → Type 0
AreShadowed [] = ⊤
AreShadowed (b ∷ bs) = (b.before ≡ place b.name (names_in bs)) × AreShadowed bs

pub record IsStack (entries : List Binding) (places : List ℕ) : Type 0 where
  pub placed : (n : ℕ) → slice_index_or places n 0 ≡ place n (names_in (turned_round entries))
  pub shadowed : AreShadowed (turned_round entries)
