-- THE NAME OF AN INSTANCE is no name of the text, not that of an instance before, and no hidden one.
use Rattle.std.specs.Prelude.{◌≡◌, ℕ, ◌+◌, ◌<◌, ◌≤◌, ◌^◌, false, List, [], ◌∷◌, length, ⊤}
use Rattle.source.specs.Tree.{Name}
use Rattle.source.specs.Outside.{is_in}
use Rattle.surface.specs.Making.{hidden}
use Rattle.surface.specs.Desugar.{Instance}
use Rattle.surface.specs.Instances.{Wanted, hidden_prefix, named_instances}

abbrev pub NotHidden : Name → Name → Type 0
NotHidden prefix x = (n : ℕ) → x ≡ hidden prefix n → ⊥

abbrev pub AreNew : Name → List Name → List Instance → Type 0
AreNew prefix taken [] = ⊤
AreNew prefix taken (i ∷ instances) = (is_in i.name taken ≡ false) × NotHidden prefix i.name × AreNew prefix (i.name ∷ taken) instances

abbrev pub InstancesAreNew : Type 0
InstancesAreNew = (names : List Name) (ws : List Wanted) → length names < 2 ^ 64 → length ws ≤ 256
    → AreNew (hidden_prefix names) names (named_instances (hidden_prefix names) names 1 ws)
