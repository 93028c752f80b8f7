-- The joins of the ends of a block, by the regions of the ends.
use Rattle.std.specs.Prelude.{ℕ, ◌+◌, ◌-◌, Bool, true, false, List, [], ◌∷◌, ◌++◌, replicate, nat_lt, if◌then◌else◌}
use Rattle.semantics.specs.declared.graph.Region.{Region}
use Rattle.semantics.specs.declared.graph.Region.TheVariants.{Root, Arm}
use Rattle.semantics.specs.declared.graph.Kind.{Kind}
use Rattle.semantics.specs.Graph.{Node}
use Rattle.schemas.specs.Ends.{same_region}
use Rattle.code_map.specs.declared.part.Part.{Part}

pub record Joined : Type 0 where
  pub parts : List Part
  pub ends : List Region

abbrev pub ends_in : Region → List Region → ℕ
ends_in r [] = 0
ends_in r (q ∷ qs) = if same_region q r then ends_in r qs + 1 else ends_in r qs

-- how many ends a conditional has
abbrev pub has_ends : ℕ → List Region → Bool
has_ends k ends = nat_lt 0 (ends_in (Arm k true) ends + ends_in (Arm k false) ends)

abbrev pub closed_parts : List Part → ℕ → ℕ → Bool → Part → List Part
closed_parts ps on off ended part = (ps ++ replicate (on - 1) part) ++ replicate (off - 1) part ++ (if ended then part ∷ [] else [])

abbrev pub closed : Joined → ℕ → Region → Part → Joined
closed j k region part = record {
  parts = closed_parts j.parts (ends_in (Arm k true) j.ends) (ends_in (Arm k false) j.ends) (has_ends k j.ends) part;
  ends = if has_ends k j.ends then j.ends ++ region ∷ [] else j.ends;
}

abbrev pub closed_kind : Joined → ℕ → Kind ℕ → Region → Joined
closed_kind j n Kind.Cond region = closed j n region (Part.Joins n)
closed_kind j n kind region = j

-- from the last conditional to the first one
abbrev pub closed_nodes : Joined → ℕ → List (Node ℕ) → Joined
closed_nodes j n [] = j
closed_nodes j n (node ∷ nodes) = closed_kind (closed_nodes j (n + 1) nodes) n node.kind node.region

abbrev pub closed_flag : Joined → Bool → ℕ → Joined
closed_flag j true k = closed j k Root Part.Turn
closed_flag j false k = j

abbrev pub released : Joined → Joined
released j = record { parts = (j.parts ++ replicate (ends_in Root j.ends - 1) Part.Release) ++ Part.Release ∷ []; ends = j.ends }
