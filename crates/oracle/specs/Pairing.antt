-- What an activity takes beside a token.
use Rattle.std.specs.Prelude.{◌≡◌, Bool, true, false, List, [], ◌∷◌, ⊤}
use Rattle.tags.specs.declared.value.Value.{Value}
use Rattle.oracle.specs.declared.shapes.Shape.{Shape}
use Rattle.oracle.specs.declared.shapes.Partner.{Partner}
use Rattle.oracle.specs.declared.shapes.Partner.TheVariants.{Nothing, Then, First, Listed}
use Rattle.oracle.specs.declared.gather.Taken.{Taken}
use Rattle.oracle.specs.declared.gather.Taken.TheVariants.{One, Two, Listed as InList}
use Rattle.oracle.specs.declared.tokens.Spot.{Spot}
use Rattle.oracle.specs.declared.tokens.Token.{Token}
use Rattle.oracle.specs.Lines.{spots_in, same_spot}
use Rattle.oracle.specs.Acting.{all_there, remaining_of, values_of}

-- the activity takes the token at that spot, and its partner, and nothing else
abbrev pub IsPartner : Shape → Spot → Partner → Type 0
IsPartner shape s Nothing = spots_in shape ≡ s ∷ []
IsPartner shape s (Then o) = (spots_in shape ≡ s ∷ o ∷ []) × (same_spot o s ≡ false)
IsPartner shape s (First o) = (spots_in shape ≡ o ∷ s ∷ []) × (same_spot o s ≡ false)
IsPartner shape s Listed = ⊤

-- whether the token and all its partners are there: what is then left of those that wait, and the values that are taken
abbrev pub AreTaken : Token → Shape → List Token → List Token → List Value → Bool → Type 0
AreTaken t shape w left vs true = (all_there t (spots_in shape) w ≡ true) × (left ≡ remaining_of t (spots_in shape) w) × (vs ≡ values_of t (spots_in shape) w)
AreTaken t shape w left vs false = (all_there t (spots_in shape) w ≡ false) × (left ≡ w)

-- the values that were taken
abbrev pub taken_in : Taken → List Value → List Value
taken_in (One v) vs = v ∷ []
taken_in (Two v w) vs = v ∷ w ∷ []
taken_in InList vs = vs
