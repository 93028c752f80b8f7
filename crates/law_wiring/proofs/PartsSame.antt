-- Parts that are the same by their numbers are the same.
use Rattle.std.proofs.Common.{◌≡◌, Bool, true, false, refl}
use Rattle.std.proofs.lemmas.Bool.{and_parts}
use Rattle.law_net.specs.ContextsParts.{same_part}
use Rattle.law_net.specs.ContextsBlocks.{Side, side}
use Rattle.law_net.proofs.ContextsSames.{same_part-true}
use Rattle.law_wiring.specs.Written.{same_bool, same_side}

pub bool_is : (s t : Bool) → same_bool s t ≡ true → s ≡ t
bool_is true true h = refl
bool_is false false h = refl
bool_is true false h = absurd (cc)
bool_is false true h = absurd (cc)

pub side_is : (t u : Side) → same_side t u ≡ true → t ≡ u
side_is t u h =
    let x = and_parts (same_part t.part u.part) (same_bool t.second u.second) h in
    let a = same_part-true t.part u.part x.0 in
    let c = bool_is t.second u.second x.1 in
    (λ i. side (a i) (c i))
