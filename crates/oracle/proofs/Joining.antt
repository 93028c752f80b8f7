-- A join is an activity of the meaning.
use Rattle.std.proofs.Common.{◌≡◌, Bool, true, false, ◌==◌, List, ◌∷◌, ◌++◌, map, length, Option, Some, None, if◌then◌else◌, IsPermutation, refl}
use Rattle.std.proofs.Common.{ap, ◌∙◌, subst, eqb-true}
use Rattle.std.proofs.lemmas.List.{map-append}
use Rattle.std.proofs.lemmas.List.Sorted.{IsPermutation-map}
use Rattle.semantics.specs.Graph.{Graph, flow_of}
use Rattle.semantics.specs.Text.{HasText}
use Rattle.semantics.specs.Meaning.{Context, block_number}
use Rattle.oracle.specs.declared.invocations.Invocation.{Invocation}
use Rattle.oracle.specs.declared.shapes.Shape.{Shape}
use Rattle.oracle.specs.Deeds.{Deed}
use Rattle.oracle.specs.declared.tokens.Token.{Token}
use Rattle.oracle.specs.Lines.{shape_in, spots_in}
use Rattle.oracle.specs.Acting.{all_there, values_of, remaining_of, deed_in}
use Rattle.oracle.specs.Running.{Alone, Fails, joins, join_all, join_shape, join_in}
use Rattle.oracle.specs.Meant.{name_in, made_of, tagged_of, activity_of}
use Rattle.oracle.specs.Agreeing.{zipped, IsJoin}
use Rattle.oracle.proofs.Acts.{act_law}
use Rattle.oracle.proofs.Partners.{taken_out}
use Rattle.oracle.proofs.ShapeLaws.{own_law, taken_law}

module _ (g : Graph) (text : HasText g) (cs : List Context) (t : Token) (x : Invocation) (made : made_of cs x.made ≡ name_in cs t.context)
    (block : block_number (flow_of g) (name_in cs t.context) ≡ Some x.block) (w : List Token) where
  deeds : (shape : Shape) → shape_in g x.made x.block t.spot ≡ Some shape → length (values_of t (spots_in shape) w) ≡ length (spots_in shape)
      → (o : Option Deed) → deed_in g t.context x shape (values_of t (spots_in shape) w) ≡ o
      → IsJoin g cs t w (joins (remaining_of t (spots_in shape) w) (values_of t (spots_in shape) w) o)
  deeds shape e long None z = tt
  deeds shape e long (Some d) z =
      let ss = spots_in shape in
      let vs = values_of t ss w in
      let left = remaining_of t ss w in
      let whole = IsPermutation-map (tagged_of cs) (t ∷ w) (zipped t.context ss vs ++ left) (taken_out t ss w (own_law g x.made x.block t.spot shape e) long) in
      let parts = map-append (tagged_of cs) (zipped t.context ss vs) left ∙ ap (λ z. z ++ map (tagged_of cs) left)
      (taken_law g cs t.context x made shape vs d z long) in (
        activity_of cs t.context x.made shape vs,
        subst (λ zs. IsPermutation (map (tagged_of cs) (t ∷ w)) zs) parts whole,
        act_law g text cs t.context
            x block shape vs d z,
      )

  shapes : (o : Option Shape) → shape_in g x.made x.block t.spot ≡ o → IsJoin g cs t w (join_shape g w t x o)
  shapes None e = tt
  shapes (Some shape) e =
      let ss = spots_in shape in
      let vs = values_of t ss w in
      let counted : (b : Bool) → (length vs == length ss) ≡ b
      → IsJoin g cs t w (if b then joins (remaining_of t ss w) vs (deed_in g t.context x shape vs) else Fails)
      = λ b. elim b as (λ b. (length vs == length ss) ≡ b
      → IsJoin g cs t w (if b then joins (remaining_of t ss w) vs (deed_in g t.context x shape vs) else Fails)) [
        | true ↦ λ q. deeds shape e (eqb-true (length vs) (length ss) q) (deed_in g t.context x shape vs) refl
        | false ↦ λ q. tt
      ] in
      elim (all_there t ss w) as (λ b. IsJoin g cs t w (if b then join_all g w t x shape else Alone)) [
        | true ↦ counted (length vs == length ss) refl
        | false ↦ tt
      ]

pub join_law : (g : Graph) → HasText g → (cs : List Context) (t : Token) (x : Invocation) → made_of cs x.made ≡ name_in cs t.context
    → block_number (flow_of g) (name_in cs t.context) ≡ Some x.block
    → (w : List Token) → IsJoin g cs t w (join_in g w t (Some x))
join_law g text cs t x made block w = shapes g text cs t x made block w (shape_in g x.made x.block t.spot) refl
