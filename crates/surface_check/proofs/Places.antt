-- Places of a table.
use Rattle.std.specs.Prelude.{suc, negsuc, ◌≤◌, ◌-◌, ◌∷◌, ℤ, pos, ◌*ℤ◌, ◌^◌, Result, ◌≡◌, refl, ℕ, ◌<◌, ◌==◌, ◌↔◌, [], Bool, true, false, List, length, slice_index_or, slice_set, Option, None, Some, if◌then◌else◌}
use Rattle.std.proofs.Common.{◌∙◌, ap, arith, sym, subst}
use Rattle.std.proofs.lemmas.Bool.{eqb-true, eqb-false}
use Rattle.std.proofs.lemmas.Int.{to_z-of_z, fits_signed_from_abs, fits_signed_mul}
use Rattle.std.specs.Int.RustNames.{FitsSigned, unsigned_abs}
use mir.Syntax.{w64, w128}
use mir.Val.{to_z, of_z}
use Rattle.std.proofs.lemmas.List.{get_or-set_same, get_or-set_other}
use Rattle.semantics.specs.Graph.{same_name}
use Rattle.semantics.proofs.Lines.{same_name_is, same_name_itself}
use Rattle.source.specs.Tree.{Name}
use Rattle.operators.specs.declared.Binary.TheVariants as binary
use Rattle.surface.specs.declared.fault.Fault.{Fault}
use Rattle.surface.specs.Constants.{is_shift, in_64_bits, directly}
use Rattle.surface_check.specs.declared.entry.Entry.{Entry}
use Rattle.surface_check.specs.declared.evaluation.Part.{Part}
use Rattle.surface_check.specs.Heads.{with_item, last_part}
use Rattle.surface_check.specs.Renamed.{by_number}
use Rattle.surface_check.specs.Table.{item_in}

pub set_item : (entries grown : List (Option Entry)) (name : ℕ) (e : Entry) → ((n : ℕ) → slice_index_or grown n None ≡ slice_index_or entries n None)
    → name < length grown
    → item_in (slice_set grown name (Some e)) ≡ with_item by_number (item_in entries) name e
set_item entries grown name e same room = λ i n. go n (n == name) refl i
  where
    go : (n : ℕ) (b : Bool) → (n == name) ≡ b → slice_index_or (slice_set grown name (Some e)) n None ≡ (if b then Some e else slice_index_or entries n None)
    go n true d = rw (eqb-true n name d) (get_or-set_same grown name (Some e) None room)
    go n false d = get_or-set_other grown name n (Some e) None (eqb-false n name d) ∙ same n

-- a test for equality is that of names
pub is_same_name : (b : Bool) (x y : Name) → (b ≡ true) ↔ (x ≡ y) → b ≡ same_name x y
is_same_name b x y h = go b (same_name x y) refl refl
  where
    go : (c d : Bool) → b ≡ c → same_name x y ≡ d → b ≡ same_name x y
    go true d p q = p ∙ sym (subst (λ z. same_name x z ≡ true) (h.0 p) (same_name_itself x))
    go false false p q = p ∙ sym q
    go false true p q = h.1 (same_name_is x y q) ∙ sym q

pub shifts_by : (at : ℕ) (x y : ℤ) (n : ℕ) (r : Result ℤ Fault) → is_shift y ≡ true → y ≡ pos n → r ≡ in_64_bits at (x *ℤ pos (2 ^ n))
    → r ≡ directly at binary.Shl x y
shifts_by at x y n r h e f = f ∙ sym (subst (λ (z : ℤ). directly at binary.Shl x z ≡ in_64_bits at (x *ℤ pos (2 ^ n))) (sym e) (rw (subst (λ (z : ℤ). is_shift z
    ≡ true) e h) refl))

abs-le : (z : ℤ) → FitsSigned w64 z → unsigned_abs z ≤ 9223372036854775808
abs-le (pos n) f = omega (arith, f.sfits)
abs-le (negsuc n) f = omega (arith, f.sfits)

-- a number of 64 bits that is widened
widened : (z : ℤ) → FitsSigned w64 z → to_z w128 (of_z w128 (to_z w64 (of_z w64 z))) ≡ z
widened z f = ap (λ (y : ℤ). to_z w128 (of_z w128 y)) (to_z-of_z w64 z f) ∙ to_z-of_z w128 z (fits_signed_from_abs w128 z (omega (arith, abs-le z f)))

pub product_back : (x y : ℤ) → FitsSigned w64 x → FitsSigned w64 y
    → to_z w128 (of_z w128 (to_z w128 (of_z w128 (to_z w64 (of_z w64 x))) *ℤ to_z w128 (of_z w128 (to_z w64 (of_z w64 y))))) ≡ x *ℤ y
product_back x y p q = (λ i. to_z w128 (of_z w128 (widened x p i *ℤ widened y q i)))
    ∙ to_z-of_z w128 (x *ℤ y) (fits_signed_mul w128 x y 9223372036854775808 9223372036854775808 (abs-le x p) (abs-le y q) (omega arith))

one_less : (n : ℕ) → suc (suc n) - 1 ≡ suc n
one_less n = omega arith

pub last_place_is : (parts : List Part) (d : Part) → 0 < length parts → (slice_index_or parts (length parts - 1) d).at ≡ last_part parts
last_place_is [] d h = absurd (omega (arith, h))
last_place_is (p ∷ []) d h = refl
last_place_is (p ∷ q ∷ ps) d h = ap (λ (n : ℕ). (slice_index_or (p ∷ q ∷ ps) n d).at) (one_less (length ps))
    ∙ ap (λ (n : ℕ). (slice_index_or (q ∷ ps) n d).at) (sym (less_one (length ps))) ∙ last_place_is (q ∷ ps) d (omega arith)
  where
    less_one : (n : ℕ) → suc n - 1 ≡ n
    less_one n = omega arith
