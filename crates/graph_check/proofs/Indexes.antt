-- Names that are looked up, one after another.
use Rattle.std.proofs.Common.{◌≡◌, ℕ, ◌+◌, ◌<◌, Bool, true, false, not, List, [], ◌∷◌, ◌++◌, length, map, get_or, take, Option, Some, None, Result}
use Rattle.std.proofs.Common.{Err, if◌then◌else◌, inl, refl, sym, ap, ◌∙◌, subst, arith, Bor}
use Rattle.std.specs.BTreeMap.{BTreeMap}
use Rattle.std.proofs.lemmas.List.{take_more, length-map, length-take-le, get_or-map}
use Rattle.graph_check.specs.declared.causes.CheckRefusal.{CheckRefusal}
use Rattle.graph_check.specs.declared.faults.CheckFault.{CheckFault}
use Rattle.graph_check.specs.declared.faults.CheckFaultKind.TheVariants.{SameName}
use Rattle.graph_check.specs.Causes.{fault_of}
use Rattle.graph_check.specs.Names.{is_name, IsIndexOf}
use Rattle.graph_check.specs.FirstFault.{repeat_fault, out_of_memory, IsIndexed}

pub refused : (f : ℕ → List ℕ → Option CheckFault) (names : List (List ℕ)) (r : Result (BTreeMap (Bor (List ℕ)) ℕ) CheckRefusal) (e y : CheckRefusal)
    → r ≡ Err y → y ≡ e → fault_of e ≡ out_of_memory → IsIndexed f names r
refused f names r e y is same memory = subst (λ r. IsIndexed f names r) (sym is) (inl (ap fault_of same ∙ memory))

pub named_item : {X : Type 0} (f : X → List ℕ) (items : List X) (i : ℕ) (x : X) (name : List ℕ) → i < length items → x ≡ get_or items i x → name ≡ f x
    → get_or (map f items) i name ≡ name
named_item f items i x name h at is = get_or-map f items i x name h ∙ ap f (sym at) ∙ sym is

pub within : {X : Type 0} (f : X → List ℕ) (items : List X) (i : ℕ) → i < length items → i < length (map f items)
within f items i h = simp length-map h

pub placed : {X : Type 0} (f : X → List ℕ) (items : List X) (i : ℕ) → i < length items → i ≡ length (take i (map f items))
placed f items i h =
    let l = within f items i h in
    sym (length-take-le i (map f items) (omega arith))

pub new_name : (names : List (List ℕ)) (i : ℕ) (name : List ℕ) → is_name name (take i names) ≡ false → repeat_fault names i name ≡ None
new_name names i name e = ap (λ (t : Bool). if t then Some SameName else None) e

pub old_name : (names : List (List ℕ)) (i : ℕ) (name : List ℕ) → is_name name (take i names) ≡ true → repeat_fault names i name ≡ Some SameName
old_name names i name e = ap (λ (t : Bool). if t then Some SameName else None) e

pub present_if : (b new : Bool) → new ≡ not b → new ≡ false → b ≡ true
present_if true new e f = refl
present_if false new e f = cc

pub indexed_more : (m : BTreeMap (Bor (List ℕ)) ℕ) (names : List (List ℕ)) (i : ℕ) (name : List ℕ) → i < length names → get_or names i name ≡ name
    → IsIndexOf m (take i names ++ name ∷ []) → IsIndexOf m (take (i + 1) names)
indexed_more m names i name h at index =
    subst (λ ns. IsIndexOf m ns) (ap (λ n. take i names ++ n ∷ []) (sym at) ∙ sym (take_more names i name h)) index
