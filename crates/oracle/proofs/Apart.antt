-- Different invocations have different names, and different spots different places.
use Rattle.std.proofs.Common.{◌≡◌, ℕ, zero, suc, ◌+◌, ◌<◌, inl, inr, Bool, true, false, ◌&&◌, ◌==◌, List, [], ◌∷◌, ◌++◌, length, Option, Some, None}
use Rattle.std.proofs.Common.{slice_get, if◌then◌else◌, refl, sym, ap, ◌∙◌, subst, eq-eqb}
use Rattle.lemmas.proofs.SliceGet.{get_some}
use Rattle.semantics.specs.Graph.{Graph}
use Rattle.semantics.specs.Meaning.{Context}
use Rattle.semantics.specs.Meaning as Meaning
use Rattle.oracle.specs.declared.invocations.Made.{Made}
use Rattle.oracle.specs.declared.invocations.Made.TheVariants.{Main, Called, Turned}
use Rattle.oracle.specs.declared.invocations.Invocation.{Invocation}
use Rattle.oracle.specs.declared.tokens.Spot.{Spot}
use Rattle.oracle.specs.declared.tokens.Spot.TheVariants.{Operand, Predicate, Out, Flag, Carried}
use Rattle.oracle.specs.Running.{same_made, made_from, more_if, with_made}
use Rattle.oracle.specs.Meant.{name_in, made_of, statement_of, port_of}
use Rattle.oracle.specs.Naming.{IsBelow, Named}
use Rattle.oracle.proofs.Entering.{get_last}

pub key_same : (s r : Spot) → statement_of s ≡ statement_of r → port_of s ≡ port_of r → s ≡ r
key_same (Operand n i) (Operand m j) e f = cc
key_same (Predicate n) (Predicate m) e f = cc
key_same (Out i) (Out j) e f = cc
key_same (Flag i) (Flag j) e f = cc
key_same (Carried i) (Carried j) e f = cc
key_same s r e f = cc

-- no two invocations were made at one place
abbrev pub MadesDiffer : List Invocation → Type 0
MadesDiffer xs = (i j : ℕ) (x y : Invocation) → slice_get xs i ≡ Some x → slice_get xs j ≡ Some y → x.made ≡ y.made → i ≡ j

abbrev OneName : ℕ → List Context → Context → Type 0
OneName m cs c = (i j : ℕ) → i < m → j < m → name_in cs i ≡ c → name_in cs j ≡ c → i ≡ j

abbrev OneMade : ℕ → List Context → Context → Type 0
OneMade m cs c = (a b : Made) → IsBelow m a → IsBelow m b → made_of cs a ≡ c → made_of cs b ≡ c → a ≡ b

main_made : (m : ℕ) (cs : List Context) → OneMade m cs Meaning.Main
main_made m cs Main Main h k e f = refl
main_made m cs a b h k e f = cc

called_made : (m : ℕ) (cs : List Context) (d : Context) (n : ℕ) → OneName m cs d → OneMade m cs (Meaning.Called d n)
called_made m cs d n one (Called by k) (Called by' k') h l e f =
    let same : by ≡ by' = one by by' h l (cc) (cc) in
    let nodes : k ≡ k' = cc in
    cc
called_made m cs d n one a b h l e f = cc

turned_made : (m : ℕ) (cs : List Context) (d : Context) (n i : ℕ) → OneName m cs d → OneMade m cs (Meaning.Turned d n i)
turned_made m cs d n i one (Turned by k t) (Turned by' k' t') h l e f =
    let same : by ≡ by' = one by by' h l (cc) (cc) in
    let nodes : k ≡ k' = cc in
    let turns : t ≡ t' = cc in
    cc
turned_made m cs d n i one a b h l e f = cc

module _ (g : Graph) (xs : List Invocation) (cs : List Context) (named : Named g xs cs) (differ : MadesDiffer xs) where
  from_made : (c : Context) → OneMade (length xs) cs c → OneName (length xs) cs c
  from_made c one i j h k e f =
      let x = get_some xs i h in
      let y = get_some xs j k in
      differ i j x.0 y.0 x.1 y.1 (one x.0.made y.0.made (named.below i x.0 x.1) (named.below j y.0 y.1) (named.made i x.0 x.1 ∙ e) (named.made j y.0 y.1 ∙ f))

  one_name : (c : Context) → OneName (length xs) cs c
  one_name Meaning.Main = from_made Meaning.Main (main_made (length xs) cs)
  one_name (Meaning.Called d n) = from_made (Meaning.Called d n) (called_made (length xs) cs d n (one_name d))
  one_name (Meaning.Turned d n i) = from_made (Meaning.Turned d n i) (turned_made (length xs) cs d n i (one_name d))

  pub names_same : (i j : ℕ) → i < length xs → j < length xs → name_in cs i ≡ name_in cs j → i ≡ j
  names_same i j h k e = one_name (name_in cs j) i j h k e refl

-- MORE INVOCATIONS

pub made_refl : (a : Made) → same_made a a ≡ true
made_refl Main = refl
made_refl (Called c n) = ap (λ b. b && (n == n)) (eq-eqb c c refl) ∙ ap (λ b. true && b) (eq-eqb n n refl)
made_refl (Turned c n i) =
    ap (λ b. (b && (n == n)) && (i == i)) (eq-eqb c c refl) ∙ ap (λ b. (true && b) && (i == i)) (eq-eqb n n refl)
    ∙ ap (λ b. (true && true) && b) (eq-eqb i i refl)

none_made : (made : Made) (k : ℕ) (xs : List Invocation) → made_from made k xs ≡ None → (i : ℕ) (x : Invocation) → slice_get xs i ≡ Some x → x.made ≡ made → ⊥
none_made made k [] e i x h is = cc
none_made made k (y ∷ xs) e zero x h is =
    let same : y ≡ x = cc in
    let yes : same_made y.made made ≡ true = subst (λ a. same_made y.made a ≡ true) (ap (λ (z : Invocation). z.made) same ∙ is) (made_refl y.made) in
    let no : Some k ≡ None = sym (ap (λ b. if b then Some k else made_from made (k + 1) xs) yes) ∙ e in
    cc
none_made made k (y ∷ xs) e (suc i) x h is =
    let cases : (b : Bool) → (if b then Some k else made_from made (k + 1) xs) ≡ None → made_from made (k + 1) xs ≡ None
    = λ b. elim b as (λ b. (if b then Some k else made_from made (k + 1) xs) ≡ None → made_from made (k + 1) xs ≡ None) [ true ↦ λ q. cc | false ↦ λ q. q ] in
    none_made made (k + 1) xs (cases (same_made y.made made) e) i x h is

mades_added : (xs : List Invocation) (made : Made) (block : ℕ) → MadesDiffer xs → made_from made 0 xs ≡ None
    → MadesDiffer (xs ++ record { made = made; block = block } ∷ [])
mades_added xs made block differ none i j x y h k e =
    let z : Invocation = record { made = made; block = block } in
    elim (get_last xs z i x h) as (λ r. i ≡ j) [
      | inl p ↦ elim (get_last xs z j y k) as (λ r. i ≡ j) [
        | inl q ↦ differ i j x y p q e
        | inr q ↦ absurd (none_made made 0 xs none i x p (e ∙ sym (ap (λ (z : Invocation). z.made) q.1)))
      ]
      | inr p ↦ elim (get_last xs z j y k) as (λ r. i ≡ j) [
        | inl q ↦ absurd (none_made made 0 xs none j y q (sym e ∙ sym (ap (λ (z : Invocation). z.made) p.1)))
        | inr q ↦ p.0 ∙ sym q.0
      ]
    ]

pub mades_more : (xs : List Invocation) (made : Made) (block : ℕ) → MadesDiffer xs → MadesDiffer (with_made xs made block)
mades_more xs made block differ =
    let cases : (o : Option ℕ) → made_from made 0 xs ≡ o → MadesDiffer (more_if xs made block o)
    = λ o. elim o as (λ o. made_from made 0 xs ≡ o → MadesDiffer (more_if xs made block o)) [
      | None ↦ λ e. mades_added xs made block differ e
      | Some k
          ↦ λ e. differ
    ] in
    cases (made_from made 0 xs) refl

-- what holds of each place that an invocation was made at
abbrev pub EachMade : (Made → Type 0) → List Invocation → Type 0
EachMade P xs = (i : ℕ) (x : Invocation) → slice_get xs i ≡ Some x → P x.made

pub made_more : (P : Made → Type 0) (xs : List Invocation) (made : Made) (block : ℕ) → EachMade P xs → P made → EachMade P (with_made xs made block)
made_more P xs made block all here =
    let z : Invocation = record { made = made; block = block } in
    elim (made_from made 0 xs) as (λ o. EachMade P (more_if xs made block o)) [
      | None ↦ λ i x h. elim (get_last xs z i x h) as (λ r. P x.made) [ inl p ↦ all i x p | inr p ↦ subst P (ap (λ (z : Invocation). z.made) p.1) here ]
      | Some k ↦ all
    ]
