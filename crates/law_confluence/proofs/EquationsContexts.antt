-- Whether two contexts are the same, as it is tested.
use Rattle.std.proofs.Common.{◌≡◌, ◌&&◌, ◌==◌, Bool, true, refl, ap, ap₂, ◌∙◌, eqb-true}
use Rattle.semantics.specs.Meaning.{Context, Main, Called, Turned}
use Rattle.lemmas.proofs.Bools.{first_of_and, second_of_and, equal_itself}
use Rattle.law_confluence.specs.EquationsContexts.{same_context}

pub same_context_is : (c d : Context) → same_context c d ≡ true → c ≡ d
same_context_is Main Main e = refl
same_context_is Main (Called d n) e = cc
same_context_is Main (Turned d n j) e = cc
same_context_is (Called c m) Main e = cc
same_context_is (Called c m) (Called d n) e =
    ap₂ (λ c n. Called c n) (same_context_is c d (second_of_and (m == n) (same_context c d) e)) (eqb-true m n (first_of_and (m == n) (same_context c d) e))
same_context_is (Called c m) (Turned d n j) e = cc
same_context_is (Turned c m i) Main e = cc
same_context_is (Turned c m i) (Called d n) e = cc
same_context_is (Turned c m i) (Turned d n j) e =
    let rest = second_of_and (m == n) ((i == j) && same_context c d) e in
    ap₂ (λ c n. Turned c n i) (same_context_is c d (second_of_and (i == j) (same_context c d) rest))
    (eqb-true m n (first_of_and (m == n) ((i == j) && same_context c d) e))
    ∙ ap (λ i. Turned d n i) (eqb-true i j (first_of_and (i == j) (same_context c d) rest))

pub same_itself : (c : Context) → same_context c c ≡ true
same_itself Main = refl
same_itself (Called c n) = ap₂ (λ (a b : Bool). a && b) (equal_itself n) (same_itself c)
same_itself (Turned c n i) =
    ap₂ (λ (a b : Bool). a && b) (equal_itself n) (ap₂ (λ (a b : Bool). a && b) (equal_itself i) (same_itself c))
