-- Bodies and conditionals.
use Rattle.std.specs.Prelude.{◌≡◌, refl, ℕ, ◌+◌, ◌==◌, ◌≤◌, List, [], ◌∷◌, ◌++◌, length, map, Option, Some, Result, Ok}
use Rattle.std.proofs.lemmas.List.{length-append}
use Rattle.std.proofs.Common.{◌∙◌, ap, arith, append_assoc}
use Rattle.source.specs.declared.fault.FaultKind.TheVariants.{Arity}
use Rattle.source.specs.declared.fault.Fault.{Fault}
use Rattle.source.specs.declared.word.Word.{Word}
use Rattle.source.specs.declared.word.Word.TheVariants as word
use Rattle.source.specs.Tree.{Name, Target, Expr, If, Exprs, Body, Let, Do, Give, Chain, Program}
use Rattle.source.specs.Words.{target_word, words, part_words, body_words}
use Rattle.source.specs.Outside.{bound_by, uses, list_uses, body_uses, without}
use Rattle.source.specs.First.{◌>>=◌, must}
use Rattle.source.specs.Rules.{place_of, new_targets, values, list_values, body_values}
use Rattle.source_check.specs.declared.frame.Entry.{Entry}
use Rattle.source_check.specs.declared.frame.Frame.{Frame}
use Rattle.source_check.specs.declared.frame.Frame.TheVariants as frame
use Rattle.source_check.specs.Steps.{State, since, back, onto, pushed, ended, all_noted, end_let, end_if, steps, step}
use Rattle.source_check.proofs.Runs.{mapped, in_turn, tested, one_tested, and_then}
use Rattle.source_check.proofs.Stacks.{since-append, back-append, since-deeper, back-deeper, back-itself, onto-onto}
use Rattle.source_check.proofs.Noted.{by_bytes, all_noted-append, all_noted-without}
use Rattle.source_check.proofs.Over.{Knows, IsDeep, notes, having, naming, left_scope, Over, OverList, OverBody, still_deep}
use Rattle.source_check.proofs.Listed.{nothing_less, naming_deep, over_targets}

-- BODIES
pub over_give : (item : Name → Option Entry) (p : Program) (es : Exprs) → OverList item p es → OverBody item p (Give es)
over_give item p es h s d = and_then (step (by_bytes item)) (pushed s (frame.List 0)) (part_words es) (word.Give ∷ []) (list_values p s.scope es) _
    (λ n. having s (notes item s (list_uses es)) n 0) (h s 0 d)
    (λ n. ap (λ i. Ok (having s (notes item s (list_uses es)) i 0)) (nothing_less n))

pub over_chain : (item : Name → Option Entry) (p : Program) (e : Expr) → Over item p e → OverBody item p (Chain e)
over_chain item p e h s d = and_then (step (by_bytes item)) s (words e) (word.Chain ∷ []) (values p s.scope e) _ (λ n. having s (notes item s
    (uses e)) n 0) (h s d) (λ n. refl)

pub over_do : (item : Name → Option Entry) (p : Program) (es : Exprs) (rest : Body) → OverList item p es → OverBody item p rest → OverBody item p (Do es rest)
over_do item p es rest h j s d =
    rw (all_noted-append (by_bytes item) (since s.turn.base s.scope) s.turn.start (list_uses es) (body_uses rest) s.used)
    (in_turn (step (by_bytes item)) (pushed s (frame.List 0)) (part_words es) (word.Do ∷ body_words rest) (list_values p s.scope es)
    (λ n. body_values p s.scope rest) _ _ (h s 0 d)
    (λ n. j (having s (notes item s (list_uses es)) 0 0) (still_deep item s (list_uses es) 0 0 d)))

let_word : (item : Name → Option Entry) {A : Type 0} (targets : List Target) (s : State Name) (at n : ℕ) (ws : List (Word Name)) (r : Result A Fault)
    (g : A → State Name)
    → steps (by_bytes item) (record s { scope = bound_by targets ++ s.scope }) ws ≡ mapped g r
    → (end_let (naming s (onto (bound_by targets) []) (0 + length targets)) at (Some (frame.List (0 + n))) >>= λ u. steps (by_bytes item) u ws) ≡ mapped g
    (must (n == length targets) Arity at >>= λ all. r)
let_word item targets s at n ws r g h =
    rw (
      nothing_less n,
      nothing_less (length targets),
      since-append (onto (bound_by targets) []) s.pending,
      back-append (onto
          (bound_by targets) []) s.pending,
      onto-onto (bound_by targets) [] s.scope,
    )
    (tested (step (by_bytes item)) ws (n == length targets) Arity at r (record s { scope = bound_by targets ++ s.scope }) g h)

let_deep : (s : State Name) (xs : List Name) → IsDeep s → IsDeep (record s { scope = xs ++ s.scope })
let_deep s xs d = record { scope = omega (arith, d.scope, length-append xs s.scope); used = d.used }

let_notes : (item : Name → Option Entry) (s : State Name) (xs us : List Name) → IsDeep s
    → notes item (record s { scope = xs ++ s.scope }) us ≡ notes item s (without xs us)
let_notes item s xs us d = ap (λ inner. all_noted (by_bytes item) inner s.turn.start s.used us) (since-deeper s.turn.base xs s.scope d.scope)
    ∙ all_noted-without item (since s.turn.base s.scope) xs s.turn.start us s.used

pub over_let : (item : Name → Option Entry) (p : Program) → Knows item p → (at : ℕ) (targets : List Target) (es : Exprs) (rest : Body)
    → OverList item p es → OverBody item p rest → OverBody item p (Let at targets es rest)
over_let item p know at targets es rest h j s d =
    let n1 : State Name = naming s (onto (bound_by targets) []) (0 + length targets) in
    let s1 : State Name = having s (notes item s (list_uses es)) 0 0 in
    let d1 : IsDeep s1 = still_deep item s (list_uses es) 0 0 d in
    let s2 : State Name = record s1 { scope = bound_by targets ++ s1.scope } in
    rw (
      append_assoc (map target_word targets) (word.List ∷ part_words es) (word.EndLet at ∷ body_words rest),
      all_noted-append (by_bytes item) (since s.turn.base s.scope) s.turn.start (list_uses es) (without (bound_by targets) (body_uses rest)) s.used,
    )
    (in_turn (step (by_bytes item)) (naming s [] 0) (map target_word targets) (word.List ∷ (part_words es ++ (word.EndLet at ∷ body_words rest)))
    (new_targets p [] targets) _ _ _ (over_targets item p know targets s [] 0)
    (λ u. in_turn (step (by_bytes item)) (pushed n1 (frame.List 0)) (part_words es) (word.EndLet at ∷ body_words rest) (list_values p s.scope es) _ _ _
    (h n1 0 (naming_deep s (onto (bound_by targets) []) (0 + length targets) d))
    (λ n. let_word item targets s1 at n (body_words rest) (body_values p (bound_by targets ++ s.scope) rest) _
    (j s2 (let_deep s1 (bound_by targets) d1)
    ∙ ap (λ us. mapped (λ m. record (having s2 us m 0) { scope = left_scope rest s2.scope }) (body_values p s2.scope rest)) (let_notes item s1
    (bound_by targets) (body_uses rest) d1)))))

-- CONDITIONALS
pub left_deeper : (b : Body) (scope : List Name) → length scope ≤ length (left_scope b scope)
left_deeper (Let at targets es rest) scope = omega (arith, left_deeper rest (bound_by targets ++ scope), length-append (bound_by targets) scope)
left_deeper (Do es rest) scope = left_deeper rest scope
left_deeper (Give es) scope = omega arith
left_deeper (Chain e) scope = omega arith

pub back_left : (b : Body) (k : ℕ) (scope : List Name) → k ≤ length scope → back k (left_scope b scope) ≡ back k scope
back_left (Let at targets es rest) k scope h = back_left rest k (bound_by targets ++ scope) (omega (arith, h, length-append (bound_by targets) scope))
    ∙ back-deeper k (bound_by targets) scope h
back_left (Do es rest) k scope h = back_left rest k scope h
back_left (Give es) k scope h = refl
back_left (Chain e) k scope h = refl

pub all_back : (b : Body) (scope : List Name) → back (length scope) (left_scope b scope) ≡ scope
all_back b scope = back_left b (length scope) scope (omega arith) ∙ back-itself scope

-- one more frame
pub frame_deep : (s : State Name) (f : Frame) → IsDeep s → IsDeep (pushed s f)
frame_deep s f d = record { scope = d.scope; used = d.used }

end_word : (item : Name → Option Entry) (s : State Name) (r : Body) (at n m : ℕ)
    → (end_if (record s { scope = left_scope r s.scope; last = record { count = m; at = 0 } }) at (Some (frame.Second (length s.scope) n)) >>= λ u. Ok u)
    ≡ mapped (λ i. ended s i at) (must (n == m) Arity at >>= λ same. Ok n)
end_word item s r at n m = rw (all_back r s.scope) (tested (step (by_bytes item)) [] (n == m) Arity at (Ok n) (ended s n at) (λ i. ended s i at) refl)

pub over_if : (item : Name → Option Entry) (p : Program) (at : ℕ) (q : Expr) (l r : Body) → Over item p q → OverBody item p l → OverBody item p r
    → Over item p (If at q l r)
over_if item p at q l r h i j s d =
    let s1 : State Name = having s (notes item s (uses q)) 0 0 in
    let d1 : IsDeep s1 = still_deep item s (uses q) 0 0 d in
    let s2 : State Name = having s1 (notes item s1 (body_uses l)) 0 0 in
    let d2 : IsDeep s2 = still_deep item s1 (body_uses l) 0 0 d1 in
    let s3 : State Name = having s2 (notes item s2 (body_uses r)) 0 0 in
    let ending : List (Word Name) = word.EndIf at ∷ [] in
    let second : List (Word Name) = body_words r ++ ending in
    rw (
      append_assoc (words q ++ (word.Then ∷ body_words l)) (word.Else ∷ body_words r) ending,
      append_assoc (words q) (word.Then ∷ body_words l) (word.Else ∷ second),
      all_noted-append (by_bytes item) (since s.turn.base s.scope) s.turn.start (uses q ++ body_uses l) (body_uses r) s.used,
      all_noted-append (by_bytes item) (since s.turn.base s.scope) s.turn.start (uses q) (body_uses l) s.used,
    )
    (in_turn (step (by_bytes item)) s (words q) (word.Then ∷ (body_words l ++ (word.Else ∷ second))) (values p s.scope q) _ _ _ (h s d)
    (λ k. one_tested (step (by_bytes item)) (body_words l ++ (word.Else ∷ second)) (k == 1) Arity (place_of q) 1 _ (pushed s1 (frame.First (length s.scope))) _
    (in_turn (step (by_bytes item)) (pushed s1 (frame.First (length s.scope))) (body_words l) (word.Else ∷ second) (body_values p s.scope l) _ _ _ (i
    (pushed s1 (frame.First (length s.scope))) (frame_deep s1 (frame.First (length s.scope)) d1))
    (λ n. rw (all_back l s.scope) (in_turn (step (by_bytes item)) (pushed s2 (frame.Second (length s.scope) n)) (body_words r) ending
    (body_values p s.scope r) _ _ _
    (j (pushed s2 (frame.Second (length s.scope) n)) (frame_deep s2 (frame.Second (length s.scope) n) d2))
    (λ m. end_word item s3 r at n m))))))
