-- Bodies, statements and conditionals.
use Rattle.std.specs.Prelude.{◌≡◌, refl, ℕ, ◌+◌, ◌==◌, ◌≤◌, List, [], ◌∷◌, ◌++◌, length, Result}
use Rattle.std.specs.Prelude.{Ok, ⊤}
use Rattle.std.proofs.Common.{◌∙◌, ap, sym, arith, append_assoc}
use Rattle.std.proofs.lemmas.List.{length-append}
use Rattle.source.specs.declared.fault.FaultKind.TheVariants.{Arity}
use Rattle.source.specs.declared.word.Word.TheVariants as core_word
use Rattle.source.specs.Tree.{Name}
use Rattle.source.specs.Outside.{bound_by}
use Rattle.surface.specs.declared.fault.Fault.{Fault}
use Rattle.surface.specs.declared.word.Word.TheVariants as word
use Rattle.surface.specs.Tree.{Expr, If, Exprs, Body, Let, Do, When, Give, Chain, Tests, Last, Else}
use Rattle.surface.specs.Words.{Words, of_core, words, part_words, body_words, tests_words}
use Rattle.surface.specs.Outside.{uses, list_uses, body_uses, tests_uses}
use Rattle.surface.specs.First.{◌>>=◌, must_be}
use Rattle.surface.specs.Constants.{place_of}
use Rattle.surface.specs.Rules.{one_value, values, list_values, body_values, tests_values}
use Rattle.source_check.specs.Steps.{back}
use Rattle.source_check.proofs.Stacks.{back-deeper, back-itself}
use Rattle.surface_check.specs.declared.frame.Kind.TheVariants as kind
use Rattle.surface_check.specs.declared.frame.Frame.{Frame}
use Rattle.surface_check.specs.declared.frame.Frame.TheVariants as frame
use Rattle.surface_check.specs.Steps.{Open, State, Plain, pushed, steps}
use Rattle.surface_check.proofs.HeadsRead.{by_bytes}
use Rattle.surface_check.proofs.Over.{Setting, IsDeep, around, runs, notes, having, Over, still_deep, notes_both, then_equal, bind_assoc, tested}
use Rattle.surface_check.proofs.Over.{tested_then}
use Rattle.surface_check.proofs.OverLists.{OverList, frame_deep}

abbrev pub left_scope : Body → List Name → List Name
left_scope (Let at targets es rest) scope = left_scope rest (bound_by targets ++ scope)
left_scope (Do es rest) scope = left_scope rest scope
left_scope (When tests rest) scope = left_scope rest scope
left_scope (Give es) scope = scope
left_scope (Chain e) scope = scope

pub left_deeper : (b : Body) (scope : List Name) → length scope ≤ length (left_scope b scope)
left_deeper (Let at targets es rest) scope = omega (arith, left_deeper rest (bound_by targets ++ scope), length-append (bound_by targets) scope)
left_deeper (Do es rest) scope = left_deeper rest scope
left_deeper (When tests rest) scope = left_deeper rest scope
left_deeper (Give es) scope = omega arith
left_deeper (Chain e) scope = omega arith

pub back_left : (b : Body) (k : ℕ) (scope : List Name) → k ≤ length scope → back k (left_scope b scope) ≡ back k scope
back_left (Let at targets es rest) k scope h = back_left rest k (bound_by targets ++ scope) (omega (arith, h, length-append (bound_by targets) scope))
    ∙ back-deeper k (bound_by targets) scope h
back_left (Do es rest) k scope h = back_left rest k scope h
back_left (When tests rest) k scope h = back_left rest k scope h
back_left (Give es) k scope h = refl
back_left (Chain e) k scope h = refl

pub all_back : (b : Body) (scope : List Name) → back (length scope) (left_scope b scope) ≡ scope
all_back b scope = back_left b (length scope) scope (omega arith) ∙ back-itself scope

-- what a body leaves that has n values
abbrev pub after_body : Setting → Open Name → Body → ℕ → Open Name
after_body g s b n = record (having s (notes g s (body_uses b)) n 0 kind.Other) { scope = left_scope b s.scope }

abbrev pub OverBody : Setting → Body → Type 0
OverBody g b = (s : Open Name) (rest : Words) → IsDeep s
    → runs g s (body_words b ++ rest) ≡ (body_values (around g s) s.scope b >>= λ n. runs g (after_body g s b n) rest)

abbrev pub OverTests : Setting → Tests → Type 0
OverTests g tests = (s : Open Name) (rest : Words) → IsDeep s
    → runs g s (tests_words tests ++ rest) ≡ (tests_values (around g s) s.scope tests >>= λ u. runs g (having s (notes g s (tests_uses tests)) 0 0 kind.Other)
    rest)

nothing_less : (n : ℕ) → 0 + n ≡ n
nothing_less n = omega arith

pub over_give : (g : Setting) (es : Exprs) → OverList g es → OverBody g (Give es)
over_give g es h s rest d = ap (λ (ws : Words). runs g (pushed s (frame.List 0)) ws) (append_assoc (part_words es) (of_core core_word.Give ∷ []) rest)
    ∙ h s 0 (of_core core_word.Give ∷ rest) d
    ∙ then_equal (list_values (around g s) s.scope es) _ _ (λ n. ap (λ (i : ℕ). runs g (having s (notes g s (list_uses es)) i 0 kind.Other) rest) (nothing_less n))

pub over_chain : (g : Setting) (e : Expr) → Over g e → OverBody g (Chain e)
over_chain g e h s rest d = ap (runs g s) (append_assoc (words e) (of_core core_word.Chain ∷ []) rest) ∙ h s (of_core core_word.Chain ∷ rest) d refl

pub over_do : (g : Setting) (es : Exprs) (b : Body) → OverList g es → OverBody g b → OverBody g (Do es b)
over_do g es b h j s rest d =
    let s1 : Open Name = having s (notes g s (list_uses es)) 0 0 kind.Other in
    let L : ℕ → Result (State Name) Fault = λ n. runs g (after_body g s (Do es b) n) rest in
    ap (λ (ws : Words). runs g (pushed s (frame.List 0)) ws) (append_assoc (part_words es) (of_core core_word.Do ∷ body_words b) rest)
    ∙ h s 0 (of_core core_word.Do ∷ (body_words b ++ rest)) d
    ∙ then_equal (list_values (around g s) s.scope es) _ (λ n. body_values (around g s) s.scope b >>= L) (λ n. j s1 rest (still_deep g s (list_uses es) 0 0
    kind.Other d)
    ∙ ap (λ (us : List Name). body_values (around g s) s.scope b >>= λ m. runs g (record (having s us m 0 kind.Other) { scope = left_scope b s.scope }) rest)
    (notes_both g s (list_uses es) (body_uses b) 0 0 kind.Other))
    ∙ sym (bind_assoc (list_values (around g s) s.scope es) (λ n. body_values (around g s) s.scope b) L)

pub over_when : (g : Setting) (tests : Tests) (b : Body) → OverTests g tests → OverBody g b → OverBody g (When tests b)
over_when g tests b h j s rest d =
    let s1 : Open Name = having s (notes g s (tests_uses tests)) 0 0 kind.Other in
    let L : ℕ → Result (State Name) Fault = λ n. runs g (after_body g s (When tests b) n) rest in
    ap (λ (ws : Words). runs g (pushed s (frame.List 0)) ws) (append_assoc (tests_words tests) (word.When ∷ body_words b) rest)
    ∙ h (pushed s (frame.List 0)) (word.When ∷ (body_words b ++ rest)) (frame_deep s (frame.List 0) d)
    ∙ then_equal (tests_values (around g s) s.scope tests) _ (λ u. body_values (around g s) s.scope b >>= L) (λ u. j s1 rest (still_deep g s (tests_uses tests)
    0 0 kind.Other d)
    ∙ ap (λ (us : List Name). body_values (around g s) s.scope b >>= λ m. runs g (record (having s us m 0 kind.Other) { scope = left_scope b s.scope }) rest)
    (notes_both g s (tests_uses tests) (body_uses b) 0 0 kind.Other))
    ∙ sym (bind_assoc (tests_values (around g s) s.scope tests) (λ u. body_values (around g s) s.scope b) L)

-- ARMS. A test, and an arm after it, with what follows
arm_as : {R : Type 0} (g : Setting) (q : Expr) (arm : Body) → Over g q → OverBody g arm → (s : Open Name) (ws : Words) → IsDeep s → (f : ℕ → Result R Fault)
    → (L : R → Result (State Name) Fault)
    → ((n : ℕ) → runs g (record (pushed (having s (notes g s (uses q ++ body_uses arm)) n 0 kind.Other) (frame.First (length s.scope))) {
      scope = left_scope arm
          s.scope;
    }) ws ≡ (f n >>= L))
    → runs g s (words q ++ of_core core_word.Then ∷ (body_words arm ++ ws))
    ≡ ((values (around g s) s.scope q >>= λ n. one_value q n >>= λ one. body_values (around g s) s.scope arm >>= f) >>= L)
arm_as {R} g q arm h j s ws d f L e =
    let s1 : Open Name = having s (notes g s (uses q)) 0 0 kind.Other in
    let first : Frame = frame.First (length s.scope) in
    h s (of_core core_word.Then ∷ (body_words arm ++ ws)) d refl
    ∙ then_equal (values (around g s) s.scope q) _ (λ n. (one_value q n >>= λ one. body_values (around g s) s.scope arm >>= f) >>= L)
    (λ n. tested_then (n == 1) Arity (place_of q) (Plain (pushed s1 first)) (λ u. steps by_bytes g.items u (body_words arm ++ ws)) 1 (λ one. body_values
    (around g s) s.scope arm >>= f) L
    (j (pushed s1 first) ws (frame_deep s1 first (still_deep g s (uses q) 0 0 kind.Other d))
    ∙ then_equal (body_values (around g s) s.scope arm) _ (λ m. f m >>= L) (λ m. ap (λ (us : List Name). runs g (record (pushed (having s us m 0 kind.Other)
    first) { scope = left_scope arm s.scope }) ws) (notes_both g s (uses q) (body_uses arm) 0 0 kind.Other) ∙ e m)
    ∙ sym (bind_assoc (body_values (around g s) s.scope arm) f L)))
    ∙ sym (bind_assoc (values (around g s) s.scope q) (λ n. one_value q n >>= λ one. body_values (around g s) s.scope arm >>= f) L)

pub over_last : (g : Setting) (at : ℕ) (q : Expr) (arm : Body) → Over g q → OverBody g arm → OverTests g (Last at q arm)
over_last g at q arm h j s rest d =
    let L : ⊤ → Result (State Name) Fault = λ u. runs g (having s (notes g s (uses q ++ body_uses arm)) 0 0 kind.Other) rest in
    ap (runs g s) (append_assoc (words q ++ of_core core_word.Then ∷ body_words arm) (word.EndWhen at ∷ []) rest
    ∙ append_assoc (words q) (of_core core_word.Then ∷ body_words arm) (word.EndWhen at ∷ rest))
    ∙ arm_as g q arm h j s (word.EndWhen at ∷ rest) d (λ n. Ok tt) L (λ n. ap (λ (scope : List Name). runs g (record (having s (notes g s (uses q ++ body_uses
    arm)) 0 0 kind.Other) { scope = scope }) rest) (all_back arm s.scope))

pub over_else : (g : Setting) (at : ℕ) (q : Expr) (arm : Body) (more : Tests) → Over g q → OverBody g arm → OverTests g more
    → OverTests g (Else at q arm more)
over_else g at q arm more h j k s rest d =
    let us : List Name = uses q ++ body_uses arm in
    let L : ⊤ → Result (State Name) Fault = λ u. runs g (having s (notes g s (us ++ tests_uses more)) 0 0 kind.Other) rest in
    let s1 : Open Name = having s (notes g s us) 0 0 kind.Other in
    let ending : Words = word.EndWhen at ∷ rest in
    ap (runs g s) (append_assoc ((words q ++ of_core core_word.Then ∷ body_words arm) ++ of_core core_word.Else ∷ tests_words more) (word.EndWhen at ∷ []) rest
    ∙ append_assoc (words q ++ of_core core_word.Then ∷ body_words arm) (of_core core_word.Else ∷ tests_words more) ending
    ∙ append_assoc (words q) (of_core core_word.Then ∷ body_words arm) (of_core core_word.Else ∷ (tests_words more ++ ending)))
    ∙ arm_as g q arm h j s (of_core core_word.Else ∷ (tests_words more ++ ending)) d (λ n. tests_values (around g s) s.scope more) L
    (λ n. ap (λ (scope : List Name). runs g (pushed (record s1 { scope = scope }) (frame.Second (length s.scope) n)) (tests_words more ++ ending)) (all_back arm
    s.scope)
    ∙ k (pushed s1 (frame.Second (length s.scope) n)) ending (frame_deep s1 (frame.Second (length s.scope) n) (still_deep g s us 0 0 kind.Other d))
    ∙ then_equal (tests_values (around g s) s.scope more) _ L (λ u. ap (λ (scope : List Name). runs g (record (having s (notes g s1 (tests_uses more)) 0 0
    kind.Other) { scope = scope }) rest) (back-itself s.scope)
    ∙ ap (λ (vs : List Name). runs g (having s vs 0 0 kind.Other) rest) (notes_both g s us (tests_uses more) 0 0 kind.Other)))

pub over_if : (g : Setting) (at : ℕ) (q : Expr) (l r : Body) → Over g q → OverBody g l → OverBody g r → Over g (If at q l r)
over_if g at q l r h i j s rest d w =
    let us : List Name = uses q ++ body_uses l in
    let s1 : Open Name = having s (notes g s us) 0 0 kind.Other in
    let L : ℕ → Result (State Name) Fault = λ n. runs g (having s (notes g s (us ++ body_uses r)) n at kind.Other) rest in
    let ending : Words = of_core (core_word.EndIf at) ∷ rest in
    ap (runs g s) (append_assoc ((words q ++ of_core core_word.Then ∷ body_words l) ++ of_core core_word.Else ∷ body_words r) (of_core (core_word.EndIf at) ∷ [])
    rest
    ∙ append_assoc (words q ++ of_core core_word.Then ∷ body_words l) (of_core core_word.Else ∷ body_words r) ending
    ∙ append_assoc (words q) (of_core core_word.Then ∷ body_words l) (of_core core_word.Else ∷ (body_words r ++ ending)))
    ∙ arm_as g q l h i s (of_core core_word.Else ∷ (body_words r ++ ending)) d (λ n. body_values (around g s) s.scope r >>= λ m. must_be (n == m) Arity at >>= λ
    same. Ok n) L
    (λ n. ap (λ (scope : List Name). runs g (pushed (record s1 { scope = scope }) (frame.Second (length s.scope) n)) (body_words r ++ ending)) (all_back l s.scope)
    ∙ j (pushed s1 (frame.Second (length s.scope) n)) ending (frame_deep s1 (frame.Second (length s.scope) n) (still_deep g s us 0 0 kind.Other d))
    ∙ then_equal (body_values (around g s) s.scope r) _ (λ m. (must_be (n == m) Arity at >>= λ same. Ok n) >>= L) (λ m. ap (λ (scope : List Name). (must_be
    (n == m) Arity at >>= λ same. Ok (Plain (record (having s (notes g s1 (body_uses r)) n at kind.Other) { scope = scope }))) >>= λ u. steps by_bytes g.items u
    rest) (all_back r s.scope)
    ∙ tested (n == m) Arity at (Plain (having s (notes g s1 (body_uses r)) n at kind.Other)) (λ u. steps by_bytes g.items u rest) n L (ap (λ (vs : List Name).
    runs g (having s vs n at kind.Other) rest) (notes_both g s us (body_uses r) 0 0 kind.Other)))
    ∙ sym (bind_assoc (body_values (around g s) s.scope r) (λ m. must_be (n == m) Arity at >>= λ same. Ok n) L))
