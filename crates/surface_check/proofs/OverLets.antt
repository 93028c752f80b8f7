-- `let`.
use Rattle.std.specs.Prelude.{◌≡◌, refl, ℕ, ◌+◌, ◌==◌, ◌||◌, not, Bool, true, false, List, [], ◌∷◌, ◌++◌, length, map, Result}
use Rattle.std.specs.Prelude.{Ok, if◌then◌else◌}
use Rattle.std.specs.List.{list_any}
use Rattle.std.proofs.Common.{◌∙◌, ap, sym, arith, append_assoc}
use Rattle.std.proofs.lemmas.List.{length-append}
use Rattle.semantics.specs.Graph.{same_name}
use Rattle.source.specs.declared.fault.FaultKind.TheVariants.{Arity}
use Rattle.source.specs.declared.word.Word.TheVariants as core_word
use Rattle.source.specs.Tree.{Name, Target}
use Rattle.source.specs.Outside.{is_in, without, bound_by}
use Rattle.surface.specs.declared.fault.Fault.{Fault}
use Rattle.surface.specs.Tree.{Exprs, Body, Let}
use Rattle.surface.specs.Words.{Words, of_core, target_word, part_words, body_words}
use Rattle.surface.specs.Outside.{list_uses, body_uses}
use Rattle.surface.specs.First.{◌>>=◌, must_be}
use Rattle.surface.specs.Rules.{new_targets, list_values, body_values}
use Rattle.source_check.specs.Steps.{since, onto}
use Rattle.source_check.proofs.Stacks.{since-append, back-append, since-deeper, onto-onto}
use Rattle.surface_check.specs.declared.frame.Kind.TheVariants as kind
use Rattle.surface_check.specs.Steps.{Open, State, Plain, entered, no_value, noted, all_noted, steps}
use Rattle.surface_check.proofs.HeadsRead.{by_bytes}
use Rattle.surface_check.proofs.Over.{Setting, IsDeep, around, runs, notes, having, still_deep, notes_both, then_equal, bind_assoc}
use Rattle.surface_check.proofs.OverLists.{OverList}
use Rattle.surface_check.proofs.OverBodies.{left_scope, after_body, OverBody}
use Rattle.surface_check.proofs.OverNames.{naming, over_targets}

-- names that a part binds are no outside names
or-assoc : (a b c : Bool) → ((a || b) || c) ≡ (a || (b || c))
or-assoc true b c = refl
or-assoc false b c = refl

pub any-append : (p : Name → Bool) (xs ys : List Name) → list_any p (xs ++ ys) ≡ (list_any p xs || list_any p ys)
any-append p [] ys = refl
any-append p (x ∷ xs) ys = ap (λ (b : Bool). p x || b) (any-append p xs ys) ∙ sym (or-assoc (p x) (list_any p xs) (list_any p ys))

pub noted_without : (hidden : Name → Bool) (inner more : List Name) (k : ℕ) (xs used : List Name)
    → all_noted by_bytes hidden (more ++ inner) k used xs ≡ all_noted by_bytes hidden inner k used (without more xs)
noted_without hidden inner more k [] used = refl
noted_without hidden inner more k (x ∷ xs) used = rw (any-append (same_name x) more inner) (go (is_in x more) (λ u. noted_without hidden inner more k xs u))
  where
    go : (b : Bool) → ((u : List Name) → all_noted by_bytes hidden (more ++ inner) k u xs ≡ all_noted by_bytes hidden inner k u (without more xs))
        → all_noted by_bytes hidden (more ++ inner) k (if ((b || is_in x inner) || hidden x) || is_in x (since k used) then used else x ∷ used) xs
        ≡ all_noted by_bytes hidden inner k used (if not b then x ∷ without more xs else without more xs)
    go true h = h used
    go false h = h (noted by_bytes hidden inner k used x)

pub bound_deep : (s : Open Name) (xs : List Name) → IsDeep s → IsDeep (record s { scope = xs ++ s.scope })
bound_deep s xs d = record { scope = omega (arith, d.scope, length-append xs s.scope); used = d.used }

pub bound_notes : (g : Setting) (s : Open Name) (xs us : List Name) → IsDeep s → notes g (record s { scope = xs ++ s.scope }) us ≡ notes g s (without xs us)
bound_notes g s xs us d = ap (λ (inner : List Name). all_noted by_bytes (no_value by_bytes g.items s) inner s.turn.start s.used us) (since-deeper s.turn.base xs
    s.scope d.scope)
    ∙ noted_without (no_value by_bytes g.items s) (since s.turn.base s.scope) xs s.turn.start us s.used

-- the names of a list enter the scope
pub enters : (s : Open Name) (xs : List Name)
    → entered (record s { pending = onto xs [] ++ s.pending }) (length s.pending) ≡ record s { scope = xs ++ s.scope }
enters s xs = rw (since-append (onto xs []) s.pending, back-append (onto xs []) s.pending, onto-onto xs [] s.scope) refl

passed : {S A R : Type 0} (b : Bool) (at : ℕ) (x : S) (f : S → Result R Fault) (q : Result A Fault) (h : A → Result R Fault) → f x ≡ (q >>= h)
    → ((must_be b Arity at >>= λ all. Ok x) >>= f) ≡ ((must_be b Arity at >>= λ all. q) >>= h)
passed true at x f q h e = e
passed false at x f q h e = refl

nothing_less : (n : ℕ) → 0 + n ≡ n
nothing_less n = omega arith

pub over_let : (g : Setting) (at : ℕ) (targets : List Target) (es : Exprs) (b : Body) → OverList g es → OverBody g b → OverBody g (Let at targets es b)
over_let g at targets es b h j s rest d =
    let xs : List Name = bound_by targets in
    let n1 : Open Name = naming s (onto xs []) (0 + length targets) in
    let s1 : Open Name = having s (notes g s (list_uses es)) 0 0 kind.Other in
    let d1 : IsDeep s1 = still_deep g s (list_uses es) 0 0 kind.Other d in
    let s2 : Open Name = record s1 { scope = xs ++ s.scope } in
    let last : Result ℕ Fault = body_values (around g s) (xs ++ s.scope) b in
    let L : ℕ → Result (State Name) Fault = λ n. runs g (after_body g s (Let at targets es b) n) rest in
    let ws : Words = body_words b ++ rest in
    ap (runs g s) (append_assoc ((of_core (core_word.Let at) ∷ map target_word targets) ++ of_core core_word.List ∷ part_words es) (of_core (core_word.EndLet at) ∷
    body_words b) rest
    ∙ append_assoc (of_core (core_word.Let at) ∷ map target_word targets) (of_core core_word.List ∷ part_words es) (of_core (core_word.EndLet at) ∷ ws))
    ∙ over_targets g targets s [] 0 (of_core core_word.List ∷ (part_words es ++ of_core (core_word.EndLet at) ∷ ws))
    ∙ then_equal (new_targets (around g s) [] targets) _ (λ u. (list_values (around g s) s.scope es >>= λ n. must_be (n == length targets) Arity at >>= λ all.
    last) >>= L) (λ u. h n1 0 (of_core (core_word.EndLet at) ∷ ws) (record { scope = d.scope; used = d.used })
    ∙ then_equal (list_values (around g s) s.scope es) _ (λ n. (must_be (n == length targets) Arity at >>= λ all. last) >>= L) (λ n. ap (λ (i : ℕ). (must_be
    (i == 0 + length targets) Arity at >>= λ all. Ok (Plain (entered (record s1 { pending = onto xs [] ++ s.pending }) (length s.pending)))) >>= λ u. steps
    by_bytes g.items u ws) (nothing_less n)
    ∙ ap (λ (i : ℕ). (must_be (n == i) Arity at >>= λ all. Ok (Plain (entered (record s1 { pending = onto xs [] ++ s.pending }) (length s.pending)))) >>= λ u. steps
    by_bytes g.items u ws) (nothing_less (length targets))
    ∙ ap (λ (z : Open Name). (must_be (n == length targets) Arity at >>= λ all. Ok (Plain z)) >>= λ u. steps by_bytes g.items u ws) (enters s1 xs)
    ∙ passed (n == length targets) at (Plain s2) (λ u. steps by_bytes g.items u ws) last L (j s2 rest (bound_deep s1 xs d1)
    ∙ ap (λ (us : List Name). last >>= λ m. runs g (record (having s us m 0 kind.Other) { scope = left_scope b (xs ++ s.scope) }) rest) (bound_notes g s1 xs
    (body_uses b) d1 ∙ notes_both g s (list_uses es) (without xs (body_uses b)) 0 0 kind.Other)))
    ∙ sym (bind_assoc (list_values (around g s) s.scope es) (λ n. must_be (n == length targets) Arity at >>= λ all. last) L))
    ∙ sym (bind_assoc (new_targets (around g s) [] targets) (λ u. list_values (around g s) s.scope es >>= λ n. must_be (n == length targets) Arity at >>= λ all.
    last) L)
