-- Lists of expressions and of names.
use Rattle.std.specs.Prelude.{◌≡◌, refl, ℕ, suc, not, ◌&&◌, ◌+◌, ◌==◌, Bool, List, [], ◌∷◌, ◌++◌, length, map, Option, Some, Result, Ok, Err, ⊤}
use Rattle.std.proofs.Common.{◌∙◌, ap, arith}
use Rattle.source.specs.declared.fault.FaultKind.TheVariants.{SameName, Arity}
use Rattle.source.specs.declared.fault.Fault.{Fault}
use Rattle.source.specs.declared.word.Word.{Word}
use Rattle.source.specs.declared.word.Word.TheVariants as word
use Rattle.source.specs.Tree.{Name, NameAt, Target, Bind, Drop, Expr, Call, Exprs, One, More, Function, Program}
use Rattle.source.specs.Words.{target_word, words, part_words, first_words}
use Rattle.source.specs.Outside.{is_in, bare, bound_by, uses, list_uses}
use Rattle.source.specs.First.{◌>>=◌, must}
use Rattle.source.specs.Rules.{item_names, function_in, written_or_one, place_of, new_name, new_names, new_targets, known_function, values}
use Rattle.source.specs.Rules.{list_values, first_values}
use Rattle.source_check.specs.declared.frame.Entry.{Entry}
use Rattle.source_check.specs.declared.frame.Frame.TheVariants as frame
use Rattle.source_check.specs.Steps.{State, since, onto, pushed, ended, bound, shape_at, steps, step}
use Rattle.source_check.proofs.Runs.{mapped, in_turn, tested, one_tested, and_then, mapped_after}
use Rattle.source_check.proofs.Stacks.{since-append}
use Rattle.source_check.proofs.Noted.{by_bytes, all_noted-append}
use Rattle.source_check.proofs.Over.{shape_of, Knows, IsDeep, notes, having, naming, Over, OverList, OverFirsts, still_deep}

add_assoc : (k n m : ℕ) → (k + n) + m ≡ k + (n + m)
add_assoc k n m = omega arith

one_more : (k m : ℕ) → (k + 1) + m ≡ k + suc m
one_more k m = omega arith

nothing_more : (k : ℕ) → k ≡ k + 0
nothing_more k = omega arith

pub nothing_less : (n : ℕ) → 0 + n ≡ n
nothing_less n = omega arith

-- LISTS
pub over_one : (item : Name → Option Entry) (p : Program) (e : Expr) → Over item p e → OverList item p (One e)
over_one item p e h s k d = and_then (step (by_bytes item)) (pushed s (frame.List k)) (words e) (word.Part ∷ []) (values p s.scope e) _ _ (h (pushed s
    (frame.List k)) (record { scope = d.scope; used = d.used })) (λ n. refl)

pub over_more : (item : Name → Option Entry) (p : Program) (e : Expr) (es : Exprs) → Over item p e → OverList item p es → OverList item p (More e es)
over_more item p e es h j s k d =
    let s1 : State Name = having s (notes item s (uses e)) 0 0 in
    rw (all_noted-append (by_bytes item) (since s.turn.base s.scope) s.turn.start (uses e) (list_uses es) s.used)
    (in_turn (step (by_bytes item)) (pushed s (frame.List k)) (words e) (word.Part ∷ part_words es) (values p s.scope e) _ _ _ (h (pushed s
    (frame.List k)) (record { scope = d.scope; used = d.used }))
    (λ n. j s1 (k + n) (still_deep item s (uses e) 0 0 d)
    ∙ mapped_after (list_values p s.scope es) _ (λ m. n + m) (λ m. pushed (having s1 (notes item s1 (list_uses es)) 0 0) (frame.List (k + m))) (λ m. ap
    (λ i. pushed (having s1 (notes item s1 (list_uses es)) 0 0) (frame.List i)) (add_assoc k n m))))

-- CALLS
called : (item : Name → Option Entry) (at : ℕ) (strict : Bool) (f : Name) (g : Function) (s : State Name) (n : ℕ) → shape_at at (item f) ≡ Ok (shape_of g)
    → steps (by_bytes item) (pushed s (frame.List (0 + n))) (word.Call at strict f ∷ []) ≡ mapped (λ m. ended s m at) (must
    (n == length g.params) Arity at >>= λ all. Ok (written_or_one g.results))
called item at strict f g s n q = rw (q, nothing_less n) (tested (step (by_bytes item)) [] (n == length g.params) Arity at (Ok (written_or_one g.results))
    (ended s (written_or_one g.results) at) _ refl)

call_from : (item : Name → Option Entry) (p : Program) (at : ℕ) (strict : Bool) (f : Name) (es : Exprs) (s : State Name) (r : Result Function Fault)
    → OverList item p es → IsDeep s
    → shape_at at (item f) ≡ mapped shape_of r → steps (by_bytes item) s (words (Call at strict f es))
    ≡ mapped (λ n. having s (notes item s (list_uses es)) n at) (r >>= λ g. list_values p s.scope es >>= λ n. must
    (n == length g.params) Arity at >>= λ all. Ok (written_or_one g.results))
call_from item p at strict f es s (Ok g) h d q = rw q (in_turn (step (by_bytes item)) (pushed s (frame.List 0)) (part_words es)
    (word.Call at strict f ∷ []) (list_values p s.scope es) _ _ _ (h s 0 d)
    (λ n. called item at strict f g (having s (notes item s (list_uses es)) 0 0) n q))
call_from item p at strict f es s (Err e) h d q = rw q refl

pub over_call : (item : Name → Option Entry) (p : Program) → Knows item p → (at : ℕ) (strict : Bool) (f : Name) (es : Exprs) → OverList item p es
    → Over item p (Call at strict f es)
over_call item p k at strict f es h s d = call_from item p at strict f es s (known_function at (function_in p f)) h d (k.function at f)

-- NAMES
-- a name that must be new
pub new_word : (item : Name → Option Entry) (p : Program) → Knows item p → {A : Type 0} (s : State Name) (before : List Name) (k : ℕ) (x : NameAt)
    (ws : List (Word Name)) (r : Result A Fault) (g : A → State Name)
    → steps (by_bytes item) (naming s (x.name ∷ before) (k + 1)) ws ≡ mapped g r
    → (bound (by_bytes item) (record s { pending = before ++ s.pending }) x.at x.name (Some (frame.Names (length s.pending) k)) >>= λ u. steps
    (by_bytes item) u ws) ≡ mapped g (new_name p before x >>= λ new. r)
new_word item p know s before k x ws r g h = rw (since-append before s.pending, know.taken x.name)
    (tested (step (by_bytes item)) ws (not (is_in x.name (item_names p)) && not (is_in x.name before)) SameName x.at r (naming s (x.name ∷ before) (k + 1)) g h)

pub over_targets : (item : Name → Option Entry) (p : Program) → Knows item p → (targets : List Target) (s : State Name) (before : List Name) (k : ℕ)
    → steps (by_bytes item) (naming s before k) (map target_word targets) ≡ mapped (λ (u : ⊤). naming s (onto (bound_by targets) before)
    (k + length targets)) (new_targets p before targets)
over_targets item p know [] s before k = ap (λ i. Ok (naming s before i)) (nothing_more k)
over_targets item p know (Drop ∷ targets) s before k = over_targets item p know targets s before (k + 1)
    ∙ ap (λ i. mapped (λ (u : ⊤). naming s (onto (bound_by targets) before) i) (new_targets p before targets)) (one_more k (length targets))
over_targets item p know (Bind x ∷ targets) s before k = new_word item p know s before k x (map target_word targets) (new_targets p (x.name ∷ before) targets) _
    (over_targets item p know targets s (x.name ∷ before) (k + 1)
    ∙ ap (λ i. mapped (λ (u : ⊤). naming s (onto (bound_by targets) (x.name ∷ before)) i) (new_targets p (x.name ∷ before) targets)) (one_more k
    (length targets)))

pub over_params : (item : Name → Option Entry) (p : Program) → Knows item p → (xs : List NameAt) (s : State Name) (before : List Name) (k : ℕ)
    → steps (by_bytes item) (naming s before k) (map (λ (x : NameAt). word.Parameter x.at x.name) xs) ≡ mapped (λ (u : ⊤). naming s (onto
    (bare xs) before) (k + length xs)) (new_names p before xs)
over_params item p know [] s before k = ap (λ i. Ok (naming s before i)) (nothing_more k)
over_params item p know (x ∷ xs) s before k = new_word item p know s before k x (map (λ (x : NameAt). word.Parameter x.at x.name) xs) (new_names p
    (x.name ∷ before) xs) _
    (over_params item p know xs s (x.name ∷ before) (k + 1)
    ∙ ap (λ i. mapped (λ (u : ⊤). naming s (onto (bare xs) (x.name ∷ before)) i) (new_names p (x.name ∷ before) xs)) (one_more k (length xs)))

-- FIRST VALUES
pub naming_deep : (s : State Name) (before : List Name) (k : ℕ) → IsDeep s → IsDeep (naming s before k)
naming_deep s before k d = record { scope = d.scope; used = d.used }

pub over_first_one : (item : Name → Option Entry) (p : Program) → Knows item p → (e : Expr) → Over item p e → OverFirsts item p (One e)
over_first_one item p know e h s before k [] d c = absurd (omega (arith, c))
over_first_one item p know e h s before k (x ∷ []) d c =
    new_word item p know s before k x (words e ++ (word.First ∷ [])) _ _
    (in_turn (step (by_bytes item)) (naming s (x.name ∷ before) (k + 1)) (words e) (word.First ∷ []) (values p s.scope e) _ _ _ (h (naming s
    (x.name ∷ before) (k + 1)) (naming_deep s (x.name ∷ before) (k + 1) d))
    (λ n. one_tested (step (by_bytes item)) [] (n == 1) Arity (place_of e) 1 _ (naming (having s (notes item s (uses e)) 0 0) (x.name ∷ before)
    (k + 1)) _ refl))
over_first_one item p know e h s before k (x ∷ y ∷ xs) d c = absurd (omega (arith, c))

pub over_first_more : (item : Name → Option Entry) (p : Program) → Knows item p → (e : Expr) (es : Exprs) → Over item p e → OverFirsts item p es
    → OverFirsts item p (More e es)
over_first_more item p know e es h j s before k [] d c = absurd (omega (arith, c))
over_first_more item p know e es h j s before k (x ∷ xs) d c =
    let s1 : State Name = having s (notes item s (uses e)) 0 0 in
    rw (all_noted-append (by_bytes item) (since s.turn.base s.scope) s.turn.start (uses e) (list_uses es) s.used)
    (new_word item p know s before k x (words e ++ (word.First ∷ first_words xs es)) _ _
    (in_turn (step (by_bytes item)) (naming s (x.name ∷ before) (k + 1)) (words e) (word.First ∷ first_words xs es) (values p s.scope e) _ _ _ (h
    (naming s (x.name ∷ before) (k + 1)) (naming_deep s (x.name ∷ before) (k + 1) d))
    (λ n. one_tested (step (by_bytes item)) (first_words xs es) (n == 1) Arity (place_of e) 1 _ (naming s1 (x.name ∷ before) (k + 1)) _
    (j s1 (x.name ∷ before) (k + 1) xs (still_deep item s (uses e) 0 0 d) (omega (arith, c))
    ∙ ap (λ i. mapped (λ (u : ⊤). naming (having s1 (notes item s1 (list_uses es)) 0 0) (onto (bare xs) (x.name ∷ before)) i) (first_values p s.scope
    (x.name ∷ before) xs es)) (one_more k (length xs))))))
