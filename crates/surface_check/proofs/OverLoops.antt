-- `loop`.
use Rattle.std.specs.Prelude.{◌≡◌, refl, ℕ, suc, ◌+◌, ◌==◌, nat_le, ◌||◌, ◌&&◌, not, Bool, true, false, ℤ, pos, int_le, List, [], ◌∷◌, ◌++◌, length}
use Rattle.std.specs.Prelude.{Some, Result, Ok, Err, ⊤, if◌then◌else◌}
use Rattle.std.proofs.Common.{◌∙◌, ap, sym, arith, append_assoc}
use Rattle.std.proofs.lemmas.List.{length-append}
use Rattle.semantics.specs.Graph.{same_name}
use Rattle.source.specs.declared.fault.FaultKind.TheVariants.{Arity, BadBound, TooWide}
use Rattle.source.specs.declared.word.Word.TheVariants as core_word
use Rattle.source.specs.Tree.{Name, NameAt}
use Rattle.source.specs.Outside.{is_in, without, once, bare}
use Rattle.surface.specs.declared.fault.Fault.{Fault}
use Rattle.surface.specs.declared.word.Word.{Word}
use Rattle.surface.specs.Tree.{Count, Written, Constant, Expr, Loop, Exprs, One, More, Body, Turn, Before, After, names_of}
use Rattle.surface.specs.Fits.{count}
use Rattle.surface.specs.Words as tree_words
use Rattle.surface.specs.Words.{Words, of_core, words, bound_word, first_words, body_words, turn_words}
use Rattle.surface.specs.Outside.{uses, list_uses, body_uses, turn_uses, outside_turn}
use Rattle.surface.specs.First.{◌>>=◌, must_be}
use Rattle.surface.specs.Constants.{place_of, constant_named}
use Rattle.surface.specs.Rules.{Around, no_values, good_bound, new_name, one_value, values, first_values, body_values, turn_values}
use Rattle.source_check.specs.Steps.{since, back, onto}
use Rattle.source_check.proofs.Noted.{gathered}
use Rattle.source_check.proofs.Stacks.{since-append, back-append, onto-onto}
use Rattle.surface_check.specs.declared.frame.Kind.TheVariants as kind
use Rattle.surface_check.specs.declared.frame.Last.{Last}
use Rattle.surface_check.specs.declared.frame.Frame.TheVariants as frame
use Rattle.surface_check.specs.Steps.{Open, State, Plain, top, popped, is_part, no_value, all_noted, bounded, turned, closed, end_loop, steps}
use Rattle.surface_check.proofs.HeadsRead.{by_bytes, constants_known}
use Rattle.surface_check.proofs.Over.{Setting, IsDeep, around, runs, notes, having, kind_of, Over, noted_append, still_deep, notes_both, then_equal, bind_assoc}
use Rattle.surface_check.proofs.Over.{tested_then}
use Rattle.surface_check.proofs.OverBodies.{left_scope, back_left, all_back, after_body, OverBody}
use Rattle.surface_check.proofs.OverNames.{naming, bound_as}
use Rattle.surface_check.proofs.OverLets.{any-append}
use Rattle.surface_check.proofs.OverNoted.{hidden_is, gathers_above, gathers_again, hidden_out, gathered_length}

-- FIRST VALUES: the names of a loop, each with its own
pub naming_deep : (s : Open Name) (before : List Name) (k : ℕ) → IsDeep s → IsDeep (naming s before k)
naming_deep s before k d = record { scope = d.scope; used = d.used }

first_as : {A : Type 0} (g : Setting) (e : Expr) → Over g e → (s : Open Name) (before : List Name) (k : ℕ) (ws : Words) → IsDeep s → (q : Result A Fault)
    → (L : A → Result (State Name) Fault) → runs g (naming (having s (notes g s (uses e)) 0 0 kind.Other) before k) ws ≡ (q >>= L)
    → runs g (naming s before k) (words e ++ of_core core_word.First ∷ ws) ≡ ((values (around g s) s.scope e >>= λ n. one_value e n >>= λ one. q) >>= L)
first_as g e h s before k ws d q L eq =
    h (naming s before k) (of_core core_word.First ∷ ws) (naming_deep s before k d) refl
    ∙ then_equal (values (around g s) s.scope e) _ (λ n. (one_value e n >>= λ one. q) >>= L) (λ n. tested_then (n == 1) Arity (place_of e) (Plain (naming
    (having s (notes g s (uses e)) 0 0 kind.Other) before k)) (λ u. steps by_bytes g.items u ws) 1 (λ one. q) L eq)
    ∙ sym (bind_assoc (values (around g s) s.scope e) (λ n. one_value e n >>= λ one. q) L)

-- as many as the names
abbrev pub OverFirsts : Setting → Exprs → Type 0
OverFirsts g es = (xs : List NameAt) → count es ≡ length xs → (s : Open Name) (before : List Name) (k : ℕ) (rest : Words) → IsDeep s
    → runs g (naming s before k) (first_words xs es ++ rest)
    ≡ (first_values (around g s) s.scope before xs es >>= λ begun. runs g (naming (having s (notes g s (list_uses es)) 0 0 kind.Other) (onto (bare xs) before)
    (k + length xs)) rest)

pub over_one_first : (g : Setting) (e : Expr) → Over g e → OverFirsts g (One e)
over_one_first g e h [] c s before k rest d = absurd (omega (arith, c))
over_one_first g e h (x ∷ y ∷ ys) c s before k rest d = absurd (omega (arith, c))
over_one_first g e h (x ∷ []) c s before k rest d =
    let L : ⊤ → Result (State Name) Fault = λ begun. runs g (naming (having s (notes g s (uses e)) 0 0 kind.Other) (x.name ∷ before) (k + 1)) rest in
    ap (runs g (naming s before k)) (append_assoc (of_core (core_word.Start x.at x.name) ∷ words e) (of_core core_word.First ∷ []) rest)
    ∙ bound_as g s before k x (words e ++ of_core core_word.First ∷ rest)
    ∙ then_equal (new_name (around g s) before x) _ (λ new. (values (around g s) s.scope e >>= λ n. one_value e n >>= λ one. Ok tt) >>= L) (λ new. first_as g e h s
    (x.name ∷ before) (k + 1) rest d (Ok tt) L refl)
    ∙ sym (bind_assoc (new_name (around g s) before x) (λ new. values (around g s) s.scope e >>= λ n. one_value e n >>= λ one. Ok tt) L)

one_more : (k m : ℕ) → (k + 1) + m ≡ k + suc m
one_more k m = omega arith

one_fewer : (m n : ℕ) → suc m ≡ suc n → m ≡ n
one_fewer m n h = omega (arith, h)

pub over_more_firsts : (g : Setting) (e : Expr) (es : Exprs) → Over g e → OverFirsts g es → OverFirsts g (More e es)
over_more_firsts g e es h j [] c s before k rest d = absurd (omega (arith, c))
over_more_firsts g e es h j (x ∷ xs) c s before k rest d =
    let a : Around = around g s in
    let s1 : Open Name = having s (notes g s (uses e)) 0 0 kind.Other in
    let more : Result ⊤ Fault = first_values a s.scope (x.name ∷ before) xs es in
    let L : ⊤ → Result (State Name) Fault = λ begun. runs g (naming (having s (notes g s (uses e ++ list_uses es)) 0 0 kind.Other) (onto (bare xs) (x.name ∷ before))
    (k + suc (length xs))) rest in
    ap (runs g (naming s before k)) (append_assoc (of_core (core_word.Start x.at x.name) ∷ words e) (of_core core_word.First ∷ first_words xs es) rest)
    ∙ bound_as g s before k x (words e ++ of_core core_word.First ∷ (first_words xs es ++ rest))
    ∙ then_equal (new_name a before x) _ (λ new. (values a s.scope e >>= λ n. one_value e n >>= λ one. more) >>= L) (λ new. first_as g e h s (x.name ∷ before) (k + 1)
    (first_words xs es ++ rest) d more L (j xs (one_fewer (count es) (length xs) c) s1 (x.name ∷ before) (k + 1) rest (still_deep g s (uses e) 0 0 kind.Other d)
    ∙ then_equal more _ L (λ begun. ap (λ (us : List Name). runs g (naming (having s us 0 0 kind.Other) (onto (bare xs) (x.name ∷ before)) ((k + 1) + length xs)) rest)
    (notes_both g s (uses e) (list_uses es) 0 0 kind.Other)
    ∙ ap (λ (i : ℕ). runs g (naming (having s (notes g s (uses e ++ list_uses es)) 0 0 kind.Other) (onto (bare xs) (x.name ∷ before)) i) rest) (one_more k
    (length xs)))))
    ∙ sym (bind_assoc (new_name a before x) (λ new. values a s.scope e >>= λ n. one_value e n >>= λ one. more) L)

-- A TURN BEGINS
abbrev pub inside : Open Name → List NameAt → ℕ → Open Name
inside s xs m = record s {
  scope = bare xs ++ s.scope;
  turn = record { base = length s.scope; start = length s.used };
  frames = frame.Open s.turn m (length (bare xs ++ s.scope)) ∷ s.frames;
}

pub opened : (g : Setting) (s : Open Name) (xs : List NameAt) (m : ℕ) (ws : Words)
    → (turned (record s { pending = onto (bare xs) [] ++ s.pending }) (Some (frame.Names (length s.pending) m)) >>= λ u. steps by_bytes g.items u ws)
    ≡ runs g (inside s xs m) ws
opened g s xs m ws = rw (since-append (onto (bare xs) []) s.pending, back-append (onto (bare xs) []) s.pending, onto-onto (bare xs) [] s.scope) refl

pub inside_deep : (s : Open Name) (xs : List NameAt) (m : ℕ) → IsDeep (inside s xs m)
inside_deep s xs m = record { scope = omega (arith, length-append (bare xs) s.scope); used = omega arith }

-- AND ENDS
pub without_both : (xs ys us : List Name) → without (xs ++ ys) us ≡ without ys (without xs us)
without_both xs ys [] = refl
without_both xs ys (u ∷ us) = rw (any-append (same_name u) xs ys) (go (is_in u xs) (without_both xs ys us))
  where
    go : (b : Bool) → without (xs ++ ys) us ≡ without ys (without xs us)
        → (if not (b || is_in u ys) then u ∷ without (xs ++ ys) us else without (xs ++ ys) us) ≡ without ys (if not b then u ∷ without xs us else without xs us)
    go true h = h
    go false h = ap (λ (r : List Name). if not (is_in u ys) then u ∷ r else r) h

pub both_tested : {R : Type 0} (b c : Bool) (at i : ℕ) (x : State Name) (f : State Name → Result R Fault) (h : ℕ → Result R Fault) → f x ≡ h i
    → ((must_be b Arity at >>= λ all. must_be c TooWide at >>= λ narrow. Ok x) >>= f) ≡ ((must_be b Arity at >>= λ all. must_be c TooWide at >>= λ narrow. Ok i) >>= h)
both_tested true true at i x f h e = e
both_tested true false at i x f h e = refl
both_tested false c at i x f h e = refl

-- how many outside names a turn has that uses these
abbrev pub outside_of : Around → List NameAt → List Name → List Name
outside_of a xs us = without (no_values a) (without (bare xs) us)

shut : (g : Setting) (s : Open Name) (xs : List NameAt) (m at n : ℕ) (us used scope : List Name) (last : Last Name) (rest : Words) → IsDeep s
    → back (length s.scope) scope ≡ s.scope → used ≡ all_noted by_bytes (no_value by_bytes g.items s) (bare xs) (length s.used) s.used us
    → (closed by_bytes g.items (record s { scope = scope; used = used; turn = record { base = length s.scope; start = length s.used }; last = last }) at s.turn m n >>=
    λ u. steps by_bytes g.items u rest)
    ≡ ((must_be (n == m) Arity at >>= λ all. must_be (nat_le (m + length (once (outside_of (around g s) xs us))) 15) TooWide at >>= λ narrow. Ok n) >>= λ i. runs g
    (having s (notes g s (without (bare xs) us)) i at kind.Other) rest)
shut g s xs m at n us used scope last rest d e f =
    let hidden : Name → Bool = no_value by_bytes g.items s in
    let others : List Name = no_values (around g s) in
    let out : List Name = outside_of (around g s) xs us in
    let noted : used ≡ gathered [] out ++ s.used =
    f ∙ gathers_above hidden others (hidden_is g s) (bare xs) us s.used ∙ ap (λ (ys : List Name). gathered [] ys ++ s.used) (without_both (bare xs) others us) in
    rw (noted, since-append (gathered [] out) s.used, back-append (gathered [] out) s.used, e, gathered_length out)
    (both_tested (n == m) (nat_le (m + length (once out)) 15) at n _ (λ u. steps by_bytes g.items u rest) (λ i. runs g
    (having s (notes g s (without (bare xs) us)) i at kind.Other) rest) (ap (λ (v : List Name). runs g (having s v n at kind.Other) rest) (gathers_again hidden others
    (hidden_is g s) (since s.turn.base s.scope) s.turn.start s.used out d.used
    ∙ hidden_out hidden others (hidden_is g s) (since s.turn.base s.scope) s.turn.start (without (bare xs) us) s.used)))

-- TURNS, with the word that ends the loop
abbrev pub EndsLoop : Setting → ℕ → Word Name → Type 0
EndsLoop g at end = (s : Open Name) (rest : Words) → runs g s (end ∷ rest) ≡ (end_loop by_bytes g.items (popped s) at (top s.frames) >>= λ u. steps by_bytes g.items u
    rest)

abbrev pub closes : Around → Turn → ℕ → ℕ → ℕ → Result ℕ Fault
closes a turn at m n = must_be (n == m) Arity at >>= λ all. must_be (nat_le (m + length (outside_turn (no_values a) turn)) 15) TooWide at >>= λ narrow. Ok n

abbrev pub OverTurn : Setting → Turn → Type 0
OverTurn g turn = (end : Word Name) (at : ℕ) → EndsLoop g at end → is_part end ≡ false → (s : Open Name) (m : ℕ) (rest : Words) → IsDeep s
    → runs g (naming s (onto (bare (names_of turn)) []) m) (turn_words turn ++ end ∷ rest)
    ≡ ((turn_values (around g s) (bare (names_of turn) ++ s.scope) turn >>= closes (around g s) turn at m) >>= λ i. runs g (having s (notes g s (turn_uses turn)) i at
    kind.Other) rest)

-- all uses of a turn together
pub together : (g : Setting) (s : Open Name) (xs : List NameAt) (us vs : List Name)
    → all_noted by_bytes (no_value by_bytes g.items s) (since (length s.scope) (bare xs ++ s.scope)) (length s.used) (all_noted by_bytes (no_value by_bytes g.items s)
    (since (length s.scope) (bare xs ++ s.scope)) (length s.used) s.used us) vs
    ≡ all_noted by_bytes (no_value by_bytes g.items s) (bare xs) (length s.used) s.used (us ++ vs)
together g s xs us vs = rw (since-append (bare xs) s.scope) (sym (noted_append (no_value by_bytes g.items s) (bare xs) (length s.used) us vs s.used))

pub body_gone : (s : Open Name) (xs : List NameAt) (b : Body) → back (length s.scope) (left_scope b (bare xs ++ s.scope)) ≡ s.scope
body_gone s xs b = back_left b (length s.scope) (bare xs ++ s.scope) (omega (arith, length-append (bare xs) s.scope)) ∙ back-append (bare xs) s.scope

pub over_before : (g : Setting) (xs : List NameAt) (q : Expr) (body : Body) → Over g q → OverBody g body → OverTurn g (Before xs q body)
over_before g xs q body h j end at ends free s m rest d =
    let a : Around = around g s in
    let i0 : Open Name = inside s xs m in
    let d0 : IsDeep i0 = inside_deep s xs m in
    let i1 : Open Name = having i0 (notes g i0 (uses q)) 0 0 kind.Other in
    let us : List Name = uses q ++ body_uses body in
    let inner : Result ℕ Fault = body_values a (bare xs ++ s.scope) body in
    let L : ℕ → Result (State Name) Fault = λ i. runs g (having s (notes g s (without (bare xs) us)) i at kind.Other) rest in
    let K : ℕ → Result (State Name) Fault = λ n. closes a (Before xs q body) at m n >>= L in
    ap (runs g (naming s (onto (bare xs) []) m)) (append_assoc (of_core core_word.TestFirst ∷ words q) (of_core core_word.While ∷ body_words body) (end ∷ rest))
    ∙ opened g s xs m (words q ++ of_core core_word.While ∷ (body_words body ++ end ∷ rest))
    ∙ h i0 (of_core core_word.While ∷ (body_words body ++ end ∷ rest)) d0 refl
    ∙ then_equal (values a (bare xs ++ s.scope) q) _ (λ n. (one_value q n >>= λ one. inner) >>= K) (λ n. tested_then (n == 1) Arity (place_of q) (Plain i1) (λ u. steps
    by_bytes g.items u (body_words body ++ end ∷ rest)) 1 (λ one. inner) K (j i1 (end ∷ rest) (still_deep g i0 (uses q) 0 0 kind.Other d0)
    ∙ then_equal inner _ K (λ i. ends (after_body g i1 body i) rest ∙ shut g s xs m at i us (notes g i1 (body_uses body)) (left_scope body (bare xs ++ s.scope))
    (record { count = i; at = 0; kind = kind.Other }) rest d (body_gone s xs body) (together g s xs (uses q) (body_uses body)))))
    ∙ sym (bind_assoc (values a (bare xs ++ s.scope) q) (λ n. one_value q n >>= λ one. inner) K)
    ∙ sym (bind_assoc (values a (bare xs ++ s.scope) q >>= λ n. one_value q n >>= λ one. inner) (closes a (Before xs q body) at m) L)

abbrev one_test : Bool → ℕ → Result ℕ Fault
one_test b at = must_be b Arity at >>= λ one. Ok 1

single_first : (b : Bool) (at n : ℕ) (c : Result (State Name) Fault) (f : State Name → Result (State Name) Fault) (K : ℕ → Result (State Name) Fault)
    → (c >>= f) ≡ K n → ((must_be b Arity at >>= λ one. c) >>= f) ≡ ((one_test b at >>= λ one. Ok n) >>= K)
single_first true at n c f K h = h
single_first false at n c f K h = refl

pub over_after : (g : Setting) (xs : List NameAt) (body : Body) (q : Expr) → OverBody g body → Over g q → OverTurn g (After xs body q)
over_after g xs body q h j end at ends free s m rest d =
    let a : Around = around g s in
    let i0 : Open Name = inside s xs m in
    let d0 : IsDeep i0 = inside_deep s xs m in
    let i1 : Open Name = having i0 (notes g i0 (body_uses body)) 0 0 kind.Other in
    let d1 : IsDeep i1 = still_deep g i0 (body_uses body) 0 0 kind.Other d0 in
    let us : List Name = body_uses body ++ uses q in
    let test : Result ℕ Fault = values a (bare xs ++ s.scope) q in
    let inner : Result ℕ Fault = body_values a (bare xs ++ s.scope) body in
    let L : ℕ → Result (State Name) Fault = λ i. runs g (having s (notes g s (without (bare xs) us)) i at kind.Other) rest in
    let K : ℕ → Result (State Name) Fault = λ n. closes a (After xs body q) at m n >>= L in
    ap (runs g (naming s (onto (bare xs) []) m)) (append_assoc (of_core core_word.BodyFirst ∷ body_words body) (of_core core_word.Until ∷ words q) (end ∷ rest))
    ∙ opened g s xs m (body_words body ++ of_core core_word.Until ∷ (words q ++ end ∷ rest))
    ∙ h i0 (of_core core_word.Until ∷ (words q ++ end ∷ rest)) d0
    ∙ then_equal inner _ (λ n. (test >>= λ k. one_value q k >>= λ one. Ok n) >>= K)
    (λ n. ap (λ (scope : List Name). runs g (record i1 { scope = scope; frames = frame.Tested s.turn m n ∷ s.frames }) (words q ++ end ∷ rest)) (all_back body
    (bare xs ++ s.scope))
    ∙ j (record i1 { frames = frame.Tested s.turn m n ∷ s.frames }) (end ∷ rest) (record { scope = d1.scope; used = d1.used }) (rw free refl)
    ∙ then_equal test _ (λ k. (one_value q k >>= λ one. Ok n) >>= K) (λ k. ends (having (record i1 { frames = frame.Tested s.turn m n ∷ s.frames }) (notes g i1 (uses q)) k
    (place_of q) (kind_of g.known q)) rest ∙ single_first (k == 1) (place_of q) n _ (λ u. steps by_bytes g.items u rest) K (shut g s xs m at n us (notes g i1 (uses q))
    (bare xs ++ s.scope) (record { count = k; at = place_of q; kind = kind_of g.known q }) rest d (back-append (bare xs) s.scope) (together g s xs (body_uses body)
    (uses q))))
    ∙ sym (bind_assoc test (λ k. one_value q k >>= λ one. Ok n) K))
    ∙ sym (bind_assoc inner (λ n. test >>= λ k. one_value q k >>= λ one. Ok n) K)
    ∙ sym (bind_assoc (inner >>= λ n. test >>= λ k. one_value q k >>= λ one. Ok n) (closes a (After xs body q) at m) L)

-- LOOPS
pub bounded_as : (g : Setting) (s : Open Name) (at : ℕ) (r : Result ℤ Fault) (ws : Words)
    → (bounded s at r >>= λ u. steps by_bytes g.items u ws)
    ≡ ((r >>= λ z. must_be (int_le (pos 2) z && int_le z (pos 64)) BadBound at) >>= λ fits. runs g s ws)
bounded_as g s at (Ok z) ws = bind_assoc (must_be (int_le (pos 2) z && int_le z (pos 64)) BadBound at) (λ fits. Ok (Plain s)) (λ u. steps by_bytes g.items u ws)
bounded_as g s at (Err f) ws = refl

pub bound_as_good : (g : Setting) (s : Open Name) (bound : Count) (ws : Words) → runs g s (bound_word bound ∷ ws) ≡ (good_bound (around g s) bound >>= λ fits. runs g s
    ws)
bound_as_good g s (Written at n) ws = bounded_as g s at (Ok (pos n)) ws
bound_as_good g s (Constant at x) ws =
    ap (λ (r : Result ℤ Fault). bounded s at r >>= λ u. steps by_bytes g.items u ws) (constants_known g.items.item g.items.ranks g.known g.pins at x)
    ∙ bounded_as g s at (constant_named g.known at x) ws

ends_loop : (g : Setting) (at : ℕ) (bound : Count) → EndsLoop g at (tree_words.end_loop at bound)
ends_loop g at (Written m n) = λ s rest. refl
ends_loop g at (Constant m x) = λ s rest. refl

no_part : (at : ℕ) (bound : Count) → is_part (tree_words.end_loop at bound) ≡ false
no_part at (Written m n) = refl
no_part at (Constant m x) = refl

nothing_less : (n : ℕ) → 0 + n ≡ n
nothing_less n = omega arith

pub over_loop : (g : Setting) (at : ℕ) (bound : Count) (firsts : Exprs) (turn : Turn) → OverFirsts g firsts → count firsts ≡ length (names_of turn) → OverTurn g turn
    → Over g (Loop at bound firsts turn)
over_loop g at bound firsts turn h c t s rest d w =
    let a : Around = around g s in
    let xs : List NameAt = names_of turn in
    let end : Word Name = tree_words.end_loop at bound in
    let s1 : Open Name = having s (notes g s (list_uses firsts)) 0 0 kind.Other in
    let begun : Result ⊤ Fault = first_values a s.scope [] xs firsts in
    let last : Result ℕ Fault = turn_values a (bare xs ++ s.scope) turn >>= closes a turn at (length xs) in
    let L : ℕ → Result (State Name) Fault = λ n. runs g (having s (notes g s (list_uses firsts ++ turn_uses turn)) n at kind.Other) rest in
    ap (runs g s) (append_assoc ((of_core (core_word.Loop at) ∷ bound_word bound ∷ first_words xs firsts) ++ turn_words turn) (end ∷ []) rest
    ∙ append_assoc (of_core (core_word.Loop at) ∷ bound_word bound ∷ first_words xs firsts) (turn_words turn) (end ∷ rest))
    ∙ bound_as_good g (naming s [] 0) bound (first_words xs firsts ++ (turn_words turn ++ end ∷ rest))
    ∙ then_equal (good_bound a bound) _ (λ fits. (begun >>= λ u. last) >>= L) (λ fits. h xs c s [] 0 (turn_words turn ++ end ∷ rest) d
    ∙ then_equal begun _ (λ u. last >>= L) (λ u. ap (λ (i : ℕ). runs g (naming s1 (onto (bare xs) []) i) (turn_words turn ++ end ∷ rest)) (nothing_less (length xs))
    ∙ t end at (ends_loop g at bound) (no_part at bound) s1 (length xs) rest (still_deep g s (list_uses firsts) 0 0 kind.Other d)
    ∙ ap (λ (us : List Name). last >>= λ n. runs g (having s us n at kind.Other) rest) (notes_both g s (list_uses firsts) (turn_uses turn) 0 0 kind.Other))
    ∙ sym (bind_assoc begun (λ u. last) L))
    ∙ sym (bind_assoc (good_bound a bound) (λ fits. begun >>= λ u. last) L)
