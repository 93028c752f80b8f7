-- Loops.
use Rattle.std.specs.Prelude.{true, false, ◌≡◌, refl, ℕ, ◌&&◌, ◌+◌, ◌==◌, nat_le, ◌&&◌, Bool, List, [], ◌∷◌, ◌++◌, length, Option, Some, Result, Ok}
use Rattle.std.proofs.lemmas.List.{length-append}
use Rattle.std.proofs.Common.{◌∙◌, ap, sym, arith, append_assoc}
use Rattle.source.specs.declared.fault.FaultKind.TheVariants.{Arity, BadBound, TooWide}
use Rattle.source.specs.declared.fault.Fault.{Fault}
use Rattle.source.specs.declared.word.Word.{Word}
use Rattle.source.specs.declared.word.Word.TheVariants as word
use Rattle.source.specs.Tree.{Name, NameAt, NumberAt, Expr, Loop, Exprs, Body, Turn, Before, After, Program, names_of}
use Rattle.source.specs.Fits.{count}
use Rattle.source.specs.Words.{words, first_words, body_words, turn_words}
use Rattle.source.specs.Outside.{bare, uses, list_uses, body_uses, turn_uses, without, once, outside_turn}
use Rattle.source.specs.First.{◌>>=◌, must}
use Rattle.source.specs.Rules.{place_of, one_value, values, first_values, body_values, turn_values}
use Rattle.source.proofs.CountedSources.{without_none}
use Rattle.source_check.specs.declared.frame.Entry.{Entry}
use Rattle.source_check.specs.declared.frame.Frame.TheVariants as frame
use Rattle.source_check.specs.declared.frame.Values.{Values}
use Rattle.source_check.specs.Steps.{State, since, back, onto, all_noted, turned, closed, steps, step}
use Rattle.source_check.proofs.Runs.{mapped, in_turn, tested, one_tested, bind-assoc}
use Rattle.source_check.proofs.Stacks.{since-append, back-append, onto-onto}
use Rattle.source_check.proofs.Noted.{by_bytes, all_noted-append, gathered, gathered_once, noted_above, noted_again}
use Rattle.source_check.proofs.Over.{IsDeep, notes, having, naming, left_scope, Over, OverFirsts, OverBody, still_deep}
use Rattle.source_check.proofs.Listed.{nothing_less}
use Rattle.source_check.proofs.Bodies.{all_back, back_left}

-- A TURN BEGINS
abbrev pub inside : State Name → List NameAt → ℕ → State Name
inside s xs m = record s {
  scope = bare xs ++ s.scope;
  turn = record { base = length s.scope; start = length s.used };
  frames = frame.Open s.turn m
      (length (bare xs ++ s.scope)) ∷ s.frames;
}

opened : (item : Name → Option Entry) (s : State Name) (xs : List NameAt) (m : ℕ) (ws : List (Word Name))
    → (turned (record s { pending = onto (bare xs) [] ++ s.pending }) (Some (frame.Names (length s.pending) m)) >>= λ u. steps
    (by_bytes item) u ws) ≡ steps (by_bytes item) (inside s xs m) ws
opened item s xs m ws = rw (since-append (onto (bare xs) []) s.pending, back-append (onto (bare xs) []) s.pending, onto-onto (bare xs) [] s.scope) refl

inside_deep : (s : State Name) (xs : List NameAt) (m : ℕ) → IsDeep (inside s xs m)
inside_deep s xs m = record { scope = omega (arith, length-append (bare xs) s.scope); used = omega arith }

-- AND ENDS
gathered_length : (xs : List Name) → length (gathered [] xs) ≡ length (once xs)
gathered_length xs = let e : length (once (without [] xs)) ≡ length (once xs) = ap (λ ys. length (once ys)) (without_none xs) in omega
    (arith, gathered_once [] xs, e)

both_tested : (b c : Bool) (at i : ℕ) (s : State Name) (g : ℕ → State Name) → s ≡ g i
    → ((must b Arity at >>= λ all. must c TooWide at >>= λ narrow. Ok s) >>= λ u. Ok u) ≡ mapped g
    (must b Arity at >>= λ all. must c TooWide at >>= λ narrow. Ok i)
both_tested true true at i s g e = ap Ok e
both_tested true false at i s g e = refl
both_tested false c at i s g e = refl

shut : (item : Name → Option Entry) (s : State Name) (xs : List NameAt) (m at n : ℕ) (us used scope : List Name) (last : Values) → IsDeep s
    → back (length s.scope) scope ≡ s.scope
    → used ≡ all_noted (by_bytes item) (bare xs) (length s.used) s.used us
    → (closed (by_bytes item) (record s { scope = scope; used = used; turn = record { base = length s.scope; start = length s.used }; last = last }) at
    s.turn m n >>= λ u. Ok u)
    ≡ mapped (λ i. having s (notes item s (without (bare xs) us)) i at) (must (n == m) Arity at >>= λ all. must (nat_le (m + length (once (without
    (bare xs) us))) 15) TooWide at >>= λ narrow. Ok n)
shut item s xs m at n us used scope last d e f =
    let g : used ≡ gathered [] (without (bare xs) us) ++ s.used = f ∙ noted_above item (bare xs) s.used us [] in
    rw (
      g,
      since-append (gathered [] (without (bare xs) us)) s.used,
      back-append (gathered [] (without (bare xs) us)) s.used,
      e,
      gathered_length (without
          (bare xs) us),
    )
    (both_tested (n == m) (nat_le (m + length (once (without (bare xs) us))) 15) at n _ (λ i. having s (notes item s (without (bare xs) us)) i at)
    (ap (λ v. having s v n at) (noted_again item (since s.turn.base s.scope) s.turn.start s.used (without (bare xs) us) [] d.used)))

-- TURNS
abbrev pub OverTurn : (Name → Option Entry) → Program → ℕ → ℕ → Turn → Type 0
OverTurn item p at bound turn = (s : State Name) (m : ℕ) → IsDeep s → steps (by_bytes item) (naming s (onto (bare (names_of turn)) []) m)
    (turn_words turn ++ word.EndLoop at bound ∷ [])
    ≡ mapped (λ i. having s (notes item s (turn_uses turn)) i at) (turn_values p (bare (names_of turn) ++ s.scope) turn >>= λ n. must
    (n == m) Arity at >>= λ all.
    must (nat_le (m + length (outside_turn turn)) 15) TooWide at >>= λ narrow. Ok n)

-- all uses of a turn together
together : (item : Name → Option Entry) (s : State Name) (xs : List NameAt) (us vs : List Name)
    → all_noted (by_bytes item) (since (length s.scope) (bare xs ++ s.scope)) (length s.used) (all_noted (by_bytes item) (since (length s.scope)
    (bare xs ++ s.scope)) (length s.used) s.used us) vs
    ≡ all_noted (by_bytes item) (bare xs) (length s.used) s.used (us ++ vs)
together item s xs us vs = rw (since-append (bare xs) s.scope) (sym (all_noted-append (by_bytes item) (bare xs) (length s.used) us vs s.used))

body_gone : (s : State Name) (xs : List NameAt) (b : Body) → back (length s.scope) (left_scope b (bare xs ++ s.scope)) ≡ s.scope
body_gone s xs b = back_left b (length s.scope) (bare xs ++ s.scope) (omega (arith, length-append (bare xs) s.scope)) ∙ back-append (bare xs) s.scope

pub over_before : (item : Name → Option Entry) (p : Program) (at bound : ℕ) (xs : List NameAt) (q : Expr) (body : Body) → Over item p q
    → OverBody item p body → OverTurn item p at bound (Before xs q body)
over_before item p at bound xs q body h j s m d =
    let i0 : State Name = inside s xs m in
    let d0 : IsDeep i0 = inside_deep s xs m in
    let i1 : State Name = having i0 (notes item i0 (uses q)) 0 0 in
    let ending : List (Word Name) = word.EndLoop at bound ∷ [] in
    let close : ℕ → Result ℕ Fault = λ n. must (n == m) Arity at >>= λ all. must (nat_le (m + length (outside_turn
    (Before xs q body))) 15) TooWide at >>= λ narrow. Ok n in
    rw (
      append_assoc (words q) (word.While ∷ body_words body) ending,
      bind-assoc (values p (bare xs ++ s.scope) q)
          (λ n. one_value q n >>= λ one. body_values p (bare xs ++ s.scope) body) close,
    )
    (opened item s xs m (words q ++ (word.While ∷ (body_words body ++ ending)))
    ∙ in_turn (step (by_bytes item)) i0 (words q) (word.While ∷ (body_words body ++ ending)) (values p i0.scope q) _ _ _ (h i0 d0)
    (λ k. rw (bind-assoc (one_value q k) (λ one. body_values p (bare xs ++ s.scope) body) close)
    (one_tested (step (by_bytes item)) (body_words body ++ ending) (k == 1) Arity (place_of q) 1 _ i1 _
    (in_turn (step (by_bytes item)) i1 (body_words body) ending (body_values p i1.scope body) close _ _ (j i1 (still_deep item i0 (uses q) 0 0 d0))
    (λ n. shut item s xs m at n (uses q ++ body_uses body) (notes item i1 (body_uses body)) (left_scope body (bare xs ++ s.scope))
    (record { count = n; at = 0 }) d
    (body_gone s xs body) (together item s xs (uses q) (body_uses body)))))))

single_first : (b : Bool) (at n : ℕ) (c : Result (State Name) Fault) (r : Result ℕ Fault) (g : ℕ → State Name) → (c >>= λ u. Ok u) ≡ mapped g r
    → ((must b Arity at >>= λ one. c) >>= λ u. Ok u) ≡ mapped g ((must b Arity at >>= λ one. Ok n) >>= λ one. r)
single_first true at n c r g h = h
single_first false at n c r g h = refl

pub over_after : (item : Name → Option Entry) (p : Program) (at bound : ℕ) (xs : List NameAt) (body : Body) (q : Expr) → OverBody item p body
    → Over item p q → OverTurn item p at bound (After xs body q)
over_after item p at bound xs body q h j s m d =
    let i0 : State Name = inside s xs m in
    let d0 : IsDeep i0 = inside_deep s xs m in
    let i1 : State Name = having i0 (notes item i0 (body_uses body)) 0 0 in
    let d1 : IsDeep i1 = still_deep item i0 (body_uses body) 0 0 d0 in
    let ending : List (Word Name) = word.EndLoop at bound ∷ [] in
    let close : ℕ → Result ℕ Fault = λ n. must (n == m) Arity at >>= λ all. must (nat_le (m + length (outside_turn
    (After xs body q))) 15) TooWide at >>= λ narrow. Ok n in
    rw (
      append_assoc (body_words body) (word.Until ∷ words q) ending,
      bind-assoc (body_values p (bare xs ++ s.scope) body) (λ n. values p (bare xs ++ s.scope) q >>= λ k. one_value q k >>= λ one. Ok n) close,
    )
    (opened item s xs m (body_words body ++ (word.Until ∷ (words q ++ ending)))
    ∙ in_turn (step (by_bytes item)) i0 (body_words body) (word.Until ∷ (words q ++ ending)) (body_values p i0.scope body) _ _ _ (h i0 d0)
    (λ n. let i2 : State Name = record i1 { frames = frame.Tested s.turn m n ∷ s.frames } in
    rw (all_back body i0.scope, bind-assoc (values p (bare xs ++ s.scope) q) (λ k. one_value q k >>= λ one. Ok n) close)
    (in_turn (step (by_bytes item)) i2 (words q) ending (values p i2.scope q) _ _ _ (j i2 (record { scope = d1.scope; used = d1.used }))
    (λ k. rw (bind-assoc (one_value q k) (λ one. Ok n) close)
    (single_first (k == 1) (place_of q) 1 _ (close n) _
    (shut item s xs m at n (body_uses body ++ uses q) (notes item i2 (uses q)) (bare xs ++ s.scope) (record { count = k; at = place_of q }) d
    (back-append (bare xs) s.scope) (together item s xs (body_uses body) (uses q))))))))

-- LOOPS
pub over_loop : (item : Name → Option Entry) (p : Program) (at : ℕ) (bound : NumberAt) (firsts : Exprs) (turn : Turn) → OverFirsts item p firsts
    → count firsts ≡ length (names_of turn)
    → OverTurn item p at bound.number turn → Over item p (Loop at bound firsts turn)
over_loop item p at bound firsts turn h c j s d =
    let s1 : State Name = having s (notes item s (list_uses firsts)) 0 0 in
    let xs : List NameAt = names_of turn in
    let ending : List (Word Name) = word.EndLoop at bound.number ∷ [] in
    rw (
      append_assoc (first_words xs firsts) (turn_words turn) ending,
      all_noted-append (by_bytes item) (since s.turn.base s.scope) s.turn.start
          (list_uses firsts) (turn_uses turn) s.used,
    )
    (tested (step (by_bytes item)) (first_words xs firsts ++ (turn_words turn ++ ending))
    (nat_le 2 bound.number && nat_le bound.number 64) BadBound bound.at _ (naming s [] 0) _
    (in_turn (step (by_bytes item)) (naming s [] 0) (first_words xs firsts) (turn_words turn ++ ending) (first_values p s.scope [] xs firsts) _ _ _
    (h s [] 0 xs d c)
    (λ u. rw (nothing_less (length xs)) (j s1 (length xs) (still_deep item s (list_uses firsts) 0 0 d)))))
