-- Numbered items, sent one after the other.
use Rattle.std.proofs.Common.{arith, add-zero, ◌≡◌, ℕ, zero, suc, ◌+◌, ◌≤◌, List, [], ◌∷◌, ◌++◌, length, take, Option, Some, None, Result, Ok, Err}
use Rattle.std.proofs.Common.{sym, ap, ◌∙◌, refl, subst, append_assoc}
use Rattle.std.specs.Prelude.{⊤, slice_get}
use Rattle.std.specs.Io.KnownBytes.{Appends}
use Rattle.std.proofs.lemmas.List.{append-nil, take_all}
use Rattle.lemmas.proofs.SliceGet.{get_none}
use Rattle.sink.specs.Numbered.{numbered}
use Rattle.sink.specs.Sends.{Sends}
use Rattle.sink.proofs.Sent.{appends_then, sends_more, sends_less, sends_whole, sends_same}

numbered_next : {X : Type 0} (text : ℕ → X → List ℕ) (n i : ℕ) (xs : List X) (x : X) → slice_get xs i ≡ Some x → numbered text n (take (suc i) xs)
    ≡ numbered text n (take i xs) ++ text (n + i) x
numbered_next text n zero [] x e = absurd cc
numbered_next text n (suc i) [] x e = absurd cc
numbered_next text n zero (y ∷ ys) x e =
    let same : y ≡ x = cc (e) in
    rw same (append-nil (text n x) ∙ ap (λ (k : ℕ). text k x) (sym (add-zero n)))
numbered_next text n (suc i) (y ∷ ys) x e =
    let next = numbered_next text (n + 1) i ys x e in
    let count : n + 1 + i ≡ n + suc i = omega (arith) in
    ap (λ (l : List ℕ). text n y ++ l) (next ∙ ap (λ (k : ℕ). numbered text (n + 1) (take i ys) ++ text k x) count)
    ∙ sym (append_assoc (text n y) (numbered text (n + 1) (take i ys)) (text (n + suc i) x))

-- one more of them
pub numbered_more : {X : Type 0} (text : ℕ → X → List ℕ) (i : ℕ) (xs : List X) (x : X) → slice_get xs i ≡ Some x → numbered text 0 (take (i + 1) xs)
    ≡ numbered text 0 (take i xs) ++ text i x
numbered_more text i xs x e =
    let up : i + 1 ≡ suc i = omega (arith) in
    let at : 0 + i ≡ i = omega (arith) in
    ap (λ (k : ℕ). numbered text 0 (take k xs)) up ∙ numbered_next text 0 i xs x e ∙ ap (λ (k : ℕ). numbered text 0 (take i xs) ++ text k x) at

-- the first ones are a beginning
pub numbered_front : {X : Type 0} (text : ℕ → X → List ℕ) (n i : ℕ) (xs : List X) → (rest : List ℕ) × (numbered text n xs ≡ numbered text n (take i xs) ++ rest)
numbered_front text n zero xs = (numbered text n xs, refl)
numbered_front text n (suc i) [] = ([], refl)
numbered_front text n (suc i) (y ∷ ys) =
    let r = numbered_front text (n + 1) i ys in
    (r.0, ap (λ (l : List ℕ). text n y ++ l) r.1 ∙ sym (append_assoc (text n y) (numbered text (n + 1) (take i ys)) r.0))

pub more : {X : Type 0} (text : ℕ → X → List ℕ) (i : ℕ) (xs : List X) (x : X) (a b c : Option (List ℕ)) → slice_get xs i ≡ Some x
    → Appends a b (numbered text 0 (take i xs)) → Appends b c (text i x) → Appends a c (numbered text 0 (take (i + 1) xs))
more text i xs x a b c e p q =
    subst (Appends a c) (sym (numbered_more text i xs x e)) (appends_then a b c (numbered text 0 (take i xs)) (text i x) p q)

pub stop : {X E : Type 0} (text : ℕ → X → List ℕ) (i : ℕ) (xs : List X) (x : X) (e : E) (a b c : Option (List ℕ)) → slice_get xs i ≡ Some x
    → Appends a b (numbered text 0 (take i xs)) → Sends (Err e) b c (text i x) → Sends (Err e) a c (numbered text 0 xs)
stop text i xs x e a b c is p q =
    let r = numbered_front text 0 (i + 1) xs in
    sends_same (Err e) a c _ _ (ap (λ (l : List ℕ). l ++ r.0) (sym (numbered_more text i xs x is)) ∙ sym r.1)
    (sends_less e a c (numbered text 0 (take i xs) ++ text i x) r.0 (sends_more (Err e) a b c (numbered text 0 (take i xs)) (text i x) p q))

pub done : {X E : Type 0} (text : ℕ → X → List ℕ) (n : ℕ) (xs : List X) (r : Result ⊤ E) (x : ⊤) (a b : Option (List ℕ)) → r ≡ Ok x → length xs ≤ n
    → Appends a b (numbered text 0 (take n xs)) → Sends r a b (numbered text 0 xs)
done text n xs r x a b e le p = sends_whole r x a b (numbered text 0 xs) e (subst (λ ys. Appends a b (numbered text 0 ys)) (take_all n xs le) p)

-- where there is no further one, all are sent
pub outside : {X E : Type 0} (text : ℕ → X → List ℕ) (n : ℕ) (xs : List X) (r : Result ⊤ E) (x : ⊤) (a b : Option (List ℕ)) → r ≡ Ok x
    → slice_get xs n ≡ None → Appends a b (numbered text 0 (take n xs)) → Sends r a b (numbered text 0 xs)
outside text n xs r x a b e none p = done text n xs r x a b e (get_none xs n none) p
