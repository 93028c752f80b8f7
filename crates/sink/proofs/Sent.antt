-- One item sent after another.
use Rattle.std.proofs.Common.{◌≡◌, ℕ, ◌+◌, ◌<◌, ◌≤◌, List, [], ◌∷◌, ◌++◌, length, get_or, take, drop, Option, Some, None, Result, Ok, Err, sym, ap}
use Rattle.std.proofs.Common.{◌∙◌, subst, append_assoc, take-append-drop}
use Rattle.std.specs.Prelude.{⊤}
use Rattle.std.specs.Io.KnownBytes.{Appends, Keeps}
use Rattle.sink.specs.Sends.{Sends}
use Rattle.std.proofs.lemmas.List.{append-nil, take_more, take_all}
use Rattle.std.proofs.lemmas.List.Concat.{flat_map-append, flat_map-cons}
use Rattle.std.specs.Prelude.{flat_map}

pub appends_none : (a : Option (List ℕ)) → Appends a a []
appends_none None = tt
appends_none (Some x) = sym (append-nil x)

pub appends_then : (a b c : Option (List ℕ)) (bs cs : List ℕ) → Appends a b bs → Appends b c cs → Appends a c (bs ++ cs)
appends_then None b c bs cs p q = tt
appends_then (Some x) None c bs cs p q = absurd p
appends_then (Some x) (Some y) None bs cs p q = absurd q
appends_then (Some x) (Some y) (Some z) bs cs p q = q ∙ ap (λ (l : List ℕ). l ++ cs) p ∙ append_assoc x bs cs

pub appends_kept : (a b c : Option (List ℕ)) (bs : List ℕ) → Appends a b bs → Keeps b c → Appends a c bs
appends_kept None b c bs p q = tt
appends_kept (Some x) None c bs p q = absurd p
appends_kept (Some x) (Some y) None bs p q = absurd q
appends_kept (Some x) (Some y) (Some z) bs p q = q ∙ p

-- what was sent before an item that is sent
pub sends_more : {E : Type 0} (r : Result ⊤ E) (a b c : Option (List ℕ)) (bs cs : List ℕ) → Appends a b bs → Sends r b c cs → Sends r a c (bs ++ cs)
unfolding Sends
sends_more (Ok x) a b c bs cs p q = appends_then a b c bs cs p q
sends_more (Err e) a b c bs cs p q = (bs ++ q.0, q.1, ap (λ (l : List ℕ). bs ++ l) q.2 ∙ sym (append_assoc bs q.0 q.1), appends_then a b c bs q.0 p q.3)

-- what is not sent after a fault
pub sends_less : {E : Type 0} (e : E) (a b : Option (List ℕ)) (bs cs : List ℕ) → Sends (Err e) a b bs → Sends (Err e) a b (bs ++ cs)
unfolding Sends
sends_less e a b bs cs q = (q.0, q.1 ++ cs, ap (λ (l : List ℕ). l ++ cs) q.2 ∙ append_assoc q.0 q.1 cs, q.3)

pub sends_from : {E : Type 0} (r : Result ⊤ E) (a b : Option (List ℕ)) (bs : List ℕ) → r ≡ Ok tt → Sends r a b bs → Appends a b bs
unfolding Sends
sends_from (Ok x) a b bs e q = q
sends_from (Err d) a b bs e q = absurd cc

-- which fault it is does not matter
pub sends_other : {E : Type 0} (d e : E) (a b : Option (List ℕ)) (bs : List ℕ) → Sends (Err d) a b bs → Sends (Err e) a b bs
unfolding Sends
sends_other d e a b bs q = q

pub sends_some : {E : Type 0} (e : E) (a b : Option (List ℕ)) (front rest bs : List ℕ) → bs ≡ front ++ rest → Appends a b front → Sends (Err e) a b bs
unfolding Sends
sends_some e a b front rest bs k q = (front, rest, k, q)

pub sends_whole : {E : Type 0} (r : Result ⊤ E) (x : ⊤) (a b : Option (List ℕ)) (bs : List ℕ) → r ≡ Ok x → Appends a b bs → Sends r a b bs
unfolding Sends
sends_whole (Ok y) x a b bs e q = q
sends_whole (Err d) x a b bs e q = absurd cc

-- ---- one item after another in a loop

pub loop_more : {X : Type 0} (text : X → List ℕ) (xs : List X) (i : ℕ) (x : X) (a b c : Option (List ℕ)) → i < length xs
    → Appends a b (flat_map text (take i xs)) → Appends b c (text (get_or xs i x)) → Appends a c (flat_map text (take (i + 1) xs))
loop_more text xs i d a b c lt p q =
    let x = get_or xs i d in
    let same : flat_map text (take (i + 1) xs) ≡ flat_map text (take i xs) ++ text x = ap (flat_map text) (take_more xs i d lt)
    ∙ flat_map-append text (take i xs) (x ∷ []) ∙ ap (λ (l : List ℕ). flat_map text (take i xs) ++ l) (flat_map-cons text x [] ∙ append-nil (text x)) in
    subst (Appends a c) (sym same) (appends_then a b c (flat_map text (take i xs)) (text x) p q)

pub loop_stop : {X E : Type 0} (text : X → List ℕ) (xs : List X) (i : ℕ) (x : X) (e : E) (a b c : Option (List ℕ)) → i < length xs
    → Appends a b (flat_map text (take i xs)) → Sends (Err e) b c (text (get_or xs i x)) → Sends (Err e) a c (flat_map text xs)
loop_stop text xs i d e a b c lt p q =
    let x = get_or xs i d in
    let same : flat_map text (take (i + 1) xs) ≡ flat_map text (take i xs) ++ text x = ap (flat_map text) (take_more xs i d lt)
    ∙ flat_map-append text (take i xs) (x ∷ []) ∙ ap (λ (l : List ℕ). flat_map text (take i xs) ++ l) (flat_map-cons text x [] ∙ append-nil (text x)) in
    let whole : flat_map text xs ≡ (flat_map text (take i xs) ++ text x) ++ flat_map text (drop (i + 1) xs) = ap (flat_map text)
    (sym (take-append-drop (i + 1) xs)) ∙ flat_map-append text (take (i + 1) xs) (drop (i + 1) xs)
    ∙ ap (λ (l : List ℕ). l ++ flat_map text (drop (i + 1) xs)) same in
    subst (Sends (Err e) a c) (sym whole) (sends_less e a c (flat_map text (take i xs) ++ text x) (flat_map text (drop (i + 1) xs))
    (sends_more (Err e) a b c (flat_map text (take i xs)) (text x) p q))

pub loop_done : {X E : Type 0} (text : X → List ℕ) (xs : List X) (n : ℕ) (r : Result ⊤ E) (x : ⊤) (a b : Option (List ℕ)) → r ≡ Ok x → length xs ≤ n
    → Appends a b (flat_map text (take n xs)) → Sends r a b (flat_map text xs)
loop_done text xs n r x a b e le p = sends_whole r x a b (flat_map text xs) e (subst (λ ys. Appends a b (flat_map text ys)) (take_all n xs le) p)

pub loop_more_at : {X : Type 0} (text : X → List ℕ) (xs : List X) (i : ℕ) (x : X) (a b c : Option (List ℕ)) → i < length xs → x ≡ get_or xs i x
    → Appends a b (flat_map text (take i xs)) → Appends b c (text x) → Appends a c (flat_map text (take (i + 1) xs))
loop_more_at text xs i x a b c lt is p q = loop_more text xs i x a b c lt p (subst (λ y. Appends b c (text y)) is q)

pub loop_stop_at : {X E : Type 0} (text : X → List ℕ) (xs : List X) (i : ℕ) (x : X) (e : E) (a b c : Option (List ℕ)) → i < length xs → x
    ≡ get_or xs i x → Appends a b (flat_map text (take i xs)) → Sends (Err e) b c (text x) → Sends (Err e) a c (flat_map text xs)
loop_stop_at text xs i x e a b c lt is p q = loop_stop text xs i x e a b c lt p (subst (λ y. Sends (Err e) b c (text y)) is q)

-- ---- a few items in a row
pub two : {E : Type 0} (r : Result ⊤ E) (a b c : Option (List ℕ)) (xs ys : List ℕ) → Appends a b xs → Sends r b c ys → Sends r a c (xs ++ ys)
two r a b c xs ys p q = sends_more r a b c xs ys p q

pub sends_same : {E : Type 0} (r : Result ⊤ E) (a b : Option (List ℕ)) (xs ys : List ℕ) → xs ≡ ys → Sends r a b xs → Sends r a b ys
sends_same r a b xs ys e h = subst (λ (l : List ℕ). Sends r a b l) e h
