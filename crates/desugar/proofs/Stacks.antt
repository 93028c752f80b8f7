-- Stacks with the innermost part last in code, and first in contracts.
use Rattle.std.specs.Prelude.{reverse, false, ◌==◌, ◌||◌, ◌≢◌}
use Rattle.std.specs.List.{list_any}
use Rattle.std.proofs.Common.{◌≡◌, refl, suc, sym, ap, ◌∙◌, ℕ, ◌+◌, ◌-◌, ◌<◌, ◌≤◌, List, [], ◌∷◌, length, get_or, take, drop, arith}
use Rattle.std.proofs.lemmas.Bool.{ne_eqb}
use Rattle.std.proofs.lemmas.List.{get_or-reverse, length-reverse, reverse-append, take-append-drop, length-drop, drop_all, drop_at}
use Rattle.lemmas.proofs.Lists.{drop_opens}

pub seen_at : {X : Type 0} (xs : List X) (depth : ℕ) (x : X) → depth < length xs → x ≡ get_or xs (length xs - 1 - depth) x
    → drop depth (reverse xs) ≡ x ∷ drop (depth + 1) (reverse xs)
seen_at xs depth x h e = drop_opens (reverse xs) depth x (rw (length-reverse xs) h) (e ∙ sym (get_or-reverse xs depth x h))

pub none_at : {X : Type 0} (xs : List X) (depth : ℕ) → length xs ≤ depth → drop depth (reverse xs) ≡ []
none_at xs depth h = drop_all depth (reverse xs) (rw (length-reverse xs) h)

rest : (n m : ℕ) → n ≤ m → m - (m - n) ≡ n
rest n m h = omega arith

pub closed : {X : Type 0} (xs : List X) (n : ℕ) → n ≤ length xs → reverse (take (length xs - n) xs) ≡ drop n (reverse xs)
closed {X} xs n h =
    let front : List X = take (length xs - n) xs in
    let back : List X = drop (length xs - n) xs in
    let few : length (reverse back) ≡ n = length-reverse back ∙ length-drop (length xs - n) xs ∙ rest n (length xs) h in
    sym (drop_at (reverse back) (reverse front) n few) ∙ ap (λ (ys : List X). drop n ys) (sym (reverse-append front back) ∙ ap (λ (ys : List X). reverse ys)
    (take-append-drop (length xs - n) xs))

less : (n d : ℕ) → d < n → n - d ≡ suc (n - (d + 1))
less n d h = omega arith

-- of a stack's first `count`, the next one
pub next_taken : {X : Type 0} (n d : ℕ) (x : X) (rest : List X) → d < n → take (n - d) (x ∷ rest) ≡ x ∷ take (n - (d + 1)) rest
next_taken n d x rest h = rw (less n d h) refl

-- and where it is not the name that is looked for
pub passed_over : (names rest : List ℕ) (name count depth x : ℕ) → depth < count → drop depth names ≡ x ∷ rest → x ≢ name
    → list_any (λ y. name == y) (take (count - depth) (drop depth names)) ≡ list_any (λ y. name == y) (take (count - (depth + 1)) rest)
passed_over names rest name count depth x h opened other =
    let no : (name == x) ≡ false = ne_eqb name x (λ e. other (sym e)) in
    ap (λ ys. list_any (λ y. name == y) (take (count - depth) ys)) opened ∙ ap (λ ys. list_any (λ y. name == y) ys) (next_taken count depth x rest h)
    ∙ ap (λ b. b || list_any (λ y. name == y) (take (count - (depth + 1)) rest)) no
