-- A check of each, one at a time.
use Rattle.std.proofs.Common.{◌≡◌, ℕ, ◌+◌, ◌<◌, ◌≤◌, List, length, get_or, drop, Ok, Err, sym, ap, ◌∙◌}
use Rattle.std.proofs.Math.ListN.{drop_of_length-le}
use Rattle.lemmas.proofs.Lists.{drop_opens}
use Rattle.graph_file.specs.Giving.{◌>>=◌}
use Rattle.assembler.specs.declared.checks.Refusal.{Refusal}
use Rattle.assembler.specs.Checks.{Checked, each}

pub each_more : {X : Type 0} (check : ℕ → X → Checked) (xs : List X) (n : ℕ) (x : X) (all : Checked) → n < length xs → x ≡ get_or xs n x → check n x
    ≡ Ok tt → each check n (drop n xs) ≡ all → each check (n + 1) (drop (n + 1) xs) ≡ all
each_more check xs n x all lt is ok so_far =
    let e : each check n (drop n xs) ≡ check n x >>= λ _. each check (n + 1) (drop (n + 1) xs) = ap (each check n) (drop_opens xs n x lt is) in
    ap (λ (r : Checked). r >>= λ _. each check (n + 1) (drop (n + 1) xs)) (sym ok) ∙ sym e ∙ so_far

pub each_stop : {X : Type 0} (check : ℕ → X → Checked) (xs : List X) (n : ℕ) (x : X) (all : Checked) (f : Refusal) → n < length xs → x ≡ get_or xs n x
    → check n x ≡ Err f → each check n (drop n xs) ≡ all → all ≡ Err f
each_stop check xs n x all f lt is bad so_far =
    let e : each check n (drop n xs) ≡ check n x >>= λ _. each check (n + 1) (drop (n + 1) xs) = ap (each check n) (drop_opens xs n x lt is) in
    sym so_far ∙ e ∙ ap (λ (r : Checked). r >>= λ _. each check (n + 1) (drop (n + 1) xs)) bad

pub each_done : {X : Type 0} (check : ℕ → X → Checked) (xs : List X) (n : ℕ) (all : Checked) → length xs ≤ n → each check n (drop n xs) ≡ all → all ≡ Ok tt
each_done check xs n all le so_far = sym so_far ∙ ap (each check n) (drop_of_length-le xs le)
