-- LISTS THAT ARE JOINED: the same words in the same order.
use Rattle.std.specs.Prelude.{◌≡◌, refl, ℕ, zero, suc, List, [], ◌∷◌, ◌++◌}
use Rattle.std.proofs.Common.{◌∙◌, ap, sym, append_assoc}
use Rattle.std.proofs.lemmas.List.{append-nil}
use Rattle.source.specs.declared.word.Word.{Word as CoreWord}
use Rattle.source.specs.Tree.{Name}
use Rattle.source.specs.Words.{Words}

-- lists that are joined, by their numbers in a list of these
data Joined : Type 0 where
  At : (i : ℕ) → Joined
  Nil : Joined
  Then : (first second : Joined) → Joined

abbrev picked : List Words → ℕ → Words
picked [] i = []
picked (x ∷ xs) zero = x
picked (x ∷ xs) (suc i) = picked xs i

abbrev joined : List Words → Joined → Words
joined env (At i) = picked env i
joined env Nil = []
joined env (Then x y) = joined env x ++ joined env y

abbrev order : Joined → List ℕ → List ℕ
order (At i) r = i ∷ r
order Nil r = r
order (Then x y) r = order x (order y r)

abbrev all_of : List Words → List ℕ → Words
all_of env [] = []
all_of env (i ∷ r) = picked env i ++ all_of env r

in_order : (env : List Words) (x : Joined) (r : List ℕ) → joined env x ++ all_of env r ≡ all_of env (order x r)
in_order env (At i) r = refl
in_order env Nil r = refl
in_order env (Then x y) r = append_assoc (joined env x) (joined env y) (all_of env r) ∙ ap (λ (z : Words). joined env x ++ z) (in_order env y r)
    ∙ in_order env x (order y r)

equal : (env : List Words) (x y : Joined) → order x [] ≡ order y [] → joined env x ≡ joined env y
equal env x y e = sym (append-nil (joined env x)) ∙ in_order env x [] ∙ ap (all_of env) e ∙ sym (in_order env y []) ∙ append-nil (joined env y)

pub true_lists : (ws l k r n : Words) (a b c d e f : CoreWord Name) → ws ++ l ++ a ∷ [] ++ [] ++ k ++ b ∷ [] ++ r ++ (c ∷ d ∷ [] ++ (e ∷ (b ∷ n ++ c ∷ d ∷ []) ++ f ∷ []))
    ≡ ws ++ (l ++ a ∷ (k ++ (b ∷ r ++ c ∷ [] ++ d ∷ [])) ++ e ∷ (b ∷ n ++ c ∷ [] ++ d ∷ []) ++ f ∷ [])
true_lists ws l k r n a b c d e f = equal (ws ∷ l ∷ k ∷ r ∷ n ∷ (a ∷ []) ∷ (b ∷ []) ∷ (c ∷ []) ∷ (d ∷ []) ∷ (e ∷ []) ∷ (f ∷ []) ∷ [])
    (Then (Then (Then (Then (Then (Then (Then (At 0) (At 1)) (Then (At 5) Nil)) Nil) (At 2)) (Then (At 6) Nil)) (At 3)) (Then (Then (At 7) (Then (At 8) Nil)) (Then (Then (At 9) (Then (Then (At 6) (At 4)) (Then (At 7) (Then (At 8) Nil)))) (Then (At 10) Nil))))
    (Then (At 0) (Then (Then (Then (At 1) (Then (At 5) (Then (At 2) (Then (Then (Then (At 6) (At 3)) (Then (At 7) Nil)) (Then (At 8) Nil))))) (Then (At 9) (Then (Then (Then (At 6) (At 4)) (Then (At 7) Nil)) (Then (At 8) Nil)))) (Then (At 10) Nil)))
    refl

pub false_lists : (ws l k r : Words) (a b c d e f : CoreWord Name) → ws ++ (l ++ a ∷ []) ++ [] ++ k ++ b ∷ [] ++ r ++ (c ∷ d ∷ [] ++ (e ∷ (b ∷ l ++ c ∷ d ∷ []) ++ f ∷ []))
    ≡ ws ++ (l ++ a ∷ (k ++ (b ∷ r ++ c ∷ [] ++ d ∷ [])) ++ e ∷ (b ∷ l ++ c ∷ [] ++ d ∷ []) ++ f ∷ [])
false_lists ws l k r a b c d e f = equal (ws ∷ l ∷ k ∷ r ∷ (a ∷ []) ∷ (b ∷ []) ∷ (c ∷ []) ∷ (d ∷ []) ∷ (e ∷ []) ∷ (f ∷ []) ∷ [])
    (Then (Then (Then (Then (Then (Then (At 0) (Then (At 1) (Then (At 4) Nil))) Nil) (At 2)) (Then (At 5) Nil)) (At 3)) (Then (Then (At 6) (Then (At 7) Nil)) (Then (Then (At 8) (Then (Then (At 5) (At 1)) (Then (At 6) (Then (At 7) Nil)))) (Then (At 9) Nil))))
    (Then (At 0) (Then (Then (Then (At 1) (Then (At 4) (Then (At 2) (Then (Then (Then (At 5) (At 3)) (Then (At 6) Nil)) (Then (At 7) Nil))))) (Then (At 8) (Then (Then (Then (At 5) (At 1)) (Then (At 6) Nil)) (Then (At 7) Nil)))) (Then (At 9) Nil)))
    refl

pub or_lists : (ws l k r p q : Words) (a b c d e f w x : CoreWord Name) → ws ++ (l ++ a ∷ (b ∷ l ++ c ∷ d ∷ []) ++ e ∷ []) ++ [] ++ k ++ (b ∷ l ++ (p ++ w ∷ [])) ++ r ++ (q ++ x ∷ [] ++ (c ∷ d ∷ []) ++ f ∷ [])
    ≡ ws ++ (l ++ a ∷ (b ∷ l ++ c ∷ [] ++ d ∷ []) ++ e ∷ (k ++ (b ∷ (l ++ p ++ w ∷ (r ++ q) ++ x ∷ []) ++ c ∷ [] ++ d ∷ [])) ++ f ∷ [])
or_lists ws l k r p q a b c d e f w x = equal (ws ∷ l ∷ k ∷ r ∷ p ∷ q ∷ (a ∷ []) ∷ (b ∷ []) ∷ (c ∷ []) ∷ (d ∷ []) ∷ (e ∷ []) ∷ (f ∷ []) ∷ (w ∷ []) ∷ (x ∷ []) ∷ [])
    (Then (Then (Then (Then (Then (Then (At 0) (Then (Then (At 1) (Then (At 6) (Then (Then (At 7) (At 1)) (Then (At 8) (Then (At 9) Nil))))) (Then (At 10) Nil))) Nil) (At 2)) (Then (Then (At 7) (At 1)) (Then (At 4) (Then (At 12) Nil)))) (At 3)) (Then (Then (Then (At 5) (Then (At 13) Nil)) (Then (At 8) (Then (At 9) Nil))) (Then (At 11) Nil)))
    (Then (At 0) (Then (Then (Then (At 1) (Then (At 6) (Then (Then (Then (At 7) (At 1)) (Then (At 8) Nil)) (Then (At 9) Nil)))) (Then (At 10) (Then (At 2) (Then (Then (Then (At 7) (Then (Then (Then (At 1) (At 4)) (Then (At 12) (Then (At 3) (At 5)))) (Then (At 13) Nil))) (Then (At 8) Nil)) (Then (At 9) Nil))))) (Then (At 11) Nil)))
    refl

pub call_lists : (ws p : Words) (a b c : CoreWord Name) → ws ++ a ∷ [] ++ b ∷ [] ++ p ++ c ∷ []
    ≡ ws ++ (a ∷ b ∷ p ++ c ∷ [])
call_lists ws p a b c = equal (ws ∷ p ∷ (a ∷ []) ∷ (b ∷ []) ∷ (c ∷ []) ∷ [])
    (Then (Then (Then (Then (At 0) (Then (At 2) Nil)) (Then (At 3) Nil)) (At 1)) (Then (At 4) Nil))
    (Then (At 0) (Then (Then (At 2) (Then (At 3) (At 1))) (Then (At 4) Nil)))
    refl

pub fetch_lists : (ws i : Words) (a c : CoreWord Name) → ws ++ a ∷ [] ++ i ++ c ∷ []
    ≡ ws ++ (a ∷ i ++ c ∷ [])
fetch_lists ws i a c = equal (ws ∷ i ∷ (a ∷ []) ∷ (c ∷ []) ∷ [])
    (Then (Then (Then (At 0) (Then (At 2) Nil)) (At 1)) (Then (At 3) Nil))
    (Then (At 0) (Then (Then (At 2) (At 1)) (Then (At 3) Nil)))
    refl

pub store_lists : (ws i d : Words) (a b c : CoreWord Name) → ws ++ a ∷ [] ++ i ++ b ∷ [] ++ d ++ c ∷ []
    ≡ ws ++ (a ∷ i ++ b ∷ d ++ c ∷ [])
store_lists ws i d a b c = equal (ws ∷ i ∷ d ∷ (a ∷ []) ∷ (b ∷ []) ∷ (c ∷ []) ∷ [])
    (Then (Then (Then (Then (Then (At 0) (Then (At 3) Nil)) (At 1)) (Then (At 4) Nil)) (At 2)) (Then (At 5) Nil))
    (Then (At 0) (Then (Then (Then (At 3) (At 1)) (Then (At 4) (At 2))) (Then (At 5) Nil)))
    refl

pub if_lists : (ws p l r : Words) (a b c : CoreWord Name) → ws ++ p ++ a ∷ [] ++ l ++ b ∷ [] ++ r ++ c ∷ []
    ≡ ws ++ (p ++ a ∷ l ++ b ∷ r ++ c ∷ [])
if_lists ws p l r a b c = equal (ws ∷ p ∷ l ∷ r ∷ (a ∷ []) ∷ (b ∷ []) ∷ (c ∷ []) ∷ [])
    (Then (Then (Then (Then (Then (Then (At 0) (At 1)) (Then (At 4) Nil)) (At 2)) (Then (At 5) Nil)) (At 3)) (Then (At 6) Nil))
    (Then (At 0) (Then (Then (Then (At 1) (Then (At 4) (At 2))) (Then (At 5) (At 3))) (Then (At 6) Nil)))
    refl

pub plain_lists : (ws k p : Words) (b d : CoreWord Name) → ws ++ [] ++ k ++ [] ++ (b ∷ p) ++ d ∷ []
    ≡ ws ++ (k ++ (b ∷ p ++ d ∷ []))
plain_lists ws k p b d = equal (ws ∷ k ∷ p ∷ (b ∷ []) ∷ (d ∷ []) ∷ [])
    (Then (Then (Then (Then (Then (At 0) Nil) (At 1)) Nil) (Then (At 3) (At 2))) (Then (At 4) Nil))
    (Then (At 0) (Then (At 1) (Then (Then (At 3) (At 2)) (Then (At 4) Nil))))
    refl

pub gives_lists : (ws k p x : Words) (b c d e : CoreWord Name) → ws ++ [] ++ k ++ [] ++ (b ∷ p) ++ (e ∷ (b ∷ x ++ c ∷ d ∷ []))
    ≡ ws ++ (k ++ (b ∷ p ++ e ∷ (b ∷ x ++ c ∷ [] ++ d ∷ [])))
gives_lists ws k p x b c d e = equal (ws ∷ k ∷ p ∷ x ∷ (b ∷ []) ∷ (c ∷ []) ∷ (d ∷ []) ∷ (e ∷ []) ∷ [])
    (Then (Then (Then (Then (Then (At 0) Nil) (At 1)) Nil) (Then (At 4) (At 2))) (Then (At 7) (Then (Then (At 4) (At 3)) (Then (At 5) (Then (At 6) Nil)))))
    (Then (At 0) (Then (At 1) (Then (Then (At 4) (At 2)) (Then (At 7) (Then (Then (Then (At 4) (At 3)) (Then (At 5) Nil)) (Then (At 6) Nil))))))
    refl

pub first_lists : (ws k p x : Words) (b c d : CoreWord Name) → ws ++ k ++ b ∷ x ++ c ∷ p ++ d ∷ []
    ≡ ws ++ (k ++ (b ∷ (x ++ c ∷ p) ++ d ∷ []))
first_lists ws k p x b c d = equal (ws ∷ k ∷ p ∷ x ∷ (b ∷ []) ∷ (c ∷ []) ∷ (d ∷ []) ∷ [])
    (Then (Then (Then (Then (At 0) (At 1)) (Then (At 4) (At 3))) (Then (At 5) (At 2))) (Then (At 6) Nil))
    (Then (At 0) (Then (At 1) (Then (Then (At 4) (Then (At 3) (Then (At 5) (At 2)))) (Then (At 6) Nil))))
    refl

pub rest_lists : (ws k p r : Words) (b d : CoreWord Name) → ws ++ [] ++ k ++ [] ++ (b ∷ p) ++ d ∷ [] ++ r
    ≡ ws ++ (k ++ (b ∷ p ++ d ∷ r))
rest_lists ws k p r b d = equal (ws ∷ k ∷ p ∷ r ∷ (b ∷ []) ∷ (d ∷ []) ∷ [])
    (Then (Then (Then (Then (Then (Then (At 0) Nil) (At 1)) Nil) (Then (At 4) (At 2))) (Then (At 5) Nil)) (At 3))
    (Then (At 0) (Then (At 1) (Then (Then (At 4) (At 2)) (Then (At 5) (At 3)))))
    refl

pub let_lists : (ws k t p r : Words) (a b d : CoreWord Name) → ws ++ [] ++ k ++ [] ++ (a ∷ (t ++ b ∷ p)) ++ d ∷ [] ++ r
    ≡ ws ++ (k ++ (a ∷ t ++ b ∷ p ++ d ∷ r))
let_lists ws k t p r a b d = equal (ws ∷ k ∷ t ∷ p ∷ r ∷ (a ∷ []) ∷ (b ∷ []) ∷ (d ∷ []) ∷ [])
    (Then (Then (Then (Then (Then (Then (At 0) Nil) (At 1)) Nil) (Then (At 5) (Then (At 2) (Then (At 6) (At 3))))) (Then (At 7) Nil)) (At 4))
    (Then (At 0) (Then (At 1) (Then (Then (Then (At 5) (At 2)) (Then (At 6) (At 3))) (Then (At 7) (At 4)))))
    refl

pub when_lists : (ws k p r : Words) (b c d : CoreWord Name) → ws ++ [] ++ k ++ [] ++ (b ∷ p) ++ c ∷ d ∷ [] ++ r
    ≡ ws ++ (k ++ (b ∷ (p ++ c ∷ []) ++ d ∷ r))
when_lists ws k p r b c d = equal (ws ∷ k ∷ p ∷ r ∷ (b ∷ []) ∷ (c ∷ []) ∷ (d ∷ []) ∷ [])
    (Then (Then (Then (Then (Then (Then (At 0) Nil) (At 1)) Nil) (Then (At 4) (At 2))) (Then (At 5) (Then (At 6) Nil))) (At 3))
    (Then (At 0) (Then (At 1) (Then (Then (At 4) (Then (At 2) (Then (At 5) Nil))) (Then (At 6) (At 3)))))
    refl

pub chain_lists : (ws k p : Words) (b c d : CoreWord Name) → ws ++ [] ++ k ++ b ∷ [] ++ p ++ c ∷ d ∷ []
    ≡ ws ++ (k ++ (b ∷ p ++ c ∷ [] ++ d ∷ []))
chain_lists ws k p b c d = equal (ws ∷ k ∷ p ∷ (b ∷ []) ∷ (c ∷ []) ∷ (d ∷ []) ∷ [])
    (Then (Then (Then (Then (Then (At 0) Nil) (At 1)) (Then (At 3) Nil)) (At 2)) (Then (At 4) (Then (At 5) Nil)))
    (Then (At 0) (Then (At 1) (Then (Then (Then (At 3) (At 2)) (Then (At 4) Nil)) (Then (At 5) Nil))))
    refl

pub last_lists : (ws l m : Words) (a b c d e f : CoreWord Name) → ws ++ (l ++ a ∷ []) ++ m ++ (e ∷ (b ∷ l ++ c ∷ d ∷ []) ++ f ∷ [])
    ≡ ws ++ (l ++ a ∷ m ++ e ∷ (b ∷ l ++ c ∷ [] ++ d ∷ []) ++ f ∷ [])
last_lists ws l m a b c d e f = equal (ws ∷ l ∷ m ∷ (a ∷ []) ∷ (b ∷ []) ∷ (c ∷ []) ∷ (d ∷ []) ∷ (e ∷ []) ∷ (f ∷ []) ∷ [])
    (Then (Then (Then (At 0) (Then (At 1) (Then (At 3) Nil))) (At 2)) (Then (Then (At 7) (Then (Then (At 4) (At 1)) (Then (At 5) (Then (At 6) Nil)))) (Then (At 8) Nil)))
    (Then (At 0) (Then (Then (Then (At 1) (Then (At 3) (At 2))) (Then (At 7) (Then (Then (Then (At 4) (At 1)) (Then (At 5) Nil)) (Then (At 6) Nil)))) (Then (At 8) Nil)))
    refl

pub else_lists : (ws l m r : Words) (a e f : CoreWord Name) → ws ++ (l ++ a ∷ []) ++ m ++ e ∷ [] ++ r ++ f ∷ []
    ≡ ws ++ (l ++ a ∷ m ++ e ∷ r ++ f ∷ [])
else_lists ws l m r a e f = equal (ws ∷ l ∷ m ∷ r ∷ (a ∷ []) ∷ (e ∷ []) ∷ (f ∷ []) ∷ [])
    (Then (Then (Then (Then (Then (At 0) (Then (At 1) (Then (At 4) Nil))) (At 2)) (Then (At 5) Nil)) (At 3)) (Then (At 6) Nil))
    (Then (At 0) (Then (Then (Then (At 1) (Then (At 4) (At 2))) (Then (At 5) (At 3))) (Then (At 6) Nil)))
    refl

pub let_all : (ws t p : Words) (a b : CoreWord Name) → ws ++ a ∷ [] ++ t ++ b ∷ [] ++ p
    ≡ ws ++ (a ∷ (t ++ b ∷ p))
let_all ws t p a b = equal (ws ∷ t ∷ p ∷ (a ∷ []) ∷ (b ∷ []) ∷ [])
    (Then (Then (Then (Then (At 0) (Then (At 3) Nil)) (At 1)) (Then (At 4) Nil)) (At 2))
    (Then (At 0) (Then (At 3) (Then (At 1) (Then (At 4) (At 2)))))
    refl

pub one_first : (ws s x : Words) (f : CoreWord Name) → ws ++ s ++ x ++ f ∷ []
    ≡ ws ++ (s ++ x ++ f ∷ [])
one_first ws s x f = equal (ws ∷ s ∷ x ∷ (f ∷ []) ∷ [])
    (Then (Then (Then (At 0) (At 1)) (At 2)) (Then (At 3) Nil))
    (Then (At 0) (Then (Then (At 1) (At 2)) (Then (At 3) Nil)))
    refl

pub more_firsts : (ws s x r : Words) (f : CoreWord Name) → ws ++ s ++ x ++ f ∷ [] ++ r
    ≡ ws ++ (s ++ x ++ f ∷ r)
more_firsts ws s x r f = equal (ws ∷ s ∷ x ∷ r ∷ (f ∷ []) ∷ [])
    (Then (Then (Then (Then (At 0) (At 1)) (At 2)) (Then (At 4) Nil)) (At 3))
    (Then (At 0) (Then (Then (At 1) (At 2)) (Then (At 4) (At 3))))
    refl

pub test_lists : (ws k p : Words) (n t b c d e z f : CoreWord Name) → ws ++ n ∷ t ∷ [] ++ k ++ b ∷ [] ++ p ++ (c ∷ d ∷ [] ++ (e ∷ (b ∷ z ∷ [] ++ c ∷ d ∷ []) ++ f ∷ []))
    ≡ ws ++ (n ∷ [] ++ t ∷ (k ++ (b ∷ p ++ c ∷ [] ++ d ∷ [])) ++ e ∷ (b ∷ z ∷ [] ++ c ∷ [] ++ d ∷ []) ++ f ∷ [])
test_lists ws k p n t b c d e z f = equal (ws ∷ k ∷ p ∷ (n ∷ []) ∷ (t ∷ []) ∷ (b ∷ []) ∷ (c ∷ []) ∷ (d ∷ []) ∷ (e ∷ []) ∷ (z ∷ []) ∷ (f ∷ []) ∷ [])
    (Then (Then (Then (Then (Then (At 0) (Then (At 3) (Then (At 4) Nil))) (At 1)) (Then (At 5) Nil)) (At 2)) (Then (Then (At 6) (Then (At 7) Nil)) (Then (Then (At 8) (Then (Then (At 5) (Then (At 9) Nil)) (Then (At 6) (Then (At 7) Nil)))) (Then (At 10) Nil))))
    (Then (At 0) (Then (Then (Then (Then (At 3) Nil) (Then (At 4) (Then (At 1) (Then (Then (Then (At 5) (At 2)) (Then (At 6) Nil)) (Then (At 7) Nil))))) (Then (At 8) (Then (Then (Then (At 5) (Then (At 9) Nil)) (Then (At 6) Nil)) (Then (At 7) Nil)))) (Then (At 10) Nil)))
    refl

pub before_lists : (ws t b : Words) (f w e : CoreWord Name) → ws ++ f ∷ [] ++ t ++ w ∷ [] ++ b ++ e ∷ []
    ≡ ws ++ (f ∷ t ++ w ∷ b ++ e ∷ [])
before_lists ws t b f w e = equal (ws ∷ t ∷ b ∷ (f ∷ []) ∷ (w ∷ []) ∷ (e ∷ []) ∷ [])
    (Then (Then (Then (Then (Then (At 0) (Then (At 3) Nil)) (At 1)) (Then (At 4) Nil)) (At 2)) (Then (At 5) Nil))
    (Then (At 0) (Then (Then (Then (At 3) (At 1)) (Then (At 4) (At 2))) (Then (At 5) Nil)))
    refl

pub after_lists : (ws t b : Words) (f w e : CoreWord Name) → ws ++ f ∷ [] ++ b ++ w ∷ [] ++ t ++ e ∷ []
    ≡ ws ++ (f ∷ b ++ w ∷ t ++ e ∷ [])
after_lists ws t b f w e = equal (ws ∷ t ∷ b ∷ (f ∷ []) ∷ (w ∷ []) ∷ (e ∷ []) ∷ [])
    (Then (Then (Then (Then (Then (At 0) (Then (At 3) Nil)) (At 2)) (Then (At 4) Nil)) (At 1)) (Then (At 5) Nil))
    (Then (At 0) (Then (Then (Then (At 3) (At 2)) (Then (At 4) (At 1))) (Then (At 5) Nil)))
    refl

pub loop_lists : (ws fs ts : Words) (a b : CoreWord Name) → ws ++ a ∷ [] ++ b ∷ [] ++ fs ++ ts
    ≡ ws ++ (a ∷ b ∷ fs ++ ts)
loop_lists ws fs ts a b = equal (ws ∷ fs ∷ ts ∷ (a ∷ []) ∷ (b ∷ []) ∷ [])
    (Then (Then (Then (Then (At 0) (Then (At 3) Nil)) (Then (At 4) Nil)) (At 1)) (At 2))
    (Then (At 0) (Then (Then (At 3) (Then (At 4) (At 1))) (At 2)))
    refl

pub turn_one : (ws a p b q B : Words) (then list loop bound start first bodyfirst lt bind part endlet nm left num add until nmi fix endloop give else endif : CoreWord Name) → ws ++ (a ++ (p ++ left ∷ []) ++ b ++ (q ++ fix ∷ []) ++ then ∷ [] ++ list ∷ [] ++ (loop ∷ bound ∷ start ∷ a ++ first ∷ [] ++ bodyfirst ∷ lt ∷ bind ∷ list ∷ nm ∷ left ∷ num ∷ add ∷ part ∷ endlet ∷ [])) ++ B ++ until ∷ (nmi ∷ left ∷ b ++ (q ++ fix ∷ [])) ++ endloop ∷ part ∷ give ∷ (else ∷ (list ∷ a ++ part ∷ give ∷ []) ++ endif ∷ [])
    ≡ ws ++ (a ++ p ++ left ∷ (b ++ q) ++ fix ∷ [] ++ then ∷ (list ∷ (loop ∷ bound ∷ (start ∷ [] ++ a ++ first ∷ []) ++ (bodyfirst ∷ (lt ∷ bind ∷ [] ++ list ∷ (nm ∷ [] ++ left ∷ num ∷ [] ++ add ∷ [] ++ part ∷ []) ++ endlet ∷ B) ++ until ∷ (nmi ∷ [] ++ left ∷ (b ++ q) ++ fix ∷ [])) ++ endloop ∷ [] ++ part ∷ []) ++ give ∷ []) ++ else ∷ (list ∷ (a ++ part ∷ []) ++ give ∷ []) ++ endif ∷ [])
turn_one ws a p b q B then list loop bound start first bodyfirst lt bind part endlet nm left num add until nmi fix endloop give else endif = equal (ws ∷ a ∷ p ∷ b ∷ q ∷ B ∷ (then ∷ []) ∷ (list ∷ []) ∷ (loop ∷ []) ∷ (bound ∷ []) ∷ (start ∷ []) ∷ (first ∷ []) ∷ (bodyfirst ∷ []) ∷ (lt ∷ []) ∷ (bind ∷ []) ∷ (part ∷ []) ∷ (endlet ∷ []) ∷ (nm ∷ []) ∷ (left ∷ []) ∷ (num ∷ []) ∷ (add ∷ []) ∷ (until ∷ []) ∷ (nmi ∷ []) ∷ (fix ∷ []) ∷ (endloop ∷ []) ∷ (give ∷ []) ∷ (else ∷ []) ∷ (endif ∷ []) ∷ [])
    (Then (Then (Then (Then (At 0) (Then (Then (Then (Then (Then (Then (At 1) (Then (At 2) (Then (At 18) Nil))) (At 3)) (Then (At 4) (Then (At 23) Nil))) (Then (At 6) Nil)) (Then (At 7) Nil)) (Then (Then (Then (At 8) (Then (At 9) (Then (At 10) (At 1)))) (Then (At 11) Nil)) (Then (At 12) (Then (At 13) (Then (At 14) (Then (At 7) (Then (At 17) (Then (At 18) (Then (At 19) (Then (At 20) (Then (At 15) (Then (At 16) Nil))))))))))))) (At 5)) (Then (At 21) (Then (Then (At 22) (Then (At 18) (At 3))) (Then (At 4) (Then (At 23) Nil))))) (Then (At 24) (Then (At 15) (Then (At 25) (Then (Then (At 26) (Then (Then (At 7) (At 1)) (Then (At 15) (Then (At 25) Nil)))) (Then (At 27) Nil))))))
    (Then (At 0) (Then (Then (Then (Then (Then (Then (At 1) (At 2)) (Then (At 18) (Then (At 3) (At 4)))) (Then (At 23) Nil)) (Then (At 6) (Then (Then (At 7) (Then (Then (Then (Then (At 8) (Then (At 9) (Then (Then (Then (At 10) Nil) (At 1)) (Then (At 11) Nil)))) (Then (Then (At 12) (Then (Then (Then (At 13) (Then (At 14) Nil)) (Then (At 7) (Then (Then (Then (Then (At 17) Nil) (Then (At 18) (Then (At 19) Nil))) (Then (At 20) Nil)) (Then (At 15) Nil)))) (Then (At 16) (At 5)))) (Then (At 21) (Then (Then (Then (At 22) Nil) (Then (At 18) (Then (At 3) (At 4)))) (Then (At 23) Nil))))) (Then (At 24) Nil)) (Then (At 15) Nil))) (Then (At 25) Nil)))) (Then (At 26) (Then (Then (At 7) (Then (At 1) (Then (At 15) Nil))) (Then (At 25) Nil)))) (Then (At 27) Nil)))
    refl

pub turn_many : (ws a p b q B ts cf cn cg : Words) (then list loop bound start first bodyfirst lt bind part endlet nm left num add until nmi fix endloop give else endif drp : CoreWord Name) → ws ++ (a ++ (p ++ left ∷ []) ++ b ++ (q ++ fix ∷ []) ++ then ∷ [] ++ (lt ∷ drp ∷ ts ++ list ∷ []) ++ (loop ∷ bound ∷ start ∷ a ++ first ∷ cf ++ bodyfirst ∷ lt ∷ bind ∷ list ∷ nm ∷ left ∷ num ∷ add ∷ part ∷ endlet ∷ [])) ++ B ++ until ∷ (nmi ∷ left ∷ b ++ (q ++ fix ∷ [])) ++ endloop ∷ (part ∷ endlet ∷ list ∷ cn ++ give ∷ else ∷ list ∷ cg ++ give ∷ endif ∷ [])
    ≡ ws ++ (a ++ p ++ left ∷ (b ++ q) ++ fix ∷ [] ++ then ∷ (lt ∷ drp ∷ ts ++ list ∷ (loop ∷ bound ∷ (start ∷ [] ++ a ++ first ∷ cf) ++ (bodyfirst ∷ (lt ∷ bind ∷ [] ++ list ∷ (nm ∷ [] ++ left ∷ num ∷ [] ++ add ∷ [] ++ part ∷ []) ++ endlet ∷ B) ++ until ∷ (nmi ∷ [] ++ left ∷ (b ++ q) ++ fix ∷ [])) ++ endloop ∷ [] ++ part ∷ []) ++ endlet ∷ (list ∷ cn ++ give ∷ [])) ++ else ∷ (list ∷ cg ++ give ∷ []) ++ endif ∷ [])
turn_many ws a p b q B ts cf cn cg then list loop bound start first bodyfirst lt bind part endlet nm left num add until nmi fix endloop give else endif drp = equal (ws ∷ a ∷ p ∷ b ∷ q ∷ B ∷ ts ∷ cf ∷ cn ∷ cg ∷ (then ∷ []) ∷ (list ∷ []) ∷ (loop ∷ []) ∷ (bound ∷ []) ∷ (start ∷ []) ∷ (first ∷ []) ∷ (bodyfirst ∷ []) ∷ (lt ∷ []) ∷ (bind ∷ []) ∷ (part ∷ []) ∷ (endlet ∷ []) ∷ (nm ∷ []) ∷ (left ∷ []) ∷ (num ∷ []) ∷ (add ∷ []) ∷ (until ∷ []) ∷ (nmi ∷ []) ∷ (fix ∷ []) ∷ (endloop ∷ []) ∷ (give ∷ []) ∷ (else ∷ []) ∷ (endif ∷ []) ∷ (drp ∷ []) ∷ [])
    (Then (Then (Then (Then (At 0) (Then (Then (Then (Then (Then (Then (At 1) (Then (At 2) (Then (At 22) Nil))) (At 3)) (Then (At 4) (Then (At 27) Nil))) (Then (At 10) Nil)) (Then (Then (At 17) (Then (At 32) (At 6))) (Then (At 11) Nil))) (Then (Then (Then (At 12) (Then (At 13) (Then (At 14) (At 1)))) (Then (At 15) (At 7))) (Then (At 16) (Then (At 17) (Then (At 18) (Then (At 11) (Then (At 21) (Then (At 22) (Then (At 23) (Then (At 24) (Then (At 19) (Then (At 20) Nil))))))))))))) (At 5)) (Then (At 25) (Then (Then (At 26) (Then (At 22) (At 3))) (Then (At 4) (Then (At 27) Nil))))) (Then (At 28) (Then (Then (Then (At 19) (Then (At 20) (Then (At 11) (At 8)))) (Then (At 29) (Then (At 30) (Then (At 11) (At 9))))) (Then (At 29) (Then (At 31) Nil)))))
    (Then (At 0) (Then (Then (Then (Then (Then (Then (At 1) (At 2)) (Then (At 22) (Then (At 3) (At 4)))) (Then (At 27) Nil)) (Then (At 10) (Then (Then (Then (At 17) (Then (At 32) (At 6))) (Then (At 11) (Then (Then (Then (Then (At 12) (Then (At 13) (Then (Then (Then (At 14) Nil) (At 1)) (Then (At 15) (At 7))))) (Then (Then (At 16) (Then (Then (Then (At 17) (Then (At 18) Nil)) (Then (At 11) (Then (Then (Then (Then (At 21) Nil) (Then (At 22) (Then (At 23) Nil))) (Then (At 24) Nil)) (Then (At 19) Nil)))) (Then (At 20) (At 5)))) (Then (At 25) (Then (Then (Then (At 26) Nil) (Then (At 22) (Then (At 3) (At 4)))) (Then (At 27) Nil))))) (Then (At 28) Nil)) (Then (At 19) Nil)))) (Then (At 20) (Then (Then (At 11) (At 8)) (Then (At 29) Nil)))))) (Then (At 30) (Then (Then (At 11) (At 9)) (Then (At 29) Nil)))) (Then (At 31) Nil)))
    refl

pub function_lists : (ws ps rs b : Words) (f y e : CoreWord Name) → ws ++ f ∷ [] ++ ps ++ rs ++ y ∷ [] ++ b ++ e ∷ []
    ≡ ws ++ (f ∷ ps ++ rs ++ y ∷ b ++ e ∷ [])
function_lists ws ps rs b f y e = equal (ws ∷ ps ∷ rs ∷ b ∷ (f ∷ []) ∷ (y ∷ []) ∷ (e ∷ []) ∷ [])
    (Then (Then (Then (Then (Then (Then (At 0) (Then (At 4) Nil)) (At 1)) (At 2)) (Then (At 5) Nil)) (At 3)) (Then (At 6) Nil))
    (Then (At 0) (Then (Then (Then (Then (At 4) (At 1)) (At 2)) (Then (At 5) (At 3))) (Then (At 6) Nil)))
    refl
