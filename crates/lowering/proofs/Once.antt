-- What code keeps of the marks of a part: what it has so far, and of the rest what a set of names lacks.
use Rattle.std.proofs.Common.{◌≡◌, ℕ, suc, ◌+◌, ◌<◌, ◌≤◌, Bool, true, false, not, ◌||◌, ◌&&◌, List, [], ◌∷◌, ◌++◌, length, drop, filter, get_or}
use Rattle.std.proofs.Common.{refl, sym, ◌∙◌, ap, subst, append-nil, append_assoc, add-one, Bor}
use Rattle.std.proofs.Math.Seq.{drop-cons}
use Rattle.std.proofs.lemmas.List.{drop_all}
use Rattle.std.specs.BTreeSet.{BTreeSet}
use Rattle.semantics.specs.Graph.{same_name}
use Rattle.semantics.proofs.Lines.{same_name_is}
use Rattle.source.specs.Tree.{Name}
use Rattle.source.specs.Outside.{is_in, once, without}
use Rattle.std.specs.Prelude.{if◌then◌else◌}
use Rattle.lowering.specs.Uses.{shown, has, lacks, with_new}
use Rattle.lowering.proofs.Scanned.{kept, left_out, filter_twice}
use Rattle.lowering.proofs.Same.{same_way}

abbrev Names : Type 0
Names = BTreeSet (Bor Name)

lacks_all : (k : Names) → ((z : Name) → has k z ≡ false) → (xs : List Name) → filter (lacks k) xs ≡ xs
lacks_all k none [] = refl
lacks_all k none (x ∷ xs) = kept (lacks k) x xs (ap not (none x)) ∙ ap (λ zs. x ∷ zs) (lacks_all k none xs)

-- One more name is no longer lacking.
abbrev HasMore : Names → Names → Name → Type 0
HasMore j k x = (z : Name) → has j z ≡ (same_name z x || has k z)

lacks_used : (j k : Names) (x : Name) → HasMore j k x → (y : Name) → lacks j y ≡ (not (same_name x y) && lacks k y)
lacks_used j k x h y = ap not (h y) ∙ by (same_name y x) (has k y) ∙ ap (λ (b : Bool). not b && lacks k y) (same_way y x)
  where
    by : (b c : Bool) → not (b || c) ≡ (not b && not c)
    by true c = refl
    by false c = refl

lacks_bound : (j k : Names) (x : Name) → HasMore j k x → (y : Name) → lacks j y ≡ (not (is_in y (x ∷ [])) && lacks k y)
lacks_bound j k x h y = ap not (h y) ∙ by (same_name y x) (has k y)
  where
    by : (b c : Bool) → not (b || c) ≡ (not (b || false) && not c)
    by true c = refl
    by false c = refl

one_way : (b c : Bool) → (b && c) ≡ (c && b)
one_way true true = refl
one_way true false = refl
one_way false true = refl
one_way false false = refl

-- It makes no difference whether names are left out before or after.
once_filter : (p : Name → Bool) (xs : List Name) → once (filter p xs) ≡ filter p (once xs)
once_filter p [] = refl
once_filter p (x ∷ xs) = by (p x) refl (once_filter p xs)
  where
    other : Name → Bool
    other y = not (same_name x y)

    off : p x ≡ false → (y : Name) (b : Bool) → same_name x y ≡ b → p y ≡ (not b && p y)
    off e y true h = subst (λ z. p z ≡ false) (same_name_is x y h) e
    off e y false h = refl

    by : (b : Bool) → p x ≡ b → once (filter p xs) ≡ filter p (once xs) → once (filter p (x ∷ xs)) ≡ filter p (once (x ∷ xs))
    by true e ih = ap once (kept p x xs e) ∙ ap (λ zs. x ∷ filter other zs) ih
        ∙ ap (λ zs. x ∷ zs) (filter_twice other p (λ y. p y && other y) (λ y. refl) (once xs))
        ∙ sym (kept p x (filter other (once xs)) e ∙ ap (λ zs. x ∷ zs) (filter_twice p other (λ y. p y && other y) (λ y. one_way (p y) (other y)) (once xs)))
    by false e ih = ap once (left_out p x xs e) ∙ ih
        ∙ sym (left_out p x (filter other (once xs)) e ∙ filter_twice p other p (λ y. off e y (same_name x y) refl) (once xs))

-- NAMES THAT ARE NEW
pub new_begun : (k : Names) (marks : List (Name × Bool)) → ((z : Name) → has k z ≡ false) → filter (lacks k) (once (shown marks)) ≡ once (shown marks)
new_begun k marks none = lacks_all k none (once (shown marks))

new_mark : (j k : Names) (js ks rest : List Name) (x : Name) (b : Bool) → js ≡ with_new (has k) (x, b) ks → HasMore j k x
    → js ++ filter (lacks j) (once rest) ≡ ks ++ filter (lacks k) (once (if b then without (x ∷ []) rest else x ∷ rest))
new_mark j k js ks rest x true e h =
    ap (λ zs. zs ++ filter (lacks j) (once rest)) e
    ∙ ap (λ zs. ks ++ zs) (sym (ap (filter (lacks k)) (once_filter (λ y. not (is_in y (x ∷ []))) rest)
    ∙ filter_twice (lacks k) (λ y. not (is_in y (x ∷ []))) (lacks j) (lacks_bound j k x h) (once rest)))
new_mark j k js ks rest x false e h = by (has k x) refl
  where
    other : Name → Bool
    other y = not (same_name x y)

    twice : filter (lacks k) (filter other (once rest)) ≡ filter (lacks j) (once rest)
    twice = filter_twice (lacks k) other (lacks j) (lacks_used j k x h) (once rest)

    by : (b : Bool) → has k x ≡ b → js ++ filter (lacks j) (once rest) ≡ ks ++ filter (lacks k) (x ∷ filter other (once rest))
    by true f = ap (λ zs. zs ++ filter (lacks j) (once rest)) (e ∙ ap (λ (b : Bool). if b then ks else ks ++ x ∷ []) f)
        ∙ ap (λ zs. ks ++ zs) (sym (left_out (lacks k) x (filter other (once rest)) (ap not f) ∙ twice))
    by false f = ap (λ zs. zs ++ filter (lacks j) (once rest)) (e ∙ ap (λ (b : Bool). if b then ks else ks ++ x ∷ []) f)
        ∙ append_assoc ks (x ∷ []) (filter (lacks j) (once rest))
        ∙ ap (λ zs. ks ++ zs) (sym (kept (lacks k) x (filter other (once rest)) (ap not f) ∙ ap (λ zs. x ∷ zs) twice))

pub new_step : (j k : Names) (js ks : List Name) (marks : List (Name × Bool)) (i : ℕ) (m d : Name × Bool) → i < length marks → m ≡ get_or marks i d
    → js ≡ with_new (has k) m ks → ((z : Name) → has j z ≡ (same_name z m.0 || has k z))
    → js ++ filter (lacks j) (once (shown (drop (i + 1) marks))) ≡ ks ++ filter (lacks k) (once (shown (drop i marks)))
new_step j k js ks marks i m d l e w h =
    ap (λ (n : ℕ). js ++ filter (lacks j) (once (shown (drop n marks)))) (add-one i)
    ∙ new_mark j k js ks (shown (drop (suc i) marks)) m.0 m.1 w h
    ∙ ap (λ (n : Name × Bool). ks ++ filter (lacks k) (once (shown (n ∷ drop (suc i) marks)))) e
    ∙ ap (λ ns. ks ++ filter (lacks k) (once (shown ns))) (sym (drop-cons marks i d l))

pub new_ended : (k : Names) (ks : List Name) (marks : List (Name × Bool)) (i : ℕ) → length marks ≤ i → ks ++ filter (lacks k) (once (shown (drop i marks))) ≡ ks
new_ended k ks marks i h = ap (λ ms. ks ++ filter (lacks k) (once (shown ms))) (drop_all i marks h) ∙ append-nil ks

-- NAMES THAT ARE NOT HIDDEN
pub shown_begun : (k : Names) (marks : List (Name × Bool)) → ((z : Name) → has k z ≡ false) → filter (lacks k) (shown marks) ≡ shown marks
shown_begun k marks none = lacks_all k none (shown marks)

shown_mark : (j k : Names) (js ks rest : List Name) (x : Name) (b : Bool) → js ≡ with_new (has k) (x, b) ks
    → ((z : Name) → has j z ≡ ((b && same_name z x) || has k z))
    → js ++ filter (lacks j) rest ≡ ks ++ filter (lacks k) (if b then without (x ∷ []) rest else x ∷ rest)
shown_mark j k js ks rest x true e h =
    ap (λ zs. zs ++ filter (lacks j) rest) e
    ∙ ap (λ zs. ks ++ zs) (sym (filter_twice (lacks k) (λ y. not (is_in y (x ∷ []))) (lacks j) (lacks_bound j k x h) rest))
shown_mark j k js ks rest x false e h = by (has k x) refl
  where
    same : filter (lacks j) rest ≡ filter (lacks k) rest
    same = ap (λ (p : Name → Bool). filter p rest) (λ i z. ap not (h z) i)

    by : (b : Bool) → has k x ≡ b → js ++ filter (lacks j) rest ≡ ks ++ filter (lacks k) (x ∷ rest)
    by true f = ap (λ zs. zs ++ filter (lacks j) rest) (e ∙ ap (λ (b : Bool). if b then ks else ks ++ x ∷ []) f)
        ∙ ap (λ zs. ks ++ zs) (same ∙ sym (left_out (lacks k) x rest (ap not f)))
    by false f = ap (λ zs. zs ++ filter (lacks j) rest) (e ∙ ap (λ (b : Bool). if b then ks else ks ++ x ∷ []) f)
        ∙ append_assoc ks (x ∷ []) (filter (lacks j) rest)
        ∙ ap (λ zs. ks ++ zs) (ap (λ zs. x ∷ zs) same ∙ sym (kept (lacks k) x rest (ap not f)))

pub shown_step : (j k : Names) (js ks : List Name) (marks : List (Name × Bool)) (i : ℕ) (m d : Name × Bool) → i < length marks → m ≡ get_or marks i d
    → js ≡ with_new (has k) m ks → ((z : Name) → has j z ≡ ((m.1 && same_name z m.0) || has k z))
    → js ++ filter (lacks j) (shown (drop (i + 1) marks)) ≡ ks ++ filter (lacks k) (shown (drop i marks))
shown_step j k js ks marks i m d l e w h =
    ap (λ (n : ℕ). js ++ filter (lacks j) (shown (drop n marks))) (add-one i)
    ∙ shown_mark j k js ks (shown (drop (suc i) marks)) m.0 m.1 w h
    ∙ ap (λ (n : Name × Bool). ks ++ filter (lacks k) (shown (n ∷ drop (suc i) marks))) e
    ∙ ap (λ ns. ks ++ filter (lacks k) (shown ns)) (sym (drop-cons marks i d l))

pub shown_ended : (k : Names) (ks : List Name) (marks : List (Name × Bool)) (i : ℕ) → length marks ≤ i → ks ++ filter (lacks k) (shown (drop i marks)) ≡ ks
shown_ended k ks marks i h = ap (λ ms. ks ++ filter (lacks k) (shown ms)) (drop_all i marks h) ∙ append-nil ks
