-- A TABLE of the names of a text, and what no name of it begins with.
use Rattle.std.specs.Prelude.{◌≡◌, refl, ℕ, Option, zero, suc, ◌+◌, ◌||◌, Bool, true, false, List, [], ◌∷◌, length, filter_map, All, if◌then◌else◌}
use Rattle.std.specs.List.{list_any, cons_option}
use Rattle.std.proofs.Common.{◌∙◌, ap, ap₂, sym}
use Rattle.std.proofs.lemmas.List.Elements.{All-head, All-tail}
use Rattle.semantics.specs.Graph.{same_name}
use Rattle.semantics.proofs.Lines.{same_name_is}
use Rattle.source.specs.Tree.{Name}
use Rattle.source.specs.Tokens.{begins}
use Rattle.source.specs.Outside.{is_in}
use Rattle.surface.specs.declared.token.Token.{Token}
use Rattle.surface.specs.Spelled.{Spelling, program_tokens, AreSpelled}
use Rattle.surface.specs.Instances.{name_said, prefix_number, free_prefix, text_names}
use Rattle.desugar.specs.Tables.{names_said, TextNamesAreSaid, TablesAreFree, PrefixIsFound}
use Rattle.desugar.proofs.Numbers.{or_false}

-- what no name of some has, none has that is one of them
none_of : (f : Name → Bool) (x : Name) (xs : List Name) → is_in x xs ≡ true → list_any f xs ≡ false → f x ≡ false
none_of f x [] h e = absurd cc
none_of f x (y ∷ ys) h e = go (same_name x y) refl h (λ g. none_of f x ys g (or_false (f y) (list_any f ys) e).1)
  where
    go : (b : Bool) → same_name x y ≡ b → (b || is_in x ys) ≡ true → (is_in x ys ≡ true → f x ≡ false) → f x ≡ false
    go true s g later = ap f (same_name_is x y s) ∙ (or_false (f y) (list_any f ys) e).0
    go false s g later = later g

fewer : (f : Name → Bool) (xs ys : List Name) → All (λ x. is_in x ys ≡ true) xs → list_any f ys ≡ false → list_any f xs ≡ false
fewer f [] ys h e = refl
fewer f (x ∷ xs) ys h e = rw (none_of f x ys (All-head (λ x. is_in x ys ≡ true) x xs h) e) (fewer f xs ys (All-tail (λ x. is_in x ys ≡ true) x xs h) e)

pub tables_are_free : TablesAreFree
tables_are_free names p prefix h e = fewer (begins prefix) names (text_names p) h e

-- The first prefix that is free is the same for both.
one_prefix : (xs ys : List Name) → ((n : ℕ) → list_any (begins (prefix_number n)) xs ≡ list_any (begins (prefix_number n)) ys) → (a b n : ℕ)
    → list_any (begins (free_prefix a n xs)) xs ≡ false → list_any (begins (free_prefix b n ys)) ys ≡ false → free_prefix a n xs ≡ free_prefix b n ys
one_prefix xs ys same zero zero n h g = refl
one_prefix xs ys same zero (suc b) n h g = rw (sym (same n) ∙ h) refl
one_prefix xs ys same (suc a) zero n h g = rw (same n ∙ g) refl
one_prefix xs ys same (suc a) (suc b) n h g = go (list_any (begins (prefix_number n)) xs) refl (list_any (begins (prefix_number n)) ys) refl h g
    (one_prefix xs ys same a b (n + 1))
  where
    go : (c : Bool) → list_any (begins (prefix_number n)) xs ≡ c → (d : Bool) → list_any (begins (prefix_number n)) ys ≡ d
        → list_any (begins (if c then free_prefix a (n + 1) xs else prefix_number n)) xs ≡ false
        → list_any (begins (if d then free_prefix b (n + 1) ys else prefix_number n)) ys ≡ false
        → (list_any (begins (free_prefix a (n + 1) xs)) xs ≡ false → list_any (begins (free_prefix b (n + 1) ys)) ys ≡ false
        → free_prefix a (n + 1) xs ≡ free_prefix b (n + 1) ys) → (if c then free_prefix a (n + 1) xs else prefix_number n) ≡ (if d then free_prefix b (n + 1) ys else prefix_number n)
    go true e true f h g later = later h g
    go false e false f h g later = refl
    go true e false f h g later = let wrong : true ≡ false = sym e ∙ same n ∙ f in absurd cc
    go false e true f h g later = let wrong : false ≡ true = sym e ∙ same n ∙ f in absurd cc

as_many : (f : Name → Bool) (xs ys : List Name) → All (λ x. is_in x ys ≡ true) xs → All (λ y. is_in y xs ≡ true) ys → list_any f xs ≡ list_any f ys
as_many f xs ys h g = go (list_any f xs) refl (list_any f ys) refl
  where
    go : (c : Bool) → list_any f xs ≡ c → (d : Bool) → list_any f ys ≡ d → c ≡ d
    go true e true i = refl
    go false e false i = refl
    go true e false i = sym e ∙ fewer f xs ys h i
    go false e true i = sym (fewer f ys xs g e) ∙ i

pub prefix_is_found : PrefixIsFound
prefix_is_found names p t h g = one_prefix names (text_names p) (λ n. as_many (begins (prefix_number n)) names (text_names p) t.said t.all) (length names)
    (length (text_names p)) 0 h g

-- TOKENS that are a tree's say its names.
said_so : (text : List ℕ) (ss : List Spelling) (ts : List Token) → AreSpelled text ss ts → filter_map (λ (s : Spelling). name_said s.lexeme) ss ≡ names_said text ts
said_so text [] [] h = refl
said_so text [] (t ∷ ts) h = absurd h
said_so text (s ∷ ss) [] h = absurd h
said_so text (s ∷ ss) (t ∷ ts) h = ap₂ (λ (o : Option Name) (xs : List Name). cons_option o xs) (sym (ap name_said h.0.0)) (said_so text ss ts h.1)

pub text_names_are_said : TextNamesAreSaid
text_names_are_said text ts p h = said_so text (program_tokens p) ts h
