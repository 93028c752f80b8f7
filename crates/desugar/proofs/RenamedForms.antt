-- FORMS OF THE CORE with other names.
use Rattle.std.specs.Prelude.{◌≡◌, refl, ℕ, zero, suc, nat_lt, Bool, true, false, List, [], ◌∷◌, ◌++◌, map, length, take, drop, replicate, Option, None, Some}
use Rattle.std.specs.Prelude.{if◌then◌else◌}
use Rattle.std.proofs.Common.{◌∙◌, ap, ap₂, sym}
use Rattle.std.proofs.lemmas.List.{length-map, take-map, drop-map, map-append}
use Rattle.operators.specs.declared.Unary.{Unary}
use Rattle.operators.specs.declared.Unary.TheVariants.{Neg}
use Rattle.operators.specs.declared.Binary.{Binary}
use Rattle.operators.specs.declared.Binary.TheVariants.{Lt}
use Rattle.source.specs.declared.word.InfixSign.TheVariants.{Direct}
use Rattle.source.specs.declared.word.Word.{Word as CoreWord}
use Rattle.source.specs.declared.word.Word.TheVariants as core
use Rattle.desugar.specs.declared.frame.Atom.{Atom}
use Rattle.desugar.specs.declared.frame.Atom.TheVariants as atom
use Rattle.desugar.specs.declared.frame.Given.{Given}
use Rattle.desugar.specs.Forms.{atom_words, atom_level, bracketed, negated, brackets, left_end, right_end, let_words, giving, or_else, goes_on}
use Rattle.desugar.specs.Forms.{carried_firsts, all_bound, all_named, all_given}
use Rattle.desugar.specs.Renamed.{core_renamed}
use Rattle.desugar.proofs.Renamings.{atom_renamed, maybe_renamed, given_renamed, words_in}

-- Some words are others with new names.
pub record Renames {N M : Type 0} (f : N → M) (vs : List (CoreWord M)) (ws : List (CoreWord N)) : Type 0 where
  pub is : vs ≡ words_in f ws

pub lit : {N M : Type 0} (f : N → M) (ws : List (CoreWord N)) → Renames f (words_in f ws) ws
lit f ws = record { is = refl }

pub both : {N M : Type 0} (f : N → M) {vs us : List (CoreWord M)} {ws xs : List (CoreWord N)} → Renames f vs ws → Renames f us xs → Renames f (vs ++ us) (ws ++ xs)
both f {vs} {us} {ws} {xs} p q = record { is = ap₂ (λ (a b : List (CoreWord _)). a ++ b) p.is q.is ∙ sym (map-append (core_renamed f) ws xs) }

pub also : {N M : Type 0} (f : N → M) (w : CoreWord N) {vs : List (CoreWord M)} {ws : List (CoreWord N)} → Renames f vs ws → Renames f (core_renamed f w ∷ vs) (w ∷ ws)
also f w p = record { is = ap (λ z. core_renamed f w ∷ z) p.is }

pub taken : {N M : Type 0} (f : N → M) (n : ℕ) (ws : List (CoreWord N)) → Renames f (take n (words_in f ws)) (take n ws)
taken f n ws = record { is = take-map (core_renamed f) n ws }

pub dropped : {N M : Type 0} (f : N → M) (n : ℕ) (ws : List (CoreWord N)) → Renames f (drop n (words_in f ws)) (drop n ws)
dropped f n ws = record { is = drop-map (core_renamed f) n ws }

pub as_long : {N M : Type 0} (f : N → M) {vs : List (CoreWord M)} {ws : List (CoreWord N)} → Renames f vs ws → length vs ≡ length ws
as_long f {vs} {ws} p = ap length p.is ∙ length-map ws (core_renamed f)

-- ATOMS
brackets_renamed : {N M : Type 0} (f : N → M) (k : ℕ) → Renames f (replicate k core.Bracket) (replicate k core.Bracket)
brackets_renamed f zero = lit f []
brackets_renamed f (suc k) = also f core.Bracket (brackets_renamed f k)

pub atom_words_renamed : {N M : Type 0} (f : N → M) (a : Atom N) → Renames f (atom_words (atom_renamed f a)) (atom_words a)
atom_words_renamed f (atom.Number at n k) = also f (core.Number at n) (brackets_renamed f k)
atom_words_renamed f (atom.Negative sign_at at n k) = also f (core.Number at n) (also f (core.Prefix sign_at Neg) (brackets_renamed f k))
atom_words_renamed f (atom.Name at x) = lit f (core.Name at x ∷ [])

pub atom_level_renamed : {N M : Type 0} (f : N → M) (a : Atom N) → atom_level (atom_renamed f a) ≡ atom_level a
atom_level_renamed f (atom.Number at n k) = refl
atom_level_renamed f (atom.Negative sign_at at n k) = refl
atom_level_renamed f (atom.Name at x) = refl

pub bracketed_renamed : {N M : Type 0} (f : N → M) (a : Option (Atom N)) → bracketed (maybe_renamed f a) ≡ maybe_renamed f (bracketed a)
bracketed_renamed f None = refl
bracketed_renamed f (Some (atom.Number at n k)) = refl
bracketed_renamed f (Some (atom.Negative sign_at at n k)) = refl
bracketed_renamed f (Some (atom.Name at x)) = refl

pub negated_renamed : {N M : Type 0} (f : N → M) (at : ℕ) (op : Unary) (literal : Bool) (a : Option (Atom N))
    → negated at op literal (maybe_renamed f a) ≡ maybe_renamed f (negated at op literal a)
negated_renamed f at Neg true (Some (atom.Number number_at n k)) = refl
negated_renamed f at op literal a = refl

-- ENDS
ends_renamed : {N M : Type 0} (f : N → M) (wanted level : ℕ) → Renames f (brackets wanted level) (brackets wanted level)
ends_renamed {N} {M} f wanted level = go (nat_lt level wanted)
  where
    go : (b : Bool) → Renames {N = N} {M = M} f (if b then core.Bracket ∷ [] else []) (if b then core.Bracket ∷ [] else [])
    go true = lit f (core.Bracket ∷ [])
    go false = lit f []

pub left_end_renamed : {N M : Type 0} (f : N → M) (op : Binary) (level : ℕ) → Renames f (left_end op level) (left_end op level)
left_end_renamed f op level = both f (ends_renamed f _ level) (lit f (core.Left ∷ []))

pub right_end_renamed : {N M : Type 0} (f : N → M) (at : ℕ) (op : Binary) (level : ℕ) → Renames f (right_end at op level) (right_end at op level)
right_end_renamed f at op level = both f (ends_renamed f _ level) (lit f (core.Infix at (Direct op) ∷ []))

pub atom_left_end : {N M : Type 0} (f : N → M) (op : Binary) (a : Atom N) → Renames f (left_end op (atom_level (atom_renamed f a))) (left_end op (atom_level a))
atom_left_end f op a = record { is = ap (λ n. left_end op n) (atom_level_renamed f a) ∙ (left_end_renamed f op (atom_level a)).is }

pub atom_right_end : {N M : Type 0} (f : N → M) (at : ℕ) (op : Binary) (a : Atom N)
    → Renames f (right_end at op (atom_level (atom_renamed f a))) (right_end at op (atom_level a))
atom_right_end f at op a = record { is = ap (λ n. right_end at op n) (atom_level_renamed f a) ∙ (right_end_renamed f at op (atom_level a)).is }

-- STATEMENTS
pub let_renamed : {N M : Type 0} (f : N → M) (at : ℕ) (x : N) (y : M) {vs : List (CoreWord M)} {ws : List (CoreWord N)} → y ≡ f x → Renames f vs ws
    → Renames f (let_words at y vs) (let_words at x ws)
let_renamed f at x y {vs} {ws} e p = record {
  is = ap (λ z. let_words at z vs) e
      ∙ (both f (also f (core.Let at) (also f (core.Bind at x) (also f core.List p))) (lit f (core.Part ∷ core.EndLet at ∷ []))).is;
}

pub giving_renamed : {N M : Type 0} (f : N → M) {vs : List (CoreWord M)} {ws : List (CoreWord N)} → Renames f vs ws → Renames f (giving vs) (giving ws)
giving_renamed f p = both f (also f core.List p) (lit f (core.Part ∷ core.Give ∷ []))

pub or_else_renamed : {N M : Type 0} (f : N → M) (at : ℕ) {vs : List (CoreWord M)} {ws : List (CoreWord N)} → Renames f vs ws
    → Renames f (or_else at vs) (or_else at ws)
or_else_renamed f at p = both f (also f core.Else (giving_renamed f p)) (lit f (core.EndIf at ∷ []))

-- COUNTING
pub goes_on_renamed : {N M : Type 0} (f : N → M) (at : ℕ) (i : N) (end : Atom N) → Renames f (goes_on at (f i) (atom_renamed f end)) (goes_on at i end)
goes_on_renamed f at i end = both f (also f (core.Name at i) (also f core.Left (atom_words_renamed f end))) (atom_right_end f at Lt end)

pub firsts_renamed : {N M : Type 0} (f : N → M) (xs : List (Given N)) (firsts : List (Atom N))
    → Renames f (carried_firsts (map (given_renamed f) xs) (map (atom_renamed f) firsts)) (carried_firsts xs firsts)
firsts_renamed f [] firsts = lit f []
firsts_renamed f (x ∷ xs) [] = lit f []
firsts_renamed f (x ∷ xs) (a ∷ firsts) =
    both f (also f (core.Start x.at x.name) (atom_words_renamed f a)) (also f core.First (firsts_renamed f xs firsts))

pub bound_renamed : {N M : Type 0} (f : N → M) (at : ℕ) (xs : List (Given N)) → Renames f (all_bound at (map (given_renamed f) xs)) (all_bound at xs)
bound_renamed f at [] = lit f []
bound_renamed f at (x ∷ xs) = also f (core.Bind at x.name) (bound_renamed f at xs)

pub named_renamed : {N M : Type 0} (f : N → M) (at : ℕ) (xs : List (Given N)) → Renames f (all_named at (map (given_renamed f) xs)) (all_named at xs)
named_renamed f at [] = lit f []
named_renamed f at (x ∷ xs) = also f (core.Name at x.name) (also f core.Part (named_renamed f at xs))

pub given_values : {N M : Type 0} (f : N → M) (firsts : List (Atom N)) → Renames f (all_given (map (atom_renamed f) firsts)) (all_given firsts)
given_values f [] = lit f []
given_values f (a ∷ firsts) = both f (atom_words_renamed f a) (also f core.Part (given_values f firsts))
