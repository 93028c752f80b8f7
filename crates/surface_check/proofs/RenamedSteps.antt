-- STEPS DO NOT DEPEND ON WHAT NAMES ARE, but on which are the same: values, names, arrays and calls.
use Rattle.std.specs.Prelude.{◌≡◌, refl, ℕ, zero, suc, ◌+◌, ◌==◌, ◌&&◌, ◌||◌, not, Bool, true, false, pos, int_le, int_lt, List, [], ◌∷◌, map, drop}
use Rattle.std.specs.Prelude.{is_some, Option, None, Some, if◌then◌else◌}
use Rattle.std.proofs.Common.{◌∙◌, ap, ap₂, sym}
use Rattle.std.proofs.lemmas.List.{map-append}
use Rattle.operators.specs.declared.Unary.{Unary}
use Rattle.operators.specs.declared.Unary.TheVariants as unary
use Rattle.source.specs.declared.fault.FaultKind.TheVariants.{SameName, NoSuchName, Arity, BadCount}
use Rattle.source.specs.declared.word.Word.{Word as CoreWord}
use Rattle.source.specs.declared.word.Word.TheVariants as core_word
use Rattle.surface.specs.declared.word.Word.{Word}
use Rattle.surface.specs.declared.word.Word.TheVariants as word
use Rattle.surface.specs.Known.{Callee, Missing, OfValues, OfArrays, IsBuiltIn, Min, Max, Abs, Len, Signature}
use Rattle.surface.specs.Rules.{rank_in, same_ranks}
use Rattle.source_check.specs.Steps.{since}
use Rattle.surface_check.specs.declared.evaluation.Part.{Part}
use Rattle.surface_check.specs.declared.frame.Kind.{Kind}
use Rattle.surface_check.specs.declared.frame.Kind.TheVariants as kind
use Rattle.surface_check.specs.declared.frame.Frame.{Frame}
use Rattle.surface_check.specs.declared.frame.Frame.TheVariants as frame
use Rattle.surface_check.specs.Evaluates.{word_ahead, core_ahead, ends_call, strict_ahead}
use Rattle.surface_check.specs.Heads.{Names}
use Rattle.surface_check.specs.Pins.{array_in, signature_in, callee_in}
use Rattle.surface_check.specs.Renamed.{renamed, core_renamed}
use Rattle.surface_check.specs.Steps.{Items, Open, Plain, NamePart, stands, lookup_by, top, popped, pushed, ended, rank_at, is_constant_entry}
use Rattle.surface_check.specs.Steps.{no_value, noted, all_noted, using, named, argument, core_is_part, is_part, part_next, passes, name_read, bracketed, prefixed}
use Rattle.surface_check.specs.Steps.{operated, one_taken, cell, next_index, indexed, measures, core_name, word_name, name_part, measured_from, calls_built_in}
use Rattle.surface_check.specs.Steps.{callee_at, begins_call, part, passed, takes, call, measured, give, is_new, bound, array_bound, dropped}
use Rattle.surface_check.proofs.Moved.{kind_moved, array_moved, part_moved, moved, state_moved, items_by, StepsAlike, mapped, must_mapped, must_moved}
use Rattle.surface_check.proofs.Moved.{must_first, bind_mapped, if_mapped, since_moved, drop_one}

-- NAMES
pub stands_moved : {N M : Type 0} (f : N → M) (t : Names N) (r : Names M) → StepsAlike f t r → (x : N) (xs : List N) → stands r (f x) (map f xs) ≡ stands t x xs
stands_moved f t r a x [] = refl
stands_moved f t r a x (y ∷ ys) = ap₂ (λ (b c : Bool). b || c) (a.same x y) (stands_moved f t r a x ys)

lookup_moved : {N M : Type 0} (f : N → M) (t : Names N) (r : Names M) → StepsAlike f t r → (es : List (N × ℕ)) (x : N)
    → lookup_by r (map (array_moved f) es) (f x) ≡ lookup_by t es x
lookup_moved f t r a [] x = refl
lookup_moved f t r a (e ∷ es) x = ap₂ (λ (b : Bool) (o : Option ℕ). if b then Some e.1 else o) (a.same x e.0) (lookup_moved f t r a es x)

rank_moved : {N M : Type 0} (f : N → M) (t : Names N) (r : Names M) → StepsAlike f t r → (k : Items M) (s : Open N) (x : N)
    → rank_at r k (moved f s) (f x) ≡ rank_at t (items_by f k) s x
rank_moved f t r a k s x = ap (λ (o : Option ℕ). rank_in o (array_in (k.item (f x)))) (lookup_moved f t r a s.arrays x)

no_value_moved : {N M : Type 0} (f : N → M) (t : Names N) (r : Names M) → StepsAlike f t r → (k : Items M) (s : Open N) (x : N)
    → no_value r k (moved f s) (f x) ≡ no_value t (items_by f k) s x
no_value_moved f t r a k s x = ap (λ (o : Option ℕ). is_some (k.item (f x)) || is_some o) (lookup_moved f t r a s.arrays x)

noted_moved : {N M : Type 0} (f : N → M) (t : Names N) (r : Names M) → StepsAlike f t r → (h : N → Bool) (g : M → Bool) → ((x : N) → g (f x) ≡ h x)
    → (inner : List N) (n : ℕ) (used : List N) (x : N) → noted r g (map f inner) n (map f used) (f x) ≡ map f (noted t h inner n used x)
noted_moved {N} {M} f t r a h g e inner n used x =
    ap₂ (λ (b c : Bool). if b || c then map f used else f x ∷ map f used) (ap₂ (λ (b c : Bool). b || c) (stands_moved f t r a x inner) (e x))
    (ap (λ (us : List M). stands r (f x) us) (since_moved f n used) ∙ stands_moved f t r a x (since n used))
    ∙ go ((stands t x inner || h x) || stands t x (since n used))
  where
    go : (b : Bool) → (if b then map f used else f x ∷ map f used) ≡ map f (if b then used else x ∷ used)
    go true = refl
    go false = refl

all_noted_moved : {N M : Type 0} (f : N → M) (t : Names N) (r : Names M) → StepsAlike f t r → (h : N → Bool) (g : M → Bool) → ((x : N) → g (f x) ≡ h x)
    → (inner : List N) (n : ℕ) (xs used : List N)
    → all_noted r g (map f inner) n (map f used) (map f xs) ≡ map f (all_noted t h inner n used xs)
all_noted_moved f t r a h g e inner n [] used = refl
all_noted_moved {N} {M} f t r a h g e inner n (x ∷ xs) used =
    ap (λ (us : List M). all_noted r g (map f inner) n us (map f xs)) (noted_moved f t r a h g e inner n used x)
    ∙ all_noted_moved f t r a h g e inner n xs (noted t h inner n used x)

pub using_moved : {N M : Type 0} (f : N → M) (t : Names N) (r : Names M) → StepsAlike f t r → (k : Items M) (s : Open N) (xs : List N)
    → using r k (moved f s) (map f xs) ≡ moved f (using t (items_by f k) s xs)
using_moved {N} {M} f t r a k s xs =
    ap (λ (us : List M). record (moved f s) { used = us })
    (ap (λ (inner : List M). all_noted r (no_value r k (moved f s)) inner s.turn.start (map f s.used) (map f xs)) (since_moved f s.turn.base s.scope)
    ∙ all_noted_moved f t r a (no_value t (items_by f k) s) (no_value r k (moved f s)) (no_value_moved f t r a k s) (since s.turn.base s.scope) s.turn.start xs
    s.used)

-- VALUES
name_kind : {N M : Type 0} (f : N → M) (b : Bool) (x : N)
    → (if b then kind.Constant else kind.Variable (f x)) ≡ kind_moved f (if b then kind.Constant else kind.Variable x)
name_kind f true x = refl
name_kind f false x = refl

named_moved : {N M : Type 0} (f : N → M) (t : Names N) (r : Names M) → StepsAlike f t r → (k : Items M) (s : Open N) (at : ℕ) (x : N) (b : Bool)
    → named r k (moved f s) at (f x) b ≡ mapped (state_moved f) (named t (items_by f k) s at x b)
named_moved {N} {M} f t r a k s at x b =
    must_moved (state_moved f) (b || stands t x s.scope) (b || stands r (f x) (map f s.scope)) NoSuchName at _ _
    (ap (λ (c : Bool). b || c) (stands_moved f t r a x s.scope))
    (ap₂ (λ (z : Open M) (c : Kind M). Plain (ended z 1 at c)) (using_moved f t r a k s (x ∷ [])) (name_kind f b x))

argument_moved : {N M : Type 0} (f : N → M) (t : Names N) (r : Names M) → StepsAlike f t r → (k : Items M) (s : Open N) (at : ℕ) (x : N) (o : Option ℕ)
    → argument r k (moved f s) at (f x) o ≡ mapped (state_moved f) (argument t (items_by f k) s at x o)
argument_moved f t r a k s at x (Some rank) = refl
argument_moved f t r a k s at x None = named_moved f t r a k s at x (is_constant_entry (k.item (f x)))

core_part_moved : {N M : Type 0} (f : N → M) (w : CoreWord N) → core_is_part (core_renamed f w) ≡ core_is_part w
core_part_moved f core_word.Part = refl
core_part_moved f w = refl

is_part_moved : {N M : Type 0} (f : N → M) (w : Word N) → is_part (renamed f w) ≡ is_part w
is_part_moved f (word.Core w) = core_part_moved f w
is_part_moved f w = refl

next_moved : {N M : Type 0} (f : N → M) (ws : List (Word N)) → part_next (map (renamed f) ws) ≡ part_next ws
next_moved f [] = refl
next_moved f (w ∷ ws) = is_part_moved f w

pub read_moved : {N M : Type 0} (f : N → M) (t : Names N) (r : Names M) → StepsAlike f t r → (k : Items M) (s : Open N) (at : ℕ) (x : N) (ws : List (Word N))
    → name_read r k (moved f s) at (f x) (map (renamed f) ws) ≡ mapped (state_moved f) (name_read t (items_by f k) s at x ws)
read_moved {N} {M} f t r a k s at x ws =
    let c : Bool = is_constant_entry (k.item (f x)) in
    ap (λ (b : Bool). if b && passes (top s.frames) then argument r k (moved f s) at (f x) (rank_at r k (moved f s) (f x)) else named r k (moved f s) at
    (f x) c) (next_moved f ws)
    ∙ if_mapped (state_moved f) (part_next ws && passes (top s.frames)) (argument t (items_by f k) s at x (rank_at t (items_by f k) s x))
    (named t (items_by f k) s at x c) (argument r k (moved f s) at (f x) (rank_at r k (moved f s) (f x))) (named r k (moved f s) at (f x) c)
    (ap (λ (o : Option ℕ). argument r k (moved f s) at (f x) o) (rank_moved f t r a k s x) ∙ argument_moved f t r a k s at x (rank_at t (items_by f k) s x))
    (named_moved f t r a k s at x c)

pub bracketed_moved : {N M : Type 0} (f : N → M) (k : Kind N) → bracketed (kind_moved f k) ≡ kind_moved f (bracketed k)
bracketed_moved f kind.Written = refl
bracketed_moved f kind.Constant = refl
bracketed_moved f (kind.Variable x) = refl
bracketed_moved f kind.Other = refl

pub prefixed_moved : {N M : Type 0} (f : N → M) (op : Unary) (k : Kind N) → prefixed op (kind_moved f k) ≡ kind_moved f (prefixed op k)
prefixed_moved f unary.Neg kind.Written = refl
prefixed_moved f unary.Neg kind.Constant = refl
prefixed_moved f unary.Neg (kind.Variable x) = refl
prefixed_moved f unary.Neg kind.Other = refl
prefixed_moved f unary.Not k = refl

pub operated_moved : {N M : Type 0} (f : N → M) (s : Open N) (at : ℕ) (j : Kind M) (k : Kind N) → j ≡ kind_moved f k
    → operated (moved f s) at j ≡ mapped (state_moved f) (operated s at k)
operated_moved {N} {M} f s at j k e = must_mapped (state_moved f) (s.last.count == 1) Arity s.last.at _ _ (ap (λ (z : Kind M). Plain (ended (moved f s) 1 at z)) e)

pub one_taken_moved : {N M : Type 0} (f : N → M) (s : Open N) → one_taken (moved f s) ≡ mapped (state_moved f) (one_taken s)
one_taken_moved f s = must_mapped (state_moved f) (s.last.count == 1) Arity s.last.at _ _ refl

-- ARRAYS
cell_of : {N M : Type 0} (f : N → M) (s : Open N) (at : ℕ) (o : Option ℕ) → cell (moved f s) at o ≡ mapped (state_moved f) (cell s at o)
cell_of f s at (Some rank) = refl
cell_of f s at None = refl

pub cell_moved : {N M : Type 0} (f : N → M) (t : Names N) (r : Names M) → StepsAlike f t r → (k : Items M) (s : Open N) (at : ℕ) (x : N)
    → cell (moved f s) at (rank_at r k (moved f s) (f x)) ≡ mapped (state_moved f) (cell s at (rank_at t (items_by f k) s x))
cell_moved f t r a k s at x = ap (λ (o : Option ℕ). cell (moved f s) at o) (rank_moved f t r a k s x) ∙ cell_of f s at (rank_at t (items_by f k) s x)

pub index_moved : {N M : Type 0} (f : N → M) (s : Open N) (o : Option Frame) → next_index (moved f s) o ≡ mapped (state_moved f) (next_index s o)
index_moved f s (Some (frame.Indexes at rank count)) = must_mapped (state_moved f) (s.last.count == 1) Arity s.last.at _ _ refl
index_moved f s o = refl

pub indexed_moved : {N M : Type 0} (f : N → M) (s : Open N) (o : Option Frame) (after : Open N)
    → indexed (moved f s) o (moved f after) ≡ mapped (state_moved f) (indexed s o after)
indexed_moved f s (Some (frame.Indexes at rank count)) after = must_first (state_moved f) (s.last.count == 1) Arity s.last.at _ _ (must_mapped (state_moved f)
    (count + 1 == rank) Arity at _ _ refl)
indexed_moved f s o after = refl

-- CALLS
measures_moved : {N M : Type 0} (f : N → M) (s : Open N) (at name_at : ℕ) (o : Option ℕ)
    → measures (moved f s) at name_at o ≡ mapped (state_moved f) (measures s at name_at o)
measures_moved f s at name_at (Some rank) = refl
measures_moved f s at name_at None = refl

core_name_moved : {N M : Type 0} (f : N → M) (w : CoreWord N) (b : Bool) → core_name (core_renamed f w) b ≡ part_moved f (core_name w b)
core_name_moved f (core_word.Name at x) true = refl
core_name_moved f (core_word.Name at x) false = refl
core_name_moved f w b = refl

word_name_moved : {N M : Type 0} (f : N → M) (w : Word N) (b : Bool) → word_name (renamed f w) b ≡ part_moved f (word_name w b)
word_name_moved f (word.Core w) b = core_name_moved f w b
word_name_moved f w b = refl

name_part_moved : {N M : Type 0} (f : N → M) (ws : List (Word N)) → name_part (map (renamed f) ws) ≡ part_moved f (name_part ws)
name_part_moved f [] = refl
name_part_moved f (w ∷ ws) = ap (λ (b : Bool). word_name (renamed f w) b) (next_moved f ws) ∙ word_name_moved f w (part_next ws)

measured_from_moved : {N M : Type 0} (f : N → M) (t : Names N) (r : Names M) → StepsAlike f t r → (k : Items M) (s : Open N) (at : ℕ) (o : Option (NamePart N))
    → measured_from r k (moved f s) at (part_moved f o) ≡ mapped (state_moved f) (measured_from t (items_by f k) s at o)
measured_from_moved f t r a k s at (Some p) = ap (λ (o : Option ℕ). measures (moved f s) at p.at o) (rank_moved f t r a k s p.name)
    ∙ measures_moved f s at p.at (rank_at t (items_by f k) s p.name)
measured_from_moved f t r a k s at None = refl

calls_moved : {N M : Type 0} (f : N → M) (t : Names N) (r : Names M) → StepsAlike f t r → (k : Items M) (s : Open N) (at : ℕ) (c : Callee) (ws : List (Word N))
    → calls_built_in r k (moved f s) at c (map (renamed f) ws) ≡ mapped (state_moved f) (calls_built_in t (items_by f k) s at c ws)
calls_moved {N} {M} f t r a k s at (IsBuiltIn Len) ws =
    ap (λ (o : Option (NamePart M)). measured_from r k (moved f s) at o)
    (ap (λ (us : List (Word M)). name_part us) (drop_one (renamed f) ws) ∙ name_part_moved f (drop 1 ws))
    ∙ measured_from_moved f t r a k s at (name_part (drop 1 ws))
calls_moved f t r a k s at (IsBuiltIn Abs) ws = refl
calls_moved f t r a k s at (IsBuiltIn Min) ws = refl
calls_moved f t r a k s at (IsBuiltIn Max) ws = refl
calls_moved f t r a k s at (OfValues params results) ws = refl
calls_moved f t r a k s at (OfArrays ranks results) ws = refl
calls_moved f t r a k s at Missing ws = refl

ends_call_moved : (strict : Bool) (depth : ℕ) (g h : ℕ → Bool) → ((n : ℕ) → g n ≡ h n) → ends_call strict depth g ≡ ends_call strict depth h
ends_call_moved strict zero g h e = refl
ends_call_moved strict (suc depth) g h e = e depth

core_ahead_moved : {N M : Type 0} (f : N → M) (w : CoreWord N) (depth : ℕ) (g h : ℕ → Bool) → ((n : ℕ) → g n ≡ h n)
    → core_ahead (core_renamed f w) depth g ≡ core_ahead w depth h
core_ahead_moved f (core_word.Callee at x) depth g h e = e (suc depth)
core_ahead_moved f (core_word.Call at strict x) depth g h e = ends_call_moved strict depth g h e
core_ahead_moved f w depth g h e = e depth

word_ahead_moved : {N M : Type 0} (f : N → M) (w : Word N) (depth : ℕ) (g h : ℕ → Bool) → ((n : ℕ) → g n ≡ h n)
    → word_ahead (renamed f w) depth g ≡ word_ahead w depth h
word_ahead_moved f (word.Core w) depth g h e = core_ahead_moved f w depth g h e
word_ahead_moved f w depth g h e = e depth

ahead_moved : {N M : Type 0} (f : N → M) (ws : List (Word N)) (depth : ℕ) → strict_ahead (map (renamed f) ws) depth ≡ strict_ahead ws depth
ahead_moved f [] depth = refl
ahead_moved f (w ∷ ws) depth = word_ahead_moved f w depth (strict_ahead (map (renamed f) ws)) (strict_ahead ws) (ahead_moved f ws)

pub begins_call_moved : {N M : Type 0} (f : N → M) (t : Names N) (r : Names M) → StepsAlike f t r → (k : Items M) (s : Open N) (at : ℕ) (x : N)
    (ws : List (Word N)) → begins_call r k (moved f s) at (f x) (map (renamed f) ws) ≡ mapped (state_moved f) (begins_call t (items_by f k) s at x ws)
begins_call_moved {N} {M} f t r a k s at x ws =
    ap₂ (λ (b : Bool) (c : Callee). calls_built_in r k (moved f s) at (callee_in b c (signature_in k.ranks (k.item (f x)))) (map (renamed f) ws))
    (ahead_moved f ws 0) (a.built_in x)
    ∙ calls_moved f t r a k s at (callee_at t (items_by f k) (strict_ahead ws 0) x) ws

pub part_ended_moved : {N M : Type 0} (f : N → M) (s : Open N) (o : Option Frame) → part (moved f s) o ≡ mapped (state_moved f) (part s o)
part_ended_moved f s (Some (frame.List sum)) = refl
part_ended_moved f s (Some (frame.Passes start)) = refl
part_ended_moved f s o = refl

passed_moved : {N M : Type 0} (f : N → M) (s : Open N) (at start : ℕ) (o : Option Signature)
    → passed (moved f s) at start o ≡ mapped (state_moved f) (passed s at start o)
passed_moved f s at start (Some g) = must_mapped (state_moved f) (same_ranks (drop start s.found) g.ranks) Arity at _ _ refl
passed_moved f s at start None = refl

takes_moved : {N M : Type 0} (f : N → M) (s : Open N) (at sum : ℕ) (o : Option Frame)
    → takes (moved f s) at sum o ≡ mapped (state_moved f) (takes s at sum o)
takes_moved f s at sum (Some (frame.Takes params results)) = must_mapped (state_moved f) (sum == params) Arity at _ _ refl
takes_moved f s at sum o = refl

pub call_moved : {N M : Type 0} (f : N → M) (k : Items M) (s : Open N) (at : ℕ) (x : N) (o : Option Frame)
    → call k (moved f s) at (f x) o ≡ mapped (state_moved f) (call (items_by f k) s at x o)
call_moved f k s at x (Some (frame.List sum)) = takes_moved f (popped s) at sum (top s.frames)
call_moved f k s at x (Some (frame.Passes start)) = passed_moved f s at start (signature_in k.ranks (k.item (f x)))
call_moved f k s at x o = refl

pub measured_moved : {N M : Type 0} (f : N → M) (s : Open N) (at rank : ℕ) (ps : List Part)
    → measured (moved f s) at rank ps ≡ mapped (state_moved f) (measured s at rank ps)
measured_moved f s at rank [] = refl
measured_moved f s at rank (p ∷ []) = refl
measured_moved f s at rank (p ∷ q ∷ []) = bind_mapped (state_moved f) q.value _ _ (λ z. must_mapped (state_moved f) (int_le (pos 0) z && int_lt z (pos rank)) BadCount
    q.at _ _ refl)
measured_moved f s at rank (p ∷ q ∷ u ∷ ps) = refl

-- LISTS
pub give_moved : {N M : Type 0} (f : N → M) (s : Open N) (o : Option Frame) → give (moved f s) o ≡ mapped (state_moved f) (give s o)
give_moved f s (Some (frame.List sum)) = refl
give_moved f s o = refl

new_moved : {N M : Type 0} (f : N → M) (t : Names N) (r : Names M) → StepsAlike f t r → (k : Items M) (s : Open N) (start : ℕ) (x : N)
    → is_new r k (moved f s) (since start (map f s.pending)) (f x) ≡ is_new t (items_by f k) s (since start s.pending) x
new_moved {N} {M} f t r a k s start x =
    ap₂ (λ (o : Option ℕ) (b : Bool). not (is_some (k.item (f x))) && not (is_some o) && not b) (lookup_moved f t r a s.arrays x)
    (ap (λ (us : List M). stands r (f x) us) (since_moved f start s.pending) ∙ stands_moved f t r a x (since start s.pending))

pub bound_moved : {N M : Type 0} (f : N → M) (t : Names N) (r : Names M) → StepsAlike f t r → (k : Items M) (s : Open N) (at : ℕ) (x : N) (o : Option Frame)
    → bound r k (moved f s) at (f x) o ≡ mapped (state_moved f) (bound t (items_by f k) s at x o)
bound_moved f t r a k s at x (Some (frame.Names start targets)) = must_moved (state_moved f) (is_new t (items_by f k) s (since start s.pending) x)
    (is_new r k (moved f s) (since start (map f s.pending)) (f x)) SameName at _ _ (new_moved f t r a k s start x) refl
bound_moved f t r a k s at x o = refl

pub array_bound_moved : {N M : Type 0} (f : N → M) (t : Names N) (r : Names M) → StepsAlike f t r → (k : Items M) (s : Open N) (at : ℕ) (x : N) (rank : ℕ)
    (o : Option Frame) → array_bound r k (moved f s) at (f x) rank o ≡ mapped (state_moved f) (array_bound t (items_by f k) s at x rank o)
array_bound_moved {N} {M} f t r a k s at x rank (Some (frame.Names start targets)) = must_moved (state_moved f)
    (is_new t (items_by f k) s (since start s.pending) x) (is_new r k (moved f s) (since start (map f s.pending)) (f x)) SameName at _ _
    (new_moved f t r a k s start x) (ap (λ (es : List (M × ℕ)). Plain (pushed (record (moved f s) { arrays = es }) (frame.Names start targets)))
    (sym (map-append (array_moved f) s.arrays ((x, rank) ∷ []))))
array_bound_moved f t r a k s at x rank o = refl

pub dropped_moved : {N M : Type 0} (f : N → M) (s : Open N) (o : Option Frame) → dropped (moved f s) o ≡ mapped (state_moved f) (dropped s o)
dropped_moved f s (Some (frame.Names start targets)) = refl
dropped_moved f s o = refl
