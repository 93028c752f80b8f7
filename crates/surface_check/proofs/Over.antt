-- What the steps leave of the words of an expression.
use Rattle.std.specs.Prelude.{◌≡◌, refl, ℕ, ◌==◌, ◌≤◌, ◌||◌, ◌&&◌, Bool, true, false, ℤ, List, [], ◌∷◌, ◌++◌, length, is_some, Option, None, Some}
use Rattle.std.specs.Prelude.{Result, Ok, Err, if◌then◌else◌}
use Rattle.std.specs.List.{list_any}
use Rattle.std.proofs.Common.{◌∙◌, ap, sym, arith, append_assoc}
use Rattle.source.specs.declared.fault.FaultKind.{FaultKind as CoreKind}
use Rattle.source.specs.declared.fault.FaultKind.TheVariants.{NoSuchName, Arity}
use Rattle.source.specs.declared.word.InfixSign.{InfixSign}
use Rattle.source.specs.declared.word.Word.TheVariants as core_word
use Rattle.operators.specs.declared.Unary.{Unary}
use Rattle.semantics.specs.Graph.{same_name}
use Rattle.source.specs.Tree.{Name}
use Rattle.source.specs.Outside.{is_in}
use Rattle.surface.specs.declared.fault.Fault.{Fault}
use Rattle.surface.specs.declared.word.Word.{Word}
use Rattle.surface.specs.declared.word.Word.TheVariants as word
use Rattle.surface.specs.Tree.{Expr, Number, Named, Bracket, Prefix, Infix, And, Or, Not}
use Rattle.surface.specs.Words.{Words, of_core, words}
use Rattle.surface.specs.Outside.{uses}
use Rattle.surface.specs.First.{◌>>=◌, must_be}
use Rattle.surface.specs.Known.{Known, lookup}
use Rattle.surface.specs.Constants.{place_of}
use Rattle.surface.specs.Rules.{Around, rank_in, rank_of, is_constant, argument_rank, one_value, values}
use Rattle.source_check.specs.Steps.{since}
use Rattle.surface_check.specs.declared.entry.Entry.{Entry}
use Rattle.surface_check.specs.declared.entry.Entry.TheVariants as entry
use Rattle.surface_check.specs.declared.frame.Kind.{Kind}
use Rattle.surface_check.specs.declared.frame.Kind.TheVariants as kind
use Rattle.surface_check.specs.declared.frame.Frame.{Frame}
use Rattle.surface_check.specs.Pins.{constant_in, array_in, Pins}
use Rattle.surface_check.specs.Steps.{Items, Open, State, Plain, lookup_by, top, rank_at, is_constant_entry, no_value, noted, all_noted, argument}
use Rattle.surface_check.specs.Steps.{named, is_part, part_next, passes, bracketed, prefixed, operated, one_taken, steps}
use Rattle.surface_check.proofs.HeadsRead.{by_bytes}

-- the items, and what is known of them
pub record Setting : Type 0 where
  pub items : Items Name
  pub known : Known
  pub pins : Pins items.item items.ranks known

-- what the innermost turn began with is still there
pub record IsDeep (s : Open Name) : Type 0 where
  pub scope : s.turn.base ≤ length s.scope
  pub used : s.turn.start ≤ length s.used

abbrev pub around : Setting → Open Name → Around
around g s = record { known = g.known; arrays = s.arrays }

abbrev pub runs : Setting → Open Name → Words → Result (State Name) Fault
runs g s ws = steps by_bytes g.items (Plain s) ws

-- the outside names with those that a part uses
abbrev pub notes : Setting → Open Name → List Name → List Name
notes g s xs = all_noted by_bytes (no_value by_bytes g.items s) (since s.turn.base s.scope) s.turn.start s.used xs

-- a part has n values, is at that place and of that kind, and this is used so far
abbrev pub having : Open Name → List Name → ℕ → ℕ → Kind Name → Open Name
having s used n at k = record s { used = used; last = record { count = n; at = at; kind = k } }

abbrev pub kind_of : Known → Expr → Kind Name
kind_of known (Number at n) = kind.Written
kind_of known (Named at x) = if is_constant known x then kind.Constant else kind.Variable x
kind_of known (Bracket e) = bracketed (kind_of known e)
kind_of known (Prefix at op e) = prefixed op (kind_of known e)
kind_of known e = kind.Other

-- the part is an array's name that is all of an argument
abbrev pub whole : Around → Option Frame → Expr → Words → Bool
whole a o e rest = (part_next rest && passes o) && is_some (argument_rank a e)

abbrev pub Over : Setting → Expr → Type 0
Over g e = (s : Open Name) (rest : Words) → IsDeep s → whole (around g s) (top s.frames) e rest ≡ false
    → runs g s (words e ++ rest) ≡ (values (around g s) s.scope e >>= λ n. runs g (having s (notes g s (uses e)) n (place_of e) (kind_of g.known e)) rest)

-- NOTES
pub noted_append : (hidden : Name → Bool) (inner : List Name) (k : ℕ) (xs ys used : List Name)
    → all_noted by_bytes hidden inner k used (xs ++ ys) ≡ all_noted by_bytes hidden inner k (all_noted by_bytes hidden inner k used xs) ys
noted_append hidden inner k [] ys used = refl
noted_append hidden inner k (x ∷ xs) ys used = noted_append hidden inner k xs ys (noted by_bytes hidden inner k used x)

one_grows : (hidden : Name → Bool) (inner : List Name) (k : ℕ) (used : List Name) (x : Name) → length used ≤ length (noted by_bytes hidden inner k used x)
one_grows hidden inner k used x = go ((list_any (same_name x) inner || hidden x) || list_any (same_name x) (since k used))
  where
    go : (b : Bool) → length used ≤ length (if b then used else x ∷ used)
    go true = omega arith
    go false = omega arith

pub noted_grows : (hidden : Name → Bool) (inner : List Name) (k : ℕ) (xs used : List Name) → length used ≤ length (all_noted by_bytes hidden inner k used xs)
noted_grows hidden inner k [] used = omega arith
noted_grows hidden inner k (x ∷ xs) used = omega (arith, one_grows hidden inner k used x, noted_grows hidden inner k xs (noted by_bytes hidden inner k used x))

pub still_deep : (g : Setting) (s : Open Name) (xs : List Name) (n at : ℕ) (k : Kind Name) → IsDeep s → IsDeep (having s (notes g s xs) n at k)
still_deep g s xs n at k d = record {
  scope = d.scope;
  used = omega (arith, d.used, noted_grows (no_value by_bytes g.items s) (since s.turn.base s.scope) s.turn.start xs s.used);
}

-- what is noted of two parts one after another
pub notes_both : (g : Setting) (s : Open Name) (xs ys : List Name) (n at : ℕ) (k : Kind Name) → notes g (having s (notes g s xs) n at k) ys ≡ notes g s (xs ++ ys)
notes_both g s xs ys n at k = sym (noted_append (no_value by_bytes g.items s) (since s.turn.base s.scope) s.turn.start xs ys s.used)

-- ANSWERS ONE AFTER ANOTHER
pub then_equal : {A B : Type 0} (r : Result A Fault) (f h : A → Result B Fault) → ((x : A) → f x ≡ h x) → (r >>= f) ≡ (r >>= h)
then_equal (Ok x) f h e = e x
then_equal (Err y) f h e = refl

pub bind_assoc : {A B C : Type 0} (r : Result A Fault) (q : A → Result B Fault) (f : B → Result C Fault) → ((r >>= q) >>= f) ≡ (r >>= λ x. q x >>= f)
bind_assoc (Ok x) q f = refl
bind_assoc (Err e) q f = refl

-- a test, and then what follows from it on both sides
pub tested : {S A R : Type 0} (b : Bool) (why : CoreKind) (at : ℕ) (x : S) (f : S → Result R Fault) (y : A) (h : A → Result R Fault) → f x ≡ h y
    → ((must_be b why at >>= λ one. Ok x) >>= f) ≡ ((must_be b why at >>= λ one. Ok y) >>= h)
tested true why at x f y h e = e
tested false why at x f y h e = refl

pub tested_then : {S A B R : Type 0} (b : Bool) (why : CoreKind) (at : ℕ) (x : S) (f : S → Result R Fault) (y : A) (q : A → Result B Fault) (h : B → Result R Fault)
    → f x ≡ (q y >>= h) → ((must_be b why at >>= λ one. Ok x) >>= f) ≡ (((must_be b why at >>= λ one. Ok y) >>= q) >>= h)
tested_then true why at x f y q h e = e
tested_then false why at x f y q h e = refl

-- NAMES
pub lookup_is : (entries : List (Name × ℕ)) (x : Name) → lookup_by by_bytes entries x ≡ lookup entries x
lookup_is [] x = refl
lookup_is (e ∷ entries) x = ap (λ (o : Option ℕ). if same_name x e.0 then Some e.1 else o) (lookup_is entries x)

pub rank_is : (g : Setting) (s : Open Name) (x : Name) → rank_at by_bytes g.items s x ≡ rank_of (around g s) x
rank_is g s x = ap (λ (o : Option ℕ). rank_in o (array_in (g.items.item x))) (lookup_is s.arrays x)
    ∙ ap (λ (o : Option (List ℕ)). rank_in (lookup s.arrays x) o) (g.pins.arrays x)

constant_entry : (o : Option Entry) → is_constant_entry o ≡ is_some (constant_in o)
constant_entry (Some (entry.Constant z)) = refl
constant_entry (Some (entry.Array l)) = refl
constant_entry (Some (entry.Function a b c)) = refl
constant_entry None = refl

pub constant_is : (g : Setting) (x : Name) → is_constant_entry (g.items.item x) ≡ is_constant g.known x
constant_is g x = constant_entry (g.items.item x) ∙ ap (λ (o : Option ℤ). is_some o) (g.pins.constants x)

named_as : (g : Setting) (s : Open Name) (at : ℕ) (x : Name) (rest : Words) (c : Bool)
    → (named by_bytes g.items s at x c >>= λ u. steps by_bytes g.items u rest)
    ≡ ((must_be (c || is_in x s.scope) NoSuchName at >>= λ there. Ok 1) >>= λ n. runs g (having s (notes g s (x ∷ [])) n at (if c then kind.Constant else
    kind.Variable x)) rest)
named_as g s at x rest c = tested (c || is_in x s.scope) NoSuchName at _ (λ u. steps by_bytes g.items u rest) 1 _ refl

argued_as : (g : Setting) (s : Open Name) (at : ℕ) (x : Name) (b : Bool) (o : Option ℕ) → (b && is_some o) ≡ false
    → (if b then argument by_bytes g.items s at x o else named by_bytes g.items s at x (is_constant_entry (g.items.item x))) ≡ named by_bytes g.items s at x
    (is_constant_entry (g.items.item x))
argued_as g s at x true None h = refl
argued_as g s at x true (Some n) h = absurd (cc)
argued_as g s at x false o h = refl

pub over_name : (g : Setting) (at : ℕ) (x : Name) → Over g (Named at x)
over_name g at x s rest d w =
    ap (λ (r : Result (State Name) Fault). r >>= λ u. steps by_bytes g.items u rest) (argued_as g s at x (part_next rest && passes (top s.frames)) (rank_at
    by_bytes g.items s x) (ap (λ (o : Option ℕ). (part_next rest && passes (top s.frames)) && is_some o) (rank_is g s x) ∙ w))
    ∙ ap (λ (c : Bool). named by_bytes g.items s at x c >>= λ u. steps by_bytes g.items u rest) (constant_is g x)
    ∙ named_as g s at x rest (is_constant g.known x)

pub over_number : (g : Setting) (at n : ℕ) → Over g (Number at n)
over_number g at n s rest d w = refl

-- EXPRESSIONS
pub over_bracket : (g : Setting) (e : Expr) → Over g e → Over g (Bracket e)
over_bracket g e h s rest d w = ap (runs g s) (append_assoc (words e) (of_core core_word.Bracket ∷ []) rest) ∙ h s (of_core core_word.Bracket ∷ rest) d refl

operated_as : (g : Setting) (s : Open Name) (xs : List Name) (n m at : ℕ) (k j : Kind Name) (rest : Words)
    → (operated (having s xs n m k) at j >>= λ u. steps by_bytes g.items u rest) ≡ ((must_be (n == 1) Arity m >>= λ one. Ok 1) >>= λ i. runs g (having s xs i at
    j) rest)
operated_as g s xs n m at k j rest = tested (n == 1) Arity m _ (λ u. steps by_bytes g.items u rest) 1 _ refl

pub over_prefix : (g : Setting) (at : ℕ) (op : Unary) (e : Expr) → Over g e → Over g (Prefix at op e)
over_prefix g at op e h s rest d w =
    ap (runs g s) (append_assoc (words e) (of_core (core_word.Prefix at op) ∷ []) rest) ∙ h s (of_core (core_word.Prefix at op) ∷ rest) d refl
    ∙ then_equal (values (around g s) s.scope e) _ _ (λ n. operated_as g s (notes g s (uses e)) n (place_of e) at (kind_of g.known e) (prefixed op (kind_of
    g.known e)) rest)
    ∙ sym (bind_assoc (values (around g s) s.scope e) (one_value e) _)

pub over_not : (g : Setting) (at : ℕ) (e : Expr) → Over g e → Over g (Not at e)
over_not g at e h s rest d w =
    ap (runs g s) (append_assoc (words e) (word.Not at ∷ []) rest) ∙ h s (word.Not at ∷ rest) d refl
    ∙ then_equal (values (around g s) s.scope e) _ _ (λ n. operated_as g s (notes g s (uses e)) n (place_of e) at (kind_of g.known e) kind.Other rest)
    ∙ sym (bind_assoc (values (around g s) s.scope e) (one_value e) _)

-- the right operand, with the operator's last word
abbrev pub IsEnd : Setting → ℕ → Word Name → Type 0
IsEnd g at end = (s : Open Name) (rest : Words) → runs g s (end ∷ rest) ≡ (operated s at kind.Other >>= λ u. steps by_bytes g.items u rest)

abbrev pub IsMiddle : Setting → Word Name → Type 0
IsMiddle g mid = (s : Open Name) (rest : Words) → runs g s (mid ∷ rest) ≡ (one_taken s >>= λ u. steps by_bytes g.items u rest)

not_whole : (a : Around) (o : Option Frame) (e : Expr) (w : Word Name) (rest : Words) → is_part w ≡ false → whole a o e (w ∷ rest) ≡ false
not_whole a o e w rest h = rw h refl

pub right_as : (g : Setting) (at : ℕ) (r : Expr) (end : Word Name) → Over g r → is_part end ≡ false → IsEnd g at end → (s : Open Name) (rest : Words) → IsDeep s
    → runs g s (words r ++ end ∷ rest) ≡ ((values (around g s) s.scope r >>= λ m. one_value r m) >>= λ n. runs g (having s (notes g s (uses r)) n at kind.Other)
    rest)
right_as g at r end h free e s rest d = h s (end ∷ rest) d (not_whole (around g s) (top s.frames) r end rest free)
    ∙ then_equal (values (around g s) s.scope r) _ _ (λ n. e (having s (notes g s (uses r)) n (place_of r) (kind_of g.known r)) rest
    ∙ operated_as g s (notes g s (uses r)) n (place_of r) at (kind_of g.known r) kind.Other rest)
    ∙ sym (bind_assoc (values (around g s) s.scope r) (one_value r) (λ n. runs g (having s (notes g s (uses r)) n at kind.Other) rest))

over_two : (g : Setting) (at : ℕ) (l r : Expr) (mid end : Word Name) → Over g l → Over g r → is_part mid ≡ false → IsMiddle g mid → is_part end ≡ false
    → IsEnd g at end → (s : Open Name) (rest : Words) → IsDeep s
    → runs g s (((words l ++ mid ∷ words r) ++ end ∷ []) ++ rest)
    ≡ ((values (around g s) s.scope l >>= λ n. one_value l n >>= λ left. values (around g s) s.scope r >>= λ m. one_value r m) >>= λ n. runs g (having s (notes g s
    (uses l ++ uses r)) n at kind.Other) rest)
over_two g at l r mid end h j free m also e s rest d =
    let s1 : Open Name = having s (notes g s (uses l)) 0 0 kind.Other in
    let L : ℕ → Result (State Name) Fault = λ n. runs g (having s (notes g s (uses l ++ uses r)) n at kind.Other) rest in
    ap (runs g s) (append_assoc (words l ++ mid ∷ words r) (end ∷ []) rest ∙ append_assoc (words l) (mid ∷ words r) (end ∷ rest))
    ∙ h s (mid ∷ (words r ++ end ∷ rest)) d (not_whole (around g s) (top s.frames) l mid (words r ++ end ∷ rest) free)
    ∙ then_equal (values (around g s) s.scope l) _ (λ n. (one_value l n >>= λ left. values (around g s) s.scope r >>= λ i. one_value r i) >>= L)
    (λ n. m (having s (notes g s (uses l)) n (place_of l) (kind_of g.known l)) (words r ++ end ∷ rest)
    ∙ tested_then (n == 1) Arity (place_of l) (Plain s1) (λ u. steps by_bytes g.items u (words r ++ end ∷ rest)) 1 (λ left. values (around g s) s.scope r >>= λ i.
    one_value r i) L
    (right_as g at r end j also e s1 rest (still_deep g s (uses l) 0 0 kind.Other d)
    ∙ ap (λ (us : List Name). (values (around g s) s.scope r >>= λ i. one_value r i) >>= λ i. runs g (having s us i at kind.Other) rest) (notes_both g s (uses l)
    (uses r) 0 0 kind.Other)))
    ∙ sym (bind_assoc (values (around g s) s.scope l) (λ n. one_value l n >>= λ left. values (around g s) s.scope r >>= λ i. one_value r i) L)

pub over_infix : (g : Setting) (at : ℕ) (sign : InfixSign) (l r : Expr) → Over g l → Over g r → Over g (Infix at sign l r)
over_infix g at sign l r h j s rest d w = over_two g at l r (of_core core_word.Left) (of_core (core_word.Infix at sign)) h j refl (λ u ws. refl) refl (λ u ws.
    refl) s rest d

pub over_and : (g : Setting) (at : ℕ) (l r : Expr) → Over g l → Over g r → Over g (And at l r)
over_and g at l r h j s rest d w = over_two g at l r word.AndThen (word.EndAnd at) h j refl (λ u ws. refl) refl (λ u ws. refl) s rest d

pub over_or : (g : Setting) (at : ℕ) (l r : Expr) → Over g l → Over g r → Over g (Or at l r)
over_or g at l r h j s rest d w = over_two g at l r word.OrElse (word.EndOr at) h j refl (λ u ws. refl) refl (λ u ws. refl) s rest d
