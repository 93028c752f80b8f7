-- What the steps leave of the words of a part.
use Rattle.std.specs.Prelude.{◌≡◌, refl, ℕ, ◌+◌, ◌==◌, ◌≤◌, List, [], ◌∷◌, ◌++◌, length, is_some, Option, Result, Ok, ⊤}
use Rattle.std.proofs.Common.{arith, append_assoc}
use Rattle.source.specs.declared.fault.FaultKind.TheVariants.{NoSuchName, Arity}
use Rattle.source.specs.declared.fault.Fault.{Fault}
use Rattle.source.specs.declared.word.Word.{Word}
use Rattle.source.specs.declared.word.Word.TheVariants as word
use Rattle.source.specs.declared.word.InfixSign.{InfixSign}
use Rattle.operators.specs.declared.Unary.{Unary}
use Rattle.source.specs.Tree.{Name, NameAt, Expr, Named, Bracket, Prefix, Infix, Fetch, Store, Exprs, Body, Let, Do, Give, Chain, Function, Program}
use Rattle.source.specs.Fits.{count}
use Rattle.source.specs.Words.{words, part_words, first_words, body_words}
use Rattle.source.specs.Outside.{is_in, bare, bound_by, uses, list_uses, body_uses}
use Rattle.source.specs.First.{◌>>=◌}
use Rattle.source.specs.Rules.{item_names, array_in, function_in, written_or_one, place_of, one_value, known_array, known_function, values}
use Rattle.source.specs.Rules.{list_values, first_values, body_values}
use Rattle.source_check.specs.declared.frame.Entry.{Entry}
use Rattle.source_check.specs.declared.frame.Frame.TheVariants as frame
use Rattle.source_check.specs.Steps.{State, Shape, since, onto, pushed, all_noted, is_array, shape_at, steps, step}
use Rattle.source_check.proofs.Runs.{mapped, in_turn, tested, one_tested, and_then}
use Rattle.source_check.proofs.Noted.{by_bytes, all_noted-append, all_noted_grows}

abbrev pub shape_of : Function → Shape
shape_of g = record { params = length g.params; results = written_or_one g.results }

-- The items are those of the program.
pub record Knows (item : Name → Option Entry) (p : Program) : Type 0 where
  pub array : (a : Name) → is_array (item a) ≡ is_some (array_in p a)
  pub function : (at : ℕ) (f : Name) → shape_at at (item f) ≡ mapped shape_of (known_function at (function_in p f))
  pub taken : (x : Name) → is_some (item x) ≡ is_in x (item_names p)

-- what the innermost turn began with is still there
pub record IsDeep (s : State Name) : Type 0 where
  pub scope : s.turn.base ≤ length s.scope
  pub used : s.turn.start ≤ length s.used

-- the outside names with those that a part uses
abbrev pub notes : (Name → Option Entry) → State Name → List Name → List Name
notes item s xs = all_noted (by_bytes item) (since s.turn.base s.scope) s.turn.start s.used xs

-- a part has n values and is at that place, and this is used so far
abbrev pub having : State Name → List Name → ℕ → ℕ → State Name
having s used n at = record s { used = used; last = record { count = n; at = at } }

-- names of a list are pending, the last one first
abbrev pub naming : State Name → List Name → ℕ → State Name
naming s before k = record s { pending = before ++ s.pending; frames = frame.Names (length s.pending) k ∷ s.frames }

abbrev pub left_scope : Body → List Name → List Name
left_scope (Let at targets es rest) scope = left_scope rest (bound_by targets ++ scope)
left_scope (Do es rest) scope = left_scope rest scope
left_scope (Give es) scope = scope
left_scope (Chain e) scope = scope

-- The steps over a part give what the rules give, and leave this.
abbrev pub Over : (Name → Option Entry) → Program → Expr → Type 0
Over item p e = (s : State Name) → IsDeep s → steps (by_bytes item) s (words e) ≡ mapped (λ n. having s (notes item s (uses e)) n (place_of e))
    (values p s.scope e)

abbrev pub OverList : (Name → Option Entry) → Program → Exprs → Type 0
OverList item p es = (s : State Name) (k : ℕ) → IsDeep s → steps (by_bytes item) (pushed s (frame.List k)) (part_words es)
    ≡ mapped (λ n. pushed (having s (notes item s (list_uses es)) 0 0) (frame.List (k + n))) (list_values p s.scope es)

abbrev pub OverFirsts : (Name → Option Entry) → Program → Exprs → Type 0
OverFirsts item p es = (s : State Name) (before : List Name) (k : ℕ) (xs : List NameAt) → IsDeep s → count es ≡ length xs
    → steps (by_bytes item) (naming s before k) (first_words xs es)
    ≡ mapped (λ (u : ⊤). naming (having s (notes item s (list_uses es)) 0 0) (onto (bare xs) before) (k + length xs)) (first_values p s.scope before xs es)

abbrev pub OverBody : (Name → Option Entry) → Program → Body → Type 0
OverBody item p b = (s : State Name) → IsDeep s → steps (by_bytes item) s (body_words b)
    ≡ mapped (λ n. record (having s (notes item s (body_uses b)) n 0) { scope = left_scope b s.scope }) (body_values p s.scope b)

pub still_deep : (item : Name → Option Entry) (s : State Name) (xs : List Name) (n at : ℕ) → IsDeep s → IsDeep (having s (notes item s xs) n at)
still_deep item s xs n at d = record {
  scope = d.scope;
  used = omega (
    arith,
    d.used,
    all_noted_grows (by_bytes item)
        (since s.turn.base s.scope) s.turn.start xs s.used,
  );
}

add_assoc : (k n m : ℕ) → (k + n) + m ≡ k + (n + m)
add_assoc k n m = omega arith

-- EXPRESSIONS
pub over_name : (item : Name → Option Entry) (p : Program) (at : ℕ) (x : Name) → Over item p (Named at x)
over_name item p at x s d = tested (step (by_bytes item)) [] (is_in x s.scope) NoSuchName at (Ok 1) (having s (notes item s (x ∷ [])) 1 at) _ refl

pub over_bracket : (item : Name → Option Entry) (p : Program) (e : Expr) → Over item p e → Over item p (Bracket e)
over_bracket item p e h s d = and_then (step (by_bytes item)) s (words e) (word.Bracket ∷ []) (values p s.scope e) (λ n. having s (notes item s
    (uses e)) n (place_of e)) (λ n. having s (notes item s (uses e)) n (place_of e))
    (h s d) (λ n. refl)

pub over_prefix : (item : Name → Option Entry) (p : Program) (at : ℕ) (op : Unary) (e : Expr) → Over item p e → Over item p (Prefix at op e)
over_prefix item p at op e h s d =
    in_turn (step (by_bytes item)) s (words e) (word.Prefix at op ∷ []) (values p s.scope e) (one_value e) (λ n. having s (notes item s (uses e)) n
    (place_of e)) (λ n. having s (notes item s (uses e)) n at)
    (h s d) (λ n. tested (step (by_bytes item)) [] (n == 1) Arity (place_of e) (Ok 1) (having s (notes item s (uses e)) 1 at) (λ n. having s (notes item s
    (uses e)) n at) refl)

pub over_infix : (item : Name → Option Entry) (p : Program) (at : ℕ) (sign : InfixSign) (l r : Expr) → Over item p l → Over item p r
    → Over item p (Infix at sign l r)
over_infix item p at sign l r h k s d =
    let s1 : State Name = having s (notes item s (uses l)) 0 0 in
    rw (
      append_assoc (words l) (word.Left ∷ words r) (word.Infix at sign ∷ []),
      all_noted-append (by_bytes item) (since s.turn.base s.scope) s.turn.start
          (uses l) (uses r) s.used,
    )
    (in_turn (step (by_bytes item)) s (words l) (word.Left ∷ (words r ++ (word.Infix at sign ∷ []))) (values p s.scope l) _ _ _ (h s d)
    (λ n. one_tested (step (by_bytes item)) (words r ++ (word.Infix at sign ∷ [])) (n == 1) Arity (place_of l) 1 _ s1 _
    (in_turn (step (by_bytes item)) s1 (words r) (word.Infix at sign ∷ []) (values p s.scope r) (one_value r) _ _ (k s1 (still_deep item s (uses l) 0 0 d))
    (λ m. tested (step (by_bytes item)) [] (m == 1) Arity (place_of r) (Ok 1) (having s1 (notes item s1 (uses r)) 1 at) _ refl))))

-- an array must be known
known_cell : (item : Name → Option Entry) (p : Program) (k : Knows item p) (at : ℕ) (a : Name) (ws : List (Word Name)) (s : State Name)
    (r : Result ℕ Fault) (g : ℕ → State Name)
    → steps (by_bytes item) s ws ≡ mapped g r → steps (by_bytes item) s (word.Cell at a ∷ ws) ≡ mapped g (known_array p at a >>= λ known. r)
known_cell item p k at a ws s r g h = rw (k.array a) (tested (step (by_bytes item)) ws (is_some (array_in p a)) NoSuchName at r s g h)

pub over_fetch : (item : Name → Option Entry) (p : Program) → Knows item p → (at : ℕ) (a : Name) (e : Expr) → Over item p e → Over item p (Fetch at a e)
over_fetch item p k at a e h s d = known_cell item p k at a (words e ++ word.Fetch at a ∷ []) s _ _
    (in_turn (step (by_bytes item)) s (words e) (word.Fetch at a ∷ []) (values p s.scope e) (one_value e) _ (λ n. having s (notes item s (uses e)) n at)
    (h s d) (λ n. tested (step (by_bytes item)) [] (n == 1) Arity (place_of e) (Ok 1) (having s (notes item s (uses e)) 1 at) (λ n. having s (notes item s
    (uses e)) n at) refl))

pub over_store : (item : Name → Option Entry) (p : Program) → Knows item p → (at : ℕ) (a : Name) (e v : Expr) → Over item p e → Over item p v
    → Over item p (Store at a e v)
over_store item p k at a e v h j s d =
    let s1 : State Name = having s (notes item s (uses e)) 0 0 in
    rw (
      append_assoc (words e) (word.Index ∷ words v) (word.Store at a ∷ []),
      all_noted-append (by_bytes item) (since s.turn.base s.scope) s.turn.start
          (uses e) (uses v) s.used,
    )
    (known_cell item p k at a (words e ++ (word.Index ∷ (words v ++ (word.Store at a ∷ [])))) s _ _
    (in_turn (step (by_bytes item)) s (words e) (word.Index ∷ (words v ++ (word.Store at a ∷ []))) (values p s.scope e) _ _ _ (h s d)
    (λ n. one_tested (step (by_bytes item)) (words v ++ (word.Store at a ∷ [])) (n == 1) Arity (place_of e) 1 _ s1 _
    (in_turn (step (by_bytes item)) s1 (words v) (word.Store at a ∷ []) (values p s.scope v) (one_value v) _ _ (j s1 (still_deep item s (uses e) 0 0 d))
    (λ m. tested (step (by_bytes item)) [] (m == 1) Arity (place_of v) (Ok 1) (having s1 (notes item s1 (uses v)) 1 at) _ refl)))))
