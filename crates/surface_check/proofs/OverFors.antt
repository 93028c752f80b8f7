-- `for`.
use Rattle.std.specs.Prelude.{◌≡◌, refl, ℕ, suc, ◌+◌, ◌-◌, ◌==◌, nat_le, ◌||◌, ◌&&◌, not, Bool, true, false, List, [], ◌∷◌, ◌++◌, length, filter}
use Rattle.std.specs.Prelude.{Option, None, Some, Result, Ok, ⊤, if◌then◌else◌}
use Rattle.std.proofs.Common.{◌∙◌, ap, sym, subst, arith, append_assoc}
use Rattle.operators.specs.declared.Unary.{Unary}
use Rattle.operators.specs.declared.Unary.TheVariants as unary
use Rattle.semantics.specs.Graph.{same_name}
use Rattle.semantics.proofs.Lines.{same_name_is, same_name_itself}
use Rattle.source.specs.declared.fault.FaultKind.TheVariants.{Arity, TooWide}
use Rattle.source.specs.Tree.{Name, NameAt}
use Rattle.source.specs.Outside.{is_in, without, once, bare}
use Rattle.surface.specs.declared.fault.Fault.{Fault}
use Rattle.surface.specs.declared.word.Word.TheVariants as word
use Rattle.surface.specs.Tree.{Count, Expr, Number, Named, Bracket, Prefix, For, Exprs, One, More, Body, Carried, Nothing, With, carried_names}
use Rattle.surface.specs.Fits.{count}
use Rattle.surface.specs.Words.{Words, words, bound_words, body_words, carried_words}
use Rattle.surface.specs.Outside.{uses, body_uses, carried_uses}
use Rattle.surface.specs.First.{◌>>=◌, must_be}
use Rattle.surface.specs.Known.{Known}
use Rattle.surface.specs.Constants.{place_of}
use Rattle.surface.specs.Rules as rules
use Rattle.surface.specs.Rules.{Around, no_values, good_bound_if_written, new_name, one_value, values, carried_values, body_values, is_constant, is_number, is_neg}
use Rattle.surface.specs.Rules.{is_numeral, is_as_many, for_values, for_width, one_if}
use Rattle.source_check.specs.Steps.{since, back, onto}
use Rattle.source_check.proofs.Noted.{gathers, gathered}
use Rattle.source_check.proofs.Stacks.{since-append, back-append}
use Rattle.surface_check.specs.declared.frame.Kind.{Kind}
use Rattle.surface_check.specs.declared.frame.Kind.TheVariants as kind
use Rattle.surface_check.specs.declared.frame.Last.{Last}
use Rattle.surface_check.specs.declared.frame.Frame.TheVariants as frame
use Rattle.surface_check.specs.Steps as step
use Rattle.surface_check.specs.Steps.{Open, State, Plain, ended, left_turn, bracketed, prefixed, no_value, all_noted, as_many, values_of, end_for, steps}
use Rattle.surface_check.proofs.HeadsRead.{by_bytes}
use Rattle.surface_check.proofs.Over.{Setting, IsDeep, around, runs, notes, having, kind_of, Over, noted_append, still_deep, then_equal, bind_assoc}
use Rattle.surface_check.proofs.Over.{tested_then}
use Rattle.surface_check.proofs.OverBodies.{left_scope, all_back, OverBody}
use Rattle.surface_check.proofs.OverNames.{naming, bound_as}
use Rattle.surface_check.proofs.OverNoted.{hidden_is, gathers_above, gathers_again, hidden_out, gathered_length}
use Rattle.surface_check.proofs.OverLoops.{OverFirsts, naming_deep, inside, opened, inside_deep, without_both, both_tested, outside_of, body_gone, bound_as_good}

-- NAMES THAT ARE GATHERED are those that are there
apart : (x y u : Name) → same_name u x ≡ false → same_name u y ≡ true → same_name x y ≡ false
apart x y u h e = go (same_name x y) refl
  where
    go : (b : Bool) → same_name x y ≡ b → same_name x y ≡ false
    go false p = p
    go true p = let q : same_name u x ≡ true = subst (λ (z : Name). same_name u z ≡ true) (sym (same_name_is x y p)) e in absurd (cc)

unlike : (x u : Name) → same_name x u ≡ false → same_name u x ≡ false
unlike x u h = go (same_name u x) refl
  where
    go : (b : Bool) → same_name u x ≡ b → same_name u x ≡ false
    go false p = p
    go true p = let q : same_name x u ≡ true = subst (λ (z : Name). same_name z u ≡ true) (same_name_is u x p) (same_name_itself u) in absurd (cc)

filtered : (x u : Name) → same_name u x ≡ false → (ys : List Name) → is_in x (filter (λ y. not (same_name u y)) ys) ≡ is_in x ys
filtered x u h [] = refl
filtered x u h (y ∷ ys) = go (same_name u y) refl (filtered x u h ys)
  where
    go : (b : Bool) → same_name u y ≡ b → is_in x (filter (λ z. not (same_name u z)) ys) ≡ is_in x ys
        → is_in x (if not b then y ∷ filter (λ z. not (same_name u z)) ys else filter (λ z. not (same_name u z)) ys) ≡ (same_name x y || is_in x ys)
    go false e r = ap (λ (t : Bool). same_name x y || t) r
    go true e r = r ∙ sym (ap (λ (t : Bool). t || is_in x ys) (apart x y u h e))

once_in : (x : Name) (us : List Name) → is_in x (once us) ≡ is_in x us
once_in x [] = refl
once_in x (u ∷ us) = go (same_name x u) refl (once_in x us)
  where
    go : (b : Bool) → same_name x u ≡ b → is_in x (once us) ≡ is_in x us
        → (same_name x u || is_in x (filter (λ y. not (same_name u y)) (once us))) ≡ (same_name x u || is_in x us)
    go true e h = rw e refl
    go false e h = ap (λ (t : Bool). same_name x u || t) (filtered x u (unlike x u e) (once us) ∙ h)

or_false : (a : Bool) → a ≡ (a || false)
or_false true = refl
or_false false = refl

or_turned : (c a d : Bool) → ((c || a) || d) ≡ (a || (c || d))
or_turned true true d = refl
or_turned true false d = refl
or_turned false a d = refl

already : (x u : Name) (have : List Name) (d : Bool) → is_in u have ≡ true → (c : Bool) → same_name x u ≡ c → (is_in x have || d) ≡ (is_in x have || (c || d))
already x u have d e false p = refl
already x u have d e true p = let q : is_in x have ≡ true = subst (λ (z : Name). is_in z have ≡ true) (sym (same_name_is x u p)) e in rw q refl

gathered_in : (x : Name) (have us : List Name) → is_in x (gathered have us) ≡ (is_in x have || is_in x us)
gathered_in x have [] = or_false (is_in x have)
gathered_in x have (u ∷ us) = gathered_in x (gathers have u) us ∙ go (is_in u have) refl
  where
    go : (b : Bool) → is_in u have ≡ b → (is_in x (if b then have else u ∷ have) || is_in x us) ≡ (is_in x have || (same_name x u || is_in x us))
    go false e = or_turned (same_name x u) (is_in x have) (is_in x us)
    go true e = already x u have (is_in x us) e (same_name x u) refl

same_members : (x : Name) (us : List Name) → is_in x (gathered [] us) ≡ is_in x (once us)
same_members x us = gathered_in x [] us ∙ sym (once_in x us)

-- THE NUMBER at which a `for` stops: whether it is carried
abbrev is_written : Kind Name → Bool
is_written kind.Written = true
is_written k = false

abbrev is_settled : Kind Name → Bool
is_settled kind.Written = true
is_settled kind.Constant = true
is_settled k = false

prefix_other : (op : Unary) (k : Kind Name) → is_written k ≡ false → is_settled (prefixed op k) ≡ false
prefix_other unary.Neg kind.Written h = absurd (cc)
prefix_other unary.Neg kind.Constant h = refl
prefix_other unary.Neg (kind.Variable x) h = refl
prefix_other unary.Neg kind.Other h = refl
prefix_other unary.Not k h = refl

named_written : (b : Bool) (x : Name) → is_written (if b then kind.Constant else kind.Variable x) ≡ false
named_written true x = refl
named_written false x = refl

bracket_written : (k : Kind Name) → is_written (bracketed k) ≡ false
bracket_written kind.Written = refl
bracket_written kind.Constant = refl
bracket_written (kind.Variable x) = refl
bracket_written kind.Other = refl

prefix_written : (op : Unary) (k : Kind Name) → is_written (prefixed op k) ≡ false
prefix_written unary.Neg kind.Written = refl
prefix_written unary.Neg kind.Constant = refl
prefix_written unary.Neg (kind.Variable x) = refl
prefix_written unary.Neg kind.Other = refl
prefix_written unary.Not k = refl

prefix_settled : (known : Known) (op : Unary) (e : Expr) → is_settled (prefixed op (kind_of known e)) ≡ (is_number e && is_neg op)
prefix_settled known unary.Neg (Number at n) = refl
prefix_settled known unary.Not (Number at n) = refl
prefix_settled known op (Named at x) = prefix_other op (kind_of known (Named at x)) (named_written (is_constant known x) x)
prefix_settled known op (Bracket e) = prefix_other op (bracketed (kind_of known e)) (bracket_written (kind_of known e))
prefix_settled known op (Prefix at sign e) = prefix_other op (prefixed sign (kind_of known e)) (prefix_written sign (kind_of known e))
prefix_settled known op e = prefix_other op kind.Other refl

bracket_settled : (k : Kind Name) → is_settled (bracketed k) ≡ is_settled k
bracket_settled kind.Written = refl
bracket_settled kind.Constant = refl
bracket_settled (kind.Variable x) = refl
bracket_settled kind.Other = refl

named_settled : (b : Bool) (x : Name) → is_settled (if b then kind.Constant else kind.Variable x) ≡ b
named_settled true x = refl
named_settled false x = refl

numeral_settled : (known : Known) (e : Expr) → is_settled (kind_of known e) ≡ is_numeral known e
numeral_settled known (Number at n) = refl
numeral_settled known (Named at x) = named_settled (is_constant known x) x
numeral_settled known (Bracket e) = bracket_settled (kind_of known e) ∙ numeral_settled known e
numeral_settled known (Prefix at op e) = prefix_settled known op e
numeral_settled known e = refl

bracket_carried : (bound seen : List Name) (ends : List (Kind Name)) (k : Kind Name) → step.is_carried by_bytes bound seen (bracketed k ∷ ends) ≡ not (is_settled
    (bracketed k))
bracket_carried bound seen ends kind.Written = refl
bracket_carried bound seen ends kind.Constant = refl
bracket_carried bound seen ends (kind.Variable x) = refl
bracket_carried bound seen ends kind.Other = refl

prefix_carried : (bound seen : List Name) (ends : List (Kind Name)) (op : Unary) (k : Kind Name) → step.is_carried by_bytes bound seen (prefixed op k ∷ ends) ≡ not
    (is_settled (prefixed op k))
prefix_carried bound seen ends unary.Neg kind.Written = refl
prefix_carried bound seen ends unary.Neg kind.Constant = refl
prefix_carried bound seen ends unary.Neg (kind.Variable x) = refl
prefix_carried bound seen ends unary.Neg kind.Other = refl
prefix_carried bound seen ends unary.Not k = refl

carried_is : (known : Known) (bound outside seen : List Name) (ends : List (Kind Name)) → ((x : Name) → is_in x seen ≡ is_in x outside) → (e : Expr)
    → step.is_carried by_bytes bound seen (kind_of known e ∷ ends) ≡ rules.is_carried known bound outside e
carried_is known bound outside seen ends h (Number at n) = refl
carried_is known bound outside seen ends h (Named at x) = go (is_constant known x)
  where
    go : (b : Bool) → step.is_carried by_bytes bound seen ((if b then kind.Constant else kind.Variable x) ∷ ends) ≡ (not b && (is_in x bound || not
        (is_in x outside)))
    go true = refl
    go false = ap (λ (t : Bool). is_in x bound || not t) (h x)
carried_is known bound outside seen ends h (Bracket e) = bracket_carried bound seen ends (kind_of known e) ∙ ap not (numeral_settled known (Bracket e))
carried_is known bound outside seen ends h (Prefix at op e) = prefix_carried bound seen ends op (kind_of known e) ∙ ap not (numeral_settled known (Prefix at op e))
carried_is known bound outside seen ends h e = refl

-- PARTS OF ONE VALUE before the turn
range_first : {A : Type 0} (g : Setting) (e : Expr) → Over g e → (s : Open Name) (before : List Name) (k : ℕ) (ws : Words) → IsDeep s → (q : Result A Fault)
    → (L : A → Result (State Name) Fault) → runs g (naming (having s (notes g s (uses e)) 0 0 kind.Other) before k) ws ≡ (q >>= L)
    → runs g (naming s before k) (words e ++ word.Range ∷ ws) ≡ ((values (around g s) s.scope e >>= λ n. one_value e n >>= λ one. q) >>= L)
range_first g e h s before k ws d q L eq =
    h (naming s before k) (word.Range ∷ ws) (naming_deep s before k d) refl
    ∙ then_equal (values (around g s) s.scope e) _ (λ n. (one_value e n >>= λ one. q) >>= L) (λ n. tested_then (n == 1) Arity (place_of e) (Plain (naming
    (having s (notes g s (uses e)) 0 0 kind.Other) before k)) (λ u. steps by_bytes g.items u ws) 1 (λ one. q) L eq)
    ∙ sym (bind_assoc (values (around g s) s.scope e) (λ n. one_value e n >>= λ one. q) L)

-- with the number at which the loop stops
abbrev until : Open Name → Kind Name → Open Name
until s k = record s { ends = k ∷ s.ends }

range_last : {A : Type 0} (g : Setting) (e : Expr) → Over g e → (s : Open Name) (before : List Name) (k : ℕ) (ws : Words) → IsDeep s → (q : Result A Fault)
    → (L : A → Result (State Name) Fault) → runs g (naming (until (having s (notes g s (uses e)) 0 0 kind.Other) (kind_of g.known e)) before k) ws ≡ (q >>= L)
    → runs g (naming s before k) (words e ++ word.EndRange ∷ ws) ≡ ((values (around g s) s.scope e >>= λ n. one_value e n >>= λ one. q) >>= L)
range_last g e h s before k ws d q L eq =
    h (naming s before k) (word.EndRange ∷ ws) (naming_deep s before k d) refl
    ∙ then_equal (values (around g s) s.scope e) _ (λ n. (one_value e n >>= λ one. q) >>= L) (λ n. tested_then (n == 1) Arity (place_of e) (Plain (naming (until
    (having s (notes g s (uses e)) 0 0 kind.Other) (kind_of g.known e)) before k)) (λ u. steps by_bytes g.items u ws) 1 (λ one. q) L eq)
    ∙ sym (bind_assoc (values (around g s) s.scope e) (λ n. one_value e n >>= λ one. q) L)

-- the names after `with`
abbrev pub AsMany : Carried → Type 0
AsMany Nothing = ⊤
AsMany (With xs firsts) = count firsts ≡ length xs

abbrev pub OverCarried : Setting → Carried → Type 0
OverCarried g carried = (s : Open Name) (before : List Name) (k : ℕ) (ws : Words) → IsDeep s → s.last ≡ record { count = 0; at = 0; kind = kind.Other }
    → runs g (naming s before k) (carried_words carried ++ ws)
    ≡ (carried_values (around g s) s.scope before carried >>= λ begun. runs g (naming (having s (notes g s (carried_uses carried)) 0 0 kind.Other) (onto (bare
    (carried_names carried)) before) (k + length (carried_names carried))) ws)

no_more : (k : ℕ) → k ≡ k + 0
no_more k = omega arith

pub over_nothing : (g : Setting) → OverCarried g Nothing
over_nothing g s before k ws d e = ap (λ (l : Last Name). runs g (record (naming s before k) { last = l }) ws) e
    ∙ ap (λ (i : ℕ). runs g (naming (having s s.used 0 0 kind.Other) before i) ws) (no_more k)

pub over_with : (g : Setting) (xs : List NameAt) (firsts : Exprs) → OverFirsts g firsts → count firsts ≡ length xs → OverCarried g (With xs firsts)
over_with g xs firsts h c s before k ws d e = h xs c s before k ws d

-- THE END
none_is_none : (es : Exprs) → count es ≡ 0 → ⊥
none_is_none (One e) h = omega (arith, h)
none_is_none (More e es) h = omega (arith, h)

many_is : (k : ℕ) (carried : Carried) → AsMany carried → as_many k (length (carried_names carried)) ≡ is_as_many k carried
many_is k Nothing c = refl
many_is k (With [] firsts) c = absurd (none_is_none firsts c)
many_is k (With (x ∷ xs) firsts) c = refl

values_is : (carried : Carried) → AsMany carried → values_of (length (carried_names carried)) ≡ for_values carried
values_is Nothing c = refl
values_is (With [] firsts) c = absurd (none_is_none firsts c)
values_is (With (x ∷ xs) firsts) c = refl

shut_for : (g : Setting) (s : Open Name) (k : Kind Name) (xs : List NameAt) (m at n : ℕ) (us used scope : List Name) (at_last : ℕ) (rest : Words) → IsDeep s
    → back (length (bare xs ++ s.scope)) scope ≡ bare xs ++ s.scope → back (length s.scope) scope ≡ s.scope
    → used ≡ all_noted by_bytes (no_value by_bytes g.items s) (bare xs) (length s.used) s.used us
    → (end_for by_bytes g.items (record (until s k) {
      scope = scope;
      used = used;
      turn = record { base = length s.scope; start = length s.used };
      last = record { count = n; at = at_last; kind = kind.Other };
    }) at (Some (frame.Open s.turn m (length (bare xs ++ s.scope)))) >>= λ u. steps by_bytes g.items u rest)
    ≡ ((must_be (as_many n (m - 1)) Arity at >>= λ all. must_be (nat_le (m + length (once (outside_of (around g s) xs us)) + one_if (step.is_carried by_bytes (bare xs)
    (gathered [] (outside_of (around g s) xs us)) (k ∷ s.ends))) 15) TooWide at >>= λ narrow. Ok (values_of (m - 1))) >>= λ i. runs g
    (having s (notes g s (without (bare xs) us)) i at kind.Other) rest)
shut_for g s k xs m at n us used scope at_last rest d e1 e2 f =
    let hidden : Name → Bool = no_value by_bytes g.items s in
    let others : List Name = no_values (around g s) in
    let out : List Name = outside_of (around g s) xs us in
    let noted : used ≡ gathered [] out ++ s.used =
    f ∙ gathers_above hidden others (hidden_is g s) (bare xs) us s.used ∙ ap (λ (ys : List Name). gathered [] ys ++ s.used) (without_both (bare xs) others us) in
    let from : Open Name = record s {
      scope = scope;
      used = used;
      turn = record { base = length s.scope; start = length s.used };
      last = record { count = n; at = at_last; kind = kind.Other };
    } in
    let ending : ℕ → Bool → Result (State Name) Fault = λ width carried. (must_be (as_many n (m - 1)) Arity at >>= λ all. must_be
    (nat_le (m + width + one_if carried) 15) TooWide at >>= λ narrow. Ok (Plain (ended (left_turn by_bytes g.items from s.turn) (values_of (m - 1)) at kind.Other))) >>= λ
    u. steps by_bytes g.items u rest in
    let seen : since (length s.used) used ≡ gathered [] out = ap (λ (us : List Name). since (length s.used) us) noted ∙ since-append (gathered [] out) s.used in
    ap (λ (names : List Name). ending (length (since (length s.used) used)) (step.is_carried by_bytes names (since (length s.used) used) (k ∷ s.ends))) (ap
    (λ (names : List Name). since (length s.scope) names) e1 ∙ since-append (bare xs) s.scope)
    ∙ ap (λ (names : List Name). ending (length names) (step.is_carried by_bytes (bare xs) names (k ∷ s.ends))) seen
    ∙ ap (λ (width : ℕ). ending width (step.is_carried by_bytes (bare xs) (gathered [] out) (k ∷ s.ends))) (gathered_length out)
    ∙ rw (noted, since-append (gathered [] out) s.used, back-append (gathered [] out) s.used, e2)
    (both_tested (as_many n (m - 1)) (nat_le (m + length (once out) + one_if (step.is_carried by_bytes (bare xs) (gathered [] out) (k ∷ s.ends))) 15) at
    (values_of (m - 1)) _ (λ u. steps by_bytes g.items u rest) (λ i. runs g (having s (notes g s (without (bare xs) us)) i at kind.Other) rest)
    (ap (λ (v : List Name). runs g (having s v (values_of (m - 1)) at kind.Other) rest) (gathers_again hidden others (hidden_is g s)
    (since s.turn.base s.scope) s.turn.start s.used out d.used
    ∙ hidden_out hidden others (hidden_is g s) (since s.turn.base s.scope) s.turn.start (without (bare xs) us) s.used)))

-- ALL OF IT
bounds_as : (g : Setting) (s : Open Name) (bound : Option Count) (ws : Words)
    → runs g s (bound_words bound ++ ws) ≡ (good_bound_if_written (around g s) bound >>= λ fits. runs g s ws)
bounds_as g s None ws = refl
bounds_as g s (Some k) ws = bound_as_good g s k ws

-- the uses of four parts one after another
four_noted : (hidden : Name → Bool) (inner : List Name) (k : ℕ) (xs ys zs ws used : List Name)
    → all_noted by_bytes hidden inner k (all_noted by_bytes hidden inner k (all_noted by_bytes hidden inner k (all_noted by_bytes hidden inner k used xs) ys) zs) ws
    ≡ all_noted by_bytes hidden inner k used (((xs ++ ys) ++ zs) ++ ws)
four_noted hidden inner k xs ys zs ws used = sym (noted_append hidden inner k ((xs ++ ys) ++ zs) ws used
    ∙ ap (λ (u : List Name). all_noted by_bytes hidden inner k u ws) (noted_append hidden inner k (xs ++ ys) zs used
    ∙ ap (λ (u : List Name). all_noted by_bytes hidden inner k u zs) (noted_append hidden inner k xs ys used)))

bare_length : (xs : List NameAt) → length (bare xs) ≡ length xs
bare_length [] = refl
bare_length (x ∷ xs) = ap (λ (n : ℕ). suc n) (bare_length xs)

one_less : (n : ℕ) → ((0 + 1) + n) - 1 ≡ n
one_less n = omega arith

one_more : (n m : ℕ) → m ≡ n → (0 + 1) + n ≡ suc m
one_more n m h = omega (arith, h)

-- what is checked in the end
abbrev for_ends : Around → ℕ → NameAt → Expr → Carried → Body → ℕ → Result ℕ Fault
for_ends a at i end carried body k = must_be (is_as_many k carried) Arity at >>= λ all. must_be (nat_le (for_width a i end carried body) 15) TooWide at >>= λ
    narrow. Ok (for_values carried)

ends_alike : (a : Around) (ends : List (Kind Name)) (at : ℕ) (i : NameAt) (end : Expr) (carried : Carried) (body : Body) (k : ℕ) → AsMany carried
    → (must_be (as_many k (((0 + 1) + length (carried_names carried)) - 1)) Arity at >>= λ all. must_be (nat_le (((0 + 1) + length (carried_names carried)) + length
    (once (outside_of a (i ∷ carried_names carried) (body_uses body))) + one_if (step.is_carried by_bytes (bare (i ∷ carried_names carried)) (gathered []
    (outside_of a (i ∷ carried_names carried) (body_uses body))) (kind_of a.known end ∷ ends))) 15) TooWide at >>= λ narrow. Ok (values_of (((0 + 1) + length
    (carried_names carried)) - 1)))
    ≡ for_ends a at i end carried body k
ends_alike a ends at i end carried body k c =
    let xs : List NameAt = carried_names carried in
    let out : List Name = outside_of a (i ∷ xs) (body_uses body) in
    let bound : List Name = bare (i ∷ xs) in
    ap (λ (n : ℕ). must_be (as_many k n) Arity at >>= λ all. must_be (nat_le (((0 + 1) + length xs) + length (once out) + one_if (step.is_carried by_bytes bound
    (gathered [] out) (kind_of a.known end ∷ ends))) 15) TooWide at >>= λ narrow. Ok (values_of n)) (one_less (length xs))
    ∙ ap (λ (b : Bool). must_be b Arity at >>= λ all. must_be (nat_le (((0 + 1) + length xs) + length (once out) + one_if (step.is_carried by_bytes bound
    (gathered [] out) (kind_of a.known end ∷ ends))) 15) TooWide at >>= λ narrow. Ok (values_of (length xs))) (many_is k carried c)
    ∙ ap (λ (n : ℕ). must_be (is_as_many k carried) Arity at >>= λ all. must_be (nat_le (((0 + 1) + length xs) + length (once out) + one_if (step.is_carried by_bytes
    bound (gathered [] out) (kind_of a.known end ∷ ends))) 15) TooWide at >>= λ narrow. Ok n) (values_is carried c)
    ∙ ap (λ (b : Bool). must_be (is_as_many k carried) Arity at >>= λ all. must_be (nat_le (((0 + 1) + length xs) + length (once out) + one_if b) 15) TooWide at >>= λ
    narrow. Ok (for_values carried)) (carried_is a.known bound (once out) (gathered [] out) ends (λ x. same_members x out) end)
    ∙ ap (λ (n : ℕ). must_be (is_as_many k carried) Arity at >>= λ all. must_be (nat_le (n + length (once out) + one_if (rules.is_carried a.known bound (once out) end))
    15) TooWide at >>= λ narrow. Ok (for_values carried)) (one_more (length xs) (length (bare xs)) (bare_length xs))

pub over_for : (g : Setting) (at : ℕ) (bound : Option Count) (i : NameAt) (first end : Expr) (carried : Carried) (body : Body) → Over g first → Over g end
    → OverCarried g carried → AsMany carried → OverBody g body → Over g (For at bound i first end carried body)
over_for g at bound i first end carried body h j l c b s rest d w =
    let a : Around = around g s in
    let xs : List NameAt = carried_names carried in
    let ys : List NameAt = i ∷ xs in
    let m : ℕ = (0 + 1) + length xs in
    let s1 : Open Name = having s (notes g s (uses first)) 0 0 kind.Other in
    let d1 : IsDeep s1 = still_deep g s (uses first) 0 0 kind.Other d in
    let last : Kind Name = kind_of g.known end in
    let t1 : Open Name = having s1 (notes g s1 (uses end)) 0 0 kind.Other in
    let e1 : IsDeep t1 = still_deep g s1 (uses end) 0 0 kind.Other d1 in
    let s2 : Open Name = until t1 last in
    let d2 : IsDeep s2 = record { scope = e1.scope; used = e1.used } in
    -- as if the number were not there
    let s3 : Open Name = having t1 (notes g t1 (carried_uses carried)) 0 0 kind.Other in
    let d3 : IsDeep s3 = still_deep g t1 (carried_uses carried) 0 0 kind.Other e1 in
    let all : List Name = ((uses first ++ uses end) ++ carried_uses carried) ++ without (i.name ∷ bare xs) (body_uses body) in
    let L : ℕ → Result (State Name) Fault = λ n. runs g (having s (notes g s all) n at kind.Other) rest in
    let inner : Result ℕ Fault = body_values a (i.name ∷ bare xs ++ s.scope) body in
    let last_of : Result ℕ Fault = inner >>= for_ends a at i end carried body in
    let more : Result ℕ Fault = carried_values a s.scope (i.name ∷ []) carried >>= λ begun. last_of in
    let both : Result ℕ Fault = values a s.scope end >>= λ n. one_value end n >>= λ one. more in
    let three : Result ℕ Fault = values a s.scope first >>= λ n. one_value first n >>= λ one. both in
    let r6 : Words = word.EndFor at ∷ rest in
    let r5 : Words = word.Turns ∷ (body_words body ++ r6) in
    let r4 : Words = word.EndRange ∷ (carried_words carried ++ r5) in
    let r3 : Words = word.Range ∷ (words end ++ r4) in
    ap (runs g s) (append_assoc (((((word.For at ∷ bound_words bound) ++ word.Counter i.at i.name ∷ words first) ++ word.Range ∷ words end) ++ word.EndRange ∷ carried_words
    carried) ++ word.Turns ∷ body_words body) (word.EndFor at ∷ []) rest
    ∙ append_assoc ((((word.For at ∷ bound_words bound) ++ word.Counter i.at i.name ∷ words first) ++ word.Range ∷ words end) ++ word.EndRange ∷ carried_words carried)
    (word.Turns ∷ body_words body) r6
    ∙ append_assoc (((word.For at ∷ bound_words bound) ++ word.Counter i.at i.name ∷ words first) ++ word.Range ∷ words end) (word.EndRange ∷ carried_words carried) r5
    ∙ append_assoc ((word.For at ∷ bound_words bound) ++ word.Counter i.at i.name ∷ words first) (word.Range ∷ words end) r4
    ∙ append_assoc (word.For at ∷ bound_words bound) (word.Counter i.at i.name ∷ words first) r3)
    ∙ bounds_as g (naming s [] 0) bound (word.Counter i.at i.name ∷ (words first ++ r3))
    ∙ then_equal (good_bound_if_written a bound) _ (λ fits. (new_name a [] i >>= λ new. three) >>= L)
    (λ fits. bound_as g s [] 0 i (words first ++ r3)
    ∙ then_equal (new_name a [] i) _ (λ new. three >>= L)
    (λ new. range_first g first h s (i.name ∷ []) (0 + 1) (words end ++ r4) d both L
    (range_last g end j s1 (i.name ∷ []) (0 + 1) (carried_words carried ++ r5) d1 more L
    (l s2 (i.name ∷ []) (0 + 1) r5 d2 refl
    ∙ then_equal (carried_values a s.scope (i.name ∷ []) carried) _ (λ begun. last_of >>= L)
    (λ begun. opened g (until s3 last) ys m (body_words body ++ r6)
    ∙ b (inside (until s3 last) ys m) r6 (inside_deep (until s3 last) ys m)
    ∙ then_equal inner _ (λ k. for_ends a at i end carried body k >>= L)
    (λ k. shut_for g s3 last ys m at k (body_uses body) (notes g (inside (until s3 last) ys m) (body_uses body)) (left_scope body (bare ys ++ s.scope)) 0 rest d3
    (all_back body (bare ys ++ s.scope)) (body_gone s3 ys body) (ap (λ (inner_names : List Name). all_noted by_bytes (no_value by_bytes g.items s) inner_names
    (length s3.used) s3.used (body_uses body)) (since-append (bare ys) s.scope))
    ∙ ap (λ (r : Result ℕ Fault). r >>= λ n. runs g (having s3 (notes g s3 (without (bare ys) (body_uses body))) n at kind.Other) rest) (ends_alike a s.ends at i end
    carried body k c)
    ∙ ap (λ (us : List Name). for_ends a at i end carried body k >>= λ n. runs g (having s us n at kind.Other) rest) (four_noted (no_value by_bytes g.items s)
    (since s.turn.base s.scope) s.turn.start (uses first) (uses end) (carried_uses carried) (without (bare ys) (body_uses body)) s.used))
    ∙ sym (bind_assoc inner (for_ends a at i end carried body) L))
    ∙ sym (bind_assoc (carried_values a s.scope (i.name ∷ []) carried) (λ begun. last_of) L))))
    ∙ sym (bind_assoc (new_name a [] i) (λ new. three) L))
    ∙ sym (bind_assoc (good_bound_if_written a bound) (λ fits. new_name a [] i >>= λ new. three) L)
