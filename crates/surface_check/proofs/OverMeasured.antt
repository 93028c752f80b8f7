-- `len`: of an array's whole name, and of a dimension.
use Rattle.std.specs.Prelude.{◌≡◌, refl, ℕ, ◌==◌, ◌||◌, ◌&&◌, not, Bool, true, false, ℤ, pos, int_le, int_lt, List, [], ◌∷◌, ◌++◌, is_some, Option, None, Some}
use Rattle.std.specs.Prelude.{Result, Ok, Err, if◌then◌else◌}
use Rattle.std.proofs.Common.{◌∙◌, ap, sym, arith, append_assoc}
use Rattle.source.specs.declared.fault.FaultKind.TheVariants.{NoSuchName, BadCount}
use Rattle.source.specs.declared.word.Word.TheVariants as core_word
use Rattle.source.specs.Tree.{Name}
use Rattle.source.specs.Outside.{is_in}
use Rattle.surface.specs.declared.fault.Fault.{Fault}
use Rattle.surface.specs.declared.fault.FaultKind.TheVariants.{Core, BadConst}
use Rattle.surface.specs.declared.word.Word.{Word}
use Rattle.surface.specs.declared.word.Word.TheVariants as word
use Rattle.surface.specs.Tree.{Expr, Number, Named, Bracket, Prefix, Infix, And, Or, Not, Fetch, Store, Call, If, Loop, For, Exprs, One, More}
use Rattle.surface.specs.Fits.{FitsAll}
use Rattle.surface.specs.Words.{Words, of_core, words, part_words, body_words}
use Rattle.surface.specs.Outside.{uses, list_uses}
use Rattle.surface.specs.First.{◌>>=◌, refused, must_be}
use Rattle.surface.specs.Known.{Known, lookup}
use Rattle.surface.specs.Constants.{place_of, constant_or, constant}
use Rattle.surface.specs.Rules.{rank_of, known_array, good_dimension}
use Rattle.source_check.specs.Steps.{since}
use Rattle.surface_check.specs.declared.entry.Entry.{Entry}
use Rattle.surface_check.specs.declared.evaluation.Part.{Part}
use Rattle.surface_check.specs.declared.frame.Kind.TheVariants as kind
use Rattle.surface_check.specs.Evaluates.{Evaluation, fresh, evaluates, evaluate, constants, part_ends}
use Rattle.surface_check.specs.Pins.{constant_in}
use Rattle.surface_check.specs.Steps as step
use Rattle.surface_check.specs.Steps.{Open, State, Plain, Measuring, NamePart, ended, rank_at, no_value, all_noted, is_part, word_name, name_part, measures, measured_from, ends_measure, steps}
use Rattle.surface_check.proofs.Balanced.{ends_outer, none_outer, evaluate_append, balanced}
use Rattle.surface_check.proofs.HeadsRead.{by_bytes, constants_known}
use Rattle.surface_check.proofs.Evaluated.{parts_of, parts_are}
use Rattle.surface_check.proofs.Over.{Setting, around, runs, notes, having, bind_assoc, tested, rank_is, noted_append}
use Rattle.surface_check.proofs.OverArguments.{noted_hidden, array_noted}
use Rattle.surface_check.proofs.OverWholeCalls.{argument_words, OverMeasured}

-- CONSTANTS use no names of values
entry_some : (o : Option Entry) (z : ℤ) → constant_in o ≡ Some z → is_some o ≡ true
entry_some (Some e) z h = refl
entry_some None z h = absurd (cc)

named_some : (known : Known) (at : ℕ) (x : Name) (o : Option ℤ) (z : ℤ) → constant_or known at x o ≡ Ok z → o ≡ Some z
named_some known at x (Some y) z h = let e : y ≡ z = cc in ap (λ (i : ℤ). Some i) e
named_some known at x None z h = go (is_in x known.names) h
  where
    go : (b : Bool) → (if b then refused BadConst at else refused (Core NoSuchName) at) ≡ Ok z → None ≡ Some z
    go true e = absurd (cc)
    go false e = absurd (cc)

no_fault : {A : Type 0} (r : Result ℤ Fault) (f : ℤ → Result A Fault) (z : A) → (r >>= f) ≡ Ok z → (y : ℤ) × (r ≡ Ok y) × (f y ≡ Ok z)
no_fault (Ok y) f z h = (y, refl, h)
no_fault (Err e) f z h = absurd (cc)

constant_hidden : (g : Setting) (s : Open Name) (e : Expr) (z : ℤ) → constant g.known e ≡ Ok z → (used : List Name)
    → all_noted by_bytes (no_value by_bytes g.items s) (since s.turn.base s.scope) s.turn.start used (uses e) ≡ used
constant_hidden g s (Number at n) z h used = refl
constant_hidden g s (Named at x) z h used =
    let e : constant_in (g.items.item x) ≡ Some z = g.pins.constants x ∙ named_some g.known at x (lookup g.known.constants x) z h in
    noted_hidden (no_value by_bytes g.items s) (since s.turn.base s.scope) s.turn.start used x (rw (entry_some (g.items.item x) z e) refl)
constant_hidden g s (Bracket e) z h used = constant_hidden g s e z h used
constant_hidden g s (Prefix at op e) z h used = let p = no_fault (constant g.known e) _ z h in constant_hidden g s e p.0 p.1 used
constant_hidden g s (Infix at sign l r) z h used =
    let p = no_fault (constant g.known l) _ z h in
    let q = no_fault (constant g.known r) _ z p.2 in
    noted_append (no_value by_bytes g.items s) (since s.turn.base s.scope) s.turn.start (uses l) (uses r) used
    ∙ ap (λ (us : List Name). all_noted by_bytes (no_value by_bytes g.items s) (since s.turn.base s.scope) s.turn.start us (uses r)) (constant_hidden g s l p.0 p.1
    used) ∙ constant_hidden g s r q.0 q.1 used
constant_hidden g s e z h used = absurd (cc)

-- WORDS THAT ARE GONE OVER
goes_over : (g : Setting) (s : Open Name) (at rank : ℕ) (ws rest : Words) (c : Evaluation) → ends_outer (constants g.items.item) c ws ≡ false
    → steps by_bytes g.items (Measuring s at rank c) (ws ++ rest) ≡ steps by_bytes g.items (Measuring s at rank (evaluate (constants g.items.item) c ws)) rest
goes_over g s at rank [] rest c h = refl
goes_over g s at rank (w ∷ ws) rest c h = go (ends_measure w && c.depth == 1) h (λ e. goes_over g s at rank ws rest (evaluates (constants g.items.item) c w) e)
  where
    go : (b : Bool) → (b || ends_outer (constants g.items.item) (evaluates (constants g.items.item) c w) ws) ≡ false
        → (ends_outer (constants g.items.item) (evaluates (constants g.items.item) c w) ws ≡ false
        → steps by_bytes g.items (Measuring s at rank (evaluates (constants g.items.item) c w)) (ws ++ rest) ≡ steps by_bytes g.items (Measuring s at rank (evaluate
        (constants g.items.item) (evaluates (constants g.items.item) c w) ws)) rest)
        → ((if b then step.measured s at rank c.parts else Ok (Measuring s at rank (evaluates (constants g.items.item) c w))) >>= λ u. steps by_bytes g.items u
        (ws ++ rest)) ≡ steps by_bytes g.items (Measuring s at rank (evaluate (constants g.items.item) (evaluates (constants g.items.item) c w) ws)) rest
    go true e later = absurd (cc)
    go false e later = later e

part_depth : (c : Evaluation) → (part_ends c).depth ≡ c.depth
part_depth c = go (c.depth == 1)
  where
    go : (b : Bool) → (if b then record c { parts = c.parts ++ c.last ∷ [] } else c).depth ≡ c.depth
    go true = refl
    go false = refl

still_one : (k : ℕ → Name → Result ℤ Fault) (e : Expr) (c : Evaluation) → c.depth ≡ 1 → (evaluate k c (words e)).depth ≡ 1
still_one k e c h = ap (λ (x : Evaluation). x.depth) ((balanced e).still k c (omega (arith, h))) ∙ h

after_part : (k : ℕ → Name → Result ℤ Fault) (e : Expr) (c : Evaluation) → c.depth ≡ 1 → (evaluate k c (words e ++ of_core core_word.Part ∷ [])).depth ≡ 1
after_part k e c h = ap (λ (x : Evaluation). x.depth) (evaluate_append k (words e) (of_core core_word.Part ∷ []) c)
    ∙ part_depth (evaluate k c (words e)) ∙ still_one k e c h

part_inside : (k : ℕ → Name → Result ℤ Fault) (e : Expr) (c : Evaluation) → c.depth ≡ 1 → ends_outer k c (words e ++ of_core core_word.Part ∷ []) ≡ false
part_inside k e c h = none_outer k (words e) (of_core core_word.Part ∷ []) c ((balanced e).inside k c (omega (arith, h))) refl

parts_inside : (k : ℕ → Name → Result ℤ Fault) (es : Exprs) (c : Evaluation) → c.depth ≡ 1 → ends_outer k c (part_words es) ≡ false
parts_inside k (One e) c h = part_inside k e c h
parts_inside k (More e es) c h = ap (ends_outer k c) (sym (append_assoc (words e) (of_core core_word.Part ∷ []) (part_words es)))
    ∙ none_outer k (words e ++ of_core core_word.Part ∷ []) (part_words es) c (part_inside k e c h) (parts_inside k es (evaluate k c (words e ++ of_core core_word.Part ∷
    [])) (after_part k e c h))

after_parts : (k : ℕ → Name → Result ℤ Fault) (es : Exprs) (c : Evaluation) → c.depth ≡ 1 → (evaluate k c (part_words es)).depth ≡ 1
after_parts k (One e) c h = after_part k e c h
after_parts k (More e es) c h = ap (λ (ws : Words). (evaluate k c ws).depth) (sym (append_assoc (words e) (of_core core_word.Part ∷ []) (part_words es)))
    ∙ ap (λ (x : Evaluation). x.depth) (evaluate_append k (words e ++ of_core core_word.Part ∷ []) (part_words es) c)
    ∙ after_parts k es (evaluate k c (words e ++ of_core core_word.Part ∷ [])) (after_part k e c h)

call_ends : (g : Setting) (s : Open Name) (at rank : ℕ) (c : Evaluation) (parts : List Part) (strict : Bool) (f : Name) (rest : Words) → c.depth ≡ 1 → c.parts ≡ parts
    → steps by_bytes g.items (Measuring s at rank c) (of_core (core_word.Call at strict f) ∷ rest) ≡ (step.measured s at rank parts >>= λ u. steps by_bytes g.items u
    rest)
call_ends g s at rank c parts strict f rest h e =
    ap (λ (n : ℕ). (if n == 1 then step.measured s at rank c.parts else Ok (Measuring s at rank (evaluates (constants g.items.item) c (of_core
    (core_word.Call at strict f))))) >>= λ u. steps by_bytes g.items u rest) h
    ∙ ap (λ (ps : List Part). step.measured s at rank ps >>= λ u. steps by_bytes g.items u rest) e

-- all arguments are gone over
measures_all : (g : Setting) (s : Open Name) (at rank : ℕ) (es : Exprs) → FitsAll es → (strict : Bool) (f : Name) (rest : Words)
    → steps by_bytes g.items (Measuring s at rank (fresh 0)) (argument_words es at strict f rest) ≡ (step.measured s at rank (parts_of g.known es) >>= λ u. steps
    by_bytes g.items u rest)
measures_all g s at rank es fits strict f rest =
    let k : ℕ → Name → Result ℤ Fault = constants g.items.item in
    goes_over g s at rank (part_words es) (of_core (core_word.Call at strict f) ∷ rest) (fresh 1) (parts_inside k es (fresh 1) refl)
    ∙ call_ends g s at rank (evaluate k (fresh 1) (part_words es)) (parts_of g.known es) strict f rest (after_parts k es (fresh 1) refl) (parts_are k g.known
    (constants_known g.items.item g.items.ranks g.known g.pins) es fits (fresh 1))

-- THE FIRST ARGUMENT, where it is no name
abbrev not_named : Expr → Bool
not_named (Named at x) = false
not_named e = true

no_name : (e : Expr) (w : Word Name) (rest : Words) → (not (is_part w) || not_named e) ≡ true → name_part (words e ++ w ∷ rest) ≡ None
no_name (Number at n) w rest h = refl
no_name (Named at x) w rest h = go (is_part w) h
  where
    go : (b : Bool) → (not b || false) ≡ true → word_name (of_core (core_word.Name at x)) b ≡ None
    go true e = absurd (cc)
    go false e = refl
no_name (Bracket e) w rest h = ap name_part (append_assoc (words e) (of_core core_word.Bracket ∷ []) (w ∷ rest)) ∙ no_name e (of_core core_word.Bracket) (w ∷ rest)
    refl
no_name (Prefix at op e) w rest h = ap name_part (append_assoc (words e) (of_core (core_word.Prefix at op) ∷ []) (w ∷ rest)) ∙ no_name e (of_core
    (core_word.Prefix at op)) (w ∷ rest) refl
no_name (Infix at sign l r) w rest h = ap name_part (append_assoc (words l ++ of_core core_word.Left ∷ words r) (of_core (core_word.Infix at sign) ∷ []) (w ∷ rest)
    ∙ append_assoc (words l) (of_core core_word.Left ∷ words r) (of_core (core_word.Infix at sign) ∷ w ∷ rest)) ∙ no_name l (of_core core_word.Left) (words r ++ of_core
    (core_word.Infix at sign) ∷ w ∷ rest) refl
no_name (And at l r) w rest h = ap name_part (append_assoc (words l ++ word.AndThen ∷ words r) (word.EndAnd at ∷ []) (w ∷ rest)
    ∙ append_assoc (words l) (word.AndThen ∷ words r) (word.EndAnd at ∷ w ∷ rest)) ∙ no_name l word.AndThen (words r ++ word.EndAnd at ∷ w ∷ rest) refl
no_name (Or at l r) w rest h = ap name_part (append_assoc (words l ++ word.OrElse ∷ words r) (word.EndOr at ∷ []) (w ∷ rest)
    ∙ append_assoc (words l) (word.OrElse ∷ words r) (word.EndOr at ∷ w ∷ rest)) ∙ no_name l word.OrElse (words r ++ word.EndOr at ∷ w ∷ rest) refl
no_name (Not at e) w rest h = ap name_part (append_assoc (words e) (word.Not at ∷ []) (w ∷ rest)) ∙ no_name e (word.Not at) (w ∷ rest) refl
no_name (If at q l r) w rest h =
    ap name_part (append_assoc ((words q ++ of_core core_word.Then ∷ body_words l) ++ of_core core_word.Else ∷ body_words r) (of_core (core_word.EndIf at) ∷ []) (w ∷ rest)
    ∙ append_assoc (words q ++ of_core core_word.Then ∷ body_words l) (of_core core_word.Else ∷ body_words r) (of_core (core_word.EndIf at) ∷ w ∷ rest)
    ∙ append_assoc (words q) (of_core core_word.Then ∷ body_words l) (of_core core_word.Else ∷ (body_words r ++ of_core (core_word.EndIf at) ∷ w ∷ rest)))
    ∙ no_name q (of_core core_word.Then) (body_words l ++ of_core core_word.Else ∷ (body_words r ++ of_core (core_word.EndIf at) ∷ w ∷ rest)) refl
no_name (Fetch at x es) w rest h = refl
no_name (Store at x es v) w rest h = refl
no_name (Call at strict f es) w rest h = refl
no_name (Loop at bound firsts turn) w rest h = refl
no_name (For at bound i first end carried body) w rest h = refl

-- DIMENSIONS
then_when : {A B : Type 0} (r : Result A Fault) (f h : A → Result B Fault) → ((x : A) → r ≡ Ok x → f x ≡ h x) → (r >>= f) ≡ (r >>= h)
then_when (Ok x) f h e = e x refl
then_when (Err y) f h e = refl

-- an array by its name, and then what is measured
of_array : (g : Setting) (s : Open Name) (at x_at : ℕ) (x : Name) (es : Exprs) → FitsAll es → (strict : Bool) (f : Name) (rest : Words) (q : ℕ → Result ℕ Fault)
    → (L : ℕ → Result (State Name) Fault)
    → ((rank : ℕ) → rank_of (around g s) x ≡ Some rank → (step.measured s at rank (parts_of g.known es) >>= λ u. steps by_bytes g.items u rest) ≡ (q rank >>= L))
    → (measures s at x_at (rank_at by_bytes g.items s x) >>= λ u. steps by_bytes g.items u (argument_words es at strict f rest))
    ≡ ((known_array (around g s) x_at x >>= q) >>= L)
of_array g s at x_at x es fits strict f rest q L h =
    ap (λ (o : Option ℕ). measures s at x_at o >>= λ u. steps by_bytes g.items u (argument_words es at strict f rest)) (rank_is g s x)
    ∙ go (rank_of (around g s) x) refl
  where
    go : (o : Option ℕ) → rank_of (around g s) x ≡ o → (measures s at x_at o >>= λ u. steps by_bytes g.items u (argument_words es at strict f rest))
        ≡ (((elim o as (λ _. Result ℕ Fault) [
          | Some n ↦ Ok n
          | None ↦ refused (Core NoSuchName)
              x_at
        ]) >>= q) >>= L)
    go (Some rank) e = measures_all g s at rank es fits strict f rest ∙ h rank e
    go None e = refl

-- what `len` leaves that uses these names
abbrev left_by_len : Setting → Open Name → ℕ → List Name → Words → ℕ → Result (State Name) Fault
left_by_len g s at xs rest n = runs g (having s (notes g s xs) n at kind.Other) rest

dimension : (g : Setting) (s : Open Name) (at x_at : ℕ) (x : Name) (es : Exprs) (rest : Words) (rank : ℕ) → rank_of (around g s) x ≡ Some rank
    → (step.measured s at rank (parts_of g.known (More (Named x_at x) es)) >>= λ u. steps by_bytes g.items u rest)
    ≡ (good_dimension (around g s) at rank es >>= left_by_len g s at (x ∷ list_uses es) rest)
dimension g s at x_at x (One e) rest rank h =
    let F : State Name → Result (State Name) Fault = λ u. steps by_bytes g.items u rest in
    let L : ℕ → Result (State Name) Fault = left_by_len g s at (x ∷ uses e) rest in
    bind_assoc (constant g.known e) (λ z. must_be (int_le (pos 0) z && int_lt z (pos rank)) BadCount (place_of e) >>= λ found. Ok (Plain (ended s 1 at kind.Other))) F
    ∙ then_when (constant g.known e) _ (λ z. (must_be (int_le (pos 0) z && int_lt z (pos rank)) BadCount (place_of e) >>= λ found. Ok 1) >>= L)
    (λ z c. tested (int_le (pos 0) z && int_lt z (pos rank)) BadCount (place_of e) (Plain (ended s 1 at kind.Other)) F 1 L (ap (λ (us : List Name). runs g
    (having s us 1 at kind.Other) rest) (sym (ap (λ (us : List Name). all_noted by_bytes (no_value by_bytes g.items s) (since s.turn.base s.scope) s.turn.start us
    (uses e)) (array_noted g s x rank h) ∙ constant_hidden g s e z c s.used))))
    ∙ sym (bind_assoc (constant g.known e) (λ z. must_be (int_le (pos 0) z && int_lt z (pos rank)) BadCount (place_of e) >>= λ found. Ok 1) L)
dimension g s at x_at x (More e (One d)) rest rank h = refl
dimension g s at x_at x (More e (More d es)) rest rank h = refl

pub over_len : (g : Setting) (es : Exprs) → FitsAll es → OverMeasured g es
over_len g (One (Named x_at x)) fits s at strict f rest d =
    of_array g s at x_at x (One (Named x_at x)) fits strict f rest (λ rank. Ok 1) (left_by_len g s at (x ∷ []) rest)
    (λ rank e. ap (λ (us : List Name). runs g (having s us 1 at kind.Other) rest) (sym (array_noted g s x rank e)))
over_len g (More (Named x_at x) es) fits s at strict f rest d =
    of_array g s at x_at x (More (Named x_at x) es) fits strict f rest (λ rank. good_dimension (around g s) at rank es) (left_by_len g s at (x ∷ list_uses es) rest)
    (λ rank e. dimension g s at x_at x es rest rank e)
over_len g (One e) fits s at strict f rest d =
    ap (λ (o : Option (NamePart Name)). measured_from by_bytes g.items s at o >>= λ u. steps by_bytes g.items u (argument_words (One e) at strict f rest))
    (ap name_part (append_assoc (words e) (of_core core_word.Part ∷ []) (of_core (core_word.Call at strict f) ∷ rest)) ∙ no_name e (of_core core_word.Part) (of_core
    (core_word.Call at strict f) ∷ rest) refl)
over_len g (More e es) fits s at strict f rest d =
    ap (λ (o : Option (NamePart Name)). measured_from by_bytes g.items s at o >>= λ u. steps by_bytes g.items u (argument_words (More e es) at strict f rest))
    (ap name_part (append_assoc (words e) (of_core core_word.Part ∷ part_words es) (of_core (core_word.Call at strict f) ∷ rest)) ∙ no_name e (of_core core_word.Part)
    (part_words es ++ of_core (core_word.Call at strict f) ∷ rest) refl)
