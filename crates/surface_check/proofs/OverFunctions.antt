-- Functions, items and whole programs.
use Rattle.std.specs.Prelude.{◌≡◌, refl, ℕ, zero, suc, ◌+◌, ◌==◌, ◌||◌, ◌&&◌, not, Bool, true, false, List, [], ◌∷◌, ◌++◌, length, map, is_some, Option, None, Some}
use Rattle.std.specs.Prelude.{Result, Ok, Err, ⊤, if◌then◌else◌}
use Rattle.std.specs.List.{list_any}
use Rattle.std.proofs.Common.{◌∙◌, ap, sym, arith, append_assoc, append-nil}
use Rattle.std.proofs.lemmas.Bool.{eqb-true}
use Rattle.semantics.specs.Graph.{same_name}
use Rattle.source.specs.declared.fault.FaultKind.TheVariants.{SameName, Arity, NoMain}
use Rattle.source.specs.declared.word.Word.TheVariants as core_word
use Rattle.source.specs.Tree.{Name, NameAt}
use Rattle.source.specs.Outside.{is_in, bare}
use Rattle.source.specs.Rules.{main_name}
use Rattle.surface.specs.declared.fault.Fault.{Fault}
use Rattle.surface.specs.declared.word.Word.TheVariants as word
use Rattle.surface.specs.Tree.{Count, Written, Constant, Param, Function, Cells, Const, Defines, Program}
use Rattle.surface.specs.Fits.{FitsBody, FitsProgram}
use Rattle.surface.specs.Words.{Words, of_core, words, part_words, body_words, ranked_word, param_word, result_words, item_words, program_words}
use Rattle.surface.specs.First.{◌>>=◌, must_be}
use Rattle.surface.specs.Known.{Known, Signature, nothing, lookup}
use Rattle.surface.specs.Constants.{number_or_zero}
use Rattle.surface.specs.Rules.{Around, new_name, new_names, body_values, param_names, value_params, array_params, results_in, function_checked, functions_checked, heads}
use Rattle.source_check.specs.Steps.{onto}
use Rattle.surface_check.specs.declared.entry.Entry.{Entry}
use Rattle.surface_check.specs.declared.entry.Entry.TheVariants as entry
use Rattle.surface_check.specs.declared.frame.Kind.TheVariants as kind
use Rattle.surface_check.specs.declared.frame.Frame.TheVariants as frame
use Rattle.surface_check.specs.declared.frame.Last.{Last}
use Rattle.surface_check.specs.Evaluates.{constant_of}
use Rattle.surface_check.specs.Checks.{is_function, WordsAreChecked}
use Rattle.surface_check.specs.Heads.{Heads, ends_item, no_heads, heads_read}
use Rattle.surface_check.specs.Pins.{signature_in}
use Rattle.surface_check.specs.Steps.{Open, State, Plain, Skipping, begun, pushed, ended, steps}
use Rattle.surface_check.proofs.Balanced.{balanced, parts_balanced}
use Rattle.surface_check.proofs.HeadsRead.{by_bytes, ReadAs, heads_are_read, constants_known}
use Rattle.surface_check.proofs.Over.{Setting, runs, then_equal, bind_assoc}
use Rattle.surface_check.proofs.OverNames.{naming, bound_as, new_is}
use Rattle.surface_check.proofs.OverLets.{enters}
use Rattle.surface_check.proofs.OverAll.{over_body}

-- PARAMETERS. The names before are those of values and those of arrays.
abbrev in_head : Known → Around
in_head known = record { known = known; arrays = [] }

abbrev AreBefore : Open Name → List Name → List Name → Type 0
AreBefore s vals before = (x : Name) → (is_some (lookup s.arrays x) || is_in x vals) ≡ is_in x before

tests_alike : (n a b c : Bool) → (a || b) ≡ c → (not n && not a && not b) ≡ (not n && not false && not c)
tests_alike n a b c h = go n a b ∙ ap (λ (t : Bool). not n && not false && not t) h
  where
    go : (n a b : Bool) → (not n && not a && not b) ≡ (not n && not false && not (a || b))
    go true true true = refl
    go true true false = refl
    go true false true = refl
    go true false false = refl
    go false true true = refl
    go false true false = refl
    go false false true = refl
    go false false false = refl

-- one more name
value_param : (g : Setting) (x : NameAt) (s : Open Name) (vals before : List Name) (k : ℕ) (ws : Words) → AreBefore s vals before
    → runs g (naming s vals k) (of_core (core_word.Parameter x.at x.name) ∷ ws) ≡ (new_name (in_head g.known) before x >>= λ new. runs g (naming s (x.name ∷ vals)
    (k + 1)) ws)
value_param g x s vals before k ws h = bound_as g s vals k x ws
    ∙ ap (λ (b : Bool). must_be b SameName x.at >>= λ new. runs g (naming s (x.name ∷ vals) (k + 1)) ws) (tests_alike (is_in x.name g.known.names) (is_some
    (lookup s.arrays x.name)) (is_in x.name vals) (is_in x.name before) (h x.name))

abbrev with_array : Open Name → Name → ℕ → Open Name
with_array s x rank = record s { arrays = s.arrays ++ (x, rank) ∷ [] }

array_param : (g : Setting) (x : NameAt) (rank : ℕ) (s : Open Name) (vals before : List Name) (k : ℕ) (ws : Words) → AreBefore s vals before
    → runs g (naming s vals k) (word.ArrayParameter x.at x.name rank ∷ ws) ≡ (new_name (in_head g.known) before x >>= λ new. runs g (naming (with_array s x.name rank)
    vals k) ws)
array_param g x rank s vals before k ws h =
    ap (λ (b : Bool). (must_be b SameName x.at >>= λ new. Ok (Plain (naming (with_array s x.name rank) vals k))) >>= λ u. steps by_bytes g.items u ws) (new_is g s vals
    x.name
    ∙ tests_alike (is_in x.name g.known.names) (is_some (lookup s.arrays x.name)) (is_in x.name vals) (is_in x.name before) (h x.name))
    ∙ bind_assoc (new_name (in_head g.known) before x) (λ new. Ok (Plain (naming (with_array s x.name rank) vals k))) (λ u. steps by_bytes g.items u ws)

or_turned : (c a b d : Bool) → (a || b) ≡ d → (a || (c || b)) ≡ (c || d)
or_turned true true b d h = refl
or_turned true false b d h = refl
or_turned false a b d h = h

value_before : (s : Open Name) (vals before : List Name) (x : Name) → AreBefore s vals before → AreBefore s (x ∷ vals) (x ∷ before)
value_before s vals before x h y = or_turned (same_name y x) (is_some (lookup s.arrays y)) (is_in y vals) (is_in y before) (h y)

lookup_more : (entries : List (Name × ℕ)) (x : Name) (rank : ℕ) (y : Name) → is_some (lookup (entries ++ (x, rank) ∷ []) y) ≡ (is_some (lookup entries y) || same_name
    y x)
lookup_more [] x rank y = go (same_name y x)
  where
    go : (b : Bool) → is_some (if b then Some rank else None) ≡ b
    go true = refl
    go false = refl
lookup_more (e ∷ entries) x rank y = go (same_name y e.0) (lookup_more entries x rank y)
  where
    go : (b : Bool) → is_some (lookup (entries ++ (x, rank) ∷ []) y) ≡ (is_some (lookup entries y) || same_name y x)
        → is_some (if b then Some e.1 else lookup (entries ++ (x, rank) ∷ []) y) ≡ (is_some (if b then Some e.1 else lookup entries y) || same_name y x)
    go true h = refl
    go false h = h

or_moved : (p c b d : Bool) → (p || b) ≡ d → ((p || c) || b) ≡ (c || d)
or_moved true true b d h = refl
or_moved true false b d h = h
or_moved false true b d h = refl
or_moved false false b d h = h

array_before : (s : Open Name) (vals before : List Name) (x : Name) (rank : ℕ) → AreBefore s vals before → AreBefore (with_array s x rank) vals (x ∷ before)
array_before s vals before x rank h y = ap (λ (b : Bool). b || is_in y vals) (lookup_more s.arrays x rank y)
    ∙ or_moved (is_some (lookup s.arrays y)) (same_name y x) (is_in y vals) (is_in y before) (h y)

-- what parameters leave
abbrev with_params : Setting → Open Name → List (Name × ℕ) → List NameAt → List Name → ℕ → Words → Result (State Name) Fault
with_params g s arrays xs vals k rest = runs g (naming (record s { arrays = s.arrays ++ arrays }) (onto (bare xs) vals) (k + length xs)) rest

one_more : (k m : ℕ) → (k + 1) + m ≡ k + suc m
one_more k m = omega arith

no_more : (k : ℕ) → k ≡ k + 0
no_more k = omega arith

abbrev OverParams : Setting → List Param → Words → Type 0
OverParams g ps rest = (s : Open Name) (vals before : List Name) (k : ℕ) → AreBefore s vals before → runs g (naming s vals k) (map param_word ps ++ rest)
    ≡ (new_names (in_head g.known) before (param_names ps) >>= λ new. with_params g s (array_params ps) (value_params ps) vals k rest)

some_dimension : (n : ℕ) → (suc n == 0) ≡ false
some_dimension n = go (suc n == 0) refl
  where
    go : (b : Bool) → (suc n == 0) ≡ b → b ≡ false
    go false e = refl
    go true e = let x : suc n ≡ 0 = eqb-true (suc n) 0 e in absurd (omega (arith, x))

one_param : (g : Setting) (ps : List Param) (rest : Words) → OverParams g ps rest → (x : NameAt) (rank : ℕ) (s : Open Name) (vals before : List Name) (k : ℕ)
    → AreBefore s vals before
    → runs g (naming s vals k) (ranked_word x rank ∷ (map param_word ps ++ rest))
    ≡ ((new_name (in_head g.known) before x >>= λ new. new_names (in_head g.known) (x.name ∷ before) (param_names ps)) >>= λ new. with_params g s
    (if rank == 0 then array_params ps else (x.name, rank) ∷ array_params ps) (if rank == 0 then x ∷ value_params ps else value_params ps) vals k rest)
one_param g ps rest ih x zero s vals before k h =
    let others : Result ⊤ Fault = new_names (in_head g.known) (x.name ∷ before) (param_names ps) in
    let L : ⊤ → Result (State Name) Fault = λ new. with_params g s (array_params ps) (x ∷ value_params ps) vals k rest in
    value_param g x s vals before k (map param_word ps ++ rest) h
    ∙ then_equal (new_name (in_head g.known) before x) _ (λ new. others >>= L) (λ new. ih s (x.name ∷ vals) (x.name ∷ before) (k + 1) (value_before s vals before x.name
    h) ∙ then_equal others _ L (λ u. ap (λ (i : ℕ). runs g (naming (record s { arrays = s.arrays ++ array_params ps }) (onto (bare (value_params ps)) (x.name ∷ vals)) i)
    rest) (one_more k (length (value_params ps)))))
    ∙ sym (bind_assoc (new_name (in_head g.known) before x) (λ new. others) L)
one_param g ps rest ih x (suc n) s vals before k h =
    let others : Result ⊤ Fault = new_names (in_head g.known) (x.name ∷ before) (param_names ps) in
    let L : ⊤ → Result (State Name) Fault = λ new. with_params g s ((x.name, suc n) ∷ array_params ps) (value_params ps) vals k rest in
    array_param g x (suc n) s vals before k (map param_word ps ++ rest) h
    ∙ then_equal (new_name (in_head g.known) before x) _ (λ new. others >>= L) (λ new. ih (with_array s x.name (suc n)) vals (x.name ∷ before) k (array_before s vals
    before x.name (suc n) h) ∙ then_equal others _ L (λ u. ap (λ (arrays : List (Name × ℕ)). runs g (naming (record s { arrays = arrays }) (onto (bare
    (value_params ps)) vals) (k + length (value_params ps))) rest) (append_assoc s.arrays ((x.name, suc n) ∷ []) (array_params ps))))
    ∙ sym (bind_assoc (new_name (in_head g.known) before x) (λ new. others) L)
    ∙ ap (λ (b : Bool). (new_name (in_head g.known) before x >>= λ new. others) >>= λ new. with_params g s (if b then array_params ps else (x.name, suc n) ∷ array_params
    ps) (if b then x ∷ value_params ps else value_params ps) vals k rest) (sym (some_dimension n))

params_as : (g : Setting) (ps : List Param) (rest : Words) → OverParams g ps rest
params_as g [] rest s vals before k h = ap (λ (arrays : List (Name × ℕ)). runs g (naming (record s { arrays = arrays }) vals k) rest) (sym (append-nil s.arrays))
    ∙ ap (λ (i : ℕ). runs g (naming (record s { arrays = s.arrays ++ [] }) vals i) rest) (no_more k)
params_as g (p ∷ ps) rest s vals before k h = one_param g ps rest (params_as g ps rest) p.name p.rank s vals before k h

-- RESULTS
abbrev last_of : Setting → Open Name → Option Count → Last Name
last_of g s None = s.last
last_of g s (Some (Written at n)) = record { count = n; at = at; kind = kind.Other }
last_of g s (Some (Constant at x)) = record { count = number_or_zero (constant_of (g.items.item x) at); at = at; kind = kind.Other }

results_as : (g : Setting) (s : Open Name) (r : Option Count) (vals : List Name) (k : ℕ) (ws : Words)
    → runs g (naming s vals k) (result_words r ++ ws) ≡ runs g (naming (record s { last = last_of g s r }) vals k) ws
results_as g s None vals k ws = refl
results_as g s (Some (Written at n)) vals k ws = refl
results_as g s (Some (Constant at x)) vals k ws = refl

count_is : (g : Setting) (s : Open Name) (r : Option Count) → s.last.count ≡ 1 → (last_of g s r).count ≡ results_in g.known r
count_is g s None h = h
count_is g s (Some (Written at n)) h = refl
count_is g s (Some (Constant at x)) h = ap number_or_zero (constants_known g.items.item g.items.ranks g.known g.pins at x)

-- A FUNCTION
function_as : (g : Setting) (f : Function) → FitsBody false f.body → (rest : Words)
    → runs g begun (item_words (Defines f) ++ rest) ≡ (function_checked g.known f >>= λ good. runs g begun rest)
function_as g f fits rest =
    let xs : List Name = bare (value_params f.params) in
    let head : Words = of_core (core_word.Function f.name.at f.name.name) ∷ map param_word f.params in
    let inner : Words = of_core (core_word.Body f.body_at) ∷ body_words f.body in
    let ending : Words = of_core core_word.EndFunction ∷ rest in
    let s0 : Open Name = ended begun 1 f.name.at kind.Other in
    let s1 : Open Name = record s0 { arrays = array_params f.params } in
    let s2 : Open Name = record s1 { last = last_of g s1 f.results } in
    let s3 : Open Name = pushed (record s2 { scope = xs }) (frame.Body s2.last.count f.body_at) in
    let a : Around = record { known = g.known; arrays = array_params f.params } in
    let F : State Name → Result (State Name) Fault = λ u. steps by_bytes g.items u rest in
    let L : ⊤ → Result (State Name) Fault = λ good. runs g begun rest in
    let last : ℕ → Result ⊤ Fault = λ n. must_be (n == results_in g.known f.results) Arity f.body_at in
    ap (runs g begun) (append_assoc ((head ++ result_words f.results) ++ inner) (of_core core_word.EndFunction ∷ []) rest
    ∙ append_assoc (head ++ result_words f.results) inner ending ∙ append_assoc head (result_words f.results) (inner ++ ending))
    ∙ params_as g f.params (result_words f.results ++ (inner ++ ending)) s0 [] [] 0 (λ x. refl)
    ∙ then_equal (new_names (in_head g.known) [] (param_names f.params)) _ (λ new. (body_values a xs f.body >>= last) >>= L)
    (λ new. results_as g s1 f.results (onto xs []) (0 + length (value_params f.params)) (inner ++ ending)
    ∙ ap (λ (z : Open Name). runs g (pushed z (frame.Body s2.last.count f.body_at)) (body_words f.body ++ ending)) (enters s2 xs)
    ∙ ap (λ (scope : List Name). runs g (pushed (record s2 { scope = scope }) (frame.Body s2.last.count f.body_at)) (body_words f.body ++ ending)) (append-nil xs)
    ∙ over_body g f.body false fits s3 ending (record { scope = omega arith; used = omega arith })
    ∙ then_equal (body_values a xs f.body) _ (λ n. last n >>= L) (λ n. ap (λ (c : ℕ). (must_be (n == c) Arity f.body_at >>= λ all. Ok (Plain begun)) >>= F) (count_is g s1
    f.results refl) ∙ bind_assoc (last n) (λ all. Ok (Plain begun)) F)
    ∙ sym (bind_assoc (body_values a xs f.body) last L))
    ∙ sym (bind_assoc (new_names (in_head g.known) [] (param_names f.params)) (λ new. body_values a xs f.body >>= last) L)

-- ITEMS without a body are gone over
goes_over : (g : Setting) (s : Open Name) (ws rest : Words) → list_any ends_item ws ≡ false
    → steps by_bytes g.items (Skipping s) (ws ++ rest) ≡ steps by_bytes g.items (Skipping s) rest
goes_over g s [] rest h = refl
goes_over g s (w ∷ ws) rest h = go (ends_item w) h (λ e. goes_over g s ws rest e)
  where
    go : (b : Bool) → (b || list_any ends_item ws) ≡ false
        → (list_any ends_item ws ≡ false → steps by_bytes g.items (Skipping s) (ws ++ rest) ≡ steps by_bytes g.items (Skipping s) rest)
        → steps by_bytes g.items (if b then Plain s else Skipping s) (ws ++ rest) ≡ steps by_bytes g.items (Skipping s) rest
    go true e later = absurd (cc)
    go false e later = later e

abbrev at_rest : ⊤ → Result (State Name) Fault
at_rest u = Ok (Plain begun)

items_as : (g : Setting) (items : Program) → FitsProgram items → runs g begun (program_words items) ≡ (functions_checked g.known items >>= at_rest)
items_as g [] f = refl
items_as g (Cells x es ∷ items) f = ap (runs g begun) (append_assoc (of_core (core_word.Array x.at x.name) ∷ of_core core_word.List ∷ part_words es) (word.EndArray ∷ [])
    (program_words items))
    ∙ goes_over g begun (of_core core_word.List ∷ part_words es) (word.EndArray ∷ program_words items) (parts_balanced es).inner ∙ items_as g items f.1
items_as g (Const x e ∷ items) f = ap (runs g begun) (append_assoc (word.Constant x.at x.name ∷ words e) (word.EndConstant ∷ []) (program_words items))
    ∙ goes_over g begun (words e) (word.EndConstant ∷ program_words items) (balanced e).inner ∙ items_as g items f.1
items_as g (Defines h ∷ items) f = function_as g h f.0.2 (program_words items)
    ∙ then_equal (function_checked g.known h) _ (λ good. functions_checked g.known items >>= at_rest) (λ good. items_as g items f.1)
    ∙ sym (bind_assoc (function_checked g.known h) (λ good. functions_checked g.known items) at_rest)

-- PROGRAMS
function_is : (ranks : List ℕ) (o : Option Entry) → is_function o ≡ is_some (signature_in ranks o)
function_is ranks (Some (entry.Constant z)) = refl
function_is ranks (Some (entry.Array l)) = refl
function_is ranks (Some (entry.Function a b c)) = refl
function_is ranks None = refl

abbrev done : State Name → Result ⊤ Fault
done s = Ok tt

no_answer : (r : Result ⊤ Fault) → ((r >>= at_rest) >>= done) ≡ r
no_answer (Ok u) = refl
no_answer (Err f) = refl

pub words_are_checked : WordsAreChecked
words_are_checked end p f = go (heads_read by_bytes no_heads (program_words p)) (heads nothing p) (heads_are_read p f)
  where
    go : (r : Result (Heads Name) Fault) (q : Result Known Fault) → ReadAs r q
        → (r >>= λ h. must_be (is_function (h.item main_name)) NoMain end >>= λ there. steps by_bytes (record { item = h.item; ranks = h.ranks }) (Plain begun)
        (program_words p) >>= done) ≡ (q >>= λ known. must_be (is_some (lookup known.functions main_name)) NoMain end >>= λ main. functions_checked known p)
    go (Ok h) (Ok known) a =
        let g : Setting = record { items = record { item = h.item; ranks = h.ranks }; known = known; pins = a.0.pins } in
        ap (λ (b : Bool). must_be b NoMain end >>= λ there. runs g begun (program_words p) >>= done) (function_is h.ranks (h.item main_name) ∙ ap
        (λ (o : Option Signature). is_some o) (a.0.pins.functions main_name))
        ∙ then_equal (must_be (is_some (lookup known.functions main_name)) NoMain end) _ (λ main. functions_checked known p) (λ main. ap
        (λ (r : Result (State Name) Fault). r >>= done) (items_as g p f) ∙ no_answer (functions_checked known p))
    go (Err d) (Err e) a = ap (λ (x : Fault). Err x) a
    go (Ok h) (Err e) a = absurd a
    go (Err d) (Ok known) a = absurd a
