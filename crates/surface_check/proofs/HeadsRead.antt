-- The heads that are read word by word are those of the rules.
use Rattle.std.specs.Prelude.{◌≡◌, refl, ℕ, zero, suc, ◌+◌, ◌-◌, ◌*◌, ◌≤◌, ◌||◌, not, nat_le, nat_lt, Bool, true, false, ℤ, List, [], ◌∷◌, ◌++◌}
use Rattle.std.specs.Prelude.{length, map, take, drop, is_some, Option, None, Some, Result, Ok, Err, ⊤, if◌then◌else◌}
use Rattle.std.specs.List.{list_any}
use Rattle.std.proofs.Common.{◌∙◌, ap, sym, subst, arith, append_assoc, append-nil}
use Rattle.std.proofs.lemmas.Bool.{lt-ltb, le-ltb, leb-true}
use Rattle.std.proofs.lemmas.List.{length-append}
use Rattle.std.proofs.Math.Seq.{drop-append_seam}
use Rattle.source.specs.declared.fault.FaultKind.{FaultKind as CoreKind}
use Rattle.source.specs.declared.fault.FaultKind.TheVariants.{SameName, TooMany}
use Rattle.source.specs.declared.word.Word.TheVariants as core_word
use Rattle.semantics.specs.Graph.{same_name}
use Rattle.semantics.proofs.Lines.{same_name_is}
use Rattle.source.specs.Tree.{Name, NameAt}
use Rattle.source.specs.Outside.{is_in}
use Rattle.source.specs.Rules.{main_name}
use Rattle.surface.specs.declared.fault.Fault.{Fault}
use Rattle.surface.specs.declared.fault.FaultKind.TheVariants.{BadArray}
use Rattle.surface.specs.declared.word.Word.{Word}
use Rattle.surface.specs.declared.word.Word.TheVariants as word
use Rattle.surface.specs.Tree.{Count, Written, Constant, Expr, Exprs, One, More, Param, Function, Item, Cells, Const, Defines, Program}
use Rattle.surface.specs.Fits.{count, Fits, FitsAll, FitsItem, FitsProgram}
use Rattle.surface.specs.Words.{Words, of_core, words, part_words, body_words, ranked_word, param_word, result_words, item_words, program_words}
use Rattle.surface.specs.First.{◌>>=◌, must, must_be}
use Rattle.surface.specs.Known.{Known, nothing, lookup, product, some_value, built_in}
use Rattle.surface.specs.Constants.{constant_named, constant}
use Rattle.surface.specs.Rules.{few_params, good_params, ranks, results_of, length_of, lengths_of, last_place, head, heads}
use Rattle.surface_check.specs.declared.entry.Entry.{Entry}
use Rattle.surface_check.specs.declared.entry.Entry.TheVariants as entry
use Rattle.surface_check.specs.declared.evaluation.Part.{Part}
use Rattle.surface_check.specs.declared.heads.Head.{Head}
use Rattle.surface_check.specs.declared.heads.Head.TheVariants as open_head
use Rattle.surface_check.specs.declared.heads.FunctionHead.{FunctionHead}
use Rattle.surface_check.specs.Evaluates.{Evaluation, fresh, evaluates, evaluate, constant_of, constants}
use Rattle.surface_check.specs.Heads.{Names, Heads, no_heads, with_item, ends_item, step_in, heads_read, lengths_from, last_part, shape, lengths_in, array_ends}
use Rattle.surface_check.specs.Heads.{is_good_rank, first_refused, parameter, number_of_results, unless_refused, head_ends}
use Rattle.surface_check.specs.Pins.{constant_in, array_in, signature_in, Pins}
use Rattle.surface_check.proofs.Balanced.{balanced, parts_balanced, body_balanced}
use Rattle.surface_check.proofs.Evaluated.{settled, evaluated_to, parts_of, parts_are}

-- names by their bytes
abbrev pub by_bytes : Names Name
by_bytes = record { same = same_name; is_main = λ f. same_name f main_name; built_in = built_in }

abbrev pub IsWithin : ℕ → Option Entry → Type 0
IsWithin n (Some (entry.Function first params results)) = first + params ≤ n
IsWithin n o = ⊤

pub record KnowsAll (item : Name → Option Entry) (ranks : List ℕ) (arrays cells : ℕ) (known : Known) : Type 0 where
  pub pins : Pins item ranks known
  pub within : (x : Name) → IsWithin (length ranks) (item x)
  pub arrays_are : arrays ≡ length known.arrays
  pub cells_are : cells ≡ known.cells

pub nothing_known : KnowsAll (λ x. None) [] 0 0 nothing
nothing_known = record {
  pins = record { constants = λ x. refl; arrays = λ x. refl; functions = λ x. refl; names = λ x. refl };
  within = λ x. tt;
  arrays_are = refl;
  cells_are = refl;
}

-- CONSTANTS by their names
one_constant : (known : Known) (x : Name) (at : ℕ) (o : Option Entry) → constant_in o ≡ lookup known.constants x → is_some o ≡ is_in x known.names
    → constant_of o at ≡ constant_named known at x
one_constant known x at (Some (entry.Constant z)) p q = rw (sym p) refl
one_constant known x at (Some (entry.Array l)) p q = rw (sym p, sym q) refl
one_constant known x at (Some (entry.Function a b c)) p q = rw (sym p, sym q) refl
one_constant known x at None p q = rw (sym p, sym q) refl

pub constants_known : (item : Name → Option Entry) (ranks : List ℕ) (known : Known) → Pins item ranks known → (at : ℕ) (x : Name)
    → constants item at x ≡ constant_named known at x
constants_known item ranks known p at x = one_constant known x at (item x) (p.constants x) (p.names x)

-- ONE MORE ITEM
none_there : (o : Option Entry) → is_some o ≡ false → o ≡ None
none_there None h = refl
none_there (Some e) h = absurd (cc)

unseen : (item : Name → Option Entry) (ranks : List ℕ) (known : Known) → Pins item ranks known → (x y : Name) → is_in x known.names ≡ false
    → same_name y x ≡ true → item y ≡ None
unseen item ranks known p x y new e =
    none_there (item y) (p.names y ∙ ap (λ (z : Name). is_in z known.names) (same_name_is y x e) ∙ new)

-- a list in which the name has no entry stays as it is
stays : {A : Type 0} (item : Name → Option Entry) (ranks : List ℕ) (known : Known) → Pins item ranks known → (x y : Name) → is_in x known.names ≡ false
    → (f : Option Entry → Option A) (e : Entry) (now : Option A) → f (Some e) ≡ None → f None ≡ None → f (item y) ≡ now
    → f (with_item same_name item x e y) ≡ now
stays {A} item ranks known p x y new f e now some none h = go (same_name y x) refl
  where
    go : (b : Bool) → same_name y x ≡ b → f (if b then Some e else item y) ≡ now
    go true t = some ∙ sym none ∙ ap f (sym (unseen item ranks known p x y new t)) ∙ h
    go false t = h

grows : {A : Type 0} (item : Name → Option Entry) (x y : Name) (f : Option Entry → Option A) (e : Entry) (v : A) (others : Option A) → f (Some e) ≡ Some v
    → f (item y) ≡ others → f (with_item same_name item x e y) ≡ (if same_name y x then Some v else others)
grows {A} item x y f e v others some h = go (same_name y x)
  where
    go : (b : Bool) → f (if b then Some e else item y) ≡ (if b then Some v else others)
    go true = some
    go false = h

name_grows : (item : Name → Option Entry) (x y : Name) (e : Entry) (b : Bool) → is_some (item y) ≡ b
    → is_some (with_item same_name item x e y) ≡ (same_name y x || b)
name_grows item x y e b h = go (same_name y x)
  where
    go : (c : Bool) → is_some (if c then Some e else item y) ≡ (c || b)
    go true = refl
    go false = h

within_grows : (item : Name → Option Entry) (n : ℕ) (x y : Name) (e : Entry) → IsWithin n (Some e) → IsWithin n (item y)
    → IsWithin n (with_item same_name item x e y)
within_grows item n x y e h i = go (same_name y x)
  where
    go : (b : Bool) → IsWithin n (if b then Some e else item y)
    go true = h
    go false = i

abbrev with_cells : Known → Name → List ℕ → Known
with_cells known x ns = record {
  names = x ∷ known.names;
  constants = known.constants;
  arrays = (x, ns) ∷ known.arrays;
  functions = known.functions;
  cells = known.cells + product ns;
}

abbrev with_constant : Known → Name → ℤ → Known
with_constant known x z = record {
  names = x ∷ known.names;
  constants = (x, z) ∷ known.constants;
  arrays = known.arrays;
  functions = known.functions;
  cells = known.cells;
}

abbrev with_function : Known → Name → List ℕ → ℕ → Known
with_function known f rs n = record {
  names = f ∷ known.names;
  constants = known.constants;
  arrays = known.arrays;
  functions = (f, record { ranks = rs; results = n }) ∷ known.functions;
  cells = known.cells;
}

knows_cells : (item : Name → Option Entry) (rs : List ℕ) (arrays cells : ℕ) (known : Known) → KnowsAll item rs arrays cells known → (x : Name) (ns : List ℕ)
    → is_in x known.names ≡ false → lengths_in (shape ns) ≡ ns
    → KnowsAll (with_item same_name item x (entry.Array (shape ns))) rs (arrays + 1) (cells + product ns) (with_cells known x ns)
knows_cells item rs arrays cells known k x ns new e = record {
  pins = record {
    constants = λ y. stays item rs known k.pins x y new constant_in (entry.Array (shape ns)) (lookup known.constants y) refl refl (k.pins.constants y);
    arrays = λ y. grows item x y array_in (entry.Array (shape ns)) ns (lookup known.arrays y) (ap Some e) (k.pins.arrays y);
    functions = λ y. stays item rs known k.pins x y new (signature_in rs) (entry.Array (shape ns)) (lookup known.functions y) refl refl (k.pins.functions y);
    names = λ y. name_grows item x y (entry.Array (shape ns)) (is_in y known.names) (k.pins.names y);
  };
  within = λ y. within_grows item (length rs) x y (entry.Array (shape ns)) tt (k.within y);
  arrays_are = omega (arith, k.arrays_are);
  cells_are = ap (λ (n : ℕ). n + product ns) k.cells_are;
}

knows_constant : (item : Name → Option Entry) (rs : List ℕ) (arrays cells : ℕ) (known : Known) → KnowsAll item rs arrays cells known → (x : Name) (z : ℤ)
    → is_in x known.names ≡ false → KnowsAll (with_item same_name item x (entry.Constant z)) rs arrays cells (with_constant known x z)
knows_constant item rs arrays cells known k x z new = record {
  pins = record {
    constants = λ y. grows item x y constant_in (entry.Constant z) z (lookup known.constants y) refl (k.pins.constants y);
    arrays = λ y. stays item rs known k.pins x y new array_in (entry.Constant z) (lookup known.arrays y) refl refl (k.pins.arrays y);
    functions = λ y. stays item rs known k.pins x y new (signature_in rs) (entry.Constant z) (lookup known.functions y) refl refl (k.pins.functions y);
    names = λ y. name_grows item x y (entry.Constant z) (is_in y known.names) (k.pins.names y);
  };
  within = λ y. within_grows item (length rs) x y (entry.Constant z) tt (k.within y);
  arrays_are = k.arrays_are;
  cells_are = k.cells_are;
}

-- ranks that are there stay there
slice_stays : (xs ys : List ℕ) (first n : ℕ) → first + n ≤ length xs → take n (drop first (xs ++ ys)) ≡ take n (drop first xs)
slice_stays xs ys zero zero h = refl
slice_stays [] ys zero (suc n) h = absurd (omega (arith, h))
slice_stays (x ∷ xs) ys zero (suc n) h = ap (λ (zs : List ℕ). x ∷ zs) (slice_stays xs ys zero n (omega (arith, h)))
slice_stays [] ys (suc first) n h = absurd (omega (arith, h))
slice_stays (x ∷ xs) ys (suc first) n h = slice_stays xs ys first n (omega (arith, h))

signature_stays : (rs more : List ℕ) (o : Option Entry) → IsWithin (length rs) o → signature_in (rs ++ more) o ≡ signature_in rs o
signature_stays rs more (Some (entry.Function first n results)) h = ap (λ (zs : List ℕ). Some (record { ranks = zs; results = results }))
    (slice_stays rs more first n h)
signature_stays rs more (Some (entry.Constant z)) h = refl
signature_stays rs more (Some (entry.Array l)) h = refl
signature_stays rs more None h = refl

within_more : (n m : ℕ) (o : Option Entry) → n ≤ m → IsWithin n o → IsWithin m o
within_more n m (Some (entry.Function first k results)) h w = omega (arith, h, w)
within_more n m (Some (entry.Constant z)) h w = tt
within_more n m (Some (entry.Array l)) h w = tt
within_more n m None h w = tt

take_all : (xs : List ℕ) → take (length xs) xs ≡ xs
take_all [] = refl
take_all (x ∷ xs) = ap (λ (zs : List ℕ). x ∷ zs) (take_all xs)

above : (rs more : List ℕ) → length (rs ++ more) - length rs ≡ length more
above rs more = omega (arith, length-append rs more)

new_slice : (rs more : List ℕ) → take (length (rs ++ more) - length rs) (drop (length rs) (rs ++ more)) ≡ more
new_slice rs more = rw (above rs more, drop-append_seam rs more) (take_all more)

knows_function : (item : Name → Option Entry) (rs : List ℕ) (arrays cells : ℕ) (known : Known) → KnowsAll item rs arrays cells known → (f : Name)
    (more : List ℕ) (n : ℕ) → is_in f known.names ≡ false
    → KnowsAll (with_item same_name item f (entry.Function (length rs) (length (rs ++ more) - length rs) n)) (rs ++ more) arrays cells
    (with_function known f more n)
knows_function item rs arrays cells known k f more n new =
    let e : Entry = entry.Function (length rs) (length (rs ++ more) - length rs) n in
    record {
      pins = record {
        constants = λ y. stays item rs known k.pins f y new constant_in e (lookup known.constants y) refl refl (k.pins.constants y);
        arrays = λ y. stays item rs known k.pins f y new array_in e (lookup known.arrays y) refl refl (k.pins.arrays y);
        functions = λ y. grows item f y (signature_in (rs ++ more)) e (record { ranks = more; results = n }) (lookup known.functions y)
            (ap (λ (zs : List ℕ). Some (record { ranks = zs; results = n })) (new_slice rs more))
            (signature_stays rs more (item y) (k.within y) ∙ k.pins.functions y);
        names = λ y. name_grows item f y e (is_in y known.names) (k.pins.names y);
      };
      within = λ y. within_grows item (length (rs ++ more)) f y e (omega (arith, length-append rs more)) (within_more (length rs) (length (rs ++ more))
          (item y) (omega (arith, length-append rs more)) (k.within y));
      arrays_are = k.arrays_are;
      cells_are = k.cells_are;
    }

-- WORDS ONE AFTER ANOTHER
first_step : (ws vs : Words) → ((h : Heads Name) → heads_read by_bytes h (ws ++ vs) ≡ (heads_read by_bytes h ws >>= λ u. heads_read by_bytes u vs))
    → (r : Result (Heads Name) Fault) → (r >>= λ u. heads_read by_bytes u (ws ++ vs)) ≡ ((r >>= λ u. heads_read by_bytes u ws) >>= λ u. heads_read by_bytes u vs)
first_step ws vs h (Ok s) = h s
first_step ws vs h (Err e) = refl

heads_append : (ws vs : Words) (h : Heads Name) → heads_read by_bytes h (ws ++ vs) ≡ (heads_read by_bytes h ws >>= λ u. heads_read by_bytes u vs)
heads_append [] vs h = refl
heads_append (w ∷ ws) vs h = first_step ws vs (heads_append ws vs) (step_in by_bytes h h.open_head w)

abbrev within_item : Heads Name → Head Name → Evaluation → Heads Name
within_item h o c = record h { open_head = o; evaluation = c }

abbrev Evaluates : Heads Name → Head Name → Type 0
Evaluates h o = (c : Evaluation) (w : Word Name) → ends_item w ≡ false
    → step_in by_bytes (within_item h o c) o w ≡ Ok (within_item h o (evaluates (constants h.item) c w))

through : (h : Heads Name) (o : Head Name) → Evaluates h o → (ws vs : Words) (c : Evaluation) → list_any ends_item ws ≡ false
    → heads_read by_bytes (within_item h o c) (ws ++ vs) ≡ heads_read by_bytes (within_item h o (evaluate (constants h.item) c ws)) vs
through h o s [] vs c n = refl
through h o s (w ∷ ws) vs c n = go (ends_item w) refl n (λ m. through h o s ws vs (evaluates (constants h.item) c w) m)
  where
    go : (b : Bool) → ends_item w ≡ b → (b || list_any ends_item ws) ≡ false
        → (list_any ends_item ws ≡ false → heads_read by_bytes (within_item h o (evaluates (constants h.item) c w)) (ws ++ vs)
        ≡ heads_read by_bytes (within_item h o (evaluate (constants h.item) (evaluates (constants h.item) c w) ws)) vs)
        → (step_in by_bytes (within_item h o c) o w >>= λ u. heads_read by_bytes u (ws ++ vs))
        ≡ heads_read by_bytes (within_item h o (evaluate (constants h.item) (evaluates (constants h.item) c w) ws)) vs
    go true e m later = absurd (cc)
    go false e m later = ap (λ (r : Result (Heads Name) Fault). r >>= λ u. heads_read by_bytes u (ws ++ vs)) (s c w e) ∙ later m

in_array_evaluates : (h : Heads Name) (at : ℕ) (x : Name) → Evaluates h (open_head.Array at x)
in_array_evaluates h at x c w e = rw e refl

in_constant_evaluates : (h : Heads Name) (x : Name) → Evaluates h (open_head.Constant x)
in_constant_evaluates h x c w e = rw e refl

abbrev in_a_body : Heads Name → Heads Name
in_a_body h = record h { open_head = open_head.Body }

body_through : (h : Heads Name) (ws vs : Words) → list_any ends_item ws ≡ false
    → heads_read by_bytes (in_a_body h) (ws ++ vs) ≡ heads_read by_bytes (in_a_body h) vs
body_through h [] vs n = refl
body_through h (w ∷ ws) vs n = go (ends_item w) n (λ m. body_through h ws vs m)
  where
    go : (b : Bool) → (b || list_any ends_item ws) ≡ false
        → (list_any ends_item ws ≡ false → heads_read by_bytes (in_a_body h) (ws ++ vs) ≡ heads_read by_bytes (in_a_body h) vs)
        → heads_read by_bytes (if b then record (in_a_body h) { open_head = open_head.Outside } else in_a_body h) (ws ++ vs) ≡ heads_read by_bytes
        (in_a_body h) vs
    go true m later = absurd (cc)
    go false m later = later m

-- WHAT IS READ
abbrev pub ReadAs : Result (Heads Name) Fault → Result Known Fault → Type 0
ReadAs (Ok h) (Ok known) = KnowsAll h.item h.ranks h.arrays h.cells known × (h.open_head ≡ open_head.Outside)
ReadAs (Err f) (Err g) = f ≡ g
ReadAs r q = ⊥

abbrev at_rest : Heads Name → Heads Name
at_rest h = record h { open_head = open_head.Outside }

one_tested : (b : Bool) (kind : CoreKind) (at : ℕ) (s : Heads Name) (ws : Words) (q : Result Known Fault) → (b ≡ true → ReadAs (heads_read by_bytes s ws) q)
    → ReadAs ((must_be b kind at >>= λ new. Ok s) >>= λ u. heads_read by_bytes u ws) (must_be b kind at >>= λ new. q)
one_tested true kind at s ws q h = h refl
one_tested false kind at s ws q h = refl

two_tested : (b c d : Bool) (kind other : CoreKind) (at : ℕ) (s : Heads Name) (ws : Words) (q : Result Known Fault) → c ≡ d
    → (b ≡ true → ReadAs (heads_read by_bytes s ws) q)
    → ReadAs ((must_be b kind at >>= λ new. must_be c other at >>= λ few. Ok s) >>= λ u. heads_read by_bytes u ws) (must_be b kind at >>= λ new. must_be d
    other at >>= λ few. q)
two_tested true true true kind other at s ws q e h = h refl
two_tested true false false kind other at s ws q e h = refl
two_tested true true false kind other at s ws q e h = absurd (cc)
two_tested true false true kind other at s ws q e h = absurd (cc)
two_tested false c d kind other at s ws q e h = refl

not_there : (b : Bool) → not b ≡ true → b ≡ false
not_there true h = absurd (cc)
not_there false h = refl

-- ARRAYS
count_is : (known : Known) (es : Exprs) → length (parts_of known es) ≡ count es
count_is known (One e) = refl
count_is known (More e es) = ap suc (count_is known es)

then_equal : {A B : Type 0} (r : Result A Fault) (f g : A → Result B Fault) → ((x : A) → f x ≡ g x) → (r >>= f) ≡ (r >>= g)
then_equal (Ok x) f g h = h x
then_equal (Err e) f g h = refl

lengths_are : (known : Known) (before : ℕ) (es : Exprs) → lengths_from before (parts_of known es) ≡ lengths_of known before es
lengths_are known before (One e) = refl
lengths_are known before (More e es) = then_equal (length_of known before e) _ _ (λ n. ap (λ (r : Result (List ℕ) Fault). r >>= λ ns. Ok (n ∷ ns))
    (lengths_are known (before * n) es))

last_is : (known : Known) (es : Exprs) → last_part (parts_of known es) ≡ last_place es
last_is known (One e) = refl
last_is known (More e (One d)) = refl
last_is known (More e (More d es)) = last_is known (More d es)

ok_same : {A : Type 0} (x y : A) → Path (Result A Fault) (Ok x) (Ok y) → x ≡ y
ok_same x y h = cc

sized : (known : Known) (before : ℕ) (es : Exprs) (ns : List ℕ) → lengths_of known before es ≡ Ok ns → length ns ≡ count es
sized known before (One e) ns h = go (length_of known before e) h
  where
    go : (r : Result ℕ Fault) → (r >>= λ n. Ok (n ∷ [])) ≡ Ok ns → length ns ≡ 1
    go (Ok n) i = ap length (sym (ok_same (n ∷ []) ns i))
    go (Err f) i = absurd (cc)
sized known before (More e es) ns h = go (λ n ms. sized known (before * n) es ms) (length_of known before e) h
  where
    more : (n : ℕ) → ((ms : List ℕ) → lengths_of known (before * n) es ≡ Ok ms → length ms ≡ count es) → (r : Result (List ℕ) Fault)
        → lengths_of known (before * n) es ≡ r → (r >>= λ ms. Ok (n ∷ ms)) ≡ Ok ns → length ns ≡ suc (count es)
    more n later (Ok ms) e i = ap length (sym (ok_same (n ∷ ms) ns i)) ∙ ap suc (later ms e)
    more n later (Err f) e i = absurd (cc)

    go : ((n : ℕ) (ms : List ℕ) → lengths_of known (before * n) es ≡ Ok ms → length ms ≡ count es) → (r : Result ℕ Fault)
        → (r >>= λ n. lengths_of known (before * n) es >>= λ ms. Ok (n ∷ ms)) ≡ Ok ns → length ns ≡ suc (count es)
    go later (Ok n) i = more n (later n) (lengths_of known (before * n) es) refl i
    go later (Err f) i = absurd (cc)

positive : (es : Exprs) → 1 ≤ count es
positive (One e) = omega arith
positive (More e es) = omega (arith, positive es)

shaped : (ns : List ℕ) → 1 ≤ length ns → length ns ≤ 3 → lengths_in (shape ns) ≡ ns
shaped [] p q = absurd (omega (arith, p))
shaped (a ∷ []) p q = refl
shaped (a ∷ b ∷ []) p q = refl
shaped (a ∷ b ∷ c ∷ []) p q = refl
shaped (a ∷ b ∷ c ∷ d ∷ ns) p q = absurd (omega (arith, q))

abbrev array_done : Heads Name → ℕ → Name → ℕ → Result (List ℕ) Fault → ℕ → Result (Heads Name) Fault
array_done h at x n r last = do
  flat ← must (nat_le n 3) BadArray at
  ns ← r
  room ← must_be (nat_le (h.cells + product ns) 65536) TooMany last
  Ok record h {
    item = with_item same_name h.item x (entry.Array (shape ns));
    arrays = h.arrays + 1;
    cells = h.cells + product ns;
    open_head = open_head.Outside;
  }

abbrev cells_known : Known → ℕ → Name → ℕ → Result (List ℕ) Fault → ℕ → Result Known Fault
cells_known known at x n r last = do
  flat ← must (nat_le n 3) BadArray at
  ns ← r
  room ← must_be (nat_le (known.cells + product ns) 65536) TooMany last
  Ok (with_cells known x ns)

array_good : (h : Heads Name) (known : Known) → KnowsAll h.item h.ranks h.arrays h.cells known → (at : ℕ) (x : Name) (es : Exprs) (last : ℕ)
    → is_in x known.names ≡ false → (b : Bool) → nat_le (count es) 3 ≡ b → (r : Result (List ℕ) Fault) → lengths_of known 1 es ≡ r
    → ReadAs (array_done h at x (count es) r last >>= λ u. Ok u) (cells_known known at x (count es) r last)
array_good h known k at x es last new false e r f = rw e refl
array_good h known k at x es last new true e (Err fault) f = rw e refl
array_good h known k at x es last new true e (Ok ns) f = rw (e, k.cells_are) (go (nat_le (known.cells + product ns) 65536))
  where
    right : lengths_in (shape ns) ≡ ns
    right = shaped ns (omega (arith, positive es, sized known 1 es ns f)) (omega (arith, leb-true (count es) 3 e, sized known 1 es ns f))

    go : (c : Bool) → ReadAs ((must_be c TooMany last >>= λ room. Ok record h {
      item = with_item same_name h.item x (entry.Array (shape ns));
      arrays = h.arrays + 1;
      cells = known.cells + product ns;
      open_head = open_head.Outside;
    }) >>= λ u. Ok u) (must_be c TooMany last >>= λ room. Ok (with_cells known x ns))
    go true = (
      subst (λ (n : ℕ). KnowsAll (with_item same_name h.item x (entry.Array (shape ns))) h.ranks (h.arrays + 1) (n + product ns)
          (with_cells known x ns)) k.cells_are (knows_cells h.item h.ranks h.arrays h.cells known k x ns new right),
      refl,
    )
    go false = refl

array_read : (h : Heads Name) (known : Known) → KnowsAll h.item h.ranks h.arrays h.cells known → (x : NameAt) (es : Exprs) → FitsAll es
    → is_in x.name known.names ≡ false
    → ReadAs (heads_read by_bytes (within_item h (open_head.Array x.at x.name) (fresh 0)) (of_core core_word.List ∷ (part_words es ++ word.EndArray ∷ [])))
    (cells_known known x.at x.name (count es) (lengths_of known 1 es) (last_place es))
array_read h known k x es f new =
    let o : Head Name = open_head.Array x.at x.name in
    let K : ℕ → Name → Result ℤ Fault = constants h.item in
    let W : Heads Name = within_item h o (evaluate K (fresh 0) (of_core core_word.List ∷ part_words es)) in
    let e : heads_read by_bytes (within_item h o (fresh 0)) (of_core core_word.List ∷ (part_words es ++ word.EndArray ∷ [])) ≡ (array_ends by_bytes W x.at
    x.name (parts_of known es) >>= λ u. Ok u) =
    through h o (in_array_evaluates h x.at x.name) (of_core core_word.List ∷ part_words es) (word.EndArray ∷ []) (fresh 0) (parts_balanced es).inner
    ∙ ap (λ (ps : List Part). array_ends by_bytes W x.at x.name ps >>= λ u. Ok u) (parts_are K known (constants_known h.item h.ranks known k.pins) es f
    (fresh 0)) in
    let g : (array_ends by_bytes W x.at x.name (parts_of known es) >>= λ u. Ok u) ≡ (array_done W x.at x.name (count es) (lengths_of known 1 es)
    (last_place es) >>= λ u. Ok u) = rw (sym (count_is known es), sym (lengths_are known 1 es), sym (last_is known es)) refl in
    subst (λ (r : Result (Heads Name) Fault). ReadAs r (cells_known known x.at x.name (count es) (lengths_of known 1 es) (last_place es))) (sym (e ∙ g))
    (array_good W known k x.at x.name es (last_place es) new (nat_le (count es) 3) refl (lengths_of known 1 es) refl)

-- CONSTANTS
abbrev constant_done : Heads Name → Name → Result ℤ Fault → Result (Heads Name) Fault
constant_done h x value = do
  z ← value
  Ok record h { item = with_item same_name h.item x (entry.Constant z); open_head = open_head.Outside }

constant_good : (h : Heads Name) (known : Known) → KnowsAll h.item h.ranks h.arrays h.cells known → (x : Name) → is_in x known.names ≡ false
    → (r : Result ℤ Fault) → ReadAs (constant_done h x r >>= λ u. Ok u) (r >>= λ z. Ok (with_constant known x z))
constant_good h known k x new (Ok z) = (knows_constant h.item h.ranks h.arrays h.cells known k x z new, refl)
constant_good h known k x new (Err f) = refl

constant_read : (h : Heads Name) (known : Known) → KnowsAll h.item h.ranks h.arrays h.cells known → (x : Name) (e : Expr) → Fits e
    → is_in x known.names ≡ false
    → ReadAs (heads_read by_bytes (within_item h (open_head.Constant x) (fresh 1)) (words e ++ word.EndConstant ∷ [])) (constant known e >>= λ z. Ok
    (with_constant known x z))
constant_read h known k x e f new =
    let o : Head Name = open_head.Constant x in
    let K : ℕ → Name → Result ℤ Fault = constants h.item in
    let W : Heads Name = within_item h o (evaluate K (fresh 1) (words e)) in
    let there : W.evaluation.last.value ≡ constant known e = ap (λ (c : Evaluation). c.last.value) (evaluated_to K known (constants_known h.item h.ranks known
    k.pins) e f (fresh 1) (omega arith)) ∙ settled known e f in
    let g : heads_read by_bytes (within_item h o (fresh 1)) (words e ++ word.EndConstant ∷ []) ≡ (constant_done W x (constant known e) >>= λ u. Ok u) =
    through h o (in_constant_evaluates h x) (words e) (word.EndConstant ∷ []) (fresh 1) (balanced e).inner
    ∙ ap (λ (r : Result ℤ Fault). constant_done W x r >>= λ u. Ok u) there in
    subst (λ (r : Result (Heads Name) Fault). ReadAs r (constant known e >>= λ z. Ok (with_constant known x z))) (sym g)
    (constant_good W known k x new (constant known e))

-- FUNCTIONS
abbrev reading : Heads Name → ℕ → Name → List ℕ → Option Fault → Result ℕ Fault → Heads Name
reading h at f rs o results = record h {
  ranks = h.ranks ++ rs;
  open_head = open_head.Function (record { at = at; name = f; first = length h.ranks; refused = o; results = results });
}

abbrev refused_after : Name → Option Fault → List Param → Option Fault
refused_after f o [] = o
refused_after f o (p ∷ ps) = refused_after f (first_refused o (is_good_rank by_bytes f p.rank) p.name.at) ps

refused_are : (f : Name) (o : Option Fault) (ps : List Param) → unless_refused (refused_after f o ps) ≡ (unless_refused o >>= λ u. good_params f ps)
refused_are f None [] = refl
refused_are f (Some fault) [] = refl
refused_are f o (p ∷ ps) = refused_are f (first_refused o (is_good_rank by_bytes f p.rank) p.name.at) ps ∙ go o (is_good_rank by_bytes f p.rank)
  where
    go : (c : Option Fault) (b : Bool) → (unless_refused (first_refused c b p.name.at) >>= λ u. good_params f ps) ≡ (unless_refused c >>= λ u. must b BadArray
        p.name.at >>= λ good. good_params f ps)
    go (Some fault) b = refl
    go None true = refl
    go None false = refl

abbrev in_head : Heads Name → FunctionHead Name → Heads Name
in_head s f = record s { open_head = open_head.Function f }

one_param : (s : Heads Name) (f : FunctionHead Name) (x : NameAt) (rank : ℕ) (ws : Words)
    → heads_read by_bytes (in_head s f) (ranked_word x rank ∷ ws) ≡ (parameter by_bytes (in_head s f) f x.at rank >>= λ u. heads_read by_bytes u ws)
one_param s f x zero ws = refl
one_param s f x (suc n) ws = refl

too_many : (s : Heads Name) (f : FunctionHead Name) (at rank : ℕ) → nat_lt (length s.ranks - f.first) 16 ≡ false
    → parameter by_bytes s f at rank ≡ (must_be false TooMany at >>= λ few. Ok s)
too_many s f at rank e = rw e refl

one_more : (s : Heads Name) (f : FunctionHead Name) (at rank : ℕ) → nat_lt (length s.ranks - f.first) 16 ≡ true
    → parameter by_bytes s f at rank ≡ Ok record s {
      ranks = s.ranks ++ rank ∷ [];
      open_head = open_head.Function (record f { refused = first_refused f.refused (is_good_rank by_bytes f.name rank) at });
    }
one_more s f at rank e = rw e refl

params_read : (h : Heads Name) (at : ℕ) (f : Name) (m : ℕ) (ps : List Param) (rs : List ℕ) (o : Option Fault) → length rs + m ≡ 16 → (vs : Words)
    → heads_read by_bytes (reading h at f rs o (Ok 1)) (map param_word ps ++ vs)
    ≡ (few_params (drop m ps) >>= λ few. heads_read by_bytes (reading h at f (rs ++ ranks ps) (refused_after f o ps) (Ok 1)) vs)
params_read h at f zero [] rs o e vs = ap (λ (us : List ℕ). heads_read by_bytes (reading h at f us o (Ok 1)) vs) (sym (append-nil rs))
params_read h at f (suc m) [] rs o e vs = ap (λ (us : List ℕ). heads_read by_bytes (reading h at f us o (Ok 1)) vs) (sym (append-nil rs))
params_read h at f zero (p ∷ ps) rs o e vs =
    let fh : FunctionHead Name = record { at = at; name = f; first = length h.ranks; refused = o; results = Ok 1 } in
    one_param (reading h at f rs o (Ok 1)) fh p.name p.rank (map param_word ps ++ vs)
    ∙ ap (λ (r : Result (Heads Name) Fault). r >>= λ u. heads_read by_bytes u (map param_word ps ++ vs)) (too_many (reading h at f rs o (Ok 1)) fh p.name.at
    p.rank (le-ltb (length (h.ranks ++ rs) - length h.ranks) 16 (omega (arith, e, above h.ranks rs))))
params_read h at f (suc m) (p ∷ ps) rs o e vs =
    let fh : FunctionHead Name = record { at = at; name = f; first = length h.ranks; refused = o; results = Ok 1 } in
    let ws : Words = map param_word ps ++ vs in
    let next : Option Fault = first_refused o (is_good_rank by_bytes f p.rank) p.name.at in
    one_param (reading h at f rs o (Ok 1)) fh p.name p.rank ws
    ∙ ap (λ (r : Result (Heads Name) Fault). r >>= λ u. heads_read by_bytes u ws) (one_more (reading h at f rs o (Ok 1)) fh p.name.at
    p.rank (lt-ltb (length (h.ranks ++ rs) - length h.ranks) 16 (omega (arith, e, above h.ranks rs))))
    ∙ ap (λ (us : List ℕ). heads_read by_bytes (record (reading h at f rs next (Ok 1)) { ranks = us }) ws) (append_assoc h.ranks rs (p.rank ∷ []))
    ∙ params_read h at f m ps (rs ++ p.rank ∷ []) next (omega (arith, e, length-append rs (p.rank ∷ []))) vs
    ∙ ap (λ (us : List ℕ). few_params (drop m ps) >>= λ few. heads_read by_bytes (reading h at f us (refused_after f next ps) (Ok 1)) vs) (append_assoc rs
    (p.rank ∷ []) (ranks ps))

results_are : (h : Heads Name) (known : Known) → Pins h.item h.ranks known → (at : ℕ) (f : Name) (rs : List ℕ) (o : Option Fault) (results : Option Count)
    (vs : Words) → heads_read by_bytes (reading h at f rs o (Ok 1)) (result_words results ++ vs) ≡ heads_read by_bytes (reading h at f rs o (results_of known
    results)) vs
results_are h known p at f rs o None vs = refl
results_are h known p at f rs o (Some (Written m n)) vs = refl
results_are h known p at f rs o (Some (Constant m x)) vs = ap (λ (v : Result ℤ Fault). heads_read by_bytes (reading h at f rs o (number_of_results m v)) vs)
    (constants_known h.item h.ranks known p m x)

function_known : (h : Heads Name) (known : Known) → KnowsAll h.item h.ranks h.arrays h.cells known → (at : ℕ) (f : Name) (rs : List ℕ) (o : Option Fault)
    (r : Result ℕ Fault) (ws : Words) → list_any ends_item ws ≡ false → is_in f known.names ≡ false
    → ReadAs (head_ends by_bytes (reading h at f rs o r) (record { at = at; name = f; first = length h.ranks; refused = o; results = r }) >>= λ u. heads_read
    by_bytes u (ws ++ of_core core_word.EndFunction ∷ []))
    (unless_refused o >>= λ good. must (some_value rs) BadArray at >>= λ value. r >>= λ n. Ok (with_function known f rs n))
function_known h known k at f rs (Some fault) r ws i new = refl
function_known h known k at f rs None r ws i new = rw (drop-append_seam h.ranks rs) (go (some_value rs) r)
  where
    last : (n : ℕ) → Heads Name
    last n = record (reading h at f rs None r) {
      item = with_item same_name h.item f (entry.Function (length h.ranks) (length (h.ranks ++ rs) - length h.ranks) n);
    }

    go : (b : Bool) (q : Result ℕ Fault) → ReadAs ((must b BadArray at >>= λ value. q >>= λ n. Ok (in_a_body (last n))) >>= λ u. heads_read by_bytes u
        (ws ++ of_core core_word.EndFunction ∷ [])) (must b BadArray at >>= λ value. q >>= λ n. Ok (with_function known f rs n))
    go false q = refl
    go true (Err fault) = refl
    go true (Ok n) = subst (λ (x : Result (Heads Name) Fault). ReadAs x (Ok (with_function known f rs n))) (sym (body_through (last n) ws (of_core
        core_word.EndFunction ∷ []) i)) (knows_function h.item h.ranks h.arrays h.cells known k f rs n new, refl)

same_first : (r : Result ⊤ Fault) (a : Result (Heads Name) Fault) (b : Result Known Fault) → ReadAs a b → ReadAs (r >>= λ u. a) (r >>= λ u. b)
same_first (Ok x) a b h = h
same_first (Err f) a b h = refl

function_words : (f : Function) → item_words (Defines f) ≡ of_core (core_word.Function f.name.at f.name.name) ∷ (map param_word f.params
    ++ (result_words f.results ++ (of_core (core_word.Body f.body_at) ∷ (body_words f.body ++ of_core core_word.EndFunction ∷ []))))
function_words f = append_assoc ((of_core (core_word.Function f.name.at f.name.name) ∷ map param_word f.params) ++ result_words f.results) (of_core
    (core_word.Body f.body_at) ∷ body_words f.body) (of_core core_word.EndFunction ∷ [])
    ∙ append_assoc (of_core (core_word.Function f.name.at f.name.name) ∷ map param_word f.params) (result_words f.results) (of_core
    (core_word.Body f.body_at) ∷ (body_words f.body ++ of_core core_word.EndFunction ∷ []))

function_read : (h : Heads Name) (known : Known) → KnowsAll h.item h.ranks h.arrays h.cells known → (f : Function) → is_in f.name.name known.names ≡ false
    → ReadAs (heads_read by_bytes (in_head h (record { at = f.name.at; name = f.name.name; first = length h.ranks; refused = None; results = Ok 1 }))
    (map param_word f.params ++ (result_words f.results ++ (of_core (core_word.Body f.body_at) ∷ (body_words f.body ++ of_core core_word.EndFunction ∷ [])))))
    (few_params (drop 16 f.params) >>= λ few. good_params f.name.name f.params >>= λ good. must (some_value (ranks f.params)) BadArray f.name.at >>= λ value.
    results_of known f.results >>= λ n. Ok (with_function known f.name.name (ranks f.params) n))
function_read h known k f new =
    let at : ℕ = f.name.at in
    let x : Name = f.name.name in
    let ending : Words = of_core (core_word.Body f.body_at) ∷ (body_words f.body ++ of_core core_word.EndFunction ∷ []) in
    let o : Option Fault = refused_after x None f.params in
    let first : FunctionHead Name = record { at = at; name = x; first = length h.ranks; refused = None; results = Ok 1 } in
    let e : heads_read by_bytes (in_head h first) (map param_word f.params ++ (result_words f.results ++ ending)) ≡ (few_params (drop 16 f.params) >>= λ few.
    heads_read by_bytes (reading h at x (ranks f.params) o (results_of known f.results)) ending) =
    ap (λ (us : List ℕ). heads_read by_bytes (record (in_head h first) { ranks = us }) (map param_word f.params ++ (result_words f.results ++ ending))) (sym
    (append-nil h.ranks))
    ∙ params_read h at x 16 f.params [] None refl (result_words f.results ++ ending)
    ∙ ap (λ (r : Result (Heads Name) Fault). few_params (drop 16 f.params) >>= λ few. r) (results_are h known k.pins at x (ranks f.params) o f.results ending) in
    let q : unless_refused o ≡ good_params x f.params = refused_are x None f.params in
    subst (λ (r : Result (Heads Name) Fault). ReadAs r (few_params (drop 16 f.params) >>= λ few. good_params x f.params >>= λ good. must (some_value (ranks
    f.params)) BadArray at >>= λ value. results_of known f.results >>= λ n. Ok (with_function known x (ranks f.params) n))) (sym e)
    (same_first (few_params (drop 16 f.params)) _ _
    (subst (λ (r : Result ⊤ Fault). ReadAs (heads_read by_bytes (reading h at x (ranks f.params) o (results_of known f.results)) ending) (r >>= λ good. must
    (some_value (ranks f.params)) BadArray at >>= λ value. results_of known f.results >>= λ n. Ok (with_function known x (ranks f.params) n))) q
    (function_known h known k at x (ranks f.params) o (results_of known f.results) (body_words f.body) (body_balanced f.body).inner new)))

-- ITEMS
item_read : (h : Heads Name) (known : Known) → KnowsAll h.item h.ranks h.arrays h.cells known → (i : Item) → FitsItem i
    → ReadAs (heads_read by_bytes (at_rest h) (item_words i)) (head known i)
item_read h known k (Cells x es) f = rw (k.pins.names x.name) (two_tested (not (is_in x.name known.names)) (nat_lt h.arrays 64) (nat_lt (length
    known.arrays) 64) SameName TooMany x.at (within_item h (open_head.Array x.at x.name) (fresh 0)) (of_core core_word.List ∷ (part_words es
    ++ word.EndArray ∷ [])) (cells_known known x.at x.name (count es) (lengths_of known 1 es) (last_place es)) (ap (λ (n : ℕ). nat_lt n 64) k.arrays_are) (λ t. array_read h known k x es f (not_there (is_in x.name known.names) t)))
item_read h known k (Const x e) f = rw (k.pins.names x.name) (one_tested (not (is_in x.name known.names)) SameName x.at (within_item h
    (open_head.Constant x.name) (fresh 1)) (words e ++ word.EndConstant ∷ []) (constant known e >>= λ z. Ok (with_constant known x.name z)) (λ t. constant_read h known k x.name e f (not_there (is_in x.name known.names) t)))
item_read h known k (Defines f) fits = subst (λ (ws : Words). ReadAs (heads_read by_bytes (at_rest h) ws) (head known (Defines f))) (sym (function_words f))
    (rw (k.pins.names f.name.name) (one_tested (not (is_in f.name.name known.names)) SameName f.name.at (in_head h (record {
      at = f.name.at;
      name = f.name.name;
      first = length h.ranks;
      refused = None;
      results = Ok 1;
    })) (map param_word f.params ++ (result_words f.results ++ (of_core (core_word.Body f.body_at) ∷ (body_words f.body ++ of_core core_word.EndFunction ∷ []))))
    (few_params (drop 16 f.params) >>= λ few. good_params f.name.name f.params >>= λ good. must (some_value (ranks f.params)) BadArray f.name.at >>= λ value.
    results_of known f.results >>= λ n. Ok (with_function known f.name.name (ranks f.params) n)) (λ t. function_read h known k f (not_there (is_in f.name.name known.names) t))))

resting : (h : Heads Name) (ws : Words) → h.open_head ≡ open_head.Outside → heads_read by_bytes (at_rest h) ws ≡ heads_read by_bytes h ws
resting h ws e = ap (λ (o : Head Name). heads_read by_bytes (record h { open_head = o }) ws) (sym e)

then_read : (ws : Words) (items : Program) → ((h : Heads Name) (known : Known) → KnowsAll h.item h.ranks h.arrays h.cells known
    → ReadAs (heads_read by_bytes (at_rest h) ws) (heads known items)) → (r : Result (Heads Name) Fault) (q : Result Known Fault) → ReadAs r q
    → ReadAs (r >>= λ u. heads_read by_bytes u ws) (q >>= λ next. heads next items)
then_read ws items f (Ok h) (Ok known) e = subst (λ (r : Result (Heads Name) Fault). ReadAs r (heads known items)) (resting h ws e.1) (f h known e.0)
then_read ws items f (Err x) (Err y) e = e
then_read ws items f (Ok h) (Err y) e = absurd e
then_read ws items f (Err x) (Ok known) e = absurd e

pub items_read : (items : Program) → FitsProgram items → (h : Heads Name) (known : Known) → KnowsAll h.item h.ranks h.arrays h.cells known
    → ReadAs (heads_read by_bytes (at_rest h) (program_words items)) (heads known items)
items_read [] f h known k = (k, refl)
items_read (i ∷ items) f h known k = subst (λ (r : Result (Heads Name) Fault). ReadAs r (heads known (i ∷ items))) (sym (heads_append (item_words i)
    (program_words items) (at_rest h)))
    (then_read (program_words items) items (items_read items f.1) (heads_read by_bytes (at_rest h) (item_words i)) (head known i) (item_read h known k i f.0))

-- THE HEADS OF A PROGRAM
pub heads_are_read : (p : Program) → FitsProgram p → ReadAs (heads_read by_bytes no_heads (program_words p)) (heads nothing p)
heads_are_read p f = items_read p f no_heads nothing nothing_known
