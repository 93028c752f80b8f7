-- What a good program is short for keeps the rules of the core.
use Rattle.std.specs.Prelude.{◌≡◌, ℕ, zero, suc, ◌+◌, ◌^◌, ◌≤◌, ◌<◌, ◌⊎◌, ◌==◌, ◌&&◌, ◌||◌, not, nat_le, nat_lt, Bool, true, false, List, [], ◌∷◌, ◌++◌, length, drop, decimal}
use Rattle.std.specs.Prelude.{is_some, Option, None, Some, Result, Ok, refl, ⊤, if◌then◌else◌}
use Rattle.std.specs.List.{list_any}
use Rattle.std.proofs.Common.{sym, ◌∙◌, ap, subst, arith, inl, inr, eq-eqb, ltb-false}
use Rattle.lemmas.proofs.Bools.{first_of_and, second_of_and, equal_itself, or_true}
use Rattle.lemmas.proofs.Permutations.{Each, each_append, each_append_back, each_weaker}
use Rattle.semantics.specs.Graph.{same_name}
use Rattle.semantics.proofs.Lines.{same_name_is, same_name_itself}
use Rattle.source.specs.declared.fault.FaultKind.TheVariants.{NoMain, Arity}
use Rattle.source.specs.declared.token.Keyword.TheVariants as core_word
use Rattle.source.specs.declared.token.Sign.TheVariants as core_sign
use Rattle.source.specs.Tree as core
use Rattle.source.specs.Tree.{Name, NameAt, NumberAt}
use Rattle.source.specs.Tokens.{begins}
use Rattle.source.specs.Outside.{is_in, bare}
use Rattle.source.specs.Rules as core_rules
use Rattle.source.specs.Rules.{main_name, no_items, item_names, array_in}
use Rattle.surface.specs.declared.fault.Fault.{Fault}
use Rattle.surface.specs.declared.fault.FaultKind.TheVariants.{Core, BadArray}
use Rattle.surface.specs.declared.token.Sign.TheVariants as sign
use Rattle.surface.specs.Tree.{Expr, Exprs, Param, Function, Item, Cells, Const, Defines, Program}
use Rattle.surface.specs.First.{◌>>=◌, must, must_be}
use Rattle.surface.specs.Fits.{FitsItem, FitsProgram}
use Rattle.surface.specs.Spelled.{Spelling, a_word, a_sign, sign_at, name_token, params_tokens, result_tokens, body_tokens, item_tokens, program_tokens}
use Rattle.surface.specs.Known.{Known, Signature, nothing, lookup, some_or, product, all_values, some_value}
use Rattle.surface.specs.Making.{hidden}
use Rattle.surface.specs.Rules.{Around, heads, good_param, good_params, ranks, last_place, value_params, array_params, param_names, new_names, results_in, body_values}
use Rattle.surface.specs.Rules.{function_checked, functions_checked}
use Rattle.surface.specs.Desugar.{Instance, Setting, array_for, same_names, instance_name}
use Rattle.surface.specs.Instances.{Wanted, text_names, hidden_prefix, name_said, is_wanted, and_new, all_wanted, arrays_for, in_function, function_in, function_wants, wants_of}
use Rattle.surface.specs.Instances.{instance_wants, plain_wants, closed, name_for, named_instances}
use Rattle.surface.specs.Desugared.{core_function, instances_of, core_item, core_items, first_setting, with_instances, few_instances, desugared_in}
use Rattle.law_surface.specs.GoodGivesGood.{IsShort, DesugaredKeepsRules}
use Rattle.law_surface.specs.InstancesAreNew.{AreNew}
use Rattle.source.proofs.Steps.{then_ok as core_then}
use Rattle.law_surface.proofs.Steps.{then_ok, must_ok, must_then, ok_same}
use Rattle.law_surface.proofs.WiderScope.{Includes}
use Rattle.law_surface.proofs.HiddenNames.{begins_itself}
use Rattle.law_surface.proofs.PrefixIsFree.{prefix_is_free}
use Rattle.law_surface.proofs.InstancesAreNew.{instances_are_new}
use Rattle.law_surface.proofs.RulesMade.{NoItem}
use Rattle.law_surface.proofs.Ready.{IfSaid, AllSaid, said_from, said_back, without_instances, ReadyBody, body_ready}
use Rattle.law_surface.proofs.Surroundings.{IsFunction, zeros, HasInstance, Fresh, Signed, Surroundings}
use Rattle.law_surface.proofs.WantedWell.{nonzeros, AllArrays, WantedWell, ArraysThere, body_wants}
use Rattle.law_surface.proofs.InstancesClosed.{AllIn, same_names_itself, and_new_has, and_new_each, closed_each, closed_more, closed_wants}
use Rattle.law_surface.proofs.SurfaceHeads.{Steps, steps_are, with_cells, with_constant, with_function, nothing_there, ResultsAre, Member, one_function, FunctionFrom}
use Rattle.law_surface.proofs.SurfaceHeads.{function_from, ArrayFrom, array_from, FunctionIs, function_is, signature_of}
use Rattle.law_surface.proofs.CoreHeads.{AllItemsSaid, not_taken, shown, InstanceIn, CoreHeadsGood, core_heads, names_last, function_found, array_found, member_of}
use Rattle.law_surface.proofs.CoreHeads.{plain_member, instance_member}
use Rattle.law_surface.proofs.InFunctions.{HaveDimensions, arrays_there as stand_there, function_kept, params_said}

-- GOOD PARTS
few_wanted : (p : Program) (n : ℕ) (ws : List Wanted) (t : ⊤) → few_instances p (drop n ws) ≡ Ok t → length ws ≤ n
few_wanted p n [] t h = omega arith
few_wanted p zero (w ∷ ws) t h = cc
few_wanted p (suc n) (w ∷ ws) t h = omega (arith, few_wanted p n ws t h)

record GoodParts (p : Program) (q : core.Program) : Type 0 where
  pub known : Known
  pub heads_are : heads nothing p ≡ Ok known
  pub main : is_some (lookup known.functions main_name) ≡ true
  pub functions : functions_checked known p ≡ Ok tt
  pub few : length (all_wanted (first_setting known p) p) ≤ 256
  pub is : core_items (with_instances (first_setting known p) p (all_wanted (first_setting known p) p)) p ≡ q

good_parts : (p : Program) (q : core.Program) (end : ℕ) → IsShort p q end → GoodParts p q
good_parts p q end short =
    let made : Known → Result core.Program Fault = λ known. desugared_in (first_setting known p) p (all_wanted (first_setting known p) p) in
    let s = then_ok (heads nothing p) made q short.is in
    let first : Setting = first_setting s.0 p in
    let ws : List Wanted = all_wanted first p in
    let t = then_ok (few_instances p (drop 256 ws)) (λ few. Ok (core_items (with_instances first p ws) p)) q s.2 in
    let rest : Known → Result ⊤ Fault = λ known. must_be (is_some (lookup known.functions main_name)) NoMain end >>= (λ main. functions_checked known p) in
    let c : rest s.0 ≡ Ok tt = subst (λ (r : Result Known Fault). (r >>= rest) ≡ Ok tt) s.1 short.checked in
    let m = must_then (is_some (lookup s.0.functions main_name)) (Core NoMain) end (functions_checked s.0 p) tt c in
    record {
      known = s.0;
      heads_are = s.1;
      main = m.0;
      functions = m.1;
      few = few_wanted p 256 ws t.0 t.1;
      is = ok_same (core_items (with_instances first p ws) p) q t.2;
    }

-- MEMBERS
fits_member : (p : Program) (i : Item) → FitsProgram p → Member i p → FitsItem i
fits_member [] i h m = absurd m
fits_member (j ∷ items) i h (inl e) = subst (λ (i : Item). FitsItem i) (sym e) h.0
fits_member (j ∷ items) i h (inr m) = fits_member items i h.1 m

said_member : (P : Name → Type 0) (p : Program) (i : Item) → AllItemsSaid P p → Member i p → AllSaid P (item_tokens i)
said_member P [] i h m = absurd m
said_member P (j ∷ items) i h (inl e) = subst (λ (i : Item). AllSaid P (item_tokens i)) (sym e) h.0
said_member P (j ∷ items) i h (inr m) = said_member P items i h.1 m

checked_member : (known : Known) (items : Program) (f : Function) → functions_checked known items ≡ Ok tt → Member (Defines f) items → function_checked known f ≡ Ok tt
checked_member known [] f h m = absurd m
checked_member known (Cells x es ∷ items) f h (inl e) = absurd (cc)
checked_member known (Cells x es ∷ items) f h (inr m) = checked_member known items f h m
checked_member known (Const x c ∷ items) f h (inl e) = absurd (cc)
checked_member known (Const x c ∷ items) f h (inr m) = checked_member known items f h m
checked_member known (Defines g ∷ items) f h (inl e) =
    let s = then_ok (function_checked known g) (λ good. functions_checked known items) tt h in
    subst (λ (f : Function). function_checked known f ≡ Ok tt) (sym (one_function f g e)) s.1
checked_member known (Defines g ∷ items) f h (inr m) =
    let s = then_ok (function_checked known g) (λ good. functions_checked known items) tt h in checked_member known items f s.2 m

-- NAMES of the text
each_itself : (all xs : List Name) → Includes xs all → Each (λ x. is_in x all ≡ true) xs
each_itself all [] h = tt
each_itself all (x ∷ xs) h = (
  h x (ap (λ (b : Bool). b || is_in x xs) (same_name_itself x)),
  each_itself all xs (λ y e. h y (ap (λ (b : Bool). same_name y x || b) e ∙ or_true (same_name y x))),
)

items_said : (P : Name → Type 0) (items : Program) → AllSaid P (program_tokens items) → AllItemsSaid P items
items_said P [] h = tt
items_said P (i ∷ items) h = let s = said_back P (item_tokens i) (program_tokens items) h in (s.0, items_said P items s.1)

said_weaker : (P R : Name → Type 0) → ((x : Name) → P x → R x) → (ts : List Spelling) → AllSaid P ts → AllSaid R ts
said_weaker P R f [] h = tt
said_weaker P R f (t ∷ ts) h = (go (name_said t.lexeme) h.0, said_weaker P R f ts h.1)
  where
    go : (o : Option Name) → IfSaid P o → IfSaid R o
    go None g = tt
    go (Some x) g = f x g

and_included : (x : Name) (names text : List Name) → is_in x text ≡ true → Includes names text → Includes (x ∷ names) text
and_included x names text said all y e = go (same_name y x) refl e
  where
    go : (b : Bool) → same_name y x ≡ b → (b || is_in y names) ≡ true → is_in y text ≡ true
    go true t e = ap (λ (z : Name). is_in z text) (same_name_is y x t) ∙ said
    go false t e = all y e

known_said : (text : List Name) (k : Known) (items : Program) (end : Known) → AllItemsSaid (λ x. is_in x text ≡ true) items → Includes k.names text → Steps k items end
    → Includes end.names text
known_said text k [] end h g st = subst (λ (k : Known). Includes k.names text) st g
known_said text k (Cells y es ∷ items) end h g st = known_said text (with_cells k y.name st.0) items end h.1 (and_included y.name k.names text h.0.1.0 g) st.2
known_said text k (Const y c ∷ items) end h g st = known_said text (with_constant k y.name st.0) items end h.1 (and_included y.name k.names text h.0.1.0 g) st.2
known_said text k (Defines f ∷ items) end h g st = known_said text (with_function k f st.0) items end h.1 (and_included f.name.name k.names text h.0.1.0 g) st.2

any_in : (f : Name → Bool) (x : Name) (xs : List Name) → is_in x xs ≡ true → f x ≡ true → list_any f xs ≡ true
any_in f x [] h e = cc
any_in f x (y ∷ xs) h e = go (same_name x y) refl h (λ g. any_in f x xs g e)
  where
    go : (b : Bool) → same_name x y ≡ b → (b || is_in x xs) ≡ true → (is_in x xs ≡ true → list_any f xs ≡ true) → (f y || list_any f xs) ≡ true
    go true t g later = ap (λ (b : Bool). b || list_any f xs) (sym (ap f (same_name_is x y t)) ∙ e)
    go false t g later = ap (λ (b : Bool). f y || b) (later g) ∙ or_true (f y)

-- INSTANCES of what is wanted
each_named : (P : Wanted → Type 0) (prefix : Name) (taken : List Name) (n : ℕ) (ws : List Wanted) → Each P ws → (i : Instance) → Member i (named_instances prefix taken n ws)
    → P (record { function = i.function; arrays = i.arrays })
each_named P prefix taken n [] h i m = absurd m
each_named P prefix taken n (w ∷ ws) h i (inl e) = subst (λ (i : Instance). P (record { function = i.function; arrays = i.arrays })) (sym e) h.0
each_named P prefix taken n (w ∷ ws) h i (inr m) = each_named P prefix (name_for prefix taken n w ∷ taken) (n + 1) ws h.1 i m

pub record NamedFor (is : List Instance) (w : Wanted) : Type 0 where
  pub instance : Instance
  pub member : Member instance is
  pub function : instance.function ≡ w.function
  pub arrays : instance.arrays ≡ w.arrays
  pub name : instance_name is w.function w.arrays ≡ instance.name

same_names_is : (xs ys : List Name) → same_names xs ys ≡ true → xs ≡ ys
same_names_is [] [] h = refl
same_names_is [] (y ∷ ys) h = cc
same_names_is (x ∷ xs) [] h = cc
same_names_is (x ∷ xs) (y ∷ ys) h =
    let first : x ≡ y = same_name_is x y (first_of_and (same_name x y) (same_names xs ys) h) in
    ap (λ (z : Name). z ∷ xs) first ∙ ap (λ (zs : List Name). y ∷ zs) (same_names_is xs ys (second_of_and (same_name x y) (same_names xs ys) h))

-- whether it is this one, either way
same_wanted : (v w : Wanted) → (same_name w.function v.function && same_names w.arrays v.arrays) ≡ false → (same_name v.function w.function && same_names v.arrays w.arrays) ≡
    true → ⊥
same_wanted v w h e =
    let f : v.function ≡ w.function = same_name_is v.function w.function (first_of_and (same_name v.function w.function) (same_names v.arrays w.arrays) e) in
    let a : v.arrays ≡ w.arrays = same_names_is v.arrays w.arrays (second_of_and (same_name v.function w.function) (same_names v.arrays w.arrays) e) in
    let g : same_name w.function v.function ≡ true = ap (λ (x : Name). same_name w.function x) f ∙ same_name_itself w.function in
    let b : same_names w.arrays v.arrays ≡ true = ap (λ (xs : List Name). same_names w.arrays xs) a ∙ same_names_itself w.arrays in
    let both : (same_name w.function v.function && same_names w.arrays v.arrays) ≡ true = rw g (rw b refl) in absurd (cc)

or_behind : (a b : Bool) → (a ≡ true → ⊥) → (a || b) ≡ true → b ≡ true
or_behind true b never h = absurd (never refl)
or_behind false b never h = h

named_for : (prefix : Name) (taken : List Name) (n : ℕ) (ws : List Wanted) (w : Wanted) → is_wanted ws w ≡ true → NamedFor (named_instances prefix taken n ws) w
named_for prefix taken n [] w h = cc
named_for prefix taken n (v ∷ ws) w h = go (same_name w.function v.function && same_names w.arrays v.arrays) refl (λ g. named_for prefix (name_for prefix taken n v ∷ taken) (n +
    1) ws w g)
  where
    go : (b : Bool) → (same_name w.function v.function && same_names w.arrays v.arrays) ≡ b → (is_wanted ws w ≡ true → NamedFor (named_instances prefix (name_for prefix taken n v
        ∷ taken) (n + 1) ws) w) → NamedFor (named_instances prefix taken n (v ∷ ws)) w
    go true e later = record {
      instance = record { function = v.function; arrays = v.arrays; name = name_for prefix taken n v };
      member = inl refl;
      function = sym (same_name_is w.function v.function (first_of_and (same_name w.function v.function) (same_names w.arrays v.arrays) e));
      arrays = sym (same_names_is w.arrays v.arrays (second_of_and (same_name w.function v.function) (same_names w.arrays v.arrays) e));
      name = ap (λ (b : Bool). if b then name_for prefix taken n v else instance_name (named_instances prefix (name_for prefix taken n v ∷ taken) (n + 1) ws) w.function
          w.arrays) e;
    }
    go false e later =
        let r : NamedFor (named_instances prefix (name_for prefix taken n v ∷ taken) (n + 1) ws) w = later (or_behind (same_name v.function w.function && same_names v.arrays
        w.arrays) (is_wanted ws w) (λ t. same_wanted v w e t) h) in
        record {
          instance = r.instance;
          member = inr r.member;
          function = r.function;
          arrays = r.arrays;
          name = ap (λ (b : Bool). if b then name_for prefix taken n v else instance_name (named_instances prefix (name_for prefix taken n v ∷ taken) (n + 1) ws) w.function
              w.arrays) e ∙ r.name;
        }

-- PARAMETERS
value_count : (ps : List Param) → length (value_params ps) ≡ zeros (ranks ps)
value_count [] = refl
value_count (p ∷ ps) = go (p.rank == 0) (value_count ps)
  where
    go : (b : Bool) → length (value_params ps) ≡ zeros (ranks ps) → length (if b then p.name ∷ value_params ps else value_params ps) ≡ (if b then 1 else 0) + zeros (ranks ps)
    go true h = omega (arith, h)
    go false h = omega (arith, h)

all_are_values : (ns : List ℕ) → all_values ns ≡ true → (zeros ns ≡ length ns) × (nonzeros ns ≡ 0)
all_are_values [] h = (refl, refl)
all_are_values (n ∷ ns) h = go (n == 0) h (λ e. all_are_values ns e)
  where
    go : (b : Bool) → (b && all_values ns) ≡ true → (all_values ns ≡ true → (zeros ns ≡ length ns) × (nonzeros ns ≡ 0)) → ((if b then 1 else 0) + zeros ns ≡ suc (length ns)) ×
        ((if b then 0 else 1) + nonzeros ns ≡ 0)
    go true e later = let k = later e in (omega (arith, k.0), omega (arith, k.1))
    go false e later = cc

some_zero : (ns : List ℕ) → some_value ns ≡ true → 1 ≤ zeros ns
some_zero [] h = cc
some_zero (n ∷ ns) h = go (n == 0) h (λ e. some_zero ns e)
  where
    go : (b : Bool) → (b || some_value ns) ≡ true → (some_value ns ≡ true → 1 ≤ zeros ns) → 1 ≤ (if b then 1 else 0) + zeros ns
    go true e later = omega arith
    go false e later = omega (arith, later e)

-- those of `main` are values
not_above : (n : ℕ) (b : Bool) → (b && not (true && nat_lt 0 n)) ≡ true → (n == 0) ≡ true
not_above n b h = eq-eqb n 0 (omega (arith, ltb-false 0 n (not_true (nat_lt 0 n) (second_of_and b (not (nat_lt 0 n)) h))))
  where
    not_true : (b : Bool) → not b ≡ true → b ≡ false
    not_true true h = cc
    not_true false h = refl

main_plain : (f : Name) (ps : List Param) → same_name f main_name ≡ true → good_params f ps ≡ Ok tt → all_values (ranks ps) ≡ true
main_plain f [] e h = refl
main_plain f (p ∷ ps) e h =
    let s = then_ok (good_param f p) (λ good. good_params f ps) tt h in
    let good : (nat_le p.rank 3 && not (same_name f main_name && nat_lt 0 p.rank)) ≡ true = must_ok (nat_le p.rank 3 && not (same_name f main_name && nat_lt 0 p.rank)) BadArray
    p.name.at s.0 s.1 in
    let value : (p.rank == 0) ≡ true = not_above p.rank (nat_le p.rank 3) (ap (λ (b : Bool). nat_le p.rank 3 && not (b && nat_lt 0 p.rank)) (sym e) ∙ good) in
    rw value (main_plain f ps e s.2)

some_there : {A : Type 0} (o : Option A) → is_some o ≡ true → (x : A) × (o ≡ Some x)
some_there None h = cc
some_there (Some x) h = (x, refl)

functions_join : (q xs ys : core.Program) → core_rules.functions_checked q xs ≡ Ok tt → core_rules.functions_checked q ys ≡ Ok tt → core_rules.functions_checked q (xs ++ ys) ≡
    Ok tt
functions_join q [] ys h g = g
functions_join q (core.Cells x len ∷ xs) ys h g = functions_join q xs ys h g
functions_join q (core.Defines f ∷ xs) ys h g =
    let s = core_then (core_rules.function_checked q f) (λ good. core_rules.functions_checked q xs) tt h in rw s.1 (functions_join q xs ys s.2 g)

-- A GOOD PROGRAM
module _ (p : Program) (known : Known) (steps : Steps nothing p known) (fits : FitsProgram p) (good : functions_checked known p ≡ Ok tt) (few : length (all_wanted
    (first_setting known p) p) ≤ 256) (small : length (text_names p) < 2 ^ 64) where
  abbrev text : List Name
  text = text_names p

  abbrev first : Setting
  first = first_setting known p

  abbrev ws : List Wanted
  ws = all_wanted first p

  abbrev full : Setting
  full = with_instances first p ws

  abbrev q : core.Program
  q = core_items full p

  abbrev Said : Name → Type 0
  Said x = is_in x text ≡ true

  are_new : AreNew (hidden_prefix text) text full.instances
  are_new = instances_are_new text ws small few

  said : AllItemsSaid Said p
  said = items_said Said p (said_from Said (program_tokens p) (each_itself text text (λ x e. e)))

  heads_good : CoreHeadsGood full q no_items known
  heads_good = core_heads full (hidden_prefix text) text are_new nothing p no_items nothing_there steps (record { arrays = refl; cells = refl; names = λ x e. cc }) said (λ x e.
      cc)

  origin : (x : Name) → is_in x (item_names q) ≡ true → (is_in x known.names ≡ true) ⊎ InstanceIn full.instances known.names x
  origin x e = heads_good.are.names x (names_last no_items q heads_good.last heads_good.good x (ap (λ (b : Bool). b || false) e))

  names_said : Includes known.names text
  names_said = known_said text nothing p known said (λ x e. cc) steps

  no_item : (x : Name) → ((is_in x known.names ≡ true) ⊎ InstanceIn full.instances known.names x → ⊥) → NoItem q x
  no_item x never = go (is_in x (item_names q)) refl
    where
      go : (b : Bool) → is_in x (item_names q) ≡ b → is_in x (item_names q) ≡ false
      go true e = absurd (never (origin x e))
      go false e = e

  fresh : (x : Name) → Said x → Fresh q known x
  fresh x there new = no_item x from
    where
      from : (is_in x known.names ≡ true) ⊎ InstanceIn full.instances known.names x → ⊥
      from (inl e) = absurd (cc)
      from (inr i) =
          let out : is_in x text ≡ false = ap (λ (y : Name). is_in y text) i.2 ∙ not_taken (hidden_prefix text) text full.instances i.0 are_new i.1 in absurd (cc)

  hidden_new : (n : ℕ) → NoItem q (hidden (hidden_prefix text) n)
  hidden_new n = no_item (hidden (hidden_prefix text) n) from
    where
      from : (is_in (hidden (hidden_prefix text) n) known.names ≡ true) ⊎ InstanceIn full.instances known.names (hidden (hidden_prefix text) n) → ⊥
      from (inl e) =
          let so : list_any (begins (hidden_prefix text)) text ≡ true = any_in (begins (hidden_prefix text)) (hidden (hidden_prefix text) n) text (names_said (hidden
          (hidden_prefix text) n) e) (begins_itself (hidden_prefix text) (decimal (n + 1))) in
          let free : list_any (begins (hidden_prefix text)) text ≡ false = prefix_is_free text small in absurd (cc)
      from (inr i) = shown (hidden_prefix text) text full.instances i.0 are_new i.1 n (sym i.2)

  dimensions : HaveDimensions known
  dimensions x ns e = go (array_from nothing p known steps x ns e)
    where
      go : (lookup nothing.arrays x ≡ Some ns) ⊎ ArrayFrom p x ns → 1 ≤ length ns
      go (inl e) = absurd (cc)
      go (inr a) = a.dimensions

  array_there : (x : Name) → is_some (lookup known.arrays x) ≡ true → is_some (array_in q x) ≡ true
  array_there x e =
      let found = some_there (lookup known.arrays x) e in go found.0 (array_from nothing p known steps x found.0 found.1)
    where
      go : (ns : List ℕ) → (lookup nothing.arrays x ≡ Some ns) ⊎ ArrayFrom p x ns → is_some (array_in q x) ≡ true
      go ns (inl e) = absurd (cc)
      go ns (inr a) =
          let len : NumberAt = record { at = last_place a.lengths; number = product (some_or [] (lookup known.arrays a.name.name)) } in
          ap (λ (y : Name). is_some (array_in q y)) a.same ∙ array_found q a.name len (member_of full p (Cells a.name a.lengths) (core.Cells a.name len) a.member (inl refl))

  from_known : (f : Name) (sig : Signature) → lookup known.functions f ≡ Some sig → FunctionFrom known p f sig
  from_known f sig e = go (function_from nothing p known nothing_there steps f sig e)
    where
      go : (lookup nothing.functions f ≡ Some sig) ⊎ FunctionFrom known p f sig → FunctionFrom known p f sig
      go (inl e) = absurd (cc)
      go (inr g) = g

  is_function : (f : Function) (name : Name) (xs : List Name) (sig : Signature) → Member (core.Defines (core_function full f name xs)) q → sig.ranks ≡ ranks f.params
      → ResultsAre known f.results sig.results → IsFunction q name (zeros sig.ranks) sig.results
  is_function f name xs sig m r results = record {
    function = core_function full f name xs;
    found = (function_found no_items q heads_good.last (core_function full f name xs) heads_good.good m).1;
    params_are = value_count f.params ∙ ap (λ (ns : List ℕ). zeros ns) (sym r);
    results_are = results.are;
  }

  signed : (f : Name) (sig : Signature) → lookup known.functions f ≡ Some sig → Signed q f sig
  signed f sig e =
      let g : FunctionFrom known p f sig = from_known f sig e in
      record {
        results = g.results_are.some;
        values = subst (λ (ns : List ℕ). 1 ≤ zeros ns) (sym g.ranks_are) (some_zero (ranks g.function.params) g.value);
        plain = λ t. plain g t;
      }
    where
      plain : FunctionFrom known p f sig → all_values sig.ranks ≡ true → IsFunction q f (length sig.ranks) sig.results
      plain g t =
          let h : Function = g.function in
          let values : all_values (ranks h.params) ≡ true = ap (λ (ns : List ℕ). all_values ns) (sym g.ranks_are) ∙ t in
          let m = member_of full p (Defines h) (core.Defines (core_function full h h.name.name [])) g.member (plain_member full h values) in
          subst (λ (n : ℕ). IsFunction q f n sig.results) (all_are_values sig.ranks t).0 (subst (λ (x : Name). IsFunction q x (zeros sig.ranks) sig.results) (sym g.name)
          (is_function h h.name.name [] sig m g.ranks_are g.results_are))

  -- WHAT IS WANTED
  wants_of_body : (f : Function) (xs : List Name) → Member (Defines f) p → length xs ≡ nonzeros (ranks f.params) → AllArrays known xs → Each (WantedWell known) (function_wants
      first f xs)
  wants_of_body f xs m l h =
      let c : function_checked known f ≡ Ok tt = checked_member known p f good m in
      let a : Around = record { known = known; arrays = array_params f.params } in
      let scope : List Name = bare (value_params f.params) in
      let k = then_ok (new_names (record { known = known; arrays = [] }) [] (param_names f.params)) (λ new. body_values a scope f.body >>= (λ n. must_be (n == results_in known
      f.results) Arity f.body_at)) tt c in
      let t = then_ok (body_values a scope f.body) (λ n. must_be (n == results_in known f.results) Arity f.body_at) tt k.2 in
      body_wants (in_function first (arrays_for f.params xs)) (array_params f.params) (stand_there first f.params xs dimensions l h) f.body scope t.0 t.1

  function_named : (f : Function) → Member (Defines f) p → (x : Name) → x ≡ f.name.name → function_in p x ≡ Some f
  function_named f m x e =
      let g : FunctionIs nothing p known f = function_is nothing p known f nothing_there steps m in
      ap (λ (y : Name). function_in p y) e ∙ g.found

  wants_well : (w : Wanted) → WantedWell known w → Each (WantedWell known) (instance_wants first p w)
  wants_well w h =
      let g : FunctionFrom known p w.function h.signature = from_known w.function h.signature h.found in
      let l : length w.arrays ≡ nonzeros (ranks g.function.params) = h.as_many ∙ ap (λ (ns : List ℕ). nonzeros ns) g.ranks_are in
      subst (λ (o : Option Function). Each (WantedWell known) (wants_of first o w.arrays)) (sym (function_named g.function g.member w.function g.name)) (wants_of_body
      g.function w.arrays g.member l h.arrays_there)

  plain_well : (items : Program) → ((f : Function) → Member (Defines f) items → Member (Defines f) p) → Each (WantedWell known) (plain_wants first items)
  plain_well [] sub = tt
  plain_well (Cells x es ∷ items) sub = plain_well items (λ f m. sub f (inr m))
  plain_well (Const x c ∷ items) sub = plain_well items (λ f m. sub f (inr m))
  plain_well (Defines f ∷ items) sub = each_append (WantedWell known) (if all_values (ranks f.params) then function_wants first f [] else []) (plain_wants first items) (go
      (all_values (ranks f.params)) refl) (plain_well items (λ f m. sub f (inr m)))
    where
      go : (b : Bool) → all_values (ranks f.params) ≡ b → Each (WantedWell known) (if b then function_wants first f [] else [])
      go true e = wants_of_body f [] (sub f (inl refl)) (sym (all_are_values (ranks f.params) e).1) tt
      go false e = tt

  abbrev begun : List Wanted
  begun = and_new [] (plain_wants first p)

  all_well : Each (WantedWell known) ws
  all_well = closed_each first p (WantedWell known) wants_well 257 0 begun (and_new_each (WantedWell known) [] (plain_wants first p) tt (plain_well p (λ f m. m)))

  all_closed : Each (λ w. AllIn ws (instance_wants first p w)) ws
  all_closed = closed_wants first p 257 0 [] begun refl refl tt few

  plain_in : AllIn ws (plain_wants first p)
  plain_in = each_weaker (λ w. is_wanted begun w ≡ true) (λ w. is_wanted ws w ≡ true) (λ w e. closed_more first p 257 0 begun w e) (plain_wants first p) (and_new_has [] (plain_wants
      first p))

  one_signature : (f : Name) (a b : Signature) → lookup known.functions f ≡ Some a → lookup known.functions f ≡ Some b → a ≡ b
  one_signature f a b e g = let same = sym e ∙ g in cc

  -- what an instance has
  pub record InstanceWell (i : Instance) : Type 0 where
    pub well : WantedWell known (record { function = i.function; arrays = i.arrays })
    pub wants : AllIn ws (wants_of first (function_in p i.function) i.arrays)

  instance_well : (i : Instance) → Member i full.instances → InstanceWell i
  instance_well i m = record {
    well = each_named (WantedWell known) (hidden_prefix text) text 1 ws all_well i m;
    wants = each_named (λ w. AllIn ws (instance_wants first p w)) (hidden_prefix text) text 1 ws all_closed i m;
  }

  instance_there : (f : Name) (arrays : List Name) → is_wanted ws (record { function = f; arrays = arrays }) ≡ true → (sig : Signature) → lookup known.functions f ≡ Some sig
      → IsFunction q (instance_name full.instances f arrays) (zeros sig.ranks) sig.results
  instance_there f arrays e sig t =
      let n : NamedFor full.instances (record { function = f; arrays = arrays }) = named_for (hidden_prefix text) text 1 ws (record { function = f; arrays = arrays }) e in
      let i : Instance = n.instance in
      let w : InstanceWell i = instance_well i n.member in
      let g : FunctionFrom known p f sig = from_known f sig t in
      let same : w.well.signature ≡ sig = one_signature f w.well.signature sig (ap (λ (x : Name). lookup known.functions x) (sym n.function) ∙ w.well.found) t in
      let some_array : all_values (ranks g.function.params) ≡ false = ap (λ (ns : List ℕ). all_values ns) (sym g.ranks_are) ∙ ap (λ (sig : Signature). all_values sig.ranks)
      (sym same) ∙ w.well.some_array in
      let named : same_name g.function.name.name i.function ≡ true = ap (λ (x : Name). same_name g.function.name.name x) (n.function ∙ g.name) ∙ same_name_itself
      g.function.name.name in
      let m = member_of full p (Defines g.function) (core.Defines (core_function full g.function i.name i.arrays)) g.member (instance_member full g.function i some_array n.member
      named) in
      subst (λ (x : Name). IsFunction q x (zeros sig.ranks) sig.results) (sym n.name) (is_function g.function i.name i.arrays sig m g.ranks_are g.results_are)

  -- FUNCTIONS
  function_good : (f : Function) (name : Name) (xs : List Name) → Member (Defines f) p → length xs ≡ nonzeros (ranks f.params) → AllArrays known xs → AllIn ws (function_wants first
      f xs) → core_rules.function_checked q (core_function full f name xs) ≡ Ok tt
  function_good f name xs m l h wants =
      let inner : Setting = in_function full (arrays_for f.params xs) in
      let there : ArraysThere inner (array_params f.params) = stand_there full f.params xs dimensions l h in
      let around : Surroundings q inner (array_params f.params) = record {
        hidden_new = hidden_new;
        arrays_are = there.arrays_are;
        arrays = λ x e. array_there (array_for inner x) (there.there x e);
        functions = signed;
      } in
      let tokens : AllSaid Said (item_tokens (Defines f)) = said_member Said p (Defines f) said m in
      let params : List Spelling = params_tokens f.params in
      let results : List Spelling = a_sign core_sign.CloseParen ∷ result_tokens f.results in
      let brace : List Spelling = sign_at f.body_at (sign.Core core_sign.OpenBrace) ∷ body_tokens f.body in
      let s1 = said_back Said (params ++ results) brace tokens.1.1.1 in
      let s2 = said_back Said params results s1.0 in
      let fit = fits_member p (Defines f) fits m in
      let ready : ReadyBody (Fresh q known) (HasInstance q inner) inner f.body = body_ready (Fresh q known) (HasInstance q inner) inner (hidden_prefix text) false f.body fit.2
      (said_weaker Said (Fresh q known) fresh (body_tokens f.body) s1.1.1) (each_weaker (λ w. is_wanted ws w ≡ true) (HasInstance q inner) (λ w e sig t. instance_there w.function
      w.arrays e sig t) (function_wants first f xs) wants) in
      function_kept q full f name xs around ready (params_said (Fresh q known) f.params (said_weaker Said (Fresh q known) fresh params s2.0)) (checked_member known p f good m)

  plain_wants_in : (P : Wanted → Type 0) (f : Function) (items : Program) → all_values (ranks f.params) ≡ true → Member (Defines f) items → Each P (plain_wants first items)
      → Each P (function_wants first f [])
  plain_wants_in P f [] e m h = absurd m
  plain_wants_in P f (Cells x es ∷ items) e (inl i) h = absurd (cc)
  plain_wants_in P f (Cells x es ∷ items) e (inr m) h = plain_wants_in P f items e m h
  plain_wants_in P f (Const x c ∷ items) e (inl i) h = absurd (cc)
  plain_wants_in P f (Const x c ∷ items) e (inr m) h = plain_wants_in P f items e m h
  plain_wants_in P f (Defines g ∷ items) e (inl i) h =
      let same : f ≡ g = one_function f g i in
      let all : all_values (ranks g.params) ≡ true = ap (λ (f : Function). all_values (ranks f.params)) (sym same) ∙ e in
      let mine = (each_append_back P (if all_values (ranks g.params) then function_wants first g [] else []) (plain_wants first items) h).0 in
      subst (λ (f : Function). Each P (function_wants first f [])) (sym same) (subst (λ (b : Bool). Each P (if b then function_wants first g [] else [])) all mine)
  plain_wants_in P f (Defines g ∷ items) e (inr m) h = plain_wants_in P f items e m (each_append_back P (if all_values (ranks g.params) then function_wants first g [] else [])
      (plain_wants first items) h).1

  instances_checked : (f : Function) (is : List Instance) → Member (Defines f) p → ((i : Instance) → Member i is → Member i full.instances) → core_rules.functions_checked q
      (instances_of full f is) ≡ Ok tt
  instances_checked f [] m sub = refl
  instances_checked f (i ∷ is) m sub = go (same_name f.name.name i.function) refl (instances_checked f is m (λ j n. sub j (inr n)))
    where
      one : same_name f.name.name i.function ≡ true → core_rules.function_checked q (core_function full f i.name i.arrays) ≡ Ok tt
      one t =
          let w : InstanceWell i = instance_well i (sub i (inl refl)) in
          let g : FunctionIs nothing p known f = function_is nothing p known f nothing_there steps m in
          let same : f.name.name ≡ i.function = same_name_is f.name.name i.function t in
          let sig : Signature = signature_of f g.results in
          let is_same : w.well.signature ≡ sig = one_signature i.function w.well.signature sig w.well.found (ap (λ (x : Name). lookup known.functions x) (sym same) ∙ g.known) in
          let l : length i.arrays ≡ nonzeros (ranks f.params) = w.well.as_many ∙ ap (λ (sig : Signature). nonzeros sig.ranks) is_same in
          let wants : AllIn ws (function_wants first f i.arrays) = subst (λ (o : Option Function). AllIn ws (wants_of first o i.arrays)) (function_named f m i.function (sym same))
          w.wants in
          function_good f i.name i.arrays m l w.well.arrays_there wants

      go : (b : Bool) → same_name f.name.name i.function ≡ b → core_rules.functions_checked q (instances_of full f is) ≡ Ok tt → core_rules.functions_checked q (if b then
          core.Defines (core_function full f i.name i.arrays) ∷ instances_of full f is else instances_of full f is) ≡ Ok tt
      go true t rest = rw (one t) rest
      go false t rest = rest

  function_items : (f : Function) → Member (Defines f) p → core_rules.functions_checked q (core_item full (Defines f)) ≡ Ok tt
  function_items f m = go (all_values (ranks f.params)) refl
    where
      go : (b : Bool) → all_values (ranks f.params) ≡ b → core_rules.functions_checked q (if b then core.Defines (core_function full f f.name.name []) ∷ [] else instances_of full f
          full.instances) ≡ Ok tt
      go true e =
          let one : core_rules.function_checked q (core_function full f f.name.name []) ≡ Ok tt = function_good f f.name.name [] m (sym (all_are_values (ranks f.params) e).1) tt
          (plain_wants_in (λ w. is_wanted ws w ≡ true) f p e m plain_in) in rw one refl
      go false e = instances_checked f full.instances m (λ i n. n)

  all_checked : (items : Program) → ((f : Function) → Member (Defines f) items → Member (Defines f) p) → core_rules.functions_checked q (core_items full items) ≡ Ok tt
  all_checked [] sub = refl
  all_checked (Cells x es ∷ items) sub = all_checked items (λ f m. sub f (inr m))
  all_checked (Const x c ∷ items) sub = all_checked items (λ f m. sub f (inr m))
  all_checked (Defines f ∷ items) sub = functions_join q (core_item full (Defines f)) (core_items full items) (function_items f (sub f (inl refl))) (all_checked items (λ f m. sub f
      (inr m)))

  main_there : is_some (lookup known.functions main_name) ≡ true → is_some (core_rules.function_in q main_name) ≡ true
  main_there e =
      let found = some_there (lookup known.functions main_name) e in
      let g : FunctionFrom known p main_name found.0 = from_known main_name found.0 found.1 in
      let values : all_values (ranks g.function.params) ≡ true = main_plain g.function.name.name g.function.params (ap (λ (x : Name). same_name x main_name) (sym g.name) ∙
      same_name_itself main_name) g.params in
      let s : Signed q main_name found.0 = signed main_name found.0 found.1 in
      let f : IsFunction q main_name (length found.0.ranks) found.0.results = s.plain (ap (λ (ns : List ℕ). all_values ns) g.ranks_are ∙ values) in
      ap (λ (o : Option core.Function). is_some o) f.found

  pub keeps_rules : (end : ℕ) → is_some (lookup known.functions main_name) ≡ true → core_rules.checked end q ≡ Ok tt
  keeps_rules end main = rw heads_good.good (rw (main_there main) (all_checked p (λ f m. m)))

pub desugared_keeps_rules : DesugaredKeepsRules
desugared_keeps_rules p q end short small =
    let parts : GoodParts p q = good_parts p q end short in
    subst (λ (q : core.Program). core_rules.checked end q ≡ Ok tt) parts.is (keeps_rules p parts.known (steps_are nothing p parts.known parts.heads_are) short.fits parts.functions
    parts.few small end parts.main)
