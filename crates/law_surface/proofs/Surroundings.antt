-- WHAT IS AROUND A PART that becomes one of the core: the core program has its arrays, functions and instances, and no item with a
-- hidden name.
use Rattle.std.specs.Prelude.{◌≡◌, ℕ, suc, ◌+◌, ◌≤◌, ◌⊎◌, ◌==◌, ◌&&◌, ◌||◌, not, nat_le, Bool, true, false, ℤ, pos, negsuc, int_le, List, [], ◌∷◌, ◌++◌}
use Rattle.std.specs.Prelude.{map, length, is_some, replicate, Option, None, Some, Result, Ok, ⊤, refl, if◌then◌else◌}
use Rattle.std.proofs.Common.{sym, ◌∙◌, ap, subst, arith, inl, inr}
use Rattle.lemmas.proofs.Bools.{first_of_and, second_of_and, or_true}
use Rattle.lemmas.proofs.Permutations.{Each}
use Rattle.operators.specs.declared.Unary.{Unary}
use Rattle.operators.specs.declared.Unary.TheVariants.{Neg, Not as Flip}
use Rattle.semantics.specs.Graph.{same_name}
use Rattle.semantics.proofs.Lines.{same_name_is, same_name_itself}
use Rattle.source.specs.declared.fault.FaultKind.TheVariants.{SameName, BadBound}
use Rattle.source.specs.Tree as core
use Rattle.source.specs.Tree.{Name, NameAt, NumberAt, Target, Bind, Drop}
use Rattle.source.specs.Outside.{is_in, bare, bound_by}
use Rattle.source.specs.Rules as core_rules
use Rattle.source.specs.Rules.{item_names, function_in, array_in, written_or_one}
use Rattle.surface.specs.declared.fault.Fault.{Fault}
use Rattle.surface.specs.declared.fault.FaultKind.TheVariants.{Core}
use Rattle.surface.specs.First.{must_be}
use Rattle.surface.specs.Tree.{Count, Expr, Number, Named, Bracket, Prefix, Infix, And, Or, Not, Fetch, Store, Call, If, Loop, For}
use Rattle.surface.specs.Known.{Known, Signature, lookup, natural, all_values, called, Callee, Missing, OfValues, OfArrays, IsBuiltIn, callee}
use Rattle.surface.specs.Constants.{place_of, count_of, count_place, number_or_zero, counted}
use Rattle.surface.specs.Making.{Made, ◌>>=◌, hidden, bound_to}
use Rattle.surface.specs.CoreForms.{numeral}
use Rattle.surface.specs.Rules.{Around, new_name, new_targets, is_constant, rank_of, argument_rank, good_bound, good_bound_if_written, no_values}
use Rattle.surface.specs.Rules.{is_neg, is_number, is_numeral, is_carried, one_if}
use Rattle.surface.specs.Desugar.{Setting, array_for, is_array, array_passed, instance_name, stands_for_itself, atom, as_name, constant_or_value}
use Rattle.surface.specs.Desugar.{bound_or_four, desugar}
use Rattle.surface.specs.Instances.{Wanted, wanted_by}
use Rattle.law_surface.proofs.Steps.{then_ok, must_ok, must_then}
use Rattle.law_surface.proofs.WiderScope.{Includes, behind_more}
use Rattle.law_surface.proofs.Narrower.{in_front}
use Rattle.law_surface.proofs.RulesMade.{MakesIn, in_made, in_then, in_bound, Has, NoItem, name_has}
use Rattle.law_surface.proofs.CoreLoops.{InBounds, IsNew}
use Rattle.law_surface.proofs.Positive.{AllHaveResults, callee_is}

abbrev pub around : Setting → List (Name × ℕ) → Around
around s arrays = record { known = s.known; arrays = arrays }

-- a function of the core with so many parameters and results
pub record IsFunction (q : core.Program) (f : Name) (params results : ℕ) : Type 0 where
  pub function : core.Function
  pub found : function_in q f ≡ Some function
  pub params_are : length function.params ≡ params
  pub results_are : written_or_one function.results ≡ results

-- how many parameters are values
abbrev pub zeros : List ℕ → ℕ
zeros [] = 0
zeros (n ∷ ns) = (if n == 0 then 1 else 0) + zeros ns

-- what a call with arrays needs
abbrev pub HasInstance : core.Program → Setting → Wanted → Type 0
HasInstance q s w = (sig : Signature) → lookup s.known.functions w.function ≡ Some sig → IsFunction q (instance_name s.instances w.function w.arrays) (zeros
    sig.ranks) sig.results

-- a name that is that of no item before is that of no item of the core
abbrev pub Fresh : core.Program → Known → Name → Type 0
Fresh q known x = is_in x known.names ≡ false → NoItem q x

pub record Signed (q : core.Program) (f : Name) (sig : Signature) : Type 0 where
  pub results : 1 ≤ sig.results
  pub values : 1 ≤ zeros sig.ranks
  pub plain : all_values sig.ranks ≡ true → IsFunction q f (length sig.ranks) sig.results

-- the names of arrays, and their dimensions
pub record ArraysAre (s : Setting) (ranks : List (Name × ℕ)) : Type 0 where
  pub same : (x : Name) → is_some (rank_of (around s ranks) x) ≡ is_array s x
  pub ranked : (x : Name) (n : ℕ) → rank_of (around s ranks) x ≡ Some n → (n == 0) ≡ false

pub record Surroundings (q : core.Program) (s : Setting) (ranks : List (Name × ℕ)) : Type 0 where
  pub hidden_new : (n : ℕ) → NoItem q (hidden s.prefix n)
  pub arrays_are : ArraysAre s ranks
  pub arrays : (x : Name) → is_array s x ≡ true → is_some (array_in q (array_for s x)) ≡ true
  pub functions : (f : Name) (sig : Signature) → lookup s.known.functions f ≡ Some sig → Signed q f sig

-- WHAT IS CALLED
abbrev pub IsCalled : core.Program → Setting → Name → Callee → Type 0
IsCalled q s f Missing = ⊤
IsCalled q s f (OfValues params results) = IsFunction q f params results
IsCalled q s f (OfArrays ranks results) = (1 ≤ zeros ranks) × ((arrays : List Name) → HasInstance q s (record { function = f; arrays = arrays })
    → IsFunction q (instance_name s.instances f arrays) (zeros ranks) results)
IsCalled q s f (IsBuiltIn which) = ⊤

signed_is : (q : core.Program) (s : Setting) (f : Name) (sig : Signature) → lookup s.known.functions f ≡ Some sig → Signed q f sig → IsCalled q s f (called sig)
signed_is q s f sig e g = go (all_values sig.ranks) refl
  where
    go : (b : Bool) → all_values sig.ranks ≡ b → IsCalled q s f (if b then OfValues (length sig.ranks) sig.results else OfArrays sig.ranks sig.results)
    go true t = g.plain t
    go false t = (g.values, λ arrays h. h sig e)

pub callee_called : (q : core.Program) (s : Setting) (ranks : List (Name × ℕ)) → Surroundings q s ranks → (strict : Bool) (f : Name) → IsCalled q s f (callee
    s.known strict f)
callee_called q s ranks w strict f = callee_is (IsCalled q s f) strict f (lookup s.known.functions f) tt (λ which. tt) (λ sig e. signed_is q s f sig e
    (w.functions f sig e))

-- ARGUMENTS: an array is passed, or values
pub data Passes (a : Around) (s : Setting) (e : Expr) : Type 0 where
  an_array : (rank : ℕ) (array : Name) → argument_rank a e ≡ Some rank → (rank == 0) ≡ false → array_passed s e ≡ Some array → Passes a s e
  values : argument_rank a e ≡ None → array_passed s e ≡ None → Passes a s e

name_passes : (s : Setting) (ranks : List (Name × ℕ)) → ArraysAre s ranks → (at : ℕ) (x : Name) → Passes (around s ranks) s (Named at x)
name_passes s ranks w at x = go (rank_of (around s ranks) x) (is_array s x) refl refl
  where
    go : (o : Option ℕ) (b : Bool) → rank_of (around s ranks) x ≡ o → is_array s x ≡ b → Passes (around s ranks) s (Named at x)
    go (Some n) true e t = an_array n (array_for s x) e (w.ranked x n e) (ap (λ (b : Bool). if b then Some (array_for s x) else None) t)
    go (Some n) false e t =
        let so : is_some (rank_of (around s ranks) x) ≡ is_array s x = w.same x in
        let there : is_some (rank_of (around s ranks) x) ≡ true = ap (λ (o : Option ℕ). is_some o) e in absurd (cc)
    go None true e t =
        let so : is_some (rank_of (around s ranks) x) ≡ is_array s x = w.same x in
        let there : is_some (rank_of (around s ranks) x) ≡ false = ap (λ (o : Option ℕ). is_some o) e in absurd (cc)
    go None false e t = values e (ap (λ (b : Bool). if b then Some (array_for s x) else None) t)

pub passes : (s : Setting) (ranks : List (Name × ℕ)) → ArraysAre s ranks → (e : Expr) → Passes (around s ranks) s e
passes s ranks w (Named at x) = name_passes s ranks w at x
passes s ranks w e = values refl refl

pub array_there : (q : core.Program) (s : Setting) (ranks : List (Name × ℕ)) → Surroundings q s ranks → (x : Name) (n : ℕ) → rank_of (around s ranks) x ≡ Some
    n → is_some (array_in q (array_for s x)) ≡ true
array_there q s ranks w x n e = w.arrays x (sym (w.arrays_are.same x) ∙ ap (λ (o : Option ℕ). is_some o) e)

-- NEW NAMES
new_parts : (a b c : Bool) → (not a && not b && not c) ≡ true → (a ≡ false) × (b ≡ false) × (c ≡ false)
new_parts true b c h = cc
new_parts false true c h = cc
new_parts false false true h = cc
new_parts false false false h = (refl, refl, refl)

pub record NameIsNew (a : Around) (before : List Name) (x : Name) : Type 0 where
  pub item : is_in x a.known.names ≡ false
  pub array : is_some (lookup a.arrays x) ≡ false
  pub again : is_in x before ≡ false

pub name_is_new : (a : Around) (before : List Name) (x : NameAt) (t : ⊤) → new_name a before x ≡ Ok t → NameIsNew a before x.name
name_is_new a before x t h =
    let k = new_parts (is_in x.name a.known.names) (is_some (lookup a.arrays x.name)) (is_in x.name before) (must_ok (not (is_in x.name a.known.names) && not
    (is_some (lookup a.arrays x.name)) && not (is_in x.name before)) (Core SameName) x.at t h) in
    record { item = k.0; array = k.1; again = k.2 }

pub new_in_core : (q : core.Program) (a : Around) (before : List Name) (x : Name) → Fresh q a.known x → NameIsNew a before x → IsNew q before x
new_in_core q a before x f n = rw (f n.item) (rw n.again refl)

keys : {A : Type 0} → (entries : List (Name × A)) (x : Name) → is_some (lookup entries x) ≡ false → is_in x (map (λ (entry : Name × A). entry.0) entries) ≡ false
keys [] x h = refl
keys {A = A} (entry ∷ entries) x h = go (same_name x entry.0) h (λ e. keys entries x e)
  where
    go : (b : Bool) → is_some (if b then Some entry.1 else lookup entries x) ≡ false → (is_some (lookup entries x) ≡ false → is_in x (map (λ (entry : Name × A).
        entry.0) entries) ≡ false) → (b || is_in x (map (λ (entry : Name × A). entry.0) entries)) ≡ false
    go true e later = cc
    go false e later = later e

pub neither : (xs ys : List Name) (x : Name) → is_in x xs ≡ false → is_in x ys ≡ false → is_in x (xs ++ ys) ≡ false
neither [] ys x h g = g
neither (y ∷ xs) ys x h g = go (same_name x y) h (λ e. neither xs ys x e g)
  where
    go : (b : Bool) → (b || is_in x xs) ≡ false → (is_in x xs ≡ false → is_in x (xs ++ ys) ≡ false) → (b || is_in x (xs ++ ys)) ≡ false
    go true e later = cc
    go false e later = later e

-- NAMES IN SCOPE are values.
abbrev pub Apart : Around → List Name → Type 0
Apart a scope = (x : Name) → is_in x scope ≡ true → is_in x (no_values a) ≡ false

new_apart : (a : Around) (before : List Name) (x : Name) → NameIsNew a before x → is_in x (no_values a) ≡ false
new_apart a before x n = neither (map (λ (entry : Name × ℕ). entry.0) a.arrays) a.known.names x (keys a.arrays x n.array) n.item

pub and_apart : (a : Around) (before : List Name) (x : Name) (scope : List Name) → NameIsNew a before x → Apart a scope → Apart a (x ∷ scope)
and_apart a before x scope n p y e = go (same_name y x) refl e
  where
    go : (b : Bool) → same_name y x ≡ b → (b || is_in y scope) ≡ true → is_in y (no_values a) ≡ false
    go true t e = ap (λ (z : Name). is_in z (no_values a)) (same_name_is y x t) ∙ new_apart a before x n
    go false t e = p y e

-- TARGETS
pub record TargetsNew (q : core.Program) (a : Around) (targets : List Target) (before scope : List Name) : Type 0 where
  pub core : core_rules.new_targets q before targets ≡ Ok tt
  pub apart : Apart a (bound_by targets ++ scope)

pub targets_are_new : (q : core.Program) (a : Around) (before scope : List Name) (targets : List Target) → Each (Fresh q a.known) (bound_by targets)
    → new_targets a before targets ≡ Ok tt → Apart a scope → TargetsNew q a targets before scope
targets_are_new q a before scope [] f h p = record { core = refl; apart = p }
targets_are_new q a before scope (Drop ∷ targets) f h p =
    let rest : TargetsNew q a targets before scope = targets_are_new q a before scope targets f h p in record { core = rest.core; apart = rest.apart }
targets_are_new q a before scope (Bind x ∷ targets) f h p =
    let s = then_ok (new_name a before x) (λ new. new_targets a (x.name ∷ before) targets) tt h in
    let n : NameIsNew a before x.name = name_is_new a before x s.0 s.1 in
    let rest : TargetsNew q a targets (x.name ∷ before) scope = targets_are_new q a (x.name ∷ before) scope targets f.1 s.2 p in
    record {
      core = rw (new_in_core q a before x.name f.0 n) rest.core;
      apart = and_apart a before x.name (bound_by targets ++ scope) n rest.apart;
    }

-- BOUNDS
in_range : (z : ℤ) → (int_le (pos 2) z && int_le z (pos 64)) ≡ true → (nat_le 2 (natural z) && nat_le (natural z) 64) ≡ true
in_range (pos n) h = h
in_range (negsuc n) h = cc

pub bound_is : (a : Around) (k : Count) → good_bound a k ≡ Ok tt → InBounds (counted a.known k)
bound_is a k h =
    let test : ℤ → Bool = λ z. int_le (pos 2) z && int_le z (pos 64) in
    let s = then_ok (count_of a.known k) (λ z. must_be (test z) BadBound (count_place k)) tt h in
    let r = in_range s.0 (must_ok (test s.0) (Core BadBound) (count_place k) tt s.2) in
    subst (λ (r : Result ℤ Fault). (nat_le 2 (number_or_zero r) && nat_le (number_or_zero r) 64) ≡ true) (sym s.1) r

pub bound_if_written : (a : Around) (at : ℕ) (k : Option Count) → good_bound_if_written a k ≡ Ok tt → InBounds (bound_or_four a.known at k)
bound_if_written a at None h = refl
bound_if_written a at (Some k) h = bound_is a k h

-- NAMES AND NUMBERS
numeral_has : (q : core.Program) (scope : List Name) (at : ℕ) (z : ℤ) → Has q 1 scope (numeral at z)
numeral_has q scope at (pos n) = refl
numeral_has q scope at (negsuc n) = refl

pub constant_or_name : (q : core.Program) (known : Known) (scope : List Name) (at : ℕ) (x : Name) → (is_constant known x ≡ false → is_in x scope ≡ true) → Has q 1
    scope (constant_or_value at x (lookup known.constants x))
constant_or_name q known scope at x h = go (lookup known.constants x) refl
  where
    go : (o : Option ℤ) → lookup known.constants x ≡ o → Has q 1 scope (constant_or_value at x o)
    go (Some z) e = numeral_has q scope at z
    go None e = name_has q scope at x (h (ap (λ (o : Option ℤ). is_some o) e))

-- a number, in any scope
pub number_has : (q : core.Program) (s : Setting) (scope : List Name) (e : Expr) (n : ℕ) → is_numeral s.known e ≡ true → Has q 1 scope (desugar s false e n).it
number_has q s scope (Number at v) n h = refl
number_has q s scope (Named at x) n h = constant_or_name q s.known scope at x (λ e. absurd (cc))
number_has q s scope (Bracket e) n h = number_has q s scope e n h
number_has q s scope (Prefix at op (Number t v)) n h = refl
number_has q s scope (Prefix at op e) n h = cc
number_has q s scope e n h = cc

-- ATOMS
pub in_atom : (q : core.Program) (s : Setting) (ranks : List (Name × ℕ)) → Surroundings q s ranks → (scope hiding : List Name) (e : Expr) (m : ℕ → Made core.Expr)
    → MakesIn q scope (Has q 1) m → MakesIn q scope (Has q 1) (atom s hiding e m)
in_atom q s ranks w scope hiding e m h = go (stands_for_itself s hiding e)
  where
    go : (b : Bool) → MakesIn q scope (Has q 1) (if b then m else m >>= (λ x. bound_to s.prefix (place_of e) x))
    go true = h
    go false = in_then q scope (Has q 1) (Has q 1) m (λ x. bound_to s.prefix (place_of e) x) h (λ wider i x g. in_bound q wider s.prefix (place_of e) x
        w.hidden_new g)

pub in_name : (q : core.Program) (s : Setting) (ranks : List (Name × ℕ)) → Surroundings q s ranks → (scope : List Name) (at : ℕ) (e : core.Expr) → Has q 1 scope e
    → MakesIn q scope (Has q 1) (as_name s at e)
in_name q s ranks w scope at (core.Named x_at x) h = in_made q scope (Has q 1) (core.Named x_at x) h
in_name q s ranks w scope at e h = in_bound q scope s.prefix at e w.hidden_new h

-- THE END OF A RANGE: it needs no name but those of the turn, or one more.
abbrev pub EndIs : core.Program → List Name → List Name → Bool → core.Expr → Type 0
EndIs q bound outside carried b = (extra : List Name) × (length extra ≤ one_if carried) × Has q 1 (bound ++ (extra ++ outside)) b

no_extra : (q : core.Program) (bound outside : List Name) (carried : Bool) (b : core.Expr) → Has q 1 (bound ++ outside) b → EndIs q bound outside carried b
no_extra q bound outside carried b h = ([], omega arith, h)

-- one more that is carried
one_extra : (q : core.Program) (bound outside : List Name) (carried : Bool) (at : ℕ) (x : Name) → carried ≡ true → EndIs q bound outside carried (core.Named at x)
one_extra q bound outside carried at x e =
    let there : is_in x (x ∷ outside) ≡ true = ap (λ (b : Bool). b || is_in x outside) (same_name_itself x) in
    let one : 1 ≤ one_if carried = subst (λ (b : Bool). 1 ≤ one_if b) (sym e) (omega arith) in
    (x ∷ [], one, name_has q (bound ++ x ∷ outside) at x (behind_more bound (x ∷ outside) x there))

carried_other : (c b o : Bool) → c ≡ false → b ≡ false → o ≡ false → (not c && (b || not o)) ≡ true
carried_other c b o e f g = rw e (rw f (rw g refl))

carried_bound : (c b o : Bool) → c ≡ false → b ≡ true → (not c && (b || not o)) ≡ true
carried_bound c b o e f = rw e (rw f refl)

not_false : (b : Bool) → not b ≡ true → b ≡ false
not_false true h = cc
not_false false h = refl

itself_is : (c b : Bool) → (c || not b) ≡ true → c ≡ false → b ≡ false
itself_is true b h e = cc
itself_is false true h e = cc
itself_is false false h e = refl

hides : (c b : Bool) → (c || not b) ≡ false → (c ≡ false) × (b ≡ true)
hides true b h = cc
hides false true h = (refl, refl)
hides false false h = cc

name_end : (q : core.Program) (s : Setting) (bound outside : List Name) (at : ℕ) (x : Name) → stands_for_itself s bound (Named at x) ≡ true
    → EndIs q bound outside (is_carried s.known bound outside (Named at x)) (constant_or_value at x (lookup s.known.constants x))
name_end q s bound outside at x h = go (lookup s.known.constants x) refl (is_in x outside) refl
  where
    go : (o : Option ℤ) → lookup s.known.constants x ≡ o → (b : Bool) → is_in x outside ≡ b → EndIs q bound outside (is_carried s.known bound outside (Named at
        x)) (constant_or_value at x o)
    go (Some z) e b t = no_extra q bound outside (is_carried s.known bound outside (Named at x)) (numeral at z) (numeral_has q (bound ++ outside) at z)
    go None e true t = no_extra q bound outside (is_carried s.known bound outside (Named at x)) (core.Named at x) (name_has q (bound ++ outside) at x
        (behind_more bound outside x t))
    go None e false t =
        let plain : is_constant s.known x ≡ false = ap (λ (o : Option ℤ). is_some o) e in
        one_extra q bound outside (is_carried s.known bound outside (Named at x)) at x (carried_other (is_constant s.known x) (is_in x bound) (is_in x outside)
        plain (itself_is (is_constant s.known x) (is_in x bound) h plain) t)

itself_end : (q : core.Program) (s : Setting) (bound outside : List Name) (e : Expr) (n : ℕ) → stands_for_itself s bound e ≡ true → EndIs q bound outside
    (is_carried s.known bound outside e) (desugar s false e n).it
itself_end q s bound outside (Named at x) n h = name_end q s bound outside at x h
itself_end q s bound outside e n h = no_extra q bound outside (is_carried s.known bound outside e) (desugar s false e n).it (number_has q s (bound ++ outside)
    e n h)

hidden_carried : (s : Setting) (bound outside : List Name) (e : Expr) → stands_for_itself s bound e ≡ false → is_carried s.known bound outside e ≡ true
hidden_carried s bound outside (Named at x) h =
    let k = hides (is_constant s.known x) (is_in x bound) h in carried_bound (is_constant s.known x) (is_in x bound) (is_in x outside) k.0 k.1
hidden_carried s bound outside e h = ap (λ (b : Bool). not b) h

pub end_is : (q : core.Program) (s : Setting) (bound outside : List Name) (e : Expr) (n : ℕ) → EndIs q bound outside (is_carried s.known bound outside e) (atom s
    bound e (desugar s false e) n).it
end_is q s bound outside e n = go (stands_for_itself s bound e) refl
  where
    go : (b : Bool) → stands_for_itself s bound e ≡ b → EndIs q bound outside (is_carried s.known bound outside e) ((if b then desugar s false e else (desugar s false e) >>= (λ x. bound_to s.prefix
        (place_of e) x)) n).it
    go true t = itself_end q s bound outside e n t
    go false t = one_extra q bound outside (is_carried s.known bound outside e) (place_of e) (hidden s.prefix (desugar s false e n).given) (hidden_carried s bound
        outside e t)
