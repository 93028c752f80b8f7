-- An evaluation has one answer: by induction on one of two.
use Rattle.std.specs.Prelude.{◌≡◌, refl, ℕ, true, false, List, [], ◌∷◌, ◌++◌, Option, Some}
use Rattle.std.proofs.Common.{subst}
use Rattle.tags.specs.declared.value.Value.{Value}
use Rattle.tags.specs.declared.value.Origin.{Origin}
use Rattle.operators.specs.declared.Unary.{Unary}
use Rattle.operators.specs.Values.{truth, apply1, Indexed, Place, Outside}
use Rattle.source.specs.declared.word.InfixSign.{InfixSign}
use Rattle.source.specs.Tree.{Name, NameAt, Target, Expr, Exprs, Body, Turn, Function}
use Rattle.source.specs.Evaluates.{World, Env, Stores, operated, entered, let_in, function, place_in, Reads, answer, filled, Evaluates}
use Rattle.source.specs.Evaluates.{EvaluatesAll, Runs, Turns, number, named, bracket, prefix, infix_, fetch, store, call, if_true, if_false, loop}
use Rattle.source.specs.Evaluates.{one, more, lets, does, gives, chain, leaves, goes, ends, again}
use Rattle.source.specs.Once.{OneAnswer, OneOutput}

-- two answers are one
abbrev Same : List Value → List Value → Stores → Stores → Type 0
Same vs us ss qs = (vs ≡ us) × (ss ≡ qs)

named_same : (o : Option Value) (v u : Value) → o ≡ Some v → o ≡ Some u → Same (v ∷ []) (u ∷ []) [] []
named_same o v u p q = (cc, refl)

prefix_same : (op : Unary) (v u : Value) (ss qs : Stores) → Same (v ∷ []) (u ∷ []) ss qs → Same (apply1 op v ∷ []) (apply1 op u ∷ []) ss qs
prefix_same op v u ss qs h = let p : v ≡ u = cc in (subst (λ x. apply1 op v ∷ [] ≡ apply1 op x ∷ []) p refl, h.1)

infix_same : (s : InfixSign) (o : Origin) (x y v u : Value) (ss us qs ts : Stores) → Same (x ∷ []) (v ∷ []) ss qs → Same (y ∷ []) (u ∷ []) us ts
    → Same (operated s x y o ∷ []) (operated s v u o ∷ []) (ss ++ us) (qs ++ ts)
infix_same s o x y v u ss us qs ts h k = let p : x ≡ v = cc in let q : y ≡ u = cc in
    (subst (λ a. operated s x y o ∷ [] ≡ operated s a u o ∷ []) p (subst (λ a. operated s x y o ∷ [] ≡ operated s x a o ∷ []) q refl), cc)

reads_same : (w : World) (i : Indexed) (v u : Value) → Reads w i v → Reads w i u → v ≡ u
reads_same w (Place x) v u p q = cc
reads_same w (Outside f) v u p q = cc

fetch_same : (w : World) (t : ℕ) (a : Name) (i j v u : Value) (ss qs : Stores) → Same (i ∷ []) (j ∷ []) ss qs → Reads w (place_in w t a i) v → Reads w
    (place_in w t a j) u
    → Same (v ∷ []) (u ∷ []) ss qs
fetch_same w t a i j v u ss qs h r s =
    let p : j ≡ i = cc in
    let e : v ≡ u = reads_same w (place_in w t a i) v u r (subst (λ x. Reads w (place_in w t a x) u) p s) in
    (cc, h.1)

store_same : (w : World) (t : ℕ) (a : Name) (i j v u : Value) (ss qs us ts : Stores) → Same (i ∷ []) (j ∷ []) ss qs → Same (v ∷ []) (u ∷ []) us ts
    → Same (answer (place_in w t a i) v ∷ []) (answer (place_in w t a j) u ∷ []) (ss ++ us ++ filled (place_in w t a i) v) (qs ++ ts ++ filled (place_in w t
    a j) u)
store_same w t a i j v u ss qs us ts h k =
    let p : i ≡ j = cc in let q : v ≡ u = cc in
    subst (λ x. Same (answer (place_in w t a i) v ∷ []) (answer (place_in w t a x) u ∷ []) (ss ++ us ++ filled (place_in w t a i) v) (qs ++ ts ++ filled
    (place_in w t a x) u)) p
    (subst (λ y. Same (answer (place_in w t a i) v ∷ []) (answer (place_in w t a i) y ∷ []) (ss ++ us ++ filled (place_in w t a i) v) (qs ++ ts ++ filled
    (place_in w t a i) y)) q (refl, cc))

-- two parts, of which the second has the values
then_same : (vs us : List Value) (ss qs ks bs : Stores) → ss ≡ qs → Same vs us ks bs → Same vs us (ss ++ ks) (qs ++ bs)
then_same vs us ss qs ks bs h k = (k.0, cc)

-- two parts, of which the first has the values
first_same : (vs us bs cs : List Value) (ss qs ks ts : Stores) → Same vs us ss qs → Same bs cs ks ts → Same vs us (ss ++ ks) (qs ++ ts)
first_same vs us bs cs ss qs ks ts h k = (h.0, cc)

-- three parts, of which the last has the values
last_same : (vs us : List Value) (ss qs ks bs ts cs : Stores) → ss ≡ qs → ks ≡ bs → Same vs us ts cs → Same vs us (ss ++ ks ++ ts) (qs ++ bs ++ cs)
last_same vs us ss qs ks bs ts cs h k l = (l.0, cc)

-- a predicate has one truth
one_truth : {A : Type 0} (b c : Value) (ss qs : Stores) → Same (b ∷ []) (c ∷ []) ss qs → truth b ≡ true → truth c ≡ false → A
one_truth b c ss qs h p q =
    let e : b ≡ c = cc in
    let f : true ≡ false = cc in
    absurd (subst (λ x. elim x as (λ y. Type 0) [ true ↦ Unit {0} | false ↦ ⊥ ]) f tt)

other_truth : {A : Type 0} (b c : Value) (ss qs : Stores) → Same (b ∷ []) (c ∷ []) ss qs → truth b ≡ false → truth c ≡ true → A
other_truth b c ss qs h p q = one_truth c b qs ss (cc, cc) q p

-- the second of two derivations, under the names that the first has
entered_at : (w : World) (f : Name) (g k : Function) (vs us rs : List Value) (ss : Stores) → function w f ≡ Some g → function w f ≡ Some k → vs ≡ us
    → Runs w (entered k.params us []) k.body rs ss → Runs w (entered g.params vs []) g.body rs ss
entered_at w f g k vs us rs ss p q h r = let e : k ≡ g = cc in let d : us ≡ vs = cc in
    subst (λ x. Runs w (entered x.params vs []) x.body rs ss) e (subst (λ x. Runs w (entered k.params x []) k.body rs ss) d r)

let_at : (w : World) (targets : List Target) (env : Env) (b : Body) (vs us rs : List Value) (ss : Stores) → vs ≡ us → Runs w (let_in targets us env) b rs ss
    → Runs w (let_in targets vs env) b rs ss
let_at w targets env b vs us rs ss h r = let d : us ≡ vs = cc in subst (λ x. Runs w (let_in targets x env) b rs ss) d r

turns_at : (w : World) (env : Env) (l : Turn) (vs us rs : List Value) (ss : Stores) → vs ≡ us → Turns w env l us rs ss → Turns w env l vs rs ss
turns_at w env l vs us rs ss h r = let d : us ≡ vs = cc in subst (λ x. Turns w env l x rs ss) d r

test_at : (w : World) (xs : List NameAt) (env : Env) (p : Expr) (vs us rs : List Value) (ss : Stores) → vs ≡ us → Evaluates w (entered xs us env) p rs ss →
    Evaluates w (entered xs vs env) p rs ss
test_at w xs env p vs us rs ss h r = let d : us ≡ vs = cc in subst (λ x. Evaluates w (entered xs x env) p rs ss) d r

mutual
  evaluates_once : {w : World} {env : Env} {e : Expr} {vs us : List Value} {ss qs : Stores} → Evaluates w env e vs ss → Evaluates w env e us qs → Same vs us
      ss qs
  evaluates_once number number = (refl, refl)
  evaluates_once (named p) (named q) = named_same _ _ _ p q
  evaluates_once (bracket d) (bracket c) = evaluates_once d c
  evaluates_once (prefix d) (prefix c) = prefix_same _ _ _ _ _ (evaluates_once d c)
  evaluates_once (infix_ d e) (infix_ c b) = infix_same _ _ _ _ _ _ _ _ _ _ (evaluates_once d c) (evaluates_once e b)
  evaluates_once {w = w} (fetch {t = t} {a = a} d r) (fetch c s) = fetch_same w t a _ _ _ _ _ _ (evaluates_once d c) r s
  evaluates_once {w = w} (store {t = t} {a = a} d e) (store c b) = store_same w t a _ _ _ _ _ _ _ _ (evaluates_once d c) (evaluates_once e b)
  evaluates_once (call d p r) (call c q s) = let h = all_once d c in then_same _ _ _ _ _ _ h.1 (runs_once r (entered_at _ _ _ _ _ _ _ _ p q h.0 s))
  evaluates_once (if_true d p r) (if_true c q s) = then_same _ _ _ _ _ _ ((evaluates_once d c).1) (runs_once r s)
  evaluates_once (if_true d p r) (if_false c q s) = one_truth _ _ _ _ (evaluates_once d c) p q
  evaluates_once (if_false d p r) (if_true c q s) = other_truth _ _ _ _ (evaluates_once d c) p q
  evaluates_once (if_false d p r) (if_false c q s) = then_same _ _ _ _ _ _ ((evaluates_once d c).1) (runs_once r s)
  evaluates_once (loop d r) (loop c s) = let h = all_once d c in then_same _ _ _ _ _ _ h.1 (turns_once r (turns_at _ _ _ _ _ _ _ h.0 s))

  all_once : {w : World} {env : Env} {e : Exprs} {vs us : List Value} {ss qs : Stores} → EvaluatesAll w env e vs ss → EvaluatesAll w env e us qs → Same vs
      us ss qs
  all_once (one d) (one c) = evaluates_once d c
  all_once (more d e) (more c b) = let h = evaluates_once d c in let k = all_once e b in (cc, cc)

  runs_once : {w : World} {env : Env} {e : Body} {vs us : List Value} {ss qs : Stores} → Runs w env e vs ss → Runs w env e us qs → Same vs us ss qs
  runs_once {env = env} (lets {targets = targets} d r) (lets c s) = let h = all_once d c in then_same _ _ _ _ _ _ h.1 (runs_once r (let_at _ targets env _ _
      _ _ _ h.0 s))
  runs_once (does d r) (does c s) = then_same _ _ _ _ _ _ ((all_once d c).1) (runs_once r s)
  runs_once (gives d) (gives c) = all_once d c
  runs_once (chain d) (chain c) = evaluates_once d c

  turns_once : {w : World} {env : Env} {e : Turn} {vs rs us : List Value} {ss qs : Stores} → Turns w env e vs rs ss → Turns w env e vs us qs → Same rs us ss qs
  turns_once (leaves d p) (leaves c q) = (refl, (evaluates_once d c).1)
  turns_once (leaves d p) (goes c q s t) = other_truth _ _ _ _ (evaluates_once d c) p q
  turns_once (goes d p r t) (leaves c q) = one_truth _ _ _ _ (evaluates_once d c) p q
  turns_once (goes d p r t) (goes c q s u) = let h = runs_once r s in last_same _ _ _ _ _ _ _ _ ((evaluates_once d c).1) h.1 (turns_once t (turns_at _ _ _ _
      _ _ _ h.0 u))
  turns_once {env = env} (ends {xs = xs} r d p) (ends s c q) = let h = runs_once r s in first_same _ _ _ _ _ _ _ _ h (evaluates_once d (test_at _ xs env _ _
      _ _ _ h.0 c))
  turns_once {env = env} (ends {xs = xs} r d p) (again s c q t) = let h = runs_once r s in other_truth _ _ _ _ (evaluates_once d (test_at _ xs env _ _ _ _ _
      h.0 c)) p q
  turns_once {env = env} (again {xs = xs} r d p t) (ends s c q) = let h = runs_once r s in one_truth _ _ _ _ (evaluates_once d (test_at _ xs env _ _ _ _ _
      h.0 c)) p q
  turns_once {env = env} (again {xs = xs} r d p t) (again s c q u) = let h = runs_once r s in let k = evaluates_once d (test_at _ xs env _ _ _ _ _ h.0 c) in
      last_same _ _ _ _ _ _ _ _ h.1 k.1 (turns_once t (turns_at _ _ _ _ _ _ _ h.0 u))

pub one_answer : OneAnswer
one_answer w env e vs us ss qs d c = evaluates_once d c

pub one_output : OneOutput
one_output w arguments vs us ss qs d c = runs_once d.runs (entered_at w _ d.main c.main arguments arguments us qs d.named c.named refl c.runs)
