-- LISTS OF INVOCATIONS that are made at a range of nodes, and how many they are.
use Rattle.std.proofs.Common.{◌≡◌, ℕ, zero, suc, ◌+◌, ◌<◌, ◌≤◌, Bool, true, false, cond, List, [], ◌∷◌, ◌++◌, length, Some, Contains, refl, sym, ap, ◌∙◌, subst, arith}
use Rattle.std.proofs.Common.{length-append, ltb-true, ltb-false, ⊎_elim}
use Rattle.std.specs.Prelude.{⊤, nat_lt, count_by}
use Rattle.std.proofs.lemmas.List.Elements.{Contains-append_left, Contains-append_right, Contains-append_cases}
use Rattle.std.proofs.lemmas.List.Sums.{sum_by-cons}
use Rattle.std.proofs.lemmas.Option.{same_Some}
use Rattle.lemmas.proofs.Contains.{contains_none, contains_head, contains_tail, get_contains}
use Rattle.lemmas.proofs.Permutations.{Each}
use Rattle.semantics.specs.declared.graph.Kind.{Kind}
use Rattle.semantics.specs.declared.graph.Kind.TheVariants.{Call, StrictCall, Loop}
use Rattle.semantics.specs.Graph.{Node, Block, node_at}
use Rattle.semantics.specs.Meaning.{Context, IsCall, IsLoop, block_of, node_in, node_of}
use Rattle.semantics.specs.Cause.{is_turn}
use Rattle.source.specs.Holds.{Holds}
use Rattle.law_completion.specs.TotalProgram.{Count, none, both}
use Rattle.law_completion.proofs.DueGrows.{AllDiffer, differ_head, differ_tail}
use Rattle.law_language.proofs.MeansScene.{Scene, flow, DueIn}
use Rattle.law_program_counts.proofs.MadeAt.{made_at, made_line}

-- no invocation that is due is made at nodes from lo on and below hi
abbrev pub Empty : Scene → Context → ℕ → ℕ → Type 0
Empty z c lo hi = (d : Context) (n : ℕ) → DueIn z d → made_at c d ≡ Some n → lo ≤ n → n < hi → ⊥

-- Those that are due and made there are just these, each once, and these are as many as are counted.
abbrev pub MadeIn : Context → ℕ → ℕ → Context → Type 0
MadeIn c lo hi d = (n : ℕ) × (made_at c d ≡ Some n) × (lo ≤ n) × (n < hi)

pub record Lists (z : Scene) (c : Context) (lo hi : ℕ) (count : Count) : Type 0 where
  pub invocations : List Context
  pub many : length invocations ≡ count.calls + count.turns
  pub turns : count_by is_turn invocations ≡ count.turns
  pub all : (d : Context) (n : ℕ) → DueIn z d → made_at c d ≡ Some n → lo ≤ n → n < hi → Contains invocations d
  pub just : (d : Context) → Contains invocations d → DueIn z d × MadeIn c lo hi d
  pub differ : AllDiffer invocations

-- COUNTING
pub count_more : {X : Type 0} (f : X → Bool) (x : X) (xs : List X) → count_by f (x ∷ xs) ≡ cond (f x) 1 0 + count_by f xs
count_more f x xs = sum_by-cons (λ y. cond (f y) 1 0) x xs

pub count_both : {X : Type 0} (f : X → Bool) (xs ys : List X) → count_by f (xs ++ ys) ≡ count_by f xs + count_by f ys
count_both f [] ys = omega arith
count_both f (x ∷ xs) ys =
    let a = count_more f x (xs ++ ys) in let b = count_more f x xs in let c = count_both f xs ys in omega (arith, a, b, c)

-- DIFFERENT ONES
pub differ_cons : {X : Type 0} (x : X) (xs : List X) → (Contains xs x → ⊥) → AllDiffer xs → AllDiffer (x ∷ xs)
differ_cons x xs out d zero zero y a b = refl
differ_cons x xs out d zero (suc j) y a b = absurd (out (subst (Contains xs) (sym (same_Some x y a)) (get_contains xs j y b)))
differ_cons x xs out d (suc i) zero y a b = absurd (out (subst (Contains xs) (sym (same_Some x y b)) (get_contains xs i y a)))
differ_cons x xs out d (suc i) (suc j) y a b = ap suc (d i j y a b)

pub differ_both : {X : Type 0} (xs ys : List X) → AllDiffer xs → AllDiffer ys → ((x : X) → Contains xs x → Contains ys x → ⊥) → AllDiffer (xs ++ ys)
differ_both [] ys d e apart = e
differ_both (x ∷ xs) ys d e apart =
    differ_cons x (xs ++ ys)
    (λ h. ⊎_elim (λ k. differ_head x xs d k) (λ k. apart x (contains_head x xs) k) (Contains-append_cases xs ys x h))
    (differ_both xs ys (differ_tail x xs d) e (λ y h k. apart y (contains_tail x xs y h) k))

module _ (z : Scene) (c : Context) where
  -- RANGES one after the other
  pub lists_none : (lo hi : ℕ) → Empty z c lo hi → Lists z c lo hi none
  lists_none lo hi empty = record {
    invocations = [];
    many = refl;
    turns = refl;
    all = λ d n due e low high. absurd (empty d n due e low high);
    just = λ d h. absurd (contains_none d h);
    differ = λ i j x a b. absurd (contains_none x (get_contains [] i x a));
  }

  pub empty_both : (lo mid hi : ℕ) → Empty z c lo mid → Empty z c mid hi → Empty z c lo hi
  empty_both lo mid hi f g d n due e low high = go (nat_lt n mid) refl
    where
      go : (t : Bool) → nat_lt n mid ≡ t → ⊥
      go true h = f d n due e low (ltb-true n mid h)
      go false h = g d n due e (ltb-false n mid h) high

  pub lists_both : (lo mid hi : ℕ) (x y : Count) → lo ≤ mid → mid ≤ hi → Lists z c lo mid x → Lists z c mid hi y → Lists z c lo hi (both x y)
  lists_both lo mid hi x y below above f g = record {
    invocations = f.invocations ++ g.invocations;
    many = let a = f.many in let b = g.many in let long = length-append f.invocations g.invocations in omega (arith, a, b, long);
    turns = let a = f.turns in let b = g.turns in let long = count_both is_turn f.invocations g.invocations in omega (arith, a, b, long);
    all = λ d n due e low high. pick d n due e low high (nat_lt n mid) refl;
    just = λ d h. ⊎_elim (λ k. left d (f.just d k)) (λ k. right d (g.just d k)) (Contains-append_cases f.invocations g.invocations d h);
    differ = differ_both f.invocations g.invocations f.differ g.differ (λ d h k. apart d (f.just d h).1 (g.just d k).1);
  }
    where
      left : (d : Context) → DueIn z d × MadeIn c lo mid d → DueIn z d × MadeIn c lo hi d
      left d h = let high = h.1.3 in (h.0, (h.1.0, h.1.1, h.1.2, omega (arith, high, above)))

      right : (d : Context) → DueIn z d × MadeIn c mid hi d → DueIn z d × MadeIn c lo hi d
      right d h = let low = h.1.2 in (h.0, (h.1.0, h.1.1, omega (arith, low, below), h.1.3))

      apart : (d : Context) → MadeIn c lo mid d → MadeIn c mid hi d → ⊥
      apart d h k = let same = same_Some h.0 k.0 (sym h.1 ∙ k.1) in let high = h.3 in let low = k.2 in omega (arith, same, high, low)

      pick : (d : Context) (n : ℕ) → DueIn z d → made_at c d ≡ Some n → lo ≤ n → n < hi → (t : Bool) → nat_lt n mid ≡ t
          → Contains (f.invocations ++ g.invocations) d
      pick d n due e low high true h = Contains-append_left f.invocations g.invocations d (f.all d n due e low (ltb-true n mid h))
      pick d n due e low high false h = Contains-append_right f.invocations g.invocations d (g.all d n due e (ltb-false n mid h) high)

  -- with a range in which nothing is made, before or behind
  pub lists_before : (lo mid hi : ℕ) (x : Count) → lo ≤ mid → Empty z c lo mid → Lists z c mid hi x → Lists z c lo hi x
  lists_before lo mid hi x order empty f = record {
    invocations = f.invocations;
    many = f.many;
    turns = f.turns;
    all = λ d n due e low high. pick d n due e low high (nat_lt n mid) refl;
    just = λ d h. let low = (f.just d h).1.2 in ((f.just d h).0, ((f.just d h).1.0, (f.just d h).1.1, omega (arith, low, order), (f.just d h).1.3));
    differ = f.differ;
  }
    where
      pick : (d : Context) (n : ℕ) → DueIn z d → made_at c d ≡ Some n → lo ≤ n → n < hi → (t : Bool) → nat_lt n mid ≡ t → Contains f.invocations d
      pick d n due e low high true h = absurd (empty d n due e low (ltb-true n mid h))
      pick d n due e low high false h = f.all d n due e (ltb-false n mid h) high

  pub lists_behind : (lo mid hi : ℕ) (x : Count) → mid ≤ hi → Lists z c lo mid x → Empty z c mid hi → Lists z c lo hi x
  lists_behind lo mid hi x order f empty = record {
    invocations = f.invocations;
    many = f.many;
    turns = f.turns;
    all = λ d n due e low high. pick d n due e low high (nat_lt n mid) refl;
    just = λ d h. let high = (f.just d h).1.3 in ((f.just d h).0, ((f.just d h).1.0, (f.just d h).1.1, (f.just d h).1.2, omega (arith, high, order)));
    differ = f.differ;
  }
    where
      pick : (d : Context) (n : ℕ) → DueIn z d → made_at c d ≡ Some n → lo ≤ n → n < hi → (t : Bool) → nat_lt n mid ≡ t → Contains f.invocations d
      pick d n due e low high true h = f.all d n due e low (ltb-true n mid h)
      pick d n due e low high false h = absurd (empty d n due e (ltb-false n mid h) high)

  -- where none is counted, nothing is made
  pub empty_of : (lo hi : ℕ) → Lists z c lo hi none → Empty z c lo hi
  empty_of lo hi f d n due e low high = go f.invocations f.many (f.all d n due e low high)
    where
      go : (ds : List Context) → length ds ≡ 0 + 0 → Contains ds d → ⊥
      go [] many there = contains_none d there
      go (x ∷ ds) many there = omega (arith, many)

  pub lists_to : (lo hi to : ℕ) (x : Count) → hi ≡ to → Lists z c lo hi x → Lists z c lo to x
  lists_to lo hi to x e f = subst (λ hi. Lists z c lo hi x) e f

  pub empty_to : (lo hi to : ℕ) → hi ≡ to → Empty z c lo hi → Empty z c lo to
  empty_to lo hi to e f = subst (λ hi. Empty z c lo hi) e f

-- NODES that make no invocation
abbrev pub MakesNone : Kind ℕ → Type 0
MakesNone (Call f) = ⊥
MakesNone (StrictCall f) = ⊥
MakesNone (Loop f k) = ⊥
MakesNone kind = ⊤

none_call : (kind : Kind ℕ) → MakesNone kind → IsCall kind → ⊥
none_call (Call f) h k = h
none_call (StrictCall f) h k = h
none_call kind h k = k

none_loop : (kind : Kind ℕ) → MakesNone kind → IsLoop kind → ⊥
none_loop (Loop f n) h k = h
none_loop kind h k = k

module _ (z : Scene) (c : Context) where
  pub silent_node : (n : ℕ) (line : Node ℕ) → node_of (flow z) c n ≡ Some line → MakesNone line.kind → (d : Context) → DueIn z d → made_at c d ≡ Some n → ⊥
  silent_node n line el quiet d due e =
      let made = made_line z c d n due e in
      let same : made.0 ≡ line = same_Some made.0 line (sym made.1 ∙ el) in
      ⊎_elim (λ k. none_call line.kind quiet (subst (λ (l : Node ℕ). IsCall l.kind) same k))
      (λ k. none_loop line.kind quiet (subst (λ (l : Node ℕ). IsLoop l.kind) same k)) made.2

  pub empty_node : (n : ℕ) (line : Node ℕ) → node_of (flow z) c n ≡ Some line → MakesNone line.kind → Empty z c n (n + 1)
  empty_node n line el quiet d k due e low high =
      let same : k ≡ n = omega (arith, low, high) in silent_node n line el quiet d due (subst (λ k. made_at c d ≡ Some k) same e)

-- LINES OF A RANGE, of which each has some property
pub lines_at : (b : Block ℕ) (n : ℕ) (lines : List (Node ℕ)) → Holds b n lines → (P : Node ℕ → Type 0) → Each P lines → (k : ℕ) → n ≤ k
    → k < n + length lines → (line : Node ℕ) × (node_at b k ≡ Some line) × P line
lines_at b n [] h P all k low high = absurd (omega (arith, low, high))
lines_at b n (line ∷ lines) h P all k low high = go (nat_lt n k) refl (λ l. lines_at b (n + 1) lines h.1 P all.1 k (omega (arith, l)) (omega (arith, high)))
  where
    go : (t : Bool) → nat_lt n k ≡ t → (n < k → (line : Node ℕ) × (node_at b k ≡ Some line) × P line) → (line : Node ℕ) × (node_at b k ≡ Some line) × P line
    go true e later = later (ltb-true n k e)
    go false e later =
        let l = ltb-false n k e in let same : n ≡ k = omega (arith, l, low) in
        (line, subst (λ n. node_at b n ≡ Some line) same h.0, all.0)

pub empty_lines : (z : Scene) (c : Context) (b : Block ℕ) → block_of (flow z) c ≡ Some b → (n : ℕ) (lines : List (Node ℕ)) → Holds b n lines
    → Each (λ (line : Node ℕ). MakesNone line.kind) lines → Empty z c n (n + length lines)
empty_lines z c b eb n lines h all d k due e low high =
    let at = lines_at b n lines h (λ (line : Node ℕ). MakesNone line.kind) all k low high in
    silent_node z c k at.0 (ap (λ o. node_in o k) eb ∙ at.1) at.2 d due e
