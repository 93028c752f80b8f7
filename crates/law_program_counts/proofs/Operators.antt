-- Numbers, names, operators, fetches and stores make no invocation of their own.
use Rattle.std.proofs.Common.{◌≡◌, ℕ, ◌+◌, ◌⊎◌, List, [], ◌∷◌, ◌++◌, length, refl, sym, subst, arith, length-append, ⊎_elim}
use Rattle.tags.specs.declared.value.Value.{Value}
use Rattle.operators.specs.declared.Unary.{Unary}
use Rattle.operators.specs.declared.Unary.TheVariants.{Neg, Not}
use Rattle.operators.specs.Values.{on_int}
use Rattle.semantics.specs.declared.graph.Source.{Source}
use Rattle.semantics.specs.declared.graph.Kind.{Kind}
use Rattle.semantics.specs.declared.graph.Kind.TheVariants as node
use Rattle.semantics.specs.Meaning.{Context}
use Rattle.source.specs.declared.word.InfixSign.{InfixSign}
use Rattle.source.specs.Tree.{Name, Expr, Number, Named, Bracket, Prefix, Infix, Fetch, Store, Call, If, Loop}
use Rattle.source.specs.Fits.{Fits, IsLeast}
use Rattle.source.specs.Outside.{uses}
use Rattle.source.specs.Evaluates.{Env, Stores, Evaluates, Reads, place_in, number, named, bracket, prefix, infix_, fetch, store, signed}
use Rattle.source.specs.Lowered.{Lowered, Site, Spot, source_in, made, only, joined, ended, operator_of, operands, prefixed, lower, spot_after}
use Rattle.source.proofs.Kept.{in_prefix, in_infix, in_fetch, in_store}
use Rattle.law_completion.specs.TotalProgram.{Count, none, both, counted}
use Rattle.law_language.specs.MeansHolds.{resolved}
use Rattle.law_language.proofs.MeansNamesAgree.{agrees_split}
use Rattle.law_language.proofs.MeansLeaves.{append_nothing, last_node}
use Rattle.law_language.proofs.MeansScene.{Scene, flow, world_of, ActiveIn}
use Rattle.law_language.proofs.MeansStanding.{first_in, rest_in}
use Rattle.law_program_counts.proofs.Lists.{Lists, MakesNone, lists_none, lists_both, lists_behind, lists_to, empty_node}
use Rattle.law_program_counts.proofs.Parts.{ListsOf, ExprCounts}

module _ (z : Scene) (c : Context) where
  -- A PART THAT ENDS WITH ONE LINE MORE, which makes none
  pub ended_lists : (site : Site) (spot : Spot) (l : Lowered) (at : ℕ) (kind : Kind Name) (ss : List Source) (x : Count)
      → ActiveIn z c site spot (ended site spot l at kind ss 1) → MakesNone (resolved z.graph (made site at kind ss)).kind
      → ListsOf z c spot l x → ListsOf z c spot (ended site spot l at kind ss 1) x
  ended_lists site spot l at kind ss x h quiet f =
      let own : ℕ = spot.next + length l.nodes in
      let node = last_node z.program z.graph z.origin z.inputs z.run z.state z.is_run z.settled c site spot l at kind ss h in
      let long : own + 1 ≡ spot.next + length (ended site spot l at kind ss 1).nodes = let n = length-append l.nodes (made site at kind ss ∷ []) in
      omega (arith, n) in
      lists_to z c spot.next (own + 1) (spot.next + length (ended site spot l at kind ss 1).nodes) x long
      (lists_behind z c spot.next own (own + 1) x (omega arith) f (empty_node z c own (resolved z.graph (made site at kind ss)) node quiet))

  pub nothing_lists : (spot : Spot) (ss : List Source) → ListsOf z c spot (only ss) none
  nothing_lists spot ss = lists_none z c spot.next (spot.next + length (only ss).nodes) (λ d n due e low high. omega (arith, low, high))

  -- two parts, one after the other
  pub both_lists : (spot : Spot) (l k : Lowered) (x y : Count) → ListsOf z c spot l x → ListsOf z c (spot_after spot l) k y
      → Lists z c spot.next (spot.next + length (l.nodes ++ k.nodes)) (both x y)
  both_lists spot l k x y f g =
      let long : spot.next + length l.nodes + length k.nodes ≡ spot.next + length (l.nodes ++ k.nodes) = let n = length-append l.nodes k.nodes in
      omega (arith, n) in
      lists_to z c spot.next (spot.next + length l.nodes + length k.nodes) (spot.next + length (l.nodes ++ k.nodes)) (both x y) long
      (lists_both z c spot.next (spot.next + length l.nodes) (spot.next + length l.nodes + length k.nodes) x y (omega arith) (omega arith) f g)

  -- LEAVES
  pub counts_number : {env : Env} {t k : ℕ} {vs : List Value} {ss : Stores} (d : Evaluates (world_of z) env (Number t k) vs ss) → ExprCounts z c d
  counts_number {t = t} {k = k} number site spot scope names n fits rule h known =
      ended_lists site spot (only []) t (node.Lit (signed k)) (site.trigger ∷ []) none h tt (nothing_lists spot [])

  pub counts_named : {env : Env} {t : ℕ} {x : Name} {vs : List Value} {ss : Stores} (d : Evaluates (world_of z) env (Named t x) vs ss) → ExprCounts z c d
  counts_named {x = x} (named b) site spot scope names n fits rule h known = nothing_lists spot (source_in scope x ∷ [])

  pub counts_bracket : {env : Env} {e : Expr} {vs : List Value} {ss : Stores} (d : Evaluates (world_of z) env e vs ss) → ExprCounts z c d
      → ExprCounts z c (bracket d)
  counts_bracket d means site spot scope names n fits rule h known = means site spot scope names n fits rule h known

  -- PREFIXES
  negated : (at u k : ℕ) {env : Env} {v : Value} {ss : Stores} (d : Evaluates (world_of z) env (Number u k) (v ∷ []) ss)
      → ExprCounts z c (prefix {t = at} {op = Neg} d)
  negated at u k number site spot scope names n fits rule h known =
      ended_lists site spot (only []) at (node.Lit (on_int Neg (signed k))) (site.trigger ∷ []) none h tt (nothing_lists spot [])

  prefixed_counts : {env : Env} {v : Value} {ss : Stores} (at : ℕ) (op : Unary) (e : Expr) (d : Evaluates (world_of z) env e (v ∷ []) ss)
      → ((site : Site) (spot : Spot) (l : Lowered) → prefixed site spot at op e l ≡ ended site spot l at (node.Apply1 op) l.sources 1)
      → ((Fits e ⊎ IsLeast op e) → Fits e) → ExprCounts z c d → ExprCounts z c (prefix {t = at} {op = op} d)
  prefixed_counts at op e d is fit means site spot scope names n fits rule h known =
      let l : Lowered = lower z.program site spot scope e in
      let m : Lowered = ended site spot l at (node.Apply1 op) l.sources 1 in
      let rules = in_prefix z.program names at op e n rule in
      let same : prefixed site spot at op e l ≡ m = is site spot l in
      let here : ActiveIn z c site spot m = subst (λ m. ActiveIn z c site spot m) same h in
      let before : ActiveIn z c site spot l = first_in z c site spot l m (made site at (node.Apply1 op) l.sources ∷ []) [] refl
      (sym (append_nothing l.blocks)) here in
      subst (λ m. ListsOf z c spot m (counted d)) (sym same)
      (ended_lists site spot l at (node.Apply1 op) l.sources (counted d) here tt (means site spot scope names 1 (fit fits.1) rules.0.values before known))

  pub counts_prefix : {env : Env} {v : Value} {ss : Stores} (at : ℕ) (op : Unary) (e : Expr) (d : Evaluates (world_of z) env e (v ∷ []) ss)
      → ExprCounts z c d → ExprCounts z c (prefix {t = at} {op = op} d)
  counts_prefix at Neg (Number u k) d means = negated at u k d
  counts_prefix at Neg (Named u x) d means = prefixed_counts at Neg (Named u x) d (λ site spot l. refl) (λ k. ⊎_elim (λ f. f) (λ x. absurd x) k) means
  counts_prefix at Neg (Bracket e) d means = prefixed_counts at Neg (Bracket e) d (λ site spot l. refl) (λ k. ⊎_elim (λ f. f) (λ x. absurd x) k) means
  counts_prefix at Neg (Prefix u op e) d means =
      prefixed_counts at Neg (Prefix u op e) d (λ site spot l. refl) (λ k. ⊎_elim (λ f. f) (λ x. absurd x) k) means
  counts_prefix at Neg (Infix u i e f) d means =
      prefixed_counts at Neg (Infix u i e f) d (λ site spot l. refl) (λ k. ⊎_elim (λ f. f) (λ x. absurd x) k) means
  counts_prefix at Neg (Fetch u a e) d means = prefixed_counts at Neg (Fetch u a e) d (λ site spot l. refl) (λ k. ⊎_elim (λ f. f) (λ x. absurd x) k) means
  counts_prefix at Neg (Store u a e f) d means =
      prefixed_counts at Neg (Store u a e f) d (λ site spot l. refl) (λ k. ⊎_elim (λ f. f) (λ x. absurd x) k) means
  counts_prefix at Neg (Call u b f es) d means =
      prefixed_counts at Neg (Call u b f es) d (λ site spot l. refl) (λ k. ⊎_elim (λ f. f) (λ x. absurd x) k) means
  counts_prefix at Neg (If u q a b) d means = prefixed_counts at Neg (If u q a b) d (λ site spot l. refl) (λ k. ⊎_elim (λ f. f) (λ x. absurd x) k) means
  counts_prefix at Neg (Loop u b f t) d means =
      prefixed_counts at Neg (Loop u b f t) d (λ site spot l. refl) (λ k. ⊎_elim (λ f. f) (λ x. absurd x) k) means
  counts_prefix at Not e d means = prefixed_counts at Not e d (λ site spot l. refl) (λ k. ⊎_elim (λ f. f) (λ x. absurd x) k) means

  -- OPERATORS OF TWO OPERANDS
  pub counts_infix : {env : Env} {x y : Value} {ss us : Stores} (at : ℕ) (sign : InfixSign) (l r : Expr) (d : Evaluates (world_of z) env l (x ∷ []) ss)
      (e : Evaluates (world_of z) env r (y ∷ []) us) → ExprCounts z c d → ExprCounts z c e → ExprCounts z c (infix_ {t = at} {sign = sign} d e)
  counts_infix {env = env} at sign e f d g left right site spot scope names n fits rule h known =
      let l : Lowered = lower z.program site spot scope e in
      let k : Lowered = lower z.program site (spot_after spot l) scope f in
      let ss : List Source = operands sign (l.sources ++ k.sources) in
      let m : Lowered = ended site spot (joined l k) at (node.Apply2 (operator_of sign)) ss 1 in
      let rules = in_infix z.program names at sign e f n rule in
      let agree = agrees_split (flow z) z.inputs z.run z.state z.is_run c scope env (uses e) (uses f) known in
      let all : ActiveIn z c site spot (joined l k) = first_in z c site spot (joined l k) m (made site at (node.Apply2 (operator_of sign)) ss ∷ []) [] refl
      (sym (append_nothing (joined l k).blocks)) h in
      let before : ActiveIn z c site spot l = first_in z c site spot l (joined l k) k.nodes k.blocks refl refl all in
      let behind : ActiveIn z c site (spot_after spot l) k = rest_in z c site spot l k (joined l k) refl refl all in
      ended_lists site spot (joined l k) at (node.Apply2 (operator_of sign)) ss (both (counted d) (counted g)) h tt
      (both_lists spot l k (counted d) (counted g) (left site spot scope names 1 fits.0 rules.0.values before agree.0)
      (right site (spot_after spot l) scope names 1 fits.2 rules.1.values behind agree.1))

  -- CELLS
  pub counts_fetch : {env : Env} {i : Value} {ss : Stores} (v : Value) (at : ℕ) (a : Name) (e : Expr) (d : Evaluates (world_of z) env e (i ∷ []) ss)
      (r : Reads (world_of z) (place_in (world_of z) at a i) v) → ExprCounts z c d → ExprCounts z c (fetch {t = at} {a = a} d r)
  counts_fetch v at a e d r means site spot scope names n fits rule h known =
      let l : Lowered = lower z.program site spot scope e in
      let m : Lowered = ended site spot l at (node.Fetch a) l.sources 1 in
      let rules = in_fetch z.program names at a e n rule in
      let before : ActiveIn z c site spot l = first_in z c site spot l m (made site at (node.Fetch a) l.sources ∷ []) [] refl
      (sym (append_nothing l.blocks)) h in
      ended_lists site spot l at (node.Fetch a) l.sources (counted d) h tt (means site spot scope names 1 fits rules.1.values before known)

  pub counts_store : {env : Env} {i v : Value} {ss us : Stores} (at : ℕ) (a : Name) (e f : Expr) (d : Evaluates (world_of z) env e (i ∷ []) ss)
      (g : Evaluates (world_of z) env f (v ∷ []) us) → ExprCounts z c d → ExprCounts z c g → ExprCounts z c (store {t = at} {a = a} d g)
  counts_store {env = env} at a e f d g left right site spot scope names n fits rule h known =
      let l : Lowered = lower z.program site spot scope e in
      let k : Lowered = lower z.program site (spot_after spot l) scope f in
      let m : Lowered = ended site spot (joined l k) at (node.Store a) (joined l k).sources 1 in
      let rules = in_store z.program names at a e f n rule in
      let agree = agrees_split (flow z) z.inputs z.run z.state z.is_run c scope env (uses e) (uses f) known in
      let all : ActiveIn z c site spot (joined l k) = first_in z c site spot (joined l k) m (made site at (node.Store a) (joined l k).sources ∷ []) [] refl
      (sym (append_nothing (joined l k).blocks)) h in
      let before : ActiveIn z c site spot l = first_in z c site spot l (joined l k) k.nodes k.blocks refl refl all in
      let behind : ActiveIn z c site (spot_after spot l) k = rest_in z c site spot l k (joined l k) refl refl all in
      ended_lists site spot (joined l k) at (node.Store a) (joined l k).sources (both (counted d) (counted g)) h tt
      (both_lists spot l k (counted d) (counted g) (left site spot scope names 1 fits.0 rules.1.values before agree.0)
      (right site (spot_after spot l) scope names 1 fits.1 rules.2.values behind agree.1))
