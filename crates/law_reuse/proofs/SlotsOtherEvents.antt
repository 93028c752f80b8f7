-- Events that read no slot are the same over the code's slots and over the plan's.
use Rattle.std.proofs.Common.{◌≡◌, refl, sym, ap, ◌∙◌, subst, ℕ, zero, suc, ◌⊎◌, inl, inr, Bool, true, false, IsPermutation, List, [], ◌∷◌, ◌++◌, length}
use Rattle.std.proofs.Common.{Option, Some, slice_get, arith}
use Rattle.tags.specs.declared.value.Value.{Value}
use Rattle.tags.specs.declared.token.Cont.{Cont}
use Rattle.tags.specs.declared.token.Word.{Word}
use Rattle.tags.specs.declared.token.To.{To}
use Rattle.tags.specs.declared.token.Token.{Token}
use Rattle.semantics.specs.Program.{CodeBlock, Program}
use Rattle.semantics.specs.Machine.{CellState, Vacant, Full, Deferred, Store, put_at, with_cell, with_out, with_requests, with_output, with_done, answer}
use Rattle.semantics.specs.Machine.{Fetches, Stores, Requests, Releases, Hosts, results_in, outputs_of, Happens}
use Rattle.semantics.specs.Plan.{Plan}
use Rattle.semantics.specs.Placed.{placed, placed_blocks}

pub record Same (m u : Store) : Type 0 where
  pub cells : u.cells ≡ m.cells
  pub out : u.out ≡ m.out
  pub requests : u.requests ≡ m.requests
  pub outputs : u.outputs ≡ m.outputs
  pub done : u.done ≡ m.done

abbrev pub Carried : (m u new : Store) (Does : Store → Type 0) → Type 0
Carried m u new Does = (after : Store) × Does after × Same new after × (new.slots ≡ m.slots) × (after.slots ≡ u.slots)

same_cell : (m u : Store) (x : ℕ) (v : CellState) → Same m u → Same (with_cell m x v) (with_cell u x v)
same_cell m u x v S =
    record { cells = ap (λ (c : ℕ → CellState). put_at c x v) S.cells; out = S.out; requests = S.requests; outputs = S.outputs; done = S.done }

fetches_carried : (m u new : Store) (x : ℕ) (c : Cont) (y : CellState) (made : List Token) → Same m u → Fetches m x c y made new
    → Carried m u new (λ after. Fetches u x c y made after)
fetches_carried m u new x c Vacant made S e = (
  with_cell u x (Deferred (c ∷ [])),
  (e.0, refl),
  subst (λ (n : Store). Same n (with_cell u x (Deferred (c ∷ [])))) (sym e.1) (same_cell m u x (Deferred (c ∷ [])) S),
  ap (λ (n : Store). n.slots) e.1,
  refl,
)
fetches_carried m u new x c (Deferred cs) made S e = (
  with_cell u x (Deferred (cs ++ c ∷ [])),
  (e.0, refl),
  subst (λ (n : Store). Same n (with_cell u x (Deferred (cs ++ c ∷ [])))) (sym e.1) (same_cell m u x (Deferred (cs ++ c ∷ [])) S),
  ap (λ (n : Store). n.slots) e.1,
  refl,
)
fetches_carried m u new x c (Full v) made S e = (u, (e.0, refl), subst (λ (n : Store). Same n u) (sym e.1) S, ap (λ (n : Store). n.slots) e.1, refl)

stores_carried : (m u new : Store) (x : ℕ) (v : Value) (c : Cont) (y : CellState) (made : List Token) → Same m u → Stores m x v c y made new
    → Carried m u new (λ after. Stores u x v c y made after)
stores_carried m u new x v c Vacant made S e = (
  with_cell u x (Full v),
  (e.0, refl),
  subst (λ (n : Store). Same n (with_cell u x (Full v))) (sym e.1) (same_cell m u x (Full v) S),
  ap (λ (n : Store). n.slots) e.1,
  refl,
)
stores_carried m u new x v c (Deferred cs) made S e = (
  with_cell u x (Full v),
  (e.0, refl),
  subst (λ (n : Store). Same n (with_cell u x (Full v))) (sym e.1) (same_cell m u x (Full v) S),
  ap (λ (n : Store). n.slots) e.1,
  refl,
)
stores_carried m u new x v c (Full w) made S e = absurd e

pub fetch_carried : (p q : Program) (t : ℕ) (m u new : Store) (x : ℕ) (w : Word) (made : List Token) → Same m u → Happens q t m (To.Fetch x) w made new
    → Carried m u new (λ after. Happens p t u (To.Fetch x) w made after)
fetch_carried p q t m u new x (Word.Back c) made S e =
    let does = fetches_carried m u new x c (m.cells x) made S e in
    (does.0, subst (λ (y : CellState). Fetches u x c y made does.0) (sym (ap (λ (f : ℕ → CellState). f x) S.cells)) does.1, does.2, does.3, does.4)
fetch_carried p q t m u new x (Word.Val v) made S e = absurd e
fetch_carried p q t m u new x (Word.Frame f) made S e = absurd e

pub store_carried : (p q : Program) (t : ℕ) (m u new : Store) (x : ℕ) (v : Value) (w : Word) (made : List Token) → Same m u
    → Happens q t m (To.Store x v) w made new
    → Carried m u new (λ after. Happens p t u (To.Store x v) w made after)
store_carried p q t m u new x v (Word.Back c) made S e =
    let does = stores_carried m u new x v c (m.cells x) made S e in
    (does.0, subst (λ (y : CellState). Stores u x v c y made does.0) (sym (ap (λ (f : ℕ → CellState). f x) S.cells)) does.1, does.2, does.3, does.4)
store_carried p q t m u new x v (Word.Val _) made S e = absurd e
store_carried p q t m u new x v (Word.Frame f) made S e = absurd e

same_out : (m u : Store) (f : ℕ) (b : Bool) → Same m u → Same (with_out m f b) (with_out u f b)
same_out m u f b S = record { cells = S.cells; out = ap (λ (o : ℕ → Bool). put_at o f b) S.out; requests = S.requests; outputs = S.outputs; done = S.done }

same_requests : (m u : Store) (cs ds : List Cont) → cs ≡ ds → Same m u → Same (with_requests m cs) (with_requests u ds)
same_requests m u cs ds e S = record { cells = S.cells; out = S.out; requests = sym e; outputs = S.outputs; done = S.done }

pub request_carried : (t : ℕ) (m u new : Store) (c : Cont) (made : List Token) → Same m u → Requests t m c made new
    → Carried m u new (λ after. Requests t u c made after)
request_carried t m u new c made S (inl e) = (
  with_out u e.0 true,
  inl (e.0, e.1, ap (λ (o : ℕ → Bool). o e.0) S.out ∙ e.2, e.3, refl),
  subst (λ (n : Store). Same n (with_out u e.0 true)) (sym e.4) (same_out m u e.0 true S),
  ap (λ (n : Store). n.slots) e.4,
  refl,
)
request_carried t m u new c made S (inr e) = (
  with_requests u (u.requests ++ c ∷ []),
  inr (λ f below. ap (λ (o : ℕ → Bool). o f) S.out ∙ e.0 f below, e.1, refl),
  subst (λ (n : Store). Same n (with_requests u (u.requests ++ c ∷ []))) (sym e.2)
      (same_requests m u (m.requests ++ c ∷ []) (u.requests ++ c ∷ []) (ap (λ (l : List Cont). l ++ c ∷ []) (sym S.requests)) S),
  ap (λ (n : Store). n.slots) e.2,
  refl,
)

pub results_same : (slots : List (List ℕ)) (cs : List CodeBlock) → length slots ≡ length cs → (b : ℕ)
    → results_in (slice_get (placed_blocks slots cs) b) ≡ results_in (slice_get cs b)
results_same [] [] e b = refl
results_same [] (c ∷ cs) e b = absurd (omega (arith, e))
results_same (ss ∷ slots) [] e b = absurd (omega (arith, e))
results_same (ss ∷ slots) (c ∷ cs) e zero = refl
results_same (ss ∷ slots) (c ∷ cs) e (suc b) = results_same slots cs (omega (arith, e)) b

hosts_carried : (r : ℕ) (m u new : Store) (j : ℕ) (w : Word) (made : List Token) → Same m u → Hosts r m j w made new
    → Carried m u new (λ after. Hosts r u j w made after)
hosts_carried r m u new j w made S (inl e) = (
  with_output u j e.2.0,
  inl (e.0, ap (λ (o : ℕ → Option Value). o j) S.outputs ∙ e.1, (e.2.0, e.2.1, e.2.2, refl)),
  subst (λ (n : Store). Same n (with_output u j e.2.0))
      (sym
      e.2.3) record {
        cells = S.cells;
        out = S.out;
        requests = S.requests;
        outputs = ap (λ (o : ℕ → Option Value). put_at o j (Some e.2.0)) S.outputs;
        done = S.done;
      },
  ap (λ (n : Store). n.slots) e.2.3,
  refl,
)
hosts_carried r m u new j w made S (inr e) = (
  with_done u,
  inr (e.0, S.done ∙ e.1, e.2, refl),
  subst (λ (n : Store). Same n (with_done u)) (sym e.3) record { cells = S.cells; out = S.out; requests = S.requests; outputs = S.outputs; done = refl },
  ap (λ (n : Store). n.slots) e.3,
  refl,
)

pub host_carried : (p : Plan) (slots : List (List ℕ)) → length slots ≡ length p.program.blocks
    → (t : ℕ) (m u new : Store) (j : ℕ) (w : Word) (made : List Token) → Same m u
    → Happens (placed p slots) t m (To.Host j) w made new → Carried m u new (λ after. Happens p.program t u (To.Host j) w made after)
host_carried p slots long t m u new j w made S e =
    hosts_carried (outputs_of p.program) m u new j w made S
    (subst (λ (r : ℕ). Hosts r m j w made new) (results_same slots p.program.blocks long p.program.main) e)

pub release_carried : (m u new : Store) (f : ℕ) (made : List Token) → Same m u → Releases m f made new → Carried m u new (λ after. Releases u f made after)
release_carried m u new f made S e = go e.1
  where
    is_out : u.out f ≡ true
    is_out = ap (λ (o : ℕ → Bool). o f) S.out ∙ e.0

    go : ((m.requests ≡ []) × (made ≡ []) × (new ≡ with_out m f false))
        ⊎ ((c : Cont) × (cs : List Cont) × IsPermutation m.requests (c ∷ cs) × (made ≡ answer c (Word.Frame f) ∷ []) × (new ≡ with_requests m cs))
        → Carried m u new (λ after. Releases u f made after)
    go (inl d) = (
      with_out u f false,
      (is_out, inl (S.requests ∙ d.0, d.1, refl)),
      subst (λ (n : Store). Same n (with_out u f false)) (sym d.2) (same_out m u f false S),
      ap (λ (n : Store). n.slots) d.2,
      refl,
    )
    go (inr (c, cs, moved, makes, is)) = (
      with_requests u cs,
      (is_out, inr (c, cs, subst (λ (l : List Cont). IsPermutation l (c ∷ cs)) (sym S.requests) moved, makes, refl)),
      subst (λ (n : Store). Same n (with_requests u cs)) (sym is) (same_requests m u cs cs refl S),
      ap (λ (n : Store). n.slots) is,
      refl,
    )
