-- A state at rest without a clash is where all leads, for any kind of states that the activities keep and in which no two
-- tokens are at one place.
use Rattle.std.proofs.Common.{◌≡◌, ℕ, suc, ◌+◌, ◌≤◌, ℤ, List, [], ◌∷◌, length, refl, sym, ap, ◌∙◌, arith}
use Rattle.std.proofs.lemmas.List.Sorted.{IsPermutation-refl, IsPermutation-sym, IsPermutation-trans}
use Rattle.semantics.specs.Graph.{Flow}
use Rattle.semantics.specs.Meaning.{State, Activity, effect, Step, Same, Run, Reached, Leads, AtRest, Clashes, start}
use Rattle.law_confluence.proofs.ActivityKeys.{Unique}
use Rattle.law_confluence.proofs.ActivityDiamond.{One, Joined, Clash, diamond, clash_stays}
use Rattle.law_confluence.specs.Outcome.{NoClash}

pub same_refl : (s : State) → Same s s
same_refl s = (IsPermutation-refl s.tokens, refl)

pub same_sym : (s t : State) → Same s t → Same t s
same_sym s t h = (IsPermutation-sym _ _ h.0, sym h.1)

pub same_trans : (s t u : State) → Same s t → Same t u → Same s u
same_trans s t u h k = (IsPermutation-trans _ _ _ h.0 k.0, h.1 ∙ k.1)

-- a step goes from any order of the tokens
pub step_same : (fl : Flow) (s s' t : State) (a : Activity) → Same s s' → Step fl a s t → Step fl a s' t
step_same fl s s' t a h p = record {
  does = p.does;
  rest = p.rest;
  allowed = ap (λ m. effect fl m a) (sym h.1) ∙ p.allowed;
  takes = IsPermutation-trans _ _ _ (IsPermutation-sym _ _ h.0) p.takes;
  leaves = p.leaves;
  memory = p.memory;
}

pub run_same : (fl : Flow) (s s' t : State) (r : List Activity) → Same s s' → Run fl s r t → Run fl s' r t
run_same fl s s' t [] h p = same_trans s' s t (same_sym s s' h) p
run_same fl s s' t (a ∷ later) h p = (p.0, step_same fl s s' p.0 a h p.1, p.2)

-- a kind of states that the activities keep, in which no two tokens are at one place
pub record IsKept (fl : Flow) (Inv : State → Type 0) : Type 0 where
  pub unique : (s : State) → Inv s → Unique s.tokens
  pub step : (a : Activity) (s t : State) → Inv s → Step fl a s t → Inv t
  pub same : (s t : State) → Inv s → Same s t → Inv t

module _ (fl : Flow) (Inv : State → Type 0) (k : IsKept fl Inv) where
  pub kept_run : (s t : State) (r : List Activity) → Inv s → Run fl s r t → Inv t
  kept_run s t [] h p = k.same s t h p
  kept_run s t (a ∷ later) h p = kept_run p.0 t later (k.step a s p.0 h p.1) p.2

  clash_same : (s t : State) (x : ℕ) → Same s t → Clashes fl s x → Clashes fl t x
  clash_same s t x h c = record {
    context = c.context;
    node = c.node;
    index = c.index;
    value = c.value;
    held = c.held;
    rest = c.rest;
    is_store = c.is_store;
    tokens = IsPermutation-trans _ _ _ (IsPermutation-sym _ _ h.0) c.tokens;
    full = ap (λ m. m.cells x) (sym h.1) ∙ c.full;
  }

  pub clash_run : (s t : State) (x : ℕ) (r : List Activity) → Inv s → Run fl s r t → Clashes fl s x → Clashes fl t x
  clash_run s t x [] h p c = clash_same s t x p c
  clash_run s t x (a ∷ later) h p c = clash_run p.0 t x later (k.step a s p.0 h p.1) p.2 (clash_stays fl s p.0 a x (k.unique s h) c p.1)

  -- from any activity on, the end is one activity nearer
  pub after : (r : List Activity) (s t u : State) (b : Activity) → Inv s → Run fl s r t → AtRest fl t → NoClash fl t → Step fl b s u
      → (r' : List Activity) × Run fl u r' t × (length r ≡ suc (length r'))
  after [] s t u b h p rest quiet q = absurd (rest b u (step_same fl s t u b p q))
  after (a ∷ later) s t u b h p rest quiet q =
      elim (diamond fl s p.0 u a b (k.unique s h) p.1 q) [
        | One same states ↦ (later, run_same fl p.0 u t later states p.2, refl)
        | Joined end there here ↦
            let ih = after later p.0 t end b (k.step a s p.0 h p.1) p.2 rest quiet there in
            (a ∷ ih.0, (end, here, ih.1), ap suc ih.2)
        | Clash cell mine its c ↦ absurd (quiet cell (clash_run p.0 t cell later (k.step a s p.0 h p.1) p.2 c))
      ]

  pub confluent : (q : List Activity) (r : List Activity) (s t o : State) → Inv s → Run fl s r t → AtRest fl t → NoClash fl t → Run fl s q o
      → (r' : List Activity) × Run fl o r' t × (length r ≡ length q + length r')
  confluent [] r s t o h p rest quiet q = (r, run_same fl s o t r q p, omega arith)
  confluent (b ∷ later) r s t o h p rest quiet q =
      let one = after r s t q.0 b h p rest quiet q.1 in
      let ih = confluent later one.0 q.0 t o (k.step b s q.0 h q.1) one.1 rest quiet q.2 in
      (ih.0, ih.1, omega arith)

no_more : (fl : Flow) (s t : State) (r : List Activity) → AtRest fl s → Run fl s r t → length r ≡ 0
no_more fl s t [] rest p = refl
no_more fl s t (a ∷ later) rest p = absurd (rest a p.0 p.1)

ends : (fl : Flow) (s t : State) (r : List Activity) → AtRest fl s → Run fl s r t → Same s t
ends fl s t [] rest p = p
ends fl s t (a ∷ later) rest p = absurd (rest a p.0 p.1)

-- all runs meet in this state
pub record Converges (fl : Flow) (inputs : List ℤ) (s : State) : Type 0 where
  pub leads : (other : State) → Reached fl inputs other → Leads fl other s
  pub no_clash : (other : State) (x : ℕ) → Reached fl inputs other → Clashes fl other x → ⊥
  pub one_end : (other : State) → Reached fl inputs other → AtRest fl other → Same other s
  pub no_longer : (other : State) (q r : List Activity) → Run fl (start inputs) q other → Run fl (start inputs) r s → length q ≤ length r
  pub same_length : (q r : List Activity) → Run fl (start inputs) q s → Run fl (start inputs) r s → length q ≡ length r

pub determinate : (fl : Flow) (inputs : List ℤ) (Inv : State → Type 0) → IsKept fl Inv → Inv (start inputs)
    → (s : State) → Reached fl inputs s → AtRest fl s → NoClash fl s → Converges fl inputs s
determinate fl inputs Inv k h s reached rest quiet = record {
  leads = λ o r. let c = confluent fl Inv k r.run reached.run (start inputs) s o h reached.is_run rest quiet r.is_run in (c.0, c.1);
  no_clash = λ o x r clash.
      let c = confluent fl Inv k r.run reached.run (start inputs) s o h reached.is_run rest quiet r.is_run in
      quiet x (clash_run fl Inv k o s x c.0 (kept_run fl Inv k (start inputs) o r.run h r.is_run) c.1 clash);
  one_end = λ o r still.
      let c = confluent fl Inv k r.run reached.run (start inputs) s o h reached.is_run rest quiet r.is_run in
      ends fl o s c.0 still c.1;
  no_longer = λ o q r p p'.
      let c = confluent fl Inv k q r (start inputs) s o h p' rest quiet p in
      omega (arith, c.2);
  same_length = λ q r p p'.
      let c = confluent fl Inv k q r (start inputs) s s h p' rest quiet p in
      let none = no_more fl s s c.0 rest c.1 in
      omega arith;
}
