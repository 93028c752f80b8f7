-- An invocation with a token that was present in a run is due in that run.
use Rattle.std.proofs.Common.{◌≡◌, ℕ, zero, suc, ◌-◌, ◌⊎◌, ℤ, Bool, List, [], ◌∷◌, ◌++◌, flat_map, Option, Some, None, Contains, inl, inr, refl, sym, ap, ◌∙◌}
use Rattle.std.proofs.Common.{subst, arith, ⊎_elim, append_assoc}
use Rattle.std.specs.Prelude.{⊤}
use Rattle.std.proofs.lemmas.List.Sorted.{IsPermutation-sym}
use Rattle.tags.specs.declared.value.Value.{Value}
use Rattle.semantics.specs.declared.graph.Region.{Region}
use Rattle.semantics.specs.declared.graph.Region.TheVariants.{Root, Arm}
use Rattle.semantics.specs.declared.graph.Kind.{Kind}
use Rattle.semantics.specs.declared.graph.Kind.TheVariants.{Call, StrictCall, Loop}
use Rattle.semantics.specs.Graph.{Node, Block, Flow, node_at, node_count}
use Rattle.semantics.specs.Meaning.{Context, Main, Called, Turned, Tagged, Activity, Fires, taken, Message, Sends, State, Step, Run, start, block_of, node_of}
use Rattle.semantics.specs.Meaning.{node_in, Stood, Due, IsCall, IsLoop, StartsWhenStrict, ArmsTaken, arms_at, arms_round, arm_of}
use Rattle.lemmas.proofs.Permutations.{Within, Each, each_within, each_weaker, put_first, put_later, within_permutation, within_append, within_left}
use Rattle.lemmas.proofs.Permutations.{within_right, within_to, permutation_exchange}
use Rattle.std.proofs.Common.{map}
use Rattle.tags.specs.declared.value.Value.TheVariants.{Int}
use Rattle.std.proofs.lemmas.List.Sorted.{IsPermutation-append_right}
use Rattle.semantics.specs.Meaning.{tokens_of}
use Rattle.law_confluence.proofs.ActivityKeys.{unique_same}
use Rattle.law_confluence.proofs.ActivityDiamond.{held_from, deed_of}
use Rattle.law_confluence.proofs.History.{HistoryOf, Fits, at_start, spoken, history_moved, step_history, start_history, once, run_lawful, stood_ever}
use Rattle.law_confluence.proofs.ActivityUses.{Member, tokens_member, entering_member}
use Rattle.law_confluence.proofs.ActivityRows.{Class, Steering, Calling, Strict, Looping, class_of, class_node, class_in, class_at, region_node, region_in}
use Rattle.law_confluence.proofs.ActivityRows.{region_at, Row, RowFires, RowSteers, RowGates, RowQuiet, RowMerges, RowCalls, RowStrict, RowLoops, RowReturns}
use Rattle.law_confluence.proofs.ActivityRows.{RowAgain, RowLeaves, rows}
use Rattle.law_confluence.proofs.HistoryLaws.{IsFlowWell, IsInvoking, well_at, Tokens, HasArgument, ContextLaw, ArmLaw, Lawful}
use Rattle.law_confluence.proofs.HistoryGrounds.{own_arm, called_arm, found_line, node_class}
use Rattle.law_confluence.proofs.HistoryShare.{before}
use Rattle.law_confluence.specs.Outcome.{SameTag}

-- each token that a run took or left was present in it
pub ever_stood : (fl : Flow) (s t : State) (r : List Activity) (p : Run fl s r t) (x : Tagged) → Within x (flat_map taken r ++ t.tokens) → Stood fl s r t p x
ever_stood fl s t [] p x h = within_to x t.tokens h
ever_stood fl s t (a ∷ r) p x h =
    ⊎_elim (λ k. inl (within_to x s.tokens
    (within_permutation x (taken a ++ p.1.rest) s.tokens (IsPermutation-sym _ _ p.1.takes) (within_left x (taken a) p.1.rest k))))
    (λ k. inr (ever_stood fl p.0 t r p.2 x k))
    (within_append x (taken a) (flat_map taken r ++ t.tokens) (subst (λ l. Within x l) (append_assoc (taken a) (flat_map taken r) t.tokens) h))

-- STRICT CALLS

abbrev pub StrictDone : Flow → (Activity → Type 0) → Context → Type 0
StrictDone fl A (Called c n) = class_at fl c n ≡ Strict → (vs : List Value) × A (Fires c n vs)
StrictDone fl A c = ⊤

strict_more : (fl : Flow) (A B : Activity → Type 0) → ((a : Activity) → A a → B a) → (c : Context) → StrictDone fl A c → StrictDone fl B c
strict_more fl A B more (Called c n) h = λ e. let x = h e in (x.0, more _ x.1)
strict_more fl A B more Main h = tt
strict_more fl A B more (Turned c n i) h = tt

module _ (fl : Flow) (E : Tokens) (all : (t : Tagged) → E t → Lawful fl E t) (A : Activity → Type 0)
    (strict : (t : Tagged) → E t → StrictDone fl A t.context) where
  argument_strict : (c : Context) (n : ℕ) → HasArgument E c n → StrictDone fl A c
  argument_strict c n h = strict _ h.2

  sends_strict : (c : Context) (n p : ℕ) (v : Value) (x : Tagged) → StrictDone fl A c → Member fl (Sends c n p v) x → StrictDone fl A x.context
  sends_strict c n p v x h k = subst (StrictDone fl A) (sym k.0) h

  row_strict : (a : Activity) (m : Message) → Row fl a m → A a → Each E (taken a) → (x : Tagged) → Member fl m x → StrictDone fl A x.context
  row_strict a m (RowFires c n [] v ea em class l) own h x k = absurd (omega arith)
  row_strict a m (RowFires c n (v' ∷ vs) v ea em class l) own h x k =
      sends_strict c n 0 v x (strict _ (subst (λ a. Each E (taken a)) ea h).0) (subst (λ m. Member fl m x) em k)
  row_strict a m (RowSteers c n v ea em) own h x k =
      let y = subst (λ m. Member fl m x) em k in
      subst (StrictDone fl A) (sym y.0) (strict _ (subst (λ a. Each E (taken a)) ea h).0)
  row_strict a m (RowGates c n v b k' ea em class region) own h x k =
      sends_strict c n 0 v x (strict _ (subst (λ a. Each E (taken a)) ea h).0) (subst (λ m. Member fl m x) em k)
  row_strict a m (RowQuiet some em) own h x k = absurd (subst (λ m. Member fl m x) em k)
  row_strict a m (RowMerges c n i v ea em class) own h x k =
      sends_strict c n 0 v x (strict _ (subst (λ a. Each E (taken a)) ea h).0) (subst (λ m. Member fl m x) em k)
  row_strict a m (RowCalls c n i v ea em class) own h x k =
      let y = subst (λ m. Member fl m x) em k in
      let none : StrictDone fl A (Called c n) = λ e. absurd (cc) in
      subst (StrictDone fl A) (sym y.0) none
  row_strict a m (RowStrict c n vs ea em class mode) own h x k =
      let y = subst (λ m. Member fl m x) em k in
      let mine : StrictDone fl A (Called c n) = λ e. (vs, subst A ea own) in
      subst (StrictDone fl A) (sym y.0) mine
  row_strict a m (RowLoops c n i v ea em class) own h x k =
      let y = subst (λ m. Member fl m x) em k in subst (StrictDone fl A) (sym y.0) tt
  row_strict a m (RowReturns c n j v ea em) own h x k =
      let law = (all _ (subst (λ a. Each E (taken a)) ea h).0).0 in
      sends_strict c n j v x (argument_strict c n law.0) (subst (λ m. Member fl m x) em k)
  row_strict a m (RowAgain c n i j b v ea em on) own h x k =
      let y = subst (λ m. Member fl m x) em k in subst (StrictDone fl A) (sym y.0) tt
  row_strict a m (RowLeaves c n i j b v ea em off) own h x k =
      let law = (all _ (subst (λ a. Each E (taken a)) ea h).0).0 in
      sends_strict c n (j - 1) v x (argument_strict c n law.0) (subst (λ m. Member fl m x) em k)

-- IN A RUN

module _ (fl : Flow) (w : IsFlowWell fl) (inputs : List ℤ) (fits : Fits fl inputs) (A : Activity → Type 0) where
  abbrev StrictIn : List Tagged → State → Type 0
  StrictIn spent s = (x : Tagged) → Within x (spent ++ s.tokens) → StrictDone fl A x.context

  strict_step : (a : Activity) (s t : State) (spent : List Tagged) → HistoryOf fl inputs spent s → A a → StrictIn spent s → Step fl a s t
      → StrictIn (taken a ++ spent) t
  strict_step a s t spent h own strict p x k =
      let d = deed_of fl s.memory a p.does p.allowed in
      let said = spoken fl s.memory d.0 p.does d.2 in
      let m : Message = said.0 in
      let row = rows fl a d.0 m d.1 said.1 in
      let back = IsPermutation-sym _ _ (history_moved spent s.tokens t.tokens p.does.added p.rest (taken a) p.takes p.leaves) in
      let held : Each (λ x. Within x (spent ++ s.tokens)) (taken a) =
      each_weaker (λ x. Within x s.tokens) (λ x. Within x (spent ++ s.tokens)) (λ x k. within_right x spent s.tokens k) (taken a)
      (held_from s.tokens (taken a) p.rest p.takes) in
      ⊎_elim (λ (l : Within x p.does.added).
      row_strict fl (λ x. Within x (spent ++ s.tokens)) h.lawful A strict a m row own held x
      (each_within (Member fl m) x (tokens_of fl m) (subst (λ l. Within x l) said.2 l) (tokens_member fl m)))
      (λ l. strict x l)
      (within_append x p.does.added (spent ++ s.tokens) (within_permutation x ((taken a ++ spent) ++ t.tokens) (p.does.added ++ (spent ++ s.tokens)) back k))

  strict_run : (r : List Activity) (s t : State) (spent : List Tagged) → HistoryOf fl inputs spent s → ((a : Activity) → Within a r → A a) → StrictIn spent s
      → Run fl s r t
      → (x : Tagged) → Within x (flat_map taken r ++ (spent ++ t.tokens)) → StrictDone fl A x.context
  strict_run [] s t spent h own strict p x k =
      strict x (within_permutation x (spent ++ t.tokens) (spent ++ s.tokens) (IsPermutation-append_right spent t.tokens s.tokens (IsPermutation-sym _ _ p.0)) k)
  strict_run (a ∷ r) s t spent h own strict p x k =
      strict_run r p.0 t (taken a ++ spent) (step_history fl w inputs fits a s p.0 spent h p.1) (λ b l. own b (a ∷ l.0, put_later b a l.0 r l.1))
      (strict_step a s p.0 spent h (own a (r, put_first a r)) strict p.1) p.2 x
      (subst (λ l. Within x (flat_map taken r ++ l)) (sym (append_assoc (taken a) spent t.tokens))
      (within_permutation x (taken a ++ (flat_map taken r ++ (spent ++ t.tokens))) (flat_map taken r ++ (taken a ++ (spent ++ t.tokens)))
      (permutation_exchange (taken a) (flat_map taken r) (spent ++ t.tokens))
      (subst (λ l. Within x l) (append_assoc (taken a) (flat_map taken r) (spent ++ t.tokens)) k)))

  strict_start : StrictIn [] (start inputs)
  strict_start x k =
      subst (StrictDone fl A) (sym (each_within (Member fl (at_start inputs)) x (start inputs).tokens k
      (entering_member fl Main 0 (map (λ (z : ℤ). Int z) inputs))).0) tt

-- DUE

line_of : (fl : Flow) (c : Context) (n : ℕ) (k : Class) → class_at fl c n ≡ k → IsInvoking k
    → (line : Node ℕ) × (node_of fl c n ≡ Some line) × (class_of line.kind ≡ k)
line_of fl c n k e h = let x = found_line (block_of fl c) n k e h in (x.1, ap (λ o. node_in o n) x.2 ∙ x.3, x.4)

call_of : (kind : Kind ℕ) → (class_of kind ≡ Calling) ⊎ (class_of kind ≡ Strict) → IsCall kind
call_of (Call f) h = tt
call_of (StrictCall f) h = tt
call_of kind (inl e) = absurd (cc)
call_of kind (inr e) = absurd (cc)

loop_of : (kind : Kind ℕ) → class_of kind ≡ Looping → IsLoop kind
loop_of (Loop f k) e = tt
loop_of kind e = absurd (cc)

starts_of : (run : List Activity) (c : Context) (n : ℕ) (kind : Kind ℕ) → (class_of kind ≡ Strict → (vs : List Value) × Contains run (Fires c n vs))
    → StartsWhenStrict run c n kind
starts_of run c n (StrictCall f) h = h refl
starts_of run c n kind h = tt

module _ (fl : Flow) (w : IsFlowWell fl) (E : Tokens) (all : (t : Tagged) → E t → Lawful fl E t) (one : (t u : Tagged) → E t → E u → SameTag t u → t ≡ u)
    (run : List Activity) (stood : Tagged → Type 0) (to : (t : Tagged) → E t → stood t)
    (strict : (t : Tagged) → E t → StrictDone fl (λ a. Contains run a) t.context) where
  region_cond : (c : Context) (b : Block ℕ) → block_of fl c ≡ Some b → (m k : ℕ) (side : Bool) → region_node (node_at b m) ≡ Arm k side
      → class_node (node_at b k) ≡ Steering
  region_cond c b eb m k side e = go (node_at b m) refl e
    where
      go : (o : Option (Node ℕ)) → node_at b m ≡ o → region_node o ≡ Arm k side → class_node (node_at b k) ≡ Steering
      go None f g = cc
      go (Some node) f g = (well_at fl w c b eb m node f).round k side g

  one_arm : (c : Context) (b : Block ℕ) → block_of fl c ≡ Some b → (depth m : ℕ)
      → ((k : ℕ) → ArmLaw E c (region_node (node_at b k)) → ArmsTaken stood c (arms_round depth b (arm_of (node_at b k))))
      → (r : Region) → region_node (node_at b m) ≡ r → ArmLaw E c r → ArmsTaken stood c (arms_round (suc depth) b r)
  one_arm c b eb depth m next Root e law = tt
  one_arm c b eb depth m next (Arm k side) e law =
      let steering : class_at fl c k ≡ Steering = ap (λ o. class_in o k) eb ∙ node_class b k (region_cond c b eb m k side e) in
      ((law.0, to _ law.1, law.2), next k (subst (λ r. ArmLaw E c r) (ap (λ o. region_in o k) eb) (own_arm fl w E all c k 0 law.0 law.1 (λ e. cc) (λ e. cc))))

  arms : (depth : ℕ) (c : Context) (b : Block ℕ) → block_of fl c ≡ Some b → (m : ℕ) → ArmLaw E c (region_node (node_at b m))
      → ArmsTaken stood c (arms_round depth b (arm_of (node_at b m)))
  arms zero c b eb m law = tt
  arms (suc depth) c b eb m law = one_arm c b eb depth m (λ k h. arms depth c b eb k h) (region_node (node_at b m)) refl law

  arms_of : (c : Context) (n : ℕ) → ArmLaw E c (region_at fl c n) → ArmsTaken stood c (arms_at (block_of fl c) n)
  arms_of c n law = go (block_of fl c) refl law
    where
      go : (o : Option (Block ℕ)) → block_of fl c ≡ o → ArmLaw E c (region_in o n) → ArmsTaken stood c (arms_at o n)
      go None e h = tt
      go (Some b) e h = arms (node_count b) c b e n h

  pub due : (c : Context) (x : Tagged) → E x → x.context ≡ c → Due fl run stood c
  due Main x h e = tt
  due (Called c n) x h e =
      let law = subst (ContextLaw fl E) e (all x h).0 in
      let strictly = subst (StrictDone fl (λ a. Contains run a)) e (strict x h) in
      let arm = called_arm fl w E all c n law.0 law.1 in
      let later : (k : Class) → class_at fl c n ≡ k → IsInvoking k → ((class_of_k : Class) → class_of_k ≡ k → (class_of_k ≡ Calling) ⊎ (class_of_k ≡ Strict))
      → (line : Node ℕ) × (node_of fl c n ≡ Some line) × IsCall line.kind × StartsWhenStrict run c n line.kind =
      λ k f inv either.
      let x = line_of fl c n k f inv in
      (x.0, x.1, call_of x.0.kind (either (class_of x.0.kind) x.2), starts_of run c n x.0.kind (λ g. strictly (f ∙ sym x.2 ∙ g))) in
      (due c _ law.0.2 refl, ⊎_elim (λ f. later Calling f tt (λ k g. inl g)) (λ f. later Strict f tt (λ k g. inr g)) law.1, arms_of c n arm)
  due (Turned c n i) x h e =
      let law = subst (ContextLaw fl E) e (all x h).0 in
      let class = law.1 in
      let line = line_of fl c n Looping law.1 tt in
      let arm = own_arm fl w E all c n law.0.0 law.0.1 law.0.2 (λ e. cc) (λ e. cc) in (
        due c _ law.0.2 refl,
        (line.0, line.1, loop_of line.0.kind line.2),
        arms_of c n arm,
        λ j less. let flag = before fl w E all one i j c n x h e less in (flag.0, flag.1, to _ flag.2, flag.3),
      )

-- An invocation with a token that was present in a run is due in that run.
pub stood_due : (fl : Flow) → IsFlowWell fl → (inputs : List ℤ) → Fits fl inputs
    → (s : State) (run : List Activity) (r : Run fl (start inputs) run s) (t : Tagged)
    → Stood fl (start inputs) run s r t → Due fl run (Stood fl (start inputs) run s r) t.context
stood_due fl w inputs fits s run r t h =
    let E : Tokens = λ x. Within x (flat_map taken run ++ s.tokens) in
    due fl w E (run_lawful fl w inputs fits s run r)
    (λ x y k l same. unique_same (flat_map taken run ++ s.tokens) (once fl w inputs fits s run r) x y k l same) run
    (Stood fl (start inputs) run s r) (ever_stood fl (start inputs) s run r)
    (λ x k. strict_run fl w inputs fits (λ a. Contains run a) run (start inputs) s [] (start_history fl inputs fits) (λ a l. within_to a run l)
    (strict_start fl w inputs fits (λ a. Contains run a)) r x k)
    t.context t (stood_ever fl (start inputs) s run r t h) refl
