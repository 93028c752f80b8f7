-- A run's history: all tokens that were ever present, no two at one place, each with its cause.
use Rattle.std.proofs.Common.{◌≡◌, ℕ, suc, ◌≤◌, ◌⊎◌, ℤ, List, [], ◌∷◌, ◌++◌, map, length, Some, IsPermutation, inl, inr, refl, sym, ap, subst, arith, ⊎_elim}
use Rattle.std.proofs.Common.{append_assoc, append-nil, flat_map, Contains}
use Rattle.std.proofs.lemmas.List.Sorted.{IsPermutation-refl, IsPermutation-sym, IsPermutation-trans, IsPermutation-append_right, IsPermutation-append_left}
use Rattle.std.proofs.lemmas.List.Sorted.{Contains-permutation}
use Rattle.std.proofs.lemmas.Option.{same_Some}
use Rattle.tags.specs.declared.value.Value.TheVariants.{Int}
use Rattle.semantics.specs.Graph.{Block, Flow}
use Rattle.semantics.specs.Meaning.{Main, Tagged, State, Memory, Effect, Activity, taken, Deed, Says, Reads, Fills, Puts, done, adds, with_cell, Message, Sends}
use Rattle.semantics.specs.Meaning.{Steers, Enters, Nothing, tokens_of, block_of, Step, Same, Run, Stood, Reached, AtRest, start}
use Rattle.lemmas.proofs.Permutations.{Within, Each, each_from, each_within, each_weaker, spread_append, spread_append_back, spread_permutation}
use Rattle.lemmas.proofs.Permutations.{within_permutation, within_append, within_left, within_right, within_from, within_to, permutation_exchange}
use Rattle.law_confluence.proofs.ActivityKeys.{Differ, Unique, Held, differ_turn, unique_same}
use Rattle.law_confluence.proofs.ActivityDeeds.{full_of, empty_of}
use Rattle.law_confluence.proofs.ActivityDiamond.{deed_of, held_from}
use Rattle.law_confluence.proofs.OutcomeDeterminacy.{IsKept, Converges, determinate}
use Rattle.law_confluence.proofs.ActivityUses.{Member, tokens_member, tokens_unique, entering_member, entering_unique}
use Rattle.law_confluence.proofs.ActivityRows.{Speaks, Row, rows}
use Rattle.law_confluence.proofs.HistoryLaws.{IsFlowWell, Tokens, Lawful, Grounded, context_more, arm_more, lawful_more, member_lawful}
use Rattle.law_confluence.proofs.HistoryGrounds.{row_grounded}
use Rattle.law_confluence.proofs.HistoryShare.{share, not_at_start}
use Rattle.law_confluence.specs.Outcome.{SameTag, NoClash}

-- the activity that sent a token: what it took is spent
pub record Cause (fl : Flow) (spent : List Tagged) (t : Tagged) : Type 0 where
  pub activity : Activity
  pub message : Message
  pub row : Row fl activity message
  pub member : Member fl message t
  pub used : Held spent (taken activity)

abbrev pub Ever : List Tagged → List Tagged → Tokens
Ever spent now t = Within t (spent ++ now)

abbrev pub at_start : List ℤ → Message
at_start inputs = Enters Main 0 (map (λ (z : ℤ). Int z) inputs)

-- a state s after these tokens were spent
pub record HistoryOf (fl : Flow) (inputs : List ℤ) (spent : List Tagged) (s : State) : Type 0 where
  pub unique : Unique (spent ++ s.tokens)
  pub lawful : (t : Tagged) → Ever spent s.tokens t → Lawful fl (Ever spent s.tokens) t
  pub caused : (t : Tagged) → Ever spent s.tokens t → Member fl (at_start inputs) t ⊎ Cause fl spent t

abbrev pub History : Flow → List ℤ → State → Type 0
History fl inputs s = (spent : List Tagged) × HistoryOf fl inputs spent s

-- as many inputs as main has
abbrev pub Fits : Flow → List ℤ → Type 0
Fits fl inputs = (b : Block ℕ) × (block_of fl Main ≡ Some b) × (length inputs ≤ b.inputs)

pub length_ints : (inputs : List ℤ) → length (map (λ (z : ℤ). Int z) inputs) ≡ length inputs
length_ints [] = refl
length_ints (z ∷ zs) = ap suc (length_ints zs)

start_grounded : (fl : Flow) (inputs : List ℤ) (E : Tokens) → Fits fl inputs → Grounded fl E (at_start inputs)
start_grounded fl inputs E f = ((λ l. tt), (f.0, f.1, omega (arith, f.2, length_ints inputs)))

pub start_history : (fl : Flow) (inputs : List ℤ) → Fits fl inputs → HistoryOf fl inputs [] (start inputs)
start_history fl inputs f =
    let vs = map (λ (z : ℤ). Int z) inputs in
    record {
      unique = entering_unique Main 0 vs;
      lawful =
          λ t h. member_lawful fl (Ever [] (start inputs).tokens) (at_start inputs) (start_grounded fl inputs (Ever [] (start inputs).tokens) f) (λ t h. h) t
          (each_within (Member fl (at_start inputs)) t (start inputs).tokens h (entering_member fl Main 0 vs));
      caused = λ t h. inl (each_within (Member fl (at_start inputs)) t (start inputs).tokens h (entering_member fl Main 0 vs));
    }

-- what a deed adds is a message
pub spoken : (fl : Flow) (m : Memory) (d : Deed) (E : Effect) → done fl m d ≡ Some E → (x : Message) × Speaks d x × (E.added ≡ tokens_of fl x)
spoken fl m (Says x) E e = (x, refl, ap (λ (E : Effect). E.added) (sym (same_Some _ E e)))
spoken fl m (Reads c n x) E e =
    let f = full_of (m.cells x) (λ v. adds (tokens_of fl (Sends c n 0 v)) m) E e in
    (Sends c n 0 f.0, (f.0, refl), ap (λ (E : Effect). E.added) (sym (same_Some _ E f.2)))
spoken fl m (Fills c n x v) E e =
    let f = empty_of (m.cells x) (adds (tokens_of fl (Sends c n 0 v)) (with_cell m x v)) E e in
    (Sends c n 0 v, refl, ap (λ (E : Effect). E.added) (sym (same_Some _ E f.1)))
spoken fl m (Puts j v) E e = (Nothing, refl, ap (λ (E : Effect). E.added) (sym (same_Some _ E e)))

grounded_more : (fl : Flow) (E F : Tokens) → ((t : Tagged) → E t → F t) → (m : Message) → Grounded fl E m → Grounded fl F m
grounded_more fl E F more (Sends c n p v) g = (context_more fl E F more c g.0, arm_more fl E F more c _ g.1)
grounded_more fl E F more (Steers c k v) g = (context_more fl E F more c g.0, more _ g.1)
grounded_more fl E F more (Enters c from vs) g = ((λ l. context_more fl E F more c (g.0 l)), g.1)
grounded_more fl E F more Nothing g = tt

-- the history after a step is what was added and the history before it
pub history_moved : (spent old new added rest takes : List Tagged) → IsPermutation old (takes ++ rest) → IsPermutation new (added ++ rest)
    → IsPermutation (added ++ (spent ++ old)) ((takes ++ spent) ++ new)
history_moved spent old new added rest takes p q =
    let one : IsPermutation (spent ++ old) (takes ++ (spent ++ rest)) =
    IsPermutation-trans _ _ _ (IsPermutation-append_right spent old (takes ++ rest) p) (permutation_exchange spent takes rest) in
    let two : IsPermutation (added ++ (spent ++ old)) (takes ++ (added ++ (spent ++ rest))) =
    IsPermutation-trans _ _ _ (IsPermutation-append_right added _ _ one) (permutation_exchange added takes (spent ++ rest)) in
    let three : IsPermutation (added ++ (spent ++ rest)) (spent ++ new) =
    IsPermutation-trans _ _ _ (permutation_exchange added spent rest) (IsPermutation-append_right spent (added ++ rest) new (IsPermutation-sym _ _ q)) in
    subst (λ l. IsPermutation (added ++ (spent ++ old)) l) (sym (append_assoc takes spent new))
    (IsPermutation-trans _ _ _ two (IsPermutation-append_right takes _ _ three))

module _ (fl : Flow) (w : IsFlowWell fl) (inputs : List ℤ) (fits : Fits fl inputs) where
  cause_more : (spent more : List Tagged) (t : Tagged) → Cause fl spent t → Cause fl (more ++ spent) t
  cause_more spent more t c = record {
    activity = c.activity;
    message = c.message;
    row = c.row;
    member = c.member;
    used = each_weaker (λ t. Within t spent) (λ t. Within t (more ++ spent)) (λ t h. within_right t more spent h) (taken c.activity) c.used;
  }

  pub step_history : (a : Activity) (s t : State) (spent : List Tagged) → HistoryOf fl inputs spent s → Step fl a s t → HistoryOf fl inputs (taken a ++ spent) t
  step_history a s t spent h p =
      let E : Tokens = Ever spent s.tokens in
      let later : List Tagged = taken a ++ spent in
      let F : Tokens = Ever later t.tokens in
      let d = deed_of fl s.memory a p.does p.allowed in
      let said = spoken fl s.memory d.0 p.does d.2 in
      let m : Message = said.0 in
      let row = rows fl a d.0 m d.1 said.1 in
      let moved = history_moved spent s.tokens t.tokens p.does.added p.rest (taken a) p.takes p.leaves in
      let back = IsPermutation-sym _ _ moved in
      let one : (x y : Tagged) → E x → E y → SameTag x y → x ≡ y = λ x y k l same. unique_same (spent ++ s.tokens) h.unique x y k l same in
      let held_now = held_from s.tokens (taken a) p.rest p.takes in
      let held : Each E (taken a) = each_weaker (λ x. Within x s.tokens) E (λ x k. within_right x spent s.tokens k) (taken a) held_now in
      let more : (x : Tagged) → E x → F x =
      λ x k. within_permutation x (p.does.added ++ (spent ++ s.tokens)) (later ++ t.tokens) moved (within_right x p.does.added (spent ++ s.tokens) k) in
      let there : (x : Tagged) → Within x (tokens_of fl m) → F x =
      λ x k. within_permutation x (p.does.added ++ (spent ++ s.tokens)) (later ++ t.tokens) moved
      (within_left x p.does.added (spent ++ s.tokens) (subst (λ l. Within x l) (sym said.2) k)) in
      let member : (x : Tagged) → Within x p.does.added
      → Member fl m x = λ x k. each_within (Member fl m) x (tokens_of fl m) (subst (λ l. Within x l) said.2 k) (tokens_member fl m) in
      let grounded = row_grounded fl w E h.lawful a m row held in
      let parts = spread_append_back Differ spent s.tokens h.unique in
      let fresh : (x y : Tagged) → Within x p.does.added → E y → Differ x y =
      λ x y k l same.
      ⊎_elim (λ first. not_at_start fl w E h.lawful one a m (map (λ (z : ℤ). Int z) inputs) row held (start_grounded fl inputs E fits) x y
      (member x k) first same)
      (λ (c : Cause fl spent y).
      let used : Each E (taken c.activity) = each_weaker (λ x. Within x spent) E (λ x k. within_left x spent s.tokens k) (taken c.activity) c.used in
      let both = share fl w E h.lawful one a c.activity m c.message row c.row held used x y (member x k) c.member same in
      let mine = each_within (λ x. Within x s.tokens) both.0 (taken a) both.2 held_now in
      let its = each_within (λ x. Within x spent) both.1 (taken c.activity) both.3 c.used in
      let apart = each_within (λ y. Each (Differ y) s.tokens) both.1 spent its parts.2 in
      each_within (Differ both.1) both.0 s.tokens mine apart (sym both.4.0, sym both.4.1, sym both.4.2))
      (h.caused y l) in
      let all : Unique (p.does.added ++ (spent ++ s.tokens)) =
      spread_append Differ p.does.added (spent ++ s.tokens) (subst Unique (sym said.2) (tokens_unique fl m)) h.unique
      (each_from (λ x. Each (Differ x) (spent ++ s.tokens)) p.does.added (λ x k. each_from (Differ x) (spent ++ s.tokens) (λ y l. fresh x y k l))) in
      record {
        unique = spread_permutation Differ differ_turn (p.does.added ++ (spent ++ s.tokens)) (later ++ t.tokens) moved all;
        lawful = λ x k.
            ⊎_elim (λ (l : Within x p.does.added). member_lawful fl F m (grounded_more fl E F more m grounded) there x (member x l))
            (λ (l : E x). lawful_more fl E F more x (h.lawful x l))
            (within_append x p.does.added (spent ++ s.tokens) (within_permutation x (later ++ t.tokens) (p.does.added ++ (spent ++ s.tokens)) back k));
        caused = λ x k.
            ⊎_elim (λ (l : Within x p.does.added). inr record {
              activity = a;
              message = m;
              row = row;
              member = member x l;
              used = each_from (λ y. Within y later) (taken a) (λ y g. within_left y (taken a) spent g);
            })
            (λ (l : E x). ⊎_elim (λ first. inl first) (λ c. inr (cause_more spent (taken a) x c)) (h.caused x l))
            (within_append x p.does.added (spent ++ s.tokens) (within_permutation x (later ++ t.tokens) (p.does.added ++ (spent ++ s.tokens)) back k));
      }

  pub same_history : (s t : State) (spent : List Tagged) → HistoryOf fl inputs spent s → Same s t → HistoryOf fl inputs spent t
  same_history s t spent h same =
      let E : Tokens = Ever spent s.tokens in
      let F : Tokens = Ever spent t.tokens in
      let moved = IsPermutation-append_right spent s.tokens t.tokens same.0 in
      let back = IsPermutation-sym _ _ moved in
      let less : (x : Tagged) → F x → E x = λ x k. within_permutation x (spent ++ t.tokens) (spent ++ s.tokens) back k in
      let more : (x : Tagged) → E x → F x = λ x k. within_permutation x (spent ++ s.tokens) (spent ++ t.tokens) moved k in
      record {
        unique = spread_permutation Differ differ_turn (spent ++ s.tokens) (spent ++ t.tokens) moved h.unique;
        lawful = λ x k. lawful_more fl E F more x (h.lawful x (less x k));
        caused = λ x k. h.caused x (less x k);
      }

  history_unique : (s : State) → History fl inputs s → Unique s.tokens
  history_unique s h = (spread_append_back Differ h.0 s.tokens h.1.unique).1

  pub history_kept : IsKept fl (History fl inputs)
  history_kept = record {
    unique = history_unique;
    step = λ a s t h p. (taken a ++ h.0, step_history a s t h.0 h.1 p);
    same = λ s t h e. (h.0, same_history s t h.0 h.1 e);
  }

  -- what a run has spent is what its activities took
  history_run : (r : List Activity) (s t : State) (spent : List Tagged) → HistoryOf fl inputs spent s → Run fl s r t
      → (later : List Tagged) × HistoryOf fl inputs later t × IsPermutation later (flat_map taken r ++ spent)
  history_run [] s t spent h p = (spent, same_history s t spent h p, IsPermutation-refl spent)
  history_run (a ∷ r) s t spent h p =
      let ih = history_run r p.0 t (taken a ++ spent) (step_history a s p.0 spent h p.1) p.2 in (
        ih.0,
        ih.1,
        subst (λ l. IsPermutation ih.0 l) (sym (append_assoc (taken a) (flat_map taken r) spent))
            (IsPermutation-trans _ _ _ ih.2 (permutation_exchange (flat_map taken r) (taken a) spent)),
      )

  pub run_history : (s : State) (r : List Activity) → Run fl (start inputs) r s
      → (spent : List Tagged) × HistoryOf fl inputs spent s × IsPermutation spent (flat_map taken r)
  run_history s r p =
      let h = history_run r (start inputs) s [] (start_history fl inputs fits) p in
      (h.0, h.1, subst (λ l. IsPermutation h.0 l) (append-nil (flat_map taken r)) h.2)

  -- In a whole run no two tokens, taken or left, are at one place.
  pub once : (s : State) (r : List Activity) → Run fl (start inputs) r s → Unique (flat_map taken r ++ s.tokens)
  once s r p =
      let h = run_history s r p in
      spread_permutation Differ differ_turn (h.0 ++ s.tokens) (flat_map taken r ++ s.tokens)
      (IsPermutation-append_left s.tokens h.0 (flat_map taken r) h.2) h.1.unique

  -- the laws of every token of a run
  pub run_lawful : (s : State) (r : List Activity) → Run fl (start inputs) r s → (t : Tagged) → Ever (flat_map taken r) s.tokens t
      → Lawful fl (Ever (flat_map taken r) s.tokens) t
  run_lawful s r p t k =
      let h = run_history s r p in
      let moved = IsPermutation-append_left s.tokens h.0 (flat_map taken r) h.2 in
      lawful_more fl (Ever h.0 s.tokens) (Ever (flat_map taken r) s.tokens)
      (λ x l. within_permutation x (h.0 ++ s.tokens) (flat_map taken r ++ s.tokens) moved l) t
      (h.1.lawful t (within_permutation t (flat_map taken r ++ s.tokens) (h.0 ++ s.tokens) (IsPermutation-sym _ _ moved) k))

  pub unique_tokens : (s : State) → Reached fl inputs s → Unique s.tokens
  unique_tokens s r = (spread_append_back Differ (flat_map taken r.run) s.tokens (once s r.run r.is_run)).1

  pub flow_determinate : (s : State) → Reached fl inputs s → AtRest fl s → NoClash fl s → Converges fl inputs s
  flow_determinate s r rest quiet = determinate fl inputs (History fl inputs) history_kept ([], start_history fl inputs fits) s r rest quiet

-- THE TOKENS THAT WERE PRESENT IN A RUN

pub stood_at : (fl : Flow) (s t : State) (r : List Activity) (p : Run fl s r t) (x : Tagged) → Contains s.tokens x → Stood fl s r t p x
stood_at fl s t [] p x h = Contains-permutation s.tokens t.tokens x p.0 h
stood_at fl s t (a ∷ r) p x h = inl h

-- a token that was present was taken or is left
pub stood_ever : (fl : Flow) (s t : State) (r : List Activity) (p : Run fl s r t) (x : Tagged) → Stood fl s r t p x → Ever (flat_map taken r) t.tokens x
stood_ever fl s t [] p x h = within_from x t.tokens h
stood_ever fl s t (a ∷ r) p x (inl h) =
    let later = flat_map taken r ++ t.tokens in
    let whole : Within x (taken a ++ later)
    → Ever (taken a ++ flat_map taken r) t.tokens x = λ k. subst (λ l. Within x l) (sym (append_assoc (taken a) (flat_map taken r) t.tokens)) k in
    ⊎_elim (λ k. whole (within_left x (taken a) later k))
    (λ k.
    let mid = within_permutation x (p.1.does.added ++ p.1.rest) p.0.tokens (IsPermutation-sym _ _ p.1.leaves) (within_right x p.1.does.added p.1.rest k) in
    whole (within_right x (taken a) later (stood_ever fl p.0 t r p.2 x (stood_at fl p.0 t r p.2 x (within_to x p.0.tokens mid)))))
    (within_append x (taken a) p.1.rest (within_permutation x s.tokens (taken a ++ p.1.rest) p.1.takes (within_from x s.tokens h)))
stood_ever fl s t (a ∷ r) p x (inr h) =
    subst (λ l. Within x l) (sym (append_assoc (taken a) (flat_map taken r) t.tokens))
    (within_right x (taken a) (flat_map taken r ++ t.tokens) (stood_ever fl p.0 t r p.2 x h))
