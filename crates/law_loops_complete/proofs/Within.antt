-- Where some run of the meaning keeps within, code that starves only where none does completes; and the first activity that is missing is enabled.
use Rattle.std.proofs.Common.{refl, ap, subst, ◌⊎◌, inl, inr, ℤ, List, [], ◌∷◌, ◌++◌, IsPermutation}
use Rattle.std.proofs.lemmas.List.Sorted.{IsPermutation-refl, IsPermutation-trans, IsPermutation-cons, IsPermutation-middle}
use Rattle.semantics.specs.Graph.{Flow, flow_of}
use Rattle.semantics.specs.Meaning.{State, Activity, Step, Run, AtRest, start}
use Rattle.law_confluence.specs.Outcome.{NoClash}
use Rattle.law_confluence.proofs.ActivityDiamond.{One, Joined, Clash, diamond}
use Rattle.law_confluence.proofs.OutcomeDeterminacy.{IsKept, same_sym, step_same, run_same}
use Rattle.law_confluence.proofs.OutcomeResolved.{flow_well, fits}
use Rattle.law_confluence.proofs.History.{Fits, History, history_kept, start_history, flow_determinate}
use Rattle.law_confluence.proofs.HistoryLaws.{IsFlowWell}
use Rattle.law_completion.proofs.TotalEnds.{roomy_runs_complete}
use Rattle.law_loops_complete.specs.Within.{WithinCompletes, IsMissing, FirstMissing}

module _ (fl : Flow) (Inv : State → Type 0) (k : IsKept fl Inv) where
  -- no run from there meets a second store
  abbrev Calm : State → Type 0
  Calm s = (r : List Activity) (t : State) → Run fl s r t → NoClash fl t

  -- what is enabled is made by the run, or enabled after it
  stays : (part : List Activity) (o s u : State) (a : Activity) → Inv o → Calm o → Step fl a o u → Run fl o part s
      → ((rest : List Activity) × Run fl u rest s × IsPermutation part (a ∷ rest)) ⊎ ((v : State) × Step fl a s v)
  stays [] o s u a h calm e p = inr (u, step_same fl o s u a p e)
  stays (b ∷ part) o s u a h calm e p = elim (diamond fl o p.0 u b a (k.unique o h) p.1 e) [
    | One same states ↦ inl (
      part,
      run_same fl p.0 u s part states p.2,
      subst (λ (x : Activity). IsPermutation (b ∷ part) (x ∷ part)) same (IsPermutation-refl (b ∷ part)),
    )
    | Joined end there here ↦
        go end here (stays part p.0 s end a (k.step b o p.0 h p.1) (λ r t q. calm (b ∷ r) t (p.0, p.1, q)) there p.2)
    | Clash cell mine its c ↦ absurd (calm (b ∷ []) p.0 (p.0, p.1, (IsPermutation-refl p.0.tokens, refl)) cell c)
  ]
    where
      go : (end : State) → Step fl b u end
          → ((rest : List Activity) × Run fl end rest s × IsPermutation part (a ∷ rest)) ⊎ ((v : State) × Step fl a s v)
          → ((rest : List Activity) × Run fl u rest s × IsPermutation (b ∷ part) (a ∷ rest)) ⊎ ((v : State) × Step fl a s v)
      go end here (inl (rest, r, same)) =
          inl (
            b ∷ rest,
            (end, here, r),
            IsPermutation-trans _ _ _ (IsPermutation-cons b part (a ∷ rest) same) (IsPermutation-middle (b ∷ []) a rest),
          )
      go end here (inr more) = inr more

  missing : (whole part : List Activity) (o s t : State) → Inv o → Calm o → Run fl o whole t → AtRest fl t → Run fl o part s
      → AtRest fl s ⊎ IsMissing fl whole part s
  missing [] [] o s t h calm p rest q =
      inl (λ a u e. rest a u (step_same fl o t u a p (step_same fl s o u a (same_sym o s q) e)))
  missing [] (b ∷ part) o s t h calm p rest q = absurd (rest b q.0 (step_same fl o t q.0 b p q.1))
  missing (a ∷ whole) part o s t h calm p rest q =
      go (stays part o s p.0 a h calm p.1 q) (λ rest' q'. missing whole rest' p.0 s t (k.step a o p.0 h p.1) (λ r u m. calm (a ∷ r) u (p.0, p.1, m)) p.2 rest q')
    where
      on : (rest' : List Activity) → IsPermutation part (a ∷ rest') → AtRest fl s ⊎ IsMissing fl whole rest' s → AtRest fl s ⊎ IsMissing fl (a ∷ whole) part s
      on rest' same (inl r) = inl r
      on rest' same (inr M) = inr record {
        before = a ∷ M.before;
        next = M.next;
        later = M.later;
        splits = ap (λ (l : List Activity). a ∷ l) M.splits;
        others = M.others;
        made = IsPermutation-trans _ _ _ same (IsPermutation-cons a rest' (M.before ++ M.others) M.made);
        after = M.after;
        enabled = M.enabled;
      }

      go : ((rest : List Activity) × Run fl p.0 rest s × IsPermutation part (a ∷ rest)) ⊎ ((v : State) × Step fl a s v)
          → ((rest' : List Activity) → Run fl p.0 rest' s → AtRest fl s ⊎ IsMissing fl whole rest' s) → AtRest fl s ⊎ IsMissing fl (a ∷ whole) part s
      go (inl (rest', r, same)) next = on rest' same (next rest' r)
      go (inr (v, e)) next = inr record {
        before = [];
        next = a;
        later = whole;
        splits = refl;
        others = part;
        made = IsPermutation-refl part;
        after = v;
        enabled = e;
      }

-- for any flow
pub flow_missing : (fl : Flow) → IsFlowWell fl → (inputs : List ℤ) → Fits fl inputs → (t : State) → AtRest fl t → NoClash fl t
    → (whole : List Activity) → Run fl (start inputs) whole t → (part : List Activity) (s : State) → Run fl (start inputs) part s
    → AtRest fl s ⊎ IsMissing fl whole part s
flow_missing fl well inputs fits t rest quiet whole to part s r =
    let meets = flow_determinate fl well inputs fits t record { run = whole; is_run = to } rest quiet in
    missing fl (History fl inputs) (history_kept fl well inputs fits) whole part (start inputs) s t ([], start_history fl inputs fits)
    (λ q u m x. meets.no_clash u x record { run = q; is_run = m }) to rest r

pub first_missing : FirstMissing
first_missing g inputs well fit t rests whole to part s r =
    flow_missing (flow_of g) (flow_well g well) inputs (fits g well inputs fit) t rests.at_rest rests.no_clash whole to part s r

pub within_completes : WithinCompletes
within_completes g q well faithful outside inputs fit d t needs within z most space by_list may_stop r shows uncut =
    roomy_runs_complete (flow_of g) q faithful inputs z most space.some_element space.some_frame fit
    record {
      state = needs.state;
      reached = needs.rests.reached;
      at_rest = needs.rests.at_rest;
      no_clash = needs.rests.no_clash;
      due = d;
      turns = t;
      calls = needs.calls;
      frames = space.frames;
      time = space.steps;
    } (λ events m k rest none f s c waits. outside inputs z events m f s c k waits rest none within) needs.rests.none_waits by_list may_stop r shows uncut
