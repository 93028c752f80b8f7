-- The lemmas of the packages make the theorem: wired plans keep faith.
use Rattle.std.proofs.Common.{◌≡◌, ℕ, zero, suc, ◌+◌, ◌≤◌, ◌⊎◌, inl, inr, ℤ, true, false, List, [], ◌∷◌, ◌++◌, map, length, Some, if◌then◌else◌, refl, sym, ap}
use Rattle.std.proofs.Common.{◌∙◌, subst, arith, append_assoc, append-nil}
use Rattle.std.specs.Prelude.{All, IsPermutation, Contains, flat_map, slice_get, count_by}
use Rattle.std.proofs.lemmas.List.Sorted.{IsPermutation-trans, IsPermutation-refl, IsPermutation-sym, IsPermutation-append, IsPermutation-append_left}
use Rattle.std.proofs.lemmas.List.Sorted.{IsPermutation-append_right, All-permutation}
use Rattle.std.proofs.lemmas.List.Elements.{All-append, All-nil, All-weaker, Contains-append_left, Contains-append_cases}
use Rattle.std.proofs.lemmas.Option.{slice_get_within}
use Rattle.lemmas.proofs.Alls.{all_left, all_right}
use Rattle.lemmas.proofs.Contains.{contains_cases, contains_get, contains_none}
use Rattle.tags.specs.declared.value.Value.TheVariants.{Int}
use Rattle.tags.specs.declared.token.Token.{Token}
use Rattle.semantics.specs.Graph.{Flow}
use Rattle.semantics.specs.Meaning.{State, Main, Tagged, tagged, AtNode, Operand, start, entering}
use Rattle.semantics.specs.Plan.{Plan}
use Rattle.semantics.specs.Machine.{Machine, Store, Size, Events, Run, at_start}
use Rattle.semantics.specs.Handed.{handed, handed_by, EachOnce, UsesEachOnce}
use Rattle.semantics.specs.Arcs.{UsesArc, SomeEvent}
use Rattle.semantics.specs.Holders.{Holder}
use Rattle.semantics.specs.Credits.{granted, released}
use Rattle.tags.specs.declared.token.Port.{Port}
use Rattle.tags.specs.declared.token.Port.TheVariants.{Left, Right}
use Rattle.tags.specs.declared.token.Cont.{Cont}
use Rattle.tags.specs.declared.token.Word.{Word}
use Rattle.tags.specs.declared.token.To.{To}
use Rattle.semantics.specs.declared.program.Mark.{Mark}
use Rattle.semantics.specs.Rule.{token}
use Rattle.semantics.specs.Program.{Instr, instr_at}
use Rattle.semantics.specs.Cause.{HasCause}
use Rattle.semantics.specs.Orderly.{IsOrderlyRun, IsStart, IsMarked, met, often, is_at, same_block}
use Rattle.law_reuse.specs.Bounds.{PlanKeepsBound}
use Rattle.law_fresh_frames.specs.Fresh.{KeepsOnce}
use Rattle.law_fresh_frames.specs.Alike.{HasLanding, offset_of}
use Rattle.law_fresh_frames.proofs.FreshFaith.{once_suffices}
use Rattle.law_fresh_frames.proofs.Alike.{alike_is_faithful}
use Rattle.law_fresh_frames.proofs.Bounded.{orderly_is_bounded}
use Rattle.law_confluence.proofs.Orders.{shuffled, flat_map-IsPermutation, Part, ◌⊕◌}
use Rattle.law_confluence.proofs.Net.{Waits, Fires, net_sound_moves, net_sound_begins, fires_allowed}
use Rattle.law_confluence.proofs.NetMeans.{OnFires, net_means}
use Rattle.law_confluence.proofs.NetArms.{arms_lawful}
use Rattle.law_net.specs.ContextsParts.{Item, Firing, spot_of, same_spot, role_of}
use Rattle.law_net.specs.Contexts.{Wires}
use Rattle.law_net.specs.ContextsMeant.{meant}
use Rattle.law_net.specs.ContextsFirings.{Config, Move, begin, begins, input_items, takes, makes, memory_of, IsProperMove, ProperMoves, Still, Then}
use Rattle.law_net.specs.ContextsLaws.{Fits, WordFits, IsPredicate, is_true, InArm, source, says, Allowed, NetHasArms, NetIsLawful, IsSoundNet, WordsFit}
use Rattle.law_net.specs.ContextsLaws.{MeansOf}
use Rattle.law_net.specs.ContextsMirror.{Tracks, Past, no_past, Stepped, WasUsed, after, is_cell_token, events_taken}
use Rattle.law_net.specs.ContextsTheorem.{IsGood, KeepsFaith, WiredKeepsFaith, WiredCodeIsFaithful, FaithGoesOn, FaithThroughPass}
use Rattle.law_net.specs.ContextsPackages.{AllPackages, InputsFit, Keeps, BoundIsKept, group_of, doing_of}

-- what the host gives is reported
pub meant_inputs : (fl : Flow) (n : ℕ) (zs : List ℤ) → flat_map (meant fl) (input_items n zs) ≡ entering Main n (map (λ (z : ℤ). Int z) zs)
meant_inputs fl n [] = refl
meant_inputs fl n (z ∷ zs) = ap (λ (l : List Tagged). tagged Main (AtNode n) (Operand 0) (Int z) ∷ l) (meant_inputs fl (n + 1) zs)

module _ (A : AllPackages) (fl : Flow) (p : Plan) (w : Wires) (inputs : List ℤ) (good : IsGood fl p w) (fit : InputsFit fl inputs) where
  pub arms : NetHasArms fl w inputs
  arms =
      let words = A.words fl p w inputs good fit in let fed = A.fed fl p w inputs good fit in let entered = A.entered fl p w inputs good fit in record {
        enters = entered.enters;
        words = entered.words;
        makes_fit = words.makes_fit;
        begins_fit = words.begins_fit;
        none_first = entered.none_first;
        begins_once = fed.begins_once;
        makes_once = fed.makes_once;
        begins_apart = fed.begins_apart;
        feeders = fed.feeders;
        rivals = A.rivals fl p w inputs good fit;
      }

  pub lawful : NetIsLawful fl w inputs
  lawful =
      arms_lawful spot_of same_spot (takes fl) (makes fl w) (begins inputs) role_of (Fits fl w) (IsPredicate fl) is_true (InArm fl) (source fl w) (says fl) arms

  -- what holds of a configuration that proper moves lead to
  pub record IsKept (c : Config) : Type 0 where
    pub sound : IsSoundNet fl w inputs c
    pub fits : WordsFit fl w inputs c
    pub state : State
    pub meant_of : MeansOf fl w inputs c state

  -- what a firing takes, and the rest
  split : (P : Item → Type 0) (c : Config) (f : Firing) (now kept rest others : List Item) → IsPermutation c.pending (now ++ rest)
      → IsPermutation c.waiting (kept ++ others) → IsPermutation (now ++ kept) (takes fl f)
      → All P (c.pending ++ (c.waiting ++ flat_map (takes fl) c.fired)) → All P (takes fl f ++ (rest ++ (others ++ flat_map (takes fl) c.fired)))
  split P c f now kept rest others a b both all =
      All-permutation P _ _ (IsPermutation-trans _ _ _ (IsPermutation-append _ _ _ _ a (IsPermutation-append_left (flat_map (takes fl) c.fired) _ _ b))
      (IsPermutation-trans _ _ _ (shuffled (now ∷ rest ∷ kept ∷ others ∷ flat_map (takes fl) c.fired ∷ []) ((Part 0 ⊕ Part 1) ⊕ ((Part 2 ⊕ Part 3) ⊕ Part 4))
      ((Part 0 ⊕ Part 2) ⊕ (Part 1 ⊕ (Part 3 ⊕ Part 4))) refl)
      (IsPermutation-append_left (rest ++ (others ++ flat_map (takes fl) c.fired)) _ _ both))) all

  words_move : (c d : Config) (m : Move fl w c d) → IsSoundNet fl w inputs c → WordsFit fl w inputs c → WordsFit fl w inputs d
  words_move c d (Waits i rest a e) sound fits = subst (WordsFit fl w inputs) (sym e) (All-permutation (WordFits fl w) _ _
      (IsPermutation-trans _ _ _ (IsPermutation-append_left (c.waiting ++ flat_map (takes fl) c.fired) _ _ a)
      (shuffled ((i ∷ []) ∷ rest ∷ c.waiting ∷ flat_map (takes fl) c.fired ∷ []) ((Part 0 ⊕ Part 1) ⊕ (Part 2 ⊕ Part 3))
      (Part 1 ⊕ ((Part 0 ⊕ Part 2) ⊕ Part 3)) refl)) fits)
  words_move c d (Fires f now kept rest others a b both e) sound fits =
      let W = WordFits fl w in
      let all = split W c f now kept rest others a b both fits in
      let mine = all_left W (takes fl f) (rest ++ (others ++ flat_map (takes fl) c.fired)) all in
      let left = all_right W (takes fl f) (rest ++ (others ++ flat_map (takes fl) c.fired)) all in
      let more = all_right W rest (others ++ flat_map (takes fl) c.fired) left in
      subst (WordsFit fl w inputs) (sym e) (All-append W (makes fl w f ++ rest) (others ++ (takes fl f ++ flat_map (takes fl) c.fired))
      (All-append W (makes fl w f) rest ((A.words fl p w inputs good fit).words f (fit_of f now kept rest others a b both) mine)
      (all_left W rest (others ++ flat_map (takes fl) c.fired) left))
      (All-append W others (takes fl f ++ flat_map (takes fl) c.fired) (all_left W others (flat_map (takes fl) c.fired) more)
      (All-append W (takes fl f) (flat_map (takes fl) c.fired) mine (all_right W others (flat_map (takes fl) c.fired) more))))
    where
      fit_of : (f : Firing) (now kept rest others : List Item) → IsPermutation c.pending (now ++ rest) → IsPermutation c.waiting (kept ++ others)
          → IsPermutation (now ++ kept) (takes fl f) → All (λ (i : Item). Fits fl w (spot_of i)) (takes fl f)
      fit_of f now kept rest others a b both =
          fits_of (takes fl f) (fires_allowed spot_of same_spot (takes fl) (makes fl w) (begins inputs) role_of
          (Allowed fl w inputs) lawful c sound f now kept rest others a b both)
        where
          fits_of : (items : List Item) → All (Allowed fl w inputs c.fired) items → All (λ (i : Item). Fits fl w (spot_of i)) items
          fits_of items all = All-weaker (Allowed fl w inputs c.fired) (λ (i : Item). Fits fl w (spot_of i)) (λ i k. k.fits) items all

  move_keeps : (c d : Config) (m : Move fl w c d) → IsProperMove fl w c.fired c d m → IsKept c → IsKept d
  move_keeps c d m proper k =
      let f = net_means fl inputs (takes fl) (makes fl w) (meant fl) (memory_of fl) c d k.state k.meant_of m (tells m proper) in record {
        sound = net_sound_moves spot_of same_spot (takes fl) (makes fl w) (begins inputs) role_of (Allowed fl w inputs) lawful c d k.sound m;
        fits = words_move c d m k.sound k.fits;
        state = f.0;
        meant_of = f.1;
      }
    where
      tells : (m : Move fl w c d) → IsProperMove fl w c.fired c d m → OnFires fl inputs (takes fl) (makes fl w) (meant fl) (memory_of fl) c c d m
      tells (Waits i rest a e) proper = tt
      tells (Fires f now kept rest others a b both e) proper = A.meant (group_of fl f.context f.part) fl p w inputs f c.fired good fit
          (fires_allowed spot_of same_spot (takes fl) (makes fl w) (begins inputs) role_of
          (Allowed fl w inputs) lawful c k.sound f now kept rest others a b both)
          (all_left (WordFits fl w) (takes fl f) (rest ++ (others ++ flat_map (takes fl) c.fired))
          (split (WordFits fl w) c f now kept rest others a b both k.fits))
          proper refl

  pub moves_keep : (c d : Config) → ProperMoves fl w c d → IsKept c → IsKept d
  moves_keep c d (Still e) k = k
  moves_keep c d (Then a mid b m proper more) k = moves_keep mid b more (move_keeps a mid m proper k)

  pub begin_keeps : IsKept (begin inputs)
  begin_keeps = record {
    sound = net_sound_begins spot_of same_spot (takes fl) (makes fl w) (begins inputs) role_of (Allowed fl w inputs) lawful;
    fits = All-append (WordFits fl w) (begins inputs) [] (A.words fl p w inputs good fit).begin_words (All-nil (WordFits fl w));
    state = start inputs;
    meant_of = record {
      reached = record { run = []; is_run = (IsPermutation-refl (start inputs).tokens, refl) };
      tokens = subst (λ (l : List Item). IsPermutation (start inputs).tokens (flat_map (meant fl) l)) (sym (append-nil (begins inputs)))
          (subst (λ (l : List Tagged). IsPermutation (start inputs).tokens l) (sym (meant_inputs fl 0 inputs)) (IsPermutation-refl (start inputs).tokens));
      memory_is = refl;
    };
  }

  pub follow_keeps : (q : Past) (m : Machine) → Tracks fl p w inputs q m → Keeps fl p w inputs q m
  follow_keeps q m f =
      let k = moves_keep (begin inputs) f.net f.moves begin_keeps in record { tracks = f; sound = k.sound; fits = k.fits; state = k.state; meant = k.meant_of }

  -- ALONG A RUN
  abbrev pub past_of : (z : Size) (q : Past) (old : Machine) (events : Events) (new : Machine) → Run p.program z old events new → Past
  past_of z q old [] new run = q
  past_of z q old (ev ∷ later) new run = past_of z (after p q ev.0 ev.1 old.store run.1.made run.0) run.0 later new run.2

  got_left : (xs ys : List ℕ) (i g : ℕ) → slice_get xs i ≡ Some g → slice_get (xs ++ ys) i ≡ Some g
  got_left [] ys i g e = cc
  got_left (x ∷ xs) ys zero g e = e
  got_left (x ∷ xs) ys (suc i) g e = got_left xs ys i g e

  got_right : (xs ys : List ℕ) (j g : ℕ) → slice_get ys j ≡ Some g → slice_get (xs ++ ys) (length xs + j) ≡ Some g
  got_right [] ys j g e = let h : j ≡ 0 + j = omega arith in subst (λ n. slice_get ys n ≡ Some g) h e
  got_right (x ∷ xs) ys j g e =
      let h : suc (length xs + j) ≡ length (x ∷ xs) + j = omega arith in subst (λ n. slice_get ((x ∷ xs) ++ ys) n ≡ Some g) h (got_right xs ys j g e)

  once_apart : (xs ys : List ℕ) → EachOnce (xs ++ ys) → (g : ℕ) → Contains ys g → Contains xs g → ⊥
  once_apart xs ys once g right left =
      let i = contains_get xs g left in let j = contains_get ys g right in
      let e = once i.0 (length xs + j.0) g (got_left xs ys i.0 g i.1) (got_right xs ys j.0 g j.1) in
      let l = slice_get_within xs i.0 g i.1 in omega (arith, e, l)

  -- the last state, with its tokens in another order
  still : (q : Past) (old new : Machine) → IsPermutation old.pool new.pool → new.store ≡ old.store → Tracks fl p w inputs q old → Tracks fl p w inputs q new
  still q old new perm same f = subst (λ (s : Store). Tracks fl p w inputs q (record { store = s; pool = new.pool })) (sym same) (record {
    net = f.net;
    moves = f.moves;
    stands = record {
      pool = IsPermutation-trans _ _ _ (IsPermutation-sym _ _ perm) f.stands.pool;
      known = f.stands.known;
      apart = f.stands.apart;
      named = f.stands.named;
      base = f.stands.base;
      slots = f.stands.slots;
      loops = f.stands.loops;
      others = f.stands.others;
      requests = f.stands.requests;
      readers = f.stands.readers;
      good = f.stands.good;
      no_store = f.stands.no_store;
      waits = f.stands.waits;
      seen = f.stands.seen;
      done = f.stands.done;
      out = f.stands.out;
      not_out = f.stands.not_out;
    };
    met =
        IsPermutation-trans _ _ _ (flat_map-IsPermutation (λ (t : Token). if is_cell_token t then [] else t ∷ []) _ _
        (IsPermutation-append_right (events_taken q.events) _ _ (IsPermutation-sym _ _ perm))) f.met;
    handed = f.handed;
    caused = f.caused;
    asked = f.asked;
    credits = f.credits;
    granted = f.granted;
    no_other = f.no_other;
    released = f.released;
    none_released = f.none_released;
  })

  pub run_follows : (z : Size) (q : Past) (old : Machine) (events : Events) (new : Machine) (run : Run p.program z old events new) → Tracks fl p w inputs q old
      → EachOnce (q.handed ++ handed p.program z old events new run)
      → Tracks fl p w inputs (past_of z q old events new run) new
  run_follows z q old [] new run f once = still q old new run.0 run.1 f
  run_follows z q old (ev ∷ later) new run f once =
      let k = follow_keeps q old f in
      let i = A.tokens fl p w inputs q old ev.1 run.1.rest good k run.1.takes in
      let now = handed_by ev.1.to run.1.made in let rest = handed p.program z run.0 later new run.2 in
      run_follows z (after p q ev.0 ev.1 old.store run.1.made run.0) run.0 later new run.2
      (A.events (doing_of fl i.0.context i.0.inlet.part) fl p w inputs z q old run.0 ev.0 ev.1 good k run.1
      (λ g a b. once_apart q.handed (now ++ rest) once g (Contains-append_left now rest g a) b) i.0 i.1 i.2 i.3 refl)
      (subst EachOnce (sym (append_assoc q.handed now rest)) once)

  -- what the run has done, as the clauses count it
  past_events : (z : Size) (q : Past) (old : Machine) (events : Events) (new : Machine) (run : Run p.program z old events new)
      → (past_of z q old events new run).events ≡ q.events ++ events
  past_events z q old [] new run = sym (append-nil q.events)
  past_events z q old (ev ∷ later) new run =
      past_events z (after p q ev.0 ev.1 old.store run.1.made run.0) run.0 later new run.2 ∙ append_assoc q.events (ev ∷ []) later

  past_granted : (z : Size) (q : Past) (old : Machine) (events : Events) (new : Machine) (run : Run p.program z old events new) (f : ℕ) (h : Holder)
      → (past_of z q old events new run).granted f h ≡ q.granted f h + granted p p.program f h z old events new run
  past_granted z q old [] new run f h = omega arith
  past_granted z q old (ev ∷ later) new run f h =
      let k = past_granted z (after p q ev.0 ev.1 old.store run.1.made run.0) run.0 later new run.2 f h in omega (arith, k)

  past_released : (z : Size) (q : Past) (old : Machine) (events : Events) (new : Machine) (run : Run p.program z old events new) (f base : ℕ)
      → (past_of z q old events new run).released f base ≡ q.released f base + released p.program f base z old events new run
  past_released z q old [] new run f base = omega arith
  past_released z q old (ev ∷ later) new run f base =
      let k = past_released z (after p q ev.0 ev.1 old.store run.1.made run.0) run.0 later new run.2 f base in omega (arith, k)

  past_used : (z : Size) (q : Past) (old : Machine) (events : Events) (new : Machine) (run : Run p.program z old events new) (f ip : ℕ) (r : Port)
      → WasUsed p (past_of z q old events new run).steps f ip r → WasUsed p q.steps f ip r ⊎ SomeEvent (UsesArc p f ip r) p.program z old events new run
  past_used z q old [] new run f ip r u = inl u
  past_used z q old (ev ∷ later) new run f ip r u = pick (past_used z (after p q ev.0 ev.1 old.store run.1.made run.0) run.0 later new run.2 f ip r u)
    where
      step : Stepped
      step = record { taken = ev.1; made = run.1.made; left = run.0 }

      here : (s : Stepped) → UsesArc p f ip r s.taken s.made s.left → Contains q.steps s ⊎ Contains (step ∷ []) s
          → WasUsed p q.steps f ip r ⊎ SomeEvent (UsesArc p f ip r) p.program z old (ev ∷ later) new run
      here s u (inl c) = inl (s, c, u)
      here s u (inr c) = by_cases (contains_cases step [] s c)
        where
          by_cases : (step ≡ s) ⊎ Contains [] s → WasUsed p q.steps f ip r ⊎ SomeEvent (UsesArc p f ip r) p.program z old (ev ∷ later) new run
          by_cases (inl e) = inr (inl (subst (λ (s : Stepped). UsesArc p f ip r s.taken s.made s.left) (sym e) u))
          by_cases (inr c) = absurd (contains_none s c)

      pick : WasUsed p (q.steps ++ step ∷ []) f ip r ⊎ SomeEvent (UsesArc p f ip r) p.program z run.0 later new run.2
          → WasUsed p q.steps f ip r ⊎ SomeEvent (UsesArc p f ip r) p.program z old (ev ∷ later) new run
      pick (inr e) = inr (inr e)
      pick (inl (s, c, u)) = here s u (Contains-append_cases q.steps (step ∷ []) s c)

-- ---- ALL RUNS
module _ (A : AllPackages) (fl : Flow) (p : Plan) (w : Wires) (good : IsGood fl p w) where
  module _ (inputs : List ℤ) (fit : InputsFit fl inputs) (z : Size) (events : Events) (m : Machine) (run : Run p.program z (at_start p.program inputs) events m)
      (once : UsesEachOnce p.program z inputs events m run) where
    abbrev whole : Past
    whole = past_of A fl p w inputs good fit z no_past (at_start p.program inputs) events m run

    keeps : Keeps fl p w inputs whole m
    keeps =
        follow_keeps A fl p w inputs good fit whole m
        (run_follows A fl p w inputs good fit z no_past (at_start p.program inputs) events m run (A.starts fl p w inputs good fit) once)

    same_events : whole.events ≡ events
    same_events = past_events A fl p w inputs good fit z no_past (at_start p.program inputs) events m run

    used_in_run : (f ip : ℕ) (r : Port) → WasUsed p whole.steps f ip r → SomeEvent (UsesArc p f ip r) p.program z (at_start p.program inputs) events m run
    used_in_run f ip r u = pick (past_used A fl p w inputs good fit z no_past (at_start p.program inputs) events m run f ip r u)
      where
        pick : WasUsed p [] f ip r ⊎ SomeEvent (UsesArc p f ip r) p.program z (at_start p.program inputs) events m run
            → SomeEvent (UsesArc p f ip r) p.program z (at_start p.program inputs) events m run
        pick (inl (s, c, u)) = absurd (contains_none s c)
        pick (inr e) = e

    pub keeps_once : KeepsOnce fl p.program inputs events m
    keeps_once = record {
      exact = A.exact fl p w inputs whole m good fit keeps;
      second_store = A.second_store fl p w inputs whole m good fit keeps;
      clean = A.clean fl p w inputs whole m good fit keeps;
      cause = subst (λ (es : Events). HasCause fl p.program inputs es m) same_events (A.cause fl p w inputs whole m good fit keeps);
    }

    pub is_orderly : IsOrderlyRun p z (at_start p.program inputs) events m run
    is_orderly = record {
      once =
          subst (λ (es : Events). (f ip : ℕ) (r : Port) → often (instr_at p.program ip) ≡ false → count_by (λ (t : Token). is_at f ip r t.to) (met es m) ≤ 1)
          same_events (A.once fl p w inputs whole m good fit keeps);
      caused = λ f ip r k e c. used_in_run f ip r (A.caused fl p w inputs whole m good fit keeps f ip r k e c);
      agree = subst (λ (es : Events). (f ip jp : ℕ) (k : Mark) (v u : Word) → IsMarked p ip k → IsMarked p jp k → same_block p.program.blocks ip jp ≡ true
          → Contains (met es m) (token (To.Instr f ip Right) v) → Contains (met es m) (token (To.Instr f jp Right) u) → v ≡ u) same_events
          (A.agree fl p w inputs whole m good fit keeps);
      block =
          subst (λ (es : Events). (f ip jp : ℕ) (r s : Port) (v u : Word) → Contains (met es m) (token (To.Instr f ip r) v)
          → Contains (met es m) (token (To.Instr f jp s) u) → same_block p.program.blocks ip jp ≡ true) same_events
          (A.block fl p w inputs whole m good fit keeps);
      matching = A.matching fl p w inputs whole m good fit keeps;
      release = A.release fl p w inputs whole m good fit keeps;
    }

    pub bound_is_kept : (f : ℕ) → PlanKeepsBound p z inputs events m run f
    bound_is_kept f = record {
      never_above = λ loop k ip s part. let b = kept.never_above f loop k ip s part in
          (b.0, b.1, let g = granted_all f loop in let r = released_all f b.0 in let h = b.2 in omega (arith, g, r, h));
      all_granted = λ loop k ip s v c part arrive asks waits.
          let b = kept.all_granted f loop k ip s v c part
          (subst (λ (es : Events). Contains (met es m) (token (To.Instr f ip Left) v)) (sym same_events) arrive) asks waits in
          (b.0, b.1, let g = granted_all f loop in let r = released_all f b.0 in let h = b.2 in omega (arith, g, r, h));
    }
      where
        kept : BoundIsKept fl p inputs whole m
        kept = A.bound fl p w inputs whole m good fit keeps

        granted_all : (f : ℕ) (h : Holder) → whole.granted f h ≡ granted p p.program f h z (at_start p.program inputs) events m run
        granted_all f h = let e = past_granted A fl p w inputs good fit z no_past (at_start p.program inputs) events m run f h in omega (arith, e)

        released_all : (f base : ℕ) → whole.released f base ≡ released p.program f base z (at_start p.program inputs) events m run
        released_all f base = let e = past_released A fl p w inputs good fit z no_past (at_start p.program inputs) events m run f base in omega (arith, e)

    pub lands_rightly : (f ip g base o : ℕ) (r : Port) (i : Instr) → instr_at p.program ip ≡ Some i → offset_of i.op ≡ Some o
        → Contains (met events m) (token (To.Instr f ip Left) (Word.Back (Cont.Frame g base r))) → HasLanding p base o
    lands_rightly f ip g base o r i e d c =
        A.lands fl p w inputs whole m good fit keeps f ip g base o r i e d
        (subst (λ (es : Events). Contains (met es m) (token (To.Instr f ip Left) (Word.Back (Cont.Frame g base r)))) (sym same_events) c)

  fits : (z : Size) (inputs : List ℤ) → IsStart p z inputs → InputsFit fl inputs
  fits z inputs s = s.inputs_fit ∙ good.takes_inputs

  -- THE COMPOSITION
  pub all_kept : KeepsFaith fl p
  all_kept = record {
    faithful =
        record { arrays = good.wired.arrays; bounds = good.bounds; each = λ inputs z events m r once. keeps_once inputs r.inputs_fit z events m r.run once };
    orderly = λ inputs z events m s run once. is_orderly inputs (fits z inputs s) z events m run once;
    bounds = λ inputs z events m f s run once. bound_is_kept inputs (fits z inputs s) z events m run once f;
    lands = λ inputs z events m s run once f ip g base o r i e d c. lands_rightly inputs (fits z inputs s) z events m run once f ip g base o r i e d c;
  }

-- WIRED PLANS KEEP FAITH, by the lemmas of all packages
pub wired_keeps_faith : AllPackages → WiredKeepsFaith
wired_keeps_faith A fl p w good = all_kept A fl p w good

-- and the code of a plan that keeps so much is faithful in all runs
pub faith_goes_on : FaithGoesOn
faith_goes_on fl p slots k few wired inputs good = once_suffices fl p slots k.faithful (orderly_is_bounded p k.orderly few) k.orderly wired good inputs

pub wired_code_is_faithful : AllPackages → WiredCodeIsFaithful
wired_code_is_faithful A fl p w slots good few g = faith_goes_on fl p slots (wired_keeps_faith A fl p w good) few good.plan good.takes_inputs g

pub faith_through_pass : FaithThroughPass
faith_through_pass fl pass p keeps sound tidy arrays bounds inputs takes k =
    let h = keeps p sound k.orderly k.lands tidy in record {
      faithful = alike_is_faithful fl p (pass p) arrays bounds inputs h.alike takes k.faithful;
      orderly = h.orderly;
      bounds = h.bounds k.bounds;
      lands = h.lands;
    }
