-- A run of the meaning beside the moves of the net, in which each token was present that an item of the net ever stood for.
use Rattle.std.proofs.Common.{◌≡◌, ℤ, true, nat_lt, List, [], ◌∷◌, ◌++◌, refl, sym, ap, ◌∙◌, subst, append_assoc, append-nil, ⊎_elim}
use Rattle.std.specs.Prelude.{All, IsPermutation, Contains, flat_map, ⊤}
use Rattle.lemmas.proofs.Contains.{contains_head, contains_tail}
use Rattle.std.proofs.lemmas.List.Concat.{flat_map-append}
use Rattle.std.proofs.lemmas.List.Sorted.{IsPermutation-trans, IsPermutation-refl, IsPermutation-sym, IsPermutation-append, IsPermutation-append_left}
use Rattle.std.proofs.lemmas.List.Sorted.{All-permutation}
use Rattle.std.proofs.lemmas.List.Elements.{All-append, All-nil, All-weaker, All-contains, All-contains_itself}
use Rattle.semantics.specs.Graph.{Flow}
use Rattle.semantics.specs.Meaning as Meaning
use Rattle.semantics.specs.Meaning.{State, Activity, Tagged, taken, start}
use Rattle.semantics.specs.Plan.{Plan}
use Rattle.semantics.specs.Machine.{Machine}
use Rattle.lemmas.proofs.Permutations.{Within, within_permutation, within_append, within_left, within_right, within_from}
use Rattle.lemmas.proofs.Alls.{all_left, all_right}
use Rattle.law_confluence.proofs.Orders.{at_last, shuffled, flat_map-IsPermutation, Part, ◌⊕◌}
use Rattle.law_confluence.proofs.Net.{Waits, Fires, net_sound_moves, net_sound_begins, fires_allowed}
use Rattle.law_confluence.proofs.NetMeans.{run_from, run_join, state_of}
use Rattle.law_confluence.proofs.NetArms.{arms_lawful}
use Rattle.law_net.specs.ContextsParts.{Line, Item, Firing, spot_of, same_spot, role_of}
use Rattle.law_net.specs.Contexts.{Wires, block_in}
use Rattle.law_net.specs.ContextsMeant.{meant}
use Rattle.law_net.specs.ContextsFirings.{Config, Move, begin, begins, takes, makes, memory_of, HasFired, IsProperMove, ProperMoves, Still, Then}
use Rattle.law_net.specs.ContextsLaws.{Fits, WordFits, IsPredicate, is_true, InArm, source, says, Allowed, NetHasArms, NetIsLawful, IsSoundNet, WordsFit}
use Rattle.law_net.specs.ContextsMirror.{Past}
use Rattle.law_net.specs.ContextsTheorem.{IsGood}
use Rattle.law_net.specs.ContextsPackages.{InputsFit, Keeps}
use Rattle.law_net.proofs.ContextsComposition.{meant_inputs}
use Rattle.law_net_refines_meaning.proofs.FiringsActs.{Passing, Acts}
use Rattle.law_net_refines_meaning.proofs.Firings.{firing_passes}
use Rattle.law_net.proofs.WiredWords.{words_are_fit}
use Rattle.law_net.proofs.WiredFed.{inlets_are_fed}
use Rattle.law_net.proofs.WiredEntered.{arms_are_entered}
use Rattle.law_net.proofs.WiredRivals.{rivals_are_apart}
use Rattle.law_net.proofs.WiredNets.{all_of, flat_contains}

-- what was present before a run is spent in it or still present
pub stays_in : (fl : Flow) (r : List Activity) (s t : State) → Meaning.Run fl s r t → (x : Tagged) → Within x s.tokens → Within x (flat_map taken r ++ t.tokens)
stays_in fl [] s t p x h = within_permutation x s.tokens t.tokens p.0 h
stays_in fl (a ∷ r) s t p x h =
    subst (λ (l : List Tagged). Within x l) (sym (append_assoc (taken a) (flat_map taken r) t.tokens))
    (⊎_elim (λ k. within_left x (taken a) (flat_map taken r ++ t.tokens) k)
    (λ k. within_right x (taken a) (flat_map taken r ++ t.tokens)
    (stays_in fl r p.0 t p.2 x (within_permutation x (p.1.does.added ++ p.1.rest) p.0.tokens (IsPermutation-sym _ _ p.1.leaves)
    (within_right x p.1.does.added p.1.rest k))))
    (within_append x (taken a) p.1.rest (within_permutation x s.tokens (taken a ++ p.1.rest) p.1.takes h)))

-- WHICH INPUTS pass: those of lines that have fired
abbrev pub Passed : Flow → List Firing → Activity → Type 0
Passed fl fired (Meaning.Fires c n vs) = nat_lt n (block_in fl c).inputs ≡ true → HasFired c (Line n) fired
Passed fl fired a = ⊤

passed_later : (fl : Flow) (f : Firing) (fired : List Firing) (a : Activity) → Passed fl fired a → Passed fl (f ∷ fired) a
passed_later fl f fired (Meaning.Fires c n vs) h = λ e. (let (g, d, x, y) = h e in (g, contains_tail f fired g d, x, y))
passed_later fl f fired a h = tt

passed_now : (fl : Flow) (f : Firing) (fired : List Firing) (a : Activity) → Passing fl f.context f.part a → Passed fl (f ∷ fired) a
passed_now fl f fired (Meaning.Fires c n vs) h = λ e. (let (x, y) = h e in (f, contains_head f fired, sym x, y))
passed_now fl f fired a h = tt

module _ (fl : Flow) (p : Plan) (w : Wires) (inputs : List ℤ) (good : IsGood fl p w) (fit : InputsFit fl inputs) where
  arms : NetHasArms fl w inputs
  arms =
      let words = words_are_fit fl p w good inputs fit in let fed = inlets_are_fed fl p w good inputs fit in
      let entered = arms_are_entered fl p w good inputs fit in record {
        enters = entered.enters;
        words = entered.words;
        makes_fit = words.makes_fit;
        begins_fit = words.begins_fit;
        none_first = entered.none_first;
        begins_once = fed.begins_once;
        makes_once = fed.makes_once;
        begins_apart = fed.begins_apart;
        feeders = fed.feeders;
        rivals = rivals_are_apart fl p w good inputs;
      }

  lawful : NetIsLawful fl w inputs
  lawful =
      arms_lawful spot_of same_spot (takes fl) (makes fl w) (begins inputs) role_of (Fits fl w) (IsPredicate fl) is_true (InArm fl) (source fl w) (says fl) arms

  -- all tokens that the item stands for were present
  abbrev pub Ever : List Tagged → Item → Type 0
  Ever history i = (t : Tagged) → Contains (meant fl i) t → Within t history

  abbrev pub History : List Activity → State → List Tagged
  History run s = flat_map taken run ++ s.tokens

  pub record Meant (c : Config) : Type 0 where
    pub sound : IsSoundNet fl w inputs c
    pub fits : WordsFit fl w inputs c
    pub state : State
    pub run : List Activity
    pub is_run : Meaning.Run fl (start inputs) run state
    pub tokens : IsPermutation state.tokens (flat_map (meant fl) (c.pending ++ c.waiting))
    pub memory_is : state.memory ≡ memory_of fl c.fired
    pub ever : All (Ever (flat_map taken run ++ state.tokens)) (c.pending ++ (c.waiting ++ flat_map (takes fl) c.fired))
    pub passed : All (Passed fl c.fired) run

  -- what a firing takes, and the rest
  split : (P : Item → Type 0) (c : Config) (f : Firing) (now kept rest others : List Item) → IsPermutation c.pending (now ++ rest)
      → IsPermutation c.waiting (kept ++ others) → IsPermutation (now ++ kept) (takes fl f)
      → All P (c.pending ++ (c.waiting ++ flat_map (takes fl) c.fired)) → All P (takes fl f ++ (rest ++ (others ++ flat_map (takes fl) c.fired)))
  split P c f now kept rest others a b both all =
      All-permutation P _ _ (IsPermutation-trans _ _ _ (IsPermutation-append _ _ _ _ a (IsPermutation-append_left (flat_map (takes fl) c.fired) _ _ b))
      (IsPermutation-trans _ _ _ (shuffled (now ∷ rest ∷ kept ∷ others ∷ flat_map (takes fl) c.fired ∷ []) ((Part 0 ⊕ Part 1) ⊕ ((Part 2 ⊕ Part 3) ⊕ Part 4))
      ((Part 0 ⊕ Part 2) ⊕ (Part 1 ⊕ (Part 3 ⊕ Part 4))) refl)
      (IsPermutation-append_left (rest ++ (others ++ flat_map (takes fl) c.fired)) _ _ both))) all

  -- what holds of all items goes on
  waits_all : (P : Item → Type 0) (c : Config) (i : Item) (rest : List Item) → IsPermutation c.pending (i ∷ rest)
      → All P (c.pending ++ (c.waiting ++ flat_map (takes fl) c.fired)) → All P (rest ++ ((i ∷ c.waiting) ++ flat_map (takes fl) c.fired))
  waits_all P c i rest a all = All-permutation P _ _
      (IsPermutation-trans _ _ _ (IsPermutation-append_left (c.waiting ++ flat_map (takes fl) c.fired) _ _ a)
      (shuffled ((i ∷ []) ∷ rest ∷ c.waiting ∷ flat_map (takes fl) c.fired ∷ []) ((Part 0 ⊕ Part 1) ⊕ (Part 2 ⊕ Part 3))
      (Part 1 ⊕ ((Part 0 ⊕ Part 2) ⊕ Part 3)) refl)) all

  fires_all : (P : Item → Type 0) (c : Config) (f : Firing) (now kept rest others : List Item) → IsPermutation c.pending (now ++ rest)
      → IsPermutation c.waiting (kept ++ others) → IsPermutation (now ++ kept) (takes fl f)
      → All P (makes fl w f) → All P (c.pending ++ (c.waiting ++ flat_map (takes fl) c.fired))
      → All P ((makes fl w f ++ rest) ++ (others ++ (takes fl f ++ flat_map (takes fl) c.fired)))
  fires_all P c f now kept rest others a b both made before =
      let all = split P c f now kept rest others a b both before in
      let mine = all_left P (takes fl f) (rest ++ (others ++ flat_map (takes fl) c.fired)) all in
      let left = all_right P (takes fl f) (rest ++ (others ++ flat_map (takes fl) c.fired)) all in
      let more = all_right P rest (others ++ flat_map (takes fl) c.fired) left in
      All-append P (makes fl w f ++ rest) (others ++ (takes fl f ++ flat_map (takes fl) c.fired))
      (All-append P (makes fl w f) rest made (all_left P rest (others ++ flat_map (takes fl) c.fired) left))
      (All-append P others (takes fl f ++ flat_map (takes fl) c.fired) (all_left P others (flat_map (takes fl) c.fired) more)
      (All-append P (takes fl f) (flat_map (takes fl) c.fired) mine (all_right P others (flat_map (takes fl) c.fired) more)))

  fits_of : (fired : List Firing) (items : List Item) → All (Allowed fl w inputs fired) items → All (λ (i : Item). Fits fl w (spot_of i)) items
  fits_of fired items all = All-weaker (Allowed fl w inputs fired) (λ (i : Item). Fits fl w (spot_of i)) (λ i k. k.fits) items all

  meant_in : (items : List Item) (history : List Tagged) → ((t : Tagged) → Within t (flat_map (meant fl) items) → Within t history) → All (Ever history) items
  meant_in items history h =
      All-weaker (Contains items) (Ever history) (λ i c t d. h t (within_from t (flat_map (meant fl) items) (flat_contains (meant fl) items i t c d))) items
      (All-contains_itself items)

  move_meant : (c d : Config) (m : Move fl w c d) → IsProperMove fl w c.fired c d m → Meant c → Meant d
  move_meant c d (Waits i rest a e) proper k = subst Meant (sym e) (record {
    sound =
        subst (IsSoundNet fl w inputs) e (net_sound_moves spot_of same_spot (takes fl) (makes fl w) (begins inputs) role_of
        (Allowed fl w inputs) lawful c d k.sound (Waits i rest a e));
    fits = waits_all (WordFits fl w) c i rest a k.fits;
    state = k.state;
    run = k.run;
    is_run = k.is_run;
    tokens = IsPermutation-trans _ _ _ k.tokens (flat_map-IsPermutation (meant fl) _ _ (IsPermutation-trans _ _ _ (IsPermutation-append_left c.waiting _ _ a)
        (shuffled ((i ∷ []) ∷ rest ∷ c.waiting ∷ []) ((Part 0 ⊕ Part 1) ⊕ Part 2) (Part 1 ⊕ (Part 0 ⊕ Part 2)) refl)));
    memory_is = k.memory_is;
    ever = waits_all (Ever (flat_map taken k.run ++ k.state.tokens)) c i rest a k.ever;
    passed = k.passed;
  })
  move_meant c d (Fires f now kept rest others a b both e) proper k =
      let allowed = fires_allowed spot_of same_spot (takes fl) (makes fl w) (begins inputs) role_of
      (Allowed fl w inputs) lawful c k.sound f now kept rest others a b both in
      let words = all_left (WordFits fl w) (takes fl f) (rest ++ (others ++ flat_map (takes fl) c.fired))
      (split (WordFits fl w) c f now kept rest others a b both k.fits) in
      let sim : Acts fl f.context f.part (flat_map (meant fl) (takes fl f)) (memory_of fl c.fired) (flat_map (meant fl) (makes fl w f))
      (memory_of fl (f ∷ c.fired)) = firing_passes fl p w inputs good f c.fired allowed words proper in
      let frame = flat_map (meant fl) (rest ++ others) in
      let perm : IsPermutation (c.pending ++ c.waiting) (takes fl f ++ (rest ++ others)) =
      IsPermutation-trans _ _ _ (IsPermutation-append _ _ _ _ a b) (IsPermutation-trans _ _ _
      (shuffled (now ∷ rest ∷ kept ∷ others ∷ []) ((Part 0 ⊕ Part 1) ⊕ (Part 2 ⊕ Part 3)) ((Part 0 ⊕ Part 2) ⊕ (Part 1 ⊕ Part 3)) refl)
      (IsPermutation-append_left (rest ++ others) _ _ both)) in
      let here : IsPermutation k.state.tokens (flat_map (meant fl) (takes fl f) ++ frame) =
      at_last (IsPermutation-trans _ _ _ k.tokens (flat_map-IsPermutation (meant fl) _ _ perm)) (flat_map-append (meant fl) (takes fl f) (rest ++ others)) in
      let led = sim frame in
      let t = state_of (flat_map (meant fl) (makes fl w f) ++ frame) (memory_of fl (f ∷ c.fired)) in
      let step = run_from fl led.0 k.state (state_of (flat_map (meant fl) (takes fl f) ++ frame) (memory_of fl c.fired)) t (here, k.memory_is) led.1 in
      let more = later k.run led.0 k.state t step in
      subst Meant (sym e) (record {
        sound =
            subst (IsSoundNet fl w inputs) e (net_sound_moves spot_of same_spot (takes fl) (makes fl w) (begins inputs) role_of
            (Allowed fl w inputs) lawful c d k.sound (Fires f now kept rest others a b both e));
        fits =
            fires_all (WordFits fl w) c f now kept rest others a b both
            ((words_are_fit fl p w good inputs fit).words f (fits_of c.fired (takes fl f) allowed) words) k.fits;
        state = t;
        run = k.run ++ led.0;
        is_run = run_join fl k.run led.0 (start inputs) k.state t k.is_run step;
        tokens =
            same_tokens (sym (flat_map-append (meant fl) (makes fl w f) (rest ++ others))
            ∙ ap (flat_map (meant fl)) (sym (append_assoc (makes fl w f) rest others)));
        memory_is = refl;
        ever = fires_all (Ever (flat_map taken (k.run ++ led.0) ++ t.tokens)) c f now kept rest others a b both
            (meant_in (makes fl w f) (flat_map taken (k.run ++ led.0) ++ t.tokens)
            (λ x h. within_right x (flat_map taken (k.run ++ led.0)) t.tokens (within_left x (flat_map (meant fl) (makes fl w f)) frame h)))
            (All-weaker (Ever (flat_map taken k.run ++ k.state.tokens)) (Ever (flat_map taken (k.run ++ led.0) ++ t.tokens))
            (λ i h x q. more x (h x q)) _ k.ever);
        passed = All-append (Passed fl (f ∷ c.fired)) k.run led.0
            (All-weaker (Passed fl c.fired) (Passed fl (f ∷ c.fired)) (λ a h. passed_later fl f c.fired a h) k.run k.passed)
            (All-weaker (Passing fl f.context f.part) (Passed fl (f ∷ c.fired)) (λ a h. passed_now fl f c.fired a h) led.0 led.2);
      })
    where
      same_tokens : {xs ys : List Tagged} → xs ≡ ys → IsPermutation xs ys
      same_tokens {xs = xs} e = subst (λ l. IsPermutation xs l) e (IsPermutation-refl xs)

      -- what was present goes on in the history
      later : (first second : List Activity) (s t : State) → Meaning.Run fl s second t → (x : Tagged) → Within x (flat_map taken first ++ s.tokens)
          → Within x (flat_map taken (first ++ second) ++ t.tokens)
      later first second s t r x h =
          subst (λ (l : List Tagged). Within x l)
          (sym (ap (λ (l : List Tagged). l ++ t.tokens) (flat_map-append taken first second)
          ∙ append_assoc (flat_map taken first) (flat_map taken second) t.tokens))
          (⊎_elim (λ k. within_left x (flat_map taken first) (flat_map taken second ++ t.tokens) k)
          (λ k. within_right x (flat_map taken first) (flat_map taken second ++ t.tokens) (stays_in fl second s t r x k))
          (within_append x (flat_map taken first) s.tokens h))

  pub moves_meant : (c d : Config) → ProperMoves fl w c d → Meant c → Meant d
  moves_meant c d (Still e) k = k
  moves_meant c d (Then a mid b m proper more) k = moves_meant mid b more (move_meant a mid m proper k)

  begin_meant : Meant (begin inputs)
  begin_meant =
      let same : flat_map (meant fl) (begins inputs ++ []) ≡ (start inputs).tokens = ap (flat_map (meant fl)) (append-nil (begins inputs))
      ∙ meant_inputs fl 0 inputs in record {
        sound = net_sound_begins spot_of same_spot (takes fl) (makes fl w) (begins inputs) role_of (Allowed fl w inputs) lawful;
        fits = All-append (WordFits fl w) (begins inputs) [] (words_are_fit fl p w good inputs fit).begin_words (All-nil (WordFits fl w));
        state = start inputs;
        run = [];
        is_run = (IsPermutation-refl (start inputs).tokens, refl);
        tokens = subst (λ (l : List Tagged). IsPermutation (start inputs).tokens l) (sym same) (IsPermutation-refl (start inputs).tokens);
        memory_is = refl;
        ever = meant_in (begins inputs ++ []) (start inputs).tokens (λ x h. subst (λ (l : List Tagged). Within x l) same h);
        passed = All-nil (Passed fl []);
      }

-- OF EACH RUN
module _ (fl : Flow) (p : Plan) (w : Wires) (inputs : List ℤ) (past : Past) (m : Machine) (good : IsGood fl p w) (fit : InputsFit fl inputs)
    (kept : Keeps fl p w inputs past m) where
  pub story : Meant fl p w inputs good fit kept.tracks.net
  story = moves_meant fl p w inputs good fit (begin inputs) kept.tracks.net kept.tracks.moves (begin_meant fl p w inputs good fit)

  -- each token that an item ever stood for was present
  pub ever_meant : (i : Item) → Contains (all_of fl kept.tracks.net) i → (t : Tagged) → Contains (meant fl i) t
      → Within t (flat_map taken story.run ++ story.state.tokens)
  ever_meant i c =
      All-contains (λ (i : Item). (t : Tagged) → Contains (meant fl i) t → Within t (flat_map taken story.run ++ story.state.tokens))
      (all_of fl kept.tracks.net) i story.ever c
