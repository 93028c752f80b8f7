-- What an element has done, after one more deed.
use Rattle.std.proofs.Common.{◌≡◌, refl, sym, ◌∙◌, ap, subst, ℕ, zero, suc, ◌+◌, ◌-◌, ◌<◌, ◌≤◌, List, [], ◌∷◌, ◌++◌, length, take, drop, get_or}
use Rattle.std.proofs.Common.{arith, ◌⊎◌, inl, inr}
use Rattle.std.specs.Prelude.{All, IsPermutation, min}
use Rattle.std.proofs.lemmas.Bool.{cases_lt}
use Rattle.std.proofs.lemmas.List.{append-nil, length-append, length-map, map-append, length-take, nil_from_length, take-append-drop}
use Rattle.std.proofs.lemmas.List.Elements.{All-append}
use Rattle.std.proofs.lemmas.List.Sorted.{IsPermutation-refl, IsPermutation-sym, IsPermutation-trans, IsPermutation-append_left}
use Rattle.std.proofs.lemmas.List.Sorted.{IsPermutation-append_right, length_permutation, All-permutation}
use Rattle.lemmas.proofs.Permutations.{permutation_cancel, permutation_same}
use Rattle.law_confluence.proofs.Orders.{shuffled, Part as Piece, ◌⊕◌, at_first, at_last}
use Rattle.tags.specs.declared.token.Token.{Token}
use Rattle.tags.specs.Addresses.{element_of}
use Rattle.element.specs.Near.{Bounds, IsNearToken}
use Rattle.element.specs.Parts.{Part, bounds}
use Rattle.element.specs.Holding.{Holding, with_queue}
use Rattle.schedule.specs.Setting.{Setting}
use Rattle.schedule.specs.State.{IsPlaced}
use Rattle.schedule.proofs.Stepping.{bounds_are}
use Rattle.mesh.specs.declared.view.Commit.{Commit}
use Rattle.mesh.specs.declared.view.Deed.{Deed}
use Rattle.mesh.specs.declared.view.Deed.TheVariants.{Committed, Posted, Took}
use Rattle.mesh.specs.Deeds.{Bundle}
use Rattle.mesh.specs.Seats.{MeshId, AllTo}
use Rattle.mesh.proofs.Deeds.{commits_more, commits_same}
use Rattle.rounds.specs.Turns.{Turns}
use Rattle.rounds.proofs.Counting.{grown}
use Rattle.law_linearization.specs.History.{Act, Block, bounds_of, commit_of, count_acts, IsOwn, Chain, Flows, Blocks}
use Rattle.law_linearization.proofs.Ends.{own_part}
use Rattle.machine.specs.Runners.{Ran, Made, Spends}
use Rattle.machine.proofs.Tokens.{minus, minus_is}
use Rattle.machine.proofs.Flowing.{acts_of, acts_are, acts_take, flows_whole, flows_first, oldest_taken, turn_placed, turn_chain}
use Rattle.machine.proofs.Accounts.{IsQuiet, still_balanced, taken_balanced, posted_balanced, committed_balanced}

abbrev Ts : Type 0
Ts = List Token

-- the same, where all that it speaks of is the same
pub ran_as : (g : Setting) (mesh : MeshId) (start : Holding) (e f : ℕ) (h k : Holding) (ds es : List Deed) (ts us bs cs : Ts) {blocks : List Block}
    → f ≡ e → k ≡ h → es ≡ ds → us ≡ ts → cs ≡ bs → Ran g mesh e start h ds ts bs blocks → Ran g mesh f start k es us cs blocks
ran_as g mesh start e f h k ds es ts us bs cs {blocks} pe ph pd pt pb r =
    subst (λ (z : ℕ). Ran g mesh z start k es us cs blocks) (sym pe)
    (subst (λ (z : Holding). Ran g mesh e start z es us cs blocks) (sym ph)
    (subst (λ (z : List Deed). Ran g mesh e start h z us cs blocks) (sym pd)
    (subst (λ (z : Ts). Ran g mesh e start h ds z cs blocks) (sym pt)
    (subst (λ (z : Ts). Ran g mesh e start h ds ts z blocks) (sym pb) r))))

module _ (g : Setting) (mesh : MeshId) (start : Holding) (e : ℕ) (h : Holding) (ds : List Deed) (ts bs : Ts) {blocks : List Block}
    (r : Ran g mesh e start h ds ts bs blocks) where
  pub ran_quiet : (d : Deed) → IsQuiet d → Ran g mesh e start h (ds ++ d ∷ []) ts bs blocks
  ran_quiet d quiet = record {
    elements = r.elements;
    placed = r.placed;
    leads = r.leads;
    count = r.count;
    commits = r.commits ∙ sym (commits_same e ds d (quiet.commits e));
    balanced = still_balanced g.elements start.queue ts ds d quiet r.balanced;
    holds = r.holds;
  }

  -- the same tokens are outside the queue, in another order
  pub ran_beside : (cs : Ts) → IsPermutation bs cs → Ran g mesh e start h ds ts cs blocks
  ran_beside cs perm = record {
    elements = r.elements;
    placed = r.placed;
    leads = r.leads;
    count = r.count;
    commits = r.commits;
    balanced = r.balanced;
    holds = IsPermutation-trans _ _ _ r.holds (IsPermutation-append_right h.queue bs cs perm);
  }

  more_queue : (x : Ts) → All (IsNearToken (bounds_of g)) x → AllTo g.elements e x → IsPlaced g e (with_queue h (h.queue ++ x))
  more_queue x near to =
      let z = h.part.shape in
      let near_here : All (IsNearToken (bounds g.program z)) x = subst (λ (b : Bounds). All (IsNearToken b) x) (sym (bounds_are g e h r.placed)) near in
      let by_elements : All (λ (t : Token). element_of z.elements t.to ≡ e) x = subst (λ (n : ℕ). All (λ (t : Token). element_of n t.to ≡ e) x)
      (sym r.placed.elements) to in
      let to_here : All (λ (t : Token). element_of z.elements t.to ≡ z.element) x = subst (λ (n : ℕ). All (λ (t : Token). element_of z.elements t.to
      ≡ n) x) (sym r.placed.element) by_elements in
      record {
        element = r.placed.element;
        elements = r.placed.elements;
        frames = r.placed.frames;
        width = r.placed.width;
        made = r.placed.made;
        sound = record {
          part = r.placed.sound.part;
          near = All-append (IsNearToken (bounds g.program z)) h.queue x r.placed.sound.near near_here;
          addressed = All-append (λ (t : Token). element_of z.elements t.to ≡ z.element) h.queue x r.placed.sound.addressed to_here;
          answered = r.placed.sound.answered;
        };
      }

  -- a bundle was taken into the queue
  pub ran_received : (a : ℕ) (x : Bundle) → a < g.elements → All (IsNearToken (bounds_of g)) x → AllTo g.elements e x
      → Ran g mesh e start (with_queue h (h.queue ++ x)) (ds ++ Took a x ∷ []) (x ++ ts) bs blocks
  ran_received a x low near to = record {
    elements = r.elements;
    placed = more_queue x near to;
    leads = r.leads;
    count = r.count;
    commits = r.commits ∙ sym (commits_same e ds (Took a x) refl);
    balanced = taken_balanced g.elements start.queue ts ds a x low r.balanced;
    holds = IsPermutation-trans _ _ _ (IsPermutation-append_right x ts (h.queue ++ bs) r.holds)
        (shuffled (x ∷ h.queue ∷ bs ∷ []) (Piece 0 ⊕ (Piece 1 ⊕ Piece 2)) ((Piece 1 ⊕ Piece 0) ⊕ Piece 2) refl);
  }

  -- and there was no room for it
  pub ran_unqueued : (a : ℕ) (x : Bundle) → a < g.elements → Ran g mesh e start h (ds ++ Took a x ∷ []) (x ++ ts) (x ++ bs) blocks
  ran_unqueued a x low = record {
    elements = r.elements;
    placed = r.placed;
    leads = r.leads;
    count = r.count;
    commits = r.commits ∙ sym (commits_same e ds (Took a x) refl);
    balanced = taken_balanced g.elements start.queue ts ds a x low r.balanced;
    holds = IsPermutation-trans _ _ _ (IsPermutation-append_right x ts (h.queue ++ bs) r.holds)
        (shuffled (x ∷ h.queue ∷ bs ∷ []) (Piece 0 ⊕ (Piece 1 ⊕ Piece 2)) (Piece 1 ⊕ (Piece 0 ⊕ Piece 2)) refl);
  }

  -- a bundle was posted
  pub ran_posted : (a : ℕ) (x : Bundle) (unposted cs : Ts) → a < g.elements → IsPermutation ts (x ++ unposted) → IsPermutation bs (x ++ cs)
      → Ran g mesh e start h (ds ++ Posted a x ∷ []) unposted cs blocks
  ran_posted a x unposted cs low out beside =
      let one : IsPermutation (x ++ unposted) (h.queue ++ (x ++ cs)) = IsPermutation-trans _ _ _ (IsPermutation-sym _ _ out)
      (IsPermutation-trans _ _ _ r.holds (IsPermutation-append_right h.queue bs (x ++ cs) beside)) in
      let two : IsPermutation (h.queue ++ (x ++ cs)) (x ++ (h.queue ++ cs)) = shuffled (h.queue ∷ x ∷ cs ∷ []) (Piece 0 ⊕ (Piece 1 ⊕ Piece 2))
      (Piece 1 ⊕ (Piece 0 ⊕ Piece 2)) refl in
      record {
        elements = r.elements;
        placed = r.placed;
        leads = r.leads;
        count = r.count;
        commits = r.commits ∙ sym (commits_same e ds (Posted a x) refl);
        balanced = posted_balanced g.elements start.queue ts unposted ds a x low out r.balanced;
        holds = permutation_cancel x unposted (h.queue ++ cs) (IsPermutation-trans _ _ _ one two);
      }

-- BLOCKS
more_blocks : (g : Setting) (e : ℕ) (old mid new : Part) (bs : List Block) (b : Block) → Blocks g e old bs mid → IsOwn g e new
    → Flows b.spent b.acts b.made → Chain g e mid b.acts new → Blocks g e old (bs ++ b ∷ []) new
more_blocks g e old mid new [] b same own flows chain = (new, own, flows, subst (λ (p : Part). Chain g e p b.acts new) same chain, refl)
more_blocks g e old mid new (x ∷ bs) b (next, next_own, next_flows, next_chain, rest) own flows chain =
    (next, next_own, next_flows, next_chain, more_blocks g e next mid new bs b rest own flows chain)

more_acts : (bs : List Block) (b : Block) → count_acts (bs ++ b ∷ []) ≡ count_acts bs + length b.acts
more_acts [] b = omega arith
more_acts (x ∷ bs) b = let m = more_acts bs b in omega arith

flows_from : (first other : Ts) (acts : List Act) (last : Ts) → IsPermutation first other → Flows other acts last → Flows first acts last
flows_from first other [] last p flows = IsPermutation-trans first other last p flows
flows_from first other (a ∷ later) last p (rest, takes, flows) = (rest, IsPermutation-trans first other (a.token ∷ rest) p takes, flows)

-- the events of a turn in which the oldest tokens were taken
pub made_oldest : (g : Setting) (e : ℕ) (old : Holding) (ts : Ts) (new : Holding) (sent : Ts) → IsPlaced g e old
    → (turns : Turns g.program g.steps old [] ts new sent) → Made g e old (acts_of g.program g.steps old [] ts new sent turns) ts new
made_oldest g e old ts new sent start turns = record {
  placed = turn_placed g e old [] ts new sent start turns;
  chain = turn_chain g e old [] ts new sent start turns;
  takes = acts_take g.program g.steps old [] ts new sent turns;
  count = let c = grown g.program g.steps old [] ts new sent turns in let a = acts_are g.program g.steps old [] ts new sent turns in omega (arith, c, a);
}

-- what it spent: all that it took, or all that there was
pub spends_oldest : (p : _) (steps : ℕ) (old : Holding) (ts : Ts) (new : Holding) (sent : Ts) (turns : Turns p steps old [] ts new sent) (spent : ℕ)
    → spent ≡ min (length ts) (length old.queue) → Spends old new sent (acts_of p steps old [] ts new sent turns) ts spent
spends_oldest p steps old ts new sent turns spent spent_is = by_count (cases_lt (length old.queue) (length ts))
  where
    acts : List Act
    acts = acts_of p steps old [] ts new sent turns

    by_count : (length old.queue < length ts) ⊎ (length ts ≤ length old.queue) → Spends old new sent acts ts spent
    by_count (inl few) =
        let o = oldest_taken p steps old [] ts new sent turns old.queue [] (sym (append-nil old.queue)) (omega (arith, few)) in
        record {
          gone = old.queue;
          later = o.0;
          keep = [];
          more = new.queue;
          first = o.1;
          count = omega (arith, few, spent_is);
          before = permutation_same _ _ (sym (append-nil old.queue));
          after = refl;
          flows = subst (λ (l : Ts). Flows old.queue acts (new.queue ++ l)) (append-nil sent) (flows_whole p steps old [] ts new sent turns [] old.queue
              (at_last (IsPermutation-refl old.queue) (sym (append-nil old.queue))));
        }
    by_count (inr enough) =
        let k = length ts in
        let mine : Ts = take k old.queue in
        let tail : Ts = drop k old.queue in
        let count : length mine ≡ k = (let l = length-take k old.queue in omega (arith, l, enough)) in
        let whole : old.queue ≡ mine ++ tail = sym (take-append-drop k old.queue) in
        let on = flows_first p steps old [] ts new sent turns mine tail [] [] mine (whole ∙ ap (λ (l : Ts). mine ++ l) (sym (append-nil tail)))
        (sym count) (at_last (IsPermutation-refl mine) (sym (append-nil mine))) in
        let o = oldest_taken p steps old [] ts new sent turns mine tail whole (omega (arith, count)) in
        record {
          gone = mine;
          later = o.0;
          keep = tail;
          more = on.0;
          first = o.1;
          count = omega (arith, count, enough, spent_is);
          before = permutation_same _ _ whole;
          after = on.1;
          flows = subst (λ (l : Ts). Flows mine acts (on.0 ++ l)) (append-nil sent) on.2;
        }

-- A turn, and its commit by two counts: tokens spent and tokens made.
module _ (g : Setting) (mesh : MeshId) (start : Holding) (e : ℕ) (old : Holding) (ds : List Deed) (ts bs : Ts) {blocks : List Block}
    (r : Ran g mesh e start old ds ts bs blocks) (acts : List Act) (taken : Ts) (new : Holding) (sent : Ts) (m : Made g e old acts taken new) (spent : ℕ)
    (cut : Spends old new sent acts taken spent) where
  acts_count : length acts ≡ length taken
  acts_count = sym (length-map acts (λ (a : Act). a.token)) ∙ ap (λ (l : Ts). length l) m.takes

  -- a turn of some events spends a token
  pub some_spent : 0 < length taken → 0 < spent
  some_spent some = let a = acts_count in let c = cut.count in let f = first_some acts cut.flows (omega (arith, a, some)) in omega (arith, f, c)
    where
      first_some : (xs : List Act) → Flows cut.gone xs (cut.more ++ sent) → 0 < length xs → 0 < length cut.gone
      first_some [] flows low = absurd (omega (arith, low))
      first_some (a ∷ later) flows low = let l = length_permutation cut.gone (a.token ∷ flows.0) flows.1 in omega (arith, l)

  -- the queue before it, by what it spent and what it left
  pub before_count : length old.queue ≡ spent + length cut.keep
  before_count =
      let p = length_permutation old.queue (cut.gone ++ cut.keep) cut.before in
      let l = length-append cut.gone cut.keep in
      let c = cut.count in
      omega (arith, p, l, c)

  pub after_count : length new.queue ≡ length cut.keep + length cut.more
  after_count = ap (λ (x : Ts). length x) cut.after ∙ length-append cut.keep cut.more

  -- a turn without an event
  pub ran_still : length taken ≡ 0 → (sent ≡ []) × Ran g mesh e start new ds ts bs blocks
  ran_still none =
      let few = ap (λ (x : Ts). length x) cut.first ∙ length-append cut.gone cut.later in
      let gone : cut.gone ≡ [] = nil_from_length cut.gone (omega (arith, few, none)) in
      let is = by_acts acts m.chain cut.flows (acts_count ∙ none) in
      let l = length_permutation cut.gone (cut.more ++ sent) is.1 in
      let g0 : length cut.gone ≡ 0 = ap (λ (x : Ts). length x) gone in
      let la = length-append cut.more sent in
      let more : cut.more ≡ [] = nil_from_length cut.more (omega (arith, l, g0, la)) in
      let nothing : sent ≡ [] = nil_from_length sent (omega (arith, l, g0, la)) in
      let queue : new.queue ≡ cut.keep = cut.after ∙ ap (λ (x : Ts). cut.keep ++ x) more ∙ append-nil cut.keep in
      let perm : IsPermutation old.queue new.queue = at_last cut.before (ap (λ (x : Ts). x ++ cut.keep) gone ∙ sym queue) in
      let a : length acts ≡ 0 = acts_count ∙ none in (
        nothing,
        record {
          elements = r.elements;
          placed = m.placed;
          leads = subst (λ (p : Part). Blocks g e start.part blocks p) (sym is.0) r.leads;
          count = let c = m.count in let b = r.count in omega (arith, c, b, a);
          commits = r.commits;
          balanced = r.balanced;
          holds = IsPermutation-trans _ _ _ r.holds (IsPermutation-append_left bs old.queue new.queue perm);
        },
      )
    where
      by_acts : (xs : List Act) → Chain g e old.part xs new.part → Flows cut.gone xs (cut.more ++ sent) → length xs ≡ 0
          → (new.part ≡ old.part) × IsPermutation cut.gone (cut.more ++ sent)
      by_acts [] chain flows none = (chain, flows)
      by_acts (a ∷ later) chain flows none = absurd (omega (arith, none))

  module _ (made : ℕ) (made_is : made ≡ length cut.more + length sent) where
    abbrev still : Ts
    still = take (length new.queue - (made - length sent)) new.queue ++ bs

    abbrev departure : Ts
    departure = drop (length new.queue - (made - length sent)) new.queue ++ sent

    place : length new.queue - (made - length sent) ≡ length cut.keep
    place = let l = length-append cut.keep cut.more in let q : length new.queue ≡ length (cut.keep ++ cut.more) = ap (λ (x : Ts). length x) cut.after
        in omega (arith, l, q, made_is)

    take_front : (xs ys : Ts) → take (length xs) (xs ++ ys) ≡ xs
    take_front [] ys = refl
    take_front (x ∷ xs) ys = ap (λ (l : Ts). x ∷ l) (take_front xs ys)

    drop_front : (xs ys : Ts) → drop (length xs) (xs ++ ys) ≡ ys
    drop_front [] ys = refl
    drop_front (x ∷ xs) ys = drop_front xs ys

    still_is : still ≡ cut.keep ++ bs
    still_is = ap (λ (n : ℕ). take n new.queue ++ bs) place ∙ ap (λ (q : Ts). take (length cut.keep) q ++ bs) cut.after
        ∙ ap (λ (l : Ts). l ++ bs) (take_front cut.keep cut.more)

    left_is : departure ≡ cut.more ++ sent
    left_is = ap (λ (n : ℕ). drop n new.queue ++ sent) place ∙ ap (λ (q : Ts). drop (length cut.keep) q ++ sent) cut.after
        ∙ ap (λ (l : Ts). l ++ sent) (drop_front cut.keep cut.more)

    parts : IsPermutation ts (still ++ cut.gone)
    parts = at_last (IsPermutation-trans _ _ _ (IsPermutation-trans _ _ _ r.holds (IsPermutation-append_left bs old.queue (cut.gone ++ cut.keep) cut.before))
        (shuffled (cut.gone ∷ cut.keep ∷ bs ∷ []) ((Piece 0 ⊕ Piece 1) ⊕ Piece 2) ((Piece 1 ⊕ Piece 2) ⊕ Piece 0) refl))
        (ap (λ (l : Ts). l ++ cut.gone) (sym still_is))

    -- what it held and holds no more
    pub minus_gone : IsPermutation (minus ts still) cut.gone
    minus_gone = minus_is ts still cut.gone parts

    -- the tokens that its first events took
    pub first_gone : take spent taken ≡ cut.gone
    first_gone = ap (λ (n : ℕ). take n taken) cut.count ∙ ap (λ (l : Ts). take (length cut.gone) l) cut.first ∙ take_front cut.gone cut.later

    module _ (gone : Ts) (gone_is : IsPermutation gone cut.gone) where
      pub gone_count : length gone ≡ spent
      gone_count = let l = length_permutation gone cut.gone gone_is in let c = cut.count in omega (arith, l, c)

      pub left_count : length departure ≡ made
      left_count = ap (λ (l : Ts). length l) left_is ∙ length-append cut.more sent ∙ sym made_is

      pub gone_has : IsPermutation ts (gone ++ still)
      gone_has = IsPermutation-trans _ _ _ parts (IsPermutation-trans _ _ _ (shuffled (still ∷ cut.gone ∷ []) (Piece 0 ⊕ Piece 1) (Piece 1 ⊕ Piece 0)
          refl) (IsPermutation-append_left still cut.gone gone (IsPermutation-sym gone cut.gone gone_is)))

      spent_mine : AllTo g.elements e cut.gone
      spent_mine =
          let z = old.part.shape in
          let all : All (λ (t : Token). element_of z.elements t.to ≡ z.element) (cut.gone ++ cut.keep) =
          All-permutation (λ (t : Token). element_of z.elements t.to ≡ z.element) old.queue (cut.gone ++ cut.keep) cut.before r.placed.sound.addressed in
          let first = front cut.gone cut.keep (λ (t : Token). element_of z.elements t.to ≡ z.element) all in
          subst (λ (n : ℕ). All (λ (t : Token). element_of g.elements t.to ≡ n) cut.gone) r.placed.element
          (subst (λ (n : ℕ). All (λ (t : Token). element_of n t.to ≡ z.element) cut.gone) r.placed.elements first)
        where
          get_front : (xs ys : Ts) (k : ℕ) (d : Token) → k < length xs → get_or (xs ++ ys) k d ≡ get_or xs k d
          get_front [] ys k d low = absurd (omega (arith, low))
          get_front (x ∷ xs) ys zero d low = refl
          get_front (x ∷ xs) ys (suc k) d low = get_front xs ys k d (omega arith)

          front : (xs ys : Ts) (P : Token → Type 0) → All P (xs ++ ys) → All P xs
          front xs ys P all = λ k d low. let more : k < length (xs ++ ys) = (let l = length-append xs ys in omega (arith, low, l))
              in subst P (get_front xs ys k d low) (all k d more)

      pub gone_mine : AllTo g.elements e gone
      gone_mine = All-permutation (λ (t : Token). element_of g.elements t.to ≡ e) cut.gone gone (IsPermutation-sym gone cut.gone gone_is) spent_mine

      abbrev pub block : Block
      block = record { element = e; spent = gone; made = departure; acts = acts }

      pub ran_committed : (unposted : Ts) → IsPermutation ts (gone ++ unposted) → Ran g mesh e start new (ds ++ Committed gone departure ∷ [])
          (departure ++ unposted) (bs ++ sent) (blocks ++ block ∷ [])
      ran_committed unposted out =
          let rest : IsPermutation unposted still = permutation_cancel gone unposted still (IsPermutation-trans _ _ _ (IsPermutation-sym _ _ out) gone_has) in
          let flows : Flows gone acts departure = subst (λ (l : Ts). Flows gone acts l) (sym left_is)
          (flows_from gone cut.gone acts (cut.more ++ sent) gone_is cut.flows) in
          let count : new.made ≡ start.made + count_acts (blocks ++ block ∷ [])
          = (let c = m.count in let k = more_acts blocks block in let b = r.count in omega (arith, c, k, b)) in
          record {
            elements = r.elements;
            placed = m.placed;
            leads = more_blocks g e start.part old.part new.part blocks block r.leads (own_part g e new m.placed) flows m.chain;
            count = count;
            commits = map-append commit_of blocks (block ∷ []) ∙ ap (λ (l : List Commit). l ++ commit_of block ∷ []) r.commits
                ∙ sym (commits_more e ds (Committed gone departure));
            balanced = committed_balanced g.elements start.queue ts unposted gone departure ds out r.balanced;
            holds = IsPermutation-trans _ _ _ (IsPermutation-append_right departure unposted still rest)
                (at_first (ap (λ (l : Ts). l ++ still) left_is ∙ ap (λ (l : Ts). (cut.more ++ sent) ++ l) still_is)
                (at_last (shuffled (cut.more ∷ sent ∷ cut.keep ∷ bs ∷ []) ((Piece 0 ⊕ Piece 1) ⊕ (Piece 2 ⊕ Piece 3))
                ((Piece 2 ⊕ Piece 0) ⊕ (Piece 3 ⊕ Piece 1)) refl) (ap (λ (l : Ts). l ++ (bs ++ sent)) (sym cut.after))));
          }
