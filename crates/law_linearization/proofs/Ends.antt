-- From the seats of elements that ran freely to one run of the machine.
use Rattle.std.proofs.Common.{◌≡◌, sym, ◌∙◌, ap, subst, ℕ, ◌+◌, ◌<◌, ◌≤◌, Bool, ℤ, List, [], ◌++◌, length, get_or, append_assoc, arith, ◌⊎◌, inl, inr}
use Rattle.std.specs.Prelude.{All, IsPermutation, slice_get, Some, map, nat_lt, ◌==◌, if◌then◌else◌}
use Rattle.std.proofs.lemmas.Bool.{lt-ltb, le-ltb, cases_lt}
use Rattle.std.proofs.lemmas.List.{nil_from_length}
use Rattle.std.proofs.lemmas.List.Sums.{sum_by-append}
use Rattle.std.proofs.lemmas.List.Sorted.{IsPermutation-sym, IsPermutation-append_left, All-permutation, length_permutation}
use Rattle.std.proofs.lemmas.Option.{slice_get-get_or, slice_get_within, get_or_from_slice_get}
use mathlib.Core.Option.{some}
use mathlib.Core.List.{IsPrefix}
use lib.ListN.{get_elem?}
use Rattle.lemmas.proofs.SliceGet.{get_some}
use Rattle.lemmas.proofs.Alls.{all_right}
use Rattle.tags.specs.declared.token.Token.{Token}
use Rattle.semantics.specs.Machine.{Machine, Events, at_start}
use Rattle.semantics.specs.Pool.{LeavesPool}
use Rattle.mesh.specs.declared.view.Commit.{Commit}
use Rattle.mesh.specs.Deeds.{posted, taken, commits_of, commits_by, entry}
use Rattle.mesh.specs.Seats.{Account, SeatView, accounts, Leaves, HasCommits, Agree, IsFinal}
use Rattle.element.specs.Near.{IsNearToken}
use Rattle.element.specs.Parts.{IsPart}
use Rattle.element.specs.Holding.{Holding, queued}
use Rattle.schedule.specs.Setting.{Setting, size, IsGoodSetting}
use Rattle.schedule.specs.State.{AllFrom, IsAt, IsPlaced, IsSoundState, tokens_in, delivered}
use Rattle.schedule.specs.Runs.{Began}
use Rattle.schedule.proofs.Places.{first_get, from_map, from_weaker}
use Rattle.schedule.proofs.Stepping.{at_place, delivered_sound}
use Rattle.schedule.proofs.Tokens.{tokens_delivered, delivered_none}
use Rattle.rounds.specs.Turns.{arriving}
use Rattle.law_linearization.specs.History.{Block, events_in, blocks_by, commit_of, entry_of, LeavesTokens, AreBelow, bounds_of, IsOwn, Blocks, Begins}
use Rattle.law_linearization.specs.History.{count_acts}
use Rattle.law_linearization.specs.HistoryLaws.{Came, joined, all_of}
use Rattle.law_linearization.specs.Ends.{Ran, AllRan, Ended, EndsFreely}
use Rattle.frame_order.proofs.InOrder.{run_join}
use Rattle.law_linearization.proofs.HistoryRunning.{leaves_same, run_of_history}
use Rattle.law_linearization.proofs.EndsBalancing.{same_perm, then_perm, all_perm, all_both, what_is_left}
use Rattle.law_linearization.proofs.EndsShowing.{at_all, made_by, count_events}
use Rattle.law_linearization.proofs.HistoryWeaving.{Woven, weave, same_entries, all_below}
use Rattle.law_linearization.proofs.EndsJoining.{no_account, at_account, tokens_by, box, box_is}
use Rattle.schedule.proofs.Staying.{near_in}

-- what is known of the elements and of their seats
record Joined (g : Setting) (s : SeatView) (olds news : List Holding) (kept : ℕ → List Token) (blocks : ℕ → List Block) : Type 0 where
  good : IsGoodSetting g
  elements : s.mesh.elements ≡ g.elements
  starts : IsPermutation s.mesh.start (tokens_in olds)
  has : HasCommits s
  agree : Agree s
  seats : length (accounts s) ≡ g.elements
  old_count : length olds ≡ g.elements
  old_lanes : AllFrom (IsPlaced g) 0 olds
  new_count : length news ≡ g.elements
  ran : AllRan g olds (accounts s) news kept blocks

pub own_part : (g : Setting) (e : ℕ) (h : Holding) → IsPlaced g e h → IsOwn g e h.part
own_part g e h p =
    record { element = p.element; elements = p.elements; frames = p.frames; own_element = p.sound.part.own_element; own_elements = p.sound.part.own_elements }

module _ (g : Setting) (s : SeatView) (olds news : List Holding) (kept : ℕ → List Token) (blocks : ℕ → List Block) (x : Joined g s olds news kept blocks)
    (d : Holding) where
  abbrev n : ℕ
  n = g.elements

  abbrev old_at : ℕ → Holding
  old_at e = get_or olds e d

  abbrev new_at : ℕ → Holding
  new_at e = get_or news e d

  abbrev seat_at : ℕ → Account
  seat_at e = get_or (accounts s) e no_account

  -- PLACES
  old_is : (e : ℕ) → e < n → slice_get olds e ≡ Some (old_at e)
  old_is e low = slice_get-get_or olds e d (subst (λ (k : ℕ). e < k) (sym x.old_count) low)

  new_is : (e : ℕ) → e < n → slice_get news e ≡ Some (new_at e)
  new_is e low = slice_get-get_or news e d (subst (λ (k : ℕ). e < k) (sym x.new_count) low)

  seat_is : (e : ℕ) → e < n → get_elem? (accounts s) e ≡ some (seat_at e)
  seat_is e low = at_account (accounts s) e (subst (λ (k : ℕ). e < k) (sym x.seats) low)

  within_new : (e : ℕ) (h : Holding) → slice_get news e ≡ Some h → e < n
  within_new e h is = subst (λ (k : ℕ). e < k) x.new_count (slice_get_within news e h is)

  ran_to : (e : ℕ) (h : Holding) → slice_get news e ≡ Some h → Ran g e (old_at e) (seat_at e) h (kept e) (blocks e)
  ran_to e h is = let low = within_new e h is in x.ran e (old_at e) h (seat_at e) (old_is e low) (seat_is e low) is

  ran_at : (e : ℕ) → e < n → Ran g e (old_at e) (seat_at e) (new_at e) (kept e) (blocks e)
  ran_at e low = ran_to e (new_at e) (new_is e low)

  new_lanes : AllFrom (IsPlaced g) 0 news
  new_lanes = at_all (IsPlaced g) news (λ e h is. (ran_to e h is).placed)

  -- WHAT IS LEFT. Each element has its own commits, and others have none.
  none_beyond : (e : ℕ) → n ≤ e → commits_by e s.seen ≡ []
  none_beyond e over = x.has.1 e (subst (λ (k : ℕ). k ≤ e) (sym x.elements) over)

  own_commits : (e : ℕ) → e < n → commits_by e s.seen ≡ commits_of e (seat_at e).deeds
  own_commits e low = subst (λ (k : ℕ). commits_by k s.seen ≡ commits_of k (seat_at e).deeds) (ran_at e low).element (x.has.0 e (seat_at e) (seat_is e low))

  -- what a sent b that b did not take
  abbrev boxes : ℕ → ℕ → List Token
  boxes a b = box (taken a (seat_at b).deeds) (posted b (seat_at a).deeds)

  boxes_are : (a b : ℕ) → a < n → b < n → joined (posted b (seat_at a).deeds) ≡ joined (taken a (seat_at b).deeds) ++ boxes a b
  boxes_are a b low within =
      box_is (taken a (seat_at b).deeds) (posted b (seat_at a).deeds)
      (subst (λ (k : ℕ). IsPrefix (taken a (seat_at b).deeds) (posted k (seat_at a).deeds)) (ran_at b within).element
      (subst (λ (k : ℕ). IsPrefix (taken k (seat_at b).deeds) (posted (seat_at b).element (seat_at a).deeds)) (ran_at a low).element
      (x.agree a b (seat_at a) (seat_at b) (seat_is a low) (seat_is b within))))

  -- the tokens that are on their way
  abbrev arriving_tokens : List Token
  arriving_tokens = all_of n kept ++ all_of n (λ a. all_of n (λ b. boxes a b))

  start_is : IsPermutation s.mesh.start (all_of n (λ e. (old_at e).queue))
  start_is = subst (λ (l : List Token). IsPermutation s.mesh.start l) (tokens_by d olds ∙ ap (λ (k : ℕ). all_of k (λ e. (old_at e).queue)) x.old_count) x.starts

  new_tokens : tokens_in news ≡ all_of n (λ e. (new_at e).queue)
  new_tokens = tokens_by d news ∙ ap (λ (k : ℕ). all_of k (λ e. (new_at e).queue)) x.new_count

  -- what the history leaves is what lies in queues and what is on its way
  left_is : (last : List Token) → LeavesPool n s.mesh.start (map entry s.seen) last → IsPermutation last (tokens_in news ++ arriving_tokens)
  left_is last leaves =
      let held : ℕ → List Token = λ e. (seat_at e).held in
      let queues : ℕ → List Token = λ e. (new_at e).queue in
      let all_boxes : List Token = all_of n (λ a. all_of n (λ b. boxes a b)) in
      let left : IsPermutation last (all_of n held ++ all_boxes)
      =
      what_is_left n s.mesh.start last s.seen (λ e. (seat_at e).deeds) held (λ e. (old_at e).queue) boxes leaves none_beyond own_commits
      (λ e low. (ran_at e low).balanced) start_is boxes_are in
      let parts : IsPermutation (all_of n held) (all_of n queues ++ all_of n kept) =
      then_perm (all_perm n held (λ e. queues e ++ kept e) (λ e low. (ran_at e low).held)) (all_both n queues kept) in
      let whole = IsPermutation-append_left all_boxes (all_of n held) (all_of n queues ++ all_of n kept) parts in
      let grouped : (all_of n queues ++ all_of n kept) ++ all_boxes ≡ tokens_in news ++ arriving_tokens
      = append_assoc (all_of n queues) (all_of n kept) all_boxes ∙ ap (λ (l : List Token). l ++ (all_of n kept ++ all_boxes)) (sym new_tokens) in
      then_perm left (then_perm whole (same_perm ((all_of n queues ++ all_of n kept) ++ all_boxes) (tokens_in news ++ arriving_tokens) grouped))

  new_delivered : IsPermutation (tokens_in (delivered arriving_tokens news)) (tokens_in news ++ arriving_tokens)
  new_delivered = tokens_delivered n news arriving_tokens x.good.some x.new_count (from_weaker (IsPlaced g) (IsAt n) (at_place g) 0 news new_lanes)

  -- where a history leaves no token, none is left
  none_left : (last : List Token) → LeavesPool n s.mesh.start (map entry s.seen) last → length last ≡ 0 → tokens_in (delivered arriving_tokens news) ≡ []
  none_left last leaves none =
      let one = length_permutation last (tokens_in news ++ arriving_tokens) (left_is last leaves) in
      let two = length_permutation (tokens_in (delivered arriving_tokens news)) (tokens_in news ++ arriving_tokens) new_delivered in
      nil_from_length (tokens_in (delivered arriving_tokens news)) (sym two ∙ one ∙ none)

  -- THE HISTORY OF BLOCKS
  abbrev own_blocks : ℕ → List Block
  own_blocks e = if nat_lt e n then blocks e else []

  within_blocks : (e : ℕ) → e < n → own_blocks e ≡ blocks e
  within_blocks e low = ap (λ (t : Bool). if t then blocks e else []) (lt-ltb e n low)

  beyond_blocks : (e : ℕ) → n ≤ e → own_blocks e ≡ []
  beyond_blocks e over = ap (λ (t : Bool). if t then blocks e else []) (le-ltb e n over)

  blocks_commit : (e : ℕ) → commits_by e s.seen ≡ map commit_of (own_blocks e)
  blocks_commit e = by_case (cases_lt e n) where
    by_case : (e < n) ⊎ (n ≤ e) → commits_by e s.seen ≡ map commit_of (own_blocks e)
    by_case (inl low) = own_commits e low ∙ (ran_at e low).commits ∙ ap (λ (l : List Block). map commit_of l) (sym (within_blocks e low))
    by_case (inr over) = none_beyond e over ∙ ap (λ (l : List Block). map commit_of l) (sym (beyond_blocks e over))

  woven : Woven s.seen own_blocks
  woven = weave s.seen own_blocks blocks_commit

  abbrev log : List Block
  log = woven.0

  log_below : AreBelow n log
  log_below = all_below n log (λ e over. woven.2 e ∙ beyond_blocks e over)

  log_own : (e : ℕ) → e < n → blocks_by e log ≡ blocks e
  log_own e low = woven.2 e ∙ within_blocks e low

  log_entries : map entry s.seen ≡ map entry_of log
  log_entries = ap (λ (l : List Commit). map entry l) (sym woven.1) ∙ same_entries log

  -- THE RUN
  module _ (inputs : List ℤ) (before : Events) (began : Began inputs (arriving g olds []) before) where
    abbrev m : Machine
    m = began.machine

    old_parts : AllFrom (λ (i : ℕ) (h : Holding). IsPart h.part m.store) 0 olds
    old_parts = subst (λ (l : List Holding). AllFrom (λ (i : ℕ) (h : Holding). IsPart h.part m.store) 0 l) (delivered_none olds) began.stands.parts

    old_counts : AllFrom (λ (i : ℕ) (h : Holding). h.made ≡ made_by i before) 0 olds
    old_counts = subst (λ (l : List Holding). AllFrom (λ (i : ℕ) (h : Holding). h.made ≡ made_by i before) 0 l) (delivered_none olds) began.counts

    pool_old : IsPermutation m.pool (tokens_in olds)
    pool_old = subst (λ (l : List Holding). IsPermutation m.pool (tokens_in l)) (delivered_none olds) began.stands.tokens

    pool_start : IsPermutation m.pool s.mesh.start
    pool_start = then_perm pool_old (IsPermutation-sym s.mesh.start (tokens_in olds) x.starts)

    near : All (IsNearToken (bounds_of g)) m.pool
    near =
        All-permutation (IsNearToken (bounds_of g)) (tokens_in olds) m.pool (IsPermutation-sym m.pool (tokens_in olds) pool_old) (near_in g 0 olds x.old_lanes)

    module _ (log : List Block) (last : List Token) (leaves : LeavesTokens n s.mesh.start log last) (below : AreBelow n log)
        (own : (e : ℕ) → e < n → blocks_by e log ≡ blocks e) (left : IsPermutation last (tokens_in news ++ arriving_tokens)) where
      begins : (e : ℕ) → e < n → Begins g m log (new_at e).part e
      begins e low = record {
        part = (old_at e).part;
        own = own_part g e (old_at e) (first_get (IsPlaced g) olds e (old_at e) x.old_lanes (old_is e low));
        is = first_get (λ (i : ℕ) (h : Holding). IsPart h.part m.store) olds e (old_at e) old_parts (old_is e low);
        blocks = subst (λ (bs : List Block). Blocks g e (old_at e).part bs (new_at e).part) (sym (own e low)) (ran_at e low).led;
      }

      came : Came g m log last (λ e. (new_at e).part)
      came =
          run_of_history g x.good log m last (λ e. (new_at e).part) near began.stands.bounded below
          (leaves_same n m.pool s.mesh.start (map entry_of log) last pool_start leaves) begins

      pool_last : IsPermutation came.machine.pool (tokens_in news ++ arriving_tokens)
      pool_last = then_perm came.pool left

      near_arriving : All (IsNearToken (bounds_of g)) arriving_tokens
      near_arriving =
          all_right (IsNearToken (bounds_of g)) (tokens_in news) arriving_tokens
          (All-permutation (IsNearToken (bounds_of g)) came.machine.pool (tokens_in news ++ arriving_tokens) pool_last came.near)

      sound_end : IsSoundState (arriving g news arriving_tokens)
      sound_end =
          delivered_sound (record { setting = g; lanes = news }) arriving_tokens near_arriving (record {
            setting = x.good;
            count = x.new_count;
            lanes =
                new_lanes;
          })

      new_parts : AllFrom (λ (i : ℕ) (h : Holding). IsPart h.part came.machine.store) 0 news
      new_parts = at_all (λ (i : ℕ) (h : Holding). IsPart h.part came.machine.store) news
          (λ i h is. subst (λ (k : Holding). IsPart k.part came.machine.store) (get_or_from_slice_get news i h d is) (came.is i (within_new i h is)).1)

      count_to : (i : ℕ) (h : Holding) → slice_get news i ≡ Some h → h.made ≡ made_by i (before ++ events_in log)
      count_to i h is =
          let low = within_new i h is in
          let old : (old_at i).made ≡ made_by i before =
          first_get (λ (i : ℕ) (h : Holding). h.made ≡ made_by i before) olds i (old_at i) old_counts (old_is i low) in
          let more : h.made ≡ (old_at i).made + count_acts (blocks i) = (ran_to i h is).made in
          let same : made_by i (events_in log) ≡ count_acts (blocks i) = count_events i log ∙ ap (λ (l : List Block). count_acts l) (own i low) in
          let one : ℕ × Token → ℕ = λ ev. if ev.0 == i then 1 else 0 in
          let both : made_by i (before ++ events_in log) ≡ made_by i before + made_by i (events_in log) = sum_by-append one before (events_in log) in
          omega (arith, old, more, same, both)

      new_counts : AllFrom (λ (i : ℕ) (h : Holding). h.made ≡ made_by i (before ++ events_in log)) 0 news
      new_counts = at_all (λ (i : ℕ) (h : Holding). h.made ≡ made_by i (before ++ events_in log)) news count_to

      began_end : Began inputs (arriving g news arriving_tokens) (before ++ events_in log)
      began_end = record {
        machine = came.machine;
        run = run_join g.program (size g) (at_start g.program inputs) m came.machine before (events_in log) began.run came.run;
        stands = record {
          parts =
              from_map (λ (i : ℕ) (h : Holding). IsPart h.part came.machine.store) (λ (i : ℕ) (h : Holding). IsPart h.part came.machine.store)
              (λ (h : Holding). queued h arriving_tokens) (λ (i : ℕ) (h : Holding) p. p) 0 news new_parts;
          tokens = then_perm pool_last (IsPermutation-sym (tokens_in (delivered arriving_tokens news)) (tokens_in news ++ arriving_tokens) new_delivered);
          bounded = came.bounded;
        };
        counts =
            from_map (λ (i : ℕ) (h : Holding). h.made ≡ made_by i (before ++ events_in log))
            (λ (i : ℕ) (h : Holding). h.made ≡ made_by i (before ++ events_in log))
            (λ (h : Holding). queued h arriving_tokens) (λ (i : ℕ) (h : Holding) c. c) 0 news new_counts;
      }

    -- ALL THAT IS KNOWN AT THE END
    ended : (count : ℕ) → Leaves s.mesh s.seen count → IsFinal s → Ended g s inputs before news blocks
    ended count leaves final =
        let last : List Token = leaves.0 in
        let seen_leaves : LeavesPool n s.mesh.start (map entry s.seen) last =
        subst (λ (k : ℕ). LeavesPool k s.mesh.start (map entry s.seen) last) x.elements leaves.1 in
        let legal : LeavesTokens n s.mesh.start log last = subst (λ (l : List _). LeavesPool n s.mesh.start l last) log_entries seen_leaves in
        let left : IsPermutation last (tokens_in news ++ arriving_tokens) = left_is last seen_leaves in
        record {
          tokens = arriving_tokens;
          log = log;
          last = last;
          legal = legal;
          below = log_below;
          own = log_own;
          sound = sound_end log last legal log_below log_own left;
          began = began_end log last legal log_below log_own left;
          any = λ other again low same. began_end other last again low (λ e within. same e ∙ log_own e within) left;
          rest = λ e a is empty.
              let whole : Leaves s.mesh s.seen 0 = subst (λ (h : List Commit). Leaves s.mesh h 0) (final e a is empty) empty in
              none_left whole.0 (subst (λ (k : ℕ). LeavesPool k s.mesh.start (map entry s.seen) whole.0) x.elements whole.1) whole.2;
        }

pub ends_freely : EndsFreely
ends_freely g good s count olds news kept blocks elements starts leaves has agree final seats sound new_count ran inputs before began =
    let some : 0 < g.elements = good.some in
    let first = get_some news 0 (subst (λ (k : ℕ). 0 < k) (sym new_count) some) in
    let joined_all : Joined g s olds news kept blocks = record {
      good = good;
      elements = elements;
      starts = starts;
      has = has;
      agree = agree;
      seats = seats;
      old_count = ap (λ (l : List Holding). length l) (sym (delivered_none olds)) ∙ sound.count;
      old_lanes = subst (λ (l : List Holding). AllFrom (IsPlaced g) 0 l) (delivered_none olds) sound.lanes;
      new_count = new_count;
      ran = ran;
    } in
    ended g s olds news kept blocks joined_all first.0 inputs before began count leaves final
