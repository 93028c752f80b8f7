-- A block is committed.
use Rattle.std.proofs.Common.{◌≡◌, sym, ◌∙◌, ap, subst, ℕ, ◌+◌, ◌-◌, ◌^◌, ◌<◌, ◌≤◌, List, [], ◌∷◌, ◌++◌, length, drop, get_or, arith, append_assoc}
use Rattle.std.proofs.Common.{◌⊎◌, inl, inr, Bool, true, false, take, refl, Option, Some, None}
use Rattle.std.specs.Prelude.{All, IsPermutation, flat_map, min, Vec, if◌then◌else◌}
use Rattle.std.proofs.lemmas.Bool.{cases_lt}
use Rattle.std.proofs.lemmas.List.{length-append, length-map, append-nil, take-append-drop}
use Rattle.std.proofs.lemmas.List.Elements.{All-nil, All-push}
use Rattle.lemmas.proofs.Permutations.{permutation_same}
use Rattle.tags.specs.declared.token.Token.{Token}
use Rattle.semantics.specs.Program.{Program}
use Rattle.element.specs.Near.{IsNearToken}
use Rattle.element.specs.declared.grant_order.GrantOrder.{GrantOrder}
use Rattle.element.specs.Holding.{LaneView, Holding, held_of, Fixed, fixed_of}
use Rattle.schedule.specs.declared.halt.Halt.{Halt}
use Rattle.schedule.specs.declared.take.Take.TheVariants.{Oldest, Depth}
use Rattle.schedule.specs.Setting.{Setting}
use Rattle.schedule.specs.State.{RunsAs}
use Rattle.mesh.specs.declared.view.Deed.{Deed}
use Rattle.mesh.specs.declared.view.Deed.TheVariants.{Committed}
use Rattle.mesh.specs.Deeds.{created}
use Rattle.mesh.specs.Seats.{MeshId, SeatView, AllTo, Has, Commits}
use Rattle.mesh.proofs.Deeds.{created_more}
use Rattle.schedule.specs.declared.log.EventLog.{EventLog}
use Rattle.schedule.specs.Steps.{logged}
use Rattle.rounds.specs.Turns.{Turns, IsWhole, by}
use Rattle.rounds.specs.ByDepth.{IsWholeByDepth, TurnsByDepth, HaltsTaking, GrantsNone, EndsGranting, MayGrant, MayTake}
use Rattle.machine.specs.declared.runner.Runner.{Runner}
use Rattle.semantics.specs.Machine.{Events}
use Rattle.law_linearization.specs.History.{Act, Block, bounds_of}
use Rattle.ordering.specs.declared.log.Counts.{Counts}
use Rattle.ordering.specs.Noted.{Noted, noted_in, with_block}
use Rattle.ordering.specs.Logs.{taken_in, made_in, counts_of, SpendsOldest, Notes, Logs}
use Rattle.ordering.proofs.Logging.{ends_block}
use Rattle.law_confluence.proofs.Orders.{at_first}
use Rattle.rounds.proofs.Counting.{grown}
use Rattle.rounds.proofs.Taking.{halts_weaker}
use Rattle.machine.specs.Blocks.{turn_of, IsShort}
use Rattle.machine.specs.ByDepth.{HasNoReason, IsNext, TakesSpending}
use Rattle.machine.specs.Runners.{Ran, Made, Spends, IsRunning, IsClear, HasMade, NotesBlock, left_last, still_first, away, tokens_of, behind_all}
use Rattle.machine.proofs.Tokens.{minus}
use Rattle.machine.proofs.Flowing.{acts_of, turn_near, turn_placed}
use Rattle.machine.proofs.Spending.{acts_by_depth, made_by_depth, near_by_depth, spends_by_depth}
use Rattle.machine.proofs.Steps.{made_oldest, spends_oldest, some_spent, before_count, after_count, ran_as, first_gone, minus_gone, gone_count, left_count}
use Rattle.machine.proofs.Steps.{gone_has, gone_mine, block, ran_committed, ran_still}

-- the tokens of events
tokens_by : (e : ℕ) (ts : List Token) → tokens_of (by e ts) ≡ ts
tokens_by e [] = refl
tokens_by e (t ∷ ts) = ap (λ (l : List Token). t ∷ l) (tokens_by e ts)

-- Which tokens a block spent: those that its first events took, where events are listed, and else those that the element held and
-- holds no more.
abbrev pub gone_in : {C A L : Type 0} → Bool → Runner C A L → ℕ → ℕ → List Token
gone_in keeps_events r spent made = if keeps_events then take spent (tokens_of r.log.events.items) else minus r.seat.own.held (still_first r made)

more_logs : (n : Noted) (blocks : List Block) (b : Block) (taken made : List Token) (events spent left : ℕ) → taken ≡ taken_in b → made ≡ b.made
    → events ≡ length b.acts → spent ≡ length b.spent → left ≡ length b.made → SpendsOldest b → Logs n blocks
    → Logs (behind_all n taken made (record { events = events; spent = spent; made = left })) (blocks ++ b ∷ [])
more_logs n blocks b taken made events spent left took makes many gone stay oldest logs =
    let open_one : Noted = record { taken = n.taken ++ taken; made = n.made ++ made; blocks = n.blocks } in
    let notes : Notes open_one blocks (taken_in b) b.made = record {
      taken = ap (λ (l : List Token). l ++ taken) (logs.taken ∙ append-nil (flat_map taken_in blocks))
          ∙ ap (λ (l : List Token). flat_map taken_in blocks ++ l) took;
      made = ap (λ (l : List Token). l ++ made) (logs.made ∙ append-nil (flat_map made_in blocks)) ∙ ap (λ (l : List Token). flat_map made_in blocks
          ++ l) makes;
      counts = logs.counts;
      oldest = logs.oldest;
    } in
    let counts : counts_of b ≡ record { events = events; spent = spent; made = left } = λ i.
    (let c : Counts = record { events = sym many i; spent = sym gone i; made = sym stay i } in c) in
    subst (λ (c : Counts). Logs (with_block open_one c) (blocks ++ b ∷ [])) counts (ends_block open_one blocks b notes oldest)

-- a lane that made its whole turn, or has no token left, has no reason to halt
pub no_reason : (g : Setting) (turn : ℕ) (old new : Holding) → turn_of g new.part.shape.element ≡ turn → IsWhole turn old new None → HasNoReason Oldest g new
no_reason g turn old new long (inl made) = inr (omega (arith, made, long))
no_reason g turn old new long (inr none) = inl none

-- nor has element 0, where it has no token but requests that it holds back
pub no_reason_by_depth : (g : Setting) (turn : ℕ) (old new : Holding) → new.part.shape.element ≡ 0 → turn_of g new.part.shape.element ≡ turn
    → IsWholeByDepth turn old new None → HasNoReason Depth g new
no_reason_by_depth g turn old new first long (inl made) = inr (omega (arith, made, long))
no_reason_by_depth g turn old new first long (inr none) = inl (inr (first, none))

-- it halts at a request that it holds back, or at its oldest other token
pub halts_by_depth : (p : Program) (steps turn ordinary : ℕ) (old : Holding) (before taken : List Token) (new : Holding) (after : List Token)
    (halt : Option Halt) → new.part.shape.element ≡ 0 → TurnsByDepth p steps turn ordinary false old before taken new after halt
    → HaltsTaking IsNext p steps false new halt
halts_by_depth p steps turn ordinary old before taken new after None first turns = tt
halts_by_depth p steps turn ordinary old before taken new after (Some halt) first turns = by_end turns.ended
  where
    by_end : (GrantsNone (ordinary + length turns.granted) turns.mid × HaltsTaking (MayTake 0) p steps false new (Some halt))
        ⊎ ((turns.later ≡ []) × EndsGranting (MayGrant ordinary (length turns.granted)) p steps turn false old new (Some halt))
        → HaltsTaking IsNext p steps false new (Some halt)
    by_end (inl (none, halts)) = halts_weaker (MayTake 0) IsNext p steps false new (Some halt) (λ pick may. inr (first, omega (arith, may.0))) halts
    by_end (inr (none, halts)) = halts_weaker (MayGrant ordinary (length turns.granted)) IsNext p steps false new (Some halt)
        (λ pick may. inr (first, omega (arith, may.0))) halts

module _ {C A L : Type 0} (keeps_events : Bool) (g : Setting) (mesh : MeshId) (start old : Holding) (before events spent : ℕ) (r : Runner C A L)
    (h : HasMade keeps_events g mesh start old before events spent r) where
  abbrev pub beside : List Token
  beside = r.unqueued.tokens ++ flat_map (λ b. b.tokens) r.unposted.items

  abbrev new : Holding
  new = held_of r.lane

  -- a block of some events spends a token of the queue
  pub some_gone : 0 < events → 0 < spent
  some_gone some =
      let e = h.events_are in
      some_spent g mesh start r.seat.own.element old r.seat.own.deeds r.seat.own.held beside h.ran h.acts h.taken new r.sent.items h.made spent h.spends
      (omega (arith, some, e))

  queue_before : length old.queue ≡ spent + length h.spends.keep
  queue_before = before_count g mesh start r.seat.own.element old r.seat.own.deeds r.seat.own.held beside h.ran h.acts h.taken new r.sent.items h.made spent
      h.spends

  -- and no more than there were
  pub within : spent ≤ before
  within = let q = h.before_is in let b = queue_before in omega (arith, q, b)

  keep_is : before - spent ≡ length h.spends.keep
  keep_is = let q = h.before_is in let b = queue_before in omega (arith, q, b)

  new_is : length r.lane.held.queue ≡ length h.spends.keep + length h.spends.more
  new_is = after_count g mesh start r.seat.own.element old r.seat.own.deeds r.seat.own.held beside h.ran h.acts h.taken new r.sent.items h.made spent
      h.spends

  -- what the queue had before and has still is no more than it has
  pub behind : before - spent ≤ length r.lane.held.queue
  behind = let k = keep_is in let n = new_is in omega (arith, k, n)

  module _ (made : ℕ) (made_is : made ≡ (length r.lane.held.queue - (before - spent)) + length r.sent.items) where
    pub count_is : made ≡ length h.spends.more + length r.sent.items
    count_is = let k = keep_is in let n = new_is in omega (arith, k, n, made_is)

    abbrev pub gone : List Token
    gone = gone_in keeps_events r spent made

    abbrev left : List Token
    left = left_last r made

    log_tokens : keeps_events ≡ true → tokens_of r.log.events.items ≡ h.taken
    log_tokens on = ap (λ (l : Events). tokens_of l) (h.log ∙ ap (λ (b : Bool). logged b [] (by old.part.shape.element h.taken)) on)
        ∙ tokens_by old.part.shape.element h.taken

    gone_noted : keeps_events ≡ true → gone ≡ take spent h.taken
    gone_noted on = ap (λ (b : Bool). if b then take spent (tokens_of r.log.events.items) else minus r.seat.own.held (still_first r made)) on
        ∙ ap (λ (l : List Token). take spent l) (log_tokens on)

    gone_is : IsPermutation gone h.spends.gone
    gone_is = by_keeping keeps_events refl
      where
        by_keeping : (b : Bool) → keeps_events ≡ b → IsPermutation gone h.spends.gone
        by_keeping true on = permutation_same _ _ (gone_noted on ∙ first_gone g mesh start r.seat.own.element old r.seat.own.deeds r.seat.own.held
            beside h.ran h.acts h.taken new r.sent.items h.made spent h.spends made count_is)
        by_keeping false off = at_first (ap (λ (b : Bool). if b then take spent (tokens_of r.log.events.items) else minus r.seat.own.held
            (still_first r made)) off) (minus_gone g mesh start r.seat.own.element old r.seat.own.deeds r.seat.own.held beside h.ran h.acts h.taken new
            r.sent.items h.made spent h.spends made count_is)

    pub asked : (length gone ≡ spent) × (length left ≡ made)
    asked = (
      gone_count g mesh start r.seat.own.element old r.seat.own.deeds r.seat.own.held beside h.ran h.acts h.taken new r.sent.items h.made spent h.spends made count_is gone gone_is,
      left_count g mesh start r.seat.own.element old r.seat.own.deeds r.seat.own.held beside h.ran h.acts h.taken new r.sent.items h.made spent h.spends made count_is gone gone_is,
    )

    pub addressed : AllTo mesh.elements r.seat.own.element gone
    addressed = subst (λ (n : ℕ). AllTo n r.seat.own.element gone) (sym h.ran.elements)
        (gone_mine g mesh start r.seat.own.element old r.seat.own.deeds r.seat.own.held beside h.ran h.acts h.taken new r.sent.items h.made spent h.spends made count_is gone gone_is)

    pub has : Has r.seat.own.held gone
    has = (
      still_first r made,
      gone_has g mesh start r.seat.own.element old r.seat.own.deeds r.seat.own.held beside h.ran h.acts h.taken new r.sent.items h.made spent h.spends made count_is gone gone_is,
    )

    abbrev the_block : Block
    the_block = block g mesh start r.seat.own.element old r.seat.own.deeds r.seat.own.held beside h.ran h.acts h.taken new r.sent.items h.made spent h.spends made count_is gone gone_is

    -- the block is noted
    logs_more : keeps_events ≡ true → Logs (behind_all (noted_in r.notes) (tokens_of r.log.events.items) left
        (record { events = length r.log.events.items; spent = spent; made = made })) (h.blocks ++ the_block ∷ [])
    logs_more on =
        let took : taken_in the_block ≡ h.taken = h.made.takes in
        let tokens : tokens_of r.log.events.items ≡ taken_in the_block = log_tokens on ∙ sym took in
        let events : length r.log.events.items ≡ length the_block.acts = sym (length-map r.log.events.items (λ (ev : ℕ × Token). ev.1))
        ∙ ap (λ (l : List Token). length l) tokens ∙ length-map the_block.acts (λ (a : Act). a.token) in
        let oldest : taken_in the_block ≡ gone ++ drop spent h.taken = took ∙ sym (take-append-drop spent h.taken)
        ∙ ap (λ (l : List Token). l ++ drop spent h.taken) (sym (gone_noted on)) in
        more_logs (noted_in r.notes) h.blocks the_block (tokens_of r.log.events.items) left (length r.log.events.items) spent made tokens refl
        events (sym asked.0) (sym asked.1) (drop spent h.taken, oldest) (h.noted on)

    -- and has no more events than a turn of the element
    block_short : IsShort g the_block
    block_short =
        let took : taken_in the_block ≡ h.taken = h.made.takes in
        let many : length the_block.acts ≡ length h.taken = sym (length-map the_block.acts (λ (a : Act). a.token)) ∙ ap (λ (l : List Token). length l) took in
        let is = h.events_are in
        let few = h.few in
        omega (arith, many, is, few)

    pub committed : (s last : Runner C A L) → s ≡ record r { seat = s.seat } → Commits gone left r.seat s.seat → r.created + made ≤ 2 ^ 40
        → NotesBlock keeps_events spent made (record s { created = s.created + made }) last → IsRunning keeps_events g mesh start last
    committed s last others commits small notes =
        let own = r.seat.own in
        let unposted = commits.0 in
        let is = commits.3 in
        let ds : List Deed = own.deeds ++ Committed gone left ∷ [] in
        let ran = ran_committed g mesh start r.seat.own.element old r.seat.own.deeds r.seat.own.held beside h.ran h.acts h.taken new r.sent.items h.made spent h.spends made count_is gone gone_is unposted commits.2 in
        let unbundled : drop r.bundled r.sent.items ≡ r.sent.items = ap (λ (n : ℕ). drop n r.sent.items) h.unbundled in
        let same_away : away s ≡ beside ++ r.sent.items = ap (λ (z : Runner C A L). away z) others
        ∙ ap (λ (l : List Token). r.unqueued.tokens ++ (flat_map (λ b. b.tokens) r.unposted.items ++ l)) unbundled
        ∙ sym (append_assoc r.unqueued.tokens (flat_map (λ b. b.tokens) r.unposted.items) r.sent.items) in
        let lane : held_of s.lane ≡ new = ap (λ (z : Runner C A L). held_of z.lane) others in
        let deeds : s.seat.own.deeds ≡ ds = ap (λ (z : SeatView). z.own.deeds) is in
        let counted : created s.seat.own.deeds ≡ s.created + made = (let more = created_more own.deeds (Committed gone left)
        in let same : created s.seat.own.deeds ≡ created ds = ap created deeds in let c = h.tidy.created in let n = asked.1 in let o : s.created
        ≡ r.created = ap (λ (z : Runner C A L). z.created) others in omega arith) in
        let as_noted = ap (λ (z : Runner C A L). behind_all (noted_in z.notes) (tokens_of z.log.events.items) (left_last z made)
        (record { events = length z.log.events.items; spent = spent; made = made })) others in
        subst (λ (z : Runner C A L). IsRunning keeps_events g mesh start z) (sym notes.others) (record {
          at = ap (λ (z : SeatView). z.mesh) is ∙ h.at;
          alone = ap (λ (z : SeatView). z.joined) is ∙ h.alone;
          runs = subst (λ (z : Runner C A L). RunsAs g (fixed_of z.lane)) (sym others) h.runs;
          blocks = h.blocks ++ the_block ∷ [];
          short = All-push (IsShort g) h.blocks the_block h.short block_short;
          ran = ran_as g mesh start own.element s.seat.own.element new (held_of s.lane) ds s.seat.own.deeds (left ++ unposted) s.seat.own.held
              (beside ++ r.sent.items) (away s)
              (ap (λ (z : SeatView). z.own.element) is) lane deeds (ap (λ (z : SeatView). z.own.held) is) same_away ran;
          tidy = record {
            count = ap (λ (z : Runner C A L). length z.unposted.items) others ∙ h.tidy.count;
            addressed = λ i d low. subst (λ (z : Runner C A L). AllTo g.elements i (get_or z.unposted.items i d).tokens) (sym others)
                (h.tidy.addressed i d low);
            within = λ i d low. ap (λ (z : Runner C A L). (get_or z.unposted.items i d).bounds) others ∙ h.tidy.within i d low;
            near = subst (λ (z : Runner C A L). All (IsNearToken (bounds_of g)) z.sent.items) (sym others) h.tidy.near;
            created = counted;
            few = let o : s.created ≡ r.created = ap (λ (z : Runner C A L). z.created) others in omega (arith, o, small);
          };
          noted = λ on. subst (λ (n : Noted). Logs n (h.blocks ++ the_block ∷ [])) (sym (notes.notes on ∙ as_noted)) (logs_more on);
          unlogged = by_keeping keeps_events s last refl notes (ap (λ (z : Runner C A L). z.log.events.items) others);
        })
      where
        by_keeping : (b : Bool) (s last : Runner C A L) → keeps_events ≡ b
            → NotesBlock keeps_events spent made (record s { created = s.created + made }) last → s.log.events.items ≡ r.log.events.items
            → last.log.events.items ≡ []
        by_keeping true s last on notes log = notes.log ∙ ap (λ (b : Bool). if b then [] else s.log.events.items) on
        by_keeping false s last off notes log = notes.log ∙ ap (λ (b : Bool). if b then [] else s.log.events.items) off ∙ log ∙ h.log
            ∙ ap (λ (b : Bool). logged b [] (by old.part.shape.element h.taken)) off

  -- no event was made
  pub nothing_made : events ≡ 0 → IsRunning keeps_events g mesh start r
  nothing_made none =
      let n : length h.taken ≡ 0 = sym h.events_are ∙ none in
      let still = ran_still g mesh start r.seat.own.element old r.seat.own.deeds r.seat.own.held beside h.ran h.acts h.taken new r.sent.items h.made spent
      h.spends n in
      let all : List Token = flat_map (λ b. b.tokens) r.unposted.items in
      let same : away r ≡ beside = ap (λ (k : ℕ). r.unqueued.tokens ++ (all ++ drop k r.sent.items)) h.unbundled
      ∙ ap (λ (l : List Token). r.unqueued.tokens ++ (all ++ l)) still.0 ∙ ap (λ (l : List Token). r.unqueued.tokens ++ l) (append-nil all) in
      record {
        at = h.at;
        alone = h.alone;
        runs = h.runs;
        blocks = h.blocks;
        short = h.short;
        ran = ran_as g mesh start r.seat.own.element r.seat.own.element new new r.seat.own.deeds r.seat.own.deeds r.seat.own.held r.seat.own.held
            beside (away r) refl refl refl refl same still.1;
        tidy = record { count = h.tidy.count; addressed = h.tidy.addressed; within = h.tidy.within; near = h.tidy.near; created = h.tidy.created; few = h.tidy.few };
        noted = h.noted;
        unlogged = h.log ∙ ap (λ (l : List Token). logged keeps_events [] (by old.part.shape.element l)) (none_taken h.taken n) ∙ nothing_logged keeps_events;
      }
    where
      none_taken : (us : List Token) → length us ≡ 0 → us ≡ []
      none_taken [] e = refl
      none_taken (u ∷ us) e = absurd (omega (arith, e))

      nothing_logged : (b : Bool) → logged b [] [] ≡ []
      nothing_logged true = refl
      nothing_logged false = refl

-- A turn has been taken, and is not committed.
module _ {C A L : Type 0} (keeps_events : Bool) (g : Setting) (mesh : MeshId) (start : Holding) (r : Runner C A L)
    (run : IsRunning keeps_events g mesh start r) (clear : IsClear r) where
  -- the lane runs the code of the machine
  turned : (lane : LaneView) (sent : Vec Token A) (taken : List Token) → Turns r.lane.program r.lane.steps r.lane.held r.sent.items taken lane.held
      sent.items → Turns g.program g.steps (held_of r.lane) r.sent.items taken (held_of lane) sent.items
  turned lane sent taken turns =
      subst (λ (p : Program). Turns p g.steps (held_of r.lane) r.sent.items taken (held_of lane) sent.items) run.runs.program
      (subst (λ (n : ℕ). Turns r.lane.program n (held_of r.lane) r.sent.items taken (held_of lane) sent.items) run.runs.steps turns)

  -- the lane made these events, and spent these tokens
  has_made_so : (lane : LaneView) (sent : Vec Token A) (log : EventLog A L) (order : GrantOrder A) (acts : List Act) (taken : List Token) (before events spent : ℕ)
      → Made g r.seat.own.element (held_of r.lane) acts taken (held_of lane) → Spends (held_of r.lane) (held_of lane) sent.items acts taken spent
      → All (IsNearToken (bounds_of g)) sent.items → fixed_of lane ≡ fixed_of r.lane
      → before ≡ length r.lane.held.queue → events ≡ lane.held.made - r.lane.held.made → log.events.items ≡ logged keeps_events r.log.events.items
      (by r.lane.held.part.shape.element taken) → (turn : ℕ) → turn ≡ turn_of g r.lane.held.part.shape.element → length taken ≤ turn
      → HasMade keeps_events g mesh start (held_of r.lane) before events spent (record r { lane = lane; sent = sent; log = log; order = order })
  has_made_so lane sent log order acts taken before events spent made spends near fixed before_is events_is logs turn turn_is few =
      let old : Holding = held_of r.lane in
      let took : length acts ≡ length taken = sym (length-map acts (λ (a : Act). a.token)) ∙ ap (λ (l : List Token). length l) made.takes in
      let grows = made.count in
      let count : lane.held.made ≡ r.lane.held.made + length taken = omega (arith, grows, took) in
      let own : turn ≡ turn_of g r.seat.own.element = turn_is ∙ ap (λ (e : ℕ). turn_of g e) run.ran.placed.element in
      let all : List Token = flat_map (λ b. b.tokens) r.unposted.items in
      let less : away r ≡ r.unqueued.tokens ++ all = ap (λ (n : ℕ). r.unqueued.tokens ++ (all ++ drop n r.sent.items)) clear.2
      ∙ ap (λ (l : List Token). r.unqueued.tokens ++ (all ++ l)) clear.1 ∙ ap (λ (l : List Token). r.unqueued.tokens ++ l) (append-nil all) in
      record {
        at = run.at;
        alone = run.alone;
        runs = subst (λ (f : Fixed). RunsAs g f) (sym fixed) run.runs;
        blocks = run.blocks;
        short = run.short;
        ran = subst (λ (l : List Token). Ran g mesh r.seat.own.element start old r.seat.own.deeds r.seat.own.held l run.blocks) less run.ran;
        noted = run.noted;
        log = logs ∙ ap (λ (l : Events). logged keeps_events l (by r.lane.held.part.shape.element taken)) run.unlogged;
        tidy = record {
          count = run.tidy.count;
          addressed = run.tidy.addressed;
          within = run.tidy.within;
          near = near;
          created = run.tidy.created;
          few = run.tidy.few;
        };
        acts = acts;
        taken = taken;
        made = made;
        spends = spends;
        before_is = before_is;
        events_are = omega (arith, count, events_is);
        few = omega (arith, count, events_is, own, few);
        unbundled = clear.2;
      }

  -- its oldest tokens were taken
  pub has_made : (lane : LaneView) (sent : Vec Token A) (log : EventLog A L) (taken : List Token) (before events spent : ℕ)
      → Turns r.lane.program r.lane.steps r.lane.held r.sent.items taken lane.held sent.items → fixed_of lane ≡ fixed_of r.lane
      → before ≡ length r.lane.held.queue → events ≡ lane.held.made - r.lane.held.made → spent ≡ min events before
      → log.events.items ≡ logged keeps_events r.log.events.items (by r.lane.held.part.shape.element taken) → (turn : ℕ)
      → turn ≡ turn_of g r.lane.held.part.shape.element → length taken ≤ turn
      → HasMade keeps_events g mesh start (held_of r.lane) before events spent (record r { lane = lane; sent = sent; log = log })
  has_made lane sent log taken before events spent as_turns fixed before_is events_is spent_is logs turn turn_is few =
      let old : Holding = held_of r.lane in
      let fresh : Turns g.program g.steps old [] taken (held_of lane) sent.items = subst (λ (l : List Token). Turns g.program g.steps old l taken
      (held_of lane) sent.items) clear.1 (turned lane sent taken as_turns) in
      let count : lane.held.made ≡ r.lane.held.made + length taken = grown g.program g.steps old [] taken (held_of lane) sent.items fresh in
      has_made_so lane sent log r.order (acts_of g.program g.steps old [] taken (held_of lane) sent.items fresh) taken before events spent
      (made_oldest g r.seat.own.element old taken (held_of lane) sent.items run.ran.placed fresh)
      (spends_oldest g.program g.steps old taken (held_of lane) sent.items fresh spent (omega (arith, count, events_is, before_is, spent_is)))
      (turn_near g r.seat.own.element old [] taken (held_of lane) sent.items run.ran.placed fresh (All-nil (IsNearToken (bounds_of g))))
      fixed before_is events_is logs turn turn_is few

  -- tokens were taken by depth
  spending : (lane : LaneView) (sent : Vec Token A) (taken : List Token) (turn ordinary : ℕ) (halt : Option Halt) (spent : ℕ)
      → TakesSpending r.lane.program r.lane.steps turn ordinary r.lane.held r.sent.items taken lane.held sent.items halt spent
      → TakesSpending g.program g.steps turn ordinary (held_of r.lane) [] taken (held_of lane) sent.items halt spent
  spending lane sent taken turn ordinary halt spent takes =
      subst (λ (l : List Token). TakesSpending g.program g.steps turn ordinary (held_of r.lane) l taken (held_of lane) sent.items halt spent) clear.1
      (subst (λ (p : Program). TakesSpending p g.steps turn ordinary (held_of r.lane) r.sent.items taken (held_of lane) sent.items halt spent) run.runs.program
      (subst (λ (n : ℕ). TakesSpending r.lane.program n turn ordinary (held_of r.lane) r.sent.items taken (held_of lane) sent.items halt spent) run.runs.steps
      takes))

  pub has_made_by_depth : (lane : LaneView) (sent : Vec Token A) (log : EventLog A L) (order : GrantOrder A) (taken : List Token) (ordinary : ℕ)
      (halt : Option Halt) (before events spent : ℕ) (turn : ℕ)
      → TakesSpending r.lane.program r.lane.steps turn ordinary r.lane.held r.sent.items taken lane.held sent.items halt spent
      → fixed_of lane ≡ fixed_of r.lane → before ≡ length r.lane.held.queue → events ≡ lane.held.made - r.lane.held.made
      → log.events.items ≡ logged keeps_events r.log.events.items (by r.lane.held.part.shape.element taken)
      → turn ≡ turn_of g r.lane.held.part.shape.element → length taken ≤ turn
      → HasMade keeps_events g mesh start (held_of r.lane) before events spent (record r { lane = lane; sent = sent; log = log; order = order })
  has_made_by_depth lane sent log order taken ordinary halt before events spent turn as_takes fixed before_is events_is logs turn_is few =
      let old : Holding = held_of r.lane in
      let takes = spending lane sent taken turn ordinary halt spent as_takes in
      has_made_so lane sent log order
      (acts_by_depth g r.seat.own.element turn ordinary old taken (held_of lane) sent.items halt spent run.ran.placed takes) taken before events spent
      (made_by_depth g r.seat.own.element turn ordinary old taken (held_of lane) sent.items halt spent run.ran.placed takes)
      (spends_by_depth g r.seat.own.element turn ordinary old taken (held_of lane) sent.items halt spent run.ran.placed takes)
      (near_by_depth g r.seat.own.element turn ordinary old taken (held_of lane) sent.items halt spent run.ran.placed takes)
      fixed before_is events_is logs turn turn_is few

  -- it made as many events, and is the same element's
  pub made_by : (lane : LaneView) (sent : Vec Token A) (taken : List Token) (turn ordinary : ℕ) (halt : Option Halt) (spent : ℕ)
      → TakesSpending r.lane.program r.lane.steps turn ordinary r.lane.held r.sent.items taken lane.held sent.items halt spent
      → (lane.held.made ≡ r.lane.held.made + length taken) × (lane.held.part.shape.element ≡ r.lane.held.part.shape.element)
  made_by lane sent taken turn ordinary halt spent as_takes =
      let old : Holding = held_of r.lane in
      let takes = spending lane sent taken turn ordinary halt spent as_takes in
      let made = made_by_depth g r.seat.own.element turn ordinary old taken (held_of lane) sent.items halt spent run.ran.placed takes in
      let acts = acts_by_depth g r.seat.own.element turn ordinary old taken (held_of lane) sent.items halt spent run.ran.placed takes in
      let took : length acts ≡ length taken = sym (length-map acts (λ (a : Act). a.token)) ∙ ap (λ (l : List Token). length l) made.takes in
      let grows = made.count in
      (omega (arith, grows, took), made.placed.element ∙ sym run.ran.placed.element)

  -- it has made as many events more as it took tokens
  pub made_more : (lane : LaneView) (sent : Vec Token A) (taken : List Token) → Turns r.lane.program r.lane.steps r.lane.held r.sent.items taken
      lane.held sent.items → lane.held.made ≡ r.lane.held.made + length taken
  made_more lane sent taken as_turns = grown g.program g.steps (held_of r.lane) r.sent.items taken (held_of lane) sent.items (turned lane sent taken as_turns)

  -- and is the same element's
  pub same_element : (lane : LaneView) (sent : Vec Token A) (taken : List Token) → Turns r.lane.program r.lane.steps r.lane.held r.sent.items taken
      lane.held sent.items → lane.held.part.shape.element ≡ r.lane.held.part.shape.element
  same_element lane sent taken as_turns =
      let placed = turn_placed g r.seat.own.element (held_of r.lane) r.sent.items taken (held_of lane) sent.items run.ran.placed
      (turned lane sent taken as_turns) in
      placed.element ∙ sym run.ran.placed.element
