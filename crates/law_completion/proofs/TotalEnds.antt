-- End by end: a run that has room, and in which no loop starves, comes to rest with nothing waiting; so does a run that has enough.
use Rattle.std.proofs.Common.{◌≡◌, refl, sym, ap, ◌∙◌, subst, ℕ, ◌+◌, ◌*◌, ◌<◌, ◌≤◌, ◌⊎◌, inl, inr, ℤ, Bool, true, false, cond, List, [], ◌∷◌}
use Rattle.std.proofs.Common.{length, Option, Some, None, arith}
use Rattle.std.specs.Prelude.{◌==◌, sum}
use Rattle.std.proofs.Math.Nat.{mul-le-mul_left}
use Rattle.std.proofs.lemmas.Bool.{cases_Bool}
use Rattle.std.proofs.lemmas.List.Sums.{count_by-le-length}
use Rattle.std.proofs.lemmas.List.Sorted.{sum_by-IsPermutation}
use Rattle.tags.specs.declared.token.Cont.{Cont}
use Rattle.tags.specs.declared.token.Token.{Token}
use Rattle.tags.specs.declared.slot.SlotState.{SlotState}
use Rattle.tags.specs.declared.slot.SlotState.TheVariants.{Empty, Waiter}
use Rattle.semantics.specs.declared.report.End.{End}
use Rattle.semantics.specs.declared.report.End.TheVariants.{Rest, Starved, Clash, Steps, Stuck, Memory, Stop}
use Rattle.semantics.specs.declared.program.Op.TheVariants.{Open}
use Rattle.semantics.specs.Graph.{Flow}
use Rattle.semantics.specs.Meaning as Meaning
use Rattle.semantics.specs.Meaning.{State, Tagged, Activity, Same, AtRest, waits_for, fetch_count}
use Rattle.semantics.specs.Program.{Program}
use Rattle.semantics.specs.Rule.{slot_of, array_base}
use Rattle.semantics.specs.Machine.{Machine, Size, Events, Run, Resting, Wants, at_start, stuck_rule, slot_used, reader_count}
use Rattle.semantics.specs.Cause.{HasCause, request_count, credit_count}
use Rattle.semantics.specs.Faithful.{Faithful, IsRun, IsExact, inputs_of, largest}
use Rattle.semantics.specs.Report.{Report, IsPicture, HasEnd, Shows, sum_below, waiters}
use Rattle.semantics.specs.Plan.{Plan}
use Rattle.semantics.specs.Handed.{Tenure}
use Rattle.semantics.specs.Credits.{IsPart}
use Rattle.semantics.specs.Holders.{Holder}
use Rattle.semantics.proofs.Sums.{sum_of_zeros}
use Rattle.law_confluence.proofs.EquationsNoneWaits.{none_waits}
use Rattle.law_reuse.proofs.BoundsTallies.{Grants, granted_is}
use Rattle.law_reuse.proofs.BoundsTenures.{TenureRun, tenure_run}
use Rattle.law_reuse.proofs.Frames.{so_start}
use Rattle.law_reuse.proofs.FramesNames.{known}
use Rattle.law_completion.specs.Total.{CallsForAtMost, HasCredits, IsTrueCode, HasRoom, NeverStarves, HasEnough, HasOneSlot, IsNotCut, Completes}
use Rattle.law_completion.specs.Total.{RoomyRunsRest, RoomyRunsComplete, RunsRest, RunsComplete}
use Rattle.law_completion.proofs.FramesOut.{frames_suffice}
use Rattle.law_completion.proofs.CreditsSought.{run_owed}
use Rattle.law_completion.proofs.Tenures.{tenure}

ends_at : (p : Program) (z : Size) (steps : ℕ) (by_list may_stop : Bool) (events : Events) (m : Machine) (e d : End) → e ≡ d
    → HasEnd p z steps by_list may_stop events m e → HasEnd p z steps by_list may_stop events m d
ends_at p z steps by_list may_stop events m e d eq h = let P : End → Type 0 = λ x. HasEnd p z steps by_list may_stop events m x in subst P eq h

not_both : (o : Option ℕ) (n : ℕ) → o ≡ None → o ≡ Some n → ⊥
not_both o n a b = cc

-- a state at rest leads to itself alone
leads_nowhere : (fl : Flow) (s t : State) (run : List Activity) → AtRest fl s → Meaning.Run fl s run t → Same s t
leads_nowhere fl s t [] rest r = r
leads_nowhere fl s t (a ∷ run) rest r = absurd (rest a r.0 r.1)

waiter_one : (s : SlotState) (c : Cont) → s ≡ Waiter c → waiters s ≡ 1
waiter_one s c e = ap waiters e

empty_or : (s : SlotState) (c : Cont) → s ≡ Empty → s ≡ Waiter c → ⊥
empty_or s c a b = cc

-- the slot of a loop's `open`
open_slot : (p : Plan) (q : Program) (one : HasOneSlot p q) (loop : Holder) (k ip s : ℕ) → IsPart p q loop (Open k) ip s → s ≡ one.0 loop
open_slot p q one loop k ip s P =
    one.1 ip loop s P.holds
    (ap slot_used P.is_at ∙ ap (slot_of P.instr) P.does ∙ ap Some P.uses)

module _ (fl : Flow) (q : Program) (faithful : Faithful fl q) (inputs : List ℤ) (z : Size) (steps : ℕ) (some_element : 0 < z.elements)
    (some_frame : 0 < z.frames) (fit : length inputs ≡ inputs_of fl) (room : HasRoom fl inputs q z steps) (never : NeverStarves fl q inputs z) where
  is_run : (events : Events) (m : Machine) → Run q z (at_start q inputs) events m → IsRun fl q inputs z events m
  is_run events m r = record { inputs_fit = fit; some_element = some_element; some_frame = some_frame; run = r }

  module _ (events : Events) (m : Machine) (r : Run q z (at_start q inputs) events m) where
    cause : HasCause fl q inputs events m
    cause = faithful.cause inputs z events m (is_run events m r)

    -- the requests are for what the meaning calls for
    few_requests : request_count events ≤ room.due
    few_requests =
        let a = cause.enough in let b = room.calls.invocations cause.run cause.state cause.is_run cause.due cause.are_due in omega (arith, a, b)

    -- so few events
    few_events : length events < steps
    few_events =
        let a = few_requests in let b = faithful.bound inputs z events m (is_run events m r) in let c = room.time in
        let more : 1 + request_count events ≤ 1 + room.due = omega (arith, a) in
        let times = mul-le-mul_left (6 * (largest q.blocks + 1)) more in
        omega (arith, b, c, times)

    -- no request waits
    no_request : m.store.requests ≡ []
    no_request = let a = few_requests in let b = room.frames in frames_suffice q z inputs events m r (omega (arith, a, b))

    never_wants : Resting m → Wants m → ⊥
    never_wants rest (inl some) = some no_request
    never_wants rest (inr (f, s, c, waits)) = never events m (is_run events m r) rest no_request f s c waits

    -- at rest no fetch waits, since the state is the meaning's
    none_deferred : sum_below (sum fl.arrays) (λ x. fetch_count fl x room.state.tokens) ≡ 0 → (r : Report) → IsPicture q z m r → IsExact fl inputs m
        → r.deferred ≡ 0
    none_deferred none_waiting report pic exact =
        let lead = exact.only room.state room.reached in
        let same = leads_nowhere fl room.state exact.state lead.0 room.at_rest lead.1 in
        let none = none_waits fl room.state.tokens none_waiting in
        let each : (x : ℕ) → reader_count (m.store.cells x) ≡ 0 =
        (λ x. exact.readers x
        ∙ sum_by-IsPermutation (λ (t : Tagged). cond (waits_for fl x t.context t.statement t.value) 1 0) room.state.tokens exact.state.tokens same.0
        ∙ none x) in
        pic.deferred ∙ sum_of_zeros (array_base q (length q.arrays)) (λ x. reader_count (m.store.cells x)) each

  module _ (by_list may_stop : Bool) (r : Report) (shows : Shows q z inputs steps by_list may_stop r) (uncut : IsNotCut by_list r) where
    abbrev last : Machine
    last = shows.last

    ended : (e : End) → r.end ≡ e → HasEnd q z steps by_list may_stop r.events last e
    ended e eq = ends_at q z steps by_list may_stop r.events last r.end e eq shows.ends

    go : (e : End) → r.end ≡ e → r.end ≡ Rest
    go Rest eq = eq
    go Starved eq = let h = ended Starved eq in absurd (never_wants r.events last shows.run h.0 h.1)
    go (Clash a i) eq =
        let h = ended (Clash a i) eq in
        let second = faithful.second_store inputs z r.events last (array_base q a + i) (is_run r.events last shows.run) h.2 in
        absurd (second.always room.state room.reached room.at_rest room.no_clash)
    go Steps eq = absurd (pick (ended Steps eq))
      where
        pick : HasEnd q z steps by_list may_stop r.events last Steps → ⊥
        pick (inl (e, all, token)) =
            let few = few_events r.events last shows.run in
            let some = count_by-le-length (λ (ev : ℕ × Token). ev.0 == e) r.events in omega (arith, few, some, all)
        pick (inr (list, token)) = uncut.list list eq
    go (Stuck n) eq =
        let h = ended (Stuck n) eq in
        let none = faithful.matching inputs z r.events last h.0 (is_run r.events last shows.run) h.1 in
        absurd (not_both (stuck_rule q last.store h.0.to h.0.word) n none h.2)
    go Memory eq = absurd (uncut.memory eq)
    go Stop eq = absurd (uncut.gate eq)

    pub rests : r.end ≡ Rest
    rests = go r.end refl

    pub completes : sum_below (sum fl.arrays) (λ x. fetch_count fl x room.state.tokens) ≡ 0 → Completes r
    completes none_waiting =
        let h = ended Rest rests in
        let exact = faithful.exact inputs z r.events last (is_run r.events last shows.run) h.0 h.1 in
        record { rest = rests; none_waits = none_deferred r.events last shows.run none_waiting r shows.picture exact }

-- No credit is waited for: the loop would have granted all its credits, and so more than were asked for.
module _ (fl : Flow) (p : Plan) (q : Program) (code : IsTrueCode fl p q) (inputs : List ℤ) (d t : ℕ) (calls : CallsForAtMost fl inputs d t)
    (credits : HasCredits q t) (z : Size) where
  few_credits : (events : Events) (m : Machine) → IsRun fl q inputs z events m → credit_count q events ≤ t
  few_credits events m r =
      let cause = code.faithful.cause inputs z events m r in
      let a = cause.credits in let b = calls.turns cause.run cause.state cause.is_run cause.due cause.are_due in omega (arith, a, b)

  never_starves : NeverStarves fl q inputs z
  never_starves events m r rest none f s c waits = by_out (cases_Bool (m.store.out f))
    where
      is_run : (events : Events) (m : Machine) → Run q z (at_start q inputs) events m → IsRun fl q inputs z events m
      is_run events m k = record { inputs_fit = r.inputs_fit; some_element = r.some_element; some_frame = r.some_frame; run = k }

      by_out : (m.store.out f ≡ true) ⊎ (m.store.out f ≡ false) → ⊥
      by_out (inr none) =
          let K = known p q z inputs (λ events m k. code.releases inputs z events m (is_run events m k)) events m so_start (λ x F. refl) r.run in
          empty_or (m.store.slots f s) c ((K.free f none).slots s) waits
      by_out (inl out) =
          let t : Tenure q z inputs f m = tenure q z inputs events m r.run f out in
          let T : TenureRun p q z inputs f t.first t.part m t.run =
          tenure_run p q z inputs f m (λ events m k. code.releases inputs z events m (is_run events m k)) t in
          let all = (code.credits inputs z events m f r t).all_granted s c rest waits in
          let loop = all.0 in
          let L = all.3 in
          let slot = open_slot p q code.one_slot loop all.1 L.open_ip s L.opens in
          let owed = run_owed p q code.one_slot loop f z T.events 0 so_start (at_start q inputs) m (omega arith) T.whole in
          let one : waiters (m.store.slots f (code.one_slot.0 loop)) ≡ 1 =
          ap (λ (s : ℕ). waiters (m.store.slots f s)) (sym slot) ∙ ap waiters waits in
          let same = granted_is p q f loop z t.first t.part m t.run in
          let counted = T.counted (Grants loop) in
          let sought = few_credits T.events m (is_run T.events m T.whole) in
          let k = credits L.open_ip all.1 L.opens.instr L.opens.is_at L.opens.does in
          let eq = all.4 in
          omega (arith, owed, one, same, counted, sought, k, eq)

abbrev room_of : (fl : Flow) (inputs : List ℤ) (q : Program) (z : Size) (steps : ℕ) → HasEnough fl inputs q z steps → HasRoom fl inputs q z steps
room_of fl inputs q z steps enough = record {
  state = enough.state;
  reached = enough.reached;
  at_rest = enough.at_rest;
  no_clash = enough.no_clash;
  due = enough.due;
  turns = enough.turns;
  calls = enough.calls;
  frames = enough.frames;
  time = enough.time;
}

pub roomy_runs_rest : RoomyRunsRest
roomy_runs_rest fl q faithful inputs z steps e f fit room never by_list may_stop r shows uncut =
    rests fl q faithful inputs z steps e f fit room never by_list may_stop r shows uncut

pub roomy_runs_complete : RoomyRunsComplete
roomy_runs_complete fl q faithful inputs z steps e f fit room never none_waiting by_list may_stop r shows uncut =
    completes fl q faithful inputs z steps e f fit room never by_list may_stop r shows uncut none_waiting

pub runs_rest : RunsRest
runs_rest fl p q code inputs z steps e f fit enough =
    roomy_runs_rest fl q code.faithful inputs z steps e f fit (room_of fl inputs q z steps enough)
    (never_starves fl p q code inputs enough.due enough.turns enough.calls enough.credits z)

pub runs_complete : RunsComplete
runs_complete fl p q code inputs z steps e f fit enough none_waiting =
    roomy_runs_complete fl q code.faithful inputs z steps e f fit (room_of fl inputs q z steps enough)
    (never_starves fl p q code inputs enough.due enough.turns enough.calls enough.credits z) none_waiting
