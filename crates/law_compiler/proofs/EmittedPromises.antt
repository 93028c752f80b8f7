-- What is promised of a program holds of each program that is alike.
use Rattle.std.proofs.Common.{◌≡◌, refl, sym, ap, ◌∙◌, subst, ℕ, zero, suc, ◌+◌, ◌*◌, ◌≤◌, max, Bool, ◌==◌, ◌&&◌, if◌then◌else◌, ℤ, List, [], ◌∷◌, ◌++◌, length}
use Rattle.std.proofs.Common.{Option, Some, None, ◌⊎◌, inl, inr, arith}
use Rattle.std.specs.Prelude.{slice_get, flat_map, count_by, IsPermutation}
use Rattle.tags.specs.declared.token.To.{To}
use Rattle.tags.specs.declared.token.Token.{Token}
use Rattle.tags.specs.declared.slot.SlotState.{SlotState}
use Rattle.semantics.specs.Graph.{Flow}
use Rattle.semantics.specs.declared.program.Op.{Op}
use Rattle.semantics.specs.declared.program.Op.TheVariants.{Link, Open, Take}
use Rattle.semantics.specs.Program.{Instr, CodeBlock, Program, instr_at}
use Rattle.semantics.specs.Rule.{slot_of}
use Rattle.semantics.specs.Machine.{Machine, Store, Size, Events, Run, at_start, slot_in, slot_used}
use Rattle.semantics.specs.Faithful.{Faithful, IsRun, IsBounded, largest}
use Rattle.semantics.specs.Cause.{HasBounds, HasCause, loop_bounds, opened_by, seeks_credit, is_credit_event, credit_count, request_count}
use Rattle.semantics.specs.Reuse.{ReleasesLast}
use Rattle.semantics.specs.Plan.{Plan}
use Rattle.semantics.specs.Handed.{Tenure, IsJustOut}
use Rattle.semantics.specs.Credits.{granted_by, granted_in, granted_at, granted, released_by, released_in, released_at, released, IsPart, IsLink, IsLoop}
use Rattle.semantics.specs.Holders.{Holder, holder_at, same_holder, held_after, uses_slot, held_by_event, holds}
use Rattle.law_compiler.specs.EmittedAlike.{AreAlikeInstrs, AllAlike, AreAlikeBlocks, AllBlocksAlike, AreAlike}
use Rattle.law_compiler.specs.EmittedSame.{KeepsBoundsAs, HoldsAloneAs}
use Rattle.law_compiler.proofs.EmittedPrograms.{back, AlikeAt, as_many, other, instr_same, used_same, starts_same, stuck_same, event_to, run_to}

-- BLOCKS
as_many_blocks : (cs ds : List CodeBlock) → AllBlocksAlike cs ds → length cs ≡ length ds
as_many_blocks [] [] h = refl
as_many_blocks [] (d ∷ ds) h = absurd h
as_many_blocks (c ∷ cs) [] h = absurd h
as_many_blocks (c ∷ cs) (d ∷ ds) h = ap (λ n. suc n) (as_many_blocks cs ds h.1)

other_block : (cs ds : List CodeBlock) (b : ℕ) (c : CodeBlock) → AllBlocksAlike cs ds → slice_get cs b ≡ Some c
    → (d : CodeBlock) × (slice_get ds b ≡ Some d) × AreAlikeBlocks c d
other_block [] ds b c h e = cc
other_block (k ∷ cs) [] b c h e = absurd h
other_block (k ∷ cs) (d ∷ ds) zero c h e = let same : k ≡ c = cc in (d, refl, subst (λ (x : CodeBlock). AreAlikeBlocks x d) same h.0)
other_block (k ∷ cs) (d ∷ ds) (suc b) c h e = other_block cs ds b c h.1 e

same_bounds : (is js : List Instr) → AllAlike is js → flat_map (λ (i : Instr). opened_by i.op) is ≡ flat_map (λ (i : Instr). opened_by i.op) js
same_bounds [] [] h = refl
same_bounds [] (j ∷ js) h = absurd h
same_bounds (i ∷ is) [] h = absurd h
same_bounds (i ∷ is) (j ∷ js) h =
    ap (λ (op : Op). opened_by op ++ flat_map (λ (i : Instr). opened_by i.op) is) h.0.op
    ∙ ap (λ (l : List ℕ). opened_by j.op ++ l) (same_bounds is js h.1)

same_largest : (cs ds : List CodeBlock) → AllBlocksAlike cs ds → largest cs ≡ largest ds
same_largest [] [] h = refl
same_largest [] (d ∷ ds) h = absurd h
same_largest (c ∷ cs) [] h = absurd h
same_largest (c ∷ cs) (d ∷ ds) h =
    ap (λ (n : ℕ). max n (largest cs)) (as_many c.instrs d.instrs h.0.instrs) ∙ ap (max (length d.instrs)) (same_largest cs ds h.1)

seeks_same : (x y : Option Instr) → AlikeAt x y → seeks_credit x ≡ seeks_credit y
seeks_same None None h = refl
seeks_same None (Some j) h = absurd h
seeks_same (Some i) None h = absurd h
seeks_same (Some i) (Some j) h =
    ap (λ (op : Op). seeks_credit (Some (record { op = op; origin = i.origin; slot = i.slot; firsts = i.firsts; seconds = i.seconds }))) h.op

granted_alike : (x y : Option Instr) (s : SlotState) → AlikeAt x y → granted_in x s ≡ granted_in y s
granted_alike None None s h = refl
granted_alike None (Some j) s h = absurd h
granted_alike (Some i) None s h = absurd h
granted_alike (Some i) (Some j) s h = ap (λ (op : Op). granted_by op s) h.op

released_alike : (x y : Option Instr) (f base : ℕ) (made : List Token) → AlikeAt x y → released_in x f base made ≡ released_in y f base made
released_alike None None f base made h = refl
released_alike None (Some j) f base made h = absurd h
released_alike (Some i) None f base made h = absurd h
released_alike (Some i) (Some j) f base made h = ap (λ (op : Op). released_by op f base made) h.op

-- p is the program that keeps the promises, and runs of q become runs of it
module _ (p q : Program) (alike : AreAlike p q) where
  abbrev there : AreAlike q p
  there = back p q alike

  pub is_run : (fl : Flow) (inputs : List ℤ) (z : Size) (events : Events) (m : Machine) → IsRun fl q inputs z events m → IsRun fl p inputs z events m
  is_run fl inputs z events m r = record {
    inputs_fit = r.inputs_fit;
    some_element = r.some_element;
    some_frame = r.some_frame;
    run = run_to q p there z (at_start q inputs) (at_start p inputs) events m (starts_same q p there inputs) r.run;
  }

  credit_same : (ev : ℕ × Token) → is_credit_event p ev.1.to ≡ is_credit_event q ev.1.to
  credit_same ev = by ev.1.to
    where
      by : (to : To) → is_credit_event p to ≡ is_credit_event q to
      by (To.Instr f ip port) = seeks_same (instr_at p ip) (instr_at q ip) (instr_same p q alike ip)
      by (To.Fetch x) = refl
      by (To.Store x v) = refl
      by To.Manager = refl
      by (To.Release f) = refl
      by (To.Host j) = refl

  credits_same : (events : Events) → credit_count p events ≡ credit_count q events
  credits_same events = ap (λ (test : ℕ × Token → Bool). count_by test events) (λ k ev. credit_same ev k)

  pub bounds_kept : (fl : Flow) → HasBounds fl p → HasBounds fl q
  bounds_kept fl h = (
    sym (as_many_blocks p.blocks q.blocks alike.blocks) ∙ h.0,
    λ b d g at graph. let o = other_block q.blocks p.blocks b d there.blocks at in
        subst (λ (l : List ℕ). IsPermutation l (loop_bounds g)) (sym (same_bounds d.instrs o.0.instrs o.2.instrs)) (h.1 b o.0 g o.1 graph),
  )

  pub bounded_kept : (events : Events) → IsBounded p events → IsBounded q events
  bounded_kept events h = subst (λ (n : ℕ). length events ≤ 6 * (n + 1) * (1 + request_count events)) (same_largest p.blocks q.blocks alike.blocks) h

  pub cause_kept : (fl : Flow) (inputs : List ℤ) (events : Events) (m : Machine) → HasCause fl p inputs events m → HasCause fl q inputs events m
  cause_kept fl inputs events m h =
      let same = credits_same events in
      let few = h.credits in
      record { run = h.run; state = h.state; is_run = h.is_run; seen = h.seen; due = h.due; are_due = h.are_due; enough = h.enough; credits = omega arith }

  pub faithful_kept : (fl : Flow) → Faithful fl p → Faithful fl q
  faithful_kept fl h = record {
    arrays = sym alike.arrays ∙ h.arrays;
    bounds = bounds_kept fl h.bounds;
    reachable = λ inputs z events m r. h.reachable inputs z events m (is_run fl inputs z events m r);
    exact = λ inputs z events m r. h.exact inputs z events m (is_run fl inputs z events m r);
    second_store = λ inputs z events m x r. h.second_store inputs z events m x (is_run fl inputs z events m r);
    matching = λ inputs z events m t r at. sym (stuck_same p q alike m.store t.to t.word) ∙ h.matching inputs z events m t (is_run fl inputs z events m r) at;
    clean = λ inputs z events m r. h.clean inputs z events m (is_run fl inputs z events m r);
    cause = λ inputs z events m r. cause_kept fl inputs events m (h.cause inputs z events m (is_run fl inputs z events m r));
    bound = λ inputs z events m r. bounded_kept events (h.bound inputs z events m (is_run fl inputs z events m r));
  }

  pub releases_kept : (fl : Flow) → ReleasesLast fl p → ReleasesLast fl q
  releases_kept fl h inputs z events m r = h inputs z events m (is_run fl inputs z events m r)

  -- CREDITS
  granted_event : (plan : Plan) (f : ℕ) (loop : Holder) (s : Store) (to : To) → granted_at plan q f loop s to ≡ granted_at plan p f loop s to
  granted_event plan f loop s (To.Instr g ip port) =
      ap (λ (n : ℕ). if (g == f) && same_holder loop (holder_at plan ip) then n else 0)
      (granted_alike (instr_at q ip) (instr_at p ip) (slot_in s g (slot_used (instr_at q ip))) (instr_same q p there ip)
      ∙ ap (λ (u : Option ℕ). granted_in (instr_at p ip) (slot_in s g u)) (used_same q p there ip))
  granted_event plan f loop s (To.Fetch x) = refl
  granted_event plan f loop s (To.Store x v) = refl
  granted_event plan f loop s To.Manager = refl
  granted_event plan f loop s (To.Release g) = refl
  granted_event plan f loop s (To.Host j) = refl

  released_event : (f base : ℕ) (to : To) (made : List Token) → released_at q f base to made ≡ released_at p f base to made
  released_event f base (To.Instr g ip port) made = released_alike (instr_at q ip) (instr_at p ip) f base made (instr_same q p there ip)
  released_event f base (To.Fetch x) made = refl
  released_event f base (To.Store x v) made = refl
  released_event f base To.Manager made = refl
  released_event f base (To.Release g) made = refl
  released_event f base (To.Host j) made = refl

  granted_same : (plan : Plan) (f : ℕ) (loop : Holder) (z : Size) (old : Machine) (events : Events) (new : Machine) (run : Run q z old events new)
      → granted plan q f loop z old events new run ≡ granted plan p f loop z old events new (run_to q p there z old old events new refl run)
  unfolding run_to event_to
  granted_same plan f loop z old [] new run = refl
  granted_same plan f loop z old (ev ∷ later) new run =
      ap (λ (n : ℕ). n + granted plan q f loop z run.0 later new run.2) (granted_event plan f loop old.store ev.1.to)
      ∙ ap (λ (n : ℕ). granted_at plan p f loop old.store ev.1.to + n) (granted_same plan f loop z run.0 later new run.2)

  released_same : (f base : ℕ) (z : Size) (old : Machine) (events : Events) (new : Machine) (run : Run q z old events new)
      → released q f base z old events new run ≡ released p f base z old events new (run_to q p there z old old events new refl run)
  unfolding run_to event_to
  released_same f base z old [] new run = refl
  released_same f base z old (ev ∷ later) new run =
      ap (λ (n : ℕ). n + released q f base z run.0 later new run.2) (released_event f base ev.1.to run.1.made)
      ∙ ap (λ (n : ℕ). released_at p f base ev.1.to run.1.made + n) (released_same f base z run.0 later new run.2)

  just_out : (z : Size) (inputs : List ℤ) (f : ℕ) (m : Machine) → IsJustOut q z inputs f m → IsJustOut p z inputs f m
  unfolding event_to
  just_out z inputs f m (inl h) = inl (h.0, h.1 ∙ starts_same q p there inputs)
  just_out z inputs f m (inr (before, old, e, t, out, run, has)) =
      inr (
        before,
        old,
        e,
        t,
        event_to q p there z e t old old m refl out,
        run_to q p there z (at_start q inputs) (at_start p inputs) before old (starts_same q p there inputs) run,
        has,
      )

  tenure : (z : Size) (inputs : List ℤ) (f : ℕ) (m : Machine) → Tenure q z inputs f m → Tenure p z inputs f m
  tenure z inputs f m t = record {
    first = t.first;
    just_out = just_out z inputs f t.first t.just_out;
    part = t.part;
    run = run_to q p there z t.first t.first t.part m refl t.run;
    stays = t.stays;
  }

-- a part of a holder that uses its slot
part_to : (p q : Program) → AreAlike p q → (plan : Plan) (h : Holder) (op : Op) (ip s : ℕ) → ((i : Instr) → slot_of i op ≡ Some i.slot)
    → IsPart plan p h op ip s → IsPart plan q h op ip s
part_to p q alike plan h op ip s uses part =
    let o = other (instr_at p ip) (instr_at q ip) part.instr (instr_same p q alike ip) part.is_at in
    let mine : slot_of part.instr part.instr.op ≡ Some part.instr.slot = ap (slot_of part.instr) part.does ∙ uses part.instr in
    let named : o.0.op ≡ op = sym o.2.op ∙ part.does in
    let yours : slot_of o.0 o.0.op ≡ Some o.0.slot = ap (slot_of o.0) named ∙ uses o.0 in
    let same : Some part.instr.slot ≡ Some o.0.slot = sym mine ∙ o.2.slot ∙ yours in
    let slot : part.instr.slot ≡ o.0.slot = cc in
    record { instr = o.0; is_at = o.1; does = named; uses = sym slot ∙ part.uses; holds = part.holds }

link_to : (p q : Program) → AreAlike p q → (ip callee base : ℕ) → IsLink p ip callee base → IsLink q ip callee base
link_to p q alike ip callee base link =
    let o = other (instr_at p ip) (instr_at q ip) link.instr (instr_same p q alike ip) link.is_at in
    let named : o.0.op ≡ Link callee = sym o.2.op ∙ link.does in
    record {
      instr = o.0;
      dest = link.dest;
      is_at = o.1;
      does = named;
      lands = sym (o.2.firsts (ap Rattle.law_compiler.specs.EmittedAlike.is_split link.does)) ∙ link.lands;
      begins = link.begins;
    }

loop_to : (p q : Program) → AreAlike p q → (plan : Plan) (loop : Holder) (k s base : ℕ) → IsLoop plan p loop k s base → IsLoop plan q loop k s base
loop_to p q alike plan loop k s base h = record {
  open_ip = h.open_ip;
  take_ip = h.take_ip;
  link_ip = h.link_ip;
  callee = h.callee;
  opens = part_to p q alike plan loop (Open k) h.open_ip s (λ i. refl) h.opens;
  takes = part_to p q alike plan loop (Take k) h.take_ip s (λ i. refl) h.takes;
  links = link_to p q alike h.link_ip h.callee base h.links;
  lands = h.lands;
}

pub credits_kept : (p q : Program) → AreAlike p q → (fl : Flow) (plan : Plan) → KeepsBoundsAs fl plan p → KeepsBoundsAs fl plan q
unfolding tenure
credits_kept p q alike fl plan h inputs z events m f r t =
    let mine = h inputs z events m f (is_run p q alike fl inputs z events m r) (tenure p q alike z inputs f m t) in
    record {
      never_above = λ loop k ip s part.
          let n = mine.never_above loop k ip s (part_to q p (back p q alike) plan loop (Open k) ip s (λ i. refl) part) in
          let g = granted_same p q alike plan f loop z t.first t.part m t.run in
          let b = released_same p q alike f n.0 z t.first t.part m t.run in
          let le = n.2 in
          (n.0, loop_to p q alike plan loop k s n.0 n.1, omega arith);
      all_granted = λ s c rests waits.
          let n = mine.all_granted s c rests waits in
          let g = granted_same p q alike plan f n.0 z t.first t.part m t.run in
          let b = released_same p q alike f n.2 z t.first t.part m t.run in
          let e = n.4 in
          (n.0, n.1, n.2, loop_to p q alike plan n.0 n.1 s n.2 n.3, omega arith);
    }

-- HOLDERS
held_same : (p q : Program) → AreAlike p q → (plan : Plan) (f s : ℕ) (before : Option Holder) (to : To) (new : Store)
    → held_by_event plan p f s before to new ≡ held_by_event plan q f s before to new
held_same p q alike plan f s before (To.Instr g ip port) new =
    ap (λ (u : Option ℕ). if (g == f) && uses_slot s u then held_after before (holder_at plan ip) (new.slots f s) else before) (used_same p q alike ip)
held_same p q alike plan f s before (To.Fetch x) new = refl
held_same p q alike plan f s before (To.Store x v) new = refl
held_same p q alike plan f s before To.Manager new = refl
held_same p q alike plan f s before (To.Release g) new = refl
held_same p q alike plan f s before (To.Host j) new = refl

holds_same : (p q : Program) (alike : AreAlike p q) (plan : Plan) (f s : ℕ) (before : Option Holder) (z : Size) (old at : Machine) (events : Events)
    (new : Machine) (same : old ≡ at) (run : Run p z old events new)
    → holds plan p f s before z old events new run ≡ holds plan q f s before z at events new (run_to p q alike z old at events new same run)
unfolding run_to event_to
holds_same p q alike plan f s before z old at [] new same run = refl
holds_same p q alike plan f s before z old at (ev ∷ later) new same run =
    holds_same p q alike plan f s (held_by_event plan p f s before ev.1.to run.0.store) z run.0 run.0 later new refl run.2
    ∙ ap (λ (h : Option Holder). holds plan q f s h z run.0 later new (run_to p q alike z run.0 run.0 later new refl run.2))
    (held_same p q alike plan f s before ev.1.to run.0.store)

pub holders_kept : (p q : Program) → AreAlike p q → (fl : Flow) (plan : Plan) → HoldsAloneAs fl plan p → HoldsAloneAs fl plan q
unfolding is_run run_to
holders_kept p q alike fl plan h inputs z events m next e t r ev f ip s port holder to held used =
    let there = back p q alike in
    let mine = h inputs z events m next e t (is_run p q alike fl inputs z events m r) (event_to q p there z e t m m next refl ev) f ip s port holder to held
    (used_same p q alike ip ∙ used) in
    let same = holds_same q p there plan f s None z (at_start q inputs) (at_start p inputs) events m (starts_same q p there inputs) r.run in
    by mine same
  where
    by : {x y : Option Holder} → (y ≡ None) ⊎ (y ≡ Some holder) → x ≡ y → (x ≡ None) ⊎ (x ≡ Some holder)
    by (inl none) same = inl (same ∙ none)
    by (inr some) same = inr (same ∙ some)
