-- An event of the new run is none, one or more of the old run.
use Rattle.std.proofs.Common.{◌≡◌, refl, sym, ap, ◌∙◌, subst, ℕ, ◌+◌, ◌*◌, ◌⊎◌, inl, inr, Bool, true, false, ℤ, List, [], ◌∷◌, ◌++◌, Option, Some, None}
use Rattle.std.proofs.Common.{IsPermutation, Contains, append-nil, arith}
use Rattle.std.proofs.lemmas.List.Elements.{Contains-append_left, Contains-append_right}
use Rattle.std.proofs.lemmas.List.Sorted.{Contains-permutation, IsPermutation-refl, IsPermutation-sym, IsPermutation-trans}
use Rattle.lemmas.proofs.Contains.{contains_head, contains_none, contains_tail}
use Rattle.tags.specs.declared.value.Value.TheVariants.{Int}
use Rattle.tags.specs.declared.token.Port.{Port}
use Rattle.tags.specs.declared.token.Port.TheVariants.{Left, Right}
use Rattle.tags.specs.declared.token.Word.{Word}
use Rattle.tags.specs.declared.token.To.{To}
use Rattle.tags.specs.declared.token.Token.{Token}
use Rattle.tags.specs.declared.slot.SlotState.{SlotState}
use Rattle.tags.specs.declared.slot.SlotState.TheVariants as Slot
use Rattle.tags.specs.declared.slot.SlotState.TheVariants.{Empty}
use Rattle.semantics.specs.declared.program.Op.{Op}
use Rattle.semantics.specs.declared.program.Op.TheVariants.{Apply2, Apply2Right, Apply2Left}
use Rattle.semantics.specs.Program.{Instr, Program, instr_at}
use Rattle.semantics.specs.Rule.{token, Point, to_all, Becomes, fires, fire_two, meets, outcome_of, rule_at, slot_of}
use Rattle.semantics.specs.Machine.{Machine, Store as MStore, Size, Event, Events, slot_in, slot_used, Fires, Happens}
use Rattle.operators.specs.declared.Binary.{Binary}
use Rattle.operators.specs.Values.{apply2}
use Rattle.tags.specs.declared.value.Origin.{Origin}
use Rattle.semantics.specs.Arcs.{UsesArc}
use Rattle.semantics.specs.Cause.{is_request, request_count, seeks_credit, is_credit_event, credit_count}
use Rattle.semantics.specs.Handed.{handed_by, EachOnce}
use Rattle.semantics.specs.Plan.{Plan}
use Rattle.semantics.specs.Wired.{IsWired}
use Rattle.semantics.specs.Orderly.{Orderly, IsStart, met}
use Rattle.law_reuse.proofs.FramesCounts.{requests_more, credits_more}
use Rattle.law_reuse.proofs.SlotsHistory.{taken}
use Rattle.law_fresh_frames.specs.Alike.{LandsRightly}
use Rattle.law_confluence.proofs.Orders.{first_lifted, flat_map-IsPermutation}
use Rattle.law_reuse.proofs.BoundsTallies.{Counter, Grants, Releases, count_at, count_apart}
use Rattle.law_fresh_frames.proofs.BoundedWeights.{tot_append}
use Rattle.semantics.specs.Credits.{granted_at, released_at}
use Rattle.law_simulation.specs.Places.{Spot, ip_store, ip_to, ip_token, ip_word}
use Rattle.law_simulation.specs.Simulates.{Arrives, Clumped, Fits, FitsSlot, FitsWord, Fresh, HandsOn, IsMoved, IsPair, IsValue, Pend, Plain, Reaches, Relates}
use Rattle.law_simulation.specs.Simulates.{Sends, StandAll, Stands, counts_none, empty, hands_on, is_pair, itself, left, moved, right, through}
use Rattle.law_simulation.proofs.SimulationCame.{moved_came, other_stale}
use Rattle.law_simulation.proofs.SimulationCounts.{Counted, counted_event, counted_more, counted_perm, counted_through, made_behind, made_instrs}
use Rattle.law_simulation.proofs.SimulationEvents.{Answered, FitsAll, FitsCell, instr_back, other_back}
use Rattle.law_simulation.proofs.SimulationFires.{hands_does, hands_op, left_does, right_does}
use Rattle.law_simulation.proofs.SimulationHas.{sent_arc}
use Rattle.law_simulation.proofs.SimulationMeet.{both_meet, empty_at, value_back}
use Rattle.law_simulation.proofs.SimulationParts.{Clump, Fair, Says, Sums, clumps_of, count_none, hands_none, meant_join, meant_of, no_seek}
use Rattle.law_simulation.proofs.SimulationParts.{none_seeks, pair_none, same_request, seeks_op, seen_join, seen_of, unit_of, with_spent}
use Rattle.law_simulation.proofs.SimulationPast.{Reached, after_event, again, ready, settle, step_on}
use Rattle.law_simulation.proofs.SimulationPorts.{ones}
use Rattle.law_simulation.proofs.SimulationState.{Explained, Sim, arrives_old, counted_of, explained_last, explained_later, new_counter, not_instr}
use Rattle.law_simulation.proofs.SimulationState.{past_of, same_credit, slot_fits, taken_more}
use Rattle.law_simulation.proofs.SimulationSteps.{same_grant, same_release}
use Rattle.law_simulation.proofs.SimulationTold.{KeepsArcs, Told, came_next, moved_apart, pair_apart, told_hand, told_next, told_now, told_through}
use Rattle.law_simulation.proofs.SimulationTraces.{Step, step}
use Rattle.law_simulation.proofs.SimulationUses.{moved_used, pair_used}

module _ (p q : Plan) (S : Relates p q) (wired : IsWired p) (orderly : Orderly p) (lands : LandsRightly p) (inputs : List ℤ) (z : Size)
    (start : IsStart p z inputs) where
  abbrev P : Program
  P = p.program

  abbrev Q : Program
  Q = q.program

  abbrev g : ℕ → ℕ
  g = S.g

  abbrev h : ℕ → ℕ
  h = S.h

  abbrev total : ℕ
  total = z.elements * z.frames

  abbrev C : Type 0
  C = Clump P Q g h

  abbrev seen_in : List C → List Token
  seen_in cs = seen_of P Q g h cs

  abbrev meant_in : List C → List Token
  meant_in cs = meant_of P Q g h cs

  abbrev Past : MStore → List Token → Sums → Type 0
  Past = Reached p q g h S.answers wired orderly inputs z start

  abbrev Known : List Token → List Token → List C → Type 0
  Known = Counted P Q g h S.apart S.pairs_apart

  abbrev sums : Events → List ℕ → List Step → List Token → List Token → List Token → Sums
  sums events gone ss pool olds spent =
      record {
        gone = gone;
        asked = request_count events;
        credited = credit_count Q events;
        olds = olds;
        spent = spent;
        counts = counted_of q h ss;
        arcs = Told p q S ss pool;
      }

  abbrev SimAt : Events → Machine → List ℕ → List Step → Type 0
  SimAt = Sim p q S wired orderly lands inputs z start

  abbrev Explains : Events → Machine → Token → Type 0
  Explains = Explained p q S wired orderly lands inputs z start

  module _ (events : Events) (m : Machine) (gone : List ℕ) (ss : List Step) (V : SimAt events m gone ss) (once : EachOnce (0 ∷ gone)) where
    abbrev olds : List Token
    olds = met V.part.done V.part.last

    abbrev T : Sums
    T = sums events gone ss m.pool olds (taken V.part.done)

    R : Past V.old (meant_in V.clumps) T
    R = past_of p q S wired orderly lands inputs z start events m gone ss V once

    arrived : (f a : ℕ) (r : Port) (w : Word) (i : Instr) → instr_at P a ≡ Some i → Contains V.part.last.pool (token (To.Instr f a r) w)
        → Arrives P Q h i.op (slot_in V.old f (slot_of i i.op)) r w
    arrived = arrives_old p q S wired orderly lands inputs z start events m gone ss V once

    fits_slot : (f : ℕ) (o : Option ℕ) → FitsSlot P Q h (slot_in V.old f o)
    fits_slot = slot_fits p q S wired orderly lands inputs z start events m gone ss V once

    module _ (e : ℕ) (t : Token) (after : Machine) (ev : Event Q z e t m after) (once_after : EachOnce (0 ∷ gone ++ handed_by t.to ev.made)) where
      abbrev gone_after : List ℕ
      gone_after = gone ++ handed_by t.to ev.made

      abbrev events_after : Events
      events_after = events ++ (e, t) ∷ []

      abbrev this : Step
      this = step m.store t ev.made after

      abbrev steps_after : List Step
      steps_after = ss ++ this ∷ []

      abbrev Next : Type 0
      Next = SimAt events_after after gone_after steps_after

      -- the sums after it, where those tokens were taken
      abbrev sums_after : List Token → Sums
      sums_after us = sums events_after gone_after steps_after after.pool olds (taken V.part.done ++ us)

      -- those before it, and the arcs that are known after it
      abbrev turned : Sums
      turned =
          record {
            gone = gone;
            asked = request_count events;
            credited = credit_count Q events;
            olds = olds;
            spent = taken V.part.done;
            counts = counted_of q h ss;
            arcs = Told p q S steps_after after.pool;
          }

      turn_on : ((k a : ℕ) (r : Port) → Told p q S ss m.pool k a r → Told p q S steps_after after.pool k a r) → Past V.old (meant_in V.clumps) turned
      turn_on tells =
          again p q g h S.answers wired orderly inputs z start V.old _ _ T turned R
          (IsPermutation-refl
          _) record {
            gone = refl;
            asked = refl;
            credited = refl;
            olds = λ x k. k;
            spent = λ f a r. omega arith;
            counts = λ x f fair. refl;
            arcs = λ k a r e. tells k a r e;
          }

      -- where the token is at none that passes on
      turn_by : ((k ip : ℕ) (j : Instr) → t.to ≡ To.Instr k ip Left → instr_at Q ip ≡ Some j → hands_on j.op ≡ true → Fresh P Q h ip → ⊥)
          → Past V.old (meant_in V.clumps) turned
      turn_by off = turn_on (λ k a r. told_next p q S ss m.store t m.pool ev.made ev.rest after ev.takes ev.leaves off k a r)

      -- what the event makes where nothing stands for itself arrives by an arc
      abbrev AllCame : Type 0
      AllCame = (u : Token) → Contains ev.made u → (k ip : ℕ) (r : Port) → u.to ≡ To.Instr k ip r → Fresh P Q h ip → UsesArc q k ip r t ev.made after

      does : (to : To) (w : Word) → t.to ≡ to → t.word ≡ w → Happens Q total (ip_store h V.old) to w ev.made after.store
      does to w a b =
          subst (λ (s : MStore). Happens Q total s to w ev.made after.store) V.store
          (subst (λ (w : Word). Happens Q total m.store to w ev.made after.store) b
          (subst (λ (to : To). Happens Q total m.store to t.word ev.made after.store) a ev.happens))

      in_pool : (u : Token) → Contains (meant_in V.clumps) u → Contains V.part.last.pool u
      in_pool u inside = Contains-permutation _ _ u (IsPermutation-sym _ _ V.part.pool) inside

      in_met : (u : Token) → Contains (meant_in V.clumps) u → Contains olds u
      in_met u inside = Contains-append_right (taken V.part.done) V.part.last.pool u (in_pool u inside)

      abbrev counts_now : Counter → ℕ → ℕ
      counts_now x f = count_at q Q (new_counter h x) f m.store t.to ev.made

      steps_count : (x : Counter) (f : ℕ) → counted_of q h steps_after x f ≡ counted_of q h ss x f + counts_now x f
      steps_count x f = (let a = tot_append (λ (s : Step). count_at q Q (new_counter h x) f s.before s.taken.to s.made) ss (this ∷ []) in omega (arith, a))

      finish : (stored : MStore) (cs : List C) (us : List Token) → Past stored (meant_in cs) (sums_after us) → IsPermutation after.pool (seen_in cs)
          → after.store ≡ ip_store h stored → Explains V.part.done V.part.last t → Known (taken events ++ t ∷ []) (taken V.part.done ++ us) cs → AllCame → Next
      finish stored cs us N seen store X K new = record {
        old = stored;
        clumps = cs;
        part = record {
          done = N.done;
          last = N.last;
          run = N.run;
          hands = N.hands;
          kept = N.kept;
          same = N.same;
          pool = N.pool;
          requests = N.requests;
          credits = N.credits;
          grown = λ x c. absurd (contains_none x c);
          took = λ f a r. omega arith;
          counts = N.counts;
          words = N.words;
          arcs = N.arcs;
        };
        seen = seen;
        store = store;
        known =
            explained_last p q S wired orderly lands inputs z start events e t N.done N.last
            (λ x c. explained_later p q S wired orderly lands inputs z start V.part.done N.done V.part.last N.last N.grown x (V.known x c))
            (explained_later p q S wired orderly lands inputs z start V.part.done N.done V.part.last N.last N.grown t X);
        counted =
            subst (λ (l : List Token). Known l (taken N.done) cs) (sym (taken_more p q S wired orderly lands inputs z start events e t))
            (counted_more P Q g h S.apart S.pairs_apart (taken events ++ t ∷ []) (taken V.part.done ++ us) (taken N.done) cs N.took K);
        came = came_next p q S ss m.store t m.pool ev.made ev.rest after ev.takes ev.leaves V.came new;
      }

      -- an event that hands out nothing, asks for nothing and counts nothing
      quiet_sums : (f ip : ℕ) (w : Word) (j : Instr) (us : List Token) → t ≡ token (To.Instr f ip Left) w → instr_at Q ip ≡ Some j → counts_none j.op ≡ true
          → seeks_credit (instr_at Q ip) ≡ false → Says P Q h (with_spent turned us) (sums_after us)
      quiet_sums f ip w j us is at none off = record {
        gone = sym (append-nil gone) ∙ ap (λ (t : Token). gone ++ handed_by t.to ev.made) (sym is);
        asked = (let a = requests_more events e t in let b = ap unit_of (ap (λ (t : Token). is_request t.to) is) in omega (arith, a, b));
        credited = (let a = credits_more Q events e t in let b = ap unit_of (ap (λ (t : Token). is_credit_event Q t.to) is ∙ off) in omega (arith, a, b));
        olds = λ x k. k;
        spent = λ k a r. omega arith;
        counts = λ x k fair.
            (let a = steps_count x k in let b = ap (λ (t : Token). count_at q Q (new_counter h x) k m.store t.to ev.made) is in
            let c = count_none q (new_counter h x) k f ip Left m.store ev.made j at none in omega (arith, a, b, c));
        arcs = λ k a r e. e;
      }

      -- what happens to the clumps
      made_next : (others : List C) → seen_in others ≡ ev.rest → (stored : MStore) (us : List Token) (made : List Token) (X : Clumped P Q g h ev.made made)
          → Past stored (made ++ meant_in others) (sums_after us) → after.store ≡ ip_store h stored → Explains V.part.done V.part.last t
          → ((cl : List C) → Known (taken events ++ t ∷ []) (taken V.part.done ++ us) (cl ++ others)) → AllCame → Next
      made_next others rest stored us made X N store E K new =
          let fired : Past stored (X.meant ++ meant_in others) (sums_after us) =
          settle p q g h S.answers wired orderly inputs z start (Sends P Q h ev.made) made X.meant X.settles stored (meant_in others) (sums_after us)
          (told_hand p q S ss m.store t m.pool ev.made ev.rest after ev.takes ev.leaves) N once_after in
          let cl = clumps_of P Q g h ev.made X.meant X.stand in
          let means : meant_in (cl.0 ++ others) ≡ X.meant ++ meant_in others = meant_join P Q g h cl.0 others
          ∙ ap (λ (l : List Token). l ++ meant_in others) cl.2 in
          let sees : seen_in (cl.0 ++ others) ≡ ev.made ++ ev.rest = seen_join P Q g h cl.0 others ∙ (λ k. cl.1 k ++ rest k) in
          finish stored (cl.0 ++ others) us (subst (λ (l : List Token). Past stored l (sums_after us)) (sym means) fired)
          (subst (IsPermutation after.pool) (sym sees) ev.leaves) store E (K cl.0) new

      -- the event of a token that stands for one
      both : (c : C) → c.seen ≡ t → (others : List C) → Known (taken events) (taken V.part.done) (c ∷ others) → seen_in others ≡ ev.rest → (u : Token)
          → c.meant ≡ u ∷ [] → Fits P Q h u.to → t ≡ ip_token h u → IsPermutation (meant_in V.clumps) (u ∷ meant_in others)
          → (A : Answered P Q g h S.arrays S.outputs total V.old u.to u.word ev.made after.store) → is_credit_event Q t.to ≡ is_credit_event P u.to
          → ((x : Counter) (f : ℕ) → Fair P Q h x → counts_now x f ≡ count_at p P x f V.old u.to A.tokens)
          → (KeepsArcs p q S → Clumped P Q g h ev.made A.tokens → (k a : ℕ) (r : Port) → (last : Machine) → last.store ≡ A.after
          → UsesArc p k a r u A.tokens last → (x : Spot) → Reaches P Q h a r x → UsesArc q k (h x.0) x.1 t ev.made after ⊎ Pend P Q h k x.0 x.1 ev.made)
          → AllCame → Next
      both c same others K rest u one fits is takes A credit counts uses new =
          let stepped : Past A.after (A.tokens ++ meant_in others)
          (after_event p q g h S.answers wired orderly inputs z start turned V.old A.after u A.tokens (meant_in others)) =
          step_on p q g h S.answers wired orderly inputs z start V.old A.after (meant_in V.clumps) A.tokens (meant_in others) turned
          (turn_by (moved_apart p q S t u fits is)) once u takes A.happens in
          let hands : handed_by t.to ev.made ≡ handed_by u.to A.tokens = ap (λ (t : Token). handed_by t.to ev.made) is ∙ A.hands in
          let X : Clumped P Q g h ev.made A.tokens =
          ready p q g h S.answers wired orderly inputs z start A.after (meant_in others)
          (after_event p q g h S.answers wired orderly inputs z start turned V.old A.after u A.tokens (meant_in others)) ev.made A.tokens A.clumped stepped
          (subst (λ (l : List ℕ). EachOnce (0 ∷ gone ++ l)) hands once_after) in
          let reached : Past A.after (A.tokens ++ meant_in others) (sums_after (u ∷ [])) =
          again p q g h S.answers wired orderly inputs z start A.after _ _ _ (sums_after (u ∷ [])) stepped (IsPermutation-refl _) record {
            gone = ap (λ (l : List ℕ). gone ++ l) (sym hands);
            asked =
                ap (λ (b : Bool). request_count events + unit_of b) (sym (ap (λ (t : Token). is_request t.to) is ∙ same_request h u.to))
                ∙ sym (requests_more events e t);
            credited = ap (λ (b : Bool). credit_count Q events + unit_of b) (sym credit) ∙ sym (credits_more Q events e t);
            olds = λ x k. k;
            spent = λ f a r. omega arith;
            counts = λ x f fair. (let a = steps_count x f in let b = counts x f fair in omega (arith, a, b));
            arcs = λ f a r e. told_both X f a r e;
          } in
          made_next others rest A.after (u ∷ []) A.tokens X reached A.same record {
            tokens = u ∷ [];
            stands = moved t (u ∷ []) u is refl fits;
            were = λ x c. in_met x (Contains-permutation _ _ x (IsPermutation-sym _ _ takes) (Contains-append_left (u ∷ []) (meant_in others) x c));
          } (λ cl. subst (λ (l : List Token). Known (taken events ++ t ∷ []) (taken V.part.done ++ l) (cl ++ others)) one
          (counted_event P Q g h S.apart S.pairs_apart (taken events) (taken V.part.done) c cl others t same K)) new
        where
          told_both : Clumped P Q g h ev.made A.tokens → (k a : ℕ) (r : Port) → Told p q S steps_after after.pool k a r
              ⊎ UsesArc p k a r u A.tokens record { store = A.after; pool = A.tokens ++ meant_in others }
              → Told p q S steps_after after.pool k a r
          told_both X k a r (inl e) = e
          told_both X k a r (inr U) =
              told_now p q S ss m.store t m.pool ev.made ev.rest after ev.takes ev.leaves k a r
              (λ F x W. uses F X k a r record { store = A.after; pool = A.tokens ++ meant_in others } refl U x W)

      -- the event of an instruction's token
      at_instr : (c : C) → c.seen ≡ t → (others : List C) → Known (taken events) (taken V.part.done) (c ∷ others) → seen_in others ≡ ev.rest
          → (f a : ℕ) (r : Port) (w : Word) → c.meant ≡ token (To.Instr f a r) w ∷ [] → Plain P Q h a → t ≡ ip_token h (token (To.Instr f a r) w)
          → IsPermutation (meant_in V.clumps) (token (To.Instr f a r) w ∷ meant_in others) → Next
      at_instr c same others K rest f a r w one fits is takes = by_place fits
        where
          inside : Contains V.part.last.pool (token (To.Instr f a r) w)
          inside = in_pool _ (Contains-permutation _ _ _ (IsPermutation-sym _ _ takes) (contains_head (token (To.Instr f a r) w) (meant_in others)))

          happens : Happens Q total (ip_store h V.old) (To.Instr f (h a) r) (ip_word h w) ev.made after.store
          happens = does (To.Instr f (h a) r) (ip_word h w) (ap (λ (t : Token). t.to) is) (ap (λ (t : Token). t.word) is)

          word_fits : FitsWord P Q h w
          word_fits = V.part.words.0 (token (To.Instr f a r) w) inside

          nothing_there : (j : Instr) → Some j ≡ None → ⊥
          nothing_there j e = cc

          here : (i : Instr) → instr_at P a ≡ Some i → IsMoved P Q g h a i → Next
          here i at M =
              let A : Answered P Q g h S.arrays S.outputs total V.old (To.Instr f a r) w ev.made after.store =
              instr_back P Q g h S.arrays S.outputs total V.old f a r w i at M ev.made after.store (arrived f a r w i at inside)
              (fits_slot f (slot_of i i.op)) word_fits happens in
              both c same others K rest (token (To.Instr f a r) w) one fits is takes A
              (ap (λ (t : Token). is_credit_event Q t.to) is ∙ ap seeks_credit M.there ∙ seeks_op i M.j M.op ∙ ap seeks_credit (sym at))
              (λ x k fair. same_count i at M A x k fair)
              (λ F X k b s last stores U x W. moved_used p q S F.sizes F.rows F.unskipped wired total V.old f a r w i at M ev.made A.tokens after last t
              (ap (λ (t : Token). t.to) is) happens (subst (λ (n : MStore). Happens P total V.old (To.Instr f a r) w A.tokens n) (sym stores) A.happens)
              (A.same ∙ ap (ip_store h) (sym stores)) (arrived f a r w i at inside) (fits_slot f (slot_of i i.op)) word_fits k b s x W U)
              (moved_came p q g h total V.old f a r w i M ev.made after.store happens S.arrays (arrived f a r w i at inside)
              (fits_slot f (slot_of i i.op)) word_fits after refl t (ap (λ (t : Token). t.to) is))
            where
              same_count : (i : Instr) (at : instr_at P a ≡ Some i) (M : IsMoved P Q g h a i)
                  (A : Answered P Q g h S.arrays S.outputs total V.old (To.Instr f a r) w ev.made after.store) (x : Counter) (k : ℕ) → Fair P Q h x
                  → counts_now x k ≡ count_at p P x k V.old (To.Instr f a r) A.tokens
              same_count i at M A (Grants loop) k fair =
                  (λ v. granted_at q Q k loop (V.store v) (is v).to) ∙ same_grant p q g h S.apart S.holders k f a r i at M loop V.old
              same_count i at M A (Releases base) k fair =
                  ap (λ (t : Token). released_at Q k (h base) t.to ev.made) is
                  ∙ same_release p q g h S.apart S.holders k f a r i at M base total w V.old A.after after.store A.tokens ev.made fair
                  (fits_slot f (slot_of i i.op)) word_fits happens A.happens

          by_place : Plain P Q h a → Next
          by_place (itself i j at there) = by (S.instrs a i at)
            where
              by : IsMoved P Q g h a i ⊎ (instr_at Q (h a) ≡ None) → Next
              by (inl M) = here i at M
              by (inr none) = absurd (nothing_there j (sym there ∙ none))
          by_place (empty at none apart) =
              absurd (subst (λ (o : Option Instr). Fires (ip_store h V.old) f (slot_used o)
              (rule_at Q record { frame = f; ip = h a } o (slot_in (ip_store h V.old) f (slot_used o)) r (ip_word h w)) ev.made after.store) none happens)

      at_other : (c : C) → c.seen ≡ t → (others : List C) → Known (taken events) (taken V.part.done) (c ∷ others) → seen_in others ≡ ev.rest → (u : Token)
          → c.meant ≡ u ∷ [] → Fits P Q h u.to → t ≡ ip_token h u → IsPermutation (meant_in V.clumps) (u ∷ meant_in others)
          → ((f a : ℕ) (r : Port) → u.to ≡ To.Instr f a r → ⊥) → Next
      at_other c same others K rest u one fits is takes apart =
          let inside : Contains V.part.last.pool u = in_pool u (Contains-permutation _ _ _ (IsPermutation-sym _ _ takes) (contains_head u (meant_in others))) in
          let cells : (x : ℕ) → FitsCell P Q g h (V.old.cells x) =
          (λ x. subst (λ (s : MStore). FitsCell P Q g h (s.cells x)) V.part.same (V.part.words.1.cells x)) in
          let asks : FitsAll P Q g h V.old.requests = subst (λ (s : MStore). FitsAll P Q g h s.requests) V.part.same V.part.words.1.asks in
          let happens : Happens Q total (ip_store h V.old) (ip_to h u.to) (ip_word h u.word) ev.made after.store =
          does (ip_to h u.to) (ip_word h u.word) (ap (λ (t : Token). t.to) is) (ap (λ (t : Token). t.word) is) in
          let A : Answered P Q g h S.arrays S.outputs total V.old u.to u.word ev.made after.store =
          other_back P Q g h S.arrays S.outputs total V.old u.to u.word ev.made after.store apart (V.part.words.0 u inside) cells asks happens in
          both c same others K rest u one fits is takes A (ap (λ (t : Token). is_credit_event Q t.to) is ∙ same_credit P Q h u.to apart)
          (λ x k fair. ap (λ (t : Token). count_at q Q (new_counter h x) k m.store t.to ev.made) is
          ∙ count_apart q Q (new_counter h x) k m.store (ip_to h u.to) ev.made (not_instr h u.to apart) ∙ sym (count_apart p P x k V.old u.to A.tokens apart))
          (λ F X k b r last stores U x W. absurd (apart k _ U.side U.taken_at))
          (λ v made k ip r to fresh. absurd (other_stale p q g h total V.old cells asks ev.made after.store u.to u.word apart
          (V.part.words.0 u inside) happens v made k ip r to fresh))

      at_token : (c : C) → c.seen ≡ t → (others : List C) → Known (taken events) (taken V.part.done) (c ∷ others) → seen_in others ≡ ev.rest
          → (to : To) (w : Word) → c.meant ≡ token to w ∷ [] → Fits P Q h to → t ≡ ip_token h (token to w)
          → IsPermutation (meant_in V.clumps) (token to w ∷ meant_in others) → Next
      at_token c same others K rest (To.Instr f a r) w one fits is takes = at_instr c same others K rest f a r w one fits is takes
      at_token c same others K rest (To.Fetch x) w one fits is takes = at_other c same others K rest (token (To.Fetch x) w) one fits is takes (λ f a r e. cc)
      at_token c same others K rest (To.Store x v) w one fits is takes =
          at_other c same others K rest (token (To.Store x v) w) one fits is takes (λ f a r e. cc)
      at_token c same others K rest To.Manager w one fits is takes = at_other c same others K rest (token To.Manager w) one fits is takes (λ f a r e. cc)
      at_token c same others K rest (To.Release f) w one fits is takes =
          at_other c same others K rest (token (To.Release f) w) one fits is takes (λ g a r e. cc)
      at_token c same others K rest (To.Host j) w one fits is takes = at_other c same others K rest (token (To.Host j) w) one fits is takes (λ f a r e. cc)

      -- the event of a new instruction's token
      happens_at : (f ip : ℕ) (w : Word) (j : Instr) → t ≡ token (To.Instr f ip Left) w → instr_at Q ip ≡ Some j
          → Fires m.store f (slot_of j j.op) (outcome_of Q record { frame = f; ip = ip } j j.op (slot_in m.store f (slot_of j j.op)) Left w) ev.made after.store
      happens_at f ip w j is at =
          subst (λ (o : Option Instr). Fires m.store f (slot_used o)
          (rule_at Q record { frame = f; ip = ip } o (slot_in m.store f (slot_used o)) Left w) ev.made after.store) at
          (subst (λ (t : Token). Happens Q total m.store t.to t.word ev.made after.store) is ev.happens)

      -- one that passes on
      at_through : (c : C) → c.seen ≡ t → (others : List C) → Known (taken events) (taken V.part.done) (c ∷ others) → seen_in others ≡ ev.rest
          → (f ip : ℕ) (w v : Word) (j : Instr) → t ≡ token (To.Instr f ip Left) w → instr_at Q ip ≡ Some j → HandsOn IsValue j.op w v → Fresh P Q h ip
          → StandAll P Q g h (to_all record { frame = f; ip = ip } v j) c.meant → Stands P Q g h t c.meant
          → IsPermutation (meant_in V.clumps) (c.meant ++ meant_in others) → Next
      at_through c same others K rest f ip w v j is at op fresh all stands takes =
          let on = hands_op IsValue j.op w v op in
          let d = hands_does IsValue Q f ip w v j m.store after.store ev.made op (happens_at f ip w j is at) in
          let cl = clumps_of P Q g h (to_all record { frame = f; ip = ip } v j) c.meant all in
          let means : meant_in (cl.0 ++ others) ≡ c.meant ++ meant_in others = meant_join P Q g h cl.0 others
          ∙ ap (λ (l : List Token). l ++ meant_in others) cl.2 in
          let sees : seen_in (cl.0 ++ others) ≡ ev.made ++ ev.rest = seen_join P Q g h cl.0 others ∙ (λ k. (cl.1 ∙ sym d.0) k ++ rest k) in
          let reached : Past V.old (meant_in (cl.0 ++ others)) (sums_after []) =
          again p q g h S.answers wired orderly inputs z start V.old _ _ turned (sums_after [])
          (turn_on (told_through p q S ss m.store t m.pool ev.made ev.rest after ev.takes ev.leaves f ip v j (ap (λ (t : Token). t.to) is) at on d.0))
          (subst (IsPermutation (meant_in V.clumps)) (sym means) takes)
          (none_spent (quiet_sums f ip w j [] is at (hands_none j.op on) (no_seek (instr_at Q ip) j j.op at refl (none_seeks j.op (hands_none j.op on))))) in
          finish V.old (cl.0 ++ others) [] reached (subst (IsPermutation after.pool) (sym sees) ev.leaves) (d.1 ∙ V.store) record {
            tokens = c.meant;
            stands = stands;
            were = λ x k. in_met x (Contains-permutation _ _ x (IsPermutation-sym _ _ takes) (Contains-append_left c.meant (meant_in others) x k));
          } (subst (λ (l : List Token). Known (taken events ++ t ∷ []) l (cl.0 ++ others)) (sym (append-nil (taken V.part.done)))
          (counted_through P Q g h S.apart S.pairs_apart (taken events) (taken V.part.done) c cl.0 others t f ip same (ap (λ (t : Token). t.to) is) cl.2
          (made_behind P Q g h S.apart S.pairs_apart f ip v j (λ d k. S.later ip j d at on fresh k) cl.0 cl.1)
          (made_instrs P Q g h S.apart S.pairs_apart f ip v j cl.0 cl.1) K))
          (λ u inside k b r to new. sent_arc p q S f ip Left v j ev.made after t at (hands_none j.op on) (ap (λ (t : Token). t.to) is) d.0 u inside k b r to)
        where
          none_spent : Says P Q h (with_spent turned []) (sums_after []) → Says P Q h turned (sums_after [])
          none_spent N =
              record {
                gone = N.gone;
                asked = N.asked;
                credited = N.credited;
                olds = N.olds;
                spent = λ k b r. (let e = ap (ones k b r) (append-nil (taken V.part.done)) in let l = N.spent k b r in omega (arith, e, l));
                counts = N.counts;
                arcs = N.arcs;
              }

      -- an operator with a literal operand: the one operand waits, and then both are there
      at_pair : (c : C) → c.seen ≡ t → (others : List C) → Known (taken events) (taken V.part.done) (c ∷ others) → seen_in others ≡ ev.rest
          → (f a : ℕ) (first_port second_port : Port) (first_word second_word v u : Word) (x : SlotState) (o : Binary) (i j : Instr)
          → t ≡ token (To.Instr f (g a) Left) u → instr_at P a ≡ Some i → i.op ≡ Apply2 o
          → instr_at Q (g a) ≡ Some j → is_pair j.op ≡ true → IsPair P Q g h a i j
          → c.meant ≡ token (To.Instr f a first_port) first_word ∷ token (To.Instr f a second_port) second_word ∷ []
          → Stands P Q g h t (token (To.Instr f a first_port) first_word ∷ token (To.Instr f a second_port) second_word ∷ [])
          → IsPermutation (meant_in V.clumps) (token (To.Instr f a first_port) first_word ∷ token (To.Instr f a second_port) second_word ∷ meant_in others)
          → V.old.slots f i.slot ≡ Empty → meets P record { frame = f; ip = a } i Empty first_port first_word ≡ Becomes x []
          → meets P record { frame = f; ip = a } i x second_port second_word ≡ Becomes Empty (to_all record { frame = f; ip = a } v i)
          → IsValue v → ev.made ≡ to_all record { frame = f; ip = g a } (ip_word h v) j → after.store ≡ m.store → seeks_credit (instr_at Q (g a)) ≡ false → Next
      at_pair c same others K rest f a first_port second_port first_word second_word v u x o i j is at op to two pair one stands takes free waits joins
          val makes stays off =
          let seat : Point = record { frame = f; ip = a } in
          let none = pair_none j.op two in
          let first_token : Token = token (To.Instr f a first_port) first_word in
          let second_token : Token = token (To.Instr f a second_port) second_word in
          let old_made : List Token = to_all seat v i in
          let leads : Clumped P Q g h (to_all record { frame = f; ip = g a } (ip_word h v) j) old_made = (pair.all.made f v).value val in
          let stood : Clumped P Q g h ev.made old_made = subst (λ (l : List Token). Clumped P Q g h l old_made) (sym makes) leads in
          let reached : Past V.old (old_made ++ meant_in others) (sums_after (first_token ∷ second_token ∷ [])) =
          again p q g h S.answers wired orderly inputs z start V.old _ _ (with_spent turned (first_token ∷ second_token ∷ []))
          (sums_after (first_token ∷ second_token ∷ []))
          (both_meet p q g h S.answers wired orderly inputs z start f a i o at op V.old (meant_in V.clumps) (meant_in others) turned
          (turn_by (pair_apart p q S t f a u j is to two)) once first_port second_port first_word second_word x old_made takes free waits joins
          (λ k b r last U. told_now p q S ss m.store t m.pool ev.made ev.rest after ev.takes ev.leaves k b r
          (λ F x W. pair_used p q S f a second_port second_word (ip_word h v) i j o ev.made old_made after last t at op to two
          (ap (λ (t : Token). t.to) is) makes pair.all k b r x W U)))
          (IsPermutation-refl _) (quiet_sums f (g a) u j (first_token ∷ second_token ∷ []) is to none off) in
          made_next others rest V.old (first_token ∷ second_token ∷ []) old_made stood reached (stays ∙ V.store) record {
            tokens = first_token ∷ second_token ∷ [];
            stands = stands;
            were =
                λ x k. in_met x (Contains-permutation _ _ x (IsPermutation-sym _ _ takes)
                (Contains-append_left (first_token ∷ second_token ∷ []) (meant_in others) x k));
          } (λ cl. subst (λ (l : List Token). Known (taken events ++ t ∷ []) (taken V.part.done ++ l) (cl ++ others)) one
          (counted_event P Q g h S.apart S.pairs_apart (taken events) (taken V.part.done) c cl others t same K))
          (λ y inside k b r goes fresh. sent_arc p q S f (g a) Left (ip_word h v) j ev.made after t to none
          (ap (λ (t : Token). t.to) is) makes y inside k b r goes)

      at_right : (c : C) → c.seen ≡ t → (others : List C) → Known (taken events) (taken V.part.done) (c ∷ others) → seen_in others ≡ ev.rest
          → (f a : ℕ) (w : Word) (o : Binary) (n : ℤ) (i j : Instr) → t ≡ token (To.Instr f (g a) Left) (ip_word h w) → instr_at P a ≡ Some i → i.op ≡ Apply2 o
          → instr_at Q (g a) ≡ Some j → j.op ≡ Apply2Right o n → c.meant ≡ token (To.Instr f a Left) w ∷ token (To.Instr f a Right) (Word.Val (Int n)) ∷ []
          → Fresh P Q h (g a)
          → IsPermutation (meant_in V.clumps) (token (To.Instr f a Left) w ∷ token (To.Instr f a Right) (Word.Val (Int n)) ∷ meant_in others) → Next
      at_right c same others K rest f a w o n i j is at op to new one fresh takes =
          let pair : IsPair P Q g h a i j = S.rights a o n i j at op to new in
          let d = right_does Q f (g a) (ip_word h w) o n j m.store after.store ev.made new (happens_at f (g a) (ip_word h w) j is to) in
          let val : w ≡ Word.Val d.0 = value_back h w d.0 d.1 in
          let lit_word : Word = Word.Val (Int n) in
          let inn : (x : Token) → Contains (token (To.Instr f a Left) w ∷ token (To.Instr f a Right) lit_word ∷ meant_in others) x
          → Contains (meant_in V.clumps) x = λ x c. Contains-permutation _ _ x (IsPermutation-sym _ _ takes) c in
          let beside : List Token = token (To.Instr f a Right) lit_word ∷ meant_in others in
          let free = empty_at p q g h S.answers wired orderly inputs z start f a i o at op V.old (meant_in V.clumps) T R once w lit_word
          (inn (token (To.Instr f a Left) w) (contains_head (token (To.Instr f a Left) w) beside))
          (inn (token (To.Instr f a Right) lit_word)
          (contains_tail (token (To.Instr f a Left) w) beside (token (To.Instr f a Right) lit_word)
          (contains_head (token (To.Instr f a Right) lit_word) (meant_in others)))) in
          let res : Word = Word.Val (apply2 o d.0 (Int n) i.origin) in
          let join : meets P record { frame = f; ip = a } i (Slot.Left w) Right lit_word ≡ Becomes Empty (to_all record { frame = f; ip = a } res i) =
          ap (λ (y : Op). fires Empty (fire_two P record { frame = f; ip = a } i y w lit_word)) op
          ∙ ap (λ (y : Word). fires Empty (fire_two P record { frame = f; ip = a } i (Apply2 o) y lit_word)) val in
          at_pair c same others K rest f a Left Right w lit_word res (ip_word h w) (Slot.Left w) o i j is at op to (ap is_pair new)
          pair one (right t _ f a w o n i j is at op to new refl fresh) takes free refl join
          (apply2 o d.0 (Int n) i.origin, refl)
          (d.2 ∙ ap (λ (y : Origin). to_all record { frame = f; ip = g a } (Word.Val (apply2 o d.0 (Int n) y)) j) pair.origin) d.3
          (no_seek (instr_at Q (g a)) j (Apply2Right o n) to new refl)

      at_left : (c : C) → c.seen ≡ t → (others : List C) → Known (taken events) (taken V.part.done) (c ∷ others) → seen_in others ≡ ev.rest
          → (f a : ℕ) (w : Word) (o : Binary) (n : ℤ) (i j : Instr) → t ≡ token (To.Instr f (g a) Left) (ip_word h w) → instr_at P a ≡ Some i → i.op ≡ Apply2 o
          → instr_at Q (g a) ≡ Some j → j.op ≡ Apply2Left o n → c.meant ≡ token (To.Instr f a Right) w ∷ token (To.Instr f a Left) (Word.Val (Int n)) ∷ []
          → Fresh P Q h (g a)
          → IsPermutation (meant_in V.clumps) (token (To.Instr f a Right) w ∷ token (To.Instr f a Left) (Word.Val (Int n)) ∷ meant_in others) → Next
      at_left c same others K rest f a w o n i j is at op to new one fresh takes =
          let pair : IsPair P Q g h a i j = S.lefts a o n i j at op to new in
          let d = left_does Q f (g a) (ip_word h w) o n j m.store after.store ev.made new (happens_at f (g a) (ip_word h w) j is to) in
          let val : w ≡ Word.Val d.0 = value_back h w d.0 d.1 in
          let lit_word : Word = Word.Val (Int n) in
          let inn : (x : Token) → Contains (token (To.Instr f a Right) w ∷ token (To.Instr f a Left) lit_word ∷ meant_in others) x
          → Contains (meant_in V.clumps) x = λ x c. Contains-permutation _ _ x (IsPermutation-sym _ _ takes) c in
          let beside : List Token = token (To.Instr f a Left) lit_word ∷ meant_in others in
          let free = empty_at p q g h S.answers wired orderly inputs z start f a i o at op V.old (meant_in V.clumps) T R once lit_word w
          (inn (token (To.Instr f a Left) lit_word)
          (contains_tail (token (To.Instr f a Right) w) beside (token (To.Instr f a Left) lit_word)
          (contains_head (token (To.Instr f a Left) lit_word) (meant_in others))))
          (inn (token (To.Instr f a Right) w) (contains_head (token (To.Instr f a Right) w) beside)) in
          let res : Word = Word.Val (apply2 o (Int n) d.0 i.origin) in
          let join : meets P record { frame = f; ip = a } i (Slot.Right w) Left lit_word ≡ Becomes Empty (to_all record { frame = f; ip = a } res i) =
          ap (λ (y : Op). fires Empty (fire_two P record { frame = f; ip = a } i y lit_word w)) op
          ∙ ap (λ (y : Word). fires Empty (fire_two P record { frame = f; ip = a } i (Apply2 o) lit_word y)) val in
          at_pair c same others K rest f a Right Left w lit_word res (ip_word h w) (Slot.Right w) o i j is at op to (ap is_pair new)
          pair one (left t _ f a w o n i j is at op to new refl fresh) takes free refl join
          (apply2 o (Int n) d.0 i.origin, refl)
          (d.2 ∙ ap (λ (y : Origin). to_all record { frame = f; ip = g a } (Word.Val (apply2 o (Int n) d.0 y)) j) pair.origin) d.3
          (no_seek (instr_at Q (g a)) j (Apply2Left o n) to new refl)

      at_clump : (c : C) → c.seen ≡ t → (others : List C) → Known (taken events) (taken V.part.done) (c ∷ others) → seen_in others ≡ ev.rest
          → (seen : Token) (meant : List Token) → seen ≡ t → meant ≡ c.meant → Stands P Q g h seen meant
          → IsPermutation (meant_in V.clumps) (c.meant ++ meant_in others) → Next
      at_clump c same others K rest seen meant e me (moved s ts u is one fits) takes =
          at_token c same others K rest u.to u.word (sym me ∙ one) fits (sym e ∙ is)
          (subst (λ (l : List Token). IsPermutation (meant_in V.clumps) (l ++ meant_in others)) (sym me ∙ one) takes)
      at_clump c same others K rest seen meant e me (through s ts f ip w v j is at op all d some fresh) takes =
          at_through c same others K rest f ip w v j (sym e ∙ is) at op fresh (subst (StandAll P Q g h (to_all record { frame = f; ip = ip } v j)) me all)
          (subst (Stands P Q g h t) me (through t meant f ip w v j (sym e ∙ is) at op all d some fresh)) takes
      at_clump c same others K rest seen meant e me (right s ts f a w o n i j is at op to new all fresh) takes =
          at_right c same others K rest f a w o n i j (sym e ∙ is) at op to new (sym me ∙ all) fresh
          (subst (λ (l : List Token). IsPermutation (meant_in V.clumps) (l ++ meant_in others)) (sym me ∙ all) takes)
      at_clump c same others K rest seen meant e me (left s ts f a w o n i j is at op to new all fresh) takes =
          at_left c same others K rest f a w o n i j (sym e ∙ is) at op to new (sym me ∙ all) fresh
          (subst (λ (l : List Token). IsPermutation (meant_in V.clumps) (l ++ meant_in others)) (sym me ∙ all) takes)

      pub sim_next : Next
      sim_next =
          let l = first_lifted (λ (c : C). c.seen) V.clumps t ev.rest (IsPermutation-trans _ _ _ (IsPermutation-sym _ _ V.seen) ev.takes) in
          at_clump l.0 l.3 l.1 (counted_perm P Q g h S.apart S.pairs_apart (taken events) (taken V.part.done) V.clumps (l.0 ∷ l.1) l.2 V.counted) l.4 (l.0).seen
          (l.0).meant l.3 refl (l.0).stands (flat_map-IsPermutation (λ (c : C). c.meant) V.clumps (l.0 ∷ l.1) l.2)
