-- A turn of a loop asks for the credit of the next one, and sends it its continuation and its values.
use Rattle.std.proofs.Common.{◌≡◌, ℕ, zero, suc, ◌+◌, ◌<◌, true, false, List, [], ◌∷◌, ◌++◌, map, refl, sym, ap, ◌∙◌, subst, inl, inr, ◌⊎◌, arith, true≢false}
use Rattle.std.proofs.Common.{Some, ltb-true, lt-ltb}
use Rattle.std.specs.Prelude.{IsPermutation, Contains}
use Rattle.std.proofs.lemmas.List.Elements.{Contains-append_left}
use Rattle.lemmas.proofs.Permutations.{permutation_same}
use Rattle.lemmas.proofs.Contains.{contains_head, contains_none}
use Rattle.lemmas.proofs.Bools.{and_false}
use Rattle.tags.specs.declared.token.Port.{Port}
use Rattle.tags.specs.declared.token.Port.TheVariants.{Left, Right}
use Rattle.tags.specs.declared.token.Cont.{Cont}
use Rattle.tags.specs.declared.token.Word.{Word}
use Rattle.tags.specs.declared.token.To.{To}
use Rattle.tags.specs.declared.token.Token.{Token}
use Rattle.tags.specs.declared.slot.SlotState.TheVariants.{Empty}
use Rattle.semantics.specs.declared.program.Dest.{Dest}
use Rattle.semantics.specs.declared.program.Op.{Op}
use Rattle.semantics.specs.declared.program.Op.TheVariants as Ops
use Rattle.semantics.specs.Meaning.{Context, Turned}
use Rattle.semantics.specs.Program.{Instr, first_of}
use Rattle.semantics.specs.Rule.{token, fires, fire_two, to_all, answer_to}
use Rattle.semantics.specs.Rule as Rule
use Rattle.semantics.specs.Machine.{Fires, with_slot}
use Rattle.semantics.specs.Arcs.{UsesArc, UsesBy}
use Rattle.law_fresh_frames.specs.Alike.{plain_dests}
use Rattle.law_fresh_frames.proofs.FreshArcs.{arc_used}
use Rattle.law_confluence.specs.EquationsContexts.{same_context}
use Rattle.law_net.specs.ContextsParts.{Part, Asker, NextFramer, NextSender, Giver, Taker, Drainer, Landing, Inlet, inlet, Note, FrameOf, BackTo, signal, Item}
use Rattle.law_net.specs.ContextsParts.{item, each}
use Rattle.law_net.specs.ContextsBlocks.{side, result_count}
use Rattle.law_net.specs.Contexts.{block_in, code_in, wiring_in, IsContext}
use Rattle.law_net.specs.ContextsWires.{leads_to, ip_and_port}
use Rattle.law_net.specs.ContextsFirings.{Config, frame_at, next_entry}
use Rattle.law_net.specs.ContextsMirror.{frame_of, ip_of, word_of, token_of, slot_of, named_by, is_in_cell, is_instr, is_entry_part, is_item_at, items_at}
use Rattle.law_net.specs.ContextsMirror.{granted_of, WasUsed}
use Rattle.law_net.proofs.WiredInvoked.{loop_invoked, is_turned, code_at}
use Rattle.law_net.proofs.RunsLands.{one_dest}
use Rattle.law_machine_refines_net.specs.MovesCases.{Taking, IsFree, net_of, Followed}
use Rattle.law_machine_refines_net.proofs.MovesLists.{contains_one, count_none}
use Rattle.law_machine_refines_net.proofs.MovesParts.{is_credit}
use Rattle.law_machine_refines_net.proofs.MovesStill.{to_instr}
use Rattle.law_machine_refines_net.proofs.MovesLoops.{Books}
use Rattle.law_machine_refines_net.proofs.MovesBalanced.{WasThere, UsedNow}
use Rattle.law_machine_refines_net.proofs.MovesFitted.{code, fits, framed, there, among, taken_here}
use Rattle.law_machine_refines_net.proofs.SendsRules.{at, instr, stood, goes_to, free_of, grants, releases}
use Rattle.law_machine_refines_net.proofs.SendsPairs as Pairs
use Rattle.law_machine_refines_net.proofs.SendsPairs.{Second, left_here, right_here}
use Rattle.law_machine_refines_net.proofs.Sends.{Wire}
use Rattle.law_machine_refines_net.proofs.SendsAlong.{both, all_lead, pair_follows}
use Rattle.law_machine_refines_net.proofs.SendsInwards.{meant_at, carried}
use Rattle.law_machine_refines_net.proofs.OutwardsChildren.{turn_landing, entry_at, line_at}
use Rattle.law_machine_refines_net.proofs.OutwardsPassed.{Sent, free_counted, none_released}
use Rattle.law_machine_refines_net.proofs.OutwardsCrossing.{crosses_follow}
use Rattle.law_machine_refines_net.proofs.OutwardsTurning.{asks_granted, none_drains}

-- WHERE the next turn's words arrive
next_calm : (j : ℕ) → is_credit (next_entry j).part ≡ false
next_calm zero = refl
next_calm (suc j) = refl

next_held : (j : ℕ) → is_in_cell (next_entry j).part ≡ false
next_held zero = refl
next_held (suc j) = refl

next_instr : (j : ℕ) → is_instr (next_entry j).part ≡ true
next_instr zero = refl
next_instr (suc j) = refl

next_left : (j : ℕ) → (next_entry j).port ≡ Left
next_left zero = refl
next_left (suc j) = refl

module _ (s : Taking) (d : Context) (n i : ℕ) (in_turn : s.i.context ≡ Turned d n i) where
  abbrev net : Config
  net = net_of s

  abbrev c : Context
  c = Turned d n i

  abbrev after : Context
  after = Turned d n (i + 1)

  abbrev W : Note → Word
  W k = word_of s.fl s.p s.w net.fired k

  abbrev F : Context → ℕ
  F x = frame_of s.fl net.fired x

  abbrev inputs : ℕ
  inputs = (block_in s.fl (Turned d n i)).inputs

  turned : IsContext s.fl (Turned d n i)
  turned = subst (IsContext s.fl) in_turn (fits s s.i (taken_here s)).is_context

  is_after : IsContext s.fl (Turned d n (i + 1))
  is_after = is_turned s.fl s.p s.w s.good d n (i + 1) turned.0 turned.1

  -- A VALUE, or the continuation, for the next turn
  module _ (j : ℕ) (e : s.i.inlet.part ≡ NextSender j) where
    abbrev l : Taking
    l = meant_at s (Turned d n i) (NextSender j) in_turn e

    abbrev is_sender : is_instr (NextSender j) ≡ true
    is_sender = Pairs.is l refl refl

    abbrev ins : Instr
    ins = instr l is_sender

    within : j < inputs + 1
    within = ltb-true j (inputs + 1) (there l l.i (taken_here l) is_sender)

    goes_at : (j : ℕ) → j < inputs + 1 → (first_of s.p.program (code_in s.fl s.w c) + j ≡ ip_of s.fl s.p s.w after (next_entry j).part)
        × (is_entry_part (block_in s.fl after) (next_entry j).part ≡ true)
    goes_at zero h = let a = entry_at s.fl s.p s.w s.good after is_after in (omega (arith, a), refl)
    goes_at (suc j) h = let a = line_at s.fl s.p s.w s.good after j is_after (omega (arith, h)) in (omega (arith, a), lt-ltb j inputs (omega (arith, h)))

    free : IsFree l
    free = free_of l is_sender (ap grants (stood l is_sender).is.op) (ap releases (stood l is_sender).is.op)

    module _ (sec : Second l refl refl) where
      abbrev left_item : Item
      left_item = item c (inlet (NextSender j) Left 0) sec.left

      abbrev right_item : Item
      right_item = item c (inlet (NextSender j) Right 0) sec.right

      abbrev sent : Item
      sent = item after (next_entry j) sec.right

      abbrev sent_token : Token
      sent_token = token (To.Instr (F after) (first_of s.p.program (code_in s.fl s.w c) + j) Left) (W sec.right)

      left_is : sec.left ≡ FrameOf after
      left_is = carried l left_item (left_here l refl refl sec)

      has_frame : (g : ℕ) × (frame_at s.fl net.fired after ≡ Some g)
      has_frame = s.keeps.tracks.stands.named left_item after (among l left_item (left_here l refl refl sec)) (ap named_by left_is)

      of_sent : (P : Item → Type 0) → P sent → (x : Item) → Contains (sent ∷ []) x → P x
      of_sent P k x h = subst P (contains_one sent x h) k

      calm : (x : Item) → Contains (sent ∷ []) x → is_credit x.inlet.part ≡ false
      calm = of_sent (λ (x : Item). is_credit x.inlet.part ≡ false) (next_calm j)

      abbrev Sends : Word → Type 0
      Sends k =
          Fires s.m.store (F c) (Some (slot_of s.fl s.w l.i))
          (fires Empty (fire_two s.p.program (at l is_sender) ins (Ops.Send (code_in s.fl s.w c) j) k (W sec.right))) s.event.made s.new.store

      did : (s.event.made ≡ sent_token ∷ to_all (at l is_sender) Rule.signal ins) × (s.new.store ≡ with_slot s.m.store (F c) (slot_of s.fl s.w l.i) Empty)
      did = subst (λ (k : Note). Sends (W k)) left_is (both l refl refl refl sec (Ops.Send (code_in s.fl s.w c) j) refl)

      token_is : sent_token ≡ token_of s.fl s.p s.w net.fired sent
      token_is =
          (λ t. token (To.Instr (F after) ((goes_at j within).0 t) (sym (next_left j) t)) (W sec.right))
          ∙ ap (λ (to : To). token to (W sec.right)) (sym (to_instr s.fl s.p s.w net.fired sent (next_entry j).part (next_instr j)))

      sends_on : Followed s
      sends_on = crosses_follow l refl refl refl sec (record {
        out = sent ∷ [];
        out_made = sent_token ∷ [];
        out_is = λ t. token_is t ∷ [];
        out_sent = of_sent (Sent l) (record {
          held = next_held j;
          known = has_frame;
          named = λ y k. s.keeps.tracks.stands.named right_item y (among l right_item (right_here l refl refl sec)) k;
          asked = λ y z k. inl (right_item, right_here l refl refl sec, refl);
          caused = λ a k. absurd (true≢false (sym (goes_at j within).1 ∙ k));
        });
        counted = free_counted l free (sent ∷ []) calm;
        makes_is = refl;
        dests = ins.firsts ++ ins.seconds;
        leads = all_lead l refl is_sender refl refl;
        plain_dest = λ x h. subst (λ (o : Op). Contains (plain_dests ins o) x) (sym (stood l is_sender).is.op) h;
        did = did;
      })

    pub next_sends : Followed s
    next_sends = pair_follows l refl refl refl sends_on

  -- THE CREDIT of the next turn
  module _ (e : s.i.inlet.part ≡ Asker) where
    abbrev a : Taking
    a = meant_at s (Turned d n i) Asker in_turn e

    abbrev is_asker : is_instr Asker ≡ true
    is_asker = Pairs.is a refl refl

    abbrev ask : Instr
    ask = instr a is_asker

    abbrev place : Part → ℕ
    place r = (wiring_in s.fl s.w c).place r

    abbrev base : ℕ
    base = ip_of s.fl s.p s.w d (Landing n 0)

    asker_wire : Wire a is_asker false ≡ []
    asker_wire = (code a a.i (taken_here a)).lawful.fed.sides (side Asker false) (inr refl)

    dest : (x : Dest) × (ask.firsts ≡ x ∷ []) × (leads_to (place Asker) x ≡ (place NextFramer, Left))
    dest = one_dest ask.firsts (leads_to (place Asker)) (place NextFramer, Left)
        (subst (λ (x : List Inlet). IsPermutation (map (leads_to (place Asker)) ask.firsts)
        (map (ip_and_port (wiring_in s.fl s.w c)) (inlet NextFramer Left 0 ∷ x))) asker_wire (stood a is_asker).is.firsts)

    far : ip_of s.fl s.p s.w c Asker + dest.0.ahead ≡ ip_of s.fl s.p s.w c NextFramer
    far = let x : place Asker + dest.0.ahead ≡ place NextFramer = ap (λ (q : ℕ × Port). q.0) dest.2 in omega (arith, x)

    port : dest.0.port ≡ Left
    port = ap (λ (q : ℕ × Port). q.1) dest.2

    answers_at : answer_to (at a is_asker) ask.firsts ≡ Cont.Frame (F c) (ip_of s.fl s.p s.w c NextFramer) Left
    answers_at = ap (answer_to (at a is_asker)) dest.1 ∙ (λ t. Cont.Frame (F c) (far t) (port t))

    count_is : result_count s.fl (block_in s.fl d) n ≡ inputs
    count_is = (loop_invoked s.fl s.p s.w s.good d n i turned.0 turned.1).1

    taker_at : base + (inputs + 1) ≡ ip_of s.fl s.p s.w d (Taker n)
    taker_at =
        let x = (code_at s.fl s.p s.w s.good d turned.0).laid.credits n turned.1 in let y = x.0 in let z = x.1 in let k = count_is in
        omega (arith, y, z, k)

    abbrev asked : Item
    asked = item d (inlet (Taker n) Left (i + 1)) (BackTo c (inlet NextFramer Left 0))

    abbrev asked_token : Token
    asked_token = token (To.Instr (F d) (base + (inputs + 1)) Left) (Word.Back (answer_to (at a is_asker) ask.firsts))

    of_asked : (P : Item → Type 0) → P asked → (x : Item) → Contains (asked ∷ []) x → P x
    of_asked P k x h = subst P (contains_one asked x h) k

    asker_free : IsFree a
    asker_free = free_of a is_asker (ap grants (stood a is_asker).is.op) (ap releases (stood a is_asker).is.op)

    asker_books : (x : Context) (m : ℕ) → Books a (asked ∷ []) x m
    asker_books x m = record {
      takes = λ j h b g.
          let same = contains_one asked j h in
          let y : Taker n ≡ Taker m = ap (λ (j : Item). j.inlet.part) same ∙ g in let z : n ≡ m = cc in let o : d ≡ x = ap (λ (j : Item). j.context) same ∙ b in
          let w : i + 1 ≡ j.inlet.way = ap (λ (j : Item). j.inlet.way) same in (
            sym w ∙ asks_granted s d n i in_turn e ∙ (λ t. granted_of net (o t) (z t)),
            sym (λ t. items_at (o t) (Drainer (z t)) (net.pending ++ net.waiting)) ∙ none_drains s d n i in_turn e,
          );
      drains = λ j h b g. let y : Taker n ≡ Drainer m = ap (λ (j : Item). j.inlet.part) (contains_one asked j h) ∙ g in absurd (cc);
      gives = λ j h b g. let y : Taker n ≡ Giver m = ap (λ (j : Item). j.inlet.part) (contains_one asked j h) ∙ g in absurd (cc);
    }

    no_turn : (x : Context) (m : ℕ) → items_at x (Giver m) (asked ∷ []) ≡ 0
    no_turn x m = count_none (is_item_at x (Giver m)) (asked ∷ []) (of_asked (λ (j : Item). is_item_at x (Giver m) j ≡ false) (and_false (same_context d x)))

    module _ (sec : Second a refl refl) where
      abbrev cont_item : Item
      cont_item = item c (inlet Asker Left 0) sec.left

      cont_is : sec.left ≡ BackTo d (inlet (Landing n 0) Left 0)
      cont_is = carried a cont_item (left_here a refl refl sec)

      owner_frame : (g : ℕ) × (frame_at s.fl net.fired d ≡ Some g)
      owner_frame = s.keeps.tracks.stands.named cont_item d (among a cont_item (left_here a refl refl sec)) (ap named_by cont_is)

      was_used : WasUsed s.p s.q.steps (F d) (ip_of s.fl s.p s.w d (Taker n)) Left
      was_used = let x = turn_landing s.fl s.p s.w s.good d n i turned in
          subst (λ ip. WasUsed s.p s.q.steps (F d) ip Left) taker_at
          (s.keeps.tracks.asked cont_item d (inlet (Landing n 0) Left 0) (inputs + 1) (left_here a refl refl sec) cont_is (omega (arith, x)))

      abbrev Asks : Word → Type 0
      Asks k =
          Fires s.m.store (F c) (Some (slot_of s.fl s.w a.i))
          (fires Empty (fire_two s.p.program (at a is_asker) ask (Ops.Ask (inputs + 1)) k (W sec.right))) s.event.made s.new.store

      asks : (s.event.made ≡ asked_token ∷ []) × (s.new.store ≡ with_slot s.m.store (F c) (slot_of s.fl s.w a.i) Empty)
      asks = subst (λ (k : Note). Asks (W k)) cont_is (both a refl refl refl sec (Ops.Ask (inputs + 1)) refl)

      -- the arc of the answer
      used_now : UsedNow a c (inlet NextFramer Left 0)
      used_now m low =
          let k = stood a is_asker in let o = k.is.op in let x = dest.0 in
          let inside : Contains (plain_dests ask ask.op) x =
          subst (λ (o : Op). Contains (plain_dests ask o) x) (sym o)
          (Contains-append_left ask.firsts ask.seconds x (subst (λ (ds : List Dest). Contains ds x) (sym dest.1) (contains_head x []))) in
          let by : UsesBy s.p (F c) (ip_of s.fl s.p s.w c Asker + x.ahead) x.port ask ask.op asked_token s.new =
          subst (λ (o : Op). UsesBy s.p (F c) (ip_of s.fl s.p s.w c Asker + x.ahead) x.port ask o asked_token s.new) (sym o)
          (inr (ap (λ (ds : List Dest). Word.Back (answer_to (at a is_asker) ds)) dest.1)) in
          let u = arc_used s.p (F c) (ip_of s.fl s.p s.w c Asker) s.i.inlet.port ask k.at x inside s.t s.event.made s.new asked_token (goes_to a is_asker)
          (subst (λ ts. Contains ts asked_token) (sym asks.0) (contains_head asked_token [])) by in
          let z : ip_of s.fl s.p s.w c NextFramer ≡ ip_of s.fl s.p s.w c NextFramer + m = omega (arith, low) in
          subst (λ ip. UsesArc s.p (F c) ip Left s.t s.event.made s.new) (far ∙ z)
          (subst (λ q. UsesArc s.p (F c) (ip_of s.fl s.p s.w c Asker + x.ahead) q s.t s.event.made s.new) port u)

      asked_now : (x : Context) (y : Inlet) → asked.word ≡ BackTo x y → WasThere a asked ⊎ UsedNow a x y
      asked_now x y h =
          let o : c ≡ x = cc in let b : inlet NextFramer Left 0 ≡ y = cc in
          inr (subst (λ (y : Inlet). UsedNow a x y) b (subst (λ (x : Context). UsedNow a x (inlet NextFramer Left 0)) o used_now))

      named_now : (x : Context) → named_by asked.word ≡ Some x → (g : ℕ) × (frame_at s.fl net.fired x ≡ Some g)
      named_now x h = let o : c ≡ x = cc in subst (λ (x : Context). (g : ℕ) × (frame_at s.fl net.fired x ≡ Some g)) o (framed a a.i (taken_here a))

      asks_on : Followed s
      asks_on = crosses_follow a refl refl refl sec (record {
        out = asked ∷ [];
        out_made = asked_token ∷ [];
        out_is = λ t. token (To.Instr (F d) (taker_at t) Left) (Word.Back (answers_at t)) ∷ [];
        out_sent =
            of_asked (Sent a) (record { held = refl; known = owner_frame; named = named_now; asked = asked_now; caused = λ b k. inr was_used });
        counted = record {
          books = λ x m b g. asker_books x m;
          released = λ x m g b h f. asker_free.released g (ip_of s.fl s.p s.w x (Landing m 0)) ∙ sym (no_turn x m);
          releases = none_released a asker_free;
        };
        makes_is = ap (λ ws. asked ∷ each c signal ws) (sym asker_wire);
        dests = [];
        leads = permutation_same _ _ (ap (map (ip_and_port (wiring_in s.fl s.w c))) (sym asker_wire));
        plain_dest = λ x h. absurd (contains_none x h);
        did = asks;
      })

    pub asker_follows : Followed s
    asker_follows = pair_follows a refl refl refl asks_on
