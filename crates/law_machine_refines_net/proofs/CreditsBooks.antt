-- An item at one of the four instructions of a loop's credits: what the machine does with it, and what it counts.
use Rattle.std.proofs.Common.{◌≡◌, ℕ, Bool, true, false, ◌&&◌, List, [], ◌∷◌, ◌++◌, refl, sym, ap, ◌∙◌, subst, arith, Option, Some, ◌==◌, if◌then◌else◌}
use Rattle.std.proofs.Common.{append-nil}
use Rattle.std.specs.Prelude.{IsPermutation, Contains}
use Rattle.std.proofs.lemmas.List.Sorted.{IsPermutation-refl}
use Rattle.lemmas.proofs.Contains.{contains_none}
use Rattle.lemmas.proofs.Permutations.{permutation_same}
use Rattle.tags.specs.declared.token.Port.{Port}
use Rattle.tags.specs.declared.token.Port.TheVariants.{Left}
use Rattle.tags.specs.declared.token.Word.{Word}
use Rattle.tags.specs.declared.token.To.{To}
use Rattle.tags.specs.declared.token.Token.{Token}
use Rattle.tags.specs.declared.slot.SlotState.{SlotState}
use Rattle.semantics.specs.declared.program.Op.{Op}
use Rattle.semantics.specs.Meaning.{Context}
use Rattle.semantics.specs.Program.{Instr, instr_at}
use Rattle.semantics.specs.Rule.{outcome_of, slot_of as uses_of}
use Rattle.semantics.specs.Machine.{Fires as Happening, with_slot, slot_in, slot_used}
use Rattle.semantics.specs.Holders.{Holder, holder_at, holder_of, same_holder}
use Rattle.semantics.specs.Credits.{granted_at, granted_in, granted_by, released_at, released_in, released_by}
use Rattle.law_reuse.proofs.SlotsClaims.{holder_here}
use Rattle.law_net.specs.ContextsParts.{Part, Opener, Item, Firing}
use Rattle.law_net.specs.ContextsBlocks.{is_loop, waits_in, bound_at, op_of}
use Rattle.law_net.specs.Contexts.{block_in, code_in, site_in, wiring_in, or_zero, IsContext}
use Rattle.law_net.specs.ContextsCredits.{Ledger, slot_for}
use Rattle.law_net.specs.ContextsFirings.{Config, takes, makes, frame_at, IsProper}
use Rattle.law_net.specs.ContextsMirror.{frame_of, word_of, only, ledger, KeepsCredits, is_instr}
use Rattle.law_net.proofs.Credits as Credits
use Rattle.law_machine_refines_net.specs.MovesCases.{Taking, net_of, Followed}
use Rattle.law_machine_refines_net.proofs.MovesLists.{one_holds}
use Rattle.law_machine_refines_net.proofs.MovesAccount.{Account, Spares, no_move, item_waits, part_fires, reordered}
use Rattle.law_machine_refines_net.proofs.MovesFitted.{fits, framed, taken_here, lone_port}
use Rattle.law_machine_refines_net.proofs.SendsRules as Rules
use Rattle.law_machine_refines_net.proofs.SendsInwards.{carried_as}
use Rattle.law_machine_refines_net.proofs.CreditsLenders.{IsLender, IsLoops}
use Rattle.law_machine_refines_net.proofs.CreditsLending.{Kind, Lends, lends_follow}

module _ (s : Taking) (n : ℕ) (l : is_loop (block_in s.fl s.i.context) n ≡ true) where
  abbrev pub net : Config
  net = net_of s

  abbrev pub c : Context
  c = s.i.context

  pub con : IsContext s.fl c
  con = (fits s s.i (taken_here s)).is_context

  -- its frame
  abbrev pub g : ℕ
  g = frame_of s.fl net.fired c

  pub at : frame_at s.fl net.fired c ≡ Some g
  at = let k = framed s s.i (taken_here s) in k.1 ∙ ap (λ n. Some n) (sym (ap or_zero k.1))

  abbrev pub book : Ledger
  book = ledger s.fl s.p s.w net c n

  abbrev pub bound : ℕ
  bound = bound_at (block_in s.fl c) n

  abbrev pub own : ℕ
  own = (wiring_in s.fl s.w c).slot (Opener n)

  abbrev pub whose : Holder
  whose = record { block = code_in s.fl s.w c; number = own }

  -- THE INSTRUCTION
  module _ (r : Part) (e : s.i.inlet.part ≡ r) (is : is_instr r ≡ true) (lone : waits_in (block_in s.fl c) r ≡ false)
      (mine : (wiring_in s.fl s.w c).slot r ≡ own) where
    abbrev pub t : Taking
    t = carried_as s r e

    abbrev pub ins : Instr
    ins = Rules.instr t is

    pub on_left : s.i.inlet.port ≡ Left
    on_left = lone_port s.fl c r s.i.inlet.port lone (fits t t.i (taken_here t)).port

    abbrev pub word : Word
    word = word_of s.fl s.p s.w net.fired s.i.word

    module _ (op : Op) (is_op : op_of s.w.variant (site_in s.fl s.w c) r ≡ op) (slotted : (y : Instr) → uses_of y op ≡ Some y.slot) where
      pub op_is : ins.op ≡ op
      op_is = (Rules.stood t is).is.op ∙ is_op

      slot_is : uses_of ins op ≡ Some own
      slot_is = slotted ins ∙ ap (λ q. Some q) ((Rules.stood t is).is.slot ∙ mine)

      state_is : slot_in s.m.store g (Some own) ≡ slot_for bound book
      state_is = Credits.slot_is s.fl s.p s.w s.inputs s.q s.m s.good s.keeps c con n l g at

      -- what results from it
      pub does : Happening s.m.store g (Some own) (outcome_of s.p.program (Rules.at t is) ins op (slot_for bound book) Left word) s.event.made s.new.store
      does =
          let a = subst (λ (o : Op). Happening s.m.store g (uses_of ins o)
          (outcome_of s.p.program (Rules.at t is) ins o (slot_in s.m.store g (uses_of ins o)) s.i.inlet.port word) s.event.made s.new.store) op_is
          (Rules.happens t is) in
          let b = subst (λ (o : Option ℕ). Happening s.m.store g o
          (outcome_of s.p.program (Rules.at t is) ins op (slot_in s.m.store g o) s.i.inlet.port word) s.event.made s.new.store) slot_is a in
          let d = subst (λ (q : Port). Happening s.m.store g (Some own)
          (outcome_of s.p.program (Rules.at t is) ins op (slot_in s.m.store g (Some own)) q word) s.event.made s.new.store) on_left b in
          subst (λ (x : SlotState). Happening s.m.store g (Some own) (outcome_of s.p.program (Rules.at t is) ins op x Left word) s.event.made s.new.store)
          state_is d

      -- what it counts
      pub granted : (f : ℕ) (h : Holder) → granted_at s.p s.p.program f h s.m.store s.t.to
          ≡ (if (g == f) && same_holder h (Some whose) then granted_by op (slot_for bound book) else 0)
      granted f h =
          let place = Rules.place t is in
          let hold : holder_at s.p place ≡ Some whose = holder_here s.p (code_in s.fl s.w c) ((wiring_in s.fl s.w c).place r) ins (Rules.stood t is).stands
          ∙ ap (λ (o : Op). holder_of (code_in s.fl s.w c) (uses_of ins o)) op_is ∙ ap (holder_of (code_in s.fl s.w c)) slot_is in
          ap (λ (x : To). granted_at s.p s.p.program f h s.m.store x) (Rules.goes_to t is)
          ∙ ap (λ (o : Option Holder). if (g == f) && same_holder h o
          then granted_in (instr_at s.p.program place) (slot_in s.m.store g (slot_used (instr_at s.p.program place))) else 0) hold
          ∙ ap (λ (o : Option Instr). if (g == f) && same_holder h (Some whose) then granted_in o (slot_in s.m.store g (slot_used o)) else 0)
          (Rules.stood t is).at
          ∙ ap (λ (o : Op). if (g == f) && same_holder h (Some whose) then granted_by o (slot_in s.m.store g (uses_of ins o)) else 0) op_is
          ∙ ap (λ (o : Option ℕ). if (g == f) && same_holder h (Some whose) then granted_by op (slot_in s.m.store g o) else 0) slot_is
          ∙ ap (λ (x : SlotState). if (g == f) && same_holder h (Some whose) then granted_by op x else 0) state_is

      pub released : ((f base : ℕ) (made : List Token) → released_by op f base made ≡ 0) → (f base : ℕ) → released_at s.p.program f base s.t.to s.event.made ≡ 0
      released none f base =
          let place = Rules.place t is in
          ap (λ (x : To). released_at s.p.program f base x s.event.made) (Rules.goes_to t is)
          ∙ ap (λ (o : Option Instr). released_in o f base s.event.made) (Rules.stood t is).at
          ∙ ap (λ (o : Op). released_by o f base s.event.made) op_is ∙ none f base s.event.made

  -- THE MOVES. It waits
  abbrev pub waited : Config
  waited = record { pending = s.others; waiting = s.i ∷ net.waiting; fired = net.fired }

  -- what waits for its credits
  abbrev pub Lent : Item → Type 0
  Lent = Kind s c con n l g at

  waits_account : IsLoops n s.i.inlet.part → Account s Lent waited [] []
  waits_account mine = item_waits (no_move s Lent) s.i s.others s.perm (refl, mine)

  pub waits_follow : IsLoops n s.i.inlet.part → s.event.made ≡ [] → (state : SlotState) → s.new.store ≡ with_slot s.m.store g own state
      → state ≡ slot_for bound (ledger s.fl s.p s.w waited c n) → KeepsCredits s.fl s.p s.w waited c n
      → ((f : ℕ) (h : Holder) → granted_at s.p s.p.program f h s.m.store s.t.to ≡ (if (g == f) && same_holder h (Some whose) then 0 else 0))
      → ((f base : ℕ) → released_at s.p.program f base s.t.to s.event.made ≡ 0) → Followed s
  waits_follow mine none state store now keeps grants releases = lends_follow s c con n l g at waited [] [] (record {
    account = waits_account mine;
    pending = IsPermutation-refl s.others;
    lenders = λ f h. absurd (contains_none f h);
    quiet = λ j h. absurd (contains_none j h);
    signals = λ j h. absurd (contains_none j h);
    known = λ j h. absurd (contains_none j h);
    caused = λ j h i e. absurd (contains_none j h);
    event = subst (λ x. IsPermutation x []) (sym none) (IsPermutation-refl []);
    state = state;
    store = store;
    slot_now = now;
    keeps = keeps;
    grants = 0;
    granted_now = omega arith;
    granted = grants;
    released = releases;
  })

  -- something fires with it, and with what waits
  module _ (f : Firing) (left : List Item) where
    abbrev pub gone : Config
    gone = record { pending = makes s.fl s.w f ++ s.others; waiting = left; fired = f ∷ net.fired }

    abbrev pub Fired : Type 0
    Fired = Lends s c con n l g at gone (f ∷ []) (makes s.fl s.w f)

    pub then_fires : IsLoops n s.i.inlet.part → IsProper s.fl net.fired f → IsPermutation (s.i ∷ net.waiting) (takes s.fl f ++ left)
        → ((test : Item → Bool) → Spares s Lent test → only test left ≡ only test (s.i ∷ net.waiting)) → Account s Lent gone (f ∷ []) (makes s.fl s.w f)
    then_fires mine proper took spared =
        reordered (part_fires (waits_account mine) f [] s.others (takes s.fl f) left (IsPermutation-refl s.others) took (IsPermutation-refl (takes s.fl f))
        proper spared) (makes s.fl s.w f) (permutation_same _ _ (append-nil (makes s.fl s.w f)))

    pub one_lends : f.context ≡ c → IsLender n f.part → (h : Firing) → Contains (f ∷ []) h → (h.context ≡ c) × IsLender n h.part
    one_lends place lender = one_holds (λ (h : Firing). (h.context ≡ c) × IsLender n h.part) f (place, lender)

    pub fires_follow : Fired → Followed s
    fires_follow v = lends_follow s c con n l g at gone (f ∷ []) (makes s.fl s.w f) v
