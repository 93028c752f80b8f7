-- The end of what was invoked: its frame goes back, and so does a signal to where it was made.
use Rattle.std.proofs.Common.{◌≡◌, ℕ, ◌+◌, ◌<◌, Bool, true, false, List, [], ◌∷◌, ◌++◌, map, refl, sym, ap, ◌∙◌, subst, inl, inr, ◌⊎◌, arith, true≢false, Some}
use Rattle.std.proofs.Common.{eqb-true, eq-eqb, lt-ltb}
use Rattle.std.specs.Prelude.{Contains, count_by}
use Rattle.std.proofs.lemmas.Bool.{and_parts, and_from, or_left, or_right, cases_eq, cases_Bool, false_from_ne_true}
use Rattle.lemmas.proofs.Permutations.{permutation_same}
use Rattle.lemmas.proofs.Contains.{contains_cases, contains_none}
use Rattle.lemmas.proofs.Bools.{and_false}
use Rattle.tags.specs.declared.token.Port.TheVariants.{Left}
use Rattle.tags.specs.declared.token.Word.{Word}
use Rattle.tags.specs.declared.token.To.{To}
use Rattle.tags.specs.declared.token.Token.{Token}
use Rattle.tags.specs.declared.slot.SlotState.TheVariants.{Empty}
use Rattle.semantics.specs.declared.program.Op.TheVariants as Ops
use Rattle.semantics.specs.Meaning.{Context, Called}
use Rattle.semantics.specs.Rule.{token, fires, fire_two}
use Rattle.semantics.specs.Rule as Rule
use Rattle.semantics.specs.Machine.{Fires}
use Rattle.semantics.specs.Orderly.{is_at}
use Rattle.semantics.specs.Credits.{released_at, released_by}
use Rattle.law_confluence.specs.OrdersTotals.{one}
use Rattle.law_confluence.specs.EquationsContexts.{same_context}
use Rattle.law_net.specs.ContextsParts.{Part, End, Giver, CallDone, Landing, Freed, inlet, Note, BackTo, signal, Item, item, each}
use Rattle.law_net.specs.ContextsBlocks.{side, is_call, is_loop, op_of, there_in, result_count}
use Rattle.law_net.specs.Contexts.{block_in, site_in, wiring_in, or_zero, IsContext, return_of}
use Rattle.law_net.specs.ContextsWires.{ip_and_port}
use Rattle.law_net.specs.ContextsFirings.{Config, frame_at, end_back}
use Rattle.law_net.specs.ContextsMirror.{frame_of, ip_of, word_of, slot_of, named_by, row_of, is_in_cell, is_instr, is_item_at, items_at, Mirrors, WasUsed}
use Rattle.law_net.proofs.WiredInvoked.{call_invoked, loop_invoked, not_loop, code_at}
use Rattle.law_net.proofs.WiredNets.{count_total}
use Rattle.law_machine_refines_net.specs.MovesCases.{Taking, net_of, Followed}
use Rattle.law_machine_refines_net.proofs.MovesLists.{contains_one}
use Rattle.law_machine_refines_net.proofs.MovesParts.{is_credit}
use Rattle.law_machine_refines_net.proofs.MovesStill.{to_instr}
use Rattle.law_machine_refines_net.proofs.MovesLoops.{Books, calm_books}
use Rattle.law_machine_refines_net.proofs.MovesFitted.{code, fits, framed, among, taken_here}
use Rattle.law_machine_refines_net.proofs.SendsRules.{at, instr, stood, released_is}
use Rattle.law_machine_refines_net.proofs.SendsPairs as Pairs
use Rattle.law_machine_refines_net.proofs.SendsPairs.{Second, left_here}
use Rattle.law_machine_refines_net.proofs.Sends.{Wire}
use Rattle.law_machine_refines_net.proofs.SendsAlong.{both, pair_follows}
use Rattle.law_machine_refines_net.proofs.SendsInwards.{meant_at, carried}
use Rattle.law_machine_refines_net.proofs.OutwardsReturned.{call_landing}
use Rattle.law_machine_refines_net.proofs.OutwardsCrossing.{crosses_follow}
use Rattle.law_machine_refines_net.proofs.OutwardsPassed.{Sent}

-- a token at a place of a frame
pub at_there : (f ip g jp : ℕ) → is_at f ip Left (To.Instr g jp Left) ≡ true → (g ≡ f) × (jp ≡ ip)
at_there f ip g jp h = let a = and_parts _ _ h in let d = and_parts _ _ a.0 in (eqb-true g f d.0, eqb-true jp ip d.1)

pub at_here : (f ip g jp : ℕ) → g ≡ f → jp ≡ ip → is_at f ip Left (To.Instr g jp Left) ≡ true
at_here f ip g jp a b = and_from _ _ (and_from _ _ (eq-eqb g f a) (eq-eqb jp ip b)) refl

-- AN END, described by the part to which it goes back, and the offset
module _ (s : Taking) (c d : Context) (n o t : ℕ) (q : Part) (in_c : s.i.context ≡ c) (e : s.i.inlet.part ≡ End) where
  abbrev pub last : Taking
  last = meant_at s c End in_c e

  abbrev net : Config
  net = net_of s

  abbrev old : Mirrors s.fl s.p s.w s.m net
  old = s.keeps.tracks.stands

  abbrev is_end : is_instr End ≡ true
  is_end = Pairs.is last refl refl

  abbrev W : Note → Word
  W k = word_of s.fl s.p s.w net.fired k

  abbrev base : ℕ
  base = ip_of s.fl s.p s.w d (Landing n 0)

  abbrev F : Context → ℕ
  F x = frame_of s.fl net.fired x

  abbrev pub goes_back : Item
  goes_back = item d (inlet q Left t) signal

  abbrev pub ending : List Item
  ending = item c (inlet Freed Left 0) signal ∷ goes_back ∷ []

  abbrev end_tokens : List Token
  end_tokens = token (To.Release (F c)) Rule.signal ∷ token (To.Instr (F d) (base + o) Left) Rule.signal ∷ []

  pub record EndsAt : Type 0 where
    pub op_is : op_of s.w.variant (site_in s.fl s.w c) End ≡ Ops.Release o
    pub back : return_of c ≡ BackTo d (inlet (Landing n 0) Left 0)
    pub ends : end_back c ≡ goes_back ∷ []
    pub is_q : is_instr q ≡ true
    pub q_held : is_in_cell q ≡ false
    pub place : base + o ≡ ip_of s.fl s.p s.w d q
    pub low : o < row_of s.fl s.p s.w d (Landing n 0)
    pub books : (x : Context) (m : ℕ) → IsContext s.fl x → is_loop (block_in s.fl x) m ≡ true → Books last ending x m
    -- it counts for the loop to which it goes back
    pub counts : (h : ℕ) → frame_at s.fl net.fired d ≡ Some h → (x : Context) (m g : ℕ) → IsContext s.fl x → is_loop (block_in s.fl x) m ≡ true
        → frame_at s.fl net.fired x ≡ Some g
        → is_at g (ip_of s.fl s.p s.w x (Landing m 0) + o) Left (To.Instr (F d) (base + o) Left) ≡ is_item_at x (Giver m) goes_back

  pub context : IsContext s.fl c
  context = (fits last last.i (taken_here last)).is_context

  pub of_both : (P : Item → Type 0) → P (item c (inlet Freed Left 0) signal) → P goes_back → (x : Item) → Contains ending x → P x
  of_both P a b x h = pick (contains_cases (item c (inlet Freed Left 0) signal) (goes_back ∷ []) x h)
    where
      pick : (item c (inlet Freed Left 0) signal ≡ x) ⊎ Contains (goes_back ∷ []) x → P x
      pick (inl k) = subst P k a
      pick (inr k) = subst P (contains_one goes_back x k) b

  pub calm_ending : is_credit q ≡ false → (x : Item) → Contains ending x → is_credit x.inlet.part ≡ false
  calm_ending k = of_both (λ (x : Item). is_credit x.inlet.part ≡ false) refl k

  no_wire : Wire last is_end false ≡ []
  no_wire = (code last last.i (taken_here last)).lawful.fed.sides (side End false) (inr refl)

  abbrev Ends : Word → Word → Type 0
  Ends x y =
      Fires s.m.store (F c) (Some (slot_of s.fl s.w last.i))
      (fires Empty (fire_two s.p.program (at last is_end) (instr last is_end) (Ops.Release o) x y)) s.event.made s.new.store

  abbrev test : ℕ → ℕ → Token → Bool
  test g b x = is_at g (b + o) Left x.to

  module _ (g : EndsAt) (sec : Second last refl refl) where
    abbrev left_item : Item
    left_item = item c (inlet End Left 0) sec.left

    left_is : sec.left ≡ BackTo d (inlet (Landing n 0) Left 0)
    left_is = carried last left_item (left_here last refl refl sec) ∙ g.back

    has_frame : (h : ℕ) × (frame_at s.fl net.fired d ≡ Some h)
    has_frame = old.named left_item d (among last left_item (left_here last refl refl sec)) (ap named_by left_is)

    was_used : WasUsed s.p s.q.steps (F d) (ip_of s.fl s.p s.w d q) Left
    was_used =
        subst (λ ip. WasUsed s.p s.q.steps (F d) ip Left) g.place
        (s.keeps.tracks.asked left_item d (inlet (Landing n 0) Left 0) o (left_here last refl refl sec) left_is g.low)

    -- HOW MANY TURNS it releases
    module _ (m : s.event.made ≡ end_tokens) where
      counted : (h b : ℕ) → released_at s.p.program h b s.t.to s.event.made ≡ one (is_at h (b + o) Left (To.Instr (F d) (base + o) Left))
      counted h b =
          let a = released_is last is_end h b ∙ ap (λ op. released_by op h b s.event.made) ((stood last is_end).is.op ∙ g.op_is) ∙ ap (count_by (test h b)) m
          ∙ count_total (test h b) end_tokens in omega (arith, a)

      items_counted : (x : Context) (k : ℕ) → items_at x (Giver k) ending ≡ one (is_item_at x (Giver k) goes_back)
      items_counted x k = let a = count_total (is_item_at x (Giver k)) ending in let b = ap one (and_false (same_context c x)) in omega (arith, a, b)

      released : (x : Context) (k h : ℕ) → IsContext s.fl x → is_loop (block_in s.fl x) k ≡ true → frame_at s.fl net.fired x ≡ Some h
          → released_at s.p.program h (ip_of s.fl s.p s.w x (Landing k 0)) s.t.to s.event.made ≡ items_at x (Giver k) ending
      released x k h a l f = counted h (ip_of s.fl s.p s.w x (Landing k 0)) ∙ ap one (g.counts has_frame.0 has_frame.1 x k h a l f) ∙ sym (items_counted x k)

      releases : (h b : ℕ) → 0 < released_at s.p.program h b s.t.to s.event.made → (x : Context) × (frame_at s.fl net.fired x ≡ Some h)
      releases h b some = pick (cases_Bool (is_at h (b + o) Left (To.Instr (F d) (base + o) Left)))
        where
          pick : (is_at h (b + o) Left (To.Instr (F d) (base + o) Left) ≡ true) ⊎ (is_at h (b + o) Left (To.Instr (F d) (base + o) Left) ≡ false)
              → (x : Context) × (frame_at s.fl net.fired x ≡ Some h)
          pick (inl k) = let f = has_frame in (d, f.1 ∙ ap (λ (n : ℕ). Some n) (sym (ap or_zero f.1) ∙ (at_there h (b + o) (F d) (base + o) k).0))
          pick (inr k) = let a = counted h b in let z = ap one k in absurd (omega (arith, some, a, z))

    ends_on : Ends (W (BackTo d (inlet (Landing n 0) Left 0))) (W sec.right) → Followed s
    ends_on m = crosses_follow last refl refl refl sec (record {
      out = ending;
      out_made = end_tokens;
      out_is =
          λ k. token (To.Release (F c)) Rule.signal
          ∷ token ((ap (λ (ip : ℕ). To.Instr (F d) ip Left) g.place ∙ sym (to_instr s.fl s.p s.w net.fired goes_back q g.is_q)) k) Rule.signal ∷ [];
      out_sent =
          of_both (Sent last)
          (record {
            held = refl;
            known = framed last last.i (taken_here last);
            named = λ y k. absurd (cc);
            asked = λ y z k. absurd (cc);
            caused = λ i k. absurd (true≢false (sym i));
          })
          (record { held = g.q_held; known = has_frame; named = λ y k. absurd (cc); asked = λ y z k. absurd (cc); caused = λ i k. inr was_used });
      counted = record { books = g.books; released = released m.0; releases = releases m.0 };
      makes_is = ap (λ (l : List Item). item c (inlet Freed Left 0) signal ∷ l) g.ends ∙ ap (λ l. ending ++ each c signal l) (sym no_wire);
      dests = [];
      leads = permutation_same _ _ (ap (map (ip_and_port (wiring_in s.fl s.w c))) (sym no_wire));
      plain_dest = λ x h. absurd (contains_none x h);
      did = m;
    })

  pub ends_follow : EndsAt → Followed s
  ends_follow g =
      pair_follows last refl refl refl (λ sec. ends_on g sec
      (subst (λ k. Ends (W k) (W sec.right)) (left_is g sec) (both last refl refl refl sec (Ops.Release o) g.op_is)))

-- LANDINGS in one frame are of one context
module _ (s : Taking) (d : Context) (n o g : ℕ) (own : frame_at s.fl (net_of s).fired d ≡ Some g) where
  pub one_landing : (x : Context) (m h : ℕ) → frame_at s.fl (net_of s).fired x ≡ Some h
      → is_at h (ip_of s.fl s.p s.w x (Landing m 0) + o) Left (To.Instr (frame_of s.fl (net_of s).fired d) (ip_of s.fl s.p s.w d (Landing n 0) + o) Left) ≡ true
      → (x ≡ d) × ((wiring_in s.fl s.w d).place (Landing n 0) ≡ (wiring_in s.fl s.w d).place (Landing m 0))
  one_landing x m h f k =
      let a = at_there h (ip_of s.fl s.p s.w x (Landing m 0) + o) (frame_of s.fl (net_of s).fired d) (ip_of s.fl s.p s.w d (Landing n 0) + o) k in
      let same : g ≡ h = sym (ap or_zero own) ∙ a.0 in
      let e = s.keeps.tracks.stands.apart x d g (f ∙ ap (λ (n : ℕ). Some n) (sym same)) own in
      let ip : ip_of s.fl s.p s.w x (Landing m 0) ≡ ip_of s.fl s.p s.w d (Landing m 0) = ap (λ (x : Context). ip_of s.fl s.p s.w x (Landing m 0)) e in
      let b = a.1 in (e, omega (arith, ip, b))

  -- a loop has a landing
  pub loop_lands : (m : ℕ) → IsContext s.fl d → is_loop (block_in s.fl d) m ≡ true
      → there_in s.fl (site_in s.fl s.w d) (wiring_in s.fl s.w d) (Landing m 0) ≡ true
  loop_lands m h l =
      let i = loop_invoked s.fl s.p s.w s.good d m 0 h l in let count = i.1 in let some = i.0.some_input in
      and_from _ _ (or_right (is_call (block_in s.fl d) m) (is_loop (block_in s.fl d) m) l)
      (lt-ltb 0 (result_count s.fl (block_in s.fl d) m) (omega (arith, count, some)))

-- THE END OF A CALL
module _ (s : Taking) (d : Context) (n : ℕ) (in_call : s.i.context ≡ Called d n) (e : s.i.inlet.part ≡ End) where
  abbrev outputs : ℕ
  outputs = (block_in s.fl (Called d n)).outputs

  called : IsContext s.fl (Called d n)
  called = context s (Called d n) d n outputs 0 (CallDone n) in_call e

  count_is : result_count s.fl (block_in s.fl d) n ≡ outputs
  count_is = (call_invoked s.fl s.p s.w s.good d n called.0 called.1).1

  done_at : (wiring_in s.fl s.w d).place (CallDone n) ≡ (wiring_in s.fl s.w d).place (Landing n 0) + outputs
  done_at = let a = (code_at s.fl s.p s.w s.good d called.0).laid.call_done n called.1 in let b = count_is in omega (arith, a, b)

  -- no loop lands there
  no_loop_there : (m : ℕ) → is_loop (block_in s.fl d) m ≡ true → there_in s.fl (site_in s.fl s.w d) (wiring_in s.fl s.w d) (Landing m 0) ≡ true
      → (wiring_in s.fl s.w d).place (Landing n 0) ≡ (wiring_in s.fl s.w d).place (Landing m 0) → ⊥
  no_loop_there m l there same = pick (cases_eq outputs 0)
    where
      pick : (outputs ≡ 0) ⊎ (outputs ≡ 0 → ⊥) → ⊥
      pick (inl z) =
          let a = done_at in let k = (code_at s.fl s.p s.w s.good d called.0).laid.apart (CallDone n) (Landing m 0) called.1 there
          (omega (arith, a, z, same)) in absurd (cc)
      pick (inr x) =
          let c = count_is in
          let mine = and_from _ _ (or_left (is_call (block_in s.fl d) n) (is_loop (block_in s.fl d) n) called.1)
          (lt-ltb 0 (result_count s.fl (block_in s.fl d) n) (omega (arith, c, x))) in
          let k = (code_at s.fl s.p s.w s.good d called.0).laid.apart (Landing n 0) (Landing m 0) mine there same in let z : n ≡ m = cc in
          true≢false (sym l ∙ ap (is_loop (block_in s.fl d)) (sym z) ∙ not_loop (block_in s.fl d) n called.1)

  pub call_ends : Followed s
  call_ends = ends_follow s (Called d n) d n outputs 0 (CallDone n) in_call e (record {
    op_is = refl;
    back = refl;
    ends = refl;
    is_q = refl;
    q_held = refl;
    place = (let a = done_at in omega (arith, a));
    low = (let a = call_landing s.fl s.p s.w s.good d n called in omega (arith, a));
    books =
        λ x m a b. calm_books (last s (Called d n) d n outputs 0 (CallDone n) in_call e) (ending s (Called d n) d n outputs 0 (CallDone n) in_call e)
        (calm_ending s (Called d n) d n outputs 0 (CallDone n) in_call e refl) x m;
    counts = λ h own x m g a l f. false_from_ne_true _ (λ k. counts h own x m g l f k) ∙ sym (and_false (same_context d x));
  })
    where
      counts : (h : ℕ) → frame_at s.fl (net_of s).fired d ≡ Some h → (x : Context) (m g : ℕ) → is_loop (block_in s.fl x) m ≡ true
          → frame_at s.fl (net_of s).fired x ≡ Some g
          → is_at g (ip_of s.fl s.p s.w x (Landing m 0) + outputs) Left
          (To.Instr (frame_of s.fl (net_of s).fired d) (ip_of s.fl s.p s.w d (Landing n 0) + outputs) Left) ≡ true → ⊥
      counts h own x m g l f k =
          let a = one_landing s d n outputs h own x m g f k in let loop = subst (λ (x : Context). is_loop (block_in s.fl x) m ≡ true) a.0 l in
          no_loop_there m loop (loop_lands s d n outputs h own m called.0 loop) a.1
