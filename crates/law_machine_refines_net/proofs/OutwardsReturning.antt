-- What was invoked returns a value to the landing of where it was made.
use Rattle.std.proofs.Common.{◌≡◌, ℕ, ◌+◌, ◌<◌, Bool, true, false, ◌&&◌, [], ◌∷◌, ◌++◌, sym, ap, ◌∙◌, subst, inr, Some, None}
use Rattle.std.specs.Prelude.{Contains}
use Rattle.lemmas.proofs.Bools.{and_false}
use Rattle.tags.specs.declared.value.Value.{Value}
use Rattle.tags.specs.declared.token.Port.TheVariants.{Left, Right}
use Rattle.tags.specs.declared.token.Word.{Word}
use Rattle.tags.specs.declared.token.To.{To}
use Rattle.tags.specs.declared.slot.SlotState.TheVariants.{Empty}
use Rattle.semantics.specs.declared.program.Op.{Op}
use Rattle.semantics.specs.declared.program.Op.TheVariants as Ops
use Rattle.semantics.specs.Meaning.{Context}
use Rattle.semantics.specs.Rule.{token, fires, fire_two}
use Rattle.semantics.specs.Machine.{Fires}
use Rattle.law_fresh_frames.specs.Alike.{plain_dests}
use Rattle.law_confluence.specs.EquationsContexts.{same_context}
use Rattle.law_net.specs.ContextsParts.{Part, Giver, Landing, inlet, Note, Datum, BackTo, signal, Item, item, each, same_part}
use Rattle.law_net.specs.ContextsBlocks.{waits_in, is_switch, op_of}
use Rattle.law_net.specs.Contexts.{block_in, site_in}
use Rattle.law_net.specs.ContextsWires.{answered_at}
use Rattle.law_net.specs.ContextsFirings.{Config, makes, frame_at}
use Rattle.law_net.specs.ContextsLaws.{WordFits}
use Rattle.law_net.specs.ContextsMirror.{frame_of, ip_of, word_of, slot_of, named_by, row_of, is_in_cell, is_instr, is_item_at, items_at, WasUsed}
use Rattle.law_machine_refines_net.specs.MovesCases.{Taking, IsFree, net_of, Followed, is_still}
use Rattle.law_machine_refines_net.proofs.MovesLists.{contains_one, count_none}
use Rattle.law_machine_refines_net.proofs.MovesStill.{to_instr}
use Rattle.law_machine_refines_net.proofs.MovesLoops.{Books}
use Rattle.law_machine_refines_net.proofs.MovesFitted.{among, is_plain_way}
use Rattle.law_machine_refines_net.proofs.SendsRules.{at, instr, stood, free_of, dyadic_grants, releases}
use Rattle.law_machine_refines_net.proofs.SendsPairs as Pairs
use Rattle.law_machine_refines_net.proofs.SendsPairs.{Second, dyadic, left_here, right_here}
use Rattle.law_machine_refines_net.proofs.Sends.{Wire, firing_of}
use Rattle.law_machine_refines_net.proofs.SendsAlong.{both, all_lead, pair_follows}
use Rattle.law_machine_refines_net.proofs.SendsInwards.{meant_at, carried}
use Rattle.law_machine_refines_net.proofs.OutwardsPassed.{Sent, none_released}
use Rattle.law_machine_refines_net.proofs.OutwardsCrossing.{crosses_follow}

-- A RETURN, described by the part to which it goes back, and the offset
module _ (s : Taking) (r : Part) (c d : Context) (n o t : ℕ) (q : Part) (in_c : s.i.context ≡ c) (e : s.i.inlet.part ≡ r)
    (still : is_still r ≡ true) (two : waits_in (block_in s.fl c) r ≡ true) (plain : is_plain_way r ≡ true) where
  abbrev pub back : Taking
  back = meant_at s c r in_c e

  abbrev net : Config
  net = net_of s

  abbrev is_return : is_instr r ≡ true
  is_return = Pairs.is back two plain

  abbrev W : Note → Word
  W k = word_of s.fl s.p s.w net.fired k

  abbrev F : Context → ℕ
  F x = frame_of s.fl net.fired x

  abbrev base : ℕ
  base = ip_of s.fl s.p s.w d (Landing n 0)

  abbrev pub sent_back : Note → Item
  sent_back k = item d (inlet q Left t) k

  pub record ReturnsAt : Type 0 where
    pub op_is : op_of s.w.variant (site_in s.fl s.w c) r ≡ Ops.Return o
    pub left_is : (k : Note) → WordFits s.fl s.w (item c (inlet r Left 0) k) → k ≡ BackTo d (inlet (Landing n 0) Left 0)
    pub right_is : (k : Note) → WordFits s.fl s.w (item c (inlet r Right 0) k) → (v : Value) × (k ≡ Datum v)
    pub none : answered_at r ≡ []
    pub single : is_switch r ≡ false
    pub makes_is : (h k : Note) → makes s.fl s.w (firing_of back 0 h k) ≡ sent_back k ∷ each c signal (Wire back is_return false)
    pub is_q : is_instr q ≡ true
    pub q_held : is_in_cell q ≡ false
    pub no_giver : (m : ℕ) → same_part q (Giver m) ≡ false
    pub place : base + o ≡ ip_of s.fl s.p s.w d q
    pub low : o < row_of s.fl s.p s.w d (Landing n 0)
    pub books : (k : Note) (x : Context) (m : ℕ) → Books back (sent_back k ∷ []) x m

  abbrev Arrives : Word → Word → Type 0
  Arrives x y =
      Fires s.m.store (F c) (Some (slot_of s.fl s.w back.i))
      (fires Empty (fire_two s.p.program (at back is_return) (instr back is_return) (Ops.Return o) x y)) s.event.made s.new.store

  module _ (g : ReturnsAt) (sec : Second back two plain) where
    abbrev left_item : Item
    left_item = item c (inlet r Left 0) sec.left

    left_word : sec.left ≡ BackTo d (inlet (Landing n 0) Left 0)
    left_word = g.left_is sec.left (carried back left_item (left_here back two plain sec))

    right_word : (v : Value) × (sec.right ≡ Datum v)
    right_word = g.right_is sec.right (carried back (item c (inlet r Right 0) sec.right) (right_here back two plain sec))

    has_frame : (h : ℕ) × (frame_at s.fl net.fired d ≡ Some h)
    has_frame = s.keeps.tracks.stands.named left_item d (among back left_item (left_here back two plain sec)) (ap named_by left_word)

    was_used : WasUsed s.p s.q.steps (F d) (ip_of s.fl s.p s.w d q) Left
    was_used =
        subst (λ ip. WasUsed s.p s.q.steps (F d) ip Left) g.place
        (s.keeps.tracks.asked left_item d (inlet (Landing n 0) Left 0) o (left_here back two plain sec) left_word g.low)

    of_one : (P : Item → Type 0) → P (sent_back sec.right) → (x : Item) → Contains (sent_back sec.right ∷ []) x → P x
    of_one P k x h = subst P (contains_one (sent_back sec.right) x h) k

    unnamed : (x : Context) → named_by sec.right ≡ Some x → ⊥
    unnamed x h = let z : None ≡ Some x = sym (ap named_by right_word.1) ∙ h in absurd (cc)

    free : IsFree back
    free = free_of back is_return (dyadic_grants (instr back is_return).op (dyadic back two plain)) (ap releases ((stood back is_return).is.op ∙ g.op_is))

    no_turn : (x : Context) (m : ℕ) → items_at x (Giver m) (sent_back sec.right ∷ []) ≡ 0
    no_turn x m =
        count_none (is_item_at x (Giver m)) (sent_back sec.right ∷ [])
        (of_one (λ (j : Item). is_item_at x (Giver m) j ≡ false) (ap (λ (k : Bool). same_context d x && k) (g.no_giver m) ∙ and_false (same_context d x)))

    returns_on : (v : Value) → sec.right ≡ Datum v → Arrives (W (BackTo d (inlet (Landing n 0) Left 0))) (W (Datum v)) → Followed s
    returns_on v k m = crosses_follow back still two plain sec (record {
      out = sent_back sec.right ∷ [];
      out_made = token (To.Instr (F d) (base + o) Left) (Word.Val v) ∷ [];
      out_is =
          λ i. token ((ap (λ (ip : ℕ). To.Instr (F d) ip Left) g.place ∙ sym (to_instr s.fl s.p s.w net.fired (sent_back sec.right) q g.is_q)) i) (W (sym k i))
          ∷ [];
      out_sent =
          of_one (Sent back)
          (record {
            held = g.q_held;
            known = has_frame;
            named = λ y k. absurd (unnamed y k);
            asked = λ y z k. absurd (unnamed y (ap named_by k));
            caused = λ i k. inr was_used;
          });
      counted = record {
        books = λ x m a l. g.books sec.right x m;
        released = λ x m h a l f. free.released h (ip_of s.fl s.p s.w x (Landing m 0)) ∙ sym (no_turn x m);
        releases = none_released back free;
      };
      makes_is = g.makes_is sec.left sec.right;
      dests = (instr back is_return).firsts ++ (instr back is_return).seconds;
      leads = all_lead back still is_return g.none g.single;
      plain_dest = λ x h. subst (λ (op : Op). Contains (plain_dests (instr back is_return) op) x) (sym ((stood back is_return).is.op ∙ g.op_is)) h;
      did = m;
    })

  pub returns_follow : ReturnsAt → Followed s
  returns_follow g = pair_follows back still two plain (λ sec. let v = right_word g sec in returns_on g sec v.0 v.1
      (subst (λ k. Arrives (W (BackTo d (inlet (Landing n 0) Left 0))) (W k)) v.1
      (subst (λ k. Arrives (W k) (W sec.right)) (left_word g sec) (both back still two plain sec (Ops.Return o) g.op_is))))
