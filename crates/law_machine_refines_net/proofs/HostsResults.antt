-- What leaves main: its results, and its end.
use Rattle.std.proofs.Common.{◌≡◌, ℕ, ◌+◌, true, false, List, [], ◌∷◌, ◌++◌, map, refl, zero-add, sym, ap, ◌∙◌, subst, inl, inr, ◌⊎◌, true≢false, Some, None}
use Rattle.std.specs.Prelude.{Contains}
use Rattle.lemmas.proofs.Permutations.{permutation_same}
use Rattle.lemmas.proofs.Contains.{contains_cases, contains_none}
use Rattle.tags.specs.declared.value.Value.{Value}
use Rattle.tags.specs.declared.token.Port.TheVariants.{Left}
use Rattle.tags.specs.declared.token.Cont.{Cont}
use Rattle.tags.specs.declared.token.Word.{Word}
use Rattle.tags.specs.declared.token.To.{To}
use Rattle.tags.specs.declared.token.Token.{Token}
use Rattle.tags.specs.declared.slot.SlotState.TheVariants.{Empty}
use Rattle.semantics.specs.declared.program.Op.{Op}
use Rattle.semantics.specs.declared.program.Op.TheVariants as Ops
use Rattle.semantics.specs.Meaning.{Context, Main}
use Rattle.semantics.specs.Rule.{token, to_each, to_all, fires, fire_two}
use Rattle.semantics.specs.Rule as Rule
use Rattle.semantics.specs.Machine.{Fires}
use Rattle.semantics.specs.Credits.{released_by}
use Rattle.law_fresh_frames.specs.Alike.{plain_dests}
use Rattle.law_net.specs.ContextsParts.{Result, End, Shown, Done, Freed, inlet, Note, Datum, FrameOf, BackTo, ToHost, signal, Item, item, each}
use Rattle.law_net.specs.ContextsBlocks.{side}
use Rattle.law_net.specs.Contexts.{block_in, wiring_in}
use Rattle.law_net.specs.ContextsWires.{ip_and_port}
use Rattle.law_net.specs.ContextsMirror.{frame_of, word_of, slot_of, named_by, is_instr}
use Rattle.law_machine_refines_net.specs.MovesCases.{Taking, net_of, Followed, IsFree}
use Rattle.law_machine_refines_net.proofs.MovesLists.{contains_one, one_holds}
use Rattle.law_machine_refines_net.proofs.MovesParts.{is_credit}
use Rattle.law_machine_refines_net.proofs.MovesFitted.{code, taken_here}
use Rattle.law_machine_refines_net.proofs.SendsRules.{at, instr, stood, dyadic_grants, free_from, free_of, releases}
use Rattle.law_machine_refines_net.proofs.SendsPairs as Pairs
use Rattle.law_machine_refines_net.proofs.SendsPairs.{Second, dyadic, left_here, right_here}
use Rattle.law_machine_refines_net.proofs.Sends.{Wire}
use Rattle.law_machine_refines_net.proofs.SendsAlong.{both, all_lead, pair_follows}
use Rattle.law_machine_refines_net.proofs.SendsInwards.{meant_at, carried}
use Rattle.law_machine_refines_net.proofs.Hosts.{outputs_are}
use Rattle.law_machine_refines_net.proofs.OutwardsPassed.{Sent, free_counted}
use Rattle.law_machine_refines_net.proofs.OutwardsCrossing.{crosses_follow}

-- A RESULT of main
module _ (s : Taking) (j : ℕ) (in_main : s.i.context ≡ Main) (e : s.i.inlet.part ≡ Result j) where
  abbrev l : Taking
  l = meant_at s Main (Result j) in_main e

  abbrev is_result : is_instr (Result j) ≡ true
  is_result = Pairs.is l refl refl

  abbrev W : Note → Word
  W n = word_of s.fl s.p s.w (net_of s).fired n

  -- what results from both words
  abbrev Arrives : Op → Word → Word → Type 0
  Arrives op x y =
      Fires s.m.store (frame_of s.fl (net_of s).fired Main) (Some (slot_of s.fl s.w l.i))
      (fires Empty (fire_two s.p.program (at l is_result) (instr l is_result) op x y)) s.event.made s.new.store

  sends_on : (sec : Second l refl refl) (v : Value) → sec.right ≡ Datum v → Arrives (Ops.Return j) (W ToHost) (W (Datum v)) → Followed s
  sends_on sec v r m = crosses_follow l refl refl refl sec (record {
    out = item Main (inlet (Shown j) Left 0) sec.right ∷ [];
    out_made = token (To.Host (0 + j)) (Word.Val v) ∷ [];
    out_is = λ t. token (To.Host (zero-add j t)) (W (sym r t)) ∷ [];
    out_sent = one_holds (Sent l) (item Main (inlet (Shown j) Left 0) sec.right) (record {
      held = refl;
      known = (0, refl);
      named = λ d n. absurd (unnamed d n);
      asked = λ d y n. absurd (unnamed d (ap named_by n));
      caused = λ i k. absurd (true≢false (sym i));
    });
    counted =
        free_counted l free (item Main (inlet (Shown j) Left 0) sec.right ∷ [])
        (one_holds (λ (x : Item). is_credit x.inlet.part ≡ false) (item Main (inlet (Shown j) Left 0) sec.right) refl);
    dests = (instr l is_result).firsts ++ (instr l is_result).seconds;
    makes_is = refl;
    leads = all_lead l refl is_result refl refl;
    plain_dest = λ d h. subst (λ o. Contains (plain_dests (instr l is_result) o) d) (sym (stood l is_result).is.op) h;
    did = m;
  })
    where
      free : IsFree l
      free = free_of l is_result (dyadic_grants (instr l is_result).op (dyadic l refl refl)) (ap releases (stood l is_result).is.op)

      unnamed : (d : Context) → named_by sec.right ≡ Some d → ⊥
      unnamed d n = let z : None ≡ Some d = ap named_by (sym r) ∙ n in absurd (cc)

  by_word : (sec : Second l refl refl) (k : Note) → sec.right ≡ k → Arrives (Ops.Return j) (W ToHost) (W k) → Followed s
  by_word sec (Datum v) r m = sends_on sec v r m
  by_word sec (FrameOf d) r m = absurd m
  by_word sec (BackTo d x) r m = absurd m
  by_word sec ToHost r m = absurd m

  pub result_follows : Followed s
  result_follows =
      pair_follows l refl refl refl (λ sec. by_word sec sec.right refl
      (subst (λ n. Arrives (Ops.Return j) (W n) (W sec.right)) (carried l _ (left_here l refl refl sec)) (both l refl refl refl sec (Ops.Return j) refl)))

-- THE END of main
module _ (s : Taking) (in_main : s.i.context ≡ Main) (e : s.i.inlet.part ≡ End) where
  abbrev last : Taking
  last = meant_at s Main End in_main e

  abbrev is_end : is_instr End ≡ true
  is_end = Pairs.is last refl refl

  abbrev results : ℕ
  results = (block_in s.fl Main).outputs

  abbrev Ends : Word → Word → Type 0
  Ends x y =
      Fires s.m.store (frame_of s.fl (net_of s).fired Main) (Some (slot_of s.fl s.w last.i))
      (fires Empty (fire_two s.p.program (at last is_end) (instr last is_end) (Ops.Release results) x y)) s.event.made s.new.store

  no_wire : Wire last is_end false ≡ []
  no_wire = (code last last.i (taken_here last)).lawful.fed.sides (side End false) (inr refl)

  abbrev ending : List Item
  ending = item Main (inlet Freed Left 0) signal ∷ item Main (inlet Done Left 0) signal ∷ []

  abbrev end_tokens : List Token
  end_tokens = token (To.Release (frame_of s.fl (net_of s).fired Main)) Rule.signal ∷ token (To.Host (0 + results)) Rule.signal ∷ []

  of_both : (P : Item → Type 0) → P (item Main (inlet Freed Left 0) signal) → P (item Main (inlet Done Left 0) signal) → (x : Item) → Contains ending x → P x
  of_both P a b x h = pick (contains_cases (item Main (inlet Freed Left 0) signal) (item Main (inlet Done Left 0) signal ∷ []) x h)
    where
      pick : (item Main (inlet Freed Left 0) signal ≡ x) ⊎ Contains (item Main (inlet Done Left 0) signal ∷ []) x → P x
      pick (inl d) = subst P d a
      pick (inr c) = subst P (contains_one (item Main (inlet Done Left 0) signal) x c) b

  end_free : s.event.made ≡ end_tokens → IsFree last
  end_free m = free_from last is_end (dyadic_grants (instr last is_end).op (dyadic last refl refl)) (λ f base.
      subst (λ o. released_by o f base s.event.made ≡ 0) (sym (stood last is_end).is.op)
      (subst (λ ts. released_by (Ops.Release results) f base ts ≡ 0) (sym m) refl))

  ends_on : (sec : Second last refl refl) → Ends (Word.Back (Cont.Host 0)) (word_of s.fl s.p s.w (net_of s).fired sec.right) → Followed s
  ends_on sec m = crosses_follow last refl refl refl sec (record {
    out = ending;
    out_made = end_tokens;
    out_is =
        λ t. token (To.Release (frame_of s.fl (net_of s).fired Main)) Rule.signal
        ∷ token (To.Host ((zero-add results ∙ sym (outputs_are s.fl s.p s.w s.good)) t)) Rule.signal ∷ [];
    out_sent =
        of_both (Sent last)
        (record { held = refl; known = (0, refl); named = λ d n. absurd (cc); asked = λ d y n. absurd (cc); caused = λ i k. absurd (true≢false (sym i)) })
        (record { held = refl; known = (0, refl); named = λ d n. absurd (cc); asked = λ d y n. absurd (cc); caused = λ i k. absurd (true≢false (sym i)) });
    counted = free_counted last (end_free m.0) ending (of_both (λ (x : Item). is_credit x.inlet.part ≡ false) refl refl);
    makes_is = ap (λ l. ending ++ each Main signal l) (sym no_wire);
    dests = [];
    leads = permutation_same _ _ (ap (map (ip_and_port (wiring_in s.fl s.w Main))) (sym no_wire));
    plain_dest = λ d h. absurd (contains_none d h);
    did = m;
  })

  pub end_follows : Followed s
  end_follows =
      pair_follows last refl refl refl (λ sec. ends_on sec
      (subst (λ n. Ends (word_of s.fl s.p s.w (net_of s).fired n) (word_of s.fl s.p s.w (net_of s).fired sec.right))
      (carried last _ (left_here last refl refl sec)) (both last refl refl refl sec (Ops.Release results) refl)))
