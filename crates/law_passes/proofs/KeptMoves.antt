-- The code of a folded plan is that of the plan in which some literals are in the code of operators.
use Rattle.std.proofs.Common.{◌≡◌, refl, sym, ap, ◌∙◌, subst, ℕ, ℤ, ◌+◌, ◌<◌, ◌≤◌, ◌⊎◌, inl, inr, Bool, true, false, true≢false, List, [], ◌∷◌, ◌++◌, length}
use Rattle.std.proofs.Common.{Option, Some, None, Contains, arith}
use Rattle.std.specs.Prelude.{slice_get, ⊤}
use Rattle.std.specs.Option.{option_map}
use Rattle.std.proofs.lemmas.Option.{slice_get_within, slice_get-map, same_Some}
use Rattle.std.proofs.lemmas.List.Concat.{flat_map-append}
use Rattle.tags.specs.declared.value.Value.TheVariants.{Int}
use Rattle.tags.specs.declared.token.Port.{Port}
use Rattle.tags.specs.declared.token.Port.TheVariants.{Left, Right}
use Rattle.tags.specs.declared.token.To.{To}
use Rattle.tags.specs.declared.token.Token.{Token}
use Rattle.semantics.specs.Rule.{token, at_dest, to_each}
use Rattle.tags.specs.declared.token.Word.{Word}
use Rattle.operators.specs.declared.Binary.{Binary}
use Rattle.semantics.specs.declared.program.Dest.{Dest}
use Rattle.semantics.specs.declared.program.Op.{Op}
use Rattle.semantics.specs.declared.program.Op.TheVariants.{Apply2, Copy, Lit, Fetch, Store, Frame, Ask, Link, Send}
use Rattle.semantics.specs.Program.{Instr, CodeBlock, Program, first_of, instr_at}
use Rattle.semantics.specs.Machine.{results_in}
use Rattle.semantics.specs.Plan.{Plan, HasShape}
use Rattle.semantics.specs.Orderly.{eq_port, inputs_in}
use Rattle.code.specs.Sound.{NamesRightly, IsSound}
use Rattle.law_reuse.proofs.SlotsPlaced.{Found, found}
use Rattle.std.proofs.lemmas.List.Sorted.{Contains-permutation}
use Rattle.lemmas.proofs.Contains.{contains_head, contains_map, contains_none, get_contains}
use Rattle.lemmas.proofs.SliceGet.{get_some}
use Rattle.lemmas.proofs.Lists.{map_append, one_element}
use Rattle.code.proofs.Mains.{main_block}
use Rattle.folding.specs.Places.{layout_of, new_place}
use Rattle.folding.specs.Moved.{moved_dests, new_dest}
use Rattle.folding.specs.Laws.{dests_of, other_port}
use Rattle.folding.proofs.Standing.{keeps_order}
use Rattle.folding.proofs.Taken.{keeps_entries}
use Rattle.folding.proofs.Landing.{keeps_landings}
use Rattle.folding.proofs.Sole.{keeps_sole}
use Rattle.folding.proofs.Pairs.{closed_in, closed_uses, uses_in, given, wanted, pairs_match}
use Rattle.folding.proofs.Cases.{port_at, value_at, FoldedAt, FoldCase, is_kept, is_right, is_left, fold_cases}
use Rattle.folding.proofs.Plain.{PlainAt, entry_plain, landing_plain, sole_plain}
use Rattle.law_fresh_frames.specs.Alike.{HasLanding}
use Rattle.law_passes.specs.Kept.{slotted, kept_block, kept_slots, KeptSlotsFolds}
use Rattle.law_passes.proofs.KeptLeading.{operands, Whole}
use Rattle.law_passes.proofs.KeptClosed.{lit_or}
use Rattle.law_passes.proofs.KeptUses.{Wants, wanted_of}
use Rattle.law_passes.proofs.KeptTargets.{open_leads}
use Rattle.law_passes.proofs.KeptReadies.{ready_join}
use Rattle.law_passes.proofs.KeptNumbering.{plain_at, place_ip, word_ip, plain_ip, plain_is}
use Rattle.law_passes.proofs.KeptPlaces.{spares, inside, ahead, there_old, there_new, g_at, h_at}
use Rattle.law_passes.proofs.KeptSpots.{stays, kept_of, plain_of, not_plain, plain_at_h, plain_there, plain_here, fresh_at, plain_only, plain_holders}
use Rattle.law_passes.proofs.KeptSpots.{plain_apart, pairs_apart, later}
use Rattle.folding.proofs.Cases.{KeptAt}
use Rattle.folding.specs.Moved.{is_shut}
use Rattle.lemmas.proofs.Contains.{contains_get}
use Rattle.std.proofs.lemmas.List.Elements.{Contains-append_cases, Contains-append_left, Contains-append_right}
use Rattle.std.proofs.Common.{◌||◌}
use Rattle.law_passes.proofs.KeptUses.{moved_has}
use Rattle.law_simulation.specs.Simulates.{Way}
use Rattle.law_simulation.specs.Places.{ip_word, is_answered}
use Rattle.law_simulation.specs.Simulates.{Clumped, Enters, IsMoved, IsPair, IsValue, Leads, Pairs, Plain, Ready, Sends, Settles, Skips, hands_on}
use Rattle.law_simulation.proofs.SimulationPorts.{two_out}
use Rattle.law_simulation.proofs.SimulationRules.{settles_keeps, settles_map, settles_then}

both_none : (xs ys : List ℕ) → xs ++ ys ≡ [] → (xs ≡ []) × (ys ≡ [])
both_none [] ys e = (refl, e)
both_none (x ∷ xs) ys e = absurd (cc)

pub shape_one : (op : Op) (m n : ℕ) → is_answered op ≡ true → HasShape op m n → m ≡ 1
shape_one (Fetch x) m n e h = h.0
shape_one (Store x) m n e h = h.0
shape_one Frame m n e h = h.0
shape_one (Ask o) m n e h = h.0
shape_one (Link x) m n e h = h
shape_one op m n e h = absurd (true≢false (sym e))

-- A copy stands for itself, so none is left out.
pub no_skips : (p : Plan) (s : IsSound p) (a : ℕ) → Skips p.program (kept_slots p).program (word_ip p) a → ⊥
no_skips p s a K = go (found p.program a K.i K.at)
  where
    by : (N : Found p.program a K.i) → PlainAt p N.stands.code N.n → ⊥
    by N M =
        K.apart (subst (Plain p.program (kept_slots p).program (word_ip p)) (sym N.place)
        (plain_here p s N.b N.stands.code N.stands.block N.n K.i N.stands.instr M))

    no_lit : (z : ℤ) → Copy ≡ Lit z → ⊥
    no_lit z e = cc

    no_apply : (o : Binary) → Copy ≡ Apply2 o → ⊥
    no_apply o e = cc

    go : Found p.program a K.i → ⊥
    go N = pick (lit_or p N.stands.code N.n K.i N.stands.instr) (fold_cases p N.stands.code N.n)
      where
        was : (j : Instr) (o : Binary) → slice_get N.stands.code.instrs N.n ≡ Some j → j.op ≡ Apply2 o → ⊥
        was j o at_j e = no_apply o (sym K.op ∙ ap (λ (i : Instr). i.op) (same_Some K.i j (sym N.stands.instr ∙ at_j)) ∙ e)

        pick : (closed_uses p N.stands.code N.n ≡ []) ⊎ ((z : ℤ) × (K.i.op ≡ Lit z)) → FoldCase p N.stands.code N.n → ⊥
        pick (inr l) o = no_lit l.0 (sym K.op ∙ l.1)
        pick (inl none) (is_kept M) = by N record { folded = M.folded; unused = none }
        pick (inl none) (is_right (D, op)) = was D.i D.o D.there D.was
        pick (inl none) (is_left (D, op)) = was D.i D.o D.there D.was

pub answers_no_lit : (op : Op) → is_answered op ≡ true → (z : ℤ) → op ≡ Lit z → ⊥
answers_no_lit op e z l = true≢false (sym e ∙ ap is_answered l)

module _ (p : Plan) (s : IsSound p) (b : ℕ) (c : CodeBlock) (at_b : slice_get p.program.blocks b ≡ Some c) where
  abbrev P : Program
  P = p.program

  abbrev Q : Program
  Q = (kept_slots p).program

  abbrev g : ℕ → ℕ
  g = place_ip p

  abbrev h : ℕ → ℕ
  h = word_ip p

  abbrev F : ℕ
  F = first_of P b

  abbrev E : ℕ
  E = first_of Q b

  abbrev place : ℕ → ℕ
  place n = new_place (layout_of p c) n

  -- ---- LISTS
  module _ (n : ℕ) (i : Instr) (at : slice_get c.instrs n ≡ Some i) (none : closed_uses p c n ≡ []) where
    sides : (closed_in p c n i.firsts ≡ []) × (closed_in p c n i.seconds ≡ [])
    sides =
        both_none (closed_in p c n i.firsts) (closed_in p c n i.seconds)
        (sym (flat_map-append _ i.firsts i.seconds) ∙ sym (ap (λ (o : Option Instr). closed_in p c n (uses_in p c o)) at) ∙ none)

    side_none : (t : Bool) → closed_in p c n (dests_of i t) ≡ []
    side_none true = sides.1
    side_none false = sides.0

    value_moved : (w : Word) → IsValue w → IsValue (ip_word h w)
    value_moved w v = (v.0, ap (ip_word h) v.1)

    -- a list whose words are of a kind
    whole : (kind : Word → Type 0) (of_value : (z : ℤ) → kind (Word.Val (Int z))) (t : Bool) (f : ℕ) (w : Word)
        → ((x : ℕ) → Contains (given p c n (dests_of i t)) x → kind (ip_word h w)) → Whole kind P Q g h p c F E f n w (dests_of i t)
    whole kind of_value t f w kinds =
        open_leads kind of_value P Q g h p c F E (spares p s b c at_b) (inside p s b c at_b) (ahead p s b c at_b) (there_old p s b c at_b)
        (there_new p s b c at_b) (g_at p s b c at_b) (h_at p s b c at_b) (fresh_at p s b c at_b) (plain_only p s b c at_b)
        n i t at (side_none t) f w kinds

    abbrev New : Bool → ℕ → Word → List Token
    New t f w = to_each record { frame = f; ip = E + place n } (ip_word h w) (moved_dests (layout_of p c) n (dests_of i t))

    abbrev Old : Bool → ℕ → Word → List Token
    Old t f w = to_each record { frame = f; ip = F + n } w (dests_of i t)

    clumped : (t : Bool) (f : ℕ) (w : Word) → Whole IsValue P Q g h p c F E f n w (dests_of i t) → Clumped P Q g h (New t f w) (Old t f w)
    clumped t f w W = record {
      meant = W.meant;
      stand = W.stand;
      settles =
          subst (λ (ms : List ℕ). Settles (Sends P Q h (New t f w)) P (Old t f w) (operands IsValue P Q g h p c F E f ms ++ W.meant)) (side_none t) W.settles;
    }

    -- where the list names no operator with a literal operand, the literals that it names have not fired
    none_given : (t : Bool) → wanted p c n (dests_of i t) ≡ [] → (x : ℕ) → Contains (given p c n (dests_of i t)) x → ⊥
    none_given t e x k =
        contains_none x (subst (λ (l : List ℕ). Contains l x) e
        (Contains-permutation _ _ x (pairs_match p c (spares p s b c at_b) (inside p s b c at_b) n i t at) k))

    same_ip : (f a x : ℕ) (r t : Port) (v w : Word) → token (To.Instr f a r) v ≡ token (To.Instr f x t) w → (a ≡ x) × (r ≡ t)
    same_ip f a x r t v w e = let d = ap (λ (t : Token). t.to) e in (cc, cc)

    other_of : (q qc : Port) → eq_port q qc ≡ false → qc ≡ other_port q
    other_of Left Right e = refl
    other_of Right Left e = refl
    other_of Left Left e = absurd (true≢false e)
    other_of Right Right e = absurd (true≢false e)

    not_same : (q : Port) → q ≡ other_port q → ⊥
    not_same Left e = cc
    not_same Right e = cc

    -- where it names one, that one gets the word and an operand
    pairs : (t : Bool) (f : ℕ) (w : Word) (x : ℕ) → Contains (wanted p c n (dests_of i t)) x → Pairs P (Old t f w) w
    pairs t f w x inside_x = by_case (fold_cases p c (n + N.d.ahead))
      where
        N : Wants p c n (dests_of i t) x
        N = wanted_of p c n (dests_of i t) x inside_x

        W : Whole (λ w. ⊤) P Q g h p c F E f n w (dests_of i t)
        W = whole (λ w. ⊤) (λ z. tt) t f w (λ x k. tt)

        settles : Settles (λ f l. ⊤) P (Old t f w) W.meant
        settles =
            settles_map (Sends P Q h (New t f w)) (λ f l. ⊤) (λ k l N. tt) P (Old t f w) W.meant
            (subst (λ (ms : List ℕ). Settles (Sends P Q h (New t f w)) P (Old t f w) (operands (λ w. ⊤) P Q g h p c F E f ms ++ W.meant))
            (side_none t) W.settles)

        gets : Contains W.meant (token (To.Instr f (F + x) (port_at p c x)) (Word.Val (Int (value_at p c x))))
        gets = W.gets x inside_x

        by : (qc : Port) → FoldedAt p c (n + N.d.ahead) qc → Pairs P (Old t f w) w
        by qc D =
            let here : F + n + N.d.ahead ≡ F + (n + N.d.ahead) = omega arith in
            let old : instr_at P (F + n + N.d.ahead) ≡ Some D.i = ap (instr_at P) here ∙ there_old p s b c at_b (n + N.d.ahead) D.i D.there in
            let one : Token = token (To.Instr f (F + n + N.d.ahead) N.d.port) w in
            let two : Token = token (To.Instr f (F + n + N.d.ahead) (other_port N.d.port)) (Word.Val (Int (value_at p c x))) in
            let port : port_at p c x ≡ other_port N.d.port = ap (port_at p c) (sym N.to) ∙ D.closed ∙ other_of N.d.port qc (sym (D.shut N.d.port) ∙ N.still) in
            let spot : F + x ≡ F + n + N.d.ahead = (let e = N.to in omega (arith, e)) in
            let first : Contains W.meant one =
            settles_keeps (λ f l. ⊤) P (Old t f w) W.meant settles one (λ f2 a w2 i2 may e at2 op. no_hand D old f2 a w2 i2 e at2 op)
            (contains_map (at_dest record { frame = f; ip = F + n } w) (dests_of i t) N.d (get_contains (dests_of i t) N.k N.d N.named)) in
            let second : Contains W.meant two = subst (Contains W.meant) (λ k. token (To.Instr f (spot k) (port k)) (Word.Val (Int (value_at p c x)))) gets in
            let r = two_out W.meant one two first second
            (λ e. not_same N.d.port (same_ip f (F + n + N.d.ahead) (F + n + N.d.ahead) N.d.port (other_port N.d.port) w
            (Word.Val (Int (value_at p c x))) e).1) in
            record {
              frame = f;
              a = F + n + N.d.ahead;
              r = N.d.port;
              v = Int (value_at p c x);
              i = D.i;
              o = D.o;
              rest = r.0;
              at = old;
              op = D.was;
              settles = settles_then (λ f l. ⊤) P (Old t f w) W.meant (one ∷ two ∷ r.0) settles r.1;
            }
          where
            no_hand : (D : FoldedAt p c (n + N.d.ahead) qc) → instr_at P (F + n + N.d.ahead) ≡ Some D.i → (f2 a : ℕ) (w2 : Word) (i2 : Instr)
                → token (To.Instr f (F + n + N.d.ahead) N.d.port) w ≡ token (To.Instr f2 a Left) w2
                → instr_at P a ≡ Some i2 → hands_on i2.op ≡ true → ⊥
            no_hand D old f2 a w2 i2 e at2 op =
                let same : a ≡ F + n + N.d.ahead = (let d = ap (λ (t : Token). t.to) e in cc) in
                let j : i2 ≡ D.i = same_Some i2 D.i (sym at2 ∙ ap (instr_at P) same ∙ old) in
                true≢false (sym op ∙ ap (λ (i : Instr). hands_on i.op) j ∙ ap hands_on D.was)

        by_case : FoldCase p c (n + N.d.ahead) → Pairs P (Old t f w) w
        by_case (is_kept K) = absurd (true≢false (sym N.folded ∙ K.folded))
        by_case (is_right (D, op)) = by Right D
        by_case (is_left (D, op)) = by Left D

    ready_side : (t : Bool) (f : ℕ) (w : Word) → Ready P Q g h w (New t f w) (Old t f w)
    ready_side t f w =
        record {
          value = λ v. clumped t f w (whole IsValue (λ z. (Int z, refl)) t f w (λ x k. value_moved w v));
          tells =
              go (wanted p c n (dests_of i t)) refl;
        }
      where
        go : (ms : List ℕ) → wanted p c n (dests_of i t) ≡ ms → Clumped P Q g h (New t f w) (Old t f w) ⊎ Pairs P (Old t f w) w
        go [] e = inl (clumped t f w (whole IsValue (λ z. (Int z, refl)) t f w (λ x k. absurd (none_given t e x k))))
        go (x ∷ xs) e = inr (pairs t f w x (subst (λ (l : List ℕ). Contains l x) (sym e) (contains_head x xs)))

    -- a destination that leads to an instruction that stands for itself still leads there
    way_side : (t : Bool) (d : Dest) → Contains (dests_of i t) d → Plain P Q h (F + n + d.ahead)
        → Way P Q h (E + place n) (moved_dests (layout_of p c) n (dests_of i t)) (F + n + d.ahead, d.port)
    way_side t d among K =
        let g = contains_get (dests_of i t) d among in
        let low = inside p s b c at_b n g.0 i t d at g.1 in
        let more = ahead p s b c at_b n g.0 i t d at g.1 in
        let e : F + n + d.ahead ≡ F + (n + d.ahead) = omega arith in
        let M : PlainAt p c (n + d.ahead) = plain_of p c (n + d.ahead) (plain_only p s b c at_b (n + d.ahead) low (subst (Plain P Q h) e K)) in
        let kept : KeptAt p c (n + d.ahead) = kept_of p c (n + d.ahead) M.folded in
        let k = get_some c.instrs (n + d.ahead) low in
        let here = stays p c (n + d.ahead) k.0 k.1 M.unused in
        let shut : is_shut (layout_of p c) (n + d.ahead) d.port ≡ false = (λ v. here v || kept.shut d.port v) in
        let up = keeps_order p c n (n + d.ahead) (omega (arith, more)) low (stays p c n i at none) in
        let spot = plain_at_h p s b c at_b (n + d.ahead) low M in
        let eh = ap h e in
        record {
          d = new_dest (layout_of p c) n (n + d.ahead) d.port;
          named = moved_has p c n (dests_of i t) g.0 d g.1 shut;
          leads = inl (omega (arith, up, spot, eh), kept.port d.port);
        }

    way_all : (d : Dest) → Contains (i.firsts ++ i.seconds) d → Plain P Q h (F + n + d.ahead)
        → Way P Q h (E + place n) (moved_dests (layout_of p c) n i.firsts ++ moved_dests (layout_of p c) n i.seconds) (F + n + d.ahead, d.port)
    way_all d among K = go (Contains-append_cases i.firsts i.seconds d among)
      where
        go : Contains i.firsts d ⊎ Contains i.seconds d
            → Way P Q h (E + place n) (moved_dests (layout_of p c) n i.firsts ++ moved_dests (layout_of p c) n i.seconds) (F + n + d.ahead, d.port)
        go (inl c2) =
            let W = way_side false d c2 K in
            record {
              d = W.d;
              named = Contains-append_left (moved_dests (layout_of p c) n i.firsts) (moved_dests (layout_of p c) n i.seconds) W.d W.named;
              leads = W.leads;
            }
        go (inr c2) =
            let W = way_side true d c2 K in
            record {
              d = W.d;
              named = Contains-append_right (moved_dests (layout_of p c) n i.firsts) (moved_dests (layout_of p c) n i.seconds) W.d W.named;
              leads = W.leads;
            }

    pub leads_side : (t : Bool) → Leads P Q g h (E + place n) (moved_dests (layout_of p c) n (dests_of i t)) (F + n) (dests_of i t)
    leads_side t = record { made = ready_side t; ways = way_side t; overs = λ e inside K. absurd (no_skips p s (F + n + e.ahead) K) }

    ready_all : (f : ℕ) (w : Word)
        → Ready P Q g h w (to_each record { frame = f; ip = E + place n } (ip_word h w)
        (moved_dests (layout_of p c) n i.firsts ++ moved_dests (layout_of p c) n i.seconds))
        (to_each record { frame = f; ip = F + n } w (i.firsts ++ i.seconds))
    ready_all f w =
        let all = ready_join P Q g h w (New false f w) (New true f w) (Old false f w) (Old true f w) (ready_side false f w) (ready_side true f w) in
        subst (λ (l : List Token). Ready P Q g h w l (to_each record { frame = f; ip = F + n } w (i.firsts ++ i.seconds)))
        (sym (map_append (at_dest record { frame = f; ip = E + place n } (ip_word h w)) (moved_dests (layout_of p c) n i.firsts)
        (moved_dests (layout_of p c) n i.seconds)))
        (subst (λ (l : List Token). Ready P Q g h w (New false f w ++ New true f w) l)
        (sym (map_append (at_dest record { frame = f; ip = F + n } w) i.firsts i.seconds)) all)

    pub leads_all : Leads P Q g h (E + place n) (moved_dests (layout_of p c) n i.firsts ++ moved_dests (layout_of p c) n i.seconds) (F + n)
        (i.firsts ++ i.seconds)
    leads_all = record { made = ready_all; ways = way_all; overs = λ e inside K. absurd (no_skips p s (F + n + e.ahead) K) }

  -- ---- AN INSTRUCTION THAT STANDS FOR ITSELF
  module _ (n : ℕ) (i : Instr) (at : slice_get c.instrs n ≡ Some i) (K : PlainAt p c n) where
    abbrev j : Instr
    j = slotted (layout_of p c) n i

    low : n < length c.instrs
    low = slice_get_within c.instrs n i at

    here : h (F + n) ≡ E + place n
    here = plain_at_h p s b c at_b n low K

    same_op : j.op ≡ i.op
    same_op = (kept_of p c n K.folded).op i.op

    pub answered : is_answered i.op ≡ true
        → (d : Dest) × (e : Dest) × (i.firsts ≡ d ∷ []) × (j.firsts ≡ e ∷ []) × (h (F + n + d.ahead) ≡ h (F + n) + e.ahead) × (e.port ≡ d.port)
        × Plain P Q h (F + n + d.ahead)
    answered is =
        let shape = ((s.program.blocks b c at_b).instrs n i at).shape in
        let o = one_element i.firsts (shape_one i.op (length i.firsts) (length i.seconds) is shape) in
        let d : Dest = o.0 in
        let named : slice_get (dests_of i false) 0 ≡ Some d = ap (λ (l : List Dest). slice_get l 0) o.1 in
        let within : n + d.ahead < length c.instrs = inside p s b c at_b n 0 i false d at named in
        let later : 0 < d.ahead = ahead p s b c at_b n 0 i false d at named in
        let M : PlainAt p c (n + d.ahead) = sole_plain p c (spares p s b c at_b) n i d at o.1 (answers_no_lit i.op is) within in
        let e : Dest = new_dest (layout_of p c) n (n + d.ahead) d.port in
        let there : h (F + (n + d.ahead)) ≡ E + place (n + d.ahead) = plain_at_h p s b c at_b (n + d.ahead) within M in
        let z : h (F + n + d.ahead) ≡ h (F + (n + d.ahead)) = ap h (let z : F + n + d.ahead ≡ F + (n + d.ahead) = omega arith in z) in
        let up = keeps_order p c n (n + d.ahead) (omega (arith, later)) within (stays p c n i at K.unused) in
        let one = here in
        let m = get_some c.instrs (n + d.ahead) within in
        let z2 : F + (n + d.ahead) ≡ F + n + d.ahead = omega arith in (
          d,
          e,
          o.1,
          keeps_sole p c (spares p s b c at_b) n i d at o.1 (answers_no_lit i.op is),
          omega (arith, there, z, up, one),
          (kept_of p c (n + d.ahead) M.folded).port d.port,
          subst (Plain P Q h) z2 (plain_here p s b c at_b (n + d.ahead) m.0 m.1 M),
        )

  -- ---- ENTRIES
  pub entry_at : (n : ℕ) → n ≤ c.inputs → (h (F + n) ≡ E + n) × Plain P Q h (F + n)
  entry_at n e =
      let size = (s.program.blocks b c at_b).size in
      let within : n < length c.instrs = omega (arith, e, size) in
      let k = keeps_entries p c n e within in
      let m = get_some c.instrs n within in (
        plain_at_h p s b c at_b n within (entry_plain p c n e within) ∙ ap (λ (m : ℕ). E + m) k.1,
        plain_here p s b c at_b n m.0 m.1 (entry_plain p c n e within),
      )

enters_at : (p : Plan) (s : IsSound p) (op : Op) → NamesRightly p.program op → Enters p.program (kept_slots p).program (word_ip p) op
enters_at p s (Link b) h =
    let c = get_some p.program.blocks b h in
    let e = entry_at p s b c.0 c.1 0 (omega arith) in
    let z : first_of p.program b + 0 ≡ first_of p.program b = omega arith in
    let y : first_of (kept_slots p).program b + 0 ≡ first_of (kept_slots p).program b = omega arith in
    (ap (word_ip p) (sym z) ∙ e.0 ∙ y, subst (Plain p.program (kept_slots p).program (word_ip p)) z e.1)
enters_at p s (Send b n) h = entry_at p s b h.0 h.1 n h.2
enters_at p s op h = tt

pub is_moved : (p : Plan) (s : IsSound p) (b : ℕ) (c : CodeBlock) (at_b : slice_get p.program.blocks b ≡ Some c) (n : ℕ) (i : Instr)
    (at : slice_get c.instrs n ≡ Some i) → PlainAt p c n
    → IsMoved p.program (kept_slots p).program (place_ip p) (word_ip p) (first_of p.program b + n) i
is_moved p s b c at_b n i at K =
    let k : word_ip p (first_of p.program b + n) ≡ first_of (kept_slots p).program b + new_place (layout_of p c) n = here p s b c at_b n i at K in
    let y : Instr = slotted (layout_of p c) n i in
    let a : ℕ = first_of p.program b + n in
    record {
      j = slotted (layout_of p c) n i;
      there = plain_there p s b c at_b n i at K;
      op = same_op p s b c at_b n i at K;
      origin = refl;
      slot = refl;
      all =
          subst (λ (x : ℕ). Leads p.program (kept_slots p).program (place_ip p) (word_ip p) x (y.firsts ++ y.seconds) a (i.firsts ++ i.seconds)) (sym k)
          (leads_all p s b c at_b n i at K.unused);
      firsts =
          λ e. subst (λ (x : ℕ). Leads p.program (kept_slots p).program (place_ip p) (word_ip p) x y.firsts a i.firsts) (sym k)
          (leads_side p s b c at_b n i at K.unused false);
      seconds = (
        λ e. subst (λ (x : ℕ). Leads p.program (kept_slots p).program (place_ip p) (word_ip p) x y.seconds a i.seconds) (sym k)
            (leads_side p s b c at_b n i at K.unused true),
        λ t e. subst (λ (x : ℕ). Leads p.program (kept_slots p).program (place_ip p) (word_ip p) x y.seconds a i.seconds) (sym k)
            (leads_side p s b c at_b n i at K.unused true),
      );
      answered = answered p s b c at_b n i at K;
      enters = enters_at p s i.op ((s.program.blocks b c at_b).instrs n i at).operand;
    }

-- an operator with a literal operand
pub is_pair : (p : Plan) (s : IsSound p) (b : ℕ) (c : CodeBlock) (at_b : slice_get p.program.blocks b ≡ Some c) (n : ℕ) (i j : Instr) (o : Binary)
    → slice_get c.instrs n ≡ Some i → i.op ≡ Apply2 o
    → instr_at (kept_slots p).program (place_ip p (first_of p.program b + n)) ≡ Some j
    → IsPair p.program (kept_slots p).program (place_ip p) (word_ip p) (first_of p.program b + n) i j
is_pair p s b c at_b n i j o at op there =
    let k : place_ip p (first_of p.program b + n) ≡ first_of (kept_slots p).program b + new_place (layout_of p c) n =
    g_at p s b c at_b n (slice_get_within c.instrs n i at) in
    let none = unused (lit_or p c n i at) in
    let y : Instr = slotted (layout_of p c) n i in
    let same : j ≡ y = some_instr j y (sym there ∙ ap (instr_at (kept_slots p).program) k ∙ there_new p s b c at_b n i at (stays p c n i at none)) in
    record {
      origin = ap (λ (i : Instr). i.origin) same;
      all =
          subst (λ (j : Instr). Leads p.program (kept_slots p).program (place_ip p) (word_ip p) (place_ip p (first_of p.program b + n)) (j.firsts ++ j.seconds)
          (first_of p.program b + n) (i.firsts ++ i.seconds)) (sym same)
          (subst (λ (x : ℕ). Leads p.program (kept_slots p).program (place_ip p) (word_ip p) x (y.firsts ++ y.seconds) (first_of p.program b + n)
          (i.firsts ++ i.seconds)) (sym k) (leads_all p s b c at_b n i at none));
    }
  where
    some_instr : (i j : Instr) → Some i ≡ Some j → i ≡ j
    some_instr i j e = cc

    apart : (z : ℤ) → Apply2 o ≡ Lit z → ⊥
    apart z e = cc

    unused : (closed_uses p c n ≡ []) ⊎ ((z : ℤ) × (i.op ≡ Lit z)) → closed_uses p c n ≡ []
    unused (inl e) = e
    unused (inr l) = absurd (apart l.0 (sym op ∙ l.1))

-- ---- ALL
pub new_main : (p : Plan) (c : CodeBlock) → slice_get p.program.blocks p.program.main ≡ Some c
    → slice_get (kept_slots p).program.blocks p.program.main ≡ Some (kept_block p c)
new_main p c e = slice_get-map (kept_block p) p.program.blocks p.program.main ∙ ap (option_map (kept_block p)) e

unfoldable pub kept_slots_folds : KeptSlotsFolds
kept_slots_folds p s = record {
  g = place_ip p;
  h = word_ip p;
  arrays = refl;
  outputs = ap results_in (new_main p m.0 m.1) ∙ sym (ap results_in m.1);
  inputs = ap inputs_in (new_main p m.0 m.1) ∙ sym (ap inputs_in m.1);
  instrs = instrs;
  rights = λ a o z i j at op there new. pair a o i j at op there;
  lefts = λ a o z i j at op there new. pair a o i j at op there;
  landings = landings;
  entries = λ n low. (let e = ap inputs_in m.1 in entry_at p s p.program.main m.0 m.1 n (omega (arith, low, e)));
  answers = answers;
  holders = plain_holders p s;
  apart = plain_apart p s;
  pairs_apart = pairs_apart p s;
  later = λ ip j d at on fresh named. later p s ip j d at named;
}
  where
    m : (c : CodeBlock) × (slice_get p.program.blocks p.program.main ≡ Some c)
    m = main_block p s

    instrs : (a : ℕ) (i : Instr) → instr_at p.program a ≡ Some i
        → IsMoved p.program (kept_slots p).program (place_ip p) (word_ip p) a i ⊎ (instr_at (kept_slots p).program (word_ip p a) ≡ None)
    instrs a i e =
        let N : Found p.program a i = found p.program a i e in
        let is : plain_ip p p.program.blocks a ≡ plain_at p N.stands.code N.n =
        ap (plain_ip p p.program.blocks) N.place
        ∙ plain_is p p.program.blocks N.b N.n N.stands.code N.stands.block (slice_get_within N.stands.code.instrs N.n i N.stands.instr) in
        go N (plain_at p N.stands.code N.n) refl is
      where
        go : (N : Found p.program a i) (t : Bool) → plain_at p N.stands.code N.n ≡ t → plain_ip p p.program.blocks a ≡ plain_at p N.stands.code N.n
            → IsMoved p.program (kept_slots p).program (place_ip p) (word_ip p) a i ⊎ (instr_at (kept_slots p).program (word_ip p a) ≡ None)
        go N true t is =
            inl (subst (λ (a : ℕ). IsMoved p.program (kept_slots p).program (place_ip p) (word_ip p) a i) (sym N.place)
            (is_moved p s N.b N.stands.code N.stands.block N.n i N.stands.instr (plain_of p N.stands.code N.n t)))
        go N false t is = inr (not_plain p a (is ∙ t))

    pair : (a : ℕ) (o : Binary) (i j : Instr) → instr_at p.program a ≡ Some i → i.op ≡ Apply2 o → instr_at (kept_slots p).program (place_ip p a) ≡ Some j
        → IsPair p.program (kept_slots p).program (place_ip p) (word_ip p) a i j
    pair a o i j at op there =
        let N : Found p.program a i = found p.program a i at in
        subst (λ (a : ℕ). IsPair p.program (kept_slots p).program (place_ip p) (word_ip p) a i j) (sym N.place)
        (is_pair p s N.b N.stands.code N.stands.block N.n i j o N.stands.instr op
        (ap (λ (a : ℕ). instr_at (kept_slots p).program (place_ip p a)) (sym N.place) ∙ there))

    landings : (base o : ℕ) → HasLanding p base o → (word_ip p (base + o) ≡ word_ip p base + o) × Plain p.program (kept_slots p).program (word_ip p) (base + o)
    landings base o L =
        let to : ℕ = L.n + L.d.ahead in
        let within = L.inside in
        let below = L.within in
        let first : slice_get L.i.firsts 0 ≡ Some L.d = ap (λ (l : List Dest). slice_get l 0) L.lands in
        let K = landing_plain p L.c L.n o L.callee L.i L.d L.instr L.links first below within in
        let x = get_some L.c.instrs (to + o) within in
        let one = plain_at_h p s L.b L.c L.block (to + o) within (landing_plain p L.c L.n o L.callee L.i L.d L.instr L.links first below within) in
        let z : to + 0 ≡ to = omega arith in
        let two = plain_at_h p s L.b L.c L.block to (omega (arith, within))
        (subst (PlainAt p L.c) z (landing_plain p L.c L.n 0 L.callee L.i L.d L.instr L.links first (omega (arith, below)) (omega (arith, within)))) in
        let row = (keeps_landings p L.c L.n 0 o L.callee L.i L.d L.instr L.links first below within).1 in
        let begins = L.begins in
        let e1 = ap (word_ip p) (let z : base + o ≡ first_of p.program L.b + (to + o) = omega (arith, begins) in z) in
        let e2 = ap (word_ip p) begins in
        let z2 : first_of p.program L.b + (to + o) ≡ base + o = omega (arith, begins) in (
          omega (arith, row, one, two, e1, e2),
          subst (Plain p.program (kept_slots p).program (word_ip p)) z2 (plain_here p s L.b L.c L.block (to + o) x.0 x.1 K),
        )

    answers : (a : ℕ) (i : Instr) → instr_at p.program a ≡ Some i → is_answered i.op ≡ true
        → (d : Dest) × (i.firsts ≡ d ∷ []) × Plain p.program (kept_slots p).program (word_ip p) (a + d.ahead)
    answers a i at is = by (found p.program a i at)
      where
        kept : (N : Found p.program a i) → PlainAt p N.stands.code N.n
        kept N = go (lit_or p N.stands.code N.n i N.stands.instr) (fold_cases p N.stands.code N.n)
          where
            no_apply : (o : Binary) → i.op ≡ Apply2 o → ⊥
            no_apply o e = true≢false (sym is ∙ ap is_answered e)

            by_op : (j : Instr) (o : Binary) → slice_get N.stands.code.instrs N.n ≡ Some j → j.op ≡ Apply2 o → ⊥
            by_op j o at_j e = let same : j ≡ i = same_Some j i (sym at_j ∙ N.stands.instr) in no_apply o (sym (ap (λ (i : Instr). i.op) same) ∙ e)

            go : (closed_uses p N.stands.code N.n ≡ []) ⊎ ((z : ℤ) × (i.op ≡ Lit z)) → FoldCase p N.stands.code N.n → PlainAt p N.stands.code N.n
            go (inr l) o = absurd (answers_no_lit i.op is l.0 l.1)
            go (inl none) (is_kept K) = record { folded = K.folded; unused = none }
            go (inl none) (is_right (D, op)) = absurd (by_op D.i D.o D.there D.was)
            go (inl none) (is_left (D, op)) = absurd (by_op D.i D.o D.there D.was)

        by : Found p.program a i → (d : Dest) × (i.firsts ≡ d ∷ []) × Plain p.program (kept_slots p).program (word_ip p) (a + d.ahead)
        by N =
            let r = answered p s N.b N.stands.code N.stands.block N.n i N.stands.instr (kept N) is in
            (r.0, r.2, subst (λ (x : ℕ). Plain p.program (kept_slots p).program (word_ip p) (x + (r.0).ahead)) (sym N.place) r.6)
