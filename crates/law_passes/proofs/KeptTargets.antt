-- What one destination makes, in the old code and in the new one.
use Rattle.std.proofs.Common.{◌≡◌, refl, sym, ap, ◌∙◌, subst, ℕ, ℤ, zero, suc, ◌+◌, ◌-◌, ◌<◌, ◌≤◌, ◌⊎◌, inl, inr, Bool, true, false, true≢false, ◌||◌, List, []}
use Rattle.std.proofs.Common.{◌∷◌, ◌++◌, length, Option, Some, None, Contains, IsPermutation, append-nil, if◌then◌else◌, arith}
use Rattle.std.specs.Prelude.{slice_get, ◌&&◌, not}
use Rattle.std.proofs.lemmas.Option.{slice_get_within, same_Some}
use Rattle.std.proofs.lemmas.List.Concat.{flat_map-append}
use Rattle.std.proofs.lemmas.List.Sorted.{IsPermutation-refl}
use Rattle.tags.specs.declared.value.Value.TheVariants.{Int}
use Rattle.tags.specs.declared.token.Port.{Port}
use Rattle.tags.specs.declared.token.Port.TheVariants.{Left, Right}
use Rattle.tags.specs.declared.token.Word.{Word}
use Rattle.tags.specs.declared.token.To.{To}
use Rattle.tags.specs.declared.token.Token.{Token}
use Rattle.semantics.specs.declared.program.Dest.{Dest}
use Rattle.semantics.specs.declared.program.Op.{Op}
use Rattle.semantics.specs.declared.program.Op.TheVariants.{Apply2, Lit}
use Rattle.semantics.specs.Program.{Instr, CodeBlock, Program, instr_at}
use Rattle.semantics.specs.Rule.{token, at_dest, to_each}
use Rattle.semantics.specs.Plan.{Plan}
use Rattle.semantics.specs.Orderly.{eq_port}
use Rattle.semantics.specs.Wired.{is_dyadic}
use Rattle.folding.specs.Folds.{is_folded, is_closed, new_port, new_op}
use Rattle.folding.specs.Places.{layout_of, folds_at, gone_at, new_place}
use Rattle.folding.specs.Moved.{new_dest, moved_dest, moved_dests}
use Rattle.folding.specs.Laws.{dests_of, SparesLiterals}
use Rattle.folding.proofs.Standing.{keeps_order}
use Rattle.folding.proofs.Taken.{leaves_out}
use Rattle.folding.proofs.Pairs.{closed_one, closed_in, closed_uses, given, wanted_one, wanted, uses_in, pairs_match}
use Rattle.folding.proofs.Cases.{value_at, KeptAt, FoldedAt, RightAt, LeftAt, FoldCase, is_kept, is_right, is_left, fold_cases, closed_by}
use Rattle.law_passes.specs.Kept.{slotted}
use Rattle.law_passes.proofs.KeptSpots.{plain_of, kept_of, stays as stands_still}
use Rattle.folding.proofs.Plain.{PlainAt}
use Rattle.std.proofs.lemmas.List.Elements.{Contains-append_left, Contains-append_right, Contains-append_cases}
use Rattle.lemmas.proofs.Contains.{contains_get, contains_head}
use Rattle.lemmas.proofs.SliceGet.{get_some}
use Rattle.law_passes.proofs.KeptClosed.{lit_or, any_shut, gone_some, gone_silent}
use Rattle.law_passes.proofs.KeptUses.{given_has, moved_has, lit_some}
use Rattle.law_passes.proofs.KeptNumbering.{is_nil, plain_at}
use Rattle.law_passes.proofs.KeptLeading.{stand_one, operand, operands, news, Made, all_made, Whole, whole_made, whole_both}
use Rattle.law_simulation.specs.Simulates.{StandsBy, StandAllBy}
use Rattle.law_simulation.specs.Places.{ip_token, ip_word}
use Rattle.law_simulation.specs.Simulates.{Fresh, HandsOn, Plain, Sends, Settles, fires_lit, hands_on, itself, left, moved, right, settled}
use Rattle.law_simulation.specs.Simulates.{stand_none, through, top}
use Rattle.law_simulation.proofs.SimulationRules.{lit_fired, nodes_behind, sends_with, settles_map}

module _ (kind : Word → Type 0) (of_value : (z : ℤ) → kind (Word.Val (Int z))) (P Q : Program) (g h : ℕ → ℕ) (p : Plan) (c : CodeBlock) (F E : ℕ)
    (spares : SparesLiterals c)
    (inside : (n k : ℕ) (i : Instr) (s : Bool) (d : Dest) → slice_get c.instrs n ≡ Some i → slice_get (dests_of i s) k ≡ Some d → n + d.ahead < length c.instrs)
    (ahead : (n k : ℕ) (i : Instr) (s : Bool) (d : Dest) → slice_get c.instrs n ≡ Some i → slice_get (dests_of i s) k ≡ Some d → 0 < d.ahead)
    (there_old : (n : ℕ) (i : Instr) → slice_get c.instrs n ≡ Some i → instr_at P (F + n) ≡ Some i)
    (there_new : (n : ℕ) (i : Instr) → slice_get c.instrs n ≡ Some i → gone_at (layout_of p c) n ≡ false
    → instr_at Q (E + new_place (layout_of p c) n) ≡ Some (slotted (layout_of p c) n i))
    (g_at : (n : ℕ) → n < length c.instrs → g (F + n) ≡ E + new_place (layout_of p c) n)
    (h_at : (n : ℕ) → n < length c.instrs → is_folded (folds_at (layout_of p c) n) ≡ false → closed_uses p c n ≡ []
    → h (F + n) ≡ E + new_place (layout_of p c) n)
    (fresh_at : (n : ℕ) (i : Instr) → slice_get c.instrs n ≡ Some i → gone_at (layout_of p c) n ≡ false → plain_at p c n ≡ false
    → Fresh P Q h (E + new_place (layout_of p c) n))
    (plain_only : (n : ℕ) → n < length c.instrs → Plain P Q h (F + n) → plain_at p c n ≡ true) where
  abbrev MadeHere : ℕ → ℕ → Word → List Dest → Type 0
  MadeHere = Made kind P Q g h p c F E

  abbrev WholeHere : ℕ → ℕ → Word → List Dest → Type 0
  WholeHere = Whole kind P Q g h p c F E

  abbrev Ops : ℕ → List ℕ → List Token
  Ops = operands kind P Q g h p c F E

  -- one destination, by what its parts are
  pub made_by : (f n : ℕ) (w : Word) (d : Dest) (cs gs ws : List ℕ) (ds : List Dest) (rest meant : List Token) → closed_one p c n d ≡ cs
      → closed_uses p c (n + d.ahead) ≡ gs → wanted_one p c n d ≡ ws → moved_dest (layout_of p c) n d ≡ ds
      → Settles (Sends P Q h (to_each record { frame = f; ip = E + new_place (layout_of p c) n } (ip_word h w) ds)) P
      (at_dest record { frame = f; ip = F + n } w d ∷ []) (Ops f cs ++ (Ops f gs ++ rest))
      → StandAllBy kind P Q g h (to_each record { frame = f; ip = E + new_place (layout_of p c) n } (ip_word h w) ds) meant
      → IsPermutation meant (rest ++ Ops f ws) → MadeHere f n w (d ∷ [])
  made_by f n w d cs gs ws ds rest meant e1 e2 e3 e4 settles stand perm =
      let c1 : closed_in p c n (d ∷ []) ≡ cs = append-nil (closed_one p c n d) ∙ e1 in
      let g1 : given p c n (d ∷ []) ≡ gs = append-nil (closed_uses p c (n + d.ahead)) ∙ e2 in
      let w1 : wanted p c n (d ∷ []) ≡ ws = append-nil (wanted_one p c n d) ∙ e3 in
      let d1 : moved_dests (layout_of p c) n (d ∷ []) ≡ ds = append-nil (moved_dest (layout_of p c) n d) ∙ e4 in
      record {
        rest = rest;
        meant = meant;
        settles =
            subst (λ (l : List Dest). Settles (Sends P Q h (to_each record { frame = f; ip = E + new_place (layout_of p c) n } (ip_word h w) l)) P
            (at_dest record { frame = f; ip = F + n } w d ∷ []) (Ops f (closed_in p c n (d ∷ [])) ++ (Ops f (given p c n (d ∷ [])) ++ rest))) (sym d1)
            (subst (λ (l : List Token). Settles (Sends P Q h (to_each record { frame = f; ip = E + new_place (layout_of p c) n } (ip_word h w) ds)) P
            (at_dest record { frame = f; ip = F + n } w d ∷ []) l) (λ k. Ops f (sym c1 k) ++ (Ops f (sym g1 k) ++ rest)) settles);
        stand =
            subst (λ (l : List Dest). StandAllBy kind P Q g h (to_each record { frame = f; ip = E + new_place (layout_of p c) n } (ip_word h w) l) meant)
            (sym d1) stand;
        perm = subst (λ (l : List ℕ). IsPermutation meant (rest ++ Ops f l)) (sym w1) perm;
      }

  module _ (f n : ℕ) (i : Instr) (s : Bool) (k : ℕ) (d : Dest) (w : Word) (at : slice_get c.instrs n ≡ Some i) (named : slice_get (dests_of i s) k ≡ Some d)
      (says : is_closed (folds_at (layout_of p c) (n + d.ahead)) d.port ≡ true → (z : ℤ) → i.op ≡ Lit z → w ≡ Word.Val (Int z))
      (deeper : (j : Instr) (z : ℤ) → slice_get c.instrs (n + d.ahead) ≡ Some j → j.op ≡ Lit z
      → WholeHere f (n + d.ahead) (Word.Val (Int z)) (j.firsts ++ j.seconds))
      (triggers : (x : ℕ) → Contains (closed_uses p c (n + d.ahead)) x → kind (ip_word h w)) where
    abbrev m : ℕ
    m = n + d.ahead

    abbrev old_token : Token
    old_token = at_dest record { frame = f; ip = F + n } w d

    abbrev here_new : ℕ
    here_new = E + new_place (layout_of p c) n

    m_low : m < length c.instrs
    m_low = inside n k i s d at named

    n_stays : is_closed (folds_at (layout_of p c) (n + d.ahead)) d.port ≡ false → gone_at (layout_of p c) n ≡ false
    n_stays shut = go (gone_at (layout_of p c) n) refl
      where
        go : (b : Bool) → gone_at (layout_of p c) n ≡ b → gone_at (layout_of p c) n ≡ false
        go false e = e
        go true e = absurd (true≢false (sym ((leaves_out p c n i at e).closed s k d named) ∙ shut))

    -- where the new destination leads
    to_new : gone_at (layout_of p c) n ≡ false → here_new + (new_place (layout_of p c) m - new_place (layout_of p c) n) ≡ E + new_place (layout_of p c) m
    to_new stays =
        let low = m_low in
        let more = ahead n k i s d at named in
        let o = keeps_order p c n m (omega (arith, more)) low stays in
        omega (arith, o)

    old_at : old_token ≡ token (To.Instr f (F + m) d.port) w
    old_at = (let e : F + n + d.ahead ≡ F + (n + d.ahead) = omega arith in ap (λ (x : ℕ). token (To.Instr f x d.port) w) e)

    open_dest : gone_at (layout_of p c) m ≡ false → is_closed (folds_at (layout_of p c) (n + d.ahead)) d.port ≡ false
        → moved_dest (layout_of p c) n d ≡ new_dest (layout_of p c) n m d.port ∷ []
    open_dest a b = (λ t. if a t || b t then [] else new_dest (layout_of p c) n (n + d.ahead) d.port ∷ [])

    -- the new token
    new_token : gone_at (layout_of p c) n ≡ false → (q : Port) → new_port (folds_at (layout_of p c) m) d.port ≡ q
        → at_dest record { frame = f; ip = here_new } (ip_word h w) (new_dest (layout_of p c) n m d.port)
        ≡ token (To.Instr f (E + new_place (layout_of p c) m) q) (ip_word h w)
    new_token stays q e = (λ t. token (To.Instr f (to_new stays t) (e t)) (ip_word h w))

    -- an instruction that is still there, whose tokens stand for themselves
    plain_made : KeptAt p c m → closed_uses p c m ≡ [] → gone_at (layout_of p c) m ≡ false → (j : Instr) → slice_get c.instrs m ≡ Some j
        → MadeHere f n w (d ∷ [])
    plain_made K none stays j at_m =
        let shut : is_closed (folds_at (layout_of p c) (n + d.ahead)) d.port ≡ false = K.shut d.port in
        let seen = at_dest record { frame = f; ip = here_new } (ip_word h w) (new_dest (layout_of p c) n m d.port) in
        let same : seen ≡ ip_token h old_token =
        new_token (n_stays shut) d.port (K.port d.port) ∙ ap (λ (x : ℕ). token (To.Instr f x d.port) (ip_word h w)) (sym (h_at m m_low K.folded none))
        ∙ ap (ip_token h) (sym old_at) in
        let fits : Plain P Q h (F + m) =
        itself j (slotted (layout_of p c) m j) (there_old m j at_m) (ap (instr_at Q) (h_at m m_low K.folded none) ∙ there_new m j at_m stays) in
        made_by f n w d [] [] [] (new_dest (layout_of p c) n m d.port ∷ []) (old_token ∷ []) (old_token ∷ []) (λ t. if shut t then m ∷ [] else []) none
        (ap (λ (b : Bool). if b && not (is_closed (folds_at (layout_of p c) (n + d.ahead)) d.port) then m ∷ [] else []) K.folded) (open_dest stays shut)
        (settled (old_token ∷ []) (old_token ∷ []) (IsPermutation-refl _))
        (stand_one kind P Q g h seen (old_token ∷ [])
        (moved seen (old_token ∷ []) old_token same refl (let e : F + (n + d.ahead) ≡ F + n + d.ahead = omega arith in subst (Plain P Q h) e fits)))
        (IsPermutation-refl _)

    same_perm : (xs ys : List Token) → xs ≡ ys → IsPermutation xs ys
    same_perm xs ys e = subst (IsPermutation xs) e (IsPermutation-refl xs)

    lit_left : (j : Instr) (z : ℤ) → slice_get c.instrs m ≡ Some j → j.op ≡ Lit z → d.port ≡ Left
    lit_left j z at_m op = go d.port refl
      where
        go : (q : Port) → d.port ≡ q → d.port ≡ Left
        go Left e = e
        go Right e = absurd (true≢false (sym (spares n k i s d j at named at_m e) ∙ ap is_dyadic op))

    -- a literal that fires at once
    lit_made : KeptAt p c m → (j : Instr) (z : ℤ) → slice_get c.instrs m ≡ Some j → j.op ≡ Lit z → (x : ℕ) (xs : List ℕ) → closed_uses p c m ≡ x ∷ xs
        → MadeHere f n w (d ∷ [])
    lit_made K j z at_m op x xs some = go (gone_at (layout_of p c) m) refl
      where
        W : WholeHere f (n + d.ahead) (Word.Val (Int z)) (j.firsts ++ j.seconds)
        W = deeper j z at_m op

        of_kind : kind (ip_word h w)
        of_kind = triggers x (subst (λ (l : List ℕ). Contains l x) (sym some) (contains_head x xs))

        not_none : closed_uses p c m ≡ [] → ⊥
        not_none e = let k : x ∷ xs ≡ [] = sym some ∙ e in cc

        not_plain : plain_at p c m ≡ false
        not_plain = (λ k. not (K.folded k) && is_nil (some k))

        shut : is_closed (folds_at (layout_of p c) (n + d.ahead)) d.port ≡ false
        shut = K.shut d.port

        uses : closed_uses p c m ≡ closed_in p c m (j.firsts ++ j.seconds)
        uses = ap (λ (o : Option Instr). closed_in p c m (uses_in p c o)) at_m

        port : d.port ≡ Left
        port = lit_left j z at_m op

        settles : (R : ℕ → ℕ → Type 0) → R f (F + m)
            → ((k l : ℕ) → Sends P Q h (news kind P Q g h p c F E f m (Word.Val (Int z)) (j.firsts ++ j.seconds)) k l → R k l)
            → Settles R P (old_token ∷ []) (Ops f [] ++ (Ops f (closed_in p c m (j.firsts ++ j.seconds)) ++ W.meant))
        settles R may turn =
            lit_fired R P (old_token ∷ []) (Ops f (closed_in p c m (j.firsts ++ j.seconds)) ++ W.meant) f (F + m) w z j []
            (same_perm (old_token ∷ []) (token (To.Instr f (F + m) Left) w ∷ [])
            (ap (λ (t : Token). t ∷ []) (old_at ∙ ap (λ (q : Port). token (To.Instr f (F + m) q) w) port))) (there_old m j at_m) op
            (subst (λ (l : List Token). Settles R P l (Ops f (closed_in p c m (j.firsts ++ j.seconds)) ++ W.meant)) (sym (append-nil (fires_lit f (F + m) z j)))
            (settles_map (Sends P Q h (news kind P Q g h p c F E f m (Word.Val (Int z)) (j.firsts ++ j.seconds))) R turn P (fires_lit f (F + m) z j)
            (Ops f (closed_in p c m (j.firsts ++ j.seconds)) ++ W.meant) W.settles)) may

        -- it does not stand for itself
        not_itself : Plain P Q h (F + m) → ⊥
        not_itself L = true≢false (sym (plain_only m m_low L) ∙ not_plain)

        -- a destination of it
        use_of : (i2 : Instr) (u : Dest) → instr_at P (F + m) ≡ Some i2 → Contains (i2.firsts ++ i2.seconds) u
            → (t : Bool) × (v : ℕ) × (slice_get (dests_of j t) v ≡ Some u)
        use_of i2 u at2 k =
            go (Contains-append_cases j.firsts j.seconds u
            (subst (λ (i : Instr). Contains (i.firsts ++ i.seconds) u) (same_Some i2 j (sym at2 ∙ there_old m j at_m)) k))
          where
            go : Contains j.firsts u ⊎ Contains j.seconds u → (t : Bool) × (v : ℕ) × (slice_get (dests_of j t) v ≡ Some u)
            go (inl k) = let r = contains_get j.firsts u k in (false, r.0, r.1)
            go (inr k) = let r = contains_get j.seconds u k in (true, r.0, r.1)

        -- and what it leads to, if that stands for itself
        use_plain : (t : Bool) (v : ℕ) (u : Dest) → slice_get (dests_of j t) v ≡ Some u → Plain P Q h (F + m + u.ahead) → PlainAt p c (m + u.ahead)
        use_plain t v u named L =
            let e : F + m + u.ahead ≡ F + (m + u.ahead) = omega arith in
            plain_of p c (m + u.ahead) (plain_only (m + u.ahead) (inside m v j t u at_m named) (subst (Plain P Q h) e L))

        gone_sends : gone_at (layout_of p c) m ≡ true → (new : List Token) → Sends P Q h new f (F + m)
        gone_sends gone new = inl (
          not_itself,
          λ i2 u at2 k L.
              (let r = use_of i2 u at2 k in let M = use_plain r.0 r.1 u r.2 L in
              absurd (true≢false (sym ((leaves_out p c m j at_m gone).closed r.0 r.1 u r.2) ∙ (kept_of p c (m + u.ahead) M.folded).shut u.port))),
        )

        kept_sends : gone_at (layout_of p c) m ≡ false → (seen : Token) → seen.to ≡ To.Instr f (E + new_place (layout_of p c) m) Left
            → Sends P Q h (seen ∷ []) f (F + m)
        kept_sends stays seen to = inl (
          not_itself,
          λ i2 u at2 k L.
              (let r = use_of i2 u at2 k in
              let M = use_plain r.0 r.1 u r.2 L in
              let low = inside m r.1 j r.0 u at_m r.2 in
              let up = ahead m r.1 j r.0 u at_m r.2 in
              let o = get_some c.instrs (m + u.ahead) low in
              let order = keeps_order p c m (m + u.ahead) (omega (arith, up)) low stays in
              let kept = kept_of p c (m + u.ahead) M.folded in
              let here = stands_still p c (m + u.ahead) o.0 o.1 M.unused in
              let spot = h_at (m + u.ahead) low M.folded M.unused in
              let e : F + (m + u.ahead) ≡ F + m + u.ahead = omega arith in
              let eh = ap h e in
              record {
                ip = E + new_place (layout_of p c) m;
                j = slotted (layout_of p c) m j;
                d = new_dest (layout_of p c) m (m + u.ahead) u.port;
                node =
                    top (E + new_place (layout_of p c) m) seen (slotted (layout_of p c) m j) (contains_head seen []) to (there_new m j at_m stays)
                    (ap hands_on (K.op j.op ∙ op)) (fresh_at m j at_m stays not_plain);
                at = there_new m j at_m stays;
                op = ap hands_on (K.op j.op ∙ op);
                named = in_side r.0 (moved_has p c m (dests_of j r.0) r.1 u r.2 (λ b. here b || kept.shut u.port b));
                place = omega (arith, spot, eh, order);
                port = kept.port u.port;
              }),
        )
          where
            in_side : (t : Bool) {x : Dest} → Contains (moved_dests (layout_of p c) m (dests_of j t)) x
                → Contains (moved_dests (layout_of p c) m j.firsts ++ moved_dests (layout_of p c) m j.seconds) x
            in_side false {x} k = Contains-append_left (moved_dests (layout_of p c) m j.firsts) (moved_dests (layout_of p c) m j.seconds) x k
            in_side true {x} k = Contains-append_right (moved_dests (layout_of p c) m j.firsts) (moved_dests (layout_of p c) m j.seconds) x k

        splits : moved_dests (layout_of p c) m (j.firsts ++ j.seconds) ≡ moved_dests (layout_of p c) m j.firsts ++ moved_dests (layout_of p c) m j.seconds
        splits = flat_map-append (moved_dest (layout_of p c) m) j.firsts j.seconds

        no_wants : wanted_one p c n d ≡ []
        no_wants = ap (λ (b : Bool). if b && not (is_closed (folds_at (layout_of p c) (n + d.ahead)) d.port) then m ∷ [] else []) K.folded

        go : (b : Bool) → gone_at (layout_of p c) m ≡ b → MadeHere f n w (d ∷ [])
        go true gone =
            let silent : moved_dests (layout_of p c) m (j.firsts ++ j.seconds) ≡ [] = splits
            ∙ (λ t. gone_silent p c m j false at_m gone t ++ gone_silent p c m j true at_m gone t) in
            made_by f n w d [] (closed_in p c m (j.firsts ++ j.seconds)) [] [] W.meant W.meant (λ t. if shut t then m ∷ [] else []) uses no_wants
            (λ t. if gone t || is_closed (folds_at (layout_of p c) (n + d.ahead)) d.port then [] else new_dest (layout_of p c) n (n + d.ahead) d.port ∷ [])
            (settles (Sends P Q h []) (gone_sends gone [])
            (λ k l N. subst (λ (ds : List Dest). Sends P Q h (to_each record { frame = f; ip = E + new_place (layout_of p c) m } (Word.Val (Int z)) ds) k l)
            silent N))
            (subst (λ (l : List Dest). StandAllBy kind P Q g h
            (to_each record { frame = f; ip = E + new_place (layout_of p c) m } (Word.Val (Int z)) l) W.meant) silent W.stand)
            (same_perm W.meant (W.meant ++ []) (sym (append-nil W.meant)))
        go false stays =
            let more = lit_some p c spares inside m j z at_m op stays not_none in
            let seen = at_dest record { frame = f; ip = here_new } (ip_word h w) (new_dest (layout_of p c) n m d.port) in
            let to_seen : seen.to ≡ To.Instr f (E + new_place (layout_of p c) m) Left =
            ap (λ (t : Token). t.to) (new_token (n_stays shut) Left (K.port d.port ∙ port)) in
            let all : StandAllBy kind P Q g h (fires_lit f (E + new_place (layout_of p c) m) z (slotted (layout_of p c) m j)) W.meant =
            subst (λ (l : List Dest). StandAllBy kind P Q g h (to_each record { frame = f; ip = E + new_place (layout_of p c) m } (Word.Val (Int z)) l) W.meant)
            splits W.stand in
            let st : StandsBy kind P Q g h seen W.meant =
            through seen W.meant f (E + new_place (layout_of p c) m) (ip_word h w) (Word.Val (Int z)) (slotted (layout_of p c) m j)
            (new_token (n_stays shut) Left (K.port d.port ∙ port)) (there_new m j at_m stays)
            (subst (λ (op : Op). HandsOn kind op (ip_word h w) (Word.Val (Int z))) (sym (K.op j.op ∙ op)) (refl, of_kind)) all more.0 more.1
            (fresh_at m j at_m stays not_plain) in
            made_by f n w d [] (closed_in p c m (j.firsts ++ j.seconds)) [] (new_dest (layout_of p c) n m d.port ∷ []) W.meant W.meant
            (λ t. if shut t then m ∷ [] else []) uses no_wants (open_dest stays shut)
            (settles (Sends P Q h (seen ∷ [])) (kept_sends stays seen to_seen)
            (λ k l N. sends_with P Q h (fires_lit f (E + new_place (layout_of p c) m) z (slotted (layout_of p c) m j)) (seen ∷ [])
            (λ k ip. nodes_behind P Q h f (E + new_place (layout_of p c) m) (Word.Val (Int z)) (slotted (layout_of p c) m j) seen to_seen
            (there_new m j at_m stays) (ap hands_on (K.op j.op ∙ op)) (fresh_at m j at_m stays not_plain) k ip) k l
            (subst (λ (ds : List Dest). Sends P Q h (to_each record { frame = f; ip = E + new_place (layout_of p c) m } (Word.Val (Int z)) ds) k l) splits N)))
            (stand_one kind P Q g h seen W.meant st) (same_perm W.meant (W.meant ++ []) (sym (append-nil W.meant)))

    -- ---- A FOLDED OPERATOR
    apply_no_lit : (qc : Port) (D : FoldedAt p c m qc) → closed_uses p c m ≡ []
    apply_no_lit qc D = go (lit_or p c m D.i D.there)
      where
        apart : (z : ℤ) → Apply2 D.o ≡ Lit z → ⊥
        apart z e = cc

        go : (closed_uses p c m ≡ []) ⊎ ((z : ℤ) × (D.i.op ≡ Lit z)) → closed_uses p c m ≡ []
        go (inl e) = e
        go (inr l) = absurd (apart l.0 (sym D.was ∙ l.1))

    closed_made : (qc : Port) (D : FoldedAt p c m qc) → is_closed (folds_at (layout_of p c) (n + d.ahead)) d.port ≡ true → MadeHere f n w (d ∷ [])
    closed_made qc D shut =
        let by = closed_by p c n k i s d at named shut in
        let same : old_token ≡ operand kind P Q g h p c F E f m = old_at ∙ (λ t. token (To.Instr f (F + m) (by.1 t)) (says shut (value_at p c m) by.0 t)) in
        made_by f n w d (m ∷ []) [] [] [] [] [] (λ t. if shut t then m ∷ [] else []) (apply_no_lit qc D)
        (λ t. if D.folded t && not (shut t) then m ∷ [] else [])
        (go (gone_at (layout_of p c) m) (is_closed (folds_at (layout_of p c) (n + d.ahead)) d.port) shut)
        (settled (old_token ∷ []) (operand kind P Q g h p c F E f m ∷ [])
        (same_perm (old_token ∷ []) (operand kind P Q g h p c F E f m ∷ []) (ap (λ (t : Token). t ∷ []) same))) (stand_none [] [] refl refl)
        (IsPermutation-refl [])
      where
        go : (a b : Bool) → b ≡ true → (if a || b then [] else new_dest (layout_of p c) n (n + d.ahead) d.port ∷ []) ≡ []
        go true b e = refl
        go false b e = (λ t. if e t then [] else new_dest (layout_of p c) n (n + d.ahead) d.port ∷ [])

    open_made : (qc : Port) (D : FoldedAt p c m qc) → is_closed (folds_at (layout_of p c) (n + d.ahead)) d.port ≡ false
        → (gone_at (layout_of p c) m ≡ false → (t : Token) → t ≡ token (To.Instr f (g (F + m)) Left) (ip_word h w)
        → StandsBy kind P Q g h t (old_token ∷ operand kind P Q g h p c F E f m ∷ [])) → MadeHere f n w (d ∷ [])
    open_made qc D shut stand =
        let uses : closed_uses p c m ≡ [] = apply_no_lit qc D in
        let stays : gone_at (layout_of p c) m ≡ false = go uses (gone_at (layout_of p c) m) refl in
        let seen = at_dest record { frame = f; ip = here_new } (ip_word h w) (new_dest (layout_of p c) n m d.port) in
        let is : seen ≡ token (To.Instr f (g (F + m)) Left) (ip_word h w) = new_token (n_stays shut) Left (D.port d.port)
        ∙ ap (λ (x : ℕ). token (To.Instr f x Left) (ip_word h w)) (sym (g_at m m_low)) in
        made_by f n w d [] [] (m ∷ []) (new_dest (layout_of p c) n m d.port ∷ []) (old_token ∷ []) (old_token ∷ operand kind P Q g h p c F E f m ∷ [])
        (λ t. if shut t then m ∷ [] else []) uses
        (λ t. if D.folded t && not (shut t) then m ∷ [] else []) (open_dest stays shut) (settled (old_token ∷ []) (old_token ∷ []) (IsPermutation-refl _))
        (stand_one kind P Q g h seen (old_token ∷ operand kind P Q g h p c F E f m ∷ []) (stand stays seen is)) (IsPermutation-refl _)
      where
        go : closed_uses p c m ≡ [] → (b : Bool) → gone_at (layout_of p c) m ≡ b → gone_at (layout_of p c) m ≡ false
        go none false e = e
        go none true e = absurd (gone_some p c m D.i D.there e none)

    pair_fresh : (qc : Port) (D : FoldedAt p c m qc) → gone_at (layout_of p c) m ≡ false → Fresh P Q h (g (F + m))
    pair_fresh qc D stays =
        subst (Fresh P Q h) (sym (g_at m m_low)) (fresh_at m D.i D.there stays (ap (λ (b : Bool). not b && is_nil (closed_uses p c m)) D.folded))

    other_left : (q : Port) → eq_port q Right ≡ false → q ≡ Left
    other_left Left e = refl
    other_left Right e = absurd (cc)

    other_right : (q : Port) → eq_port q Left ≡ false → q ≡ Right
    other_right Right e = refl
    other_right Left e = absurd (cc)

    right_made : RightAt p c m → MadeHere f n w (d ∷ [])
    right_made (D, op) = go (is_closed (folds_at (layout_of p c) (n + d.ahead)) d.port) refl
      where
        go : (b : Bool) → is_closed (folds_at (layout_of p c) (n + d.ahead)) d.port ≡ b → MadeHere f n w (d ∷ [])
        go true e = closed_made Right D e
        go false e = open_made Right D e (λ stays t is.
            (let port : d.port ≡ Left = other_left d.port (sym (D.shut d.port) ∙ e) in
            let both : old_token ∷ operand kind P Q g h p c F E f m ∷ [] ≡ token (To.Instr f (F + m) Left) w
            ∷ token (To.Instr f (F + m) Right) (Word.Val (Int (value_at p c m))) ∷ [] =
            (λ x. (old_at ∙ ap (λ (q : Port). token (To.Instr f (F + m) q) w) port) x
            ∷ token (To.Instr f (F + m) (D.closed x)) (Word.Val (Int (value_at p c m))) ∷ []) in
            right t (old_token ∷ operand kind P Q g h p c F E f m ∷ []) f (F + m) w D.o (value_at p c m) D.i (slotted (layout_of p c) m D.i) is
            (there_old m D.i D.there) D.was
            (ap (instr_at Q) (g_at m m_low) ∙ there_new m D.i D.there stays) (ap (new_op (folds_at (layout_of p c) m)) D.was ∙ op D.o) both
            (pair_fresh Right D stays)))

    left_made : LeftAt p c m → MadeHere f n w (d ∷ [])
    left_made (D, op) = go (is_closed (folds_at (layout_of p c) (n + d.ahead)) d.port) refl
      where
        go : (b : Bool) → is_closed (folds_at (layout_of p c) (n + d.ahead)) d.port ≡ b → MadeHere f n w (d ∷ [])
        go true e = closed_made Left D e
        go false e = open_made Left D e (λ stays t is.
            (let port : d.port ≡ Right = other_right d.port (sym (D.shut d.port) ∙ e) in
            let both : old_token ∷ operand kind P Q g h p c F E f m ∷ [] ≡ token (To.Instr f (F + m) Right) w
            ∷ token (To.Instr f (F + m) Left) (Word.Val (Int (value_at p c m))) ∷ [] =
            (λ x. (old_at ∙ ap (λ (q : Port). token (To.Instr f (F + m) q) w) port) x
            ∷ token (To.Instr f (F + m) (D.closed x)) (Word.Val (Int (value_at p c m))) ∷ []) in
            left t (old_token ∷ operand kind P Q g h p c F E f m ∷ []) f (F + m) w D.o (value_at p c m) D.i (slotted (layout_of p c) m D.i) is
            (there_old m D.i D.there) D.was
            (ap (instr_at Q) (g_at m m_low) ∙ there_new m D.i D.there stays) (ap (new_op (folds_at (layout_of p c) m)) D.was ∙ op D.o) both
            (pair_fresh Left D stays)))

    one_made : MadeHere f n w (d ∷ [])
    one_made = pick (fold_cases p c m)
      where
        pick : FoldCase p c m → MadeHere f n w (d ∷ [])
        pick (is_right R) = right_made R
        pick (is_left L) = left_made L
        pick (is_kept K) = at_instr (slice_get c.instrs m) refl
          where
            by_uses : (j : Instr) → slice_get c.instrs m ≡ Some j → (us : List ℕ) → closed_uses p c m ≡ us
                → (closed_uses p c m ≡ []) ⊎ ((z : ℤ) × (j.op ≡ Lit z)) → MadeHere f n w (d ∷ [])
            by_uses j at_m [] e o = stays (gone_at (layout_of p c) m) refl
              where
                stays : (b : Bool) → gone_at (layout_of p c) m ≡ b → MadeHere f n w (d ∷ [])
                stays false g = plain_made K e g j at_m
                stays true g = absurd (gone_some p c m j at_m g e)
            by_uses j at_m (x ∷ xs) e (inl none) = absurd (let k : x ∷ xs ≡ [] = sym e ∙ none in cc)
            by_uses j at_m (x ∷ xs) e (inr l) = lit_made K j l.0 at_m l.1 x xs e

            at_instr : (o : Option Instr) → slice_get c.instrs m ≡ o → MadeHere f n w (d ∷ [])
            at_instr None e = absurd (let k = m_low in let r = get_some c.instrs m k in let q : Some r.0 ≡ None = sym r.1 ∙ e in cc)
            at_instr (Some j) e = by_uses j e (closed_uses p c m) refl (lit_or p c m j e)

  -- ---- WHOLE LISTS
  abbrev Says : Instr → Word → Type 0
  Says i w = (z : ℤ) → i.op ≡ Lit z → w ≡ Word.Val (Int z)

  abbrev Deeper : ℕ → ℕ → Type 0
  Deeper f n = (m : ℕ) → n < m → (j : Instr) (z : ℤ) → slice_get c.instrs m ≡ Some j → j.op ≡ Lit z → WholeHere f m (Word.Val (Int z)) (j.firsts ++ j.seconds)

  -- what triggers literals is of the kind
  abbrev Triggers : ℕ → Word → List Dest → Type 0
  Triggers n w ds = (x : ℕ) → Contains (given p c n ds) x → kind (ip_word h w)

  side_whole : (f n : ℕ) (i : Instr) (s : Bool) (w : Word) → slice_get c.instrs n ≡ Some i → Says i w → Deeper f n → Triggers n w (dests_of i s)
      → WholeHere f n w (dests_of i s)
  side_whole f n i s w at says deeper kinds =
      whole_made kind P Q g h p c F E f n w (dests_of i s) (pairs_match p c spares inside n i s at)
      (all_made kind P Q g h p c F E f n w (dests_of i s)
      (λ k d e. one_made f n i s k d w at e (λ shut. says) (λ j z at_m op. deeper (n + d.ahead) (let a = ahead n k i s d at e in omega (arith, a)) j z at_m op)
      (λ x inside. kinds x (given_has p c n (dests_of i s) k d x e inside))))

  both_whole : (f n : ℕ) (i : Instr) (w : Word) → slice_get c.instrs n ≡ Some i → Says i w → Deeper f n → kind (ip_word h w)
      → WholeHere f n w (i.firsts ++ i.seconds)
  both_whole f n i w at says deeper is =
      whole_both kind P Q g h p c F E f n w i.firsts i.seconds (side_whole f n i false w at says deeper (λ x k. is))
      (side_whole f n i true w at says deeper (λ x k. is))

  lit_value : (y z : ℤ) → Lit y ≡ Lit z → y ≡ z
  lit_value y z e = cc

  lits_whole : (k : ℕ) (f m : ℕ) (j : Instr) (z : ℤ) → length c.instrs ≤ m + k → slice_get c.instrs m ≡ Some j → j.op ≡ Lit z
      → WholeHere f m (Word.Val (Int z)) (j.firsts ++ j.seconds)
  lits_whole zero f m j z long at op = absurd (let l = slice_get_within c.instrs m j at in omega (arith, l, long))
  lits_whole (suc k) f m j z long at op =
      both_whole f m j (Word.Val (Int z)) at (λ y e. ap (λ (y : ℤ). Word.Val (Int y)) (lit_value z y (sym op ∙ e)))
      (λ x more i y at_x is. lits_whole k f x i y (omega (arith, long, more)) at_x is) (of_value z)

  deep : (f n : ℕ) → Deeper f n
  deep f n m more j z at op = lits_whole (length c.instrs) f m j z (omega arith) at op

  -- a list without closed ports leads where it led, whatever the word
  pub open_leads : (n : ℕ) (i : Instr) (s : Bool) → slice_get c.instrs n ≡ Some i → closed_in p c n (dests_of i s) ≡ [] → (f : ℕ) (w : Word)
      → Triggers n w (dests_of i s) → WholeHere f n w (dests_of i s)
  open_leads n i s at none f w kinds =
      whole_made kind P Q g h p c F E f n w (dests_of i s) (pairs_match p c spares inside n i s at)
      (all_made kind P Q g h p c F E f n w (dests_of i s)
      (λ k d e. one_made f n i s k d w at e (λ shut. absurd (any_shut p c n (dests_of i s) k d e shut none))
      (λ j z at_m op. deep f n (n + d.ahead) (let a = ahead n k i s d at e in omega (arith, a)) j z at_m op)
      (λ x inside. kinds x (given_has p c n (dests_of i s) k d x e inside))))
