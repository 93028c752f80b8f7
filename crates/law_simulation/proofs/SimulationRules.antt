-- What an instruction does in its new place: the tokens that it makes stand for what results from those that it made.
use Rattle.std.proofs.Common.{◌≡◌, refl, sym, ap, ◌∙◌, subst, ℕ, ◌+◌, ◌⊎◌, inl, inr, true, List, [], ◌∷◌, ◌++◌, ℤ, Some}
use Rattle.std.proofs.Common.{Contains, IsPermutation, append_assoc}
use Rattle.std.specs.Prelude.{⊤}
use Rattle.std.proofs.lemmas.List.Sorted.{IsPermutation-refl, IsPermutation-trans, IsPermutation-append_left, IsPermutation-append_comm}
use Rattle.lemmas.proofs.Contains.{contains_head, contains_mapped, contains_tail}
use Rattle.tags.specs.declared.token.Port.{Port}
use Rattle.tags.specs.declared.token.Port.TheVariants.{Left}
use Rattle.tags.specs.declared.token.Cont.{Cont}
use Rattle.tags.specs.declared.token.Word.{Word}
use Rattle.tags.specs.declared.token.To.{To}
use Rattle.tags.specs.declared.token.Token.{Token}
use Rattle.semantics.specs.declared.program.Op.{Op}
use Rattle.semantics.specs.declared.program.Op.TheVariants.{Lit, Copy}
use Rattle.tags.specs.declared.value.Value.TheVariants.{Int}
use Rattle.law_simulation.proofs.SimulationFires.{hands_op}
use Rattle.semantics.specs.Program.{Instr, Program, instr_at}
use Rattle.semantics.specs.Rule.{token, signal, at_dest, to_all, back_to, Outcome, Becomes, Excluded}
use Rattle.law_confluence.proofs.Orders.{shuffled, Part, ◌⊕◌}
use Rattle.std.proofs.lemmas.List.Sorted.{Contains-permutation}
use Rattle.lemmas.proofs.Contains.{contains_cases}
use Rattle.std.proofs.lemmas.List.Elements.{Contains-append_right}
use Rattle.law_simulation.specs.Places.{ip_cont, ip_slot, ip_token, ip_word}
use Rattle.law_simulation.specs.Simulates.{Clumped, Fits, Fresh, HandsOn, Node, Pairs, Pend, Ready, Sends, Settles, fired, fires_lit, hands_on, moved, next}
use Rattle.law_simulation.specs.Simulates.{settled, stand_more, stand_none, top}

-- ---- WHAT RESULTS FROM TOKENS
pub settles_map : (R T : ℕ → ℕ → Type 0) → ((f l : ℕ) → R f l → T f l) → (p : Program) (xs ys : List Token) → Settles R p xs ys → Settles T p xs ys
settles_map R T turn p xs ys (settled us vs e) = settled xs ys e
settles_map R T turn p xs ys (fired us vs f a w v i rest d at is k may) =
    fired xs ys f a w v i rest d at is (settles_map R T turn p (to_all record { frame = f; ip = a } v i ++ rest) ys k) (turn f a may)

pub settles_perm : (R : ℕ → ℕ → Type 0) (p : Program) (zs xs ys : List Token) → IsPermutation zs xs → Settles R p xs ys → Settles R p zs ys
settles_perm R p zs xs ys e (settled us vs d) = settled zs ys (IsPermutation-trans _ _ _ e d)
settles_perm R p zs xs ys e (fired us vs f a w v i rest d at is k may) = fired zs ys f a w v i rest (IsPermutation-trans _ _ _ e d) at is k may

-- beside others
pub settles_beside : (R : ℕ → ℕ → Type 0) (p : Program) (xs ys zs : List Token) → Settles R p xs ys → Settles R p (xs ++ zs) (ys ++ zs)
settles_beside R p xs ys zs (settled us vs d) = settled (xs ++ zs) (ys ++ zs) (IsPermutation-append_left zs xs ys d)
settles_beside R p xs ys zs (fired us vs f a w v i rest d at is k may) =
    fired (xs ++ zs) (ys ++ zs) f a w v i (rest ++ zs) (IsPermutation-append_left zs xs (token (To.Instr f a Left) w ∷ rest) d) at is
    (subst (λ (l : List Token). Settles R p l (ys ++ zs)) (append_assoc (to_all record { frame = f; ip = a } v i) rest zs) (settles_beside R p
    (to_all record { frame = f; ip = a } v i ++ rest) ys zs k))
    may

pub settles_then : (R : ℕ → ℕ → Type 0) (p : Program) (xs ys zs : List Token) → Settles R p xs ys → IsPermutation ys zs → Settles R p xs zs
settles_then R p xs ys zs (settled us vs d) e = settled xs zs (IsPermutation-trans _ _ _ d e)
settles_then R p xs ys zs (fired us vs f a w v i rest d at is k may) e =
    fired xs zs f a w v i rest d at is (settles_then R p (to_all record { frame = f; ip = a } v i ++ rest) ys zs k e) may

pub settles_after : (R : ℕ → ℕ → Type 0) (p : Program) (xs ys zs : List Token) → Settles R p xs ys → Settles R p (zs ++ xs) (zs ++ ys)
settles_after R p xs ys zs k =
    settles_perm R p (zs ++ xs) (xs ++ zs) (zs ++ ys) (IsPermutation-append_comm zs xs)
    (settles_then R p (xs ++ zs) (ys ++ zs) (zs ++ ys) (settles_beside R p xs ys zs k) (IsPermutation-append_comm ys zs))

-- a literal fires
pub lit_fired : (R : ℕ → ℕ → Type 0) (p : Program) (xs ys : List Token) (f a : ℕ) (w : Word) (z : ℤ) (i : Instr) (rest : List Token)
    → IsPermutation xs (token (To.Instr f a Left) w ∷ rest) → instr_at p a ≡ Some i → i.op ≡ Lit z → Settles R p (fires_lit f a z i ++ rest) ys → R f a
    → Settles R p xs ys
lit_fired R p xs ys f a w z i rest e at is k may =
    fired xs ys f a w (Word.Val (Int z)) i rest e at (subst (λ (op : Op). HandsOn (λ w. ⊤) op w (Word.Val (Int z))) (sym is) (refl, tt)) k may

-- and a copy
pub copy_fired : (R : ℕ → ℕ → Type 0) (p : Program) (xs ys : List Token) (f a : ℕ) (w : Word) (i : Instr) (rest : List Token)
    → IsPermutation xs (token (To.Instr f a Left) w ∷ rest) → instr_at p a ≡ Some i → i.op ≡ Copy
    → Settles R p (to_all record { frame = f; ip = a } w i ++ rest) ys → R f a → Settles R p xs ys
copy_fired R p xs ys f a w i rest e at is k may =
    fired xs ys f a w w i rest e at (subst (λ (op : Op). HandsOn (λ w. ⊤) op w w) (sym is) refl) k may

-- what is at none that passes on is there still
pub settles_keeps : (R : ℕ → ℕ → Type 0) (p : Program) (xs ys : List Token) → Settles R p xs ys → (t : Token)
    → ((f a : ℕ) (w : Word) (i : Instr) → R f a → t ≡ token (To.Instr f a Left) w → instr_at p a ≡ Some i → hands_on i.op ≡ true → ⊥) → Contains xs t
    → Contains ys t
settles_keeps R p xs ys (settled us vs e) t other inside = Contains-permutation _ _ t e inside
settles_keeps R p xs ys (fired us vs f a w v i rest e at op more may) t other inside =
    settles_keeps R p (to_all record { frame = f; ip = a } v i ++ rest) ys more t other
    (go (contains_cases (token (To.Instr f a Left) w) rest t (Contains-permutation _ _ t e inside)))
  where
    go : (token (To.Instr f a Left) w ≡ t) ⊎ Contains rest t → Contains (to_all record { frame = f; ip = a } v i ++ rest) t
    go (inl same) = absurd (other f a w i may (sym same) at (hands_op (λ w. ⊤) i.op w v op))
    go (inr c) = Contains-append_right (to_all record { frame = f; ip = a } v i) rest t c

-- ---- LITERALS ON THEIR WAY
module _ (p q : Program) (h : ℕ → ℕ) where
  pub node_grows : (f : ℕ) (xs ys : List Token) → ((t : Token) → Contains xs t → Contains ys t) → (ip : ℕ) → Node p q h f xs ip → Node p q h f ys ip
  node_grows f xs ys grows ip (top x t j c to at op fresh) = top ip t j (grows t c) to at op fresh
  node_grows f xs ys grows ip (next x up k j d n there is c place port at op fresh) =
      next ip up k j d (node_grows f xs ys grows up n) there is c place port at op fresh

  pub pend_with : (f a : ℕ) (r : Port) (xs ys : List Token) → ((ip : ℕ) → Node p q h f xs ip → Node p q h f ys ip) → Pend p q h f a r xs → Pend p q h f a r ys
  pend_with f a r xs ys turn N =
      record { ip = N.ip; j = N.j; d = N.d; node = turn N.ip N.node; at = N.at; op = N.op; named = N.named; place = N.place; port = N.port }

  pub sends_with : (xs ys : List Token) → ((f ip : ℕ) → Node p q h f xs ip → Node p q h f ys ip) → (f l : ℕ) → Sends p q h xs f l → Sends p q h ys f l
  sends_with xs ys turn f l (inl N) = inl (N.0, λ i d at c plain. pend_with f (l + d.ahead) d.port xs ys (turn f) (N.1 i d at c plain))
  sends_with xs ys turn f l (inr K) = inr K

  pub sends_grow : (xs ys : List Token) → ((t : Token) → Contains xs t → Contains ys t) → (f l : ℕ) → Sends p q h xs f l → Sends p q h ys f l
  sends_grow xs ys grows = sends_with xs ys (λ f ip. node_grows f xs ys grows ip)

  -- those to which one that passes on leads
  pub nodes_behind : (k n : ℕ) (v : Word) (j : Instr) (t : Token) → t.to ≡ To.Instr k n Left → instr_at q n ≡ Some j → hands_on j.op ≡ true → Fresh p q h n
      → (f ip : ℕ) → Node p q h f (to_all record { frame = k; ip = n } v j) ip → Node p q h f (t ∷ []) ip
  nodes_behind k n v j t to at op fresh f ip (next x up k2 j2 d N there is c place port at2 op2 fresh2) =
      next ip up k2 j2 d (nodes_behind k n v j t to at op fresh f up N) there is c place port at2 op2 fresh2
  nodes_behind k n v j t to at op fresh f ip (top x u j2 c to2 at2 op2 fresh2) =
      let d = contains_mapped (at_dest record { frame = k; ip = n } v) (j.firsts ++ j.seconds) u c in
      let e = same (ap (λ (t : Token). t.to) d.2 ∙ to2) in
      next ip n j j2 d.0 (top n t j (contains_head t []) (to ∙ ap (λ (k : ℕ). To.Instr k n Left) e.0) at op fresh) at op d.1 (sym e.1) e.2 at2 op2 fresh2
    where
      same : {a b x y : ℕ} {r s : Port} → To.Instr a x r ≡ To.Instr b y s → (a ≡ b) × (x ≡ y) × (r ≡ s)
      same e = (cc, cc, cc)

module _ (p q : Program) (g h : ℕ → ℕ) where
  -- the word of what is made, except for what is in its new place
  abbrev pub Made : List Token → List Token → Type 0
  Made new old = (w : Word) × Ready p q g h w new old

  made_of : (new old : List Token) → Clumped p q g h new old → Made new old
  made_of new old C = (signal, record { value = λ v. C; tells = inl C })

  pub none_clumped : Made [] []
  none_clumped = made_of [] [] record { meant = []; stand = stand_none [] [] refl refl; settles = settled [] [] (IsPermutation-refl []) }

  cons_one : (t : Token) (new old : List Token) → Fits p q h t.to → Clumped p q g h new old → Clumped p q g h (ip_token h t ∷ new) (t ∷ old)
  cons_one t new old fits C = record {
    meant = t ∷ C.meant;
    stand =
        stand_more (ip_token h t ∷ new) (t ∷ C.meant) (ip_token h t) new (t ∷ []) C.meant (moved (ip_token h t) (t ∷ []) t refl refl fits) C.stand refl refl;
    settles =
        settles_map (Sends p q h new) (Sends p q h (ip_token h t ∷ new))
        (sends_grow p q h new (ip_token h t ∷ new) (λ x k. contains_tail (ip_token h t) new x k)) p (t ∷ old) (t ∷ C.meant)
        (settles_after (Sends p q h new) p old C.meant (t ∷ []) C.settles);
  }

  cons_pairs : (t : Token) (old : List Token) (w : Word) → Pairs p old w → Pairs p (t ∷ old) w
  cons_pairs t old w A = record {
    frame = A.frame;
    a = A.a;
    r = A.r;
    v = A.v;
    i = A.i;
    o = A.o;
    rest = t ∷ A.rest;
    at = A.at;
    op = A.op;
    settles = settles_then (λ f l. ⊤) p (t ∷ old) (t ∷ _ ∷ _ ∷ A.rest) (_ ∷ _ ∷ t ∷ A.rest) (settles_after (λ f l. ⊤) p old (_ ∷ _ ∷ A.rest) (t ∷ []) A.settles)
        (shuffled ((t ∷ []) ∷ (_ ∷ _ ∷ []) ∷ A.rest ∷ []) (Part 0 ⊕ (Part 1 ⊕ Part 2)) (Part 1 ⊕ (Part 0 ⊕ Part 2)) refl);
  }

  pub cons_clumped : (t : Token) (new old : List Token) → Made new old → Fits p q h t.to → Made (ip_token h t ∷ new) (t ∷ old)
  cons_clumped t new old (w, R) fits = (w, record { value = λ v. cons_one t new old fits (R.value v); tells = go R.tells })
    where
      go : Clumped p q g h new old ⊎ Pairs p old w → Clumped p q g h (ip_token h t ∷ new) (t ∷ old) ⊎ Pairs p (t ∷ old) w
      go (inl C) = inl (cons_one t new old fits C)
      go (inr P) = inr (cons_pairs t old w P)

  pub one_clumped : (t : Token) → Fits p q h t.to → Made (ip_token h t ∷ []) (t ∷ [])
  one_clumped t fits = cons_clumped t [] [] none_clumped fits

  abbrev pub Matches : Outcome → Outcome → Type 0
  Matches (Excluded n) o = o ≡ Excluded n
  Matches (Becomes v old) o = (new : List Token) × (o ≡ Becomes (ip_slot h v) new) × Made new old

  pub back_moved : (c : Cont) (w : Word) → token (back_to (ip_cont h c)) (ip_word h w) ≡ ip_token h (token (back_to c) w)
  back_moved (Cont.Frame f ip r) w = refl
  back_moved (Cont.Host j) w = refl
