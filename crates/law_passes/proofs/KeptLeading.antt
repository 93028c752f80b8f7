-- What a list of destinations makes, in the old code and in the new one: what the literals among its targets make goes
-- with the words of the operators that have them in their code.
use Rattle.std.proofs.Common.{◌≡◌, refl, sym, ap, ◌∙◌, subst, ℕ, suc, ◌+◌, ◌⊎◌, inl, inr, List, [], ◌∷◌, ◌++◌, map, Some, Contains, IsPermutation, append_assoc}
use Rattle.std.proofs.Common.{append-nil}
use Rattle.std.specs.Prelude.{slice_get}
use Rattle.std.proofs.lemmas.List.Concat.{flat_map-append}
use Rattle.std.proofs.lemmas.List.Elements.{Contains-append_left, Contains-append_right, Contains-append_cases}
use Rattle.std.proofs.lemmas.List.Sorted.{Contains-permutation, IsPermutation-refl, IsPermutation-sym, IsPermutation-trans, IsPermutation-map}
use Rattle.std.proofs.lemmas.List.Sorted.{IsPermutation-append_left, IsPermutation-append_right}
use Rattle.lemmas.proofs.Contains.{contains_map}
use Rattle.lemmas.proofs.Lists.{map_append}
use Rattle.tags.specs.declared.value.Value.TheVariants.{Int}
use Rattle.tags.specs.declared.token.Port.TheVariants.{Left}
use Rattle.tags.specs.declared.token.Word.{Word}
use Rattle.tags.specs.declared.token.To.{To}
use Rattle.tags.specs.declared.token.Token.{Token}
use Rattle.semantics.specs.declared.program.Dest.{Dest}
use Rattle.semantics.specs.Program.{CodeBlock, Program}
use Rattle.semantics.specs.Rule.{token, at_dest, to_each, to_all}
use Rattle.semantics.specs.Plan.{Plan}
use Rattle.law_confluence.proofs.Orders.{shuffled, Part, ◌⊕◌}
use Rattle.folding.specs.Places.{layout_of, new_place}
use Rattle.folding.specs.Moved.{moved_dest, moved_dests}
use Rattle.folding.proofs.Pairs.{closed_one, closed_in, closed_uses, given, wanted_one, wanted}
use Rattle.folding.proofs.Cases.{port_at, value_at}
use Rattle.law_simulation.specs.Simulates.{StandsBy, StandAllBy}
use Rattle.law_simulation.specs.Places.{ip_word}
use Rattle.law_simulation.specs.Simulates.{Sends, Settles, fired, settled, stand_more, stand_none}
use Rattle.law_simulation.proofs.SimulationRules.{sends_grow, settles_after, settles_map, settles_perm, settles_then}

module _ (kind : Word → Type 0) (P Q : Program) (g h : ℕ → ℕ) where
  -- ---- TWO LISTS
  pub stand_join : (xs ys us vs : List Token) → StandAllBy kind P Q g h xs us → StandAllBy kind P Q g h ys vs → StandAllBy kind P Q g h (xs ++ ys) (us ++ vs)
  stand_join xs ys us vs (stand_none some others a b) k =
      subst (λ (l : List Token). StandAllBy kind P Q g h (l ++ ys) (us ++ vs)) (sym a)
      (subst (λ (l : List Token). StandAllBy kind P Q g h ys (l ++ vs)) (sym b) k)
  stand_join xs ys us vs (stand_more some others t ts ws rest st more a b) k =
      stand_more (xs ++ ys) (us ++ vs) t (ts ++ ys) ws (rest ++ vs) st (stand_join ts ys rest vs more k) (ap (λ (l : List Token). l ++ ys) a)
      (ap (λ (l : List Token). l ++ vs) b ∙ append_assoc ws rest vs)

  pub stand_one : (t : Token) (us : List Token) → StandsBy kind P Q g h t us → StandAllBy kind P Q g h (t ∷ []) us
  stand_one t us st = stand_more (t ∷ []) us t [] us [] st (stand_none [] [] refl refl) refl (sym (append-nil us))

  pub settles_join : (R : ℕ → ℕ → Type 0) (xs ys us vs : List Token) → Settles R P xs us → Settles R P ys vs → Settles R P (xs ++ ys) (us ++ vs)
  settles_join R xs ys us vs (settled some others e) k =
      settles_perm R P (xs ++ ys) (us ++ ys) (us ++ vs) (IsPermutation-append_left ys xs us e) (settles_after R P ys vs us k)
  settles_join R xs ys us vs (fired some others f a w v i rest e at is more may) k =
      fired (xs ++ ys) (us ++ vs) f a w v i (rest ++ ys) (IsPermutation-append_left ys xs (token (To.Instr f a Left) w ∷ rest) e) at is
      (subst (λ (l : List Token). Settles R P l (us ++ vs)) (append_assoc (to_all record { frame = f; ip = a } v i) rest ys)
      (settles_join R (to_all record { frame = f; ip = a } v i ++ rest) ys us vs more k)) may

  module _ (p : Plan) (c : CodeBlock) (F E : ℕ) where
    abbrev place : ℕ → ℕ
    place n = new_place (layout_of p c) n

    -- the operand of an operator that is in its code, as a token
    abbrev pub operand : ℕ → ℕ → Token
    operand f m = token (To.Instr f (F + m) (port_at p c m)) (Word.Val (Int (value_at p c m)))

    abbrev pub operands : ℕ → List ℕ → List Token
    operands f ms = map (operand f) ms

    abbrev pub olds : ℕ → ℕ → Word → List Dest → List Token
    olds f n w ds = to_each record { frame = f; ip = F + n } w ds

    abbrev pub news : ℕ → ℕ → Word → List Dest → List Token
    news f n w ds = to_each record { frame = f; ip = E + place n } (ip_word h w) (moved_dests (layout_of p c) n ds)

    -- what some destinations of the n-th instruction make: the operands that they are, those that result from literals, and others
    pub record Made (f n : ℕ) (w : Word) (ds : List Dest) : Type 0 where
      pub rest : List Token
      pub meant : List Token
      pub settles : Settles (Sends P Q h (news f n w ds)) P (olds f n w ds) (operands f (closed_in p c n ds) ++ (operands f (given p c n ds) ++ rest))
      pub stand : StandAllBy kind P Q g h (news f n w ds) meant
      pub perm : IsPermutation meant (rest ++ operands f (wanted p c n ds))

    pub none_made : (f n : ℕ) (w : Word) → Made f n w []
    none_made f n w =
        record { rest = []; meant = []; settles = settled [] [] (IsPermutation-refl []); stand = stand_none [] [] refl refl; perm = IsPermutation-refl [] }

    both_made : (R : ℕ → ℕ → Type 0) (f n : ℕ) (w : Word) (ds es : List Dest)
        → (closed_left closed_right given_left given_right : List ℕ) (rest_left rest_right : List Token)
        → Settles R P (olds f n w ds) (operands f closed_left ++ (operands f given_left ++ rest_left))
        → Settles R P (olds f n w es) (operands f closed_right ++ (operands f given_right ++ rest_right))
        → Settles R P (olds f n w ds ++ olds f n w es)
        (operands f (closed_left ++ closed_right) ++ (operands f (given_left ++ given_right) ++ (rest_left ++ rest_right)))
    both_made R f n w ds es closed_left closed_right given_left given_right rest_left rest_right a b =
        let c = operands f closed_left in let d = operands f closed_right in let g = operands f given_left in let k = operands f given_right in
        let all = settles_join R (olds f n w ds) (olds f n w es) (c ++ (g ++ rest_left)) (d ++ (k ++ rest_right)) a b in
        let e = shuffled (c ∷ g ∷ rest_left ∷ d ∷ k ∷ rest_right ∷ []) ((Part 0 ⊕ (Part 1 ⊕ Part 2)) ⊕ (Part 3 ⊕ (Part 4 ⊕ Part 5)))
        ((Part 0 ⊕ Part 3) ⊕ ((Part 1 ⊕ Part 4) ⊕ (Part 2 ⊕ Part 5))) refl in
        subst (λ (l : List Token). Settles R P (olds f n w ds ++ olds f n w es) l)
        (λ v. sym (map_append (operand f) closed_left closed_right) v ++ (sym (map_append (operand f) given_left given_right) v ++ (rest_left ++ rest_right)))
        (settles_then R P (olds f n w ds ++ olds f n w es) ((c ++ (g ++ rest_left)) ++ (d ++ (k ++ rest_right)))
        ((c ++ d) ++ ((g ++ k) ++ (rest_left ++ rest_right))) all e)

    news_join : (f n : ℕ) (w : Word) (ds es : List Dest) → news f n w (ds ++ es) ≡ news f n w ds ++ news f n w es
    news_join f n w ds es =
        ap (λ (l : List Dest). to_each record { frame = f; ip = E + place n } (ip_word h w) l) (flat_map-append (moved_dest (layout_of p c) n) ds es)
        ∙ map_append (at_dest record { frame = f; ip = E + place n } (ip_word h w)) (moved_dests (layout_of p c) n ds) (moved_dests (layout_of p c) n es)

    abbrev Will : ℕ → ℕ → Word → List Dest → ℕ → ℕ → Type 0
    Will f n w ds = Sends P Q h (news f n w ds)

    -- what some send is sent by more
    with_more : (f n : ℕ) (w : Word) (ds es : List Dest) (xs ys : List Token) → Settles (Will f n w ds) P xs ys → Settles (Will f n w (ds ++ es)) P xs ys
    with_more f n w ds es xs ys k =
        settles_map (Will f n w ds) (Will f n w (ds ++ es))
        (sends_grow P Q h (news f n w ds) (news f n w (ds ++ es))
        (λ t c. subst (λ (l : List Token). Contains l t) (sym (news_join f n w ds es)) (Contains-append_left (news f n w ds) (news f n w es) t c))) P xs ys k

    with_before : (f n : ℕ) (w : Word) (ds es : List Dest) (xs ys : List Token) → Settles (Will f n w es) P xs ys → Settles (Will f n w (ds ++ es)) P xs ys
    with_before f n w ds es xs ys k =
        settles_map (Will f n w es) (Will f n w (ds ++ es))
        (sends_grow P Q h (news f n w es) (news f n w (ds ++ es))
        (λ t c. subst (λ (l : List Token). Contains l t) (sym (news_join f n w ds es)) (Contains-append_right (news f n w ds) (news f n w es) t c))) P xs ys k

    -- one more destination
    pub more_made : (f n : ℕ) (w : Word) (d : Dest) (ds : List Dest) → Made f n w (d ∷ []) → Made f n w ds → Made f n w (d ∷ ds)
    more_made f n w d ds A B =
        let closed_head : closed_in p c n (d ∷ []) ≡ closed_one p c n d = append-nil (closed_one p c n d) in
        let given_head : given p c n (d ∷ []) ≡ closed_uses p c (n + d.ahead) = append-nil (closed_uses p c (n + d.ahead)) in
        let wanted_head : wanted p c n (d ∷ []) ≡ wanted_one p c n d = append-nil (wanted_one p c n d) in
        let moved_head : moved_dests (layout_of p c) n (d ∷ []) ≡ moved_dest (layout_of p c) n d = append-nil (moved_dest (layout_of p c) n d) in
        let old : Settles (Will f n w (d ∷ ds)) P (olds f n w (d ∷ []))
        (operands f (closed_one p c n d) ++ (operands f (closed_uses p c (n + d.ahead)) ++ A.rest)) =
        subst (λ (l : List Token). Settles (Will f n w (d ∷ ds)) P (olds f n w (d ∷ [])) l)
        (λ k. operands f (closed_head k) ++ (operands f (given_head k) ++ A.rest)) (with_more f n w (d ∷ []) ds (olds f n w (d ∷ [])) _ A.settles) in
        let first_new : List Token = to_each record { frame = f; ip = E + place n } (ip_word h w) (moved_dest (layout_of p c) n d) in
        let new : StandAllBy kind P Q g h first_new A.meant =
        subst (λ (l : List Dest). StandAllBy kind P Q g h (to_each record { frame = f; ip = E + place n } (ip_word h w) l) A.meant) moved_head A.stand in
        let wanted_here = operands f (wanted_one p c n d) in
        let wanted_more = operands f (wanted p c n ds) in
        let perm_here : IsPermutation A.meant (A.rest ++ wanted_here) =
        subst (λ (l : List ℕ). IsPermutation A.meant (A.rest ++ operands f l)) wanted_head A.perm in
        let perm_both : IsPermutation (A.meant ++ B.meant) ((A.rest ++ wanted_here) ++ (B.rest ++ wanted_more)) =
        IsPermutation-trans _ _ _ (IsPermutation-append_left B.meant A.meant (A.rest ++ wanted_here) perm_here)
        (IsPermutation-append_right (A.rest ++ wanted_here) B.meant (B.rest ++ wanted_more) B.perm) in
        let perm_all : IsPermutation ((A.rest ++ wanted_here) ++ (B.rest ++ wanted_more)) ((A.rest ++ B.rest) ++ (wanted_here ++ wanted_more)) =
        shuffled (A.rest ∷ wanted_here ∷ B.rest ∷ wanted_more ∷ []) ((Part 0 ⊕ Part 1) ⊕ (Part 2 ⊕ Part 3)) ((Part 0 ⊕ Part 2) ⊕ (Part 1 ⊕ Part 3)) refl in
        record {
          rest = A.rest ++ B.rest;
          meant = A.meant ++ B.meant;
          settles =
              both_made (Will f n w (d ∷ ds)) f n w (d ∷ []) ds (closed_one p c n d) (closed_in p c n ds) (closed_uses p c (n + d.ahead))
              (given p c n ds) A.rest B.rest old (with_before f n w (d ∷ []) ds (olds f n w ds) _ B.settles);
          stand =
              subst (λ (l : List Token). StandAllBy kind P Q g h l (A.meant ++ B.meant))
              (sym (map_append (at_dest record { frame = f; ip = E + place n } (ip_word h w)) (moved_dest (layout_of p c) n d)
              (moved_dests (layout_of p c) n ds)))
              (stand_join first_new (news f n w ds) A.meant B.meant new B.stand);
          perm =
              subst (λ (l : List Token). IsPermutation (A.meant ++ B.meant) ((A.rest ++ B.rest) ++ l))
              (sym (map_append (operand f) (wanted_one p c n d) (wanted p c n ds))) (IsPermutation-trans _ _ _ perm_both perm_all);
        }

    pub all_made : (f n : ℕ) (w : Word) (ds : List Dest) → ((k : ℕ) (d : Dest) → slice_get ds k ≡ Some d → Made f n w (d ∷ [])) → Made f n w ds
    all_made f n w [] each = none_made f n w
    all_made f n w (d ∷ ds) each = more_made f n w d ds (each 0 d refl) (all_made f n w ds (λ k x e. each (suc k) x e))

    -- A whole list: the operands that result from literals are those of the operators that the list names.
    pub record Whole (f n : ℕ) (w : Word) (ds : List Dest) : Type 0 where
      pub meant : List Token
      pub settles : Settles (Sends P Q h (news f n w ds)) P (olds f n w ds) (operands f (closed_in p c n ds) ++ meant)
      pub stand : StandAllBy kind P Q g h (news f n w ds) meant
      -- the words from literals for these operators are among them
      pub gets : (x : ℕ) → Contains (wanted p c n ds) x → Contains meant (operand f x)

    pub whole_made : (f n : ℕ) (w : Word) (ds : List Dest) → IsPermutation (given p c n ds) (wanted p c n ds) → Made f n w ds → Whole f n w ds
    whole_made f n w ds same M =
        let closed_ones = operands f (closed_in p c n ds) in
        let given_ones = operands f (given p c n ds) in
        let wanted_ones = operands f (wanted p c n ds) in
        let swap : IsPermutation (given_ones ++ M.rest) (wanted_ones ++ M.rest) =
        IsPermutation-append_left M.rest given_ones wanted_ones (IsPermutation-map (operand f) (given p c n ds) (wanted p c n ds) same) in
        let turn : IsPermutation (wanted_ones ++ M.rest) (M.rest ++ wanted_ones) =
        shuffled (wanted_ones ∷ M.rest ∷ []) (Part 0 ⊕ Part 1) (Part 1 ⊕ Part 0) refl in
        let same_tokens : IsPermutation (given_ones ++ M.rest) M.meant =
        IsPermutation-trans _ _ _ swap (IsPermutation-trans _ _ _ turn (IsPermutation-sym _ _ M.perm)) in
        record {
          meant = M.meant;
          settles =
              settles_then (Will f n w ds) P (olds f n w ds) (closed_ones ++ (given_ones ++ M.rest)) (closed_ones ++ M.meant) M.settles
              (IsPermutation-append_right closed_ones (given_ones ++ M.rest) M.meant same_tokens);
          stand = M.stand;
          gets =
              λ x inside. Contains-permutation _ _ _ (IsPermutation-sym _ _ M.perm)
              (Contains-append_right M.rest wanted_ones (operand f x) (contains_map (operand f) (wanted p c n ds) x inside));
        }

    -- both lists
    pub whole_both : (f n : ℕ) (w : Word) (ds es : List Dest) → Whole f n w ds → Whole f n w es → Whole f n w (ds ++ es)
    whole_both f n w ds es A B =
        let closed_left = operands f (closed_in p c n ds) in
        let closed_right = operands f (closed_in p c n es) in
        let all = settles_join (Will f n w (ds ++ es)) (olds f n w ds) (olds f n w es) (closed_left ++ A.meant) (closed_right ++ B.meant)
        (with_more f n w ds es (olds f n w ds) (closed_left ++ A.meant) A.settles)
        (with_before f n w ds es (olds f n w es) (closed_right ++ B.meant) B.settles) in
        let e = shuffled (closed_left ∷ A.meant ∷ closed_right ∷ B.meant ∷ []) ((Part 0 ⊕ Part 1) ⊕ (Part 2 ⊕ Part 3))
        ((Part 0 ⊕ Part 2) ⊕ (Part 1 ⊕ Part 3)) refl in
        let joins : closed_in p c n (ds ++ es) ≡ closed_in p c n ds ++ closed_in p c n es = flat_map-append (closed_one p c n) ds es in
        let moves : moved_dests (layout_of p c) n (ds ++ es) ≡ moved_dests (layout_of p c) n ds ++ moved_dests (layout_of p c) n es =
        flat_map-append (moved_dest (layout_of p c) n) ds es in
        record {
          meant = A.meant ++ B.meant;
          settles =
              subst (λ (l : List Token). Settles (Will f n w (ds ++ es)) P l (operands f (closed_in p c n (ds ++ es)) ++ (A.meant ++ B.meant)))
              (sym (map_append (at_dest record { frame = f; ip = F + n } w) ds es))
              (subst (λ (l : List Token). Settles (Will f n w (ds ++ es)) P (olds f n w ds ++ olds f n w es) (l ++ (A.meant ++ B.meant)))
              (sym (ap (map (operand f)) joins ∙ map_append (operand f) (closed_in p c n ds) (closed_in p c n es)))
              (settles_then (Will f n w (ds ++ es)) P (olds f n w ds ++ olds f n w es) ((closed_left ++ A.meant) ++ (closed_right ++ B.meant))
              ((closed_left ++ closed_right) ++ (A.meant ++ B.meant)) all e));
          stand = subst (λ (l : List Token). StandAllBy kind P Q g h l (A.meant ++ B.meant))
              (sym (ap (λ (l : List Dest). to_each record { frame = f; ip = E + place n } (ip_word h w) l) moves
              ∙ map_append (at_dest record { frame = f; ip = E + place n } (ip_word h w)) (moved_dests (layout_of p c) n ds)
              (moved_dests (layout_of p c) n es)))
              (stand_join (news f n w ds) (news f n w es) A.meant B.meant A.stand B.stand);
          gets =
              λ x inside. go x (Contains-append_cases (wanted p c n ds) (wanted p c n es) x
              (subst (λ (l : List ℕ). Contains l x) (flat_map-append (wanted_one p c n) ds es) inside));
        }
      where
        go : (x : ℕ) → Contains (wanted p c n ds) x ⊎ Contains (wanted p c n es) x → Contains (A.meant ++ B.meant) (operand f x)
        go x (inl k) = Contains-append_left A.meant B.meant (operand f x) (A.gets x k)
        go x (inr k) = Contains-append_right A.meant B.meant (operand f x) (B.gets x k)
