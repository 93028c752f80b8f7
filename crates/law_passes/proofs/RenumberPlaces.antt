-- Where the instructions of a plan are once its holders have other numbers: where they were.
use Rattle.std.proofs.Common.{◌≡◌, refl, sym, ap, ◌∙◌, subst, zero-add, ℕ, zero, suc, ◌+◌, ◌-◌, ◌<◌, ◌≤◌, ◌⊎◌, inl, inr, Bool, true, false, List, [], ◌∷◌, ◌++◌}
use Rattle.std.proofs.Common.{length, get_or, Option, Some, None, ltb-true, ltb-false, if◌then◌else◌, arith, flat_map}
use Rattle.std.specs.Prelude.{slice_get, nat_lt}
use Rattle.std.proofs.lemmas.Option.{slice_get_within, slice_get_cases, same_Some}
use Rattle.semantics.specs.declared.program.Dest.{Dest}
use Rattle.semantics.specs.declared.program.Op.{Op}
use Rattle.semantics.specs.declared.program.Op.TheVariants.{Link}
use Rattle.semantics.specs.Program.{Instr, CodeBlock, first_of, instr_from, instr_at}
use Rattle.semantics.specs.Machine.{results_in, outputs_of}
use Rattle.semantics.specs.Plan.{Plan, landing_in, landing}
use Rattle.semantics.specs.Sharing.{Arc, row, arcs_to, arcs_from, arcs_of, arcs_in}
use Rattle.semantics.specs.Orderly.{often, is_entry, same_block, inputs_in, inputs_of}
use Rattle.semantics.proofs.BlockPlaces.{first_in, first_next}
use Rattle.law_passes.specs.Renumber.{IsRenumbered, RenumbersBlock, RenumbersAll, with_blocks}

-- something is at a place of a list, or nothing
abbrev pub AtOr : {X : Type 0} → List X → ℕ → Type 0
AtOr {X = X} xs n = ((x : X) × (n < length xs) × (slice_get xs n ≡ Some x)) ⊎ ((length xs ≤ n) × (slice_get xs n ≡ None))

pub at_or : {X : Type 0} (xs : List X) (n : ℕ) → AtOr xs n
at_or {X = X} xs n = go (slice_get_cases xs n).1
  where
    go : ((x : X) × (n < length xs) × (slice_get xs n ≡ Some x) × (get_or xs n x ≡ x)) ⊎ ((length xs ≤ n) × (slice_get xs n ≡ None)) → AtOr xs n
    go (inl k) = inl (k.0, k.1, k.2)
    go (inr k) = inr k

-- what is at a place of one list is at that of another one as long
pub got : {X Y : Type 0} (xs : List X) (ys : List Y) (n : ℕ) (y : Y) → length ys ≡ length xs → slice_get ys n ≡ Some y → (x : X) × (slice_get xs n ≡ Some x)
got {X = X} {Y = Y} xs ys n y e at = go (at_or xs n)
  where
    go : AtOr xs n → (x : X) × (slice_get xs n ≡ Some x)
    go (inl k) = (k.0, k.2)
    go (inr k) = let l = slice_get_within ys n y at in let f = k.0 in absurd (omega (arith, e, l, f))

-- and nothing is where nothing is
pub none_got : {X Y : Type 0} (xs : List X) (ys : List Y) (n : ℕ) → length ys ≡ length xs → slice_get xs n ≡ None → slice_get ys n ≡ None
none_got {X = X} {Y = Y} xs ys n e at = go (at_or ys n)
  where
    go : AtOr ys n → slice_get ys n ≡ None
    go (inl k) = absurd (let f = got xs ys n k.0 e k.2 in let d : Some f.0 ≡ None = sym f.1 ∙ at in cc)
    go (inr k) = k.1

-- the other blocks
later : (hold : ℕ → ℕ → ℕ) (c d : CodeBlock) (cs ds : List CodeBlock) → RenumbersAll hold (c ∷ cs) (d ∷ ds) → RenumbersAll (λ b. hold (suc b)) cs ds
later hold c d cs ds R = record { count = (let e = R.count in omega (arith, e)); blocks = λ b x at. R.blocks (suc b) x at }

-- the first one
here : (hold : ℕ → ℕ → ℕ) (c d : CodeBlock) (cs ds : List CodeBlock) → RenumbersAll hold (c ∷ cs) (d ∷ ds) → RenumbersBlock (hold 0) c d
here hold c d cs ds R = let r = R.blocks 0 c refl in subst (λ (x : CodeBlock). RenumbersBlock (hold 0) c x) (sym (same_Some d r.0 r.1)) r.2

none_long : (hold : ℕ → ℕ → ℕ) (c : CodeBlock) (cs : List CodeBlock) → RenumbersAll hold (c ∷ cs) [] → ⊥
none_long hold c cs R = let e = R.count in omega (arith, e)

none_short : (hold : ℕ → ℕ → ℕ) (d : CodeBlock) (ds : List CodeBlock) → RenumbersAll hold [] (d ∷ ds) → ⊥
none_short hold d ds R = let e = R.count in omega (arith, e)

-- each block begins where it began
pub first_same : (hold : ℕ → ℕ → ℕ) (cs ds : List CodeBlock) → RenumbersAll hold cs ds → (b : ℕ) → first_in ds b ≡ first_in cs b
first_same hold cs ds R zero = refl
first_same hold [] [] R (suc b) = refl
first_same hold (c ∷ cs) [] R (suc b) = absurd (none_long hold c cs R)
first_same hold [] (d ∷ ds) R (suc b) = absurd (none_short hold d ds R)
first_same hold (c ∷ cs) (d ∷ ds) R (suc b) =
    let more = first_same (λ b. hold (suc b)) cs ds (later hold c d cs ds R) b in
    let size = (here hold c d cs ds R).size in let x = first_next c cs b in let y = first_next d ds b in omega (arith, more, size, x, y)

-- The place of an instruction, in both
pub data Located (hold : ℕ → ℕ → ℕ) (cs ds : List CodeBlock) (ip : ℕ) : Type 0 where
  Nowhere : instr_from cs ip ≡ None → instr_from ds ip ≡ None → Located hold cs ds ip
  There : (b n : ℕ) (c d : CodeBlock) (i j : Instr) → slice_get cs b ≡ Some c → slice_get ds b ≡ Some d → slice_get c.instrs n ≡ Some i
      → slice_get d.instrs n ≡ Some j
      → RenumbersBlock (hold b) c d → IsRenumbered (hold b) i j → instr_from cs ip ≡ Some i → instr_from ds ip ≡ Some j → ip ≡ first_in cs b + n
      → Located hold cs ds ip

pub located : (hold : ℕ → ℕ → ℕ) (cs ds : List CodeBlock) → RenumbersAll hold cs ds → (ip : ℕ) → Located hold cs ds ip
located hold [] [] R ip = Nowhere refl refl
located hold [] (d ∷ ds) R ip = absurd (none_short hold d ds R)
located hold (c ∷ cs) [] R ip = absurd (none_long hold c cs R)
located hold (c ∷ cs) (d ∷ ds) R ip = go (nat_lt ip (length c.instrs)) refl (located (λ b. hold (suc b)) cs ds (later hold c d cs ds R) (ip - length c.instrs))
  where
    B : RenumbersBlock (hold 0) c d
    B = here hold c d cs ds R

    old_at : (t : Bool) → nat_lt ip (length c.instrs) ≡ t → instr_from (c ∷ cs) ip ≡ (if t then slice_get c.instrs ip else instr_from cs (ip - length c.instrs))
    old_at t e = ap (λ (t : Bool). if t then slice_get c.instrs ip else instr_from cs (ip - length c.instrs)) e

    new_at : (t : Bool) → nat_lt ip (length c.instrs) ≡ t → instr_from (d ∷ ds) ip ≡ (if t then slice_get d.instrs ip else instr_from ds (ip - length c.instrs))
    new_at t e =
        ap (λ (k : ℕ). if nat_lt ip k then slice_get d.instrs ip else instr_from ds (ip - k)) B.size
        ∙ ap (λ (t : Bool). if t then slice_get d.instrs ip else instr_from ds (ip - length c.instrs)) e

    first : nat_lt ip (length c.instrs) ≡ true → (i : Instr) × (slice_get c.instrs ip ≡ Some i) → Located hold (c ∷ cs) (d ∷ ds) ip
    first t (i, at) = let j = B.instrs ip i at in There 0 ip c d i j.0 refl refl at j.1 B j.2 (old_at true t ∙ at) (new_at true t ∙ j.1) (sym (zero-add ip))

    some : nat_lt ip (length c.instrs) ≡ true → (i : Instr) × (slice_get c.instrs ip ≡ Some i)
    some t = pick (at_or c.instrs ip)
      where
        pick : AtOr c.instrs ip → (i : Instr) × (slice_get c.instrs ip ≡ Some i)
        pick (inl k) = (k.0, k.2)
        pick (inr k) = let l = ltb-true ip (length c.instrs) t in let f = k.0 in absurd (omega (arith, l, f))

    next : nat_lt ip (length c.instrs) ≡ false → Located (λ b. hold (suc b)) cs ds (ip - length c.instrs) → Located hold (c ∷ cs) (d ∷ ds) ip
    next t (Nowhere x y) = Nowhere (old_at false t ∙ x) (new_at false t ∙ y)
    next t (There b n c2 d2 i j u v w z RB RI x y at) =
        let far : length c.instrs ≤ ip = ltb-false ip (length c.instrs) t in
        let k = first_next c cs b in
        There (suc b) n c2 d2 i j u v w z RB RI (old_at false t ∙ x) (new_at false t ∙ y) (omega (arith, at, k, far))

    go : (t : Bool) → nat_lt ip (length c.instrs) ≡ t → Located (λ b. hold (suc b)) cs ds (ip - length c.instrs) → Located hold (c ∷ cs) (d ∷ ds) ip
    go true t rest = first t (some t)
    go false t rest = next t rest

-- what is said of blocks by what the numbers of holders leave alone
pub in_block : {X : Type 0} (f : Option CodeBlock → X) (hold : ℕ → ℕ → ℕ) → ((b : ℕ) (c d : CodeBlock) → RenumbersBlock (hold b) c d → f (Some d) ≡ f (Some c))
    → (cs ds : List CodeBlock)
    → RenumbersAll hold cs ds → (b : ℕ) → f (slice_get ds b) ≡ f (slice_get cs b)
in_block f hold same [] [] R b = refl
in_block f hold same [] (d ∷ ds) R b = absurd (none_short hold d ds R)
in_block f hold same (c ∷ cs) [] R b = absurd (none_long hold c cs R)
in_block f hold same (c ∷ cs) (d ∷ ds) R zero = same 0 c d (here hold c d cs ds R)
in_block f hold same (c ∷ cs) (d ∷ ds) R (suc b) = in_block f (λ b. hold (suc b)) (λ b. same (suc b)) cs ds (later hold c d cs ds R) b

pub entry_same : (hold : ℕ → ℕ → ℕ) (cs ds : List CodeBlock) → RenumbersAll hold cs ds → (ip : ℕ) → is_entry ds ip ≡ is_entry cs ip
entry_same hold [] [] R ip = refl
entry_same hold [] (d ∷ ds) R ip = absurd (none_short hold d ds R)
entry_same hold (c ∷ cs) [] R ip = absurd (none_long hold c cs R)
entry_same hold (c ∷ cs) (d ∷ ds) R ip =
    let B = here hold c d cs ds R in
    (λ k. if nat_lt ip (B.size k) then nat_lt ip (B.inputs k + 1) else is_entry ds (ip - B.size k))
    ∙ ap (λ (x : Bool). if nat_lt ip (length c.instrs) then nat_lt ip (c.inputs + 1) else x)
    (entry_same (λ b. hold (suc b)) cs ds (later hold c d cs ds R) (ip - length c.instrs))

pub blocks_same : (hold : ℕ → ℕ → ℕ) (cs ds : List CodeBlock) → RenumbersAll hold cs ds → (ip jp : ℕ) → same_block ds ip jp ≡ same_block cs ip jp
blocks_same hold [] [] R ip jp = refl
blocks_same hold [] (d ∷ ds) R ip jp = absurd (none_short hold d ds R)
blocks_same hold (c ∷ cs) [] R ip jp = absurd (none_long hold c cs R)
blocks_same hold (c ∷ cs) (d ∷ ds) R ip jp =
    let B = here hold c d cs ds R in
    (λ k. if nat_lt ip (B.size k) then nat_lt jp (B.size k) else if nat_lt jp (B.size k) then false else same_block ds (ip - B.size k) (jp - B.size k))
    ∙ ap (λ (x : Bool). if nat_lt ip (length c.instrs) then nat_lt jp (length c.instrs) else if nat_lt jp (length c.instrs) then false else x)
    (blocks_same (λ b. hold (suc b)) cs ds (later hold c d cs ds R) (ip - length c.instrs) (jp - length c.instrs))

-- a new block is that of an old one
pub block_back : (hold : ℕ → ℕ → ℕ) (cs ds : List CodeBlock) → RenumbersAll hold cs ds → (b : ℕ) (d : CodeBlock) → slice_get ds b ≡ Some d
    → (c : CodeBlock) × (slice_get cs b ≡ Some c) × RenumbersBlock (hold b) c d
block_back hold cs ds R b d at =
    let c = got cs ds b d R.count at in
    let r = R.blocks b c.0 c.1 in
    (c.0, c.1, subst (RenumbersBlock (hold b) c.0) (same_Some r.0 d (sym r.1 ∙ at)) r.2)

pub instr_back : (hold : ℕ → ℕ) (c d : CodeBlock) → RenumbersBlock hold c d → (n : ℕ) (j : Instr) → slice_get d.instrs n ≡ Some j
    → (i : Instr) × (slice_get c.instrs n ≡ Some i) × IsRenumbered hold i j
instr_back hold c d B n j at =
    let i = got c.instrs d.instrs n j B.size at in
    let r = B.instrs n i.0 i.1 in
    (i.0, i.1, subst (IsRenumbered hold i.0) (same_Some r.0 j (sym r.1 ∙ at)) r.2)

-- ---- THE SAME ARCS

abbrev Pointwise : (ℕ → ℕ) → List Instr → List Instr → Type 0
Pointwise hold is js = (n : ℕ) (i : Instr) → slice_get is n ≡ Some i → (j : Instr) × (slice_get js n ≡ Some j) × IsRenumbered hold i j

module _ (p q : Plan) (lands : (b : ℕ) → landing q b ≡ landing p b) where
  from_same : (n : ℕ) (i j : Instr) (op : Op) → j.firsts ≡ i.firsts → j.seconds ≡ i.seconds → arcs_from q n j op ≡ arcs_from p n i op
  from_same n i j (Link b) e f = λ k. flat_map (λ (d : Dest). row n (n + d.ahead) (lands b k)) (e k) ++ arcs_to n true (f k)
  from_same n i j op e f = λ k. arcs_to n false (e k) ++ arcs_to n true (f k)

  arcs_same : (hold : ℕ → ℕ) (n : ℕ) (is js : List Instr) → length js ≡ length is → Pointwise hold is js → arcs_of q n js ≡ arcs_of p n is
  arcs_same hold n [] [] l same = refl
  arcs_same hold n [] (j ∷ js) l same = absurd (omega (arith, l))
  arcs_same hold n (i ∷ is) [] l same = absurd (omega (arith, l))
  arcs_same hold n (i ∷ is) (j ∷ js) l same =
      let r = same 0 i refl in
      let R : IsRenumbered hold i j = subst (IsRenumbered hold i) (sym (same_Some j r.0 r.1)) r.2 in
      let one : arcs_from q n j j.op ≡ arcs_from p n i i.op = ap (arcs_from q n j) R.op ∙ from_same n i j i.op R.firsts R.seconds in
      (λ k. one k ++ arcs_of q (n + 1) js)
      ∙ ap (λ (l : List Arc). arcs_from p n i i.op ++ l) (arcs_same hold (n + 1) is js (omega (arith, l)) (λ m. same (suc m)))

module _ (p : Plan) (ds : List CodeBlock) (hold : ℕ → ℕ → ℕ) (R : RenumbersAll hold p.program.blocks ds) where
  abbrev q : Plan
  q = with_blocks p ds

  pub first_is : (b : ℕ) → first_of q.program b ≡ first_of p.program b
  first_is b = first_same hold p.program.blocks ds R b

  pub inputs_is : inputs_of q ≡ inputs_of p
  inputs_is = in_block inputs_in hold (λ b c d B. B.inputs) p.program.blocks ds R p.program.main

  pub outputs_is : outputs_of q.program ≡ outputs_of p.program
  outputs_is = in_block results_in hold (λ b c d B. B.outputs) p.program.blocks ds R p.program.main

  pub landing_is : (b : ℕ) → landing q b ≡ landing p b
  landing_is b = in_block (landing_in (nat_lt b p.plain)) hold (λ k c d B. by_plain (nat_lt b p.plain) c d B.inputs B.outputs) p.program.blocks ds R b
    where
      by_plain : (t : Bool) (c d : CodeBlock) → d.inputs ≡ c.inputs → d.outputs ≡ c.outputs → landing_in t (Some d) ≡ landing_in t (Some c)
      by_plain true c d e f = ap (λ (n : ℕ). n + 1) f
      by_plain false c d e f = ap (λ (n : ℕ). n + 3) e

  pub arcs_is : (b : ℕ) → arcs_in q (slice_get ds b) ≡ arcs_in p (slice_get p.program.blocks b)
  arcs_is b = go (at_or p.program.blocks b)
    where
      go : AtOr p.program.blocks b → arcs_in q (slice_get ds b) ≡ arcs_in p (slice_get p.program.blocks b)
      go (inl k) =
          let r = R.blocks b k.0 k.2 in
          ap (arcs_in q) r.1 ∙ arcs_same p q landing_is (hold b) 0 (k.0).instrs (r.0).instrs r.2.size r.2.instrs ∙ ap (arcs_in p) (sym k.2)
      go (inr k) = ap (arcs_in q) (none_got p.program.blocks ds b R.count k.1) ∙ ap (arcs_in p) (sym k.1)

  pub often_is : (ip : ℕ) → often (instr_at q.program ip) ≡ often (instr_at p.program ip)
  often_is ip = go (located hold p.program.blocks ds R ip)
    where
      by_op : (i j : Instr) → j.op ≡ i.op → often (Some j) ≡ often (Some i)
      by_op i j e = ap (λ (op : Op). often (Some record i { op = op })) e

      go : Located hold p.program.blocks ds ip → often (instr_at q.program ip) ≡ often (instr_at p.program ip)
      go (Nowhere x y) = ap often y ∙ ap often (sym x)
      go (There b n c d i j u v w z RB RI x y at) = ap often y ∙ by_op i j RI.op ∙ ap often (sym x)
