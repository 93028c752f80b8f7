-- No token of the new code's run is excluded by a rule.
use Rattle.std.proofs.Common.{◌≡◌, sym, ap, ◌∙◌, subst, ℕ, ◌⊎◌, inl, inr, ℤ, List, [], ◌∷◌, ◌++◌, Option, Some, None, IsPermutation, Contains}
use Rattle.std.specs.Prelude.{if◌then◌else◌, ◌==◌}
use Rattle.std.proofs.lemmas.List.Sorted.{Contains-permutation, IsPermutation-sym}
use Rattle.tags.specs.declared.value.Value.{Value}
use Rattle.tags.specs.declared.value.Value.TheVariants.{Int}
use Rattle.tags.specs.declared.token.Port.{Port}
use Rattle.tags.specs.declared.token.Port.TheVariants.{Left, Right}
use Rattle.tags.specs.declared.token.Word.{Word}
use Rattle.tags.specs.declared.token.To.{To}
use Rattle.tags.specs.declared.token.Token.{Token}
use Rattle.tags.specs.declared.slot.SlotState.{SlotState}
use Rattle.tags.specs.declared.slot.SlotState.TheVariants.{Empty}
use Rattle.semantics.specs.declared.program.Op.{Op}
use Rattle.semantics.specs.declared.program.Op.TheVariants.{Apply2, Apply2Right, Apply2Left, Lit}
use Rattle.semantics.specs.Program.{Instr, Program, instr_at}
use Rattle.semantics.specs.Rule.{token, Outcome, Becomes, Excluded, fires, fire_one, outcome_of, rule_at, slot_of}
use Rattle.semantics.specs.Machine.{Machine, Store as MStore, Size, Events, slot_in, slot_used, excluded_by, stuck_rule}
use Rattle.operators.specs.declared.Binary.{Binary}
use Rattle.semantics.specs.Handed.{EachOnce}
use Rattle.semantics.specs.Plan.{Plan}
use Rattle.semantics.specs.Wired.{IsWired}
use Rattle.semantics.specs.Orderly.{Orderly, IsOrderlyRun, IsStart}
use Rattle.law_fresh_frames.specs.Alike.{LandsRightly}
use Rattle.law_confluence.proofs.Orders.{flat_map-IsPermutation}
use Rattle.folding.specs.Laws.{other_port}
use Rattle.std.specs.Prelude.{nat_lt}
use Rattle.lemmas.proofs.Permutations.{one_out}
use Rattle.lemmas.proofs.Contains.{contains_head, contains_mapped}
use Rattle.semantics.specs.Machine.{filled, host_rule, outputs_of}
use Rattle.semantics.specs.Machine.{unless_back}
use Rattle.semantics.specs.Machine.{unless_value}
use Rattle.semantics.specs.declared.program.Op.TheVariants.{Copy}
use Rattle.std.proofs.Common.{refl}
use Rattle.law_simulation.specs.Places.{ip_store, ip_to, ip_word}
use Rattle.law_simulation.specs.Simulates.{Fits, FitsSlot, HandsOn, IsMoved, IsValue, Plain, Relates, Stands, empty, itself, left, moved, right}
use Rattle.law_simulation.specs.Simulates.{through}
use Rattle.law_simulation.proofs.SimulationEvents.{slot_there}
use Rattle.law_simulation.proofs.SimulationParts.{Clump, in_meant, meant_of}
use Rattle.law_simulation.proofs.SimulationPast.{again, same_sums, value_of}
use Rattle.law_simulation.proofs.SimulationRules.{Matches}
use Rattle.law_simulation.proofs.SimulationSent.{rule_match}
use Rattle.law_simulation.proofs.SimulationState.{O, Sim, arrives}
use Rattle.law_simulation.proofs.SimulationTraces.{Step, slot_same}

pub back_same : (h : ℕ → ℕ) (w : Word) → unless_back (ip_word h w) ≡ unless_back w
back_same h (Word.Val v) = refl
back_same h (Word.Frame f) = refl
back_same h (Word.Back c) = refl

pub value_same : (h : ℕ → ℕ) (w : Word) → unless_value (ip_word h w) ≡ unless_value w
value_same h (Word.Val v) = refl
value_same h (Word.Frame f) = refl
value_same h (Word.Back c) = refl

-- what passes on takes any word
through_takes : (kind : Word → Type 0) (q : Program) (s : MStore) (f ip : ℕ) (j : Instr) (w v : Word) → HandsOn kind j.op w v
    → excluded_by (outcome_of q record { frame = f; ip = ip } j j.op (slot_in s f (slot_of j j.op)) Left w) ≡ None
through_takes kind q s f ip j w v e = go j.op refl e
  where
    go : (op : Op) → j.op ≡ op → HandsOn kind op w v → excluded_by (outcome_of q record { frame = f; ip = ip } j op (slot_in s f (slot_of j op)) Left w) ≡ None
    go (Lit z) is e = ap (λ (x : Op). excluded_by (fires Empty (fire_one q record { frame = f; ip = ip } j x w))) is
    go Copy is e = ap (λ (x : Op). excluded_by (fires Empty (fire_one q record { frame = f; ip = ip } j x w))) is
    go op is e = absurd e

-- an operator with a literal operand takes a value
right_takes : (q : Program) (s : MStore) (f ip : ℕ) (j : Instr) (o : Binary) (z : ℤ) (v : Value) → j.op ≡ Apply2Right o z
    → excluded_by (outcome_of q record { frame = f; ip = ip } j j.op (slot_in s f (slot_of j j.op)) Left (Word.Val v)) ≡ None
right_takes q s f ip j o z v e =
    ap (λ (op : Op). excluded_by (outcome_of q record { frame = f; ip = ip } j op (slot_in s f (slot_of j op)) Left (Word.Val v))) e
    ∙ ap (λ (op : Op). excluded_by (fires Empty (fire_one q record { frame = f; ip = ip } j op (Word.Val v)))) e

left_takes : (q : Program) (s : MStore) (f ip : ℕ) (j : Instr) (o : Binary) (z : ℤ) (v : Value) → j.op ≡ Apply2Left o z
    → excluded_by (outcome_of q record { frame = f; ip = ip } j j.op (slot_in s f (slot_of j j.op)) Left (Word.Val v)) ≡ None
left_takes q s f ip j o z v e =
    ap (λ (op : Op). excluded_by (outcome_of q record { frame = f; ip = ip } j op (slot_in s f (slot_of j op)) Left (Word.Val v))) e
    ∙ ap (λ (op : Op). excluded_by (fires Empty (fire_one q record { frame = f; ip = ip } j op (Word.Val v)))) e

module _ (p q : Plan) (S : Relates p q) (wired : IsWired p) (orderly : Orderly p) (lands : LandsRightly p) (inputs : List ℤ) (z : Size)
    (start : IsStart p z inputs)
    (events : Events) (m : Machine) (gone : List ℕ) (ss : List Step) (V : Sim p q S wired orderly lands inputs z start events m gone ss)
    (once : EachOnce (0 ∷ gone)) where
  abbrev P : Program
  P = p.program

  abbrev Q : Program
  Q = q.program

  abbrev g : ℕ → ℕ
  g = S.g

  abbrev h : ℕ → ℕ
  h = S.h

  OK : IsOrderlyRun p z _ V.part.done V.part.last V.part.run
  OK = O p q S wired orderly lands inputs z start events m gone ss V once

  stores : m.store ≡ ip_store h V.part.last.store
  stores = V.store ∙ ap (ip_store h) (sym V.part.same)

  matched : (x y : Outcome) → Matches P Q g h x y → excluded_by x ≡ None → excluded_by y ≡ None
  matched (Excluded n) y e none = ap excluded_by e ∙ none
  matched (Becomes v ts) y e none = ap excluded_by e.1

  nothing_there : (j : Instr) → Some j ≡ None → ⊥
  nothing_there j e = cc

  slot_fits : (f : ℕ) (o : Option ℕ) → FitsSlot P Q h (slot_in V.part.last.store f o)
  slot_fits f None = tt
  slot_fits f (Some r) = V.part.words.1.slots f r

  at_instr : (f a : ℕ) (r : Port) (w : Word) → Plain P Q h a → Contains V.part.last.pool (token (To.Instr f a r) w)
      → stuck_rule Q m.store (To.Instr f (h a) r) (ip_word h w) ≡ None
  at_instr f a r w K inside = by_place K
    where
      none : stuck_rule P V.part.last.store (To.Instr f a r) w ≡ None
      none = OK.matching (token (To.Instr f a r) w) inside

      some_rule : (n : ℕ) → Some n ≡ None → ⊥
      some_rule n e = cc

      go : (i : Instr) → instr_at P a ≡ Some i → IsMoved P Q g h a i → stuck_rule Q m.store (To.Instr f (h a) r) (ip_word h w) ≡ None
      go i at M =
          let old : excluded_by (outcome_of P record { frame = f; ip = a } i i.op (slot_in V.part.last.store f (slot_of i i.op)) r w) ≡ None =
          sym (ap (λ (o : Option Instr). excluded_by (rule_at P record { frame = f; ip = a } o (slot_in V.part.last.store f (slot_used o)) r w)) at) ∙ none in
          let new =
          matched _ _
          (rule_match P Q g h S.arrays f a i M (slot_in V.part.last.store f (slot_of i i.op)) r w
          (arrives p q S wired orderly lands inputs z start events m gone ss V once f a r w i at inside) (slot_fits f (slot_of i i.op))
          (V.part.words.0 (token (To.Instr f a r) w) inside)) old in
          ap (λ (o : Option Instr). excluded_by (rule_at Q record { frame = f; ip = h a } o (slot_in m.store f (slot_used o)) r (ip_word h w))) M.there
          ∙ ap (λ (o : Option ℕ). excluded_by (outcome_of Q record { frame = f; ip = h a } M.j (M.j).op (slot_in m.store f o) r (ip_word h w)))
          (slot_same i M.j M.op M.slot)
          ∙ ap (λ (s : MStore). excluded_by (outcome_of Q record { frame = f; ip = h a } M.j (M.j).op (slot_in s f (slot_of i i.op)) r (ip_word h w))) stores
          ∙ ap (λ (s : SlotState). excluded_by (outcome_of Q record { frame = f; ip = h a } M.j (M.j).op s r (ip_word h w)))
          (slot_there P Q g h V.part.last.store f (slot_of i i.op))
          ∙ new

      by_place : Plain P Q h a → stuck_rule Q m.store (To.Instr f (h a) r) (ip_word h w) ≡ None
      by_place (itself i j at there) = by (S.instrs a i at)
        where
          by : IsMoved P Q g h a i ⊎ (instr_at Q (h a) ≡ None) → stuck_rule Q m.store (To.Instr f (h a) r) (ip_word h w) ≡ None
          by (inl M) = go i at M
          by (inr none_new) = absurd (nothing_there j (sym there ∙ none_new))
      by_place (empty at none_new apart) =
          absurd (some_rule 1
          (sym (ap (λ (o : Option Instr). excluded_by (rule_at P record { frame = f; ip = a } o (slot_in V.part.last.store f (slot_used o)) r w)) at) ∙ none))

  at_token : (to : To) (w : Word) → Fits P Q h to → Contains V.part.last.pool (token to w) → stuck_rule Q m.store (ip_to h to) (ip_word h w) ≡ None
  at_token (To.Instr f a r) w K inside = at_instr f a r w K inside
  at_token (To.Fetch x) w K inside = back_same h w ∙ OK.matching (token (To.Fetch x) w) inside
  at_token (To.Store x v) w K inside = back_same h w ∙ OK.matching (token (To.Store x v) w) inside
  at_token To.Manager w K inside = back_same h w ∙ OK.matching (token To.Manager w) inside
  at_token (To.Release f) w K inside = ap (λ (s : MStore). if s.out f then None else Some 5) stores ∙ OK.matching (token (To.Release f) w) inside
  at_token (To.Host j) w K inside =
      ap (λ (n : ℕ). host_rule n m.store j (ip_word h w)) S.outputs ∙ ap (λ (s : MStore). host_rule (outputs_of P) s j (ip_word h w)) stores
      ∙ ap (λ (o : Option ℕ). if nat_lt j (outputs_of P) then (if filled (V.part.last.store.outputs j) then Some 6 else o) else if j == outputs_of P
      then (if V.part.last.store.done then Some 6 else None) else Some 6) (value_same h w)
      ∙ OK.matching (token (To.Host j) w) inside

  -- the word at an operator with a literal operand is a value
  pair_value : (others : List Token) (f a : ℕ) (i : Instr) (o : Binary) (r : Port) (w : Word) (v : Value) → instr_at P a ≡ Some i → i.op ≡ Apply2 o
      → IsPermutation (meant_of P Q g h V.clumps) (token (To.Instr f a r) w ∷ token (To.Instr f a (other_port r)) (Word.Val v) ∷ others) → IsValue w
  pair_value others f a i o r w v at op takes =
      value_of p q g h S.answers wired orderly inputs z start f a i o at op V.old others _ r w v
      (again p q g h S.answers wired orderly inputs z start V.old _ _ _ _ V.part takes (same_sums p q g h S.answers wired orderly inputs z start _)) once

  pair_takes : (f a : ℕ) (w : Word) (j : Instr) → instr_at Q (g a) ≡ Some j → IsValue w
      → ((v : Value) → excluded_by (outcome_of Q record { frame = f; ip = g a } j j.op (slot_in m.store f (slot_of j j.op)) Left (Word.Val v)) ≡ None)
      → stuck_rule Q m.store (To.Instr f (g a) Left) (ip_word h w) ≡ None
  pair_takes f a w j to (v, e) takes =
      ap (λ (w : Word). stuck_rule Q m.store (To.Instr f (g a) Left) (ip_word h w)) e
      ∙ ap (λ (o : Option Instr). excluded_by (rule_at Q record { frame = f; ip = g a } o (slot_in m.store f (slot_used o)) Left (Word.Val v))) to ∙ takes v

  at_clump : (seen : Token) (meant others : List Token) → Stands P Q g h seen meant → IsPermutation (meant_of P Q g h V.clumps) (meant ++ others)
      → ((u : Token) → Contains meant u → Contains V.part.last.pool u) → stuck_rule Q m.store seen.to seen.word ≡ None
  at_clump seen meant others (moved s ts u is one fits) takes all_in =
      ap (λ (t : Token). stuck_rule Q m.store t.to t.word) is
      ∙ at_token u.to u.word fits (all_in u (subst (λ (l : List Token). Contains l u) (sym one) (contains_head u [])))
  at_clump seen meant others (through s ts f ip w v j is at op all d some fresh) takes all_in =
      ap (λ (t : Token). stuck_rule Q m.store t.to t.word) is
      ∙ ap (λ (o : Option Instr). excluded_by (rule_at Q record { frame = f; ip = ip } o (slot_in m.store f (slot_used o)) Left w)) at
      ∙ through_takes IsValue Q m.store f ip j w v op
  at_clump seen meant others (right s ts f a w o n i j is at op to new one fresh) takes all_in =
      ap (λ (t : Token). stuck_rule Q m.store t.to t.word) is
      ∙ pair_takes f a w j to (pair_value others f a i o Left w (Int n) at op
      (subst (λ (l : List Token). IsPermutation (meant_of P Q g h V.clumps) (l ++ others)) one takes)) (λ v. right_takes Q m.store f (g a) j o n v new)
  at_clump seen meant others (left s ts f a w o n i j is at op to new one fresh) takes all_in =
      ap (λ (t : Token). stuck_rule Q m.store t.to t.word) is
      ∙ pair_takes f a w j to (pair_value others f a i o Right w (Int n) at op
      (subst (λ (l : List Token). IsPermutation (meant_of P Q g h V.clumps) (l ++ others)) one takes)) (λ v. left_takes Q m.store f (g a) j o n v new)

  pub matching_kept : (t : Token) → Contains m.pool t → stuck_rule Q m.store t.to t.word ≡ None
  matching_kept t inside =
      let k = contains_mapped (λ (c : Clump P Q g h). c.seen) V.clumps t (Contains-permutation _ _ t V.seen inside) in
      let o = one_out V.clumps k.0 k.1 in
      subst (λ (t : Token). stuck_rule Q m.store t.to t.word ≡ None) k.2
      (at_clump (k.0).seen (k.0).meant (meant_of P Q g h o.0) (k.0).stands (flat_map-IsPermutation (λ (c : Clump P Q g h). c.meant) V.clumps (k.0 ∷ o.0) o.1)
      (λ u there. Contains-permutation _ _ u (IsPermutation-sym _ _ V.part.pool) (in_meant P Q g h V.clumps k.0 k.1 u there)))
