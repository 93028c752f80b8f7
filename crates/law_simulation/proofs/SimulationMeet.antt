-- Two words meet at an operator of the old code: the one waits, and with the other it fires.
use Rattle.std.proofs.Common.{◌≡◌, refl, sym, ap, subst, ℕ, ◌+◌, ◌*◌, ℤ, true, List, [], ◌∷◌, ◌++◌, Option, Some, IsPermutation, Contains, append_assoc, arith}
use Rattle.std.proofs.lemmas.List.Sorted.{IsPermutation-refl}
use Rattle.tags.specs.declared.value.Value.{Value}
use Rattle.tags.specs.declared.token.Port.{Port}
use Rattle.tags.specs.declared.token.Port.TheVariants.{Left, Right}
use Rattle.tags.specs.declared.token.Word.{Word}
use Rattle.tags.specs.declared.token.To.{To}
use Rattle.tags.specs.declared.token.Token.{Token}
use Rattle.tags.specs.declared.slot.SlotState.{SlotState}
use Rattle.tags.specs.declared.slot.SlotState.TheVariants.{Empty}
use Rattle.operators.specs.declared.Binary.{Binary}
use Rattle.semantics.specs.declared.program.Dest.{Dest}
use Rattle.semantics.specs.declared.program.Op.{Op}
use Rattle.semantics.specs.declared.program.Op.TheVariants.{Apply2}
use Rattle.semantics.specs.Program.{Instr, Program, instr_at}
use Rattle.semantics.specs.Rule.{token, Point, Outcome, Becomes, meets, outcome_of, rule_at, slot_of}
use Rattle.semantics.specs.Machine.{Machine, Store as MStore, Size, with_slot, slot_in, slot_used, Fires, Happens}
use Rattle.semantics.specs.Plan.{Plan}
use Rattle.semantics.specs.Wired.{IsWired}
use Rattle.semantics.specs.Arcs.{UsesArc}
use Rattle.semantics.specs.Orderly.{Orderly, IsStart}
use Rattle.law_simulation.specs.Places.{ip_word, is_answered}
use Rattle.law_simulation.specs.Simulates.{Plain, counts_none}
use Rattle.law_simulation.proofs.SimulationFires.{both_wait, undone}
use Rattle.law_simulation.proofs.SimulationParts.{Sums, no_seek, with_spent}
use Rattle.law_simulation.proofs.SimulationPast.{Once, Reached, again, free_at, one_waits, quiet, slot_now}
use Rattle.law_simulation.proofs.SimulationPorts.{ones}

-- a word that is a value in its new place is one
pub value_back : (h : ℕ → ℕ) (w : Word) (v : Value) → ip_word h w ≡ Word.Val v → w ≡ Word.Val v
value_back h (Word.Val u) v e = e
value_back h (Word.Frame f) v e = absurd (cc)
value_back h (Word.Back c) v e = absurd (cc)

module _ (p q : Plan) (g h : ℕ → ℕ) (answers : (a : ℕ) (i : Instr) → instr_at p.program a ≡ Some i → is_answered i.op ≡ true
    → (d : Dest) × (i.firsts ≡ d ∷ []) × Plain p.program q.program h (a + d.ahead))
    (wired : IsWired p) (orderly : Orderly p) (inputs : List ℤ) (z : Size) (start : IsStart p z inputs) (f a : ℕ) (i : Instr) (o : Binary)
    (at : instr_at p.program a ≡ Some i) (op : i.op ≡ Apply2 o) where
  abbrev P : Program
  P = p.program

  abbrev total : ℕ
  total = z.elements * z.frames

  abbrev seat : Point
  seat = record { frame = f; ip = a }

  abbrev Past : MStore → List Token → Sums → Type 0
  Past = Reached p q g h answers wired orderly inputs z start

  abbrev IsOnce : Sums → Type 0
  IsOnce = Once p q g h answers wired orderly inputs z start

  -- they find it empty
  pub empty_at : (s : MStore) (ts : List Token) (T : Sums) → Past s ts T → IsOnce T → (l r : Word) → Contains ts (token (To.Instr f a Left) l)
      → Contains ts (token (To.Instr f a Right) r) → s.slots f i.slot ≡ Empty
  empty_at s ts T R once l r one two =
      both_wait P seat i (s.slots f i.slot) l r (free_at p q g h answers wired orderly inputs z start f a i o at op s ts T R once Left l one)
      (free_at p q g h answers wired orderly inputs z start f a i o at op s ts T R once Right r two)

  fires_second : (s : MStore) (r : Port) (w : Word) (x : SlotState) (made : List Token) → s.slots f i.slot ≡ x → meets P seat i x r w ≡ Becomes Empty made
      → Happens P total s (To.Instr f a r) w made (with_slot s f i.slot Empty)
  fires_second s r w x made now joins =
      subst (λ (y : Option Instr). Fires s f (slot_used y) (rule_at P seat y (slot_in s f (slot_used y)) r w) made (with_slot s f i.slot Empty)) (sym at)
      (subst (λ (y : Op). Fires s f (slot_of i y) (outcome_of P seat i y (slot_in s f (slot_of i y)) r w) made (with_slot s f i.slot Empty)) (sym op)
      (subst (λ (y : SlotState). Fires s f (Some i.slot) (meets P seat i y r w) made (with_slot s f i.slot Empty)) (sym now)
      (subst (λ (y : Outcome). Fires s f (Some i.slot) y made (with_slot s f i.slot Empty)) (sym joins) (refl, refl))))

  pub both_meet : (s : MStore) (ts rest : List Token) (T : Sums) → Past s ts T → IsOnce T
      → (first_port second_port : Port) (first_word second_word : Word) (x : SlotState) (made : List Token)
      → IsPermutation ts (token (To.Instr f a first_port) first_word ∷ token (To.Instr f a second_port) second_word ∷ rest) → s.slots f i.slot ≡ Empty
      → meets P seat i Empty first_port first_word ≡ Becomes x [] → meets P seat i x second_port second_word ≡ Becomes Empty made
      → ((k b : ℕ) (r : Port) → (last : Machine) → UsesArc p k b r (token (To.Instr f a second_port) second_word) made last
      → T.arcs k b r)
      → Past s (made ++ rest) (with_spent T (token (To.Instr f a first_port) first_word ∷ token (To.Instr f a second_port) second_word ∷ []))
  both_meet s ts rest T R once first_port second_port first_word second_word x made takes free waits joins uses =
      let first_token : Token = token (To.Instr f a first_port) first_word in
      let second_token : Token = token (To.Instr f a second_port) second_word in
      let between : MStore = with_slot s f i.slot x in
      let joined : MStore = with_slot between f i.slot Empty in
      let waited : Past between (second_token ∷ rest) (with_spent T (first_token ∷ [])) =
      one_waits p q g h answers wired orderly inputs z start f a i o at op s ts (second_token ∷ rest) T R once first_port first_word x takes free waits in
      let fired : Past joined (made ++ rest) (with_spent (with_spent T (first_token ∷ [])) (second_token ∷ [])) =
      quiet p q g h answers wired orderly inputs z start between joined (second_token ∷ rest) made rest
      (with_spent T (first_token ∷ [])) waited once f a second_port second_word i (IsPermutation-refl _)
      (fires_second between second_port second_word x made (slot_now p q g h answers wired orderly inputs z start f a i o at op s x) joins) at
      (ap counts_none op) (no_seek (instr_at P a) i (Apply2 o) at op refl)
      (λ k b r U. uses k b r record { store = joined; pool = made ++ rest } U) in
      again p q g h answers wired orderly inputs z start s _ _ (with_spent (with_spent T (first_token ∷ [])) (second_token ∷ []))
      (with_spent T (first_token ∷ second_token ∷ []))
      (subst (λ (s : MStore). Past s (made ++ rest) (with_spent (with_spent T (first_token ∷ [])) (second_token ∷ []))) (undone s f i.slot x free) fired)
      (IsPermutation-refl _) record {
        gone = refl;
        asked = refl;
        credited = refl;
        olds = λ y k. k;
        spent = λ k b r. (let e = ap (ones k b r) (append_assoc T.spent (first_token ∷ []) (second_token ∷ [])) in omega (arith, e));
        counts = λ y k fair. refl;
        arcs = λ k b r e. e;
      }
