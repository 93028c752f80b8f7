-- The code of a plan has a spelling.
use Rattle.std.proofs.Common.{◌≡◌, ℕ, zero, suc, ◌+◌, ◌<◌, ◌≤◌, ℤ, Bool, true, false, Some, None, List, [], ◌∷◌, ◌++◌, length, refl, sym, ◌∙◌}
use Rattle.std.proofs.Common.{subst, All, Contains, cond, arith}
use Rattle.std.specs.Prelude.{slice_get, slice_index_or, ◌==◌, if◌then◌else◌}
use Rattle.std.proofs.lemmas.List.Elements.{All-nil, All-cons, All-head, All-tail, All-append, All-take, All-drop}
use Rattle.tags.specs.declared.value.Origin.{Origin}
use Rattle.tags.specs.declared.value.Origin.TheVariants.{Untold, At}
use Rattle.semantics.specs.declared.program.Dest.{Dest}
use Rattle.semantics.specs.declared.program.Op.{Op}
use Rattle.semantics.specs.declared.program.Op.TheVariants.{Apply1, Apply2, Apply2Right, Apply2Left, Lit, Copy, Sync, Switch, Fetch, Store, Frame}
use Rattle.semantics.specs.declared.program.Op.TheVariants.{Link, Send, Return, Ask, Open, Take, Give, Drain, Release}
use Rattle.semantics.specs.Program.{Instr, CodeBlock, Program}
use Rattle.semantics.specs.Rule.{slot_of}
use Rattle.semantics.specs.Plan.{is_credit}
use Rattle.semantics.specs.Sharing.{placed_slot, placed_instrs}
use Rattle.semantics.specs.Placed.{needed, placed_blocks}
use Rattle.semantics.specs.Bytes.{HasOperand, IsDest, IsOrigin, IsSlot, is_dyadic}
use Rattle.semantics.specs.Opcodes.{may_fault}
use Rattle.select.specs.Emitted.{stated, firsts_of, seconds_of, emitted, emitted_instrs, emitted_block, emitted_blocks}
use Rattle.select.specs.Literals.{literal_of, as_list}
use Rattle.code.specs.Sound.{IsPlace}
use Rattle.select.specs.Emittable.{with_table}

-- BLOCKS IN THEIR PLACES
abbrev pub coded : ℕ → List ℕ → CodeBlock → CodeBlock
coded v ss c = emitted_block v (record c { slots = needed ss; instrs = placed_instrs ss c.instrs })

pub each_block : (Q : CodeBlock → Type 0) (v : ℕ) (slots : List (List ℕ)) (cs : List CodeBlock) → length slots ≡ length cs
    → ((n : ℕ) (c : CodeBlock) (ss : List ℕ) → slice_get cs n ≡ Some c → slice_get slots n ≡ Some ss → Q (coded v ss c))
    → All Q (emitted_blocks v (placed_blocks slots cs))
each_block Q v [] cs same h = All-nil Q
each_block Q v (ss ∷ slots) [] same h = All-nil Q
each_block Q v (ss ∷ slots) (c ∷ cs) same h = All-cons Q (coded v ss c) (emitted_blocks v (placed_blocks slots cs)) (h 0 c ss refl refl)
    (each_block Q v slots cs (omega arith) (λ n. h (suc n)))

pub block_count : (v : ℕ) (slots : List (List ℕ)) (cs : List CodeBlock) → length slots ≡ length cs
    → length (emitted_blocks v (placed_blocks slots cs)) ≡ length cs
block_count v [] cs same = same
block_count v (ss ∷ slots) [] same = refl
block_count v (ss ∷ slots) (c ∷ cs) same = let h = block_count v slots cs (omega arith) in omega arith

pub block_there : (v : ℕ) (slots : List (List ℕ)) (cs : List CodeBlock) (n : ℕ) (c : CodeBlock) → length slots ≡ length cs → slice_get cs n ≡ Some c
    → (x : CodeBlock) × (slice_get (emitted_blocks v (placed_blocks slots cs)) n ≡ Some x) × (x.inputs ≡ c.inputs)
block_there v [] [] n c same h = cc
block_there v [] (d ∷ cs) n c same h = absurd (omega arith)
block_there v (ss ∷ slots) [] n c same h = cc
block_there v (ss ∷ slots) (d ∷ cs) zero c same h = (coded v ss d, refl, cc)
block_there v (ss ∷ slots) (d ∷ cs) (suc n) c same h = block_there v slots cs n c (omega arith) h

pub needed_low : (ss : List ℕ) → All (λ s. s < 512) ss → needed ss ≤ 512
needed_low [] h = omega arith
needed_low (s ∷ ss) h = let low = needed_low ss (All-tail (λ s. s < 512) s ss h) in let here = All-head (λ s. s < 512) s ss h in omega arith

pub slot_low : (ss : List ℕ) (h : ℕ) → h < length ss → slice_index_or ss h 0 < needed ss
slot_low [] h lt = absurd (omega arith)
slot_low (s ∷ ss) zero lt = omega arith
slot_low (s ∷ ss) (suc h) lt = let low = slot_low ss h (omega arith) in omega arith

-- INSTRUCTIONS IN THEIR PLACES
abbrev pub put : ℕ → List ℕ → Instr → Instr
put v ss i = emitted v (record i { slot = placed_slot ss (slot_of i i.op) })

pub instr_there : (v : ℕ) (ss : List ℕ) (is : List Instr) (n : ℕ) (x : Instr) → slice_get (emitted_instrs v (placed_instrs ss is)) n ≡ Some x
    → (i : Instr) × (slice_get is n ≡ Some i) × (put v ss i ≡ x)
instr_there v ss [] n x h = cc
instr_there v ss (i ∷ is) zero x h = (i, refl, cc)
instr_there v ss (i ∷ is) (suc n) x h = instr_there v ss is n x h

pub instr_count : (v : ℕ) (ss : List ℕ) (is : List Instr) → length (emitted_instrs v (placed_instrs ss is)) ≡ length is
instr_count v ss [] = refl
instr_count v ss (i ∷ is) = let h = instr_count v ss is in omega arith

abbrev dyadic_at : Instr → Op → Bool
dyadic_at i op = elim (slot_of i op) as (λ x. Bool) [ None ↦ false | Some r ↦ if is_credit op then false else true ]

dyadic_same : (i j : Instr) (op : Op) → dyadic_at i op ≡ dyadic_at j op
dyadic_same i j (Apply1 x) = refl
dyadic_same i j (Apply2 x) = refl
dyadic_same i j (Apply2Right x z) = refl
dyadic_same i j (Apply2Left x z) = refl
dyadic_same i j (Lit z) = refl
dyadic_same i j Copy = refl
dyadic_same i j Sync = refl
dyadic_same i j Switch = refl
dyadic_same i j (Fetch a) = refl
dyadic_same i j (Store a) = refl
dyadic_same i j Frame = refl
dyadic_same i j (Link b) = refl
dyadic_same i j (Send b e) = refl
dyadic_same i j (Return o) = refl
dyadic_same i j (Ask o) = refl
dyadic_same i j (Open k) = refl
dyadic_same i j (Take k) = refl
dyadic_same i j (Give k) = refl
dyadic_same i j (Drain k) = refl
dyadic_same i j (Release o) = refl

pub dyadic_there : (v : ℕ) (ss : List ℕ) (is : List Instr) (n : ℕ) → is_dyadic (slice_get (emitted_instrs v (placed_instrs ss is)) n)
    ≡ is_dyadic (slice_get is n)
dyadic_there v ss [] n = refl
dyadic_there v ss (i ∷ is) zero = dyadic_same (put v ss i) i i.op
dyadic_there v ss (i ∷ is) (suc n) = dyadic_there v ss is n

pub dest_there : (v : ℕ) (ss : List ℕ) (c : CodeBlock) (n : ℕ) (d : Dest) → IsDest c n d → IsDest (coded v ss c) n d
dest_there v ss c n d h = record {
  later = h.later;
  inside = let same = instr_count v ss c.instrs in let lt = h.inside in omega arith;
  right = λ port. dyadic_there v ss c.instrs (n + d.ahead) ∙ h.right port;
}

pub firsts_all : (P : Dest → Type 0) (t : Bool) (ds es : List Dest) → All P ds → All P es → All P (firsts_of t ds es)
firsts_all P true ds es a b = a
firsts_all P false ds es a b = All-take P 1 (ds ++ es) (All-append P ds es a b)

pub seconds_all : (P : Dest → Type 0) (t : Bool) (ds es : List Dest) → All P ds → All P es → All P (seconds_of t ds es)
seconds_all P true ds es a b = b
seconds_all P false ds es a b = All-drop P 1 (ds ++ es) (All-append P ds es a b)

two_is : (v : ℕ) (r : Bool) → (v == 2) ≡ r → r ≡ true → v ≡ 2
two_is v r e h = grind arith

origin_stated : (v : ℕ) (op : Op) (r : Bool) (o : Origin) → (v == 2) ≡ r → may_fault op ≡ true → IsPlace o → IsOrigin v op (cond r o Untold)
origin_stated v op false o e f h = tt
origin_stated v op true Untold e f h = tt
origin_stated v op true (At b n) e f h = (two_is v true e refl, f, h.0, h.1)

pub origin_kept : (v : ℕ) (op : Op) (t : Bool) (o : Origin) → may_fault op ≡ t → IsPlace o → IsOrigin v op (stated v t o)
origin_kept v op false o f h = tt
origin_kept v op true o f h = origin_stated v op (v == 2) o refl f h

slot_is : (ss : List ℕ) (b : CodeBlock) (i j : Instr) → b.slots ≡ needed ss → j.slot ≡ slice_index_or ss i.slot 0 → i.slot < length ss → j.slot < b.slots
slot_is ss b i j s e lt = let low = slot_low ss i.slot lt in omega arith

pub slot_there : (ss : List ℕ) (b : CodeBlock) (i j : Instr) (op : Op) → b.slots ≡ needed ss → j.slot ≡ placed_slot ss (slot_of i op)
    → ((h : ℕ) → slot_of i op ≡ Some h → h < length ss) → IsSlot b j (slot_of j op)
slot_there ss b i j (Apply1 x) s e h = e
slot_there ss b i j (Apply2 x) s e h = slot_is ss b i j s e (h i.slot refl)
slot_there ss b i j (Apply2Right x z) s e h = e
slot_there ss b i j (Apply2Left x z) s e h = e
slot_there ss b i j (Lit z) s e h = e
slot_there ss b i j Copy s e h = e
slot_there ss b i j Sync s e h = slot_is ss b i j s e (h i.slot refl)
slot_there ss b i j Switch s e h = slot_is ss b i j s e (h i.slot refl)
slot_there ss b i j (Fetch a) s e h = e
slot_there ss b i j (Store a) s e h = slot_is ss b i j s e (h i.slot refl)
slot_there ss b i j Frame s e h = e
slot_there ss b i j (Link k) s e h = e
slot_there ss b i j (Send k x) s e h = slot_is ss b i j s e (h i.slot refl)
slot_there ss b i j (Return o) s e h = slot_is ss b i j s e (h i.slot refl)
slot_there ss b i j (Ask o) s e h = slot_is ss b i j s e (h i.slot refl)
slot_there ss b i j (Open k) s e h = slot_is ss b i j s e (h i.slot refl)
slot_there ss b i j (Take k) s e h = slot_is ss b i j s e (h i.slot refl)
slot_there ss b i j (Give k) s e h = slot_is ss b i j s e (h i.slot refl)
slot_there ss b i j (Drain k) s e h = slot_is ss b i j s e (h i.slot refl)
slot_there ss b i j (Release o) s e h = slot_is ss b i j s e (h i.slot refl)

-- an operand that exists in the plan exists in its code
pub operand_there : (p q : Program) (ls : List ℤ) (op : Op) → q.arrays ≡ p.arrays → length q.blocks ≡ length p.blocks
    → ((b : ℕ) (c : CodeBlock) → slice_get p.blocks b ≡ Some c → (x : CodeBlock) × (slice_get q.blocks b ≡ Some x) × (x.inputs ≡ c.inputs))
    → All (Contains ls) (as_list (literal_of op)) → HasOperand (with_table p (as_list (literal_of op))) op → HasOperand (with_table q ls) op
operand_there p q ls (Apply1 x) a n b l h = tt
operand_there p q ls (Apply2 x) a n b l h = tt
operand_there p q ls (Apply2Right x z) a n b l h = All-head (Contains ls) z [] l
operand_there p q ls (Apply2Left x z) a n b l h = All-head (Contains ls) z [] l
operand_there p q ls (Lit z) a n b l h = All-head (Contains ls) z [] l
operand_there p q ls Copy a n b l h = tt
operand_there p q ls Sync a n b l h = tt
operand_there p q ls Switch a n b l h = tt
operand_there p q ls (Fetch k) a n b l h = subst (λ ns. k < length ns) (sym a) h
operand_there p q ls (Store k) a n b l h = subst (λ ns. k < length ns) (sym a) h
operand_there p q ls Frame a n b l h = tt
operand_there p q ls (Link k) a n b l h = subst (λ m. k < m) (sym n) h
operand_there p q ls (Send k e) a n b l h = let y = b k h.0 h.1 in (y.0, y.1, subst (λ m. e ≤ m) (sym y.2) h.2)
operand_there p q ls (Return o) a n b l h = h
operand_there p q ls (Ask o) a n b l h = h
operand_there p q ls (Open k) a n b l h = h
operand_there p q ls (Take k) a n b l h = h
operand_there p q ls (Give k) a n b l h = h
operand_there p q ls (Drain k) a n b l h = h
operand_there p q ls (Release o) a n b l h = h
