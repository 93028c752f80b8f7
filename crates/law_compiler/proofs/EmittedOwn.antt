-- A slot for each holder: these slots are good, and the code does what the plan's program does.
use Rattle.std.proofs.Common.{◌≡◌, refl, sym, ap, ◌∙◌, subst, ℕ, zero, suc, ◌+◌, ◌<◌, ◌≤◌, List, [], ◌∷◌, length, map, Option, Some, arith, All, Contains}
use Rattle.std.specs.Prelude.{slice_get, slice_index_or}
use Rattle.std.proofs.lemmas.List.Elements.{All-nil, All-cons, All-head, All-tail, All-weaker, All-contains_itself}
use Rattle.lemmas.proofs.Alls.{all_at}
use Rattle.semantics.specs.declared.program.Op.{Op}
use Rattle.semantics.specs.declared.program.Op.TheVariants.{Apply2, Sync, Switch, Store, Send, Return, Ask, Open, Take, Give, Drain, Release}
use Rattle.semantics.specs.Program.{Instr, CodeBlock}
use Rattle.semantics.specs.Rule.{slot_of}
use Rattle.semantics.specs.Plan.{Plan, IsPlanBlock, IsPlan}
use Rattle.semantics.specs.Sharing.{placed_slot, placed_instrs, IsGoodBlock, Good}
use Rattle.semantics.specs.Placed.{placed_blocks, placed}
use Rattle.law_compiler.specs.EmittedAlike.{AllAlike, AllBlocksAlike, AreAlike}
use Rattle.law_compiler.specs.EmittedSameRuns.{row_from, own_slots, HasFewHolders}

row_length : (first n : ℕ) → length (row_from first n) ≡ n
row_length first zero = refl
row_length first (suc n) = ap (λ k. suc k) (row_length (first + 1) n)

row_get : (first n k s : ℕ) → slice_get (row_from first n) k ≡ Some s → s ≡ first + k
row_get first zero k s e = cc
row_get first (suc n) zero s e = let same : first ≡ s = cc in omega arith
row_get first (suc n) (suc k) s e = let rest = row_get (first + 1) n k s e in omega arith

row_at : (first n k : ℕ) → k < n → slice_index_or (row_from first n) k 0 ≡ first + k
row_at first zero k h = absurd (omega arith)
row_at first (suc n) zero h = omega arith
row_at first (suc n) (suc k) h = let rest = row_at (first + 1) n k (omega arith) in omega arith

row_below : (first n top : ℕ) → first + n ≤ top → All (λ s. s < top) (row_from first n)
row_below first zero top h = All-nil (λ s. s < top)
row_below first (suc n) top h = All-cons (λ s. s < top) first (row_from (first + 1) n) (omega arith) (row_below (first + 1) n top (omega arith))

-- GOOD
as_many_rows : (cs : List CodeBlock) → length (map (λ (c : CodeBlock). row_from 0 c.slots) cs) ≡ length cs
as_many_rows [] = refl
as_many_rows (c ∷ cs) = ap (λ n. suc n) (as_many_rows cs)

row_of : (cs : List CodeBlock) (b : ℕ) (c : CodeBlock) (ss : List ℕ) → slice_get cs b ≡ Some c
    → slice_get (map (λ (c : CodeBlock). row_from 0 c.slots) cs) b ≡ Some ss → row_from 0 c.slots ≡ ss
row_of [] b c ss here there = cc
row_of (d ∷ cs) zero c ss here there =
    let same : d ≡ c = cc in
    let row : row_from 0 d.slots ≡ ss = cc in
    ap (λ (x : CodeBlock). row_from 0 x.slots) (sym same) ∙ row
row_of (d ∷ cs) (suc b) c ss here there = row_of cs b c ss here there

block_good : (p : Plan) (b : ℕ) (c : CodeBlock) → c.slots ≤ 512 → IsGoodBlock p b c (row_from 0 c.slots)
block_good p b c few = record {
  all = row_length 0 c.slots;
  below = row_below 0 c.slots 512 (omega arith);
  share = λ g h s at too differ.
      let one = row_get 0 c.slots g s at in
      let two = row_get 0 c.slots h s too in
      let same : g ≡ h = omega arith in
      absurd (differ same);
}

pub own_good : (p : Plan) → HasFewHolders p → Good p (own_slots p)
own_good p few = record {
  all = as_many_rows p.program.blocks;
  blocks =
      λ b c ss here there. subst (IsGoodBlock p b c) (row_of p.program.blocks b c ss here there)
      (block_good p b c (all_at (λ (x : CodeBlock). x.slots ≤ 512) p.program.blocks b c few here));
}

-- ALIKE
abbrev IsWithin : ℕ → Instr → Type 0
IsWithin n i = (h : ℕ) → slot_of i i.op ≡ Some h → h < n

abbrev put : List ℕ → Instr → Instr
put ss i = record i { slot = placed_slot ss (slot_of i i.op) }

slot_put : (n : ℕ) (x y : Instr) (op : Op) → ((h : ℕ) → slot_of x op ≡ Some h → h < n) → y.slot ≡ placed_slot (row_from 0 n) (slot_of x op)
    → slot_of x op ≡ slot_of y op
slot_put n x y op within is = by op (slot_of x op) refl within is
  where
    kept : x.slot < n → y.slot ≡ slice_index_or (row_from 0 n) x.slot 0 → Some x.slot ≡ Some y.slot
    kept low e = let at = row_at 0 n x.slot low in let same : x.slot ≡ y.slot = omega arith in ap (λ k. Some k) same

    by : (o : Op) (u : Option ℕ) → slot_of x o ≡ u → ((h : ℕ) → slot_of x o ≡ Some h → h < n) → y.slot ≡ placed_slot (row_from 0 n) (slot_of x o)
        → slot_of x o ≡ slot_of y o
    by (Apply2 k) u e w i = kept (w x.slot refl) i
    by Sync u e w i = kept (w x.slot refl) i
    by Switch u e w i = kept (w x.slot refl) i
    by (Store a) u e w i = kept (w x.slot refl) i
    by (Send b k) u e w i = kept (w x.slot refl) i
    by (Return k) u e w i = kept (w x.slot refl) i
    by (Ask k) u e w i = kept (w x.slot refl) i
    by (Release k) u e w i = kept (w x.slot refl) i
    by (Open k) u e w i = kept (w x.slot refl) i
    by (Take k) u e w i = kept (w x.slot refl) i
    by (Give k) u e w i = kept (w x.slot refl) i
    by (Drain k) u e w i = kept (w x.slot refl) i
    by o u e w i = refl

instrs_own : (n : ℕ) (is : List Instr) → All (IsWithin n) is → AllAlike is (placed_instrs (row_from 0 n) is)
instrs_own n [] h = tt
instrs_own n (i ∷ is) h = (
  record {
    op = refl;
    slot = slot_put n i (put (row_from 0 n) i) i.op (All-head (IsWithin n) i is h) refl;
    dests = refl;
    firsts = λ e. refl;
    seconds = λ e. refl;
    origin = λ e. refl;
  },
  instrs_own n is (All-tail (IsWithin n) i is h),
)

blocks_own : (cs : List CodeBlock) → All IsPlanBlock cs → AllBlocksAlike cs (placed_blocks (map (λ (c : CodeBlock). row_from 0 c.slots) cs) cs)
blocks_own [] h = tt
blocks_own (c ∷ cs) h =
    let plan : IsPlanBlock c = All-head IsPlanBlock c cs h in (
      record {
        inputs = refl;
        outputs = refl;
        instrs =
            instrs_own c.slots c.instrs (All-weaker (Contains c.instrs) (IsWithin c.slots) (λ i has s used. plan.below i s has used) c.instrs
            (All-contains_itself c.instrs));
      },
      blocks_own cs (All-tail IsPlanBlock c cs h),
    )

pub own_alike : (p : Plan) → IsPlan p → AreAlike p.program (placed p (own_slots p))
own_alike p plan = record { blocks = blocks_own p.program.blocks plan.blocks; arrays = refl; main = refl }
