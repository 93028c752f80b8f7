-- A code that has an object has lines: each of its numbers has room there.
use Rattle.std.proofs.Common.{◌≡◌, ℕ, ◌^◌, ◌<◌, ◌≤◌, List, [], ◌∷◌, length, All, ℤ, refl, arith}
use Rattle.std.specs.Int.{w64}
use Rattle.std.specs.Int.RustNames.{FitsSigned}
use Rattle.std.proofs.lemmas.Option.{slice_get_within}
use Rattle.std.proofs.lemmas.List.Elements.{All-contains, All-weaker}
use Rattle.lemmas.proofs.Alls.{all_at, all_from}
use Rattle.tags.specs.declared.value.Origin.{Origin}
use Rattle.tags.specs.declared.value.Origin.TheVariants.{Untold, At}
use Rattle.semantics.specs.declared.program.Dest.{Dest}
use Rattle.semantics.specs.declared.program.Op.{Op}
use Rattle.semantics.specs.declared.program.Op.TheVariants.{Apply1, Apply2, Apply2Right, Apply2Left, Lit, Copy, Sync, Switch, Fetch, Store, Frame}
use Rattle.semantics.specs.declared.program.Op.TheVariants.{Link, Send, Return, Ask, Open, Take, Give, Drain, Release}
use Rattle.semantics.specs.Program.{Instr, CodeBlock, Code}
use Rattle.semantics.specs.Bytes.{IsDest, HasOperand, HasDests, IsOrigin, IsInstr, IsCodeBlock, IsCode}
use Rattle.assembler.proofs.Again.{HasRoom, IsNear, IsPlace}
use Rattle.assembler.proofs.LinesAgain.{HasLine}
use Rattle.assembler.proofs.StepsAgain.{HasLines}

has_room : (version : ℕ) (c : Code) → IsCode version c → (op : Op) → HasOperand c op → HasRoom op
has_room version c is (Apply1 op) h = tt
has_room version c is (Apply2 op) h = tt
has_room version c is (Apply2Right op z) h = All-contains (λ (y : ℤ). FitsSigned w64 y) c.literals z is.literals h
has_room version c is (Apply2Left op z) h = All-contains (λ (y : ℤ). FitsSigned w64 y) c.literals z is.literals h
has_room version c is (Lit z) h = All-contains (λ (y : ℤ). FitsSigned w64 y) c.literals z is.literals h
has_room version c is Copy h = tt
has_room version c is Sync h = tt
has_room version c is Switch h = tt
has_room version c is (Fetch a) h = let few = is.few_arrays in omega arith
has_room version c is (Store a) h = let few = is.few_arrays in omega arith
has_room version c is Frame h = tt
has_room version c is (Link b) h = let few = is.some_block.1 in omega arith
has_room version c is (Send b e) h =
    let few = is.some_block.1 in
    let lt = slice_get_within c.program.blocks b h.0 h.1 in
    let x = all_at (IsCodeBlock version c) c.program.blocks b h.0 is.blocks h.1 in
    let most = x.inputs.1 in
    let le = h.2 in
    (omega arith, omega arith)
has_room version c is (Return o) h = omega arith
has_room version c is (Ask o) h = omega arith
has_room version c is (Open k) h = let most = h.1 in omega arith
has_room version c is (Take k) h = let most = h.1 in omega arith
has_room version c is (Give k) h = let most = h.1 in omega arith
has_room version c is (Drain k) h = let most = h.1 in omega arith
has_room version c is (Release o) h = omega arith

abbrev AtMostOne : List Dest → List Dest → Type 0
AtMostOne ds es = (length ds ≤ 1) × (length es ≤ 1)

in_turn : (ds es : List Dest) → length ds ≤ 1 → length es ≤ length ds → AtMostOne ds es
in_turn ds es h k = (h, omega arith)

one_or_none : (ds es : List Dest) (m : ℕ) → m ≤ 1 → length ds ≡ m → length es ≡ 0 → AtMostOne ds es
one_or_none ds es m l h k = (omega (arith, h), omega (arith, k))

most_and_none : (ds es : List Dest) → length ds ≤ 1 → length es ≡ 0 → AtMostOne ds es
most_and_none ds es h k = (h, omega (arith, k))

few_dests : (op : Op) (ds es : List Dest) → HasDests op ds es → AtMostOne ds es
few_dests (Apply1 op) ds es h = in_turn ds es h.0 h.1
few_dests (Apply2 op) ds es h = in_turn ds es h.0 h.1
few_dests (Apply2Right op z) ds es h = in_turn ds es h.0 h.1
few_dests (Apply2Left op z) ds es h = in_turn ds es h.0 h.1
few_dests (Lit z) ds es h = in_turn ds es h.0 h.1
few_dests Copy ds es h = in_turn ds es h.0 h.1
few_dests Sync ds es h = in_turn ds es h.0 h.1
few_dests Switch ds es h = h
few_dests (Fetch a) ds es h = one_or_none ds es 1 (omega arith) h.0 h.1
few_dests (Store a) ds es h = one_or_none ds es 1 (omega arith) h.0 h.1
few_dests Frame ds es h = one_or_none ds es 1 (omega arith) h.0 h.1
few_dests (Link b) ds es h = (let e = h.0 in omega (arith, e), h.2)
few_dests (Send b e) ds es h = in_turn ds es h.0 h.1
few_dests (Return o) ds es h = in_turn ds es h.0 h.1
few_dests (Ask o) ds es h = one_or_none ds es 1 (omega arith) h.0 h.1
few_dests (Open k) ds es h = in_turn ds es h.0 h.1
few_dests (Take k) ds es h = one_or_none ds es 0 (omega arith) h.0 h.1
few_dests (Give k) ds es h = most_and_none ds es h.0 h.1
few_dests (Drain k) ds es h = most_and_none ds es h.0 h.1
few_dests (Release o) ds es h = one_or_none ds es 0 (omega arith) h.0 h.1

is_near : (b : CodeBlock) (n : ℕ) (ds : List Dest) → length b.instrs ≤ 32768 → length ds ≤ 1 → All (IsDest b n) ds → IsNear ds
is_near b n [] few one all = tt
is_near b n (d ∷ []) few one all = let is : IsDest b n d = all 0 d (omega arith) in (let lt = is.inside in omega arith, refl)
is_near b n (d ∷ e ∷ ds) few one all = absurd (omega arith)

is_place : (version : ℕ) (op : Op) (o : Origin) → IsOrigin version op o → IsPlace o
is_place version op Untold h = tt
is_place version op (At b n) h = (h.2, h.3)

pub has_line : (version : ℕ) (c : Code) (b : CodeBlock) (n : ℕ) (i : Instr) → IsCode version c → IsCodeBlock version c b → IsInstr version c b n i → HasLine b i
has_line version c b n i is block it =
    let few = few_dests i.op i.firsts i.seconds it.dests in
    record {
      room = has_room version c is i.op it.operand;
      few = block.slots;
      slot = it.slot;
      firsts = is_near b n i.firsts block.size.1 few.0 it.firsts;
      seconds = is_near b n i.seconds block.size.1 few.1 it.seconds;
      origin = is_place version i.op i.origin it.origin;
    }

block_lines : (version : ℕ) (c : Code) → IsCode version c → (b : CodeBlock) → IsCodeBlock version c b → HasLines b
block_lines version c is b block = record {
  numbers = record {
    inputs = let h = block.inputs.1 in omega arith;
    outputs = let h = block.outputs.1 in omega arith;
    slots = let h = block.slots
        in omega arith;
  };
  few = let h = block.size.1 in omega arith;
  instrs = all_from (HasLine b) b.instrs (λ n i at. has_line version c b n i is block (block.instrs n i at));
}

pub all_lines : (version : ℕ) (c : Code) → IsCode version c → All HasLines c.program.blocks
all_lines version c is = All-weaker (IsCodeBlock version c) HasLines (block_lines version c is) c.program.blocks is.blocks

pub all_lengths : (version : ℕ) (c : Code) → IsCode version c → All (λ n. n < 2 ^ 32) c.program.arrays
all_lengths version c is = All-weaker (λ n. (1 ≤ n) × (n ≤ 65536)) (λ n. n < 2 ^ 32) (λ n h. let most = h.1 in omega arith) c.program.arrays is.arrays
