-- Emitted code is alike to the placed program, and the program of a plan is alike to the one with a slot for each holder.
use Rattle.std.proofs.Common.{◌≡◌, refl, sym, ap, ◌∙◌, ℕ, Bool, true, false, List, [], ◌∷◌, ◌++◌, length, Some, arith, All}
use Rattle.std.specs.Prelude.{take, drop}
use Rattle.std.proofs.lemmas.List.Elements.{All-head, All-tail}
use Rattle.tags.specs.declared.value.Origin.TheVariants.{Untold}
use Rattle.semantics.specs.declared.program.Dest.{Dest}
use Rattle.semantics.specs.declared.program.Op.{Op}
use Rattle.semantics.specs.declared.program.Op.TheVariants.{Apply2, Sync, Switch, Fetch, Store, Frame, Link, Send, Return, Ask, Open, Take, Give, Drain}
use Rattle.semantics.specs.declared.program.Op.TheVariants.{Release}
use Rattle.semantics.specs.Program.{Instr, CodeBlock}
use Rattle.semantics.specs.Rule.{slot_of}
use Rattle.semantics.specs.Opcodes.{may_fault}
use Rattle.semantics.specs.Plan.{Plan, HasShape, IsPlan}
use Rattle.semantics.specs.Sharing.{placed_slot, placed_instrs}
use Rattle.semantics.specs.Placed.{placed_blocks, placed}
use Rattle.semantics.specs.declared.version.Version.{Version}
use Rattle.semantics.specs.declared.version.Version.TheVariants.{One, Two}
use Rattle.semantics.specs.Versions.{version_number}
use Rattle.select.specs.Emitted.{stated, firsts_of, seconds_of, emitted, emitted_instrs, emitted_blocks, code_of}
use Rattle.semantics.specs.Opcodes.{has_sides}
use Rattle.law_compiler.specs.EmittedAlike.{is_split, AreAlikeInstrs, AllAlike, AllBlocksAlike, AreAlike}
use Rattle.law_compiler.specs.EmittedSameRuns.{HasOrigins}

-- DESTINATIONS
whole_same : (sides : Bool) (ds es : List Dest) → ds ++ es ≡ firsts_of sides ds es ++ seconds_of sides ds es
whole_same true ds es = refl
whole_same false ds es = by (ds ++ es)
  where
    by : (l : List Dest) → l ≡ take 1 l ++ drop 1 l
    by [] = refl
    by (d ∷ l) = refl

-- one answer's destination stays the first one
answer_first : (ds es : List Dest) → (length ds ≡ 1) × (length es ≡ 0) → ds ≡ take 1 (ds ++ es)
answer_first [] es h = let n = h.0 in absurd (omega arith)
answer_first (d ∷ []) es h = refl
answer_first (d ∷ e ∷ ds) es h = let n = h.0 in absurd (omega arith)

answer_second : (ds es : List Dest) → (length ds ≡ 1) × (length es ≡ 0) → es ≡ drop 1 (ds ++ es)
answer_second [] es h = let n = h.0 in absurd (omega arith)
answer_second (d ∷ []) es h = refl
answer_second (d ∷ e ∷ ds) es h = let n = h.0 in absurd (omega arith)

firsts_same : (op : Op) (ds es : List Dest) → HasShape op (length ds) (length es) → is_split op ≡ true → ds ≡ firsts_of (has_sides op) ds es
firsts_same Switch ds es h e = refl
firsts_same (Link b) ds es h e = refl
firsts_same (Fetch a) ds es h e = answer_first ds es h
firsts_same (Store a) ds es h e = answer_first ds es h
firsts_same Frame ds es h e = answer_first ds es h
firsts_same (Ask o) ds es h e = answer_first ds es h
firsts_same op ds es h e = cc

seconds_same : (op : Op) (ds es : List Dest) → HasShape op (length ds) (length es) → is_split op ≡ true → es ≡ seconds_of (has_sides op) ds es
seconds_same Switch ds es h e = refl
seconds_same (Link b) ds es h e = refl
seconds_same (Fetch a) ds es h e = answer_second ds es h
seconds_same (Store a) ds es h e = answer_second ds es h
seconds_same Frame ds es h e = answer_second ds es h
seconds_same (Ask o) ds es h e = answer_second ds es h
seconds_same op ds es h e = cc

-- ORIGINS
abbrev CanTell : Version → Instr → Type 0
CanTell One i = i.origin ≡ Untold
CanTell Two i = Unit {0}

meant_same : (version : Version) (i : Instr) → CanTell version i → may_fault i.op ≡ true → i.origin ≡ stated (version_number version) (may_fault i.op) i.origin
meant_same One i h e = h ∙ ap (λ (b : Bool). stated 1 b i.origin) (sym e)
meant_same Two i h e = ap (λ (b : Bool). stated 2 b i.origin) (sym e)

-- AN INSTRUCTION WITH ITS SLOT
abbrev put : List ℕ → Instr → Instr
put ss i = record i { slot = placed_slot ss (slot_of i i.op) }

instr_alike : (version : Version) (i : Instr) → HasShape i.op (length i.firsts) (length i.seconds) → CanTell version i
    → AreAlikeInstrs i (emitted (version_number version) i)
instr_alike version i shape tells = record {
  op = refl;
  slot = slot_kept i (emitted (version_number version) i) i.op refl;
  dests = whole_same (has_sides i.op) i.firsts i.seconds;
  firsts = firsts_same i.op i.firsts i.seconds shape;
  seconds = seconds_same i.op i.firsts i.seconds shape;
  origin = meant_same version i tells;
}
  where
    slot_kept : (x y : Instr) (op : Op) → x.slot ≡ y.slot → slot_of x op ≡ slot_of y op
    slot_kept x y (Apply2 op) e = ap (λ n. Some n) e
    slot_kept x y Sync e = ap (λ n. Some n) e
    slot_kept x y Switch e = ap (λ n. Some n) e
    slot_kept x y (Store a) e = ap (λ n. Some n) e
    slot_kept x y (Send b o) e = ap (λ n. Some n) e
    slot_kept x y (Return o) e = ap (λ n. Some n) e
    slot_kept x y (Ask o) e = ap (λ n. Some n) e
    slot_kept x y (Release o) e = ap (λ n. Some n) e
    slot_kept x y (Open k) e = ap (λ n. Some n) e
    slot_kept x y (Take k) e = ap (λ n. Some n) e
    slot_kept x y (Give k) e = ap (λ n. Some n) e
    slot_kept x y (Drain k) e = ap (λ n. Some n) e
    slot_kept x y op e = refl

abbrev IsShaped : Version → Instr → Type 0
IsShaped version i = HasShape i.op (length i.firsts) (length i.seconds) × CanTell version i

tells_placed : (version : Version) (ss : List ℕ) (i : Instr) → CanTell version i → CanTell version (put ss i)
tells_placed One ss i h = h
tells_placed Two ss i h = tt

instrs_alike : (version : Version) (ss : List ℕ) (is : List Instr) → All (IsShaped version) is
    → AllAlike (placed_instrs ss is) (emitted_instrs (version_number version) (placed_instrs ss is))
instrs_alike version ss [] h = tt
instrs_alike version ss (i ∷ is) h =
    let one = All-head (IsShaped version) i is h in
    (instr_alike version (put ss i) one.0 (tells_placed version ss i one.1), instrs_alike version ss is (All-tail (IsShaped version) i is h))

blocks_alike : (version : Version) (slots : List (List ℕ)) (cs : List CodeBlock) → All (λ (c : CodeBlock). All (IsShaped version) c.instrs) cs
    → AllBlocksAlike (placed_blocks slots cs) (emitted_blocks (version_number version) (placed_blocks slots cs))
blocks_alike version [] cs h = tt
blocks_alike version (ss ∷ more) [] h = tt
blocks_alike version (ss ∷ more) (c ∷ cs) h = (
  record { inputs = refl; outputs = refl; instrs = instrs_alike version ss c.instrs (All-head (λ (c : CodeBlock). All (IsShaped version) c.instrs) c cs h) },
  blocks_alike version more cs (All-tail (λ (c : CodeBlock). All (IsShaped version) c.instrs) c cs h),
)

tells_all : (version : Version) (p : Plan) → HasOrigins version p → All (λ (c : CodeBlock). All (CanTell version) c.instrs) p.program.blocks
tells_all One p h = h
tells_all Two p h = λ k d lt j e le. tt

-- emitted code and the placed program
pub emitted_alike : (p : Plan) (slots : List (List ℕ)) (version : Version) → IsPlan p → HasOrigins version p
    → AreAlike (placed p slots) (code_of version p slots)
emitted_alike p slots version plan tells = record {
  blocks = blocks_alike version slots p.program.blocks (λ k d lt j e le. ((plan.blocks k d lt).shapes j e le, tells_all version p tells k d lt j e le));
  arrays = refl;
  main = refl;
}
