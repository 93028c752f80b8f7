-- A sound plan that is narrowed and has good slots has an object.
use Rattle.std.proofs.Common.{◌≡◌, refl, ℕ, ◌≤◌, List, ◌++◌, length, take, drop, Some, arith, length-append}
use Rattle.std.specs.Prelude.{slice_get, All, Contains}
use Rattle.std.proofs.lemmas.List.{length-take, length-drop}
use Rattle.std.proofs.lemmas.List.Elements.{Contains-append_left, Contains-append_right}
use Rattle.lemmas.proofs.Alls.{all_at, all_from}
use Rattle.lemmas.proofs.Contains.{get_contains}
use Rattle.semantics.specs.declared.program.Dest.{Dest}
use Rattle.semantics.specs.declared.program.Op.{Op}
use Rattle.semantics.specs.declared.program.Op.TheVariants.{Apply2Right, Apply2Left, Lit, Switch, Fetch, Store, Frame, Link, Ask, Take, Give, Drain, Release}
use Rattle.semantics.specs.Program.{Instr, CodeBlock, Program}
use Rattle.semantics.specs.Plan.{Plan, IsPlanBlock}
use Rattle.semantics.specs.Bytes.{HasOperand, HasDests, IsDest}
use Rattle.semantics.specs.Sharing.{Good, IsGoodBlock}
use Rattle.code.specs.Sound.{NamesRightly, IsSoundBlock, IsSound}
use Rattle.fanout.specs.Narrowed.{narrowed}
use Rattle.fanout.specs.Laws.{AllInstrs, HasItsDests}
use Rattle.fanout.proofs.SoundPlans.{stays_sound, sound_has_dests}
use Rattle.select.specs.Emitted.{firsts_of, seconds_of}
use Rattle.semantics.specs.Opcodes.{has_sides}
use Rattle.select.specs.Literals.{literal_of, as_list}
use Rattle.select.specs.Emittable.{with_table, IsEmittableInstr, IsEmittableBlock, IsEmittable}
use Rattle.law_compiler.specs.ObjectsSound.{SoundHaveObjects}

-- ONE INSTRUCTION, by its operation: any literal is in a table of its own
operand : (p : Program) (op : Op) → NamesRightly p op → HasOperand (with_table p (as_list (literal_of op))) op
operand p (Apply2Right op z) h = (0, omega arith, refl)
operand p (Apply2Left op z) h = (0, omega arith, refl)
operand p (Lit z) h = (0, omega arith, refl)
operand p op h = h

-- one destination first, and the other one second
one_only : (ds es : List Dest) → (length ds ≡ 1) × (length es ≡ 0) → (length (take 1 (ds ++ es)) ≡ 1) × (length (drop 1 (ds ++ es)) ≡ 0)
one_only ds es h =
    let a = length-take 1 (ds ++ es) in let b = length-drop 1 (ds ++ es) in let n = length-append ds es in let x = h.0 in let y = h.1 in
    (omega (arith, a, n, x, y), omega (arith, b, n, x, y))

none_at_all : (ds es : List Dest) → (length ds ≡ 0) × (length es ≡ 0) → (length (take 1 (ds ++ es)) ≡ 0) × (length (drop 1 (ds ++ es)) ≡ 0)
none_at_all ds es h =
    let a = length-take 1 (ds ++ es) in let b = length-drop 1 (ds ++ es) in let n = length-append ds es in let x = h.0 in let y = h.1 in
    (omega (arith, a, n, x, y), omega (arith, b, n, x, y))

one_at_most : (ds es : List Dest) → (length ds ≤ 1) × (length es ≡ 0) → (length (take 1 (ds ++ es)) ≤ 1) × (length (drop 1 (ds ++ es)) ≡ 0)
one_at_most ds es h =
    let a = length-take 1 (ds ++ es) in let b = length-drop 1 (ds ++ es) in let n = length-append ds es in let x = h.0 in let y = h.1 in
    (omega (arith, a), omega (arith, b, n, x, y))

two_at_most : (ds es : List Dest) → (length ds ≤ 1) × (length es ≤ length ds)
    → (length (take 1 (ds ++ es)) ≤ 1) × (length (drop 1 (ds ++ es)) ≤ length (take 1 (ds ++ es)))
two_at_most ds es h =
    let a = length-take 1 (ds ++ es) in let b = length-drop 1 (ds ++ es) in let n = length-append ds es in let x = h.0 in let y = h.1 in
    (omega (arith, a), omega (arith, a, b, n, x, y))

emitted_dests : (op : Op) (ds es : List Dest) → HasDests op ds es → HasDests op (firsts_of (has_sides op) ds es) (seconds_of (has_sides op) ds es)
emitted_dests Switch ds es h = h
emitted_dests (Link b) ds es h = h
emitted_dests (Fetch a) ds es h = one_only ds es h
emitted_dests (Store a) ds es h = one_only ds es h
emitted_dests Frame ds es h = one_only ds es h
emitted_dests (Ask o) ds es h = one_only ds es h
emitted_dests (Take k) ds es h = none_at_all ds es h
emitted_dests (Release o) ds es h = none_at_all ds es h
emitted_dests (Give k) ds es h = one_at_most ds es h
emitted_dests (Drain k) ds es h = one_at_most ds es h
emitted_dests op ds es h = two_at_most ds es h

-- A SOUND PLAN in which each instruction has as many destinations as its kind has in an object
module _ (q : Plan) (s : IsSound q) (few : AllInstrs HasItsDests q.program) (slots : List (List ℕ)) (good : Good q slots) where
  module _ (b : ℕ) (c : CodeBlock) (ss : List ℕ) (at : slice_get q.program.blocks b ≡ Some c) (to : slice_get slots b ≡ Some ss) where
    block : IsSoundBlock q.program c
    block = s.program.blocks b c at

    slots_good : IsGoodBlock q b c ss
    slots_good = good.blocks b c ss at to

    plan : IsPlanBlock c
    plan = all_at IsPlanBlock q.program.blocks b c s.wired.plan.blocks at

    dests : All HasItsDests c.instrs
    dests = all_at (λ (c : CodeBlock). All HasItsDests c.instrs) q.program.blocks b c few at

    forward : (n : ℕ) (i : Instr) (d : Dest) → slice_get c.instrs n ≡ Some i → Contains (i.firsts ++ i.seconds) d → IsDest c n d
    forward n i d e h = (s.dests b n c d (record { i = i; block = at; there = e; named = h })).dest

    emittable_instr : (n : ℕ) (i : Instr) → slice_get c.instrs n ≡ Some i → IsEmittableInstr q.program c ss n i
    emittable_instr n i e = record {
      operand = operand q.program i.op (block.instrs n i e).operand;
      origin = (block.instrs n i e).origin;
      holder = λ h k. let w = plan.below i h (get_contains c.instrs n i e) k in let a = slots_good.all in omega (arith, w, a);
      dests = emitted_dests i.op i.firsts i.seconds (all_at HasItsDests c.instrs n i dests e);
      firsts = all_from (IsDest c n) i.firsts (λ k d f. forward n i d e (Contains-append_left i.firsts i.seconds d (get_contains i.firsts k d f)));
      seconds = all_from (IsDest c n) i.seconds (λ k d f. forward n i d e (Contains-append_right i.firsts i.seconds d (get_contains i.seconds k d f)));
    }

    emittable_block : IsEmittableBlock q.program c ss
    emittable_block = record { inputs = block.inputs; outputs = block.outputs; size = block.size; low = slots_good.below; instrs = emittable_instr }

  pub has_object : IsEmittable q slots
  has_object = record {
    some_block = s.program.some_block;
    main = s.program.main;
    few_arrays = s.program.few_arrays;
    arrays = s.program.arrays;
    cells = s.program.cells;
    all = good.all;
    blocks = λ b c ss at to. emittable_block b c ss at to;
  }

pub sound_have_objects : SoundHaveObjects
sound_have_objects p slots s good = has_object (narrowed p) (stays_sound p s) (sound_has_dests p s) slots good
