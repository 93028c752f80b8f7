-- Alike programs have the same events.
use Rattle.std.proofs.Common.{◌≡◌, refl, sym, ap, ◌∙◌, subst, ℕ, zero, suc, ◌+◌, ◌-◌, ◌*◌, Bool, true, false, nat_lt, ◌==◌, if◌then◌else◌, ℤ, List, [], ◌∷◌}
use Rattle.std.proofs.Common.{length, map, take, sum, Option, Some, None}
use Rattle.std.specs.Prelude.{slice_get, slice_index_or, IsPermutation}
use Rattle.tags.specs.declared.token.Port.{Port}
use Rattle.tags.specs.declared.token.Port.TheVariants.{Left}
use Rattle.tags.specs.declared.token.Cont.{Cont}
use Rattle.tags.specs.declared.token.Word.{Word}
use Rattle.tags.specs.declared.token.To.{To}
use Rattle.tags.specs.declared.token.Token.{Token}
use Rattle.tags.specs.declared.slot.SlotState.{SlotState}
use Rattle.tags.specs.declared.slot.SlotState.TheVariants.{Empty}
use Rattle.semantics.specs.Program.{Instr, CodeBlock, Program, first_of, instr_from, instr_at}
use Rattle.semantics.specs.Rule.{Point, token, Outcome, rule_at}
use Rattle.semantics.specs.Machine.{Machine, Store, Size, Vacant, Event, Events, Run, Fires, Hosts, Happens, at_start, input_tokens, slot_in, slot_used}
use Rattle.semantics.specs.Machine.{excluded_by, host_rule, stuck_rule, results_in, outputs_of}
use Rattle.semantics.specs.Opcodes.{may_fault}
use Rattle.law_compiler.specs.EmittedAlike.{is_split, AreAlikeInstrs, AllAlike, AllBlocksAlike, AreAlike}
use Rattle.law_compiler.specs.EmittedSame.{HaveSameEvents}
use Rattle.law_compiler.proofs.EmittedRules.{TellSame, rule_same}

-- THE OTHER WAY ROUND
instr_back : (i j : Instr) → AreAlikeInstrs i j → AreAlikeInstrs j i
instr_back i j h = record {
  op = sym h.op;
  slot = sym h.slot;
  dests = sym h.dests;
  firsts = λ e. sym (h.firsts (ap is_split h.op ∙ e));
  seconds = λ e. sym (h.seconds (ap is_split h.op ∙ e));
  origin = λ e. sym (h.origin (ap may_fault h.op ∙ e));
}

instrs_back : (is js : List Instr) → AllAlike is js → AllAlike js is
instrs_back [] [] h = tt
instrs_back [] (j ∷ js) h = h
instrs_back (i ∷ is) [] h = h
instrs_back (i ∷ is) (j ∷ js) h = (instr_back i j h.0, instrs_back is js h.1)

blocks_back : (cs ds : List CodeBlock) → AllBlocksAlike cs ds → AllBlocksAlike ds cs
blocks_back [] [] h = tt
blocks_back [] (d ∷ ds) h = h
blocks_back (c ∷ cs) [] h = h
blocks_back (c ∷ cs) (d ∷ ds) h =
    (record { inputs = sym h.0.inputs; outputs = sym h.0.outputs; instrs = instrs_back c.instrs d.instrs h.0.instrs }, blocks_back cs ds h.1)

pub back : (p q : Program) → AreAlike p q → AreAlike q p
back p q h = record { blocks = blocks_back p.blocks q.blocks h.blocks; arrays = sym h.arrays; main = sym h.main }

-- INSTRUCTIONS BY THEIR NUMBERS
abbrev pub AlikeAt : Option Instr → Option Instr → Type 0
AlikeAt None None = Unit {0}
AlikeAt None (Some j) = ⊥
AlikeAt (Some i) None = ⊥
AlikeAt (Some i) (Some j) = AreAlikeInstrs i j

pub as_many : (is js : List Instr) → AllAlike is js → length is ≡ length js
as_many [] [] h = refl
as_many [] (j ∷ js) h = absurd h
as_many (i ∷ is) [] h = absurd h
as_many (i ∷ is) (j ∷ js) h = ap (λ n. suc n) (as_many is js h.1)

in_block : (is js : List Instr) → AllAlike is js → (n : ℕ) → AlikeAt (slice_get is n) (slice_get js n)
in_block [] [] h n = tt
in_block [] (j ∷ js) h n = absurd h
in_block (i ∷ is) [] h n = absurd h
in_block (i ∷ is) (j ∷ js) h zero = h.0
in_block (i ∷ is) (j ∷ js) h (suc n) = in_block is js h.1 n

at_from : (cs ds : List CodeBlock) → AllBlocksAlike cs ds → (ip : ℕ) → AlikeAt (instr_from cs ip) (instr_from ds ip)
at_from [] [] h ip = tt
at_from [] (d ∷ ds) h ip = absurd h
at_from (c ∷ cs) [] h ip = absurd h
at_from (c ∷ cs) (d ∷ ds) h ip =
    subst (λ (m : ℕ). AlikeAt (instr_from (c ∷ cs) ip) (if nat_lt ip m then slice_get d.instrs ip else instr_from ds (ip - m)))
    (as_many c.instrs d.instrs h.0.instrs)
    (by (nat_lt ip (length c.instrs)) (in_block c.instrs d.instrs h.0.instrs ip) (at_from cs ds h.1 (ip - length c.instrs)))
  where
    by : (t : Bool) → AlikeAt (slice_get c.instrs ip) (slice_get d.instrs ip)
        → AlikeAt (instr_from cs (ip - length c.instrs)) (instr_from ds (ip - length c.instrs))
        → AlikeAt (if t then slice_get c.instrs ip else instr_from cs (ip - length c.instrs))
        (if t then slice_get d.instrs ip else instr_from ds (ip - length c.instrs))
    by true here later = here
    by false here later = later

used_at : (x y : Option Instr) → AlikeAt x y → slot_used x ≡ slot_used y
used_at None None h = refl
used_at None (Some j) h = absurd h
used_at (Some i) None h = absurd h
used_at (Some i) (Some j) h = h.slot

-- the instruction of the other program
pub other : (x y : Option Instr) (i : Instr) → AlikeAt x y → x ≡ Some i → (j : Instr) × (y ≡ Some j) × AreAlikeInstrs i j
other None y i h e = cc
other (Some k) None i h e = absurd h
other (Some k) (Some j) i h e = let same : k ≡ i = cc in (j, refl, subst (λ (x : Instr). AreAlikeInstrs x j) same h)

-- BLOCKS
lengths_before : (cs ds : List CodeBlock) → AllBlocksAlike cs ds → (b : ℕ)
    → map (λ (x : CodeBlock). length x.instrs) (take b cs) ≡ map (λ (x : CodeBlock). length x.instrs) (take b ds)
lengths_before [] [] h b = refl
lengths_before [] (d ∷ ds) h b = absurd h
lengths_before (c ∷ cs) [] h b = absurd h
lengths_before (c ∷ cs) (d ∷ ds) h zero = refl
lengths_before (c ∷ cs) (d ∷ ds) h (suc b) =
    ap (λ (n : ℕ). n ∷ map (λ (x : CodeBlock). length x.instrs) (take b cs)) (as_many c.instrs d.instrs h.0.instrs)
    ∙ ap (λ (l : List ℕ). length d.instrs ∷ l) (lengths_before cs ds h.1 b)

results_at : (cs ds : List CodeBlock) → AllBlocksAlike cs ds → (b : ℕ) → results_in (slice_get cs b) ≡ results_in (slice_get ds b)
results_at [] [] h b = refl
results_at [] (d ∷ ds) h b = absurd h
results_at (c ∷ cs) [] h b = absurd h
results_at (c ∷ cs) (d ∷ ds) h zero = h.0.outputs
results_at (c ∷ cs) (d ∷ ds) h (suc b) = results_at cs ds h.1 b

abbrev start_from : ℕ → List ℤ → Machine
start_from n inputs = record {
  store = record { slots = λ f r. Empty; cells = λ x. Vacant; out = λ f. f == 0; requests = []; outputs = λ j. None; done = false };
  pool = token (To.Instr 0 n Left) (Word.Back (Cont.Host 0)) ∷ input_tokens (n + 1) inputs;
}

module _ (p q : Program) (alike : AreAlike p q) where
  pub first_same : (b : ℕ) → first_of p b ≡ first_of q b
  first_same b = ap sum (lengths_before p.blocks q.blocks alike.blocks b)

  pub instr_same : (ip : ℕ) → AlikeAt (instr_at p ip) (instr_at q ip)
  instr_same ip = at_from p.blocks q.blocks alike.blocks ip

  pub used_same : (ip : ℕ) → slot_used (instr_at p ip) ≡ slot_used (instr_at q ip)
  used_same ip = used_at (instr_at p ip) (instr_at q ip) (instr_same ip)

  pub outputs_same : outputs_of p ≡ outputs_of q
  outputs_same = results_at p.blocks q.blocks alike.blocks p.main ∙ ap (λ (b : ℕ). results_in (slice_get q.blocks b)) alike.main

  tell_same : TellSame p q
  tell_same = record {
    base = λ a. ap (λ (ns : List ℕ). sum (take a ns)) alike.arrays;
    len = λ a. ap (λ (ns : List ℕ). slice_index_or ns a 0) alike.arrays;
    first = first_same;
  }

  pub rules_same : (s : Point) (ip : ℕ) (slot : SlotState) (port : Port) (w : Word)
      → rule_at p s (instr_at p ip) slot port w ≡ rule_at q s (instr_at q ip) slot port w
  rules_same s ip slot port w = by (instr_at p ip) (instr_at q ip) (instr_same ip)
    where
      by : (x y : Option Instr) → AlikeAt x y → rule_at p s x slot port w ≡ rule_at q s y slot port w
      by None None h = refl
      by None (Some j) h = absurd h
      by (Some i) None h = absurd h
      by (Some i) (Some j) h =
          rule_same p q tell_same s i j h.op (record { dests = h.dests; firsts = h.firsts; seconds = h.seconds; origin = h.origin }) slot port w

  pub starts_same : (inputs : List ℤ) → at_start p inputs ≡ at_start q inputs
  starts_same inputs = ap (λ (n : ℕ). start_from n inputs) (first_same p.main ∙ ap (first_of q) alike.main)

  -- EVENTS
  pub happens_to : (total : ℕ) (old new : Store) (to : To) (w : Word) (made : List Token) → Happens p total old to w made new
      → Happens q total old to w made new
  happens_to total old new (To.Instr f ip port) w made h =
      subst (λ (o : Outcome). Fires old f (slot_used (instr_at q ip)) o made new)
      (rules_same record { frame = f; ip = ip } ip (slot_in old f (slot_used (instr_at q ip))) port w)
      (subst (λ (u : Option ℕ). Fires old f u (rule_at p record { frame = f; ip = ip } (instr_at p ip) (slot_in old f u) port w) made new) (used_same ip) h)
  happens_to total old new (To.Fetch x) (Word.Val v) made h = h
  happens_to total old new (To.Fetch x) (Word.Frame f) made h = h
  happens_to total old new (To.Fetch x) (Word.Back c) made h = h
  happens_to total old new (To.Store x v) (Word.Val u) made h = h
  happens_to total old new (To.Store x v) (Word.Frame f) made h = h
  happens_to total old new (To.Store x v) (Word.Back c) made h = h
  happens_to total old new To.Manager (Word.Val v) made h = h
  happens_to total old new To.Manager (Word.Frame f) made h = h
  happens_to total old new To.Manager (Word.Back c) made h = h
  happens_to total old new (To.Release f) w made h = h
  happens_to total old new (To.Host j) w made h = subst (λ (n : ℕ). Hosts n old j w made new) outputs_same h

  pub stuck_same : (s : Store) (to : To) (w : Word) → stuck_rule p s to w ≡ stuck_rule q s to w
  stuck_same s (To.Instr f ip port) w =
      ap (λ (u : Option ℕ). excluded_by (rule_at p record { frame = f; ip = ip } (instr_at p ip) (slot_in s f u) port w)) (used_same ip)
      ∙ ap excluded_by (rules_same record { frame = f; ip = ip } ip (slot_in s f (slot_used (instr_at q ip))) port w)
  stuck_same s (To.Fetch x) w = refl
  stuck_same s (To.Store x v) w = refl
  stuck_same s To.Manager w = refl
  stuck_same s (To.Release f) w = refl
  stuck_same s (To.Host j) w = ap (λ (n : ℕ). host_rule n s j w) outputs_same

  unfoldable pub event_to : (z : Size) (e : ℕ) (t : Token) (old at new : Machine) → old ≡ at → Event p z e t old new → Event q z e t at new
  event_to z e t old at new same h = record {
    made = h.made;
    rest = h.rest;
    addressed = h.addressed;
    takes = subst (λ (m : Machine). IsPermutation m.pool (t ∷ h.rest)) same h.takes;
    happens =
        subst (λ (m : Machine). Happens q (z.elements * z.frames) m.store t.to t.word h.made new.store) same
        (happens_to (z.elements * z.frames) old.store new.store t.to t.word h.made h.happens);
    leaves = h.leaves;
  }

  unfoldable pub run_to : (z : Size) (old at : Machine) (events : Events) (new : Machine) → old ≡ at → Run p z old events new → Run q z at events new
  run_to z old at [] new same h = (subst (λ (m : Machine). IsPermutation m.pool new.pool) same h.0, subst (λ (m : Machine). new.store ≡ m.store) same h.1)
  run_to z old at (ev ∷ later) new same h = (h.0, event_to z ev.0 ev.1 old at h.0 same h.1, run_to z h.0 h.0 later new refl h.2)

-- alike programs have the same events
pub same_events : (p q : Program) → AreAlike p q → HaveSameEvents p q
same_events p q alike = record {
  starts = starts_same p q alike;
  uses = used_same p q alike;
  rules = rules_same p q alike;
  happens = λ total old new to w made. (happens_to p q alike total old new to w made, happens_to q p (back p q alike) total old new to w made);
  stuck = stuck_same p q alike;
  events = λ z e t old new. (event_to p q alike z e t old old new refl, event_to q p (back p q alike) z e t old old new refl);
  runs = λ z old new events. (run_to p q alike z old old events new refl, run_to q p (back p q alike) z old old events new refl);
}
