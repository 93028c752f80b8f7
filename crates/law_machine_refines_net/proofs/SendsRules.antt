-- What the machine does with an item's token at its instruction.
use Rattle.std.proofs.Common.{◌≡◌, ℕ, ◌*◌, Bool, true, false, ◌&&◌, List, refl, sym, ap, ◌∙◌, subst, true≢false, Option, Some, ◌==◌}
use Rattle.lemmas.proofs.Bools.{zero_if}
use Rattle.tags.specs.declared.token.Port.{Port}
use Rattle.tags.specs.declared.token.Word.{Word}
use Rattle.tags.specs.declared.token.To.{To}
use Rattle.tags.specs.declared.token.Token.{Token}
use Rattle.tags.specs.declared.slot.SlotState.{SlotState}
use Rattle.semantics.specs.declared.program.Op.{Op}
use Rattle.semantics.specs.declared.program.Op.TheVariants as Ops
use Rattle.semantics.specs.Program.{Instr, Program, instr_at}
use Rattle.semantics.specs.Rule.{Point, meets, outcome_of, rule_at, slot_of}
use Rattle.semantics.specs.Machine.{Happens, Fires, slot_used, slot_in}
use Rattle.semantics.specs.Wired.{is_dyadic}
use Rattle.semantics.specs.Holders.{Holder, same_holder, holder_at}
use Rattle.semantics.specs.Credits.{granted_at, granted_in, granted_by, released_at, released_in, released_by}
use Rattle.law_net.specs.ContextsParts.{Part}
use Rattle.law_net.specs.ContextsMirror.{frame_of, ip_of, word_of, is_instr}
use Rattle.law_machine_refines_net.specs.MovesCases.{Taking, net_of, IsFree}
use Rattle.law_machine_refines_net.proofs.MovesStill.{to_instr}
use Rattle.law_machine_refines_net.proofs.MovesSites.{Seated}
use Rattle.law_machine_refines_net.proofs.MovesFitted.{point, taken_here}

-- PAIRS: an instruction with two operands uses its slot, and its words meet there
pub dyadic_meets : (p : Program) (s : Point) (i : Instr) (op : Op) → is_dyadic op ≡ true
    → (slot_of i op ≡ Some i.slot) × ((slot : SlotState) (port : Port) (w : Word) → outcome_of p s i op slot port w ≡ meets p s i slot port w)
dyadic_meets p s i (Ops.Apply2 op) h = (refl, λ slot port w. refl)
dyadic_meets p s i Ops.Sync h = (refl, λ slot port w. refl)
dyadic_meets p s i Ops.Switch h = (refl, λ slot port w. refl)
dyadic_meets p s i (Ops.Store a) h = (refl, λ slot port w. refl)
dyadic_meets p s i (Ops.Send b e) h = (refl, λ slot port w. refl)
dyadic_meets p s i (Ops.Return o) h = (refl, λ slot port w. refl)
dyadic_meets p s i (Ops.Ask o) h = (refl, λ slot port w. refl)
dyadic_meets p s i (Ops.Release o) h = (refl, λ slot port w. refl)
dyadic_meets p s i op h = absurd (true≢false (sym h))

-- CREDITS. Which instructions grant none
abbrev pub grants : Op → Bool
grants (Ops.Open k) = true
grants (Ops.Take k) = true
grants (Ops.Give k) = true
grants op = false

grants_none : (op : Op) (x : SlotState) → grants op ≡ false → granted_by op x ≡ 0
grants_none (Ops.Open k) x e = absurd (true≢false e)
grants_none (Ops.Take k) x e = absurd (true≢false e)
grants_none (Ops.Give k) x e = absurd (true≢false e)
grants_none op x e = refl

pub dyadic_grants : (op : Op) → is_dyadic op ≡ true → grants op ≡ false
dyadic_grants (Ops.Open k) e = absurd (true≢false (sym e))
dyadic_grants (Ops.Take k) e = absurd (true≢false (sym e))
dyadic_grants (Ops.Give k) e = absurd (true≢false (sym e))
dyadic_grants op e = refl

abbrev pub releases : Op → Bool
releases (Ops.Release o) = true
releases op = false

releases_none : (op : Op) (f base : ℕ) (made : List Token) → releases op ≡ false → released_by op f base made ≡ 0
releases_none (Ops.Release o) f base made e = absurd (true≢false e)
releases_none op f base made e = refl

module _ (s : Taking) (is : is_instr s.i.inlet.part ≡ true) where
  abbrev pub r : Part
  r = s.i.inlet.part

  abbrev pub frame : ℕ
  frame = frame_of s.fl (net_of s).fired s.i.context

  abbrev pub place : ℕ
  place = ip_of s.fl s.p s.w s.i.context r

  abbrev pub at : Point
  at = record { frame = frame; ip = place }

  abbrev pub stood : Seated s.fl s.p s.w s.good.wired s.i.context r
  stood = point s s.i (taken_here s) is

  abbrev pub instr : Instr
  instr = stood.instr

  abbrev pub word : Word
  word = word_of s.fl s.p s.w (net_of s).fired s.i.word

  pub goes_to : s.t.to ≡ To.Instr frame place s.i.inlet.port
  goes_to = ap (λ (t : Token). t.to) s.is_token ∙ to_instr s.fl s.p s.w (net_of s).fired s.i r is

  pub has_word : s.t.word ≡ word
  has_word = ap (λ (t : Token). t.word) s.is_token

  -- at the part's instruction its own rule counts
  pub happens : Fires s.m.store frame (slot_of instr instr.op)
      (outcome_of s.p.program at instr instr.op (slot_in s.m.store frame (slot_of instr instr.op)) s.i.inlet.port word) s.event.made s.new.store
  happens =
      let a = subst (λ (x : To). Happens s.p.program (s.z.elements * s.z.frames) s.m.store x s.t.word s.event.made s.new.store) goes_to s.event.happens in
      let b = subst (λ (x : Word). Happens s.p.program (s.z.elements * s.z.frames) s.m.store (To.Instr frame place s.i.inlet.port) x s.event.made s.new.store)
      has_word a in
      subst (λ (o : Option Instr). Fires s.m.store frame (slot_used o)
      (rule_at s.p.program at o (slot_in s.m.store frame (slot_used o)) s.i.inlet.port word) s.event.made s.new.store) stood.at b

  -- where two words meet
  pub happens_pair : is_dyadic instr.op ≡ true
      → Fires s.m.store frame (Some instr.slot) (meets s.p.program at instr (s.m.store.slots frame instr.slot) s.i.inlet.port word) s.event.made s.new.store
  happens_pair two =
      let d = dyadic_meets s.p.program at instr instr.op two in
      let a = subst (λ (o : Option ℕ). Fires s.m.store frame o
      (outcome_of s.p.program at instr instr.op (slot_in s.m.store frame o) s.i.inlet.port word) s.event.made s.new.store) d.0 happens in
      subst (λ o. Fires s.m.store frame (Some instr.slot) o s.event.made s.new.store) (d.1 (s.m.store.slots frame instr.slot) s.i.inlet.port word) a

  -- it grants no credit
  pub ungranted : grants instr.op ≡ false → (g : ℕ) (h : Holder) → granted_at s.p s.p.program g h s.m.store s.t.to ≡ 0
  ungranted a g h =
      subst (λ (x : To). granted_at s.p s.p.program g h s.m.store x ≡ 0) (sym goes_to)
      (zero_if ((frame == g) && same_holder h (holder_at s.p place)) _ (in_granted (slot_in s.m.store frame (slot_used (instr_at s.p.program place)))))
    where
      in_granted : (x : SlotState) → granted_in (instr_at s.p.program place) x ≡ 0
      in_granted x = subst (λ (o : Option Instr). granted_in o x ≡ 0) (sym stood.at) (grants_none instr.op x a)

  -- it releases what its operation does
  pub released_is : (g base : ℕ) → released_at s.p.program g base s.t.to s.event.made ≡ released_by instr.op g base s.event.made
  released_is g base =
      ap (λ (x : To). released_at s.p.program g base x s.event.made) goes_to ∙ ap (λ (o : Option Instr). released_in o g base s.event.made) stood.at

  -- it grants no credit, and releases no turn
  pub free_from : grants instr.op ≡ false → ((f base : ℕ) → released_by instr.op f base s.event.made ≡ 0) → IsFree s
  free_from a b = record { granted = ungranted a; released = λ g base. released_is g base ∙ b g base }

  pub free_of : grants instr.op ≡ false → releases instr.op ≡ false → IsFree s
  free_of a b = free_from a (λ f base. releases_none instr.op f base s.event.made b)
