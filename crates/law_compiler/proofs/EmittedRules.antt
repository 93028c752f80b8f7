-- Alike instructions do the same with a token.
use Rattle.std.proofs.Common.{◌≡◌, refl, sym, ap, ◌∙◌, ℕ, zero, suc, ◌+◌, ◌-◌, Bool, true, false, nat_lt, ◌==◌, if◌then◌else◌, ℤ, List, [], ◌∷◌, ◌++◌, Some}
use Rattle.std.specs.Prelude.{take}
use Rattle.tags.specs.declared.value.Value.{Value}
use Rattle.tags.specs.declared.value.Value.TheVariants.{Int, Fault}
use Rattle.tags.specs.declared.value.Origin.{Origin}
use Rattle.tags.specs.declared.token.Port.{Port}
use Rattle.tags.specs.declared.token.Port.TheVariants.{Left, Right}
use Rattle.tags.specs.declared.token.Word.{Word}
use Rattle.tags.specs.declared.token.To.{To}
use Rattle.tags.specs.declared.token.Token.{Token}
use Rattle.tags.specs.declared.slot.SlotState.{SlotState}
use Rattle.tags.specs.declared.slot.SlotState.TheVariants as Slot
use Rattle.tags.specs.declared.slot.SlotState.TheVariants.{Empty, Credits, Waiter, Draining}
use Rattle.operators.specs.declared.Binary.{Binary}
use Rattle.operators.specs.declared.Binary.TheVariants.{Div, Rem}
use Rattle.operators.specs.Values.{truth, apply1, apply2, on_ints, Indexed, Place, Outside, index_in}
use Rattle.semantics.specs.declared.program.Dest.{Dest}
use Rattle.semantics.specs.declared.program.Op.{Op}
use Rattle.semantics.specs.declared.program.Op.TheVariants.{Apply1, Apply2, Apply2Right, Apply2Left, Lit, Copy, Sync, Switch, Fetch, Store, Frame, Link, Send}
use Rattle.semantics.specs.declared.program.Op.TheVariants.{Return, Ask, Open, Take, Give, Drain, Release}
use Rattle.semantics.specs.Program.{Instr, Program, first_of}
use Rattle.semantics.specs.Rule.{Point, token, signal, to_each, to_all, answer_to, landing_at, beyond, Becomes, Excluded, fires, array_base}
use Rattle.semantics.specs.Rule.{array_len, asks_for}
use Rattle.semantics.specs.Rule.{puts, fire_one, fire_two, meets, opens, gives, drains, alone, on_left, outcome_of}
use Rattle.semantics.specs.Opcodes.{may_fault}
use Rattle.law_compiler.specs.EmittedAlike.{is_split}

-- what programs give to an instruction
pub record TellSame (p q : Program) : Type 0 where
  pub base : (a : ℕ) → array_base p a ≡ array_base q a
  pub len : (a : ℕ) → array_len p a ≡ array_len q a
  pub first : (b : ℕ) → first_of p b ≡ first_of q b

-- what is alike of two instructions with this operation
pub record AreAlikeAt (op : Op) (i j : Instr) : Type 0 where
  pub dests : i.firsts ++ i.seconds ≡ j.firsts ++ j.seconds
  pub firsts : is_split op ≡ true → i.firsts ≡ j.firsts
  pub seconds : is_split op ≡ true → i.seconds ≡ j.seconds
  pub origin : may_fault op ≡ true → i.origin ≡ j.origin

ints_same : (op : Binary) (x y : ℤ) (o u : Origin) → (may_fault (Apply2 op) ≡ true → o ≡ u) → on_ints op x y o ≡ on_ints op x y u
ints_same Div x y o u h = ap (on_ints Div x y) (h refl)
ints_same Rem x y o u h = ap (on_ints Rem x y) (h refl)
ints_same op x y o u h = refl

apply_same : (op : Binary) (v w : Value) (o u : Origin) → (may_fault (Apply2 op) ≡ true → o ≡ u) → apply2 op v w o ≡ apply2 op v w u
apply_same op (Int x) (Int y) o u h = ints_same op x y o u h
apply_same op (Int x) (Fault k f) o u h = refl
apply_same op (Fault k f) w o u h = refl

right_faults : (op : Binary) (z : ℤ) → may_fault (Apply2 op) ≡ may_fault (Apply2Right op z)
right_faults Div z = refl
right_faults Rem z = refl
right_faults op z = refl

left_faults : (op : Binary) (z : ℤ) → may_fault (Apply2 op) ≡ may_fault (Apply2Left op z)
left_faults Div z = refl
left_faults Rem z = refl
left_faults op z = refl

all_same : (s : Point) (v w : Word) (i j : Instr) → v ≡ w → i.firsts ++ i.seconds ≡ j.firsts ++ j.seconds → to_all s v i ≡ to_all s w j
all_same s v w i j word dests = ap (λ (u : Word). to_each s u (i.firsts ++ i.seconds)) word ∙ ap (to_each s w) dests

value_same : (s : Point) (v w : Value) (i j : Instr) → v ≡ w → i.firsts ++ i.seconds ≡ j.firsts ++ j.seconds
    → Some (to_all s (Word.Val v) i) ≡ Some (to_all s (Word.Val w) j)
value_same s v w i j word dests = ap (λ (l : List Token). Some l) (all_same s (Word.Val v) (Word.Val w) i j (ap (λ (x : Value). Word.Val x) word) dests)

word_same : (s : Point) (w : Word) (i j : Instr) → i.firsts ++ i.seconds ≡ j.firsts ++ j.seconds → Some (to_all s w i) ≡ Some (to_all s w j)
word_same s w i j dests = ap (λ (ds : List Dest). Some (to_each s w ds)) dests

-- an instruction with the same parts that an event shows, in two programs
module _ (p q : Program) (same : TellSame p q) (s : Point) (i j : Instr) where
  asks_same : (a : ℕ) (x y : Indexed) → x ≡ y → i.firsts ≡ j.firsts → asks_for p s i a x ≡ asks_for q s j a y
  asks_same a x y e f = ap (asks_for p s i a) e ∙ by y
    where
      by : (z : Indexed) → asks_for p s i a z ≡ asks_for q s j a z
      by (Outside v) = ap (λ (ds : List Dest). to_each s (Word.Val v) (take 1 ds)) f
      by (Place n) = ap (λ (b : ℕ). token (To.Fetch (b + n)) (Word.Back (answer_to s i.firsts)) ∷ []) (same.base a)
          ∙ ap (λ (ds : List Dest). token (To.Fetch (array_base q a + n)) (Word.Back (answer_to s ds)) ∷ []) f

  puts_same : (a : ℕ) (v : Value) (x y : Indexed) → x ≡ y → i.firsts ≡ j.firsts → puts p s i a v x ≡ puts q s j a v y
  puts_same a v x y e f = ap (puts p s i a v) e ∙ by y
    where
      by : (z : Indexed) → puts p s i a v z ≡ puts q s j a v z
      by (Outside w) = ap (λ (ds : List Dest). to_each s (Word.Val w) (take 1 ds)) f
      by (Place n) = ap (λ (b : ℕ). token (To.Store (b + n) v) (Word.Back (answer_to s i.firsts)) ∷ []) (same.base a)
          ∙ ap (λ (ds : List Dest). token (To.Store (array_base q a + n) v) (Word.Back (answer_to s ds)) ∷ []) f

  index_same : (a : ℕ) (v : Value) → i.origin ≡ j.origin → index_in (array_len p a) v i.origin ≡ index_in (array_len q a) v j.origin
  index_same a v e = ap (λ (n : ℕ). index_in n v i.origin) (same.len a) ∙ ap (index_in (array_len q a) v) e

  one_same : (op : Op) (w : Word) → AreAlikeAt op i j → fire_one p s i op w ≡ fire_one q s j op w
  one_same (Apply1 op) (Word.Val v) h = word_same s (Word.Val (apply1 op v)) i j h.dests
  one_same (Apply2Right op z) (Word.Val v) h =
      value_same s _ _ i j (apply_same op v (Int z) i.origin j.origin (λ e. h.origin (sym (right_faults op z) ∙ e))) h.dests
  one_same (Apply2Left op z) (Word.Val v) h =
      value_same s _ _ i j (apply_same op (Int z) v i.origin j.origin (λ e. h.origin (sym (left_faults op z) ∙ e))) h.dests
  one_same (Lit z) w h = word_same s (Word.Val (Int z)) i j h.dests
  one_same Copy w h = word_same s w i j h.dests
  one_same (Fetch a) (Word.Val v) h = ap (λ (l : List Token). Some l) (asks_same a _ _ (index_same a v (h.origin refl)) (h.firsts refl))
  one_same Frame w h = ap (λ (ds : List Dest). Some (token To.Manager (Word.Back (answer_to s ds)) ∷ [])) (h.firsts refl)
  one_same (Link b) (Word.Frame f) h =
      ap (λ (n : ℕ). Some (token (To.Instr f n Left) (Word.Back (landing_at s i.firsts)) ∷ to_each s signal i.seconds)) (same.first b)
      ∙ ap (λ (ds : List Dest). Some (token (To.Instr f (first_of q b) Left) (Word.Back (landing_at s ds)) ∷ to_each s signal i.seconds)) (h.firsts refl)
      ∙ ap (λ (ds : List Dest). Some (token (To.Instr f (first_of q b) Left) (Word.Back (landing_at s j.firsts)) ∷ to_each s signal ds)) (h.seconds refl)
  one_same op w h = refl

  switch_same : (l : Word) (b : Bool) → i.firsts ≡ j.firsts → i.seconds ≡ j.seconds
      → Some (to_each s l (if b then i.firsts else i.seconds)) ≡ Some (to_each s l (if b then j.firsts else j.seconds))
  switch_same l true e f = ap (λ (ds : List Dest). Some (to_each s l ds)) e
  switch_same l false e f = ap (λ (ds : List Dest). Some (to_each s l ds)) f

  two_same : (op : Op) (l r : Word) → AreAlikeAt op i j → fire_two p s i op l r ≡ fire_two q s j op l r
  two_same (Apply2 op) (Word.Val v) (Word.Val w) h = value_same s _ _ i j (apply_same op v w i.origin j.origin h.origin) h.dests
  two_same Sync l r h = word_same s signal i j h.dests
  two_same Switch l (Word.Val v) h = switch_same l (truth v) (h.firsts refl) (h.seconds refl)
  two_same (Store a) (Word.Val v) (Word.Val w) h = ap (λ (l : List Token). Some l) (puts_same a w _ _ (index_same a v (h.origin refl)) (h.firsts refl))
  two_same (Send b e) (Word.Frame f) w h =
      ap (λ (n : ℕ). Some (token (To.Instr f (n + e) Left) w ∷ to_all s signal i)) (same.first b)
      ∙ ap (λ (ds : List Dest). Some (token (To.Instr f (first_of q b + e) Left) w ∷ to_each s signal ds)) h.dests
  two_same (Return o) (Word.Back c) (Word.Val v) h = ap (λ (ds : List Dest). Some (token (beyond c o) (Word.Val v) ∷ to_each s signal ds)) h.dests
  two_same (Ask o) (Word.Back c) w h = ap (λ (ds : List Dest). Some (token (beyond c o) (Word.Back (answer_to s ds)) ∷ [])) (h.firsts refl)
  two_same op l r h = refl

  module _ (named : i.op ≡ j.op) (alike : AreAlikeAt i.op i j) where
    both_same : (l r : Word) → fire_two p s i i.op l r ≡ fire_two q s j j.op l r
    both_same l r = two_same i.op l r alike ∙ ap (λ (op : Op). fire_two q s j op l r) named

    meets_same : (slot : SlotState) (port : Port) (w : Word) → meets p s i slot port w ≡ meets q s j slot port w
    meets_same (Slot.Left l) Right w = ap (fires Empty) (both_same l w)
    meets_same (Slot.Right r) Left w = ap (fires Empty) (both_same w r)
    meets_same slot port w = refl

    alone_same : (slot : SlotState) (port : Port) (w : Word) → alone p s i slot port w ≡ alone q s j slot port w
    alone_same slot Left w = ap (fires slot) (one_same i.op w alike ∙ ap (λ (op : Op). fire_one q s j op w) named)
    alone_same slot Right w = refl

    opens_same : (k : ℕ) (slot : SlotState) → opens s i k slot ≡ opens s j k slot
    opens_same k Empty = ap (λ (ds : List Dest). Becomes (Credits (k - 1)) (to_each s signal ds)) alike.dests
    opens_same k slot = refl

    gives_same : (k : ℕ) (slot : SlotState) → gives s i k slot ≡ gives s j k slot
    gives_same k (Draining zero) = refl
    gives_same k (Draining (suc zero)) = ap (λ (ds : List Dest). Becomes Empty (to_each s signal ds)) alike.dests
    gives_same k (Draining (suc (suc n))) = refl
    gives_same k slot = refl

    drains_same : (k : ℕ) (slot : SlotState) → drains s i k slot ≡ drains s j k slot
    drains_same k (Credits n) =
        ap (λ (ds : List Dest). if n == k then Becomes Empty (to_each s signal ds) else if nat_lt n k then Becomes (Draining (k - n)) [] else Excluded 3)
        alike.dests
    drains_same k slot = refl

    outcome_same : (op : Op) (slot : SlotState) (port : Port) (w : Word) → outcome_of p s i op slot port w ≡ outcome_of q s j op slot port w
    outcome_same (Apply2 op) slot port w = meets_same slot port w
    outcome_same Sync slot port w = meets_same slot port w
    outcome_same Switch slot port w = meets_same slot port w
    outcome_same (Store a) slot port w = meets_same slot port w
    outcome_same (Send b e) slot port w = meets_same slot port w
    outcome_same (Return o) slot port w = meets_same slot port w
    outcome_same (Ask o) slot port w = meets_same slot port w
    outcome_same (Release o) slot port w = meets_same slot port w
    outcome_same (Open k) slot port w = ap (on_left port) (opens_same k slot)
    outcome_same (Take k) slot port w = refl
    outcome_same (Give k) slot port w = ap (on_left port) (gives_same k slot)
    outcome_same (Drain k) slot port w = ap (on_left port) (drains_same k slot)
    outcome_same op slot port w = alone_same slot port w

    -- an instruction and one that is alike
    pub rule_same : (slot : SlotState) (port : Port) (w : Word) → outcome_of p s i i.op slot port w ≡ outcome_of q s j j.op slot port w
    rule_same slot port w = outcome_same i.op slot port w ∙ ap (λ (op : Op). outcome_of q s j op slot port w) named
