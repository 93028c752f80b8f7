-- The rule of an instruction does not look at frames' numbers: renaming what it is given renames what it makes.
use Rattle.std.proofs.Common.{◌≡◌, refl, ap, ◌∙◌, ℕ, zero, suc, ◌+◌, ◌-◌, Bool, true, false, List, [], ◌∷◌, ◌++◌, map, take, Option, Some, None}
use Rattle.std.specs.Prelude.{if◌then◌else◌, nat_lt, ◌==◌}
use Rattle.tags.specs.declared.value.Value.{Value}
use Rattle.tags.specs.declared.token.Port.{Port}
use Rattle.tags.specs.declared.token.Port.TheVariants.{Left, Right}
use Rattle.tags.specs.declared.token.Cont.{Cont}
use Rattle.tags.specs.declared.token.Word.{Word}
use Rattle.tags.specs.declared.token.To.{To}
use Rattle.tags.specs.declared.token.Token.{Token}
use Rattle.tags.specs.declared.slot.SlotState.{SlotState}
use Rattle.tags.specs.declared.slot.SlotState.TheVariants as Slot
use Rattle.tags.specs.declared.slot.SlotState.TheVariants.{Empty, Credits, Waiter, Draining}
use Rattle.operators.specs.Values.{truth, apply1, Indexed, Place, Outside, index_in}
use Rattle.semantics.specs.declared.program.Dest.{Dest}
use Rattle.semantics.specs.declared.program.Op.{Op}
use Rattle.semantics.specs.declared.program.Op.TheVariants.{Apply1, Apply2, Apply2Right, Apply2Left, Lit, Copy, Sync, Switch, Fetch, Store, Frame, Link, Send}
use Rattle.semantics.specs.declared.program.Op.TheVariants.{Return, Ask, Open, Take, Give, Drain, Release}
use Rattle.semantics.specs.Program.{Instr, Program, first_of}
use Rattle.semantics.specs.Rule.{token, signal, Point, at_dest, to_each, to_all, beyond, back_to, answer_to, landing_at, Outcome, Becomes, Excluded, fires}
use Rattle.semantics.specs.Rule.{array_base, asks_for, puts, fire_one, fire_two, meets, signal_to, opens, takes, gives, drains, alone, on_left, outcome_of}
use Rattle.semantics.specs.Rule.{rule_at}
use Rattle.semantics.specs.Renamed.{re_cont, re_word, re_to, re_token, re_slot}

abbrev pub re_point : (ℕ → ℕ) → Point → Point
re_point h s = record { frame = h s.frame; ip = s.ip }

abbrev pub re_made : (ℕ → ℕ) → Option (List Token) → Option (List Token)
re_made h None = None
re_made h (Some ts) = Some (map (re_token h) ts)

abbrev pub re_outcome : (ℕ → ℕ) → Outcome → Outcome
re_outcome h (Becomes s ts) = Becomes (re_slot h s) (map (re_token h) ts)
re_outcome h (Excluded n) = Excluded n

to_each_re : (h : ℕ → ℕ) (s : Point) (w : Word) (ds : List Dest) → to_each (re_point h s) (re_word h w) ds ≡ map (re_token h) (to_each s w ds)
to_each_re h s w [] = refl
to_each_re h s w (d ∷ ds) = ap (λ (l : List Token). at_dest (re_point h s) (re_word h w) d ∷ l) (to_each_re h s w ds)

answer_to_re : (h : ℕ → ℕ) (s : Point) (ds : List Dest) → answer_to (re_point h s) ds ≡ re_cont h (answer_to s ds)
answer_to_re h s [] = refl
answer_to_re h s (d ∷ ds) = refl

landing_at_re : (h : ℕ → ℕ) (s : Point) (ds : List Dest) → landing_at (re_point h s) ds ≡ re_cont h (landing_at s ds)
landing_at_re h s [] = refl
landing_at_re h s (d ∷ ds) = refl

beyond_re : (h : ℕ → ℕ) (c : Cont) (o : ℕ) → beyond (re_cont h c) o ≡ re_to h (beyond c o)
beyond_re h (Cont.Frame f ip p) o = refl
beyond_re h (Cont.Host p) o = refl

pub back_to_re : (h : ℕ → ℕ) (c : Cont) → back_to (re_cont h c) ≡ re_to h (back_to c)
back_to_re h (Cont.Frame f ip p) = refl
back_to_re h (Cont.Host p) = refl

signal_to_re : (h : ℕ → ℕ) (c : Cont) → signal_to (re_cont h c) ≡ map (re_token h) (signal_to c)
signal_to_re h c = ap (λ (t : To). token t signal ∷ []) (back_to_re h c)

asks_re : (h : ℕ → ℕ) (p : Program) (s : Point) (i : Instr) (a : ℕ) (x : Indexed) → asks_for p (re_point h s) i a x ≡ map (re_token h) (asks_for p s i a x)
asks_re h p s i a (Outside v) = to_each_re h s (Word.Val v) (take 1 i.firsts)
asks_re h p s i a (Place x) = ap (λ (c : Cont). token (To.Fetch (array_base p a + x)) (Word.Back c) ∷ []) (answer_to_re h s i.firsts)

puts_re : (h : ℕ → ℕ) (p : Program) (s : Point) (i : Instr) (a : ℕ) (v : Value) (x : Indexed)
    → puts p (re_point h s) i a v x ≡ map (re_token h) (puts p s i a v x)
puts_re h p s i a v (Outside w) = to_each_re h s (Word.Val w) (take 1 i.firsts)
puts_re h p s i a v (Place x) = ap (λ (c : Cont). token (To.Store (array_base p a + x) v) (Word.Back c) ∷ []) (answer_to_re h s i.firsts)

pub fire_one_re : (h : ℕ → ℕ) (p : Program) (s : Point) (i : Instr) (op : Op) (w : Word)
    → fire_one p (re_point h s) i op (re_word h w) ≡ re_made h (fire_one p s i op w)
fire_one_re h p s i (Apply1 op) (Word.Val v) = ap Some (to_each_re h s (Word.Val (apply1 op v)) (i.firsts ++ i.seconds))
fire_one_re h p s i (Apply2Right op z) (Word.Val v) = ap Some (to_each_re h s _ (i.firsts ++ i.seconds))
fire_one_re h p s i (Apply2Left op z) (Word.Val v) = ap Some (to_each_re h s _ (i.firsts ++ i.seconds))
fire_one_re h p s i (Lit z) w = ap Some (to_each_re h s _ (i.firsts ++ i.seconds))
fire_one_re h p s i Copy w = ap Some (to_each_re h s w (i.firsts ++ i.seconds))
fire_one_re h p s i (Fetch a) (Word.Val v) = ap Some (asks_re h p s i a (index_in _ v i.origin))
fire_one_re h p s i Frame w = ap (λ (c : Cont). Some (token To.Manager (Word.Back c) ∷ [])) (answer_to_re h s i.firsts)
fire_one_re h p s i (Link b) (Word.Frame f) =
    ap (λ (c : Cont). Some (token (To.Instr (h f) (first_of p b) Left) (Word.Back c) ∷ to_each (re_point h s) signal i.seconds)) (landing_at_re h s i.firsts)
    ∙ ap (λ (l : List Token). Some (token (To.Instr (h f) (first_of p b) Left) (Word.Back (re_cont h (landing_at s i.firsts))) ∷ l))
    (to_each_re h s signal i.seconds)
fire_one_re h p s i op w = refl

if_each : (h : ℕ → ℕ) (s : Point) (w : Word) (b : Bool) (xs ys : List Dest)
    → to_each (re_point h s) (re_word h w) (if b then xs else ys) ≡ map (re_token h) (to_each s w (if b then xs else ys))
if_each h s w b xs ys = to_each_re h s w (if b then xs else ys)

pub fire_two_re : (h : ℕ → ℕ) (p : Program) (s : Point) (i : Instr) (op : Op) (l r : Word)
    → fire_two p (re_point h s) i op (re_word h l) (re_word h r) ≡ re_made h (fire_two p s i op l r)
fire_two_re h p s i (Apply2 op) (Word.Val v) (Word.Val w) = ap Some (to_each_re h s _ (i.firsts ++ i.seconds))
fire_two_re h p s i Sync l r = ap Some (to_each_re h s signal (i.firsts ++ i.seconds))
fire_two_re h p s i Switch l (Word.Val v) = ap Some (if_each h s l (truth v) i.firsts i.seconds)
fire_two_re h p s i (Store a) (Word.Val v) (Word.Val w) = ap Some (puts_re h p s i a w (index_in _ v i.origin))
fire_two_re h p s i (Send b e) (Word.Frame f) w =
    ap (λ (l : List Token). Some (token (To.Instr (h f) (first_of p b + e) Left) (re_word h w) ∷ l)) (to_each_re h s signal (i.firsts ++ i.seconds))
fire_two_re h p s i (Return o) (Word.Back c) (Word.Val v) =
    ap (λ (t : To). Some (token t (Word.Val v) ∷ to_all (re_point h s) signal i)) (beyond_re h c o)
    ∙ ap (λ (l : List Token). Some (token (re_to h (beyond c o)) (Word.Val v) ∷ l)) (to_each_re h s signal (i.firsts ++ i.seconds))
fire_two_re h p s i (Ask o) (Word.Back c) w =
    ap (λ (t : To). Some (token t (Word.Back (answer_to (re_point h s) i.firsts)) ∷ [])) (beyond_re h c o)
    ∙ ap (λ (k : Cont). Some (token (re_to h (beyond c o)) (Word.Back k) ∷ [])) (answer_to_re h s i.firsts)
fire_two_re h p s i (Release o) (Word.Back c) w = ap (λ (t : To). Some (token (To.Release (h s.frame)) signal ∷ token t signal ∷ [])) (beyond_re h c o)
fire_two_re h p s i op l r = refl

fires_re : (h : ℕ → ℕ) (s : SlotState) (o : Option (List Token)) → fires (re_slot h s) (re_made h o) ≡ re_outcome h (fires s o)
fires_re h s None = refl
fires_re h s (Some ts) = refl

meets_re : (h : ℕ → ℕ) (p : Program) (s : Point) (i : Instr) (slot : SlotState) (q : Port) (w : Word)
    → meets p (re_point h s) i (re_slot h slot) q (re_word h w) ≡ re_outcome h (meets p s i slot q w)
meets_re h p s i Empty Left w = refl
meets_re h p s i Empty Right w = refl
meets_re h p s i (Slot.Left l) Right r = ap (fires Empty) (fire_two_re h p s i i.op l r) ∙ fires_re h Empty (fire_two p s i i.op l r)
meets_re h p s i (Slot.Right r) Left l = ap (fires Empty) (fire_two_re h p s i i.op l r) ∙ fires_re h Empty (fire_two p s i i.op l r)
meets_re h p s i slot q w = refl

alone_re : (h : ℕ → ℕ) (p : Program) (s : Point) (i : Instr) (slot : SlotState) (q : Port) (w : Word)
    → alone p (re_point h s) i (re_slot h slot) q (re_word h w) ≡ re_outcome h (alone p s i slot q w)
alone_re h p s i slot Left w = ap (fires (re_slot h slot)) (fire_one_re h p s i i.op w) ∙ fires_re h slot (fire_one p s i i.op w)
alone_re h p s i slot Right w = refl

opens_re : (h : ℕ → ℕ) (s : Point) (i : Instr) (k : ℕ) (slot : SlotState) → opens (re_point h s) i k (re_slot h slot) ≡ re_outcome h (opens s i k slot)
opens_re h s i k Empty = ap (Becomes (Credits (k - 1))) (to_each_re h s signal (i.firsts ++ i.seconds))
opens_re h s i k slot = refl

takes_re : (h : ℕ → ℕ) (slot : SlotState) (w : Word) → takes (re_slot h slot) (re_word h w) ≡ re_outcome h (takes slot w)
takes_re h (Credits zero) (Word.Back c) = refl
takes_re h (Credits (suc n)) (Word.Back c) = ap (Becomes (Credits n)) (signal_to_re h c)
takes_re h (Credits n) w = refl
takes_re h slot w = refl

if_re : (h : ℕ → ℕ) (b : Bool) (x y u v : Outcome) → u ≡ re_outcome h x → v ≡ re_outcome h y → (if b then u else v) ≡ re_outcome h (if b then x else y)
if_re h true x y u v e f = e
if_re h false x y u v e f = f

gives_re : (h : ℕ → ℕ) (s : Point) (i : Instr) (k : ℕ) (slot : SlotState) → gives (re_point h s) i k (re_slot h slot) ≡ re_outcome h (gives s i k slot)
gives_re h s i k (Credits n) = if_re h (nat_lt n k) _ _ _ _ refl refl
gives_re h s i k (Waiter c) = ap (Becomes (Credits 0)) (signal_to_re h c)
gives_re h s i k (Draining zero) = refl
gives_re h s i k (Draining (suc zero)) = ap (Becomes Empty) (to_each_re h s signal (i.firsts ++ i.seconds))
gives_re h s i k (Draining (suc (suc n))) = refl
gives_re h s i k slot = refl

drains_re : (h : ℕ → ℕ) (s : Point) (i : Instr) (k : ℕ) (slot : SlotState) → drains (re_point h s) i k (re_slot h slot) ≡ re_outcome h (drains s i k slot)
drains_re h s i k (Credits n) =
    if_re h (n == k) (Becomes Empty (to_all s signal i)) (if nat_lt n k then Becomes (Draining (k - n)) [] else Excluded 3) _ _
    (ap (Becomes Empty) (to_each_re h s signal (i.firsts ++ i.seconds)))
    (if_re h (nat_lt n k) (Becomes (Draining (k - n)) []) (Excluded 3) _ _ refl refl)
drains_re h s i k slot = refl

on_left_re : (h : ℕ → ℕ) (q : Port) (x y : Outcome) → x ≡ re_outcome h y → on_left q x ≡ re_outcome h (on_left q y)
on_left_re h Left x y e = e
on_left_re h Right x y e = refl

pub outcome_re : (h : ℕ → ℕ) (p : Program) (s : Point) (i : Instr) (op : Op) (slot : SlotState) (q : Port) (w : Word)
    → outcome_of p (re_point h s) i op (re_slot h slot) q (re_word h w) ≡ re_outcome h (outcome_of p s i op slot q w)
outcome_re h p s i (Apply2 op) slot q w = meets_re h p s i slot q w
outcome_re h p s i Sync slot q w = meets_re h p s i slot q w
outcome_re h p s i Switch slot q w = meets_re h p s i slot q w
outcome_re h p s i (Store a) slot q w = meets_re h p s i slot q w
outcome_re h p s i (Send b e) slot q w = meets_re h p s i slot q w
outcome_re h p s i (Return o) slot q w = meets_re h p s i slot q w
outcome_re h p s i (Ask o) slot q w = meets_re h p s i slot q w
outcome_re h p s i (Release o) slot q w = meets_re h p s i slot q w
outcome_re h p s i (Open k) slot q w = on_left_re h q _ (opens s i k slot) (opens_re h s i k slot)
outcome_re h p s i (Take k) slot q w = on_left_re h q _ (takes slot w) (takes_re h slot w)
outcome_re h p s i (Give k) slot q w = on_left_re h q _ (gives s i k slot) (gives_re h s i k slot)
outcome_re h p s i (Drain k) slot q w = on_left_re h q _ (drains s i k slot) (drains_re h s i k slot)
outcome_re h p s i op slot q w = alone_re h p s i slot q w

pub rule_re : (h : ℕ → ℕ) (p : Program) (s : Point) (o : Option Instr) (slot : SlotState) (q : Port) (w : Word)
    → rule_at p (re_point h s) o (re_slot h slot) q (re_word h w) ≡ re_outcome h (rule_at p s o slot q w)
rule_re h p s None slot q w = refl
rule_re h p s (Some i) slot q w = outcome_re h p s i i.op slot q w
