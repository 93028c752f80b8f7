-- What an instruction makes names frames and cells that there are.
use Rattle.std.proofs.Common.{◌≡◌, refl, ℕ, zero, suc, ◌+◌, ◌<◌, Bool, true, false, pos, negsuc, List, [], ◌∷◌, ◌++◌, Option, Some, None}
use Rattle.std.specs.Prelude.{All, ⊤, nat_lt, if◌then◌else◌, take, ◌==◌}
use Rattle.std.proofs.lemmas.Bool.{ltb-true}
use Rattle.std.proofs.lemmas.List.Elements.{All-nil, All-cons, All-map}
use Rattle.tags.specs.declared.value.Value.{Value}
use Rattle.tags.specs.declared.value.Value.TheVariants.{Int, Fault}
use Rattle.tags.specs.declared.value.FaultKind.TheVariants.{Range}
use Rattle.tags.specs.declared.token.Port.{Port}
use Rattle.tags.specs.declared.token.Port.TheVariants.{Left, Right}
use Rattle.tags.specs.declared.token.Cont.{Cont}
use Rattle.tags.specs.declared.token.Word.{Word}
use Rattle.tags.specs.declared.token.To.{To}
use Rattle.tags.specs.declared.token.Token.{Token}
use Rattle.tags.specs.declared.slot.SlotState.{SlotState}
use Rattle.tags.specs.declared.slot.SlotState.TheVariants as Slot
use Rattle.tags.specs.declared.slot.SlotState.TheVariants.{Empty, Credits, Waiter, Draining}
use Rattle.operators.specs.Values.{Place, Outside, index_in, truth}
use Rattle.semantics.specs.declared.program.Dest.{Dest}
use Rattle.semantics.specs.declared.program.Op.{Op}
use Rattle.semantics.specs.declared.program.Op.TheVariants.{Apply1, Apply2, Apply2Right, Apply2Left, Lit, Copy, Sync, Switch, Fetch, Store, Frame}
use Rattle.semantics.specs.declared.program.Op.TheVariants.{Link, Send, Return, Ask, Open, Take, Give, Drain, Release}
use Rattle.semantics.specs.Program.{Instr, Program, first_of}
use Rattle.semantics.specs.Rule.{Point, Outcome, Becomes, Excluded, token, signal, at_dest, to_each, to_all, beyond, back_to, answer_to, landing_at}
use Rattle.semantics.specs.Rule.{fires, array_base, array_len, asks_for, puts, fire_one, fire_two, meets, opens, takes, gives, drains, alone}
use Rattle.semantics.specs.Rule.{outcome_of}
use Rattle.element.specs.Near.{Bounds, IsNearCont, IsNearWord, IsNearTo, IsNearToken, IsNearSlot}

abbrev pub NearMade : Bounds → Option (List Token) → Type 0
NearMade b None = ⊤
NearMade b (Some made) = All (IsNearToken b) made

abbrev pub NearOutcome : Bounds → Outcome → Type 0
NearOutcome b (Becomes v made) = IsNearSlot b v × All (IsNearToken b) made
NearOutcome b (Excluded n) = ⊤

pub back_near : (b : Bounds) (c : Cont) → IsNearCont b c → IsNearTo b (back_to c)
back_near b (Cont.Frame f ip p) h = h.0
back_near b (Cont.Host p) h = tt

beyond_near : (b : Bounds) (c : Cont) (o : ℕ) → IsNearCont b c → IsNearTo b (beyond c o)
beyond_near b (Cont.Frame f ip p) o h = h.0
beyond_near b (Cont.Host p) o h = tt

pub one_near : (b : Bounds) (to : To) (w : Word) → IsNearTo b to → IsNearWord b w → All (IsNearToken b) (token to w ∷ [])
one_near b to w h k = All-cons (IsNearToken b) (token to w) [] (record { to = h; word = k }) (All-nil (IsNearToken b))

more_near : (b : Bounds) (to : To) (w : Word) (ts : List Token) → IsNearTo b to → IsNearWord b w → All (IsNearToken b) ts
    → All (IsNearToken b) (token to w ∷ ts)
more_near b to w ts h k all = All-cons (IsNearToken b) (token to w) ts (record { to = h; word = k }) all

fired_near : (b : Bounds) (v : SlotState) (o : Option (List Token)) → IsNearSlot b v → NearMade b o → NearOutcome b (fires v o)
fired_near b v None n h = tt
fired_near b v (Some made) n h = (n, h)

pub record IsNearPoint (p : Program) (b : Bounds) (s : Point) (i : Instr) : Type 0 where
  pub frame : s.frame < b.frames
  pub back : IsNearCont b (answer_to s i.firsts)
  pub land : IsNearCont b (landing_at s i.firsts)
  pub cells : (a x : ℕ) → x < array_len p a → array_base p a + x < b.cells

module _ (p : Program) (b : Bounds) (s : Point) (i : Instr) (at : IsNearPoint p b s i) where
  each_near : (w : Word) (ds : List Dest) → IsNearWord b w → All (IsNearToken b) (to_each s w ds)
  each_near w ds n = All-map (IsNearToken b) (at_dest s w) ds (λ k d low. record { to = at.frame; word = n })

  all_near : (w : Word) → IsNearWord b w → All (IsNearToken b) (to_all s w i)
  all_near w n = each_near w (i.firsts ++ i.seconds) n

  asks_at : (a n : ℕ) (t : Bool) → nat_lt n (array_len p a) ≡ t → All (IsNearToken b) (asks_for p s i a (if t then Place n else Outside (Fault Range i.origin)))
  asks_at a n true e = one_near b (To.Fetch (array_base p a + n)) (Word.Back (answer_to s i.firsts)) (at.cells a n (ltb-true n (array_len p a) e)) at.back
  asks_at a n false e = each_near (Word.Val (Fault Range i.origin)) (take 1 i.firsts) tt

  asks_near : (a : ℕ) (v : Value) → All (IsNearToken b) (asks_for p s i a (index_in (array_len p a) v i.origin))
  asks_near a (Int (pos n)) = asks_at a n (nat_lt n (array_len p a)) refl
  asks_near a (Int (negsuc n)) = each_near (Word.Val (Fault Range i.origin)) (take 1 i.firsts) tt
  asks_near a (Fault k o) = each_near (Word.Val (Fault k o)) (take 1 i.firsts) tt

  puts_at : (a n : ℕ) (w : Value) (t : Bool) → nat_lt n (array_len p a) ≡ t
      → All (IsNearToken b) (puts p s i a w (if t then Place n else Outside (Fault Range i.origin)))
  puts_at a n w true e = one_near b (To.Store (array_base p a + n) w) (Word.Back (answer_to s i.firsts)) (at.cells a n (ltb-true n (array_len p a) e)) at.back
  puts_at a n w false e = each_near (Word.Val (Fault Range i.origin)) (take 1 i.firsts) tt

  puts_near : (a : ℕ) (w v : Value) → All (IsNearToken b) (puts p s i a w (index_in (array_len p a) v i.origin))
  puts_near a w (Int (pos n)) = puts_at a n w (nat_lt n (array_len p a)) refl
  puts_near a w (Int (negsuc n)) = each_near (Word.Val (Fault Range i.origin)) (take 1 i.firsts) tt
  puts_near a w (Fault k o) = each_near (Word.Val (Fault k o)) (take 1 i.firsts) tt

  one_fired : (op : Op) (w : Word) → IsNearWord b w → NearMade b (fire_one p s i op w)
  one_fired (Apply1 op) (Word.Val v) n = all_near _ tt
  one_fired (Apply2Right op z) (Word.Val v) n = all_near _ tt
  one_fired (Apply2Left op z) (Word.Val v) n = all_near _ tt
  one_fired (Lit z) w n = all_near _ tt
  one_fired Copy w n = all_near w n
  one_fired (Fetch a) (Word.Val v) n = asks_near a v
  one_fired Frame w n = one_near b To.Manager (Word.Back (answer_to s i.firsts)) tt at.back
  one_fired (Link k) (Word.Frame f) n = more_near b (To.Instr f (first_of p k) Left) (Word.Back (landing_at s i.firsts)) (to_each s signal i.seconds)
      n at.land (each_near signal i.seconds tt)
  one_fired op w n = tt

  side_near : (t : Bool) (w : Word) → IsNearWord b w → All (IsNearToken b) (to_each s w (if t then i.firsts else i.seconds))
  side_near true w n = each_near w i.firsts n
  side_near false w n = each_near w i.seconds n

  two_fired : (op : Op) (l r : Word) → IsNearWord b l → IsNearWord b r → NearMade b (fire_two p s i op l r)
  two_fired (Apply2 op) (Word.Val v) (Word.Val w) n m = all_near _ tt
  two_fired Sync l r n m = all_near signal tt
  two_fired Switch l (Word.Val v) n m = side_near (truth v) l n
  two_fired (Store a) (Word.Val v) (Word.Val w) n m = puts_near a w v
  two_fired (Send k e) (Word.Frame f) w n m = more_near b (To.Instr f (first_of p k + e) Left) w (to_all s signal i) n m (all_near signal tt)
  two_fired (Return o) (Word.Back c) (Word.Val v) n m = more_near b (beyond c o) (Word.Val v) (to_all s signal i) (beyond_near b c o n) tt (all_near signal tt)
  two_fired (Ask o) (Word.Back c) w n m = one_near b (beyond c o) (Word.Back (answer_to s i.firsts)) (beyond_near b c o n) at.back
  two_fired (Release o) (Word.Back c) w n m = more_near b (To.Release s.frame) signal (token (beyond c o) signal ∷ []) tt tt
      (one_near b (beyond c o) signal (beyond_near b c o n) tt)
  two_fired op l r n m = tt

  met_near : (slot : SlotState) (port : Port) (w : Word) → IsNearSlot b slot → IsNearWord b w → NearOutcome b (meets p s i slot port w)
  met_near Empty Left w n m = (m, All-nil (IsNearToken b))
  met_near Empty Right w n m = (m, All-nil (IsNearToken b))
  met_near (Slot.Left l) Right r n m = fired_near b Empty (fire_two p s i i.op l r) tt (two_fired i.op l r n m)
  met_near (Slot.Right r) Left l n m = fired_near b Empty (fire_two p s i i.op l r) tt (two_fired i.op l r m n)
  met_near slot port w n m = tt

  opened_near : (k : ℕ) (slot : SlotState) → NearOutcome b (opens s i k slot)
  opened_near k Empty = (tt, all_near signal tt)
  opened_near k slot = tt

  signalled : (c : Cont) → IsNearCont b c → All (IsNearToken b) (token (back_to c) signal ∷ [])
  signalled c n = one_near b (back_to c) signal (back_near b c n) tt

  taken_near : (slot : SlotState) (w : Word) → IsNearWord b w → NearOutcome b (takes slot w)
  taken_near (Credits zero) (Word.Back c) n = (n, All-nil (IsNearToken b))
  taken_near (Credits (suc k)) (Word.Back c) n = (tt, signalled c n)
  taken_near (Credits k) w n = tt
  taken_near slot w n = tt

  if_near : (t : Bool) (x : Outcome) → NearOutcome b x → NearOutcome b (if t then x else Excluded 3)
  if_near true x n = n
  if_near false x n = tt

  given_near : (k : ℕ) (slot : SlotState) → IsNearSlot b slot → NearOutcome b (gives s i k slot)
  given_near k (Credits n) h = if_near (nat_lt n k) (Becomes (Credits (n + 1)) []) (tt, All-nil (IsNearToken b))
  given_near k (Waiter c) h = (tt, signalled c h)
  given_near k (Draining zero) h = tt
  given_near k (Draining (suc zero)) h = (tt, all_near signal tt)
  given_near k (Draining (suc (suc n))) h = (tt, All-nil (IsNearToken b))
  given_near k slot h = tt

  drains_at : (t : Bool) (x : Outcome) → NearOutcome b x → NearOutcome b (if t then Becomes Empty (to_all s signal i) else x)
  drains_at true x n = (tt, all_near signal tt)
  drains_at false x n = n

  drained_near : (k : ℕ) (slot : SlotState) → NearOutcome b (drains s i k slot)
  drained_near k (Credits n) = drains_at (n == k) _ (if_near (nat_lt n k) _ (tt, All-nil (IsNearToken b)))
  drained_near k slot = tt

  alone_near : (slot : SlotState) (port : Port) (w : Word) → IsNearSlot b slot → IsNearWord b w → NearOutcome b (alone p s i slot port w)
  alone_near slot Left w n m = fired_near b slot (fire_one p s i i.op w) n (one_fired i.op w m)
  alone_near slot Right w n m = tt

  pub outcome_near : (op : Op) (slot : SlotState) (port : Port) (w : Word) → IsNearSlot b slot → IsNearWord b w
      → NearOutcome b (outcome_of p s i op slot port w)
  outcome_near (Apply2 op) slot port w n m = met_near slot port w n m
  outcome_near Sync slot port w n m = met_near slot port w n m
  outcome_near Switch slot port w n m = met_near slot port w n m
  outcome_near (Store a) slot port w n m = met_near slot port w n m
  outcome_near (Send k e) slot port w n m = met_near slot port w n m
  outcome_near (Return o) slot port w n m = met_near slot port w n m
  outcome_near (Ask o) slot port w n m = met_near slot port w n m
  outcome_near (Release o) slot port w n m = met_near slot port w n m
  outcome_near (Open k) slot Left w n m = opened_near k slot
  outcome_near (Open k) slot Right w n m = tt
  outcome_near (Take k) slot Left w n m = taken_near slot w m
  outcome_near (Take k) slot Right w n m = tt
  outcome_near (Give k) slot Left w n m = given_near k slot n
  outcome_near (Give k) slot Right w n m = tt
  outcome_near (Drain k) slot Left w n m = drained_near k slot
  outcome_near (Drain k) slot Right w n m = tt
  outcome_near op slot port w n m = alone_near slot port w n m
