-- The machine at the start.
use Rattle.std.proofs.Common.{◌≡◌, refl, sym, ◌∙◌, ap, subst, ℕ, suc, ◌+◌, ◌<◌, ◌≤◌, lit<, ℤ, List, [], ◌∷◌, ◌++◌, length, map, drop, get_or, take, arith}
use Rattle.std.specs.Prelude.{All, IsPermutation}
use Rattle.std.proofs.Math.Nat.{one-le-mul}
use Rattle.std.proofs.lemmas.List.{length-take-le, take_more}
use Rattle.std.proofs.lemmas.List.Elements.{All-nil, All-cons, All-weaker}
use Rattle.std.proofs.lemmas.List.Sorted.{IsPermutation-refl, IsPermutation-sym}
use Rattle.tags.specs.declared.value.Value.TheVariants.{Int}
use Rattle.tags.specs.declared.token.Port.TheVariants.{Left}
use Rattle.tags.specs.declared.token.Cont.{Cont}
use Rattle.tags.specs.declared.token.Word.{Word}
use Rattle.tags.specs.declared.token.To.{To}
use Rattle.tags.specs.declared.token.Token.{Token}
use Rattle.semantics.specs.Program.{Program, first_of}
use Rattle.semantics.specs.Rule.{token}
use Rattle.semantics.specs.Machine.{input_tokens, at_start}
use Rattle.element.specs.Near.{Bounds, IsNearToken}
use Rattle.element.specs.Parts.{IsPart}
use Rattle.element.specs.Holding.{Holding, LaneView, Fixed, held_of, bounds_at, queued}
use Rattle.schedule.specs.Setting.{Setting, total, FitsSlots, IsGoodSetting}
use Rattle.schedule.specs.State.{State, AllFrom, IsAt, IsPlaced, IsSoundState, RunsAs, AreParts, delivered, tokens_in, lanes_of}
use Rattle.schedule.specs.Runs.{Began}
use Rattle.frame_store.specs.Slots.{Slots, all_empty}
use Rattle.schedule.specs.declared.config.Config.{Config}
use Rattle.schedule.specs.Starts.{IsFresh, IsGood, sized, setting_of, start_tokens}
use Rattle.schedule.proofs.Memory.{none_arriving}
use Rattle.schedule.proofs.Places.{from_map, from_weaker}
use Rattle.schedule.proofs.Tokens.{tokens_delivered}
use Rattle.schedule.proofs.Staying.{bounds_as}
use Rattle.schedule.proofs.Stepping.{bounds_in, delivered_sound}

inputs_push : (ip : ℕ) (xs : List ℤ) (x : ℤ) → input_tokens ip (xs ++ x ∷ []) ≡ input_tokens ip xs ++ token (To.Instr 0 (ip + length xs) Left)
    (Word.Val (Int x)) ∷ []
inputs_push ip [] x = let e : ip ≡ ip + 0 = omega arith in ap (λ (n : ℕ). token (To.Instr 0 n Left) (Word.Val (Int x)) ∷ []) e
inputs_push ip (y ∷ ys) x =
    let e : (ip + 1) + length ys ≡ ip + suc (length ys) = omega arith in
    ap (λ (ts : List Token). token (To.Instr 0 ip Left) (Word.Val (Int y)) ∷ ts)
    (inputs_push (ip + 1) ys x ∙ ap (λ (n : ℕ). input_tokens (ip + 1) ys ++ token (To.Instr 0 n Left) (Word.Val (Int x)) ∷ []) e)

-- one more input
pub start_more : (first ip i : ℕ) (inputs : List ℤ) (x : ℤ) → i < length inputs → x ≡ get_or inputs i x → ip ≡ first + i
    → start_tokens first (take i inputs) ++ token (To.Instr 0 (ip + 1) Left) (Word.Val (Int x)) ∷ [] ≡ start_tokens first (take (i + 1) inputs)
start_more first ip i inputs x low is ip_is =
    let count : length (take i inputs) ≡ i = length-take-le i inputs (omega arith) in
    let number : ip + 1 ≡ (first + 1) + length (take i inputs) = omega arith in
    let taken : take (i + 1) inputs ≡ take i inputs ++ x ∷ [] = take_more inputs i x low ∙ ap (λ (y : ℤ). take i inputs ++ y ∷ []) (sym is) in
    ap (λ (ts : List Token). token (To.Instr 0 first Left) (Word.Back (Cont.Host 0)) ∷ ts)
    (ap (λ (n : ℕ). input_tokens (first + 1) (take i inputs) ++ token (To.Instr 0 n Left) (Word.Val (Int x)) ∷ []) number
    ∙ sym (inputs_push (first + 1) (take i inputs) x)
    ∙ ap (λ (xs : List ℤ). input_tokens (first + 1) xs) (sym taken))

inputs_near : (g : Setting) → 0 < total g → (ip : ℕ) (xs : List ℤ) → All (IsNearToken (bounds_in g)) (input_tokens ip xs)
inputs_near g some ip [] = All-nil (IsNearToken (bounds_in g))
inputs_near g some ip (x ∷ xs) = All-cons (IsNearToken (bounds_in g)) (token (To.Instr 0 ip Left) (Word.Val (Int x))) (input_tokens (ip + 1) xs)
    (record { to = some; word = tt }) (inputs_near g some (ip + 1) xs)

start_near : (g : Setting) → 0 < total g → (first : ℕ) (xs : List ℤ) → All (IsNearToken (bounds_in g)) (start_tokens first xs)
start_near g some first xs = All-cons (IsNearToken (bounds_in g)) (token (To.Instr 0 first Left) (Word.Back (Cont.Host 0)))
    (input_tokens (first + 1) xs) (record { to = some; word = lit< tt }) (inputs_near g some (first + 1) xs)

no_tokens : (g : Setting) (k : ℕ) (lanes : List Holding) → AllFrom (IsFresh g) k lanes → tokens_in lanes ≡ []
no_tokens g k [] all = refl
no_tokens g k (h ∷ hs) all = ap (λ (q : List Token). q ++ tokens_in hs) all.0.queue ∙ no_tokens g (suc k) hs all.1

module _ (g : Setting) (inputs : List ℤ) (lanes : List Holding) (good : IsGoodSetting g) (count : length lanes ≡ g.elements)
    (fresh : AllFrom (IsFresh (sized g.program g.elements g.frames g.width 0)) 0 lanes) where
  abbrev first : ℕ
  first = first_of g.program g.program.main

  abbrev ts : List Token
  ts = start_tokens first inputs

  abbrev opened : State
  opened = record { setting = g; lanes = delivered ts lanes }

  some : 0 < total g
  some = let a = good.some in let b = good.some_frames in one-le-mul {a = g.elements} {b = g.frames} (omega arith) (omega arith)

  placed : AllFrom (IsPlaced g) 0 lanes
  placed = from_weaker (IsFresh (sized g.program g.elements g.frames g.width 0)) (IsPlaced g) (λ (i : ℕ) (h : Holding) f. record {
    element = f.element;
    elements = f.elements;
    frames = f.frames;
    width = f.width;
    made = (let m : h.made ≡ 0 = f.made in omega arith);
    sound = f.sound;
  }) 0 lanes fresh

  pub opens_sound : IsSoundState opened
  opens_sound = delivered_sound (record { setting = g; lanes = lanes }) ts (start_near g some first inputs)
      (record { setting = good; count = count; lanes = placed })

  at : AllFrom (IsAt g.elements) 0 lanes
  at = from_weaker (IsPlaced g) (IsAt g.elements) (λ (i : ℕ) (h : Holding) p. (p.element, p.elements)) 0 lanes placed

  pub opens_stands : AreParts opened (at_start g.program inputs)
  opens_stands = record {
    parts = from_map (IsFresh (sized g.program g.elements g.frames g.width 0))
        (λ (i : ℕ) (h : Holding). IsPart h.part (at_start g.program inputs).store) (λ (h : Holding). queued h ts)
        (λ (i : ℕ) (h : Holding) f. f.starts inputs) 0 lanes fresh;
    tokens =
        let all = tokens_delivered g.elements lanes ts good.some count at in
        let none : tokens_in lanes ++ ts ≡ ts = ap (λ (q : List Token). q ++ ts) (no_tokens (sized g.program g.elements g.frames g.width 0) 0 lanes fresh) in
        IsPermutation-sym (tokens_in (delivered ts lanes)) ts (subst (λ (l : List Token). IsPermutation (tokens_in (delivered ts lanes)) l) none all);
    bounded = record { slots = λ f r beyond. refl; cells = λ x beyond. refl };
  }

  pub opens_began : Began inputs opened []
  opens_began = record {
    machine = at_start g.program inputs;
    run = (IsPermutation-refl (at_start g.program inputs).pool, refl);
    stands = opens_stands;
    counts = from_map (IsFresh (sized g.program g.elements g.frames g.width 0)) _ (λ (h : Holding). queued h ts) (λ (i : ℕ) (h : Holding) f. f.made)
        0 lanes fresh;
  }

-- the lanes over a store that is as it was made
pub fresh_over : (p : Program) (v : Slots) (elements frames slots width : ℕ) (lanes : List Holding) → v ≡ all_empty elements frames slots → slots ≡ width
    → AllFrom (IsFresh (sized p v.elements v.frames v.width 0)) 0 lanes → AllFrom (IsFresh (sized p elements frames width 0)) 0 lanes
fresh_over p v elements frames slots width lanes e w all =
    subst (λ (n : ℕ). AllFrom (IsFresh (sized p elements frames n 0)) 0 lanes) w
    (subst (λ (x : Slots). AllFrom (IsFresh (sized p x.elements x.frames x.width 0)) 0 lanes) e all)

pub runs_over : (p : Program) (v : Slots) (elements frames slots width steps : ℕ) (fs : List Fixed) → v ≡ all_empty elements frames slots → slots ≡ width
    → All (RunsAs (sized p v.elements v.frames v.width steps)) fs → All (RunsAs (sized p elements frames width steps)) fs
runs_over p v elements frames slots width steps fs e w all =
    subst (λ (n : ℕ). All (RunsAs (sized p elements frames n steps)) fs) w
    (subst (λ (x : Slots). All (RunsAs (sized p x.elements x.frames x.width steps)) fs) e all)

-- they run in the machine of these numbers, and there is a frame
pub runs_good : (p : Program) (width : ℕ) (c : Config) (fs : List Fixed) → All (RunsAs (sized p c.elements c.frames width c.steps)) fs
    → All (RunsAs (setting_of p width c)) fs
runs_good p width c fs all = All-weaker (RunsAs (sized p c.elements c.frames width c.steps)) (RunsAs (setting_of p width c))
    (λ (f : Fixed) r. record { program = r.program; steps = r.steps; elements = r.elements; frames = r.frames }) fs all

pub runs_some : (g : Setting) (fs : List Fixed) → 0 < total g → All (RunsAs g) fs → All (λ (f : Fixed). 0 < (bounds_at f).frames) fs
runs_some g fs some all = All-weaker (RunsAs g) (λ (f : Fixed). 0 < (bounds_at f).frames) (λ (f : Fixed) r. subst (λ (b : Bounds). 0 < b.frames)
    (sym (bounds_as g f r)) some) fs all

pub good_setting : (p : Program) (width slots : ℕ) (c : Config) → IsGood c → 0 < c.frames → slots ≡ width → 0 < slots → slots ≤ 512
    → FitsSlots p width → IsGoodSetting (setting_of p width c)
good_setting p width slots c good some_frame is some few fits = record {
  some = good.elements;
  few = good.elements_most;
  some_frames = some_frame;
  few_frames = good.frames;
  some_slots = subst (λ (n : ℕ). 0 < n) is some;
  few_slots = subst (λ (n : ℕ). n ≤ 512) is few;
  steps = good.steps;
  some_turn = good.turn;
  few_turn = good.turn_most;
  fits = fits;
}

-- the lanes with what is on its way, before the first event
pub lanes_are : (p : Program) (items : List LaneView) (sent : List Token) (start : ℕ) (inputs : List ℤ) (lanes : List Holding) → sent ≡ [] → start
    ≡ first_of p p.main
    → map held_of items ≡ delivered (start_tokens start inputs) lanes → delivered (start_tokens (first_of p p.main) inputs) lanes ≡ lanes_of items (drop 0 sent)
lanes_are p items sent start inputs lanes none is got =
    sym (none_arriving items sent 0 none refl ∙ got ∙ ap (λ (n : ℕ). delivered (start_tokens n inputs) lanes) is)
