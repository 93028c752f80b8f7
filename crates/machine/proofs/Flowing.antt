-- What a block of events is made of the turn of a lane.
use Rattle.std.proofs.Common.{◌≡◌, refl, sym, ◌∙◌, ap, subst, ℕ, suc, ◌%◌, ◌<◌, ◌≤◌, List, [], ◌∷◌, ◌++◌, length, map, get_or, Some, arith, append_assoc}
use Rattle.std.specs.Prelude.{All, IsPermutation, not, slice_get, remove}
use Rattle.std.proofs.lemmas.List.Elements.{All-append, All-filter}
use Rattle.lemmas.proofs.Lists.{same_head, same_tail}
use Rattle.law_confluence.proofs.Orders.{at_first, at_last}
use Rattle.tags.specs.declared.token.Token.{Token}
use Rattle.tags.specs.Addresses.{element_of}
use Rattle.semantics.specs.Program.{Program}
use Rattle.element.specs.Near.{Bounds, IsNearToken}
use Rattle.element.specs.Parts.{Shape}
use Rattle.element.specs.Holding.{Holding, here, elsewhere, is_here, IsSoundLane}
use Rattle.element.specs.Steps as one
use Rattle.element.specs.Steps.{place_of}
use Rattle.element.proofs.Quotients.{below}
use Rattle.element.proofs.Stepping.{placed}
use Rattle.schedule.specs.Setting.{Setting}
use Rattle.schedule.specs.State.{IsPlaced}
use Rattle.schedule.proofs.Stepping.{bounds_are}
use Rattle.rounds.specs.Turns.{Turns}
use Rattle.law_linearization.specs.History.{Act, bounds_of, Chain, Flows}
use Rattle.law_linearization.proofs.HistoryActing.{steps_act}
use Rattle.law_linearization.proofs.Ends.{own_part}

-- the events of a turn
abbrev pub acts_of : (p : Program) (steps : ℕ) (old : Holding) (before ts : List Token) (new : Holding) (after : List Token)
    → Turns p steps old before ts new after → List Act
acts_of p steps old before [] new after turns = []
acts_of p steps old before (t ∷ ts) new after (mid, sent, does, is, few, sound, rest) = record { token = does.token; made = does.made }
    ∷ acts_of p steps mid sent ts new after rest

pub acts_are : (p : Program) (steps : ℕ) (old : Holding) (before ts : List Token) (new : Holding) (after : List Token)
    (turns : Turns p steps old before ts new after) → length (acts_of p steps old before ts new after turns) ≡ length ts
acts_are p steps old before [] new after turns = refl
acts_are p steps old before (t ∷ ts) new after (mid, sent, does, is, few, sound, rest) = ap (λ (n : ℕ). suc n) (acts_are p steps mid sent ts new after rest)

-- THE ORDER OF THE QUEUE
first_out : (q : List Token) (t : Token) → 0 < length q → slice_get q (0 % length q) ≡ Some t → (tl : List Token) × (q ≡ t ∷ tl)
    × (remove q (0 % length q) ≡ tl)
first_out [] t some is = absurd (omega (arith, some))
first_out (x ∷ xs) t some is =
    let at : 0 % length (x ∷ xs) ≡ 0 = below 0 (length (x ∷ xs)) some in
    let one : Some x ≡ Some t = subst (λ (n : ℕ). slice_get (x ∷ xs) n ≡ Some t) at is in
    let same : x ≡ t = cc in
    (xs, ap (λ (y : Token). y ∷ xs) same, ap (λ (n : ℕ). remove (x ∷ xs) n) at)

-- the oldest token goes, and those for the element itself are last
fifo : (p : Program) (old : Holding) (before : List Token) (new : Holding) (after : List Token) → (does : one.Does p old 0 before new after)
    → (tl : List Token) × (old.queue ≡ does.token ∷ tl) × (new.queue ≡ tl ++ here old.part.shape does.made)
fifo p old before new after does =
    let out = first_out old.queue does.token does.picks.some does.picks.token in
    (out.0, out.1, does.queue ∙ ap (λ (l : List Token). l ++ here old.part.shape does.made) out.2)

-- From all tokens of the queue to all that are there then, with any others besides them.
pub flows_whole : (p : Program) (steps : ℕ) (old : Holding) (before ts : List Token) (new : Holding) (after : List Token)
    (turns : Turns p steps old before ts new after) (extra first : List Token)
    → IsPermutation first (old.queue ++ (before ++ extra)) → Flows first (acts_of p steps old before ts new after turns) (new.queue ++ (after ++ extra))
flows_whole p steps old before [] new after turns extra first perm =
    at_last perm (ap (λ (h : Holding). h.queue ++ (before ++ extra)) (sym turns.0) ∙ ap (λ (l : List Token). new.queue ++ (l ++ extra)) (sym turns.1))
flows_whole p steps old before (t ∷ ts) new after (mid, sent, does, is, few, sound, rest) extra first perm =
    let f = fifo p old before mid sent does in
    let made = does.made in
    let z = old.part.shape in
    let others : List Token = f.0 ++ (before ++ extra) in
    let takes : IsPermutation first (does.token ∷ others) = at_last perm (ap (λ (l : List Token). l ++ (before ++ extra)) f.1) in
    let next : IsPermutation (made ++ others) (mid.queue ++ (sent ++ extra))
    = at_last (placed z made f.0 before extra) (ap (λ (l : List Token). l ++ ((before ++ elsewhere z made) ++ extra)) (sym f.2)
    ∙ ap (λ (l : List Token). mid.queue ++ (l ++ extra)) (sym does.sent)) in
    (others, takes, flows_whole p steps mid sent ts new after rest extra (made ++ others) next)

-- Where only tokens that were there are taken: `mine` are those, `tail` stays as it is, and what came after it is `got`.
pub flows_first : (p : Program) (steps : ℕ) (old : Holding) (before ts : List Token) (new : Holding) (after : List Token)
    (turns : Turns p steps old before ts new after) (mine tail got extra first : List Token)
    → old.queue ≡ mine ++ (tail ++ got) → length ts ≡ length mine → IsPermutation first (mine ++ (got ++ (before ++ extra)))
    → (more : List Token) × (new.queue ≡ tail ++ more) × Flows first (acts_of p steps old before ts new after turns) (more ++ (after ++ extra))
flows_first p steps old before [] new after turns [] tail got extra first queue count perm =
    (got, ap (λ (h : Holding). h.queue) turns.0 ∙ queue, at_last perm (ap (λ (l : List Token). got ++ (l ++ extra)) (sym turns.1)))
flows_first p steps old before [] new after turns (m ∷ mine) tail got extra first queue count perm = absurd (omega (arith, count))
flows_first p steps old before (t ∷ ts) new after turns [] tail got extra first queue count perm = absurd (omega (arith, count))
flows_first p steps old before (t ∷ ts) new after (mid, sent, does, is, few, sound, rest) (m ∷ mine) tail got extra first queue count perm =
    let f = fifo p old before mid sent does in
    let made = does.made in
    let z = old.part.shape in
    let same : does.token ∷ f.0 ≡ m ∷ (mine ++ (tail ++ got)) = sym f.1 ∙ queue in
    let token : m ≡ does.token = sym (same_head does.token m f.0 (mine ++ (tail ++ got)) same) in
    let departure : f.0 ≡ mine ++ (tail ++ got) = same_tail does.token m f.0 (mine ++ (tail ++ got)) same in
    let others : List Token = mine ++ (got ++ (before ++ extra)) in
    let takes : IsPermutation first (does.token ∷ others) = at_last perm (ap (λ (x : Token). x ∷ others) token) in
    let g = here z made in
    let next_queue : mid.queue ≡ mine ++ (tail ++ (got ++ g)) = f.2 ∙ ap (λ (l : List Token). l ++ g) departure ∙ append_assoc mine (tail ++ got) g
    ∙ ap (λ (l : List Token). mine ++ l) (append_assoc tail got g) in
    let grouped : IsPermutation (made ++ ((mine ++ got) ++ (before ++ extra))) (((mine ++ got) ++ g) ++ ((before ++ elsewhere z made) ++ extra)) =
    placed z made (mine ++ got) before extra in
    let next : IsPermutation (made ++ others) (mine ++ ((got ++ g) ++ (sent ++ extra)))
    = at_first (ap (λ (l : List Token). made ++ l) (sym (append_assoc mine got (before ++ extra))))
    (at_last grouped (ap (λ (l : List Token). l ++ ((before ++ elsewhere z made) ++ extra)) (append_assoc mine got g)
    ∙ append_assoc mine (got ++ g) ((before ++ elsewhere z made) ++ extra)
    ∙ ap (λ (l : List Token). mine ++ ((got ++ g) ++ (l ++ extra))) (sym does.sent))) in
    let on = flows_first p steps mid sent ts new after rest mine tail (got ++ g) extra (made ++ others) next_queue (omega (arith, count)) next in
    (on.0, on.1, (others, takes, on.2))

-- The tokens of the queue are taken first.
pub oldest_taken : (p : Program) (steps : ℕ) (old : Holding) (before ts : List Token) (new : Holding) (after : List Token)
    → Turns p steps old before ts new after → (mine tail : List Token) → old.queue ≡ mine ++ tail → length mine ≤ length ts → (later : List Token)
    × (ts ≡ mine ++ later)
oldest_taken p steps old before [] new after turns [] tail queue few = ([], refl)
oldest_taken p steps old before (t ∷ ts) new after turns [] tail queue few = (t ∷ ts, refl)
oldest_taken p steps old before [] new after turns (m ∷ mine) tail queue few = absurd (omega (arith, few))
oldest_taken p steps old before (t ∷ ts) new after (mid, sent, does, is, low, sound, rest) (m ∷ mine) tail queue few =
    let f = fifo p old before mid sent does in
    let same : does.token ∷ f.0 ≡ m ∷ (mine ++ tail) = sym f.1 ∙ queue in
    let token : t ≡ m = sym is ∙ same_head does.token m f.0 (mine ++ tail) same in
    let departure : f.0 ≡ mine ++ tail = same_tail does.token m f.0 (mine ++ tail) same in
    let g = here old.part.shape does.made in
    let on = oldest_taken p steps mid sent ts new after rest mine (tail ++ g) (f.2 ∙ ap (λ (l : List Token). l ++ g) departure
    ∙ append_assoc mine tail g) (omega (arith, few)) in
    (on.0, ap (λ (x : Token). x ∷ ts) token ∙ ap (λ (l : List Token). m ∷ l) on.1)

-- the events took these tokens
pub acts_take : (p : Program) (steps : ℕ) (old : Holding) (before ts : List Token) (new : Holding) (after : List Token)
    (turns : Turns p steps old before ts new after) → map (λ (a : Act). a.token) (acts_of p steps old before ts new after turns) ≡ ts
acts_take p steps old before [] new after turns = refl
acts_take p steps old before (t ∷ ts) new after (mid, sent, does, is, few, sound, rest) = ap (λ (x : Token). x
    ∷ map (λ (a : Act). a.token) (acts_of p steps mid sent ts new after rest)) is
    ∙ ap (λ (l : List Token). t ∷ l) (acts_take p steps mid sent ts new after rest)

-- THE PARTS
pub next_placed : (g : Setting) (e : ℕ) (lane next : Holding) (before sent : List Token) {pick : ℕ} → IsPlaced g e lane
    → (step : one.Does g.program lane pick before next sent) → IsSoundLane g.program next → next.made ≤ g.steps → IsPlaced g e next
next_placed g e lane next before sent {pick} old step next_sound few = record {
  element = ap (λ (z : Shape). z.element) step.shape ∙ old.element;
  elements = ap (λ (z : Shape). z.elements) step.shape ∙ old.elements;
  frames = ap (λ (z : Shape). z.frames) step.shape ∙ old.frames;
  width = ap (λ (z : Shape). z.width) step.shape ∙ old.width;
  made = few;
  sound = next_sound;
}

pub turn_placed : (g : Setting) (e : ℕ) (old : Holding) (before ts : List Token) (new : Holding) (after : List Token) → IsPlaced g e old
    → Turns g.program g.steps old before ts new after → IsPlaced g e new
turn_placed g e old before [] new after start turns = subst (λ (h : Holding). IsPlaced g e h) (sym turns.0) start
turn_placed g e old before (t ∷ ts) new after start (mid, sent, does, is, few, sound, rest) =
    let made : mid.made ≤ g.steps = (let c = does.count in omega arith) in
    turn_placed g e mid sent ts new after (next_placed g e old mid before sent start does sound made) rest

pub turn_chain : (g : Setting) (e : ℕ) (old : Holding) (before ts : List Token) (new : Holding) (after : List Token) → IsPlaced g e old
    → (turns : Turns g.program g.steps old before ts new after) → Chain g e old.part (acts_of g.program g.steps old before ts new after turns) new.part
turn_chain g e old before [] new after start turns = ap (λ (h : Holding). h.part) turns.0
turn_chain g e old before (t ∷ ts) new after start (mid, sent, does, is, few, sound, rest) =
    let made : mid.made ≤ g.steps = (let c = does.count in omega arith) in
    let next = next_placed g e old mid before sent start does sound made in
    let addressed_all = start.sound.addressed in
    let f = fifo g.program old before mid sent does in
    let some : 0 < length old.queue = does.picks.some in
    let head : element_of old.part.shape.elements does.token.to
    ≡ old.part.shape.element = subst (λ (x : Token). element_of old.part.shape.elements x.to ≡ old.part.shape.element)
    (ap (λ (l : List Token). get_or l 0 does.token) f.1) (addressed_all 0 does.token some) in
    let addressed : element_of g.elements does.token.to ≡ e = subst (λ (n : ℕ). element_of n does.token.to ≡ e) start.elements (head ∙ start.element) in
    let near : All (IsNearToken (bounds_of g)) does.made = subst (λ (b : Bounds). All (IsNearToken b) does.made) (bounds_are g e old start) does.near in
    (mid.part, own_part g e mid next, addressed, near, steps_act g.program old mid 0 before sent does, turn_chain g e mid sent ts new after next rest)

-- what is sent names what there is, if what was sent before does
pub turn_near : (g : Setting) (e : ℕ) (old : Holding) (before ts : List Token) (new : Holding) (after : List Token) → IsPlaced g e old
    → Turns g.program g.steps old before ts new after → All (IsNearToken (bounds_of g)) before → All (IsNearToken (bounds_of g)) after
turn_near g e old before [] new after start turns near = subst (λ (l : List Token). All (IsNearToken (bounds_of g)) l) (sym turns.1) near
turn_near g e old before (t ∷ ts) new after start (mid, sent, does, is, few, sound, rest) near =
    let count : mid.made ≤ g.steps = (let c = does.count in omega arith) in
    let next = next_placed g e old mid before sent start does sound count in
    let made : All (IsNearToken (bounds_of g)) does.made = subst (λ (b : Bounds). All (IsNearToken b) does.made) (bounds_are g e old start) does.near in
    let left : All (IsNearToken (bounds_of g)) (elsewhere old.part.shape does.made) = All-filter (λ (t : Token). not (is_here old.part.shape t)) (IsNearToken (bounds_of g)) does.made made in
    turn_near g e mid sent ts new after next rest (subst (λ (l : List Token). All (IsNearToken (bounds_of g)) l) (sym does.sent)
    (All-append (IsNearToken (bounds_of g)) before (elsewhere old.part.shape does.made) near left))
