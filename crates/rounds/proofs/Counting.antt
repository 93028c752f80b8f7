-- How many rounds there can be, and what a report says of them.
use Rattle.std.proofs.Common.{◌≡◌, refl, sym, ◌∙◌, ap, subst, ℕ, zero, suc, ◌+◌, ◌*◌, ◌^◌, ◌<◌, ◌≤◌, ◌⊎◌, inl, inr, Bool, true, false, List, []}
use Rattle.std.proofs.Common.{◌∷◌, ◌++◌, length, Option, Some, None, arith}
use Rattle.std.proofs.lemmas.Bool.{cases_lt}
use Rattle.std.proofs.lemmas.List.{append-nil, nil_from_length}
use Rattle.lemmas.proofs.Lists.{nothing_before, nothing_after}
use Rattle.tags.specs.declared.token.Token.{Token}
use Rattle.semantics.specs.Program.{Program}
use Rattle.semantics.specs.Machine.{Events, outputs_of}
use Rattle.semantics.specs.Report.{Report}
use Rattle.element.specs.Holding.{Holding}
use Rattle.schedule.specs.declared.halt.Halt.{Halt}
use Rattle.schedule.specs.Setting.{Setting}
use Rattle.schedule.specs.State.{AllFrom, IsPlaced, IsSoundState, delivered, tokens_in}
use Rattle.schedule.specs.Runs.{SoFar}
use Rattle.schedule.specs.Reported.{IsReportOf, opening_picture}
use Rattle.schedule.proofs.Tokens.{delivered_none}
use Rattle.schedule.proofs.Reports.{reported_arriving}
use Rattle.schedule.specs.Steps.{logged}
use Rattle.schedule.specs.declared.take.Take.{Take}
use Rattle.schedule.specs.declared.take.Take.TheVariants.{Oldest, Depth}
use Rattle.schedule.specs.Turns as depth
use Rattle.element.specs.Requests.{held_back}
use Rattle.rounds.specs.Turns.{Turns, IsWhole, Turned, Round, helds, all_sent, arriving}
use Rattle.rounds.specs.ByDepth.{GrantsNone, Takes, MayGrant, MayTake, TurnsByDepth, EndsGranting, IsWholeByDepth, HaltsTaking, RoundTaking}
use Rattle.rounds.specs.Counted.{answers, NoneHalts, IsWhy, MakesRound, MakesRounds, ReportsTaking}
use Rattle.rounds.proofs.Taking.{Any, depth_any, grown_any}

-- how many events lanes have made
abbrev pub total : List Holding → ℕ
total [] = 0
total (h ∷ hs) = h.made + total hs

total_delivered : (ts : List Token) (hs : List Holding) → total (delivered ts hs) ≡ total hs
total_delivered ts [] = refl
total_delivered ts (h ∷ hs) = ap (λ (n : ℕ). h.made + n) (total_delivered ts hs)

pub grown : (p : Program) (steps : ℕ) (old : Holding) (before ts : List Token) (new : Holding) (after : List Token)
    → Turns p steps old before ts new after → new.made ≡ old.made + length ts
grown p steps old before [] new after turns = let e = ap (λ (h : Holding). h.made) turns.0 in omega (arith, e)
grown p steps old before (t ∷ ts) new after (mid, sent, does, is, few, sound, rest) =
    let e = grown p steps mid sent ts new after rest in
    let c = does.count in
    omega (arith, e, c)

never_less : (g : Setting) (keeps_events may_stop : Bool) (olds : List Holding) (ts : List Turned) → Round g keeps_events may_stop olds ts
    → total olds ≤ total (helds ts)
never_less g keeps_events may_stop [] [] round = omega arith
never_less g keeps_events may_stop [] (t ∷ ts) round = absurd round
never_less g keeps_events may_stop (h ∷ hs) [] round = absurd round
never_less g keeps_events may_stop (h ∷ hs) (t ∷ ts) (turn, rest) =
    let e = grown g.program g.steps h [] turn.taken t.held t.sent turn.turns in
    let l = never_less g keeps_events may_stop hs ts rest in
    omega (arith, e, l)

-- lanes that made no event hold what they held
same_idle : (g : Setting) (keeps_events may_stop : Bool) (olds : List Holding) (ts : List Turned) → Round g keeps_events may_stop olds ts
    → total (helds ts) ≤ total olds → helds ts ≡ olds
same_idle g keeps_events may_stop [] [] round few = refl
same_idle g keeps_events may_stop [] (t ∷ ts) round few = absurd round
same_idle g keeps_events may_stop (h ∷ hs) [] round few = absurd round
same_idle g keeps_events may_stop (h ∷ hs) (t ∷ ts) (turn, rest) few =
    let e = grown g.program g.steps h [] turn.taken t.held t.sent turn.turns in
    let l = never_less g keeps_events may_stop hs ts rest in
    let none : turn.taken ≡ [] = nil_from_length turn.taken (omega (arith, e, l, few)) in
    let there : total (helds ts) ≤ total hs = omega (arith, e, l, few) in
    let here : t.held ≡ h = (subst (λ (us : List Token). Turns g.program g.steps h [] us t.held t.sent) none turn.turns).0 in
    ap (λ (x : Holding). x ∷ helds ts) here ∙ ap (λ (xs : List Holding). h ∷ xs) (same_idle g keeps_events may_stop hs ts rest there)

-- A lane that made no event and does not halt has no token, and made none for others.
lane_idle : (p : Program) (steps turn : ℕ) (old : Holding) (taken : List Token) (new : Holding) (sent : List Token) (halt : Option Halt) → 0 < turn
    → Turns p steps old [] taken new sent → IsWhole turn old new halt → halt ≡ None → new.made ≤ old.made
    → (new.queue ≡ []) × (sent ≡ [])
lane_idle p steps turn old [] new sent None some turns (inl all) none few = absurd (omega (arith, all, some, few))
lane_idle p steps turn old [] new sent None some turns (inr idle) none few = (idle, turns.1)
lane_idle p steps turn old (t ∷ ts) new sent None some turns whole none few =
    let e = grown p steps old [] (t ∷ ts) new sent turns in
    absurd (omega (arith, e, few))
lane_idle p steps turn old taken new sent (Some halt) some turns whole none few = absurd (let no : ⊥ = cc in no)

first_none : (t : Turned) (ts : List Turned) → NoneHalts (answers (t ∷ ts)) → t.halt ≡ None
first_none t ts none = let e = none 0 (omega arith) in cc

later_none : (t : Turned) (ts : List Turned) → NoneHalts (answers (t ∷ ts)) → NoneHalts (answers ts)
later_none t ts none = λ e low. none (suc e) (omega (arith, low))

both_nil : {X : Type 0} (xs ys : List X) → xs ≡ [] → ys ≡ [] → xs ++ ys ≡ []
both_nil xs ys a b = ap (λ (l : List _). l ++ ys) a ∙ b

all_idle : (g : Setting) (keeps_events may_stop : Bool) (olds : List Holding) (ts : List Turned) → 0 < g.turn → Round g keeps_events may_stop olds ts
    → NoneHalts (answers ts) → total (helds ts) ≤ total olds → (tokens_in (helds ts) ≡ []) × (all_sent ts ≡ [])
all_idle g keeps_events may_stop [] [] some round none few = (refl, refl)
all_idle g keeps_events may_stop [] (t ∷ ts) some round none few = absurd round
all_idle g keeps_events may_stop (h ∷ hs) [] some round none few = absurd round
all_idle g keeps_events may_stop (h ∷ hs) (t ∷ ts) some (turn, rest) none few =
    let e = grown g.program g.steps h [] turn.taken t.held t.sent turn.turns in
    let l = never_less g keeps_events may_stop hs ts rest in
    let here : t.held.made ≤ h.made = omega (arith, e, l, few) in
    let there : total (helds ts) ≤ total hs = omega (arith, e, l, few) in
    let one = lane_idle g.program g.steps g.turn h turn.taken t.held t.sent t.halt some turn.turns turn.whole (first_none t ts none) here in
    let all = all_idle g keeps_events may_stop hs ts some rest (later_none t ts none) there in
    (both_nil t.held.queue (tokens_in (helds ts)) one.0 all.0, both_nil t.sent (all_sent ts) one.1 all.1)

-- a turn by depth in which no event was made
depth_idle : (p : Program) (steps turn ordinary : ℕ) (may_stop : Bool) (old : Holding) (taken : List Token) (new : Holding) (sent : List Token) (halt : Option Halt) → 0 < turn
    → TurnsByDepth p steps turn ordinary may_stop old [] taken new sent halt → IsWholeByDepth turn old new halt → halt ≡ None → taken ≡ []
    → (held_back old.queue ≡ length old.queue → ordinary ≡ 0) → (new.queue ≡ []) × (sent ≡ []) × (new ≡ old)
depth_idle p steps turn ordinary may_stop old taken new sent (Some halt) some turns whole none same few = absurd (let no : ⊥ = cc in no)
depth_idle p steps turn ordinary may_stop old taken new sent None some turns whole none same few = by_whole whole
  where
    nothing : (turns.granted ≡ []) × (turns.later ≡ [])
    nothing = (nothing_before turns.granted turns.later (sym turns.all ∙ same), nothing_after turns.granted turns.later (sym turns.all ∙ same))

    first : (turns.mid ≡ old) × (turns.sent ≡ [])
    first = subst (λ (us : List Token). Takes (MayGrant ordinary) p steps 0 old [] us turns.mid turns.sent) nothing.0 turns.grants

    last : (new ≡ turns.mid) × (sent ≡ turns.sent)
    last = subst (λ (us : List Token). Takes MayTake p steps 0 turns.mid turns.sent us new sent) nothing.1 turns.takes

    stays : new ≡ old
    stays = last.0 ∙ first.0

    made : new.made ≡ old.made
    made = ap (λ (h : Holding). h.made) stays

    by_order : held_back new.queue ≡ length new.queue
        → (GrantsNone (ordinary + length turns.granted) turns.mid × HaltsTaking (MayTake 0) p steps may_stop new None)
        ⊎ ((turns.later ≡ []) × EndsGranting (MayGrant ordinary (length turns.granted)) p steps turn may_stop old new None) → length new.queue ≡ 0
    by_order held (inr ends) = let e : new.made ≡ old.made + turn = ends.1 in absurd (omega (arith, e, made, some))
    by_order held (inl (inl free, goes)) =
        let e : held_back new.queue ≡ held_back turns.mid.queue = ap (λ (h : Holding). held_back h.queue) last.0 in
        omega (arith, e, free, held)
    by_order held (inl (inr many, goes)) =
        let all : held_back old.queue ≡ length old.queue = subst (λ (h : Holding). held_back h.queue ≡ length h.queue) stays held in
        let none_granted : length turns.granted ≡ 0 = ap (λ (l : List Token). length l) nothing.0 in
        let zero_is = few all in
        let left : ordinary + length turns.granted ≡ 0 = omega (arith, zero_is, none_granted) in
        absurd (many (inl left))

    by_whole : IsWholeByDepth turn old new None → (new.queue ≡ []) × (sent ≡ []) × (new ≡ old)
    by_whole (inl all) = absurd (omega (arith, all, made, some))
    by_whole (inr held) = (nil_from_length new.queue (by_order held turns.ended), last.1 ∙ first.1, stays)

-- how many other tokens there are, where element 0 has none and the others have none
none_besides : (h : Holding) (hs : List Holding) → tokens_in hs ≡ [] → held_back h.queue ≡ length h.queue → depth.others (h ∷ hs) ≡ 0
none_besides h hs none held =
    let l : length (tokens_in hs) ≡ 0 = ap (λ (l : List Token). length l) none in
    omega (arith, l, held)

depth_all_idle : (g : Setting) (keeps_events may_stop : Bool) (olds : List Holding) (ts : List Turned) → 0 < g.turn
    → RoundTaking Depth g keeps_events may_stop olds ts → NoneHalts (answers ts) → total (helds ts) ≤ total olds
    → (tokens_in (helds ts) ≡ []) × (all_sent ts ≡ [])
depth_all_idle g keeps_events may_stop [] [] some round none few = (refl, refl)
depth_all_idle g keeps_events may_stop [] (t ∷ ts) some round none few = absurd round
depth_all_idle g keeps_events may_stop (h ∷ hs) [] some round none few = absurd round
depth_all_idle g keeps_events may_stop (h ∷ hs) (t ∷ ts) some (turn, rest) none few =
    let ordinary = depth.others (h ∷ hs) in
    let any = depth_any g.program g.steps g.turn ordinary may_stop h [] turn.taken t.held t.sent t.halt turn.turns in
    let e = grown_any Any g.program g.steps 0 h [] turn.taken t.held t.sent any in
    let l = never_less g keeps_events may_stop hs ts rest in
    let nothing : turn.taken ≡ [] = nil_from_length turn.taken (omega (arith, e, l, few)) in
    let there : total (helds ts) ≤ total hs = omega (arith, e, l, few) in
    let all = all_idle g keeps_events may_stop hs ts some rest (later_none t ts none) there in
    let before : tokens_in hs ≡ [] = ap (λ (l : List Holding). tokens_in l) (sym (same_idle g keeps_events may_stop hs ts rest there)) ∙ all.0 in
    let one = depth_idle g.program g.steps g.turn ordinary may_stop h turn.taken t.held t.sent t.halt some turn.turns turn.whole (first_none t ts none) nothing
    (λ held. none_besides h hs before held) in
    (both_nil t.held.queue (tokens_in (helds ts)) one.0 all.0, both_nil t.sent (all_sent ts) one.1 all.1)

taking_idle : (order : Take) (g : Setting) (keeps_events may_stop : Bool) (olds : List Holding) (ts : List Turned) → 0 < g.turn
    → RoundTaking order g keeps_events may_stop olds ts → NoneHalts (answers ts) → total (helds ts) ≤ total olds
    → (tokens_in (helds ts) ≡ []) × (all_sent ts ≡ [])
taking_idle Oldest g keeps_events may_stop olds ts some round none few = all_idle g keeps_events may_stop olds ts some round none few
taking_idle Depth g keeps_events may_stop olds ts some round none few = depth_all_idle g keeps_events may_stop olds ts some round none few

-- A round after which the run goes on has an event.
round_more : (order : Take) (g : Setting) (may_stop : Bool) (old new : List Holding) (made : Events) → 0 < g.turn → MakesRound order g may_stop old new made None
    → total old < total new
round_more order g may_stop old new made some r = by_halts r.halts
  where
    same : total new ≡ total (helds r.turned)
    same = ap (λ (l : List Holding). total l) r.handed ∙ total_delivered (all_sent r.turned) (helds r.turned)

    by_halts : IsWhy new (answers r.turned) None ⊎ (None ≡ Some Halt.Memory) → total old < total new
    by_halts (inr memory) = absurd (let never : ⊥ = cc in never)
    by_halts (inl why) = by_count (cases_lt (total old) (total new))
      where
        by_count : (total old < total new) ⊎ (total new ≤ total old) → total old < total new
        by_count (inl more) = more
        by_count (inr few) =
            let low : total (helds r.turned) ≤ total old = omega (arith, same, few) in
            let idle = taking_idle order g r.keeps_events may_stop old r.turned some r.round why.0 low in
            let none : tokens_in new ≡ [] = ap (λ (l : List Holding). tokens_in l) (r.handed ∙ ap (λ (l : List Token). delivered l (helds r.turned))
            idle.1 ∙ delivered_none (helds r.turned)) ∙ idle.0 in
            let l : length (tokens_in new) ≡ 0 = ap (λ (l : List Token). length l) none in
            let has = why.1 in
            absurd (omega (arith, l, has))

pub rounds_few : (order : Take) (g : Setting) (may_stop : Bool) (n : ℕ) (old new : List Holding) (made : Events) → 0 < g.turn
    → MakesRounds order g may_stop n old new made None → n + total old ≤ total new
rounds_few order g may_stop zero old new made some (same, none, why) = let e = ap (λ (l : List Holding). total l) same in omega (arith, e)
rounds_few order g may_stop (suc n) old new made some (mid, before, now, earlier, last, is) =
    let a = rounds_few order g may_stop n old mid before some earlier in
    let b = round_more order g may_stop mid new now some last in
    omega (arith, a, b)

total_most : (g : Setting) (k : ℕ) (hs : List Holding) → g.steps ≤ 4294967296 → AllFrom (IsPlaced g) k hs → total hs ≤ length hs * 4294967296
total_most g k [] few all = omega arith
total_most g k (h ∷ hs) few all =
    let a = total_most g (suc k) hs few all.1 in
    let b = all.0.made in
    omega (arith, a, b, few)

-- Their number is small.
pub few_rounds : (order : Take) (g : Setting) (may_stop : Bool) (n : ℕ) (old new : List Holding) (made : Events) → IsSoundState (arriving g new [])
    → MakesRounds order g may_stop n old new made None → n < 2 ^ 37
few_rounds order g may_stop n old new made sound makes =
    let some = sound.setting.some_turn in
    let a = rounds_few order g may_stop n old new made some makes in
    let steps : g.steps ≤ 4294967296 = sound.setting.steps in
    let b = total_most g 0 (delivered [] new) steps sound.lanes in
    let c = total_delivered [] new in
    let d = sound.count in
    let e = sound.setting.few in
    omega (arith, a, b, c, d, e)

-- MORE ROUNDS
pub no_rounds : (order : Take) (g : Setting) (may_stop : Bool) (old : List Holding) → MakesRounds order g may_stop 0 old old [] None
no_rounds order g may_stop old = (refl, refl, refl)

pub one_round : (order : Take) (g : Setting) (may_stop : Bool) (old new : List Holding) (made : Events) (why : Option Halt) → MakesRound order g may_stop old new made why
    → MakesRounds order g may_stop 1 old new made why
one_round order g may_stop old new made why r = (old, [], made, (refl, refl, refl), r, refl)

pub makes_more : (order : Take) (g : Setting) (may_stop : Bool) (n : ℕ) (old mid new : List Holding) (before now : Events) (why : Option Halt)
    → MakesRounds order g may_stop n old mid before None → MakesRounds order g may_stop 1 mid new now why
    → MakesRounds order g may_stop (n + 1) old new (before ++ now) why
makes_more order g may_stop n old mid new before now why first (m, b, x, (e1, e2, e3), r, e4) =
    let events : x ≡ now = sym (e4 ∙ ap (λ (l : Events). l ++ x) e2) in
    let last : MakesRound order g may_stop mid new now why = subst (λ (l : List Holding). MakesRound order g may_stop l new now why) e1
    (subst (λ (l : Events). MakesRound order g may_stop m new l why) events r) in
    let next : n + 1 ≡ suc n = omega arith in
    subst (λ (k : ℕ). MakesRounds order g may_stop k old new (before ++ now) why) (sym next) (mid, before, now, first, last, refl)

-- THE REPORT
-- of a machine before its first round
pub reports_none : (order : Take) (keeps_events may_stop : Bool) (k : SoFar) (n : ℕ) (r : Report) → n ≡ 0 → IsReportOf k Halt.Memory r
    → ReportsTaking order keeps_events may_stop k n r
reports_none order keeps_events may_stop k n r zero_is reported = subst (λ (m : ℕ). ReportsTaking order keeps_events may_stop k m r) (sym zero_is) (record {
  last = k.state.lanes;
  made = [];
  halt = Halt.Memory;
  why = None;
  makes = no_rounds order k.state.setting may_stop k.state.lanes;
  halted = inr (refl, refl);
  reported = subst (λ (l : Events). IsReportOf (record { state = k.state; events = l }) Halt.Memory r) (same keeps_events) reported;
})
  where
    same : (b : Bool) → k.events ≡ logged b k.events []
    same true = sym (append-nil k.events)
    same false = refl

pub reports_opening : (order : Take) (keeps_events may_stop : Bool) (k : SoFar) (n : ℕ) (r : Report) → n ≡ 0 → r
    ≡ opening_picture (outputs_of k.state.setting.program) → ReportsTaking order keeps_events may_stop k n r
reports_opening order keeps_events may_stop k n r none is = reports_none order keeps_events may_stop k n r none (inl is)

-- of one whose run halted after this number of rounds
pub reports_rounds : (order : Take) (keeps_events may_stop : Bool) (g : Setting) (start raw : List Holding) (rest : List Token) (n : ℕ) (before after made : Events)
    (halt : Halt) (r : Report)
    → MakesRounds order g may_stop n start (delivered rest raw) made (Some halt) → after ≡ logged keeps_events before made
    → IsReportOf (record { state = record { setting = g; lanes = raw }; events = after }) halt r
    → ReportsTaking order keeps_events may_stop (record { state = record { setting = g; lanes = start }; events = before }) n r
reports_rounds order keeps_events may_stop g start raw rest n before after made halt r makes noted reported = record {
  last = delivered rest raw;
  made = made;
  halt = halt;
  why = Some halt;
  makes = makes;
  halted = inl refl;
  reported = subst (λ (l : Events). IsReportOf (record {
    state = arriving g raw rest;
    events =
        l;
  }) halt r) noted (reported_arriving g raw rest after halt r reported);
}
