-- The machine on loops.
use Rattle.std.proofs.Common.{◌≡◌, ℕ, ◌+◌, false, List, [], ◌∷◌, ◌++◌, length, map, refl, ◌∙◌, arith, append_assoc, append-nil, length-append}
use Rattle.semantics.specs.declared.graph.Source.{Source}
use Rattle.semantics.specs.declared.graph.Kind.TheVariants as node
use Rattle.source.specs.declared.word.Word.TheVariants as word
use Rattle.source.specs.Tree.{Name, NameAt, NumberAt, Expr, Loop, Exprs, Body, Turn, Before, After, Program, names_of}
use Rattle.source.specs.Words.{words, body_words, first_words, turn_words}
use Rattle.source.specs.Outside.{outside_body, outside_turn, bare}
use Rattle.source.specs.Lowered.{Made, MadeBlock, Lowered, Spot, lower, lower_list, lower_body, lower_turn, spot_after, joined, arm_site}
use Rattle.source.specs.Lowered.{entered_names, first_of, merges, chosen, made, ports_from, source_in, loop_name, turn_block, turn_scope, turn_site}
use Rattle.source.specs.Lowered.{scoped, looped}
use Rattle.lowering.specs.Counts.{many, Counted}
use Rattle.lowering.specs.Plans.{Plan, plan, plans, list_plans, body_plans, turn_plans}
use Rattle.lowering.specs.State.{State, Begun, Arms, Frame, Firsts, Turned, Looping, Ending, after, planned, noted}
use Rattle.lowering.specs.Loops.{loop_ended, turning}
use Rattle.lowering.specs.Machine.{run}
use Rattle.lowering.proofs.Algebra.{and_then, both_plans, alike}
use Rattle.lowering.proofs.HowMany.{so_many}
use Rattle.lowering.proofs.Says.{Says, SaysBody, SaysFirsts, is_numeral}
use Rattle.lowering.proofs.ArmsSaid.{first_arm_says, first_arm_of, in_first_arm, the_arms}

-- after a loop whose turn had so many loops, nodes, results and blocks
abbrev pub shut : State → Begun → ℕ → ℕ → List Frame → List Plan → ℕ → List Made → List Source → List MadeBlock → State
shut s b at bound fs ps loops nodes sources blocks = record s {
  spot = record { next = s.spot.next + 1; loops = loops };
  sources = b.outer ++ ports_from s.spot.next 0 (length (bare b.names));
  number = false;
  nodes = s.nodes ++ made s.site at (node.Loop (loop_name s.site.function (s.spot.loops + 1)) bound) (s.sources ++ map (source_in s.scope) b.outs) ∷ [];
  blocks = s.blocks ++ turn_block b.at (s.spot.loops + 1) (bare b.names) b.outs (record { nodes = nodes; sources = sources; blocks = [] }) ∷ blocks;
  plans = ps;
  frames = fs;
}

shut_alike : (s : State) (b : Begun) (at bound : ℕ) (fs : List Frame) (ps : List Plan)
    (k l : ℕ) (ms ns : List Made) (ss ts : List Source) (bs cs : List MadeBlock)
    → k ≡ l → ms ≡ ns → ss ≡ ts → bs ≡ cs → shut s b at bound fs ps k ms ss bs ≡ shut s b at bound fs ps l ns ts cs
shut_alike s b at bound fs ps k l ms ns ss ts bs cs e f g h = cc

abbrev pub behind : State → Begun → ℕ → ℕ → List Frame → List Plan → Lowered → State
behind s b at bound fs ps t = shut s b at bound fs ps (s.spot.loops + 1 + length t.blocks) t.nodes t.sources t.blocks

-- what a turn is lowered to, where its first values have been
abbrev pub turn_of : Program → State → Begun → Turn → Lowered
turn_of p s b turn =
    lower_turn p s.site.function (record { next = length (bare b.names) + length b.outs; loops = s.spot.loops + 1 }) b.at
    (turn_scope (bare b.names) b.outs) turn

abbrev pub SaysTurn : Program → Turn → Type 0
SaysTurn p turn = (s : State) (at : ℕ) (outer : List Source) (outs : List Name) (fs : List Frame) (ps : List Plan)
    → let b : Begun = record { at = at; outer = outer; names = names_of turn; outs = outs } in
    (t : State) × (run p (record s { plans = turn_plans at turn ++ ps; frames = Firsts b ∷ fs }) (turn_words turn) ≡ t)
    × ((place bound : ℕ) → noted false (loop_ended t place bound t.frames) ≡ behind s b place bound fs ps (turn_of p s b turn))

-- within a turn
abbrev pub inside : State → Begun → List Frame → State
inside s b fs = record s {
  site = turn_site s.site.function;
  spot = record { next = length (bare b.names) + length b.outs; loops = s.spot.loops + 1 };
  scope = turn_scope (bare b.names) b.outs;
  sources = [];
  number = false;
  nodes = [];
  blocks = [];
  frames = Turned (turning s b) ∷ fs;
}

pub before_says : (p : Program) (xs : List NameAt) (q : Expr) (body : Body) → Says p q → Counted p q → many p q ≡ 1 → SaysBody p body
    → SaysTurn p (Before xs q body)
before_says p xs q body ih counted one jh s at outer outs fs ps =
    let b : Begun = record { at = at; outer = outer; names = xs; outs = outs } in
    let t : State = inside s b fs in
    let c : Lowered = lower p t.site t.spot t.scope q in
    let arms : Arms = the_arms t c in
    let k : Spot = spot_after t.spot c in
    let first = first_arm_says p body jh (noted (is_numeral q) t) c Looping at ps (so_many p t.site t.spot t.scope q counted ∙ one) in
    let a : Lowered = first_arm_of p t c at body in
    let u : State = in_first_arm p t c at body Looping first.0 ps in
    let e : Lowered = entered_names (arm_site t.site k.next false u.spot) u.spot at t.scope (first_of c.sources) (bare xs) in
    let ms : List Made = merges t.site at k.next a.sources e.sources in
    let cond : Made = made t.site at node.Cond c.sources in
    let all : Lowered = joined c (chosen t.site k at c.sources a e) in (
      u,
      both_plans p (record s { frames = Firsts b ∷ fs }) _ (plans q) (plan at (outside_body body) ∷ body_plans body) ps (turn_words (Before xs q body))
          (and_then p (record s { plans = plans q ++ (plan at (outside_body body) ∷ (body_plans body ++ ps)); frames = Firsts b ∷ fs }) _ _
          (word.TestFirst ∷ words q) (word.While ∷ body_words body)
          (ih t (plan at (outside_body body) ∷ (body_plans body ++ ps))) first.1),
      λ place bound. shut_alike s b place bound fs ps _ _ (((((c.nodes) ++ cond ∷ []) ++ a.nodes) ++ e.nodes) ++ ms) all.nodes _ all.sources _ all.blocks
          (omega (arith, length-append c.blocks (a.blocks ++ []), length-append a.blocks []))
          (simp append_assoc) refl (simp (append_assoc, append-nil)),
    )

pub after_says : (p : Program) (xs : List NameAt) (q : Expr) (body : Body) → Says p q → SaysBody p body → SaysTurn p (After xs body q)
after_says p xs q body ih jh s at outer outs fs ps =
    let b : Begun = record { at = at; outer = outer; names = xs; outs = outs } in
    let t : State = inside s b fs in
    let l : Lowered = lower_body p t.site t.spot t.scope body in
    let first = jh t (plans q ++ ps) in
    let u : State = record (after t l) {
      scope = scoped (bare xs) l.sources (turn_scope (bare xs) outs);
      sources = [];
      number = false;
      frames = Ending l.sources ∷ Turned (turning s b) ∷ fs;
    } in
    let c : Lowered = lower p u.site u.spot u.scope q in (
      noted (is_numeral q) (planned (after u c) ps),
      both_plans p (record s { frames = Firsts b ∷ fs }) _ (body_plans body) (plans q) ps (turn_words (After xs body q))
          (and_then p (record s { plans = body_plans body ++ (plans q ++ ps); frames = Firsts b ∷ fs }) _ _ (word.BodyFirst ∷ body_words body)
          (word.Until ∷ words q) first.1 (ih u ps)),
      λ place bound. shut_alike s b place bound fs ps _ _ _ _ _ _ _ _ (omega (arith, length-append l.blocks c.blocks)) refl refl refl,
    )

pub loop_says : (p : Program) (at : ℕ) (bound : NumberAt) (firsts : Exprs) (turn : Turn) → SaysFirsts p (names_of turn) firsts → SaysTurn p turn
    → Says p (Loop at bound firsts turn)
loop_says p at bound firsts turn ih jh s ps =
    let outs : List Name = outside_turn turn in
    let xs : List Name = bare (names_of turn) in
    let begun : Begun = record { at = at; outer = s.sources; names = []; outs = outs } in
    let b : Begun = record { at = at; outer = s.sources; names = names_of turn; outs = outs } in
    let f : Lowered = lower_list p s.site s.spot s.scope firsts in
    let t : State = record (after s f) { sources = f.sources; number = false; frames = Firsts b ∷ s.frames } in
    let rest = jh t at s.sources outs s.frames ps in
    let v : Lowered = turn_of p t b turn in
    let all : Lowered = looped s.site s.spot s.scope at bound.number xs outs f v in
    let m : Made = made s.site at (node.Loop (loop_name s.site.function (t.spot.loops + 1)) bound.number) (f.sources ++ map (source_in s.scope) outs) in
    let w : MadeBlock = turn_block at (t.spot.loops + 1) xs outs v in
    let start : State = planned s (plan at outs ∷ (list_plans firsts ++ (turn_plans at turn ++ ps))) in
    both_plans p s _ (plan at outs ∷ list_plans firsts) (turn_plans at turn) ps (words (Loop at bound firsts turn))
    (and_then p start rest.0 _ (word.Loop at ∷ word.Bound bound.at bound.number ∷ first_words (names_of turn) firsts ++ turn_words turn)
    (word.EndLoop at bound.number ∷ [])
    (and_then p start (planned t (turn_plans at turn ++ ps)) _ (word.Loop at ∷ word.Bound bound.at bound.number ∷ first_words (names_of turn) firsts)
    (turn_words turn)
    (ih (record s { sources = []; number = false }) begun s.frames (turn_plans at turn ++ ps)) rest.1)
    (rest.2 at bound.number ∙ alike (record s { plans = ps; number = false }) _ _ _ _ _ _ ((s.nodes ++ f.nodes) ++ m ∷ []) (s.nodes ++ all.nodes)
    ((s.blocks ++ f.blocks) ++ w ∷ v.blocks) (s.blocks ++ all.blocks)
    (omega (arith, length-append f.nodes (m ∷ []))) (omega (arith, length-append f.blocks (w ∷ v.blocks)))
    refl (append_assoc s.nodes f.nodes (m ∷ [])) (append_assoc s.blocks f.blocks (w ∷ v.blocks))))
