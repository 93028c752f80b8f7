-- WHAT THE MACHINE SAYS OF A PART: over its words it does what the lowering of the tree says, and takes the plans of the part.
use Rattle.std.proofs.Common.{◌≡◌, Bool, true, false, List, ◌∷◌, ◌++◌}
use Rattle.source.specs.Tree.{NameAt, Expr, Number, Exprs, Body, Program}
use Rattle.source.specs.Words.{words, part_words, first_words, body_words}
use Rattle.source.specs.Lowered.{Scope, lower, lower_list, lower_body}
use Rattle.lowering.specs.Plans.{Plan, plans, list_plans, body_plans}
use Rattle.lowering.specs.State.{State, Frame, Firsts, Begun, after, planned, noted}
use Rattle.lowering.specs.Machine.{run}

abbrev pub is_numeral : Expr → Bool
is_numeral (Number at n) = true
is_numeral e = false

abbrev pub Says : Program → Expr → Type 0
Says p e = (s : State) (ps : List Plan)
    → run p (planned s (plans e ++ ps)) (words e) ≡ noted (is_numeral e) (planned (after s (lower p s.site s.spot s.scope e)) ps)

abbrev pub SaysAll : Program → Exprs → Type 0
SaysAll p es = (s : State) (ps : List Plan)
    → run p (planned s (list_plans es ++ ps)) (part_words es) ≡ noted false (planned (after s (lower_list p s.site s.spot s.scope es)) ps)

-- the scope at a body's end is that of its last `let`, and ends with it
abbrev pub SaysBody : Program → Body → Type 0
SaysBody p b = (s : State) (ps : List Plan)
    → (scope : Scope) × (run p (planned s (body_plans b ++ ps)) (body_words b)
    ≡ record (after s (lower_body p s.site s.spot s.scope b)) { scope = scope; plans = ps; number = false })

abbrev pub with_names : Begun → List NameAt → Begun
with_names b xs = record { at = b.at; outer = b.outer; names = b.names ++ xs; outs = b.outs }

abbrev pub SaysFirsts : Program → List NameAt → Exprs → Type 0
SaysFirsts p xs es = (s : State) (b : Begun) (fs : List Frame) (ps : List Plan)
    → run p (record s { plans = list_plans es ++ ps; frames = Firsts b ∷ fs }) (first_words xs es)
    ≡ record (after s (lower_list p s.site s.spot s.scope es)) { plans = ps; frames = Firsts (with_names b xs) ∷ fs; number = false }
