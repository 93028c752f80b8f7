-- LOWERING WORD BY WORD. A machine goes over the words of a program once. What it does at a word is stated with the parts that
-- the lowering of trees is made of.
use Rattle.std.specs.Prelude.{ℕ, Bool, true, false, [], ◌∷◌}
use Rattle.semantics.specs.declared.graph.Kind.TheVariants as node
use Rattle.source.specs.declared.word.Word.{Word}
use Rattle.source.specs.declared.word.Word.TheVariants as word
use Rattle.source.specs.Tree.{Name, NameAt, Bind, Drop, Program}
use Rattle.source.specs.Words.{Words}
use Rattle.source.specs.Rules.{function_in}
use Rattle.source.specs.Evaluates.{signed}
use Rattle.source.specs.Lowered.{source_in, only, operator_of, operands, literal, call_kind, results_of}
use Rattle.lowering.specs.State.{after, noted, State, Header, FirstArm, Looping}
use Rattle.lowering.specs.Operators.{operated, as_they_are, prefix}
use Rattle.lowering.specs.Lists.{list_begun, called, dropped, given, let_begun, targeted, let_ended}
use Rattle.lowering.specs.Conditionals.{first_arm, second_arm, if_ended}
use Rattle.lowering.specs.Loops.{loop_begun, named_first, turn_begun, tested, loop_ended}
use Rattle.lowering.specs.Functions.{with_parameter, body_begun, function_ended}

abbrev pub name_at : ℕ → Name → NameAt
name_at at x = record { at = at; name = x }

-- WHAT THE MACHINE DOES at a word. `results` is how many results the function of a call has.
abbrev pub act_with : ℕ → Word Name → State → State
act_with results (word.Array at x) s = s
act_with results (word.Length at n) s = s
act_with results (word.Function at x) s = record s { frames = Header (name_at at x) [] ∷ s.frames }
act_with results (word.Parameter at x) s = with_parameter s (name_at at x) s.frames
act_with results (word.Results at n) s = s
act_with results (word.Body at) s = body_begun s s.frames
act_with results word.EndFunction s = function_ended s s.frames
act_with results (word.Number at n) s = after s (literal s.site s.spot at (node.Lit (signed n)))
act_with results (word.Name at x) s = after s (only (source_in s.scope x ∷ []))
act_with results word.Bracket s = s
act_with results (word.Prefix at op) s = prefix s at op s.number
act_with results word.Left s = s
act_with results (word.Infix at sign) s = operated s at (node.Apply2 (operator_of sign)) 2 (operands sign)
act_with results (word.Cell at a) s = s
act_with results (word.Fetch at a) s = operated s at (node.Fetch a) 1 as_they_are
act_with results word.Index s = s
act_with results (word.Store at a) s = operated s at (node.Store a) 2 as_they_are
act_with results (word.Callee at f) s = s
act_with results (word.Call at strict f) s = called s at (call_kind strict f) results s.frames
act_with results word.Then s = first_arm s FirstArm s.plans
act_with results word.Else s = second_arm s s.plans s.frames
act_with results (word.EndIf at) s = if_ended s at s.frames
act_with results (word.Loop at) s = loop_begun s at s.plans
act_with results (word.Bound at n) s = s
act_with results (word.Start at x) s = named_first s (name_at at x) s.frames
act_with results word.First s = s
act_with results word.TestFirst s = turn_begun s s.frames
act_with results word.While s = first_arm s Looping s.plans
act_with results word.BodyFirst s = turn_begun s s.frames
act_with results word.Until s = tested s s.frames
act_with results (word.EndLoop at bound) s = loop_ended s at bound s.frames
act_with results word.List s = list_begun s
act_with results word.Part s = s
act_with results (word.Let at) s = let_begun s
act_with results (word.Bind at x) s = targeted s (Bind (name_at at x)) s.frames
act_with results word.Drop s = targeted s Drop s.frames
act_with results (word.EndLet at) s = let_ended s s.frames
act_with results word.Do s = dropped s s.frames
act_with results word.Give s = given s s.frames
act_with results word.Chain s = s

abbrev pub called_results : Program → Word Name → ℕ
called_results p (word.Call at strict f) = results_of (function_in p f)
called_results p w = 0

abbrev pub act : Program → Word Name → State → State
act p w s = act_with (called_results p w) w s

abbrev pub is_number : Word Name → Bool
is_number (word.Number at n) = true
is_number w = false

abbrev pub run : Program → State → Words → State
run p s [] = s
run p s (w ∷ ws) = run p (noted (is_number w) (act p w s)) ws
