-- Worked examples of the meaning: what each kind of activity does, at one graph that has every kind of node.
use Rattle.std.proofs.Common.{◌≡◌, refl, pos, negsuc, [], ◌∷◌, Some, None}
use Rattle.tags.specs.declared.value.Value.{Value}
use Rattle.tags.specs.declared.value.Value.TheVariants.{Int, Fault}
use Rattle.tags.specs.declared.value.FaultKind.TheVariants.{Zero, Range}
use Rattle.tags.specs.declared.value.Origin.TheVariants.{Untold, At}
use Rattle.operators.specs.declared.Unary.TheVariants as U
use Rattle.operators.specs.declared.Binary.TheVariants as B
use Rattle.semantics.specs.declared.graph.Kind.TheVariants.{Lit, Apply1, Apply2, Cond, Enter, Merge, Fetch, Store, Call, StrictCall, Loop}
use Rattle.semantics.specs.Graph.{Flow}
use Rattle.semantics.specs.Meaning.{Main, Called, Turned, AtNode, AtOut, AtTurn, Operand, Predicate, Flag, Carried, tagged, Memory, with_cell}
use Rattle.semantics.specs.Meaning.{with_output, Fires, Gates, Passes, Returns, Turns, Outputs, taken, adds, Sends, Steers, Enters, Nothing}
use Rattle.semantics.specs.Meaning.{tokens_of, Says, deed, effect}
use Rattle.semantics.proofs.Interpreter.{one, two, root, yes, no, block, flow, src}

-- Block 0 gives its second input. Block 1 is a loop's body of two values. Block 2 is main.
abbrev every_kind : Flow
every_kind = flow 2 (3 ∷ 5 ∷ []) (block 2 1 [] (one 1) ∷ block 2 3 [] (src 0 0 ∷ src 1 0 ∷ src 0 0 ∷ [])
    ∷ block 2 1 (root (Lit (pos 7)) (one 0) ∷ root (Apply1 U.Neg) (one 1) ∷ root (Apply2 B.Sub) (two 0 1) ∷ root Cond (one 4) ∷ yes 5 Enter (one 2)
    ∷ no 5 Enter (one 3) ∷ root (Merge 5) (two 6 7)
    ∷ root (Fetch 1) (one 2) ∷ root (Store 1) (two 1 3) ∷ root (Call 0) (two 0 1) ∷ root (StrictCall 0) (two 0 1) ∷ root (Loop 1 2) (two 0 1) ∷ [])
    (one 8) ∷ []) 2

abbrev nothing_yet : Memory
nothing_yet = record { cells = λ x. None; outputs = λ j. None }

-- SENDING. There is one token for each use of an output port: here at the literal, the operator, the call, the strict
-- call and the loop
sends_to_each_use : (v : Value) → tokens_of every_kind (Sends Main 0 0 v)
    ≡ tagged Main (AtNode 2) (Operand 0) v ∷ tagged Main (AtNode 4) (Operand 0) v ∷ tagged Main (AtNode 11) (Operand 0) v
    ∷ tagged Main (AtNode 12) (Operand 0) v ∷ tagged Main (AtNode 13) (Operand 0) v ∷ []
sends_to_each_use v = refl

-- a result of main or of a call is a use at that result
result_of_call : (v : Value) → tokens_of every_kind (Sends (Called Main 11) 1 0 v) ≡ tagged (Called Main 11) (AtOut 0) (Operand 0) v ∷ []
result_of_call v = refl

-- in an iteration, result 0 is the flag of each turn, and any other is the value of its own turn: input 0 is used as the
-- flag and as the second value
results_of_iteration : (v : Value) → tokens_of every_kind (Sends (Turned Main 13 4) 0 0 v)
    ≡ tagged (Turned Main 13 4) (AtTurn 1) Flag v ∷ tagged (Turned Main 13 4) (AtTurn 2) Flag v ∷ tagged (Turned Main 13 4) (AtTurn 2) Carried v ∷ []
results_of_iteration v = refl

-- a conditional sends its predicate to each `enter` of its arms
tells_each_enter : (v : Value) → tokens_of every_kind (Steers Main 5 v) ≡ tagged Main (AtNode 6) Predicate v ∷ tagged Main (AtNode 7) Predicate v ∷ []
tells_each_enter v = refl

-- NODES
input : (v : Value) → deed every_kind (Fires Main 1 (v ∷ [])) ≡ Some (Says (Sends Main 1 0 v))
input v = refl

-- a literal is sent when its operand arrives, whatever that is
literal : (v : Value) → deed every_kind (Fires Main 2 (v ∷ [])) ≡ Some (Says (Sends Main 2 0 (Int (pos 7))))
literal v = refl

-- minus 4
one_operand : deed every_kind (Fires Main 3 (Int (pos 4) ∷ [])) ≡ Some (Says (Sends Main 3 0 (Int (negsuc 3))))
one_operand = refl

-- the first operand is the left one
two_operands : deed every_kind (Fires Main 4 (Int (pos 9) ∷ Int (pos 4) ∷ [])) ≡ Some (Says (Sends Main 4 0 (Int (pos 5))))
two_operands = refl

-- an operator does not fire with one of its two operands
one_is_missing : (v : Value) → deed every_kind (Fires Main 4 (v ∷ [])) ≡ None
one_is_missing v = refl

-- a conditional sends the value that it takes to its arms
conditional : (v : Value) → deed every_kind (Fires Main 5 (v ∷ [])) ≡ Some (Says (Steers Main 5 v))
conditional v = refl

-- an `enter` of the true side passes its value when the predicate is true, and else absorbs it
enter_taken : (v : Value) → deed every_kind (Gates Main 6 v (Int (pos 2))) ≡ Some (Says (Sends Main 6 0 v))
enter_taken v = refl

-- a false predicate: the value is absorbed
enter_not_taken : (v : Value) → deed every_kind (Gates Main 6 v (Int (pos 0))) ≡ Some (Says Nothing)
enter_not_taken v = refl

-- one of the false side the other way round; a fault is false
enter_false_side : (v : Value) → deed every_kind (Gates Main 7 v (Int (pos 2))) ≡ Some (Says Nothing)
enter_false_side v = refl

-- a faulty predicate takes the false side
enter_by_fault : (v : Value) → deed every_kind (Gates Main 7 v (Fault Range (At 0 1))) ≡ Some (Says (Sends Main 7 0 v))
enter_by_fault v = refl

-- an `enter` takes its value together with its predicate
enter_takes : (v b : Value) → taken (Gates Main 6 v b) ≡ tagged Main (AtNode 6) (Operand 0) v ∷ tagged Main (AtNode 6) Predicate b ∷ []
enter_takes v b = refl

-- a merge passes on what arrives at either port
merge : (v : Value) → deed every_kind (Passes Main 8 1 v) ≡ Some (Says (Sends Main 8 0 v))
merge v = refl

-- CELLS are numbered through: cell 2 of the second array is cell 5
fetch_of_empty : effect every_kind nothing_yet (Fires Main 9 (Int (pos 2) ∷ [])) ≡ None
fetch_of_empty = refl

-- a full cell is read, and stays
fetch_of_full : (v : Value) → effect every_kind (with_cell nothing_yet 5 v) (Fires Main 9 (Int (pos 2) ∷ []))
    ≡ adds (tokens_of every_kind (Sends Main 9 0 v)) (with_cell nothing_yet 5 v)
fetch_of_full v = refl

-- an index outside the array is a fault of this node
fetch_outside : deed every_kind (Fires Main 9 (Int (pos 5) ∷ [])) ≡ Some (Says (Sends Main 9 0 (Fault Range (At 2 9))))
fetch_outside = refl

-- a faulty index is the result, with its own origin
fetch_by_fault : deed every_kind (Fires Main 9 (Fault Zero Untold ∷ [])) ≡ Some (Says (Sends Main 9 0 (Fault Zero Untold)))
fetch_by_fault = refl

-- a store fills its cell and gives the value back
store_in_empty : (v : Value) → effect every_kind nothing_yet (Fires Main 10 (Int (pos 2) ∷ v ∷ [])) ≡ adds (tokens_of every_kind (Sends Main 10 0 v))
    (with_cell nothing_yet 5 v)
store_in_empty v = refl

-- a second store has no activity
store_in_full : (v w : Value) → effect every_kind (with_cell nothing_yet 5 w) (Fires Main 10 (Int (pos 2) ∷ v ∷ [])) ≡ None
store_in_full v w = refl

-- a bad index leaves all cells alone
store_outside : (v : Value) → deed every_kind (Fires Main 10 (Int (negsuc 0) ∷ v ∷ [])) ≡ Some (Says (Sends Main 10 0 (Fault Range (At 2 10))))
store_outside v = refl

-- CALLS. Each argument goes by itself
call : (v : Value) → deed every_kind (Passes Main 11 1 v) ≡ Some (Says (Enters (Called Main 11) 1 (v ∷ [])))
call v = refl

-- the argument is the input of that number
call_enters : (v : Value) → tokens_of every_kind (Enters (Called Main 11) 1 (v ∷ [])) ≡ tagged (Called Main 11) (AtNode 1) (Operand 0) v ∷ []
call_enters v = refl

-- and of a strict call all at once
strict_call : (v w : Value) → deed every_kind (Fires Main 12 (v ∷ w ∷ [])) ≡ Some (Says (Enters (Called Main 12) 0 (v ∷ w ∷ [])))
strict_call v w = refl

-- one argument alone does nothing
strict_call_alone : (v : Value) → deed every_kind (Passes Main 12 1 v) ≡ None
strict_call_alone v = refl

-- a result is returned at the call's output port
return : (v : Value) → deed every_kind (Returns Main 11 0 v) ≡ Some (Says (Sends Main 11 0 v))
return v = refl

-- LOOPS
loop_entry : (v : Value) → deed every_kind (Passes Main 13 1 v) ≡ Some (Says (Enters (Turned Main 13 0) 1 (v ∷ [])))
loop_entry v = refl

-- a true flag takes value 2 to input 1 of the next iteration, and a false one to output 1 of the loop
turn_on : (v : Value) → deed every_kind (Turns Main 13 4 2 (Int (pos 1)) v) ≡ Some (Says (Enters (Turned Main 13 5) 1 (v ∷ [])))
turn_on v = refl

-- a false flag: the value leaves the loop
turn_out : (v : Value) → deed every_kind (Turns Main 13 4 2 (Int (pos 0)) v) ≡ Some (Says (Sends Main 13 1 v))
turn_out v = refl

-- OUTPUT
output : (v : Value) → effect every_kind nothing_yet (Outputs 0 v) ≡ adds [] (with_output nothing_yet 0 v)
output v = refl
