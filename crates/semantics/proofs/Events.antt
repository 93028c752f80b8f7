-- Worked examples of the machine: what an event does to cells, frames and outputs.
use Rattle.std.proofs.Common.{◌≡◌, refl, ℕ, true, false, ap, subst, pos, List, [], ◌∷◌, inl, inr, arith}
use Rattle.std.proofs.lemmas.List.Sorted.{IsPermutation-refl}
use Rattle.tags.specs.Addresses.{element_of}
use Rattle.tags.specs.declared.value.Value.{Value}
use Rattle.tags.specs.declared.value.Value.TheVariants.{Int}
use Rattle.tags.specs.declared.token.Port.{Port}
use Rattle.tags.specs.declared.token.Port.TheVariants.{Left, Right}
use Rattle.tags.specs.declared.token.Cont.{Cont}
use Rattle.tags.specs.declared.token.Word.{Word}
use Rattle.tags.specs.declared.token.To.{To}
use Rattle.tags.specs.declared.token.Token.{Token}
use Rattle.semantics.specs.declared.program.Op.TheVariants.{Copy}
use Rattle.semantics.specs.Program.{Program}
use Rattle.semantics.specs.Rule.{token}
use Rattle.semantics.specs.Machine.{Store, Full, Deferred, with_cell, with_out, with_requests, with_output, with_done, at_start, Happens}
use Rattle.semantics.specs.Handed.{handed_by}
use Rattle.semantics.proofs.Emulator.{instr, none, one_block}

abbrev code : Program
code = one_block 1 1 0 (instr Copy 0 none none ∷ instr Copy 0 none none ∷ [])

-- two frames in all; frame 0 is out
abbrev begun : Store
begun = (at_start code (pos 4 ∷ [])).store

abbrev Does : Store → To → Word → List Token → Store → Type 0
Does old to w made new = Happens code 2 old to w made new

abbrev first : Cont
first = Cont.Frame 0 7 Left

abbrev second : Cont
second = Cont.Frame 1 8 Right

abbrev third : Cont
third = Cont.Frame 0 9 Left

-- START. Main's first instruction takes the continuation of the host, and the next one the input
start_tokens : (at_start code (pos 4 ∷ [])).pool ≡ token (To.Instr 0 0 Left) (Word.Back (Cont.Host 0)) ∷ token (To.Instr 0 1 Left) (Word.Val (Int (pos 4))) ∷ []
start_tokens = refl

-- CELLS. A fetch of an empty cell waits, and one of a full cell is answered
fetch_waits : Does begun (To.Fetch 5) (Word.Back first) [] (with_cell begun 5 (Deferred (first ∷ [])))
fetch_waits = (refl, refl)

-- a second reader waits after the first one
next_fetch_waits_behind : Does (with_cell begun 5 (Deferred (first ∷ []))) (To.Fetch 5) (Word.Back second) []
    (with_cell (with_cell begun 5 (Deferred (first ∷ []))) 5 (Deferred (first ∷ second ∷ [])))
next_fetch_waits_behind = (refl, refl)

-- a full cell answers at once
fetch_of_full : (v : Value) → Does (with_cell begun 5 (Full v)) (To.Fetch 5) (Word.Back second) (token (To.Instr 1 8 Right) (Word.Val v) ∷ [])
    (with_cell begun 5 (Full v))
fetch_of_full v = (refl, refl)

-- a store answers both readers, in the order in which they arrived, and then the storer
store_answers_two : (v : Value) → Does (with_cell begun 5 (Deferred (first ∷ second ∷ []))) (To.Store 5 v) (Word.Back third)
    (token (To.Instr 0 7 Left) (Word.Val v) ∷ token (To.Instr 1 8 Right) (Word.Val v) ∷ token (To.Instr 0 9 Left) (Word.Val v) ∷ [])
    (with_cell (with_cell begun 5 (Deferred (first ∷ second ∷ []))) 5 (Full v))
store_answers_two v = (refl, refl)

-- without a reader the storer alone is answered
store_of_vacant : (v : Value) → Does begun (To.Store 5 v) (Word.Back third) (token (To.Instr 0 9 Left) (Word.Val v) ∷ []) (with_cell begun 5 (Full v))
store_of_vacant v = (refl, refl)

-- no event takes a second store, whatever it would make and leave
second_store : (v w : Value) (made : List Token) (new : Store) → Does (with_cell begun 5 (Full w)) (To.Store 5 v) (Word.Back third) made new → ⊥
second_store v w made new does = does

-- FRAMES. A request gets a free frame
request_answered : Does begun To.Manager (Word.Back second) (token (To.Instr 1 8 Right) (Word.Frame 1) ∷ []) (with_out begun 1 true)
request_answered = inl (1, omega arith, refl, refl, refl)

-- and never one that is out
out_is_not_answered : (new : Store) → Does (with_out begun 1 true) To.Manager (Word.Back second) (token (To.Instr 1 8 Right) (Word.Frame 1) ∷ []) new → ⊥
out_is_not_answered new does = elim does [ inl h ↦ taken h.0 h.2 h.3 | inr h ↦ cc ]
  where
    taken : (f : ℕ) → (with_out begun 1 true).out f ≡ false → token (To.Instr 1 8 Right) (Word.Frame 1) ∷ []
        ≡ token (To.Instr 1 8 Right) (Word.Frame f) ∷ [] → ⊥
    taken f free same =
        let frames : 1 ∷ [] ≡ f ∷ [] = ap (λ (ts : List Token). handed_by To.Manager ts) same in
        let one : f ≡ 1 = cc in
        let both : true ≡ false = subst (λ (g : ℕ). (with_out begun 1 true).out g ≡ false) one free in
        cc

-- a release frees the frame where no request waits
release_frees : (w : Word) → Does begun (To.Release 0) w [] (with_out begun 0 false)
release_frees w = (refl, inl (refl, refl, refl))

-- and else gives it to one that waits, any of them
release_serves : (w : Word) → Does (with_requests begun (first ∷ [])) (To.Release 0) w (token (To.Instr 0 7 Left) (Word.Frame 0) ∷ [])
    (with_requests (with_requests begun (first ∷ [])) [])
release_serves w = (refl, inr (first, [], IsPermutation-refl (first ∷ []), refl, refl))

-- THE HOST. An output is filled once, and then the done mark
output : (v : Value) → Does begun (To.Host 0) (Word.Val v) [] (with_output begun 0 v)
output v = inl (omega arith, refl, (v, refl, refl, refl))

-- the done signal sets the done mark
done : (w : Word) → Does begun (To.Host 1) w [] (with_done begun)
done w = inr (refl, refl, refl, refl)

-- ELEMENTS. With 4 of them, frame 6 lies on element 2, cell 7 on element 3, and the manager and the host on element 0
element_of_frame : (ip : ℕ) (q : Port) → element_of 4 (To.Instr 6 ip q) ≡ 2
element_of_frame ip q = refl

-- cell 7
element_of_cell : (v : Value) → element_of 4 (To.Store 7 v) ≡ 3
element_of_cell v = refl

-- a release is taken by element 0, not by the element of its frame
element_of_release : element_of 4 (To.Release 6) ≡ 0
element_of_release = refl
