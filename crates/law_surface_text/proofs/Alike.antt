-- PLACES SETTLE NO MOVE: the automaton does the same with the same tokens wherever they are, but for places in words and symbols.
use Rattle.std.proofs.Common.{◌≡◌, ℕ, zero, ◌+◌, ◌≤◌, Bool, true, false, List, [], ◌∷◌, ◌++◌, map, Option, None, Some, Result, Ok, Err, refl, sym, ap, ◌∙◌, subst}
use Rattle.std.proofs.Common.{arith, inl, inr, if◌then◌else◌}
use Rattle.std.specs.Prelude.{◌^◌, ◌⊎◌, nat_le, nat_lt, is_some}
use Rattle.std.proofs.lemmas.Bool.{leb-true, le-leb}
use Rattle.lemmas.proofs.Lists.{map_append}
use Rattle.source.specs.declared.fault.FaultKind.{FaultKind as CoreFaultKind}
use Rattle.source.specs.declared.fault.FaultKind.TheVariants.{TooDeep}
use Rattle.source.specs.declared.token.Keyword.TheVariants as core_keyword
use Rattle.source.specs.declared.token.Sign.TheVariants as core_sign
use Rattle.source.specs.declared.word.Word.TheVariants as core_word
use Rattle.source.specs.Tree.{Name}
use Rattle.surface.specs.declared.token.Keyword.{Keyword}
use Rattle.surface.specs.declared.token.Keyword.TheVariants as keyword
use Rattle.surface.specs.declared.token.Sign.{Sign}
use Rattle.surface.specs.declared.token.Sign.TheVariants as sign
use Rattle.surface.specs.declared.word.Word.TheVariants as word
use Rattle.surface.specs.Spelled.{Lexeme, TheWord, TheSign, TheNumber, TheName}
use Rattle.surface.specs.Words.{Words, of_core}
use Rattle.law_surface_text.specs.declared.symbol.NameWord.{NameWord}
use Rattle.law_surface_text.specs.declared.symbol.Symbol.{Symbol}
use Rattle.law_surface_text.specs.declared.symbol.Symbol.TheVariants.{Emit, Name as OneName, Parameter}
use Rattle.law_surface_text.specs.declared.symbol.Symbol.TheVariants.{AfterParameter, Rank, ResultCount, FunctionBody, Steps, ArmEnd}
use Rattle.law_surface_text.specs.declared.symbol.Symbol.TheVariants.{StepOtherwise, ChainEnd, Target, StepEnd, Operand, Negated, After, AfterName}
use Rattle.law_surface_text.specs.declared.symbol.Symbol.TheVariants.{AfterIndexes, Callee, Further, Otherwise, Bound, ForBound}
use Rattle.law_surface_text.specs.declared.symbol.Symbol.TheVariants.{AfterForName}
use Rattle.law_surface_text.specs.Automaton.{Stack, Outcome, Takes, Passes, Lacks, Refuses, appending, above, small, one_name, Operator, after_operator, operator_of}
use Rattle.law_surface_text.specs.Automaton.{goes_on, after, after_name, after_indexes, operand_word, operand_sign, operand, negated, callee, otherwise, bound}
use Rattle.law_surface_text.specs.Automaton.{for_bound, after_for_name, steps, arm_end, step_otherwise, target, parameter, after_parameter, rank, result_count}
use Rattle.law_surface_text.specs.Automaton.{function_body, step, lacking_step, step_below, Placed, Moved, moved_after, advance_by, advance, ended, ended_then}
use Rattle.law_surface_text.specs.Automaton.{finish}
use Rattle.law_surface_text.proofs.Runs.{moved_by, advance_all}
use Rattle.law_surface_text.proofs.Sound.{said}

-- the same, with no places and no words
abbrev pub bare : Symbol Name → Symbol Name
bare (Emit w) = Emit (of_core core_word.Left)
bare (AfterParameter at x) = AfterParameter 0 x
bare (Rank at x n) = Rank 0 x n
bare (ArmEnd at d) = ArmEnd 0 d
bare (StepOtherwise at d) = StepOtherwise 0 d
bare (ChainEnd at) = ChainEnd 0
bare (AfterName at x m d) = AfterName 0 x m d
bare (AfterIndexes at x m d) = AfterIndexes 0 x m d
bare (Bound at d) = Bound 0 d
bare (AfterForName at x d) = AfterForName 0 x d
bare s = s

abbrev pub bares : Stack → Stack
bares S = map bare S

abbrev pub shape : Outcome → Outcome
shape (Takes needed ws P) = Takes needed [] (bares P)
shape (Passes ws) = Passes []
shape (Lacks ws) = Lacks []
shape Refuses = Refuses

shape_if : (b : Bool) (o p q : Outcome) → shape o ≡ shape p → shape (if b then o else q) ≡ shape (if b then p else q)
shape_if true o p q e = e
shape_if false o p q e = refl

shape_appending : (ws : Words) (o : Outcome) → shape (appending ws o) ≡ shape o
shape_appending ws (Takes needed vs P) = refl
shape_appending ws (Passes vs) = refl
shape_appending ws (Lacks vs) = refl
shape_appending ws Refuses = refl

shape_above : (Q : Stack) (o : Outcome) → shape (above Q o) ≡ above (bares Q) (shape o)
shape_above Q (Takes needed ws P) = ap (λ S. Takes needed [] S) (map_append bare P Q)
shape_above Q (Passes ws) = refl
shape_above Q (Lacks ws) = refl
shape_above Q Refuses = refl

-- EACH SYMBOL
same_name : (w : NameWord) (at to : ℕ) (l : Lexeme) → shape (one_name w at l) ≡ shape (one_name w to l)
same_name w at to (TheName x) = refl
same_name w at to l = refl

same_after : (m k d at to : ℕ) (l : Lexeme) → shape (after m k d at l) ≡ shape (after m k d to l)
same_after m k d at to l = go (operator_of l)
  where
    go : (o : Option Operator) → shape (after_operator m k d at o) ≡ shape (after_operator m k d to o)
    go None = refl
    go (Some o) = shape_if (goes_on m k o) _ _ (Passes []) refl

same_after_name : (named at to : ℕ) (x : Name) (m d : ℕ) (l : Lexeme) → shape (after_name named x m d at l) ≡ shape (after_name 0 x m d to l)
same_after_name named at to x m d (TheSign (sign.Core core_sign.OpenParen)) = refl
same_after_name named at to x m d (TheSign (sign.Core core_sign.OpenBracket)) = refl
same_after_name named at to x m d l =
    shape_appending (of_core (core_word.Name named x) ∷ []) (after m 12 d at l) ∙ same_after m 12 d at to l
    ∙ sym (shape_appending (of_core (core_word.Name 0 x) ∷ []) (after m 12 d to l))

same_after_indexes : (cell at to : ℕ) (a : Name) (m d : ℕ) (l : Lexeme) → shape (after_indexes cell a m d at l) ≡ shape (after_indexes 0 a m d to l)
same_after_indexes cell at to a zero d (TheSign (sign.Core core_sign.Becomes)) = refl
same_after_indexes cell at to a m d l =
    shape_appending (of_core (core_word.Fetch cell a) ∷ []) (after m 12 d at l) ∙ same_after m 12 d at to l
    ∙ sym (shape_appending (of_core (core_word.Fetch 0 a) ∷ []) (after m 12 d to l))

same_operand_word : (m d at to : ℕ) (k : Keyword) → shape (operand_word m d at k) ≡ shape (operand_word m d to k)
same_operand_word m d at to (keyword.Core core_keyword.Strict) = refl
same_operand_word m d at to (keyword.Core core_keyword.If) = refl
same_operand_word m d at to (keyword.Core core_keyword.Loop) = refl
same_operand_word m d at to keyword.For = refl
same_operand_word m d at to keyword.Not = shape_if (nat_le m 3) (Takes (d + 1) [] (Operand 3 (d + 1) ∷ Emit (word.Not at) ∷ After m 3 d ∷ []))
    (Takes (d + 1) [] (Operand 3 (d + 1) ∷ Emit (word.Not to) ∷ After m 3 d ∷ [])) Refuses refl
same_operand_word m d at to k = refl

same_operand_sign : (m d at to : ℕ) (s : Sign) → shape (operand_sign m d at s) ≡ shape (operand_sign m d to s)
same_operand_sign m d at to (sign.Core core_sign.OpenParen) = refl
same_operand_sign m d at to (sign.Core core_sign.Minus) = refl
same_operand_sign m d at to (sign.Core core_sign.Tilde) = refl
same_operand_sign m d at to s = refl

same_small : (n : ℕ) (o p : Outcome) → shape o ≡ shape p → shape (small n o) ≡ shape (small n p)
same_small n o p e = shape_if (nat_lt n (2 ^ 63)) o p Refuses e

same_operand : (m d at to : ℕ) (l : Lexeme) → shape (operand m d at l) ≡ shape (operand m d to l)
same_operand m d at to (TheNumber n) =
    same_small n (Takes d (of_core (core_word.Number at n) ∷ []) (After m 12 d ∷ [])) (Takes d (of_core (core_word.Number to n) ∷ []) (After m 12 d ∷ [])) refl
same_operand m d at to (TheName x) = refl
same_operand m d at to (TheSign s) = same_operand_sign m d at to s
same_operand m d at to (TheWord k) = same_operand_word m d at to k

same_negated : (d at to : ℕ) (l : Lexeme) → shape (negated d at l) ≡ shape (negated d to l)
same_negated d at to (TheNumber n) = shape_if (nat_le n (2 ^ 63)) (Takes 0 (of_core (core_word.Number at n) ∷ []) [])
    (Takes 0 (of_core (core_word.Number to n) ∷ []) []) Refuses refl
same_negated d at to l = same_operand 11 (d + 1) at to l

same_steps : (d at to : ℕ) (l : Lexeme) → shape (steps d at l) ≡ shape (steps d to l)
same_steps d at to (TheWord (keyword.Core core_keyword.Let)) = refl
same_steps d at to (TheWord (keyword.Core core_keyword.If)) = refl
same_steps d at to l =
    let Q : Stack = Further d ∷ StepEnd d ∷ [] in
    shape_appending (of_core core_word.List ∷ []) (above Q (operand 0 (d + 1) at l)) ∙ shape_above Q (operand 0 (d + 1) at l)
    ∙ ap (above (bares Q)) (same_operand 0 (d + 1) at to l)
    ∙ sym (shape_appending (of_core core_word.List ∷ []) (above Q (operand 0 (d + 1) to l)) ∙ shape_above Q (operand 0 (d + 1) to l))

same_bound : (loop at to d : ℕ) (l : Lexeme) → shape (bound loop d at l) ≡ shape (bound 0 d to l)
same_bound loop at to d (TheNumber n) = same_small n _ _ refl
same_bound loop at to d (TheName x) = refl
same_bound loop at to d l = refl

same_for_bound : (d at to : ℕ) (l : Lexeme) → shape (for_bound d at l) ≡ shape (for_bound d to l)
same_for_bound d at to (TheNumber n) = same_small n _ _ refl
same_for_bound d at to (TheName x) = refl
same_for_bound d at to l = refl

same_result_count : (at to : ℕ) (l : Lexeme) → shape (result_count at l) ≡ shape (result_count to l)
same_result_count at to (TheNumber n) = same_small n _ _ refl
same_result_count at to (TheName x) = refl
same_result_count at to l = refl

same_after_for_name : (named at to : ℕ) (x : Name) (d : ℕ) (l : Lexeme) → shape (after_for_name named x d at l) ≡ shape (after_for_name 0 x d to l)
same_after_for_name named at to x d (TheName i) = refl
same_after_for_name named at to x d (TheWord keyword.In) = refl
same_after_for_name named at to x d l = refl

same_otherwise : (d at to : ℕ) (l : Lexeme) → shape (otherwise d at l) ≡ shape (otherwise d to l)
same_otherwise d at to (TheSign (sign.Core core_sign.OpenBrace)) = refl
same_otherwise d at to (TheWord (keyword.Core core_keyword.If)) = refl
same_otherwise d at to l = refl

same_step_otherwise : (begun at to d : ℕ) (l : Lexeme) → shape (step_otherwise begun d at l) ≡ shape (step_otherwise 0 d to l)
same_step_otherwise begun at to d (TheSign (sign.Core core_sign.OpenBrace)) = refl
same_step_otherwise begun at to d (TheWord (keyword.Core core_keyword.If)) = refl
same_step_otherwise begun at to d l = refl

same_arm_end : (begun d : ℕ) (l : Lexeme) → shape (arm_end begun d l) ≡ shape (arm_end 0 d l)
same_arm_end begun d (TheWord (keyword.Core core_keyword.Else)) = refl
same_arm_end begun d l = refl

same_target : (at to : ℕ) (l : Lexeme) → shape (target at l) ≡ shape (target to l)
same_target at to (TheName x) = refl
same_target at to (TheSign (sign.Core core_sign.Underscore)) = refl
same_target at to l = refl

same_callee : (d at to : ℕ) (l : Lexeme) → shape (callee d at l) ≡ shape (callee d to l)
same_callee d at to (TheName x) = refl
same_callee d at to l = refl

same_parameter : (at to : ℕ) (l : Lexeme) → shape (parameter at l) ≡ shape (parameter to l)
same_parameter at to (TheName x) = refl
same_parameter at to l = refl

same_after_parameter : (named : ℕ) (x : Name) (l : Lexeme) → shape (after_parameter named x l) ≡ shape (after_parameter 0 x l)
same_after_parameter named x (TheSign (sign.Core core_sign.OpenBracket)) = refl
same_after_parameter named x l = refl

same_rank : (named : ℕ) (x : Name) (n : ℕ) (l : Lexeme) → shape (rank named x n l) ≡ shape (rank 0 x n l)
same_rank named x n (TheSign (sign.Core core_sign.Comma)) = refl
same_rank named x n (TheSign (sign.Core core_sign.CloseBracket)) = refl
same_rank named x n l = refl

same_function_body : (at to : ℕ) (l : Lexeme) → shape (function_body at l) ≡ shape (function_body to l)
same_function_body at to (TheSign (sign.Core core_sign.OpenBrace)) = refl
same_function_body at to l = refl

same_step : (s : Symbol Name) (at to : ℕ) (l : Lexeme) → shape (step s at l) ≡ shape (step (bare s) to l)
same_step (OneName w) at to l = same_name w at to l
same_step Parameter at to l = same_parameter at to l
same_step (AfterParameter named x) at to l = same_after_parameter named x l
same_step (Rank named x n) at to l = same_rank named x n l
same_step ResultCount at to l = same_result_count at to l
same_step FunctionBody at to l = same_function_body at to l
same_step (Steps d) at to l = same_steps d at to l
same_step (ArmEnd begun d) at to l = same_arm_end begun d l
same_step (StepOtherwise begun d) at to l = same_step_otherwise begun at to d l
same_step Target at to l = same_target at to l
same_step (Operand m d) at to l = same_operand m d at to l
same_step (Negated d) at to l = same_negated d at to l
same_step (After m k d) at to l = same_after m k d at to l
same_step (AfterName named x m d) at to l = same_after_name named at to x m d l
same_step (AfterIndexes cell a m d) at to l = same_after_indexes cell at to a m d l
same_step (Callee d) at to l = same_callee d at to l
same_step (Otherwise d) at to l = same_otherwise d at to l
same_step (Bound loop d) at to l = same_bound loop at to d l
same_step (ForBound d) at to l = same_for_bound d at to l
same_step (AfterForName named x d) at to l = same_after_for_name named at to x d l
same_step s at to l = refl

same_lacking : (s : Symbol Name) (l : Lexeme) → shape (lacking_step s l) ≡ shape (lacking_step (bare s) l)
same_lacking (ChainEnd begun) l = refl
same_lacking s l = refl

same_below : (b : Bool) (s t : Symbol Name) (at to : ℕ) (l : Lexeme) → bare s ≡ bare t → shape (step_below b s at l) ≡ shape (step_below b t to l)
same_below true s t at to l e = same_lacking s l ∙ ap (λ u. shape (lacking_step u l)) e ∙ sym (same_lacking t l)
same_below false s t at to l e = same_step s at 0 l ∙ ap (λ u. shape (step u 0 l)) e ∙ sym (same_step t to 0 l)

-- ONE TOKEN
abbrev pub bared : Result Moved CoreFaultKind → Result Moved CoreFaultKind
bared (Ok m) = Ok (record { appended = []; stack = bares m.stack })
bared (Err kind) = Err kind

bared_after : (ws : Words) (r : Result Moved CoreFaultKind) → bared (moved_after ws r) ≡ bared r
bared_after ws (Ok m) = refl
bared_after ws (Err kind) = refl

by_shape : (limit : ℕ) (S T : Stack) (f g : Bool → Result Moved CoreFaultKind) → bares S ≡ bares T → ((b : Bool) → bared (f b) ≡ bared (g b)) → (o p : Outcome)
    → shape o ≡ shape p → bared (advance_by limit o S f) ≡ bared (advance_by limit p T g)
by_shape limit S T f g below further (Takes n ws P) (Takes m vs Q) e =
    let same : n ≡ m = cc in
    let tops : bares P ≡ bares Q = cc in
    subst (λ k. bared (advance_by limit (Takes n ws P) S f) ≡ bared (advance_by limit (Takes k vs Q) T g)) same
    (go (nat_le n limit) (map_append bare P S ∙ (λ i. tops i ++ below i) ∙ sym (map_append bare Q T)))
  where
    go : (b : Bool) → bares (P ++ S) ≡ bares (Q ++ T)
        → bared (if b then Ok (record { appended = ws; stack = P ++ S }) else Err TooDeep) ≡ bared (if b then Ok (record { appended = vs; stack = Q ++ T }) else Err TooDeep)
    go true h = ap (λ U. Ok (record { appended = []; stack = U })) h
    go false h = refl
by_shape limit S T f g below further (Passes ws) (Passes vs) e = bared_after ws (f false) ∙ further false ∙ sym (bared_after vs (g false))
by_shape limit S T f g below further (Lacks ws) (Lacks vs) e = bared_after ws (f true) ∙ further true ∙ sym (bared_after vs (g true))
by_shape limit S T f g below further Refuses Refuses e = refl
by_shape limit S T f g below further o p e = absurd cc

pub same_advance : (limit : ℕ) (S T : Stack) (b : Bool) (at to : ℕ) (l : Lexeme) → bares S ≡ bares T
    → bared (advance limit S b at l) ≡ bared (advance limit T b to l)
same_advance limit [] [] b at to l e = refl
same_advance limit [] (t ∷ T) b at to l e = absurd cc
same_advance limit (s ∷ S) [] b at to l e = absurd cc
same_advance limit (s ∷ S) (t ∷ T) b at to l e =
    let head : bare s ≡ bare t = cc in
    let tail : bares S ≡ bares T = cc in
    by_shape limit S T (λ c. advance limit S c at l) (λ c. advance limit T c to l) tail (λ c. same_advance limit S T c at to l tail) _ _
    (same_below b s t at to l head)

-- MANY TOKENS
abbrev pub stack_of : Result Moved CoreFaultKind → Stack
stack_of (Ok m) = m.stack
stack_of (Err kind) = []

bared_moved : (r q : Result Moved CoreFaultKind) (f g : Stack → Result Moved CoreFaultKind) → bared r ≡ bared q
    → ((S T : Stack) → bares S ≡ bares T → bared (f S) ≡ bared (g T)) → bared (moved_by r f) ≡ bared (moved_by q g)
bared_moved (Ok m) (Ok n) f g e h =
    bared_after m.appended (f m.stack) ∙ h m.stack n.stack (ap stack_of e) ∙ sym (bared_after n.appended (g n.stack))
bared_moved (Err k) (Err j) f g e h = e
bared_moved (Ok m) (Err j) f g e h = absurd cc
bared_moved (Err k) (Ok n) f g e h = absurd cc

pub same_advance_all : (limit : ℕ) (S T : Stack) (ps qs : List Placed) → said ps ≡ said qs → bares S ≡ bares T
    → bared (advance_all limit S ps) ≡ bared (advance_all limit T qs)
same_advance_all limit S T [] [] e h = ap (λ U. Ok (record { appended = []; stack = U })) h
same_advance_all limit S T [] (q ∷ qs) e h = absurd cc
same_advance_all limit S T (p ∷ ps) [] e h = absurd cc
same_advance_all limit S T (p ∷ ps) (q ∷ qs) e h =
    let head : p.lexeme ≡ q.lexeme = cc in
    let tail : said ps ≡ said qs = cc in
    bared_moved (advance limit S false p.at p.lexeme) (advance limit T false q.at q.lexeme) (λ U. advance_all limit U ps) (λ U. advance_all limit U qs)
    (ap (λ l. bared (advance limit S false p.at l)) head ∙ same_advance limit S T false p.at q.at q.lexeme h)
    (λ U V k. same_advance_all limit U V ps qs tail k)

-- AT THE END
same_ended : (s : Symbol Name) → is_some (ended s) ≡ is_some (ended (bare s))
same_ended (Emit w) = refl
same_ended s = refl

some_then : (o p : Option Words) → is_some (ended_then o p) ≡ (if is_some o then is_some p else false)
some_then (Some ws) (Some vs) = refl
some_then (Some ws) None = refl
some_then None p = refl

pub same_finish : (S T : Stack) → bares S ≡ bares T → is_some (finish S) ≡ is_some (finish T)
same_finish [] [] e = refl
same_finish [] (t ∷ T) e = absurd cc
same_finish (s ∷ S) [] e = absurd cc
same_finish (s ∷ S) (t ∷ T) e =
    let head : bare s ≡ bare t = cc in
    let tail : bares S ≡ bares T = cc in
    some_then (ended s) (finish S)
    ∙ (λ i. if (same_ended s ∙ ap (λ u. is_some (ended u)) head ∙ sym (same_ended t)) i then same_finish S T tail i else false)
    ∙ sym (some_then (ended t) (finish T))

-- WHERE MORE MAY BE OPEN
module _ (limit most : ℕ) (more : limit ≤ most) where
  wider_after : (ws : Words) (r q : Result Moved CoreFaultKind) → (r ≡ Err TooDeep) ⊎ (q ≡ r) → (moved_after ws r ≡ Err TooDeep) ⊎ (moved_after ws q ≡ moved_after ws r)
  wider_after ws r q (inl e) = inl (ap (moved_after ws) e)
  wider_after ws r q (inr e) = inr (ap (moved_after ws) e)

  wider_by : (S : Stack) (f g : Bool → Result Moved CoreFaultKind) → ((b : Bool) → (f b ≡ Err TooDeep) ⊎ (g b ≡ f b)) → (o : Outcome)
      → (advance_by limit o S f ≡ Err TooDeep) ⊎ (advance_by most o S g ≡ advance_by limit o S f)
  wider_by S f g h (Takes needed ws P) = go (nat_le needed limit) refl
    where
      go : (b : Bool) → nat_le needed limit ≡ b
          → (advance_by limit (Takes needed ws P) S f ≡ Err TooDeep)
          ⊎ (advance_by most (Takes needed ws P) S g ≡ advance_by limit (Takes needed ws P) S f)
      go true e = let k = leb-true needed limit e in inr (rw (le-leb needed most (omega arith), e) refl)
      go false e = inl (rw e refl)
  wider_by S f g h (Passes ws) = wider_after ws (f false) (g false) (h false)
  wider_by S f g h (Lacks ws) = wider_after ws (f true) (g true) (h true)
  wider_by S f g h Refuses = inr refl

  pub wider : (S : Stack) (b : Bool) (at : ℕ) (l : Lexeme) → (advance limit S b at l ≡ Err TooDeep) ⊎ (advance most S b at l ≡ advance limit S b at l)
  wider [] b at l = inr refl
  wider (s ∷ S) b at l = wider_by S (λ c. advance limit S c at l) (λ c. advance most S c at l) (λ c. wider S c at l) (step_below b s at l)

  pub wider_all : (S : Stack) (ps : List Placed) (m : Moved) → advance_all limit S ps ≡ Ok m → advance_all most S ps ≡ Ok m
  wider_all S [] m e = e
  wider_all S (p ∷ ps) m e = go (λ T n f. wider_all T ps n f) (advance limit S false p.at p.lexeme) refl (wider S false p.at p.lexeme) e
    where
      later : (T : Stack) (ws : Words) → ((n : Moved) → advance_all limit T ps ≡ Ok n → advance_all most T ps ≡ Ok n) → (r : Result Moved CoreFaultKind)
          → advance_all limit T ps ≡ r → moved_after ws r ≡ Ok m → moved_after ws (advance_all most T ps) ≡ Ok m
      later T ws f (Ok n) g h = ap (moved_after ws) (f n g) ∙ h
      later T ws f (Err k) g h = absurd cc

      go : ((T : Stack) (n : Moved) → advance_all limit T ps ≡ Ok n → advance_all most T ps ≡ Ok n) → (r : Result Moved CoreFaultKind)
          → advance limit S false p.at p.lexeme ≡ r
          → (advance limit S false p.at p.lexeme ≡ Err TooDeep) ⊎ (advance most S false p.at p.lexeme ≡ advance limit S false p.at p.lexeme)
          → moved_by r (λ T. advance_all limit T ps) ≡ Ok m → moved_by (advance most S false p.at p.lexeme) (λ T. advance_all most T ps) ≡ Ok m
      go f (Ok n) g (inl h) k = absurd cc
      go f (Ok n) g (inr h) k = rw (h ∙ g) (later n.stack n.appended (λ u i. f n.stack u i) (advance_all limit n.stack ps) refl k)
      go f (Err j) g h k = absurd cc

-- what is too deep is taken where enough may be open
pub record Taken (S : Stack) (b : Bool) (at : ℕ) (l : Lexeme) : Type 0 where
  pub depth : ℕ
  pub by : (most : ℕ) → depth ≤ most → (m : Moved) × (advance most S b at l ≡ Ok m)

module _ (limit at : ℕ) (l : Lexeme) where
  later_taken : (S below : Stack) (b c : Bool) (ws : Words) → ((most : ℕ) → advance most S b at l ≡ moved_after ws (advance most below c at l)) → Taken below c at l
      → Taken S b at l
  later_taken S below b c ws same t = record {
    depth = t.depth;
    by = λ most h. let m = t.by most h in (record { appended = ws ++ m.0.appended; stack = m.0.stack }, same most ∙ ap (moved_after ws) m.1);
  }

  pub taken : (S : Stack) (b : Bool) → advance limit S b at l ≡ Err TooDeep → Taken S b at l
  taken [] b e = absurd cc
  taken (s ∷ S) b e = go (λ c f. taken S c f) (step_below b s at l) refl e
    where
      same : (o : Outcome) → step_below b s at l ≡ o → (most : ℕ) → advance most (s ∷ S) b at l ≡ advance_by most o S (λ c. advance most S c at l)
      same o f most = ap (λ o. advance_by most o S (λ c. advance most S c at l)) f

      after_deep : (ws : Words) (r : Result Moved CoreFaultKind) → moved_after ws r ≡ Err TooDeep → r ≡ Err TooDeep
      after_deep ws (Ok m) f = absurd cc
      after_deep ws (Err k) f = f

      go : ((c : Bool) → advance limit S c at l ≡ Err TooDeep → Taken S c at l) → (o : Outcome) → step_below b s at l ≡ o
          → advance_by limit o S (λ c. advance limit S c at l) ≡ Err TooDeep → Taken (s ∷ S) b at l
      go f (Takes needed ws P) g h = record {
        depth = needed;
        by = λ most k. (record { appended = ws; stack = P ++ S }, same (Takes needed ws P) g most ∙ rw (le-leb needed most k) refl);
      }
      go f (Passes ws) g h = later_taken (s ∷ S) S b false ws (same (Passes ws) g) (f false (after_deep ws (advance limit S false at l) h))
      go f (Lacks ws) g h = later_taken (s ∷ S) S b true ws (same (Lacks ws) g) (f true (after_deep ws (advance limit S true at l) h))
      go f Refuses g h = absurd cc
