-- WHAT A SYMBOL DOES to a parser's state, with numbers for names.
use Rattle.std.proofs.Common.{◌≡◌, ℕ, ◌≤◌, length, arith, Bool, true, false, List, [], ◌∷◌, ◌++◌, map, reverse, Option, None, Some, Result, Ok, Err, MatchResult}
use Rattle.std.proofs.Common.{if◌then◌else◌, ◌⊎◌, inl, inr, refl, sym, ap, ap₂, ◌∙◌, subst, append_assoc, append-nil}
use Rattle.std.proofs.lemmas.Bool.{le-leb}
use Rattle.std.proofs.lemmas.List.{map-append, reverse-append}
use Rattle.std.proofs.lemmas.List.Elements.{All-nil, All-cons, All-append, All-push, All-head, All-tail}
use Rattle.std.specs.Prelude.{All, option_to_list, nat_le, ◌==◌, ◌^◌, ◌&&◌}
use Rattle.source.specs.declared.fault.FaultKind.{FaultKind as CoreFaultKind}
use Rattle.source.specs.declared.fault.FaultKind.TheVariants.{TooDeep, NotACell, BadNumber, Unexpected, Memory}
use Rattle.source.specs.declared.token.Sign.TheVariants as core_sign
use Rattle.source.specs.Tree.{Name}
use Rattle.surface.specs.declared.fault.Fault.{Fault}
use Rattle.surface.specs.declared.word.Word.{Word}
use Rattle.surface.specs.declared.token.Sign.TheVariants as sign
use Rattle.surface.specs.Spelled.{Lexeme, TheSign, TheNumber}
use Rattle.surface.specs.Words.{Words, named}
use Rattle.law_surface_text.specs.declared.symbol.Symbol.{Symbol}
use Rattle.law_surface_text.specs.declared.symbol.Symbol.TheVariants.{Further, StepEnd}
use Rattle.law_surface_text.specs.Automaton.{Stack, step_below, Outcome, Takes, Passes, Lacks, Refuses, appending, above, Moved, moved_after, advance_by, advance}
use Rattle.law_surface_text.specs.Automaton.{is_taken, would_take, unexpected, blamed, ended_then, finished, words_after}
use Rattle.law_surface_text.specs.Named.{named_symbol, named_stack}
use Rattle.surface_text.specs.declared.lexeme.Lexeme.{Lexeme as CodeLexeme}
use Rattle.surface_text.specs.declared.lexeme.Lexeme.TheVariants as code
use Rattle.surface_text.specs.Outcomes.{lexeme_named, few, shown, doing_named, behind, atop, reaction_named, IsShallow, AreShallow, IsShallowBelow, AreAllShallow}
use Rattle.surface_text.specs.declared.outcome.Pushes.{Pushes}
use Rattle.surface_text.specs.declared.outcome.Outcome.{Outcome as CodeOutcome}
use Rattle.surface_text.specs.declared.outcome.Outcome.TheVariants as done
use Rattle.surface_text.specs.declared.reaction.Reaction.{Reaction}
use Rattle.surface_text.specs.Running.{below_of, words_named, state, onward, reacted, ending, kind_or, IsKind, IsBlamed, IsFault}

abbrev the_moved : Words → List (Symbol Name) → Result Moved CoreFaultKind
the_moved a s = Ok (record { appended = a; stack = s })

-- DEPTH
all_reversed : (xs : List (Symbol ℕ)) → All IsShallow xs → All IsShallow (reverse xs)
all_reversed [] h = h
all_reversed (x ∷ xs) h =
    subst (All IsShallow) (sym (reverse-append (x ∷ []) xs))
    (All-push IsShallow (reverse xs) x (all_reversed xs (All-tail IsShallow x xs h)) (All-head IsShallow x xs h))

pushed_shallow : (s : List (Symbol ℕ)) (below : Option ℕ) → All IsShallow s → IsShallowBelow below → All IsShallow (s ++ below_of below)
pushed_shallow s None h k = subst (All IsShallow) (sym (append-nil s)) h
pushed_shallow s (Some d) h k = All-append IsShallow s (StepEnd d ∷ Further d ∷ []) h
    (All-cons IsShallow (StepEnd d) (Further d ∷ []) k (All-cons IsShallow (Further d) [] k (All-nil IsShallow)))

pub stays_shallow : (s t : List (Symbol ℕ)) (r : Reaction) (p : Pushes) (needed : ℕ) → r.outcome ≡ done.Takes needed → needed ≤ 200
    → t ≡ (s ++ below_of r.below) ++ reverse (few p.symbols) → All IsShallow s → AreAllShallow r p → All IsShallow t
stays_shallow s t r p needed is h e k m =
    subst (All IsShallow) (sym e)
    (All-append IsShallow (s ++ below_of r.below) (reverse (few p.symbols)) (pushed_shallow s r.below k m.1)
    (all_reversed (few p.symbols) (subst (λ o. AreShallow o p) is m.0 h)))

-- whether a token is taken, where a symbol does this with it
abbrev pub tried : CodeOutcome → (Bool → Result Moved CoreFaultKind) → Bool
tried (done.Takes needed) passed = nat_le needed 200
tried done.Passes passed = is_taken (passed false)
tried done.Lacks passed = is_taken (passed true)
tried done.Refuses passed = false

module _ (names : List Name) where
  pub stack_more : (s : List (Symbol ℕ)) (x : Symbol ℕ) → named_stack names (s ++ x ∷ []) ≡ named_symbol names x ∷ named_stack names s
  stack_more s x = ap reverse (map-append (named_symbol names) s (x ∷ [])) ∙ reverse-append (map (named_symbol names) s) (named_symbol names x ∷ [])

  pub stack_pushed : (s xs : List (Symbol ℕ)) → named_stack names (s ++ reverse xs) ≡ map (named_symbol names) xs ++ named_stack names s
  stack_pushed s [] = ap (named_stack names) (append-nil s)
  stack_pushed s (x ∷ xs) =
      ap (λ ys. named_stack names (s ++ ys)) (reverse-append (x ∷ []) xs)
      ∙ ap (named_stack names) (sym (append_assoc s (reverse xs) (x ∷ [])))
      ∙ stack_more (s ++ reverse xs) x
      ∙ ap (λ t. named_symbol names x ∷ t) (stack_pushed s xs)

  pub words_pushed : (w v : List (Word ℕ)) → words_named names (w ++ v) ≡ words_named names w ++ words_named names v
  words_pushed w v = map-append (named names) w v

  -- the reaction as one outcome
  before_and_below : (needed : ℕ) (ws : Words) (P : List (Symbol Name)) (before : Option (Word ℕ)) (below : Option ℕ)
      → behind names before (atop below (Takes needed ws P))
      ≡ Takes needed (words_named names (option_to_list before) ++ ws) (P ++ map (named_symbol names) (reverse (below_of below)))
  before_and_below needed ws P None None = ap (λ Q. Takes needed ws Q) (sym (append-nil P))
  before_and_below needed ws P (Some w) None = ap (λ Q. Takes needed (named names w ∷ ws) Q) (sym (append-nil P))
  before_and_below needed ws P None (Some d) = refl
  before_and_below needed ws P (Some w) (Some d) = refl

  takes_within : (at : ℕ) (l : Lexeme) (m : Moved) (needed : ℕ) (ws : Words) (P : List (Symbol Name)) → needed ≤ 200
      → reacted at l m (Takes needed ws P) ≡ the_moved (m.appended ++ ws) (P ++ m.stack)
  takes_within at l m needed ws P h =
      ap (λ b. moved_after m.appended (if b then the_moved ws (P ++ m.stack) else Err TooDeep)) (le-leb needed 200 h)

  -- what is taken
  pub acted_takes : (at : ℕ) (l : Lexeme) (s : List (Symbol ℕ)) (w : List (Word ℕ)) (before : Option (Word ℕ)) (below : Option ℕ) (needed : ℕ)
      (words : List (Word ℕ)) (symbols : List (Symbol ℕ)) → needed ≤ 200
      → reacted at l (state names s w) (behind names before (atop below (Takes needed (words_named names words) (map (named_symbol names) symbols))))
      ≡ Ok (state names ((s ++ below_of below) ++ reverse symbols) ((w ++ option_to_list before) ++ words))
  acted_takes at l s w before below needed words symbols h =
      ap (reacted at l (state names s w)) (before_and_below needed (words_named names words) (map (named_symbol names) symbols) before below)
      ∙ takes_within at l (state names s w) needed _ _ h
      ∙ ap₂ the_moved
      (sym (words_pushed (w ++ option_to_list before) words ∙ ap (λ u. u ++ words_named names words) (words_pushed w (option_to_list before))
      ∙ append_assoc (words_named names w) (words_named names (option_to_list before)) (words_named names words)))
      (append_assoc (map (named_symbol names) symbols) (map (named_symbol names) (reverse (below_of below))) (named_stack names s)
      ∙ sym (stack_pushed (s ++ below_of below) symbols ∙ ap (λ t. map (named_symbol names) symbols ++ t) (below_pushed s below)))
    where
      below_pushed : (s : List (Symbol ℕ)) (below : Option ℕ)
          → named_stack names (s ++ below_of below) ≡ map (named_symbol names) (reverse (below_of below)) ++ named_stack names s
      below_pushed s None = ap (named_stack names) (append-nil s)
      below_pushed s (Some d) = stack_pushed s (Further d ∷ StepEnd d ∷ [])

  pub acts_takes : (at : ℕ) (l : Lexeme) (s : List (Symbol ℕ)) (w : List (Word ℕ)) (r : Reaction) (p : Pushes) (needed : ℕ)
      (t : List (Symbol ℕ)) (v : List (Word ℕ)) → r.outcome ≡ done.Takes needed → needed ≤ 200
      → t ≡ (s ++ below_of r.below) ++ reverse (few p.symbols) → v ≡ (w ++ option_to_list r.before) ++ few p.words
      → reacted at l (state names s w) (reaction_named names r p) ≡ Ok (state names t v)
  acts_takes at l s w r p needed t v is h e f =
      ap (λ o. reacted at l (state names s w) (behind names r.before (atop r.below (doing_named names (shown o p))))) is
      ∙ acted_takes at l s w r.before r.below needed (few p.words) (few p.symbols) h
      ∙ ap₂ (λ s w. the_moved (words_named names w) (named_stack names s)) (sym e) (sym f)

  -- what is too deep, and what is refused
  pub acted_deep : (at : ℕ) (l : Lexeme) (m : Moved) (before : Option (Word ℕ)) (below : Option ℕ) (needed : ℕ) (ws : Words) (P : List (Symbol Name))
      → nat_le needed 200 ≡ false → reacted at l m (behind names before (atop below (Takes needed ws P))) ≡ Err TooDeep
  acted_deep at l m before below needed ws P h =
      ap (reacted at l m) (before_and_below needed ws P before below)
      ∙ ap (λ b. moved_after m.appended (if b then the_moved (words_named names (option_to_list before) ++ ws)
      ((P ++ map (named_symbol names) (reverse (below_of below))) ++ m.stack) else Err TooDeep)) h

  moved_twice : (a b : Words) (r : Result Moved CoreFaultKind) → moved_after a (moved_after b r) ≡ moved_after (a ++ b) r
  moved_twice a b (Ok m) = ap (λ u. the_moved u m.stack) (sym (append_assoc a b m.appended))
  moved_twice a b (Err kind) = refl

  -- what passes
  passed_words : (lacks : Bool) (at : ℕ) (l : Lexeme) (s : List (Symbol ℕ)) (w b v : List (Word ℕ))
      → moved_after (words_named names w) (moved_after (words_named names b ++ words_named names v) (advance 200 (named_stack names s) lacks at l))
      ≡ onward lacks at l (state names s ((w ++ b) ++ v))
  passed_words lacks at l s w b v = moved_twice (words_named names w) _ _ ∙ ap (λ u. moved_after u (advance 200 (named_stack names s) lacks at l))
      (sym (words_pushed (w ++ b) v ∙ ap (λ u. u ++ words_named names v) (words_pushed w b)
      ∙ append_assoc (words_named names w) (words_named names b) (words_named names v)))

  pub acted_passes : (at : ℕ) (l : Lexeme) (s : List (Symbol ℕ)) (w : List (Word ℕ)) (before : Option (Word ℕ)) (below : Option ℕ) (words : List (Word ℕ))
      → reacted at l (state names s w) (behind names before (atop below (Passes (words_named names words))))
      ≡ onward false at l (state names s ((w ++ option_to_list before) ++ words))
  acted_passes at l s w None None words = passed_words false at l s w [] words
  acted_passes at l s w None (Some d) words = passed_words false at l s w [] words
  acted_passes at l s w (Some x) None words = passed_words false at l s w (x ∷ []) words
  acted_passes at l s w (Some x) (Some d) words = passed_words false at l s w (x ∷ []) words

  pub acted_lacks : (at : ℕ) (l : Lexeme) (s : List (Symbol ℕ)) (w : List (Word ℕ)) (before : Option (Word ℕ)) (below : Option ℕ) (words : List (Word ℕ))
      → reacted at l (state names s w) (behind names before (atop below (Lacks (words_named names words))))
      ≡ onward true at l (state names s ((w ++ option_to_list before) ++ words))
  acted_lacks at l s w None None words = passed_words true at l s w [] words
  acted_lacks at l s w None (Some d) words = passed_words true at l s w [] words
  acted_lacks at l s w (Some x) None words = passed_words true at l s w (x ∷ []) words
  acted_lacks at l s w (Some x) (Some d) words = passed_words true at l s w (x ∷ []) words

  -- the symbol on top meets the token
  pub met : (lacks : Bool) (at : ℕ) (l : Lexeme) (s t : List (Symbol ℕ)) (x : Symbol ℕ) (w : List (Word ℕ)) (o : Outcome) → s ≡ t ++ x ∷ []
      → o ≡ step_below lacks (named_symbol names x) at l → onward lacks at l (state names s w) ≡ reacted at l (state names t w) o
  met lacks at l s t x w o e is =
      ap (λ stack. moved_after (words_named names w) (advance 200 stack lacks at l)) (ap (named_stack names) e ∙ stack_more t x)
      ∙ ap (reacted at l (state names t w)) (sym is)

  -- WHETHER A TOKEN WOULD BE TAKEN
  taken_later : (ws : Words) (r : Result Moved CoreFaultKind) → is_taken (moved_after ws r) ≡ is_taken r
  taken_later ws (Ok m) = refl
  taken_later ws (Err kind) = refl

  taken_within : (fits : Bool) (m : Moved) → is_taken (if fits then Ok m else Err TooDeep) ≡ fits
  taken_within true m = refl
  taken_within false m = refl

  taken_appending : (ws : Words) (o : Outcome) (S : Stack) (passed : Bool → Result Moved CoreFaultKind)
      → is_taken (advance_by 200 (appending ws o) S passed) ≡ is_taken (advance_by 200 o S passed)
  taken_appending ws (Takes needed vs symbols) S passed = taken_within (nat_le needed 200) _ ∙ sym (taken_within (nat_le needed 200) _)
  taken_appending ws (Passes vs) S passed = taken_later (ws ++ vs) (passed false) ∙ sym (taken_later vs (passed false))
  taken_appending ws (Lacks vs) S passed = taken_later (ws ++ vs) (passed true) ∙ sym (taken_later vs (passed true))
  taken_appending ws Refuses S passed = refl

  taken_above : (below : Stack) (o : Outcome) (S : Stack) (passed : Bool → Result Moved CoreFaultKind)
      → is_taken (advance_by 200 (above below o) S passed) ≡ is_taken (advance_by 200 o S passed)
  taken_above below (Takes needed vs symbols) S passed = taken_within (nat_le needed 200) _ ∙ sym (taken_within (nat_le needed 200) _)
  taken_above below (Passes vs) S passed = refl
  taken_above below (Lacks vs) S passed = refl
  taken_above below Refuses S passed = refl

  taken_behind : (before : Option (Word ℕ)) (o : Outcome) (S : Stack) (passed : Bool → Result Moved CoreFaultKind)
      → is_taken (advance_by 200 (behind names before o) S passed) ≡ is_taken (advance_by 200 o S passed)
  taken_behind None o S passed = refl
  taken_behind (Some w) o S passed = taken_appending (named names w ∷ []) o S passed

  taken_atop : (below : Option ℕ) (o : Outcome) (S : Stack) (passed : Bool → Result Moved CoreFaultKind)
      → is_taken (advance_by 200 (atop below o) S passed) ≡ is_taken (advance_by 200 o S passed)
  taken_atop None o S passed = refl
  taken_atop (Some d) o S passed = taken_above (Further d ∷ StepEnd d ∷ []) o S passed

  taken_doing : (o : CodeOutcome) (p : Pushes) (S : Stack) (passed : Bool → Result Moved CoreFaultKind)
      → is_taken (advance_by 200 (doing_named names (shown o p)) S passed) ≡ tried o passed
  taken_doing (done.Takes needed) p S passed = taken_within (nat_le needed 200) _
  taken_doing done.Passes p S passed = taken_later _ (passed false)
  taken_doing done.Lacks p S passed = taken_later _ (passed true)
  taken_doing done.Refuses p S passed = refl

  -- the symbol on top meets the token
  pub tries : (lacks : Bool) (l : Lexeme) (s t : List (Symbol ℕ)) (x : Symbol ℕ) (r : Reaction) (p : Pushes) → s ≡ t ++ x ∷ []
      → reaction_named names r p ≡ step_below lacks (named_symbol names x) 0 l
      → is_taken (advance 200 (named_stack names s) lacks 0 l) ≡ tried r.outcome (λ lacks. advance 200 (named_stack names t) lacks 0 l)
  tries lacks l s t x r p e is =
      let S = named_stack names t in
      let passed : Bool → Result Moved CoreFaultKind = λ lacks. advance 200 S lacks 0 l in
      ap (λ stack. is_taken (advance 200 stack lacks 0 l)) (ap (named_stack names) e ∙ stack_more t x)
      ∙ ap (λ o. is_taken (advance_by 200 o S passed)) (sym is)
      ∙ taken_behind r.before _ S passed ∙ taken_atop r.below _ S passed ∙ taken_doing r.outcome p S passed

  pub tries_nothing : (lacks : Bool) (l : Lexeme) (s : List (Symbol ℕ)) → length s ≡ 0 → is_taken (advance 200 (named_stack names s) lacks 0 l) ≡ false
  tries_nothing lacks l [] e = refl
  tries_nothing lacks l (x ∷ s) e = absurd (omega (arith, e))

  -- THE END
  ends_after : (end : ℕ) (a b : Words) (o : Option Words) → words_after a (finished end (ended_then (Some b) o)) ≡ words_after (a ++ b) (finished end o)
  ends_after end a b None = refl
  ends_after end a b (Some vs) = ap Ok (sym (append_assoc a b vs))

  pub ends : (end : ℕ) (s : List (Symbol ℕ)) (w : List (Word ℕ)) → length s ≡ 0 → ending end (state names s w) ≡ Ok (words_named names w)
  ends end [] w e = ap Ok (append-nil (words_named names w))
  ends end (x ∷ s) w e = absurd (omega (arith, e))

-- THE KIND THAT IS REPORTED
blamed_is : (S : Stack) (l : Lexeme) (kind : CoreFaultKind) → blamed 200 S l kind ≡ kind_or kind (unexpected 200 S l)
blamed_is S l Unexpected = refl
blamed_is S l kind = refl

-- of a `:=` and of a number
pub store_blamed : (names : List Name) (S : Stack) (l : CodeLexeme) (u : CoreFaultKind) → l ≡ code.Mark (sign.Core core_sign.Becomes)
    → (u ≡ Memory) ⊎ (u ≡ (if would_take 200 S (TheSign (sign.Core core_sign.Plus)) then NotACell else Unexpected))
    → (u ≡ Memory) ⊎ (u ≡ unexpected 200 S (lexeme_named names l))
store_blamed names S l u e h = subst (λ l. (u ≡ Memory) ⊎ (u ≡ unexpected 200 S (lexeme_named names l))) (sym e) h

pub number_blamed : (names : List Name) (S : Stack) (l : CodeLexeme) (n : ℕ) (b : Bool) (u : CoreFaultKind) → l ≡ code.Number n → b ≡ (n == 2 ^ 63)
    → b ≡ true → (u ≡ Memory) ⊎ (u ≡ (if would_take 200 S (TheNumber 0) then BadNumber else Unexpected))
    → (u ≡ Memory) ⊎ (u ≡ unexpected 200 S (lexeme_named names l))
number_blamed names S l n b u e f g h = subst (λ l. (u ≡ Memory) ⊎ (u ≡ unexpected 200 S (lexeme_named names l))) (sym e) (go h)
  where
    go : (u ≡ Memory) ⊎ (u ≡ (if would_take 200 S (TheNumber 0) then BadNumber else Unexpected)) → (u ≡ Memory) ⊎ (u ≡ unexpected 200 S (TheNumber n))
    go (inl memory) = inl memory
    go (inr is) = inr (is ∙ ap (λ t. if t && would_take 200 S (TheNumber 0) then BadNumber else Unexpected) (sym g ∙ f))

pub blames : (names : List Name) (s : List (Symbol ℕ)) (l : Lexeme) (kind u : CoreFaultKind) (r : Result Moved CoreFaultKind) → IsKind kind r
    → (u ≡ Memory) ⊎ (u ≡ unexpected 200 (named_stack names s) l) → IsBlamed names s l (kind_or kind u) r
blames names s l kind u r (inl memory) known = inl (ap (λ k. kind_or k u) memory)
blames names s l kind u r (inr is) (inr known) = inr (kind, is, ap (kind_or kind) known ∙ sym (blamed_is (named_stack names s) l kind))
blames names s l kind u r (inr is) (inl memory) = go kind is
  where
    go : (kind : CoreFaultKind) → r ≡ Err kind → IsBlamed names s l (kind_or kind u) r
    go Unexpected is = inl memory
    go kind is = inr (kind, is, refl)

pub same_fault : {T : Type 0} (f : Fault) (x y : Result T Fault) → y ≡ x → IsFault f x → IsFault f y
same_fault f x y e (inl memory) = inl memory
same_fault f x y e (inr is) = inr (e ∙ is)

pub same_kind : {T : Type 0} (k j : CoreFaultKind) (x y : Result T CoreFaultKind) → y ≡ x → j ≡ k → IsKind k x → IsKind j y
same_kind k j x y e f (inl memory) = inl (f ∙ memory)
same_kind k j x y e f (inr is) = inr (e ∙ is ∙ ap Err (sym f))

pub errs : {T E : Type 0} (r : Result T E) (e : E) (P : T → Type 0) (Q : E → Type 0) → r ≡ Err e → Q e → MatchResult r P Q
errs r e P Q is q = subst (λ r. MatchResult r P Q) (sym is) q
