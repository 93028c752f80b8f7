-- WHAT A SYMBOL DOES to a parser's state, with numbers for names.
use Rattle.std.proofs.Common.{◌≡◌, ℕ, length, arith, Bool, true, false, List, [], ◌∷◌, ◌++◌, map, reverse, Option, None, Some, Result, Ok, Err}
use Rattle.std.proofs.Common.{MatchResult, if◌then◌else◌, inl, inr, refl, sym, ap, ap₂, ◌∙◌, subst, append_assoc, append-nil}
use Rattle.std.proofs.lemmas.List.{map-append, reverse-append}
use Rattle.std.proofs.lemmas.List.Elements.{All-append, All-push, All-head, All-tail}
use Rattle.std.specs.Prelude.{All, option_to_list}
use Rattle.source.specs.declared.fault.Fault.{Fault}
use Rattle.source.specs.declared.fault.FaultKind.{FaultKind}
use Rattle.source.specs.declared.fault.FaultKind.TheVariants.{Unended}
use Rattle.source.specs.declared.word.Word.{Word}
use Rattle.source.specs.Tree.{Name}
use Rattle.source.specs.Spelled.{Lexeme}
use Rattle.source.specs.Words.{Words, named}
use Rattle.law_language.specs.declared.symbol.Symbol.{Symbol}
use Rattle.law_language.specs.declared.symbol.Symbol.TheVariants.{Emit, Items}
use Rattle.law_language.specs.GrammarAutomaton.{Outcome, Takes, Passes, Refuses, Moved, moved_after, advance, step, ended, ended_then, finish}
use Rattle.law_language.specs.GrammarAutomaton.{finished, words_after}
use Rattle.law_language.specs.GrammarNamed.{named_symbol, named_stack}
use Rattle.source_text.specs.declared.outcome.Pushes.{Pushes}
use Rattle.source_text.specs.declared.outcome.Outcome.TheVariants as done
use Rattle.source_text.specs.declared.reaction.Reaction.{Reaction}
use Rattle.source_text.specs.Outcomes.{few, shown, doing_named, behind, atop, reaction_named, IsShallow, AreShallow, IsShallowBelow, AreAllShallow}
use Rattle.source_text.specs.Running.{words_named, state, onward, reacted, ending, IsKind, IsFault}

abbrev the_moved : Words → List (Symbol Name) → Result Moved FaultKind
the_moved a s = Ok (record { appended = a; stack = s })

-- CASES
pub chosen : {T : Type 0} (b : Bool) (x y z : T) → x ≡ (if b then y else z) → b ≡ true → x ≡ y
chosen true x y z e f = e
chosen false x y z e f = cc

pub not_chosen : {T : Type 0} (b : Bool) (x y z : T) → x ≡ (if b then y else z) → b ≡ false → x ≡ z
not_chosen true x y z e f = cc
not_chosen false x y z e f = e

pub same_kind : {T : Type 0} (k j : FaultKind) (x y : Result T FaultKind) → y ≡ x → j ≡ k → IsKind k x → IsKind j y
same_kind k j x y e f (inl memory) = inl (f ∙ memory)
same_kind k j x y e f (inr is) = inr (e ∙ is ∙ ap Err (sym f))

pub same_fault : {T : Type 0} (f : Fault) (x y : Result T Fault) → y ≡ x → IsFault f x → IsFault f y
same_fault f x y e (inl memory) = inl memory
same_fault f x y e (inr is) = inr (e ∙ is)

pub errs : {T E : Type 0} (r : Result T E) (e : E) (P : T → Type 0) (Q : E → Type 0) → r ≡ Err e → Q e → MatchResult r P Q
errs r e P Q is q = subst (λ r. MatchResult r P Q) (sym is) q

-- DEPTH
all_reversed : (xs : List (Symbol ℕ)) → All IsShallow xs → All IsShallow (reverse xs)
all_reversed [] h = h
all_reversed (x ∷ xs) h =
    subst (All IsShallow) (sym (reverse-append (x ∷ []) xs))
    (All-push IsShallow (reverse xs) x (all_reversed xs (All-tail IsShallow x xs h)) (All-head IsShallow x xs h))

pushed_shallow : (s : List (Symbol ℕ)) (below : Option (Symbol ℕ)) → All IsShallow s → IsShallowBelow below → All IsShallow (s ++ option_to_list below)
pushed_shallow s None h k = subst (All IsShallow) (sym (append-nil s)) h
pushed_shallow s (Some x) h k = All-push IsShallow s x h k

pub stays_shallow : (s t : List (Symbol ℕ)) (r : Reaction) (p : Pushes) → r.outcome ≡ done.Takes
    → t ≡ s ++ option_to_list r.below ++ reverse (few p.symbols) → All IsShallow s → AreAllShallow r p → All IsShallow t
stays_shallow s t r p is e h k =
    subst (All IsShallow) (sym e)
    (All-append IsShallow (s ++ option_to_list r.below) (reverse (few p.symbols)) (pushed_shallow s r.below h k.1)
    (all_reversed (few p.symbols) (subst (λ o. AreShallow o p) is k.0)))

module _ (names : List Name) where
  pub stack_more : (s : List (Symbol ℕ)) (x : Symbol ℕ) → named_stack names (s ++ x ∷ []) ≡ named_symbol names x ∷ named_stack names s
  stack_more s x = ap reverse (map-append (named_symbol names) s (x ∷ [])) ∙ reverse-append (map (named_symbol names) s) (named_symbol names x ∷ [])

  pub stack_pushed : (s xs : List (Symbol ℕ)) → named_stack names (s ++ reverse xs) ≡ map (named_symbol names) xs ++ named_stack names s
  stack_pushed s [] = ap (named_stack names) (append-nil s)
  stack_pushed s (x ∷ xs) =
      ap (λ ys. named_stack names (s ++ ys)) (reverse-append (x ∷ []) xs)
      ∙ ap (named_stack names) (sym (append_assoc s (reverse xs) (x ∷ [])))
      ∙ stack_more (s ++ reverse xs) x
      ∙ ap (λ t. named_symbol names x ∷ t) (stack_pushed s xs)

  pub words_pushed : (w v : List (Word ℕ)) → words_named names (w ++ v) ≡ words_named names w ++ words_named names v
  words_pushed w v = map-append (named names) w v

  words_acted : (w b v : List (Word ℕ)) → words_named names w ++ (words_named names b ++ words_named names v) ≡ words_named names (w ++ b ++ v)
  words_acted w b v =
      sym (append_assoc (words_named names w) (words_named names b) (words_named names v))
      ∙ sym (words_pushed (w ++ b) v ∙ ap (λ u. u ++ words_named names v) (words_pushed w b))

  same_moved : (a b : Words) (s t : List (Symbol Name)) → a ≡ b → s ≡ t → the_moved a s ≡ the_moved b t
  same_moved a b s t e f = ap₂ the_moved e f

  stack_below : (s : List (Symbol ℕ)) (y : Symbol ℕ) (symbols : List (Symbol ℕ))
      → map (named_symbol names) symbols ++ named_symbol names y ∷ [] ++ named_stack names s ≡ named_stack names (s ++ y ∷ [] ++ reverse symbols)
  stack_below s y symbols =
      append_assoc (map (named_symbol names) symbols) (named_symbol names y ∷ []) (named_stack names s)
      ∙ sym (stack_pushed (s ++ y ∷ []) symbols ∙ ap (λ t. map (named_symbol names) symbols ++ t) (stack_more s y))

  pub acted_takes : (at : ℕ) (l : Lexeme) (s : List (Symbol ℕ)) (w : List (Word ℕ)) (before : Option (Word ℕ)) (below : Option (Symbol ℕ))
      (words : List (Word ℕ)) (symbols : List (Symbol ℕ))
      → reacted at l (state names s w) (behind names before (atop names below (Takes (words_named names words) (map (named_symbol names) symbols))))
      ≡ Ok (state names (s ++ option_to_list below ++ reverse symbols) (w ++ option_to_list before ++ words))
  acted_takes at l s w None None words symbols =
      same_moved _ _ _ _ (words_acted w [] words) (sym (ap (λ t. named_stack names (t ++ reverse symbols)) (append-nil s) ∙ stack_pushed s symbols))
  acted_takes at l s w (Some x) None words symbols =
      same_moved _ _ _ _ (words_acted w (x ∷ []) words) (sym (ap (λ t. named_stack names (t ++ reverse symbols)) (append-nil s) ∙ stack_pushed s symbols))
  acted_takes at l s w None (Some y) words symbols =
      same_moved _ _ _ _ (words_acted w [] words) (stack_below s y symbols)
  acted_takes at l s w (Some x) (Some y) words symbols =
      same_moved _ _ _ _ (words_acted w (x ∷ []) words) (stack_below s y symbols)

  pub acts_takes : (at : ℕ) (l : Lexeme) (s : List (Symbol ℕ)) (w : List (Word ℕ)) (r : Reaction) (p : Pushes)
      (t : List (Symbol ℕ)) (v : List (Word ℕ)) → r.outcome ≡ done.Takes → t ≡ s ++ option_to_list r.below ++ reverse (few p.symbols)
      → v ≡ w ++ option_to_list r.before ++ few p.words → reacted at l (state names s w) (reaction_named names r p) ≡ Ok (state names t v)
  acts_takes at l s w r p t v is e f =
      ap (λ o. reacted at l (state names s w) (behind names r.before (atop names r.below (doing_named names (shown o p))))) is
      ∙ acted_takes at l s w r.before r.below (few p.words) (few p.symbols)
      ∙ ap₂ (λ s w. the_moved (words_named names w) (named_stack names s)) (sym e) (sym f)

  moved_twice : (a b : Words) (r : Result Moved FaultKind) → moved_after a (moved_after b r) ≡ moved_after (a ++ b) r
  moved_twice a b (Ok m) = same_moved _ _ _ _ (sym (append_assoc a b m.appended)) refl
  moved_twice a b (Err kind) = refl

  pub acted_passes : (at : ℕ) (l : Lexeme) (s : List (Symbol ℕ)) (w : List (Word ℕ)) (before : Option (Word ℕ)) (below : Option (Symbol ℕ))
      → reacted at l (state names s w) (behind names before (atop names below (Passes []))) ≡ onward at l (state names s (w ++ option_to_list before))
  acted_passes at l s w None None = moved_twice (words_named names w) [] _
      ∙ ap (λ u. moved_after u (advance 200 (named_stack names s) at l)) (sym (words_pushed w []))
  acted_passes at l s w None (Some y) = moved_twice (words_named names w) [] _
      ∙ ap (λ u. moved_after u (advance 200 (named_stack names s) at l)) (sym (words_pushed w []))
  acted_passes at l s w (Some x) None =
      moved_twice (words_named names w) (named names x ∷ []) _
      ∙ ap (λ u. moved_after u (advance 200 (named_stack names s) at l)) (sym (words_pushed w (x ∷ [])))
  acted_passes at l s w (Some x) (Some y) =
      moved_twice (words_named names w) (named names x ∷ []) _
      ∙ ap (λ u. moved_after u (advance 200 (named_stack names s) at l)) (sym (words_pushed w (x ∷ [])))

  pub acted_refuses : (at : ℕ) (l : Lexeme) (s : List (Symbol ℕ)) (w : List (Word ℕ)) (before : Option (Word ℕ)) (below : Option (Symbol ℕ)) (kind : FaultKind)
      → reacted at l (state names s w) (behind names before (atop names below (Refuses kind))) ≡ Err kind
  acted_refuses at l s w None None kind = refl
  acted_refuses at l s w None (Some y) kind = refl
  acted_refuses at l s w (Some x) None kind = refl
  acted_refuses at l s w (Some x) (Some y) kind = refl

  -- the symbol on top meets the token
  pub popped : (at : ℕ) (l : Lexeme) (s t : List (Symbol ℕ)) (x : Symbol ℕ) (w : List (Word ℕ)) → s ≡ t ++ x ∷ []
      → onward at l (state names s w) ≡ reacted at l (state names t w) (step 200 (named_symbol names x) at l)
  popped at l s t x w e = ap (λ stack. moved_after (words_named names w) (advance 200 stack at l)) (ap (named_stack names) e ∙ stack_more t x)

  pub met : (at : ℕ) (l : Lexeme) (s t : List (Symbol ℕ)) (x : Symbol ℕ) (w : List (Word ℕ)) (o : Outcome) → s ≡ t ++ x ∷ [] → o
      ≡ step 200 (named_symbol names x) at l
      → onward at l (state names s w) ≡ reacted at l (state names t w) o
  met at l s t x w o e is = popped at l s t x w e ∙ ap (reacted at l (state names t w)) (sym is)

  -- THE END
  ends_after : (end : ℕ) (a b : Words) (o : Option Words) → words_after a (finished end (ended_then (Some b) o)) ≡ words_after (a ++ b) (finished end o)
  ends_after end a b None = refl
  ends_after end a b (Some vs) = ap Ok (sym (append_assoc a b vs))

  pub ends_with_word : (end : ℕ) (s t : List (Symbol ℕ)) (x : Word ℕ) (w v : List (Word ℕ)) → s ≡ t ++ Emit x ∷ [] → v ≡ w ++ x ∷ []
      → ending end (state names s w) ≡ ending end (state names t v)
  ends_with_word end s t x w v e f =
      ap (λ stack. words_after (words_named names w) (finished end (finish stack))) (ap (named_stack names) e ∙ stack_more t (Emit x))
      ∙ ends_after end (words_named names w) (named names x ∷ []) (finish (named_stack names t))
      ∙ ap (λ u. words_after u (finished end (finish (named_stack names t)))) (sym (ap (words_named names) f ∙ words_pushed w (x ∷ [])))

  pub ends_with_items : (end : ℕ) (s t : List (Symbol ℕ)) (w : List (Word ℕ)) → s ≡ t ++ Items ∷ []
      → ending end (state names s w) ≡ ending end (state names t w)
  ends_with_items end s t w e =
      ap (λ stack. words_after (words_named names w) (finished end (finish stack))) (ap (named_stack names) e ∙ stack_more t Items)
      ∙ ends_after end (words_named names w) [] (finish (named_stack names t))
      ∙ ap (λ u. words_after u (finished end (finish (named_stack names t)))) (append-nil (words_named names w))

  pub ends_early : (end : ℕ) (s t : List (Symbol ℕ)) (x : Symbol ℕ) (w : List (Word ℕ)) → s ≡ t ++ x ∷ [] → ended (named_symbol names x) ≡ None
      → ending end (state names s w) ≡ Err (record { kind = Unended; at = end })
  ends_early end s t x w e none =
      ap (λ stack. words_after (words_named names w) (finished end (finish stack))) (ap (named_stack names) e ∙ stack_more t x)
      ∙ ap (λ o. words_after (words_named names w) (finished end (ended_then o (finish (named_stack names t))))) none

  pub ends : (end : ℕ) (s : List (Symbol ℕ)) (w : List (Word ℕ)) → length s ≡ 0 → ending end (state names s w) ≡ Ok (words_named names w)
  ends end [] w e = ap Ok (append-nil (words_named names w))
  ends end (x ∷ s) w e = absurd (omega (arith, e))
