-- What a word does.
use Rattle.std.specs.Prelude.{◌≡◌, ℕ, suc, ◌+◌, ◌-◌, ◌<◌, ◌≤◌, ◌⊎◌, Bool, List, [], ◌∷◌, ◌++◌, length, reverse, take, drop, slice_index_or, Result, Ok, Err, ⊤}
use Rattle.std.proofs.Common.{◌∙◌, ap, sym, subst, arith, inl, inr}
use Rattle.std.proofs.lemmas.List.{reverse-append, length-drop}
use Rattle.std.proofs.Math.Seq.{drop-cons, take-length}
use Rattle.source.specs.declared.word.Word.{Word as CoreWord}
use Rattle.source.specs.Tree.{Name}
use Rattle.surface.specs.declared.fault.Fault.{Fault}
use Rattle.surface.specs.declared.word.Word.{Word}
use Rattle.surface.specs.First.{◌>>=◌}
use Rattle.surface_check.specs.declared.machine.Mode.{Mode}
use Rattle.surface_check.specs.declared.machine.Mode.TheVariants as mode
use Rattle.surface_check.specs.Evaluates.{Evaluation, strict_ahead}
use Rattle.surface_check.specs.Heads.{Names}
use Rattle.surface_check.specs.Machine.{Ends, MachineView, state_by, state_in, ahead, closing, word_closing, first_or_false}
use Rattle.surface_check.specs.Renamed.{numbers_in}
use Rattle.surface_check.specs.Steps.{Items, Open, State, Plain, Measuring, core_step, plain_step, step, steps}
use Rattle.surface_check.specs.Table.{DoesAs, out_of_memory}
use Rattle.surface_check.proofs.Closings.{first_closing}

-- what is open in a function is changed, and the next word is checked
pub does_plainly : (result : Result ⊤ Fault) (s : Open ℕ) (c : Evaluation) (m : Mode) (wanted other : Result (State ℕ) Fault) → m ≡ mode.Plain
    → DoesAs result (Plain s) other → wanted ≡ other → DoesAs result (state_by s c m) wanted
does_plainly result s c m wanted other e d w =
    subst (λ (n : Mode). DoesAs result (state_by s c n) wanted) (sym e) (subst (λ (r : Result (State ℕ) Fault). DoesAs result (Plain s) r) (sym w) d)

pub core_word_step : (names : List Name) (k : Items ℕ) (s t : Open ℕ) (w v : CoreWord ℕ) (later : List (Word ℕ)) → w ≡ v → s ≡ t
    → core_step (numbers_in names) k s w later ≡ core_step (numbers_in names) k t v later
core_word_step names k s t w v later e f = λ i. core_step (numbers_in names) k (f i) (e i) later

pub word_step : (names : List Name) (k : Items ℕ) (s t : Open ℕ) (w v : Word ℕ) (later : List (Word ℕ)) → w ≡ v → s ≡ t
    → plain_step (numbers_in names) k s w later ≡ plain_step (numbers_in names) k t v later
word_step names k s t w v later e f = λ i. plain_step (numbers_in names) k (f i) (e i) later

pub measuring_state : (v : MachineView) (at rank : ℕ) → v.mode ≡ mode.Measuring at rank → state_in v ≡ Measuring v.opened at rank v.evaluator
measuring_state v at rank e = ap (state_by v.opened v.evaluator) e

-- where more than one word does the same
pub one_of_three : (names : List Name) (k : Items ℕ) (s t : Open ℕ) (w a b c : CoreWord ℕ) (later : List (Word ℕ)) (r : Result (State ℕ) Fault)
    → (w ≡ a) ⊎ ((w ≡ b) ⊎ (w ≡ c)) → s ≡ t → core_step (numbers_in names) k t a later ≡ r → core_step (numbers_in names) k t b later ≡ r
    → core_step (numbers_in names) k t c later ≡ r → core_step (numbers_in names) k s w later ≡ r
one_of_three names k s t w a b c later r (inl e) f p q o = core_word_step names k s t w a later e f ∙ p
one_of_three names k s t w a b c later r (inr (inl e)) f p q o = core_word_step names k s t w b later e f ∙ q
one_of_three names k s t w a b c later r (inr (inr e)) f p q o = core_word_step names k s t w c later e f ∙ o

-- WORDS one after another
pub next_word : (words : List (Word ℕ)) (i : ℕ) (d : Word ℕ) → i < length words → drop i words ≡ slice_index_or words i d ∷ drop (i + 1) words
next_word words i d h = let e : suc i ≡ i + 1 = omega arith in drop-cons words i d h ∙ ap (λ (j : ℕ). slice_index_or words i d ∷ drop j words) e

pub strict_next : (words : List (Word ℕ)) (i : ℕ) (d : Word ℕ) (left : List Bool) (strict : Bool) → i < length words → left ≡ ahead (drop i words)
    → strict ≡ first_or_false left → strict ≡ strict_ahead (drop (i + 1) words) 0
strict_next words i d left strict h e f = f ∙ ap first_or_false (e ∙ ap ahead (next_word words i d h))

pub ahead_next : (words : List (Word ℕ)) (i : ℕ) (d : Word ℕ) (left rest : List Bool) → i < length words → left ≡ ahead (drop i words) → rest ≡ drop 1 left
    → rest ≡ ahead (drop (i + 1) words)
ahead_next words i d left rest h e f = f ∙ ap (drop 1) (e ∙ ap ahead (next_word words i d h))

step_on : (t : Names ℕ) (k : Items ℕ) (words : List (Word ℕ)) (i : ℕ) (d : Word ℕ) (v : State ℕ) → i < length words
    → steps t k v (drop i words) ≡ (step t k v (slice_index_or words i d) (drop (i + 1) words) >>= λ next. steps t k next (drop (i + 1) words))
step_on t k words i d v h = ap (steps t k v) (next_word words i d h)

pub goes_on : (t : Names ℕ) (k : Items ℕ) (words : List (Word ℕ)) (i : ℕ) (d : Word ℕ) (v next : State ℕ) → i < length words
    → step t k v (slice_index_or words i d) (drop (i + 1) words) ≡ Ok next → steps t k v (drop i words) ≡ steps t k next (drop (i + 1) words)
goes_on t k words i d v next h e = step_on t k words i d v h ∙ ap (λ (r : Result (State ℕ) Fault). r >>= λ n. steps t k n (drop (i + 1) words)) e

pub ends_there : (t : Names ℕ) (k : Items ℕ) (words : List (Word ℕ)) (i : ℕ) (d : Word ℕ) (v : State ℕ) (f : Fault) → i < length words
    → step t k v (slice_index_or words i d) (drop (i + 1) words) ≡ Err f → steps t k v (drop i words) ≡ Err f
ends_there t k words i d v f h e = step_on t k words i d v h ∙ ap (λ (r : Result (State ℕ) Fault). r >>= λ n. steps t k n (drop (i + 1) words)) e

pub later_is : (words : List (Word ℕ)) (i : ℕ) → take (length words - i) (drop i words) ≡ drop i words
later_is words i = ap (λ (n : ℕ). take n (drop i words)) (sym (length-drop i words)) ∙ take-length (drop i words)

pub ends_with : (result : Result ⊤ Fault) (f : Fault) (wanted : Result (State ℕ) Fault) → result ≡ Err f → (f ≡ out_of_memory) ⊎ (wanted ≡ Err f)
    → Ends result wanted
ends_with result f wanted e h = subst (λ (r : Result ⊤ Fault). Ends r wanted) (sym e) h

pub stops : (t : Names ℕ) (k : Items ℕ) (words : List (Word ℕ)) (i : ℕ) (d : Word ℕ) (v : State ℕ) (f : Fault) (whole : Result (State ℕ) Fault)
    → i < length words → steps t k v (drop i words) ≡ whole
    → (f ≡ out_of_memory) ⊎ (step t k v (slice_index_or words i d) (take (length words - (i + 1)) (drop (i + 1) words)) ≡ Err f)
    → (f ≡ out_of_memory) ⊎ (whole ≡ Err f)
stops t k words i d v f whole h e (inl m) = inl m
stops t k words i d v f whole h e (inr m) =
    inr (sym e ∙ ends_there t k words i d v f h (ap (step t k v (slice_index_or words i d)) (sym (later_is words (i + 1))) ∙ m))

-- and from the last to the first
less_one : (i : ℕ) → 0 < i → i - 1 + 1 ≡ i
less_one i h = omega (arith, h)

pub closing_before : (words : List (Word ℕ)) (i : ℕ) (d : Word ℕ) (old new : List Bool) → 0 < i → i ≤ length words → old ≡ closing (drop i words)
    → new ≡ word_closing (slice_index_or words (i - 1) d) old → new ≡ closing (drop (i - 1) words)
closing_before words i d old new p q e f =
    f ∙ ap (word_closing (slice_index_or words (i - 1) d)) (e ∙ ap (λ (j : ℕ). closing (drop j words)) (sym (less_one i p)))
    ∙ ap closing (sym (next_word words (i - 1) d (omega (arith, p, q))))

pub ahead_before : (words : List (Word ℕ)) (i : ℕ) (d : Word ℕ) (old new : List Bool) (left : List Bool) (first : Bool) → 0 < i → i ≤ length words
    → left ≡ closing (drop i words) → first ≡ first_or_false left → reverse old ≡ ahead (drop i words) → new ≡ old ++ first ∷ []
    → reverse new ≡ ahead (drop (i - 1) words)
ahead_before words i d old new left first p q e f g h =
    ap reverse h ∙ reverse-append old (first ∷ []) ∙ (λ k. strict k ∷ g k) ∙ ap (λ (j : ℕ). strict_ahead (drop j words) 0 ∷ ahead (drop j words)) (sym (less_one i p))
    ∙ ap ahead (sym (next_word words (i - 1) d (omega (arith, p, q))))
  where
    strict : first ≡ strict_ahead (drop i words) 0
    strict = f ∙ ap first_or_false e ∙ first_closing (drop i words)
