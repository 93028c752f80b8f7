-- READING, token by token.
use Rattle.std.proofs.Common.{◌≡◌, ℕ, zero, suc, ◌+◌, ◌<◌, ◌≤◌, false, List, [], ◌∷◌, ◌++◌, map, drop, length, get_or, All, Result, Ok, Err, MatchResult}
use Rattle.std.proofs.Common.{inl, inr, refl, sym, ap, ap₂, ◌∙◌, subst, append_assoc, arith}
use Rattle.std.proofs.lemmas.List.{at_drop_all}
use Rattle.std.proofs.lemmas.List.Elements.{All-nil, All-cons, All-get_or}
use Rattle.std.specs.BTreeMap.{BTreeMap}
use Rattle.std.specs.Prelude.{OnOk}
use Rattle.lemmas.proofs.Lists.{drop_opens}
use Rattle.surface.specs.declared.fault.Fault.{Fault}
use Rattle.source.specs.declared.fault.FaultKind.{FaultKind as CoreFaultKind}
use Rattle.surface.specs.declared.fault.FaultKind.TheVariants.{Core}
use Rattle.surface.specs.declared.token.Token.{Token}
use Rattle.surface.specs.declared.word.Word.{Word}
use Rattle.source.specs.Tokens.{IsSpelledName}
use Rattle.source.specs.Tree.{Name}
use Rattle.surface.specs.Spelled as spelled
use Rattle.surface.specs.Spelled.{lexeme}
use Rattle.surface.specs.Words.{Words}
use Rattle.law_surface_text.specs.declared.symbol.Symbol.{Symbol}
use Rattle.law_surface_text.specs.declared.symbol.Symbol.TheVariants.{Items}
use Rattle.law_surface_text.specs.Automaton.{Stack, Moved, moved_after, advance, blamed, words_after, run_on, run, placed, parsed}
use Rattle.surface_text.specs.declared.lexeme.Lexeme.{Lexeme}
use Rattle.surface_text.specs.Outcomes.{lexeme_named, IsShallow}
use Rattle.surface_text.specs.Naming.{Extends, IsSaid, IsWellSpelled}
use Rattle.law_surface_text.specs.Named.{named_stack}
use Rattle.surface_text.specs.Running.{words_named, state, onward, ending, IsBlamed, IsFault}
use Rattle.surface_text.specs.Reading.{AreWellSpelled, IsStart, IsAdvanced, IsStopped, IsReading, AreParsed}
use Rattle.surface_text.proofs.Named.{extends_itself, extends_twice}
use Rattle.surface_text.proofs.Known.{known_words}
use denote.Ref.{Bor}

abbrev the_words : Words → Result Words Fault
the_words ws = Ok ws

pub same_words : (a b : Words) → the_words a ≡ the_words b → a ≡ b
same_words a b e = cc

words_twice : (a b : Words) (r : Result Words Fault) → words_after a (words_after b r) ≡ words_after (a ++ b) r
words_twice a b (Ok vs) = ap Ok (sym (append_assoc a b vs))
words_twice a b (Err fault) = refl

run_step : (w : Words) (S : Stack) (r : Result Moved CoreFaultKind) (at : ℕ) (l : spelled.Lexeme) (f : Stack → Result Words Fault) (m : Moved)
    → moved_after w r ≡ Ok m → words_after w (run_on 200 S at l r f) ≡ words_after m.appended (f m.stack)
run_step w S (Ok n) at l f m e =
    let is : record { appended = w ++ n.appended; stack = n.stack } ≡ m = cc in
    words_twice w n.appended (f n.stack) ∙ ap (λ (m : Moved). words_after m.appended (f m.stack)) is
run_step w S (Err kind) at l f m e = cc

run_stop : (w : Words) (S : Stack) (r : Result Moved CoreFaultKind) (at : ℕ) (l : spelled.Lexeme) (f : Stack → Result Words Fault) (raw kind : CoreFaultKind)
    → moved_after w r ≡ Err raw → kind ≡ blamed 200 S l raw
    → words_after w (run_on 200 S at l r f) ≡ Err (record { kind = Core kind; at = at })
run_stop w S (Ok n) at l f raw kind e b = cc
run_stop w S (Err k) at l f raw kind e b =
    let is : k ≡ raw = cc in
    ap (λ k. Err (record { kind = Core k; at = at })) (ap (blamed 200 S l) is ∙ sym b)

pub begins : (text : List ℕ) (ts : List Token) (numbers : BTreeMap (Bor (List ℕ)) ℕ) (table : List Name) (stack : List (Symbol ℕ)) (words : List (Word ℕ))
    → IsStart numbers table stack words → IsReading text ts 0 numbers table stack words
begins text ts numbers table stack words start = record {
  indexed = start.indexed;
  spelled = λ well. subst (All IsSpelledName) (sym start.no_names) (All-nil IsSpelledName);
  shallow = subst (All IsShallow) (sym start.only_items) (All-cons IsShallow Items [] tt (All-nil IsShallow));
  so_far = λ names e.
      words_nothing (parsed text ts)
      ∙ ap₂ (λ w s. words_after (words_named names w) (run 200 (length text) (named_stack names s) (map (placed text) ts))) (sym start.no_words)
      (sym start.only_items);
}
  where
    words_nothing : (r : Result Words Fault) → r ≡ words_after [] r
    words_nothing (Ok ws) = refl
    words_nothing (Err fault) = refl

module _ (text : List ℕ) (ts : List Token) (n : ℕ) (t : Token) (numbers : BTreeMap (Bor (List ℕ)) ℕ) (table : List Name) (stack : List (Symbol ℕ))
    (words : List (Word ℕ)) where
  opened : n < length ts → t ≡ get_or ts n t → (names : List Name) → IsReading text ts n numbers table stack words → Extends table names
      → parsed text ts ≡ words_after (words_named names words)
      (run 200 (length text) (named_stack names stack) (placed text t ∷ map (placed text) (drop (n + 1) ts)))
  opened h at names reading e =
      reading.so_far names e ∙ ap (λ l. words_after (words_named names words) (run 200 (length text) (named_stack names stack) (map (placed text) l)))
      (drop_opens ts n t h at)

  its_spelling : n < length ts → t ≡ get_or ts n t → AreWellSpelled text ts → IsWellSpelled (lexeme text t)
  its_spelling h at well =
      let its_own : Token → Type 0 = λ t. IsWellSpelled (lexeme text t) in subst its_own (sym at) (All-get_or its_own ts n t h well)

  pub reads_on : (new : BTreeMap (Bor (List ℕ)) ℕ) (table' : List Name) (stack' : List (Symbol ℕ)) (words' : List (Word ℕ)) → n < length ts → t ≡ get_or ts n t
      → IsReading text ts n numbers table stack words → IsAdvanced t.at (lexeme text t) table stack words new table' stack' words'
      → IsReading text ts (n + 1) new table' stack' words'
  reads_on new table' stack' words' h at reading advanced = record {
    indexed = advanced.indexed;
    spelled = λ well. advanced.spelled (reading.spelled well) (its_spelling h at well);
    shallow = advanced.shallow;
    so_far = λ names e.
        opened h at names reading (extends_twice table table' names advanced.extends e)
        ∙ run_step (words_named names words) (named_stack names stack) (advance 200 (named_stack names stack) false t.at (lexeme text t)) t.at (lexeme text t)
        (λ s. run 200 (length text) s (map (placed text) (drop (n + 1) ts))) (state names stack' words') (advanced.moved names e);
  }

  pub stops : (kind : CoreFaultKind) → n < length ts → t ≡ get_or ts n t → IsReading text ts n numbers table stack words
      → IsStopped t.at (lexeme text t) table stack words kind → IsFault (record { kind = Core kind; at = t.at }) (parsed text ts)
  stops kind h at reading stopped = go stopped.cause
    where
      go : IsBlamed stopped.names stack (lexeme text t) kind (onward false t.at (lexeme text t) (state stopped.names stack words))
          → IsFault (record { kind = Core kind; at = t.at }) (parsed text ts)
      go (inl memory) = inl (ap Core memory)
      go (inr (raw, is, blames)) = inr (opened h at stopped.names reading stopped.extends
          ∙ run_stop (words_named stopped.names words) (named_stack stopped.names stack)
          (advance 200 (named_stack stopped.names stack) false t.at (lexeme text t)) t.at (lexeme text t)
          (λ s. run 200 (length text) s (map (placed text) (drop (n + 1) ts))) raw kind is blames)

module _ (text : List ℕ) (ts : List Token) (n : ℕ) (numbers : BTreeMap (Bor (List ℕ)) ℕ) (table : List Name) (stack : List (Symbol ℕ)) (words : List (Word ℕ))
  where
    ended_so : (names : List Name) → length ts ≤ n → IsReading text ts n numbers table stack words → Extends table names
        → parsed text ts ≡ ending (length text) (state names stack words)
    ended_so names h reading e =
        reading.so_far names e
        ∙ at_drop_all (λ l. words_after (words_named names words) (run 200 (length text) (named_stack names stack) (map (placed text) l))) ts n h

    says : (read : List (Word ℕ)) → length ts ≤ n → IsReading text ts n numbers table stack words
        → ((names : List Name) → ending (length text) (state names stack words) ≡ Ok (words_named names read)) → (names : List Name) → Extends table names
        → parsed text ts ≡ Ok (words_named names read)
    says read h reading end names e = ended_so names h reading e ∙ end names

    pub ends_well : (read : List (Word ℕ)) → length ts ≤ n → IsReading text ts n numbers table stack words
        → ((names : List Name) → ending (length text) (state names stack words) ≡ Ok (words_named names read)) → AreParsed text ts table read
    ends_well read h reading end = record {
      said = says read h reading end table (extends_itself table);
      known = known_words table read (λ names e. same_words _ _ (sym (says read h reading end table (extends_itself table)) ∙ says read h reading end names e));
      distinct = reading.indexed.distinct;
      spelled = reading.spelled;
    }

    pub ends_badly : (fault : Fault) → length ts ≤ n → IsReading text ts n numbers table stack words
        → IsFault fault (ending (length text) (state table stack words)) → IsFault fault (parsed text ts)
    ends_badly fault h reading (inl memory) = inl memory
    ends_badly fault h reading (inr is) = inr (ended_so table h reading (extends_itself table) ∙ is)

    pub finishes : {P E : Type 0} (names_of : P → List Name) (words_of : P → List (Word ℕ)) (fault_of : E → Fault) (r : Result P E) → length ts ≤ n
        → IsReading text ts n numbers table stack words
        → MatchResult r (λ p. (names_of p ≡ table) × ((names : List Name) → ending (length text) (state names stack words) ≡ Ok
        (words_named names (words_of p))))
        (λ e. IsFault (fault_of e) (ending (length text) (state table stack words)))
        → MatchResult r (λ p. AreParsed text ts (names_of p) (words_of p)) (λ e. IsFault (fault_of e) (parsed text ts))
    finishes names_of words_of fault_of (Ok p) h reading end = subst (λ names. AreParsed text ts names (words_of p)) (sym end.0)
        (ends_well (words_of p) h reading end.1)
    finishes names_of words_of fault_of (Err e) h reading end = ends_badly (fault_of e) h reading end

-- ONE TOKEN
pub advances : {U E : Type 0} (kind_of : E → CoreFaultKind) (at : ℕ) (l : Lexeme) (meant : spelled.Lexeme) (numbers : BTreeMap (Bor (List ℕ)) ℕ)
    (old table : List Name)
    (s : List (Symbol ℕ)) (w : List (Word ℕ)) (s' : List (Symbol ℕ)) (w' : List (Word ℕ)) (r : Result U E) → IsSaid old numbers table meant l
    → ((names : List Name) → MatchResult r (λ _. onward false at (lexeme_named names l) (state names s w) ≡ Ok (state names s' w'))
    (λ e. IsBlamed names s (lexeme_named names l) (kind_of e) (onward false at (lexeme_named names l) (state names s w))))
    → OnOk r (All IsShallow s')
    → MatchResult r (λ _. IsAdvanced at meant old s w numbers table s' w') (λ e. IsStopped at meant old s w (kind_of e))
advances kind_of at l meant numbers old table s w s' w' (Ok u) said took shallow = record {
  indexed = said.table;
  extends = said.extends;
  spelled = said.spelled;
  shallow = shallow;
  moved = λ names e. ap (λ l. onward false at l (state names s w)) (sym (said.says names e)) ∙ took names;
}
advances kind_of at l meant numbers old table s w s' w' (Err e) said took shallow = record {
  names = table;
  extends = said.extends;
  cause = subst (λ l. IsBlamed table s l (kind_of e) (onward false at l (state table s w))) (said.says table (extends_itself table)) (took table);
}

pub same_read : {X : Type 0} (xs : List X) (i : ℕ) (d e : X) → i < length xs → get_or xs i d ≡ get_or xs i e
same_read [] i d e h = absurd (omega arith)
same_read (x ∷ xs) zero d e h = refl
same_read (x ∷ xs) (suc i) d e h = same_read xs i d e (omega arith)
