-- FAULTS: the first fault of a run is the fault of the text.
use Rattle.std.proofs.Common.{◌≡◌, ℕ, ◌+◌, ◌≤◌, List, [], ◌∷◌, ◌++◌, map, length, None, Some, Result, Ok, Err, refl, sym, ap, ◌∙◌, subst, append_assoc, arith}
use Rattle.std.proofs.Common.{inl, inr}
use Rattle.std.specs.Prelude.{◌^◌, ◌⊎◌}
use Rattle.source.specs.declared.fault.Fault.{Fault}
use Rattle.source.specs.declared.fault.FaultKind.{FaultKind}
use Rattle.source.specs.declared.fault.FaultKind.TheVariants as fault
use Rattle.source.specs.declared.token.Sign.TheVariants as sign
use Rattle.source.specs.declared.token.Token.{Token}
use Rattle.source.specs.Tree.{Program}
use Rattle.source.specs.Spelled.{Lexeme, TheSign, TheNumber, lexeme, program_tokens}
use Rattle.source.specs.Fits.{FitsProgram, program_depth}
use Rattle.source.specs.Words.{Words}
use Rattle.source.specs.Parses.{GoesOn, GoesOnDeeply, IsNoCell, IsTooLarge, IsKindAt, IsRefusedAt, IsUnended, Refuses, at_token, at_end, lexemes, says}
use Rattle.law_language.specs.declared.symbol.Symbol.TheVariants.{Items}
use Rattle.law_language.specs.GrammarAutomaton.{Placed, placed, Moved, advance, finish, parsed}
use Rattle.law_language.specs.GrammarReady.{AllReady}
use Rattle.law_language.proofs.GrammarRuns.{advance_all, Ran, whole, unended, stopped, ran}
use Rattle.law_language.proofs.GrammarSound.{said, said_lexemes, goes, ready_so_far}
use Rattle.law_language.proofs.GrammarComplete.{program_advances}
use Rattle.law_language.proofs.GrammarAlike.{alike_self, Blame}
use Rattle.law_language.proofs.GrammarPaired.{PairedMoved, moved_fault, moved_neither, moved_itself, paired_cell, paired_number, paired_advance}
use Rattle.law_language.proofs.GrammarTwoRuns.{LikeMoved, ok_alike, err_alike, both_deep, one_deep, like_advance, alike_run}
use Rattle.law_language.proofs.GrammarGoingOn.{AlikeOption, alike_finish, not_both, placed_of, spells_itself, said_of, said_more, advance_more, further}
use Rattle.law_language.proofs.GrammarGoingOn.{like_further}

-- AFTER WHAT WAS READ
pub record GoesAt (limit : ℕ) (m : Moved) (at : ℕ) (l : Lexeme) : Type 0 where
  pub next : Moved
  pub is : advance limit m.stack at l ≡ Ok next

-- the two limits are the same
taken_too : (limit : ℕ) (l : Lexeme) (r : Result Moved FaultKind) (n : Moved) → LikeMoved limit limit l r (Ok n) → (k : Moved) × (r ≡ Ok k)
taken_too limit l _ n (ok_alike {m = k} a) = (k, refl)
taken_too limit l _ n (one_deep h) = absurd (omega arith)

too_deep_only : (limit most : ℕ) (l : Lexeme) (kind : FaultKind) (r : Result Moved FaultKind) (n : Moved) → LikeMoved limit most l r (Ok n) → r ≡ Err kind
    → kind ≡ fault.TooDeep
too_deep_only limit most l kind _ n (ok_alike a) e = absurd cc
too_deep_only limit most l kind _ n (one_deep h) e = cc

good_too : (kind : FaultKind) (r q : Result Moved FaultKind) → PairedMoved kind r q → q ≡ Err kind → (kind ≡ fault.Unexpected → ⊥) → (n : Moved) × (r ≡ Ok n)
good_too kind _ _ (moved_fault {m = n}) e other = (n, refl)
good_too kind _ _ moved_neither e other = absurd (other cc)
good_too kind r _ moved_itself e other = absurd cc

bad_too : (kind : FaultKind) (r q : Result Moved FaultKind) (n : Moved) → PairedMoved kind r q → r ≡ Ok n → q ≡ Err fault.Unexpected
    → (kind ≡ fault.Unexpected → ⊥) → ⊥
bad_too kind _ _ n moved_fault e f other = other cc
bad_too kind _ _ n moved_neither e f other = cc
bad_too kind r _ n moved_itself e f other = cc

goes_deeply : (before : List Placed) (p : Placed) (m n : Moved) → advance_all 203 (Items ∷ []) before ≡ Ok m → advance 203 m.stack p.at p.lexeme ≡ Ok n
    → GoesOnDeeply (said before ++ p.lexeme ∷ [])
goes_deeply before p m n read e =
    let g = goes 203 (omega arith) (before ++ p ∷ []) _ (advance_more 203 (Items ∷ []) before p m n read e) in
    record { program = g.program; rest = g.rest; fits = g.fits; says_so = g.says_so ∙ ap (λ ls. ls ++ g.rest) (said_more before p) }

module _ (before : List Placed) (m : Moved) (read : advance_all 200 (Items ∷ []) before ≡ Ok m) (at : ℕ) where
  ready : AllReady 200 m.stack
  ready = ready_so_far 200 (omega arith) before m read

  went_on : GoesOn (said before)
  went_on = let g = goes 200 (omega arith) before m read in record { program = g.program; rest = g.rest; fits = g.fits; depth = g.deep; says_so = g.says_so }

  goes_with : (l : Lexeme) (n : Moved) → advance 200 m.stack at l ≡ Ok n → GoesOn (said before ++ l ∷ [])
  goes_with l n e =
      let p : Placed = record { at = at; lexeme = l } in
      let g = goes 200 (omega arith) (before ++ p ∷ []) _ (advance_more 200 (Items ∷ []) before p m n read e) in
      record { program = g.program; rest = g.rest; fits = g.fits; depth = g.deep; says_so = g.says_so ∙ ap (λ ls. ls ++ g.rest) (said_more before p) }

  takes_with : (l : Lexeme) → GoesOn (said before ++ l ∷ []) → (n : Moved) × (advance 200 m.stack at l ≡ Ok n)
  takes_with l g =
      let f = further 200 200 (inl refl) (omega arith) before m read g.program g.fits g.depth l g.rest
      (g.says_so ∙ append_assoc (said before) (l ∷ []) g.rest) in
      taken_too 200 l (advance 200 m.stack at l) f.next (like_further 200 200 (inl refl) (omega arith) before m read l at f)

  module _ (l : Lexeme) (kind : FaultKind) (err : advance 200 m.stack at l ≡ Err kind) where
    no_program : GoesOn (said before ++ l ∷ []) → ⊥
    no_program g = let t = takes_with l g in let e = t.1 in cc

    only_deep : GoesOnDeeply (said before ++ l ∷ []) → kind ≡ fault.TooDeep
    only_deep g =
        let most : ℕ = program_depth g.program + 203 in
        let wide : (most ≡ 200) ⊎ (200 + 3 ≤ most) = inr (omega arith) in
        let f = further 200 most wide (omega arith) before m read g.program g.fits (omega arith) l g.rest
        (g.says_so ∙ append_assoc (said before) (l ∷ []) g.rest) in
        too_deep_only 200 most l kind (advance 200 m.stack at l) f.next (like_further 200 most wide (omega arith) before m read l at f) err

    -- where more may be open
    deeper : (r : Result Moved FaultKind) → LikeMoved 200 203 l (Err fault.TooDeep) r → (n : Moved) × (r ≡ Ok n)
    deeper _ (one_deep {n = n} h) = (n, refl)
    deeper _ (both_deep e) = absurd (omega arith)
    deeper _ (err_alike _ b) = absurd b

    is_deep : kind ≡ fault.TooDeep → GoesOnDeeply (said before ++ l ∷ [])
    is_deep deep =
        let r = alike_run 200 203 (inr (omega arith)) before before (Items ∷ []) (Items ∷ []) m refl (alike_self (Items ∷ [])) (omega arith, tt) read in
        let like = like_advance 200 203 (inr (omega arith)) m.stack r.moved.stack r.alike ready at at l in
        let here : advance 200 m.stack at l ≡ Err fault.TooDeep = err ∙ ap (λ k. Err k) deep in
        let d = deeper (advance 203 r.moved.stack at l) (subst (λ x. LikeMoved 200 203 l x (advance 203 r.moved.stack at l)) here like) in
        goes_deeply before (record { at = at; lexeme = l }) r.moved d.0 r.is d.1

  module _ (l : Lexeme) where
    not_deep : (kind : FaultKind) → advance 200 m.stack at l ≡ Err kind → (kind ≡ fault.TooDeep → ⊥) → GoesOnDeeply (said before ++ l ∷ []) → ⊥
    not_deep kind err other g = other (only_deep l kind err g)

    no_cell : advance 200 m.stack at l ≡ Err fault.Unexpected → IsNoCell (said before) l → ⊥
    no_cell err h =
        let t = takes_with (TheSign sign.Plus) h.1 in
        bad_too fault.NotACell _ _ t.0 (paired_advance 200 at fault.NotACell (TheSign sign.Plus) (TheSign sign.Becomes) (paired_cell 200 at) m.stack ready) t.1
        (subst (λ k. advance 200 m.stack at k ≡ Err fault.Unexpected) h.0 err) (λ e. cc)

    not_large : advance 200 m.stack at l ≡ Err fault.Unexpected → IsTooLarge (said before) l → ⊥
    not_large err h =
        let t = takes_with (TheNumber 0) h.1 in
        bad_too fault.BadNumber _ _ t.0 (paired_advance 200 at fault.BadNumber (TheNumber 0) (TheNumber (2 ^ 63)) (paired_number 200 at) m.stack ready) t.1
        (subst (λ k. advance 200 m.stack at k ≡ Err fault.Unexpected) h.0 err) (λ e. cc)

    is_no_cell : l ≡ TheSign sign.Becomes → advance 200 m.stack at l ≡ Err fault.NotACell → IsNoCell (said before) l
    is_no_cell is err =
        let t = good_too fault.NotACell _ _ (paired_advance 200 at fault.NotACell (TheSign sign.Plus) (TheSign sign.Becomes) (paired_cell 200 at) m.stack ready)
        (subst (λ k. advance 200 m.stack at k ≡ Err fault.NotACell) is err) (λ e. cc) in
        (is, goes_with (TheSign sign.Plus) t.0 t.1)

    is_too_large : l ≡ TheNumber (2 ^ 63) → advance 200 m.stack at l ≡ Err fault.BadNumber → IsTooLarge (said before) l
    is_too_large is err =
        let t = good_too fault.BadNumber _ _ (paired_advance 200 at fault.BadNumber (TheNumber 0) (TheNumber (2 ^ 63)) (paired_number 200 at) m.stack ready)
        (subst (λ k. advance 200 m.stack at k ≡ Err fault.BadNumber) is err) (λ e. cc) in
        (is, goes_with (TheNumber 0) t.0 t.1)

    of_kind : (kind : FaultKind) → advance 200 m.stack at l ≡ Err kind → Blame l kind → IsKindAt (said before) l kind
    of_kind fault.Unexpected err b = (not_deep fault.Unexpected err (λ e. cc), no_cell err, not_large err)
    of_kind fault.NotACell err b = (not_deep fault.NotACell err (λ e. cc), is_no_cell b err)
    of_kind fault.BadNumber err b = (not_deep fault.BadNumber err (λ e. cc), is_too_large b err)
    of_kind kind err b = absurd b

    blamed : (kind : FaultKind) (r q : Result Moved FaultKind) → LikeMoved 200 203 l r q → r ≡ Err kind → (kind ≡ fault.TooDeep) ⊎ Blame l kind
    blamed kind _ _ (ok_alike a) e = absurd cc
    blamed kind _ _ (err_alike k b) e = let one : k ≡ kind = cc in inr (subst (Blame l) one b)
    blamed kind _ _ (both_deep h) e = inl cc
    blamed kind _ _ (one_deep h) e = inl cc

    by_blame : (kind : FaultKind) → advance 200 m.stack at l ≡ Err kind → (kind ≡ fault.TooDeep) ⊎ Blame l kind → IsKindAt (said before) l kind
    by_blame kind err (inr b) = of_kind kind err b
    by_blame kind err (inl e) = subst (IsKindAt (said before) l) (sym e) (is_deep l kind err e)

    pub is_kind : (kind : FaultKind) → advance 200 m.stack at l ≡ Err kind → IsKindAt (said before) l kind
    is_kind kind err = by_blame kind err (blamed kind _ _ (like_advance 200 203 (inr (omega arith)) m.stack m.stack (alike_self m.stack) ready at at l) err)

-- AT THE END OF A TEXT
not_whole : (ps : List Placed) (m : Moved) → advance_all 200 (Items ∷ []) ps ≡ Ok m → finish m.stack ≡ None → (q : Program) → FitsProgram q
    → program_depth q ≤ 200 → says q ≡ said ps → ⊥
not_whole ps m read none q fits deep e =
    let qs = placed_of (program_tokens q) in
    let all = program_advances 200 q qs fits deep (spells_itself (program_tokens q)) in
    let r = alike_run 200 200 (inl refl) ps qs (Items ∷ []) (Items ∷ []) m (sym e ∙ said_of (program_tokens q)) (alike_self (Items ∷ []))
    (omega arith, tt) read in
    let one : r.moved ≡ all.moved = let p = r.is in let q = all.is in cc in
    let ends : finish r.moved.stack ≡ Some all.last = subst (λ (x : Moved). finish x.stack ≡ Some all.last) (sym one) all.ends in
    not_both (finish r.moved.stack) all.last (subst (λ o. AlikeOption o (finish r.moved.stack)) none (alike_finish m.stack r.moved.stack r.alike)) ends

-- the tokens of a text
record Tokens (text : List ℕ) (ts : List Token) (ps : List Placed) (p : Placed) : Type 0 where
  before : List Token
  token : Token
  after : List Token
  tokens : ts ≡ before ++ token ∷ after
  are : map (placed text) before ≡ ps
  is : placed text token ≡ p

tokens_of : (text : List ℕ) (ts : List Token) (ps : List Placed) (p : Placed) (qs : List Placed) → map (placed text) ts ≡ ps ++ p ∷ qs → Tokens text ts ps p
tokens_of text [] [] p qs e = absurd cc
tokens_of text [] (o ∷ ps) p qs e = absurd cc
tokens_of text (t ∷ ts) [] p qs e = record { before = []; token = t; after = ts; tokens = refl; are = refl; is = cc }
tokens_of text (t ∷ ts) (o ∷ ps) p qs e =
    let tail : map (placed text) ts ≡ ps ++ p ∷ qs = cc in
    let head : placed text t ≡ o = cc in
    one_token_more text t ts o ps p head (tokens_of text ts ps p qs tail)
  where
    one_token_more : (text : List ℕ) (t : Token) (ts : List Token) (o : Placed) (ps : List Placed) (p : Placed) → placed text t ≡ o → Tokens text ts ps p
        → Tokens text (t ∷ ts) (o ∷ ps) p
    one_token_more text t ts o ps p head r =
        record { before = t ∷ r.before; token = r.token; after = r.after; tokens = ap (λ l. t ∷ l) r.tokens; are = (λ i. head i ∷ r.are i); is = r.is }

refused_at : (text : List ℕ) (ts : List Token) (before : List Placed) (p : Placed) (after : List Placed) (m : Moved) (kind : FaultKind)
    → map (placed text) ts ≡ before ++ p ∷ after
    → advance_all 200 (Items ∷ []) before ≡ Ok m → advance 200 m.stack p.at p.lexeme ≡ Err kind → IsRefusedAt text ts (record { kind = kind; at = p.at })
refused_at text ts before p after m kind is read err =
    let r = tokens_of text ts before p after is in
    let ls : said before ≡ lexemes text r.before = sym (ap said r.are) ∙ said_lexemes text r.before in
    let l : p.lexeme ≡ lexeme text r.token = ap (λ (p : Placed). p.lexeme) (sym r.is) in
    record {
      before = r.before;
      token = r.token;
      after = r.after;
      tokens = r.tokens;
      went_on = subst GoesOn ls (went_on before m read p.at);
      goes_on = λ g. no_program before m read p.at p.lexeme kind err (subst GoesOn (sym (λ i. ls i ++ l i ∷ [])) g);
      kind = subst (λ k. IsKindAt (lexemes text r.before) k kind) l (subst (λ k. IsKindAt k p.lexeme kind) ls (is_kind before m read p.at p.lexeme kind err));
      place = ap (λ (p : Placed). p.at) (sym r.is);
    }

unended_at : (text : List ℕ) (ts : List Token) (m : Moved) → advance_all 200 (Items ∷ []) (map (placed text) ts) ≡ Ok m → finish m.stack ≡ None
    → IsUnended text ts (record { kind = fault.Unended; at = length text })
unended_at text ts m read none = record {
  went_on = subst GoesOn (said_lexemes text ts) (went_on (map (placed text) ts) m read 0);
  not_whole = λ w. not_whole (map (placed text) ts) m read none w.program w.fits w.depth (w.says_so ∙ sym (said_lexemes text ts));
  kind = refl;
  place = refl;
}

fault_of : (text : List ℕ) (ts : List Token) (r : Result Words Fault) → Ran 200 (length text) (Items ∷ []) (map (placed text) ts) r → (fault : Fault)
    → r ≡ Err fault → Refuses text ts fault
fault_of text ts _ (whole m ws e f) x is = absurd cc
fault_of text ts _ (unended m e f) x is = let one : record { kind = fault.Unended; at = length text } ≡ x = cc in
    subst (Refuses text ts) one (at_end (unended_at text ts m e f))
fault_of text ts _ (stopped before p after m kind e f g) x is = let one : record { kind = kind; at = p.at } ≡ x = cc in
    subst (Refuses text ts) one (at_token (refused_at text ts before p after m kind e f g))

-- FAULT
pub parsed_fault : (text : List ℕ) (ts : List Token) (fault : Fault) → parsed text ts ≡ Err fault → Refuses text ts fault
parsed_fault text ts x e = fault_of text ts _ (ran 200 (length text) (Items ∷ []) (map (placed text) ts)) x e
