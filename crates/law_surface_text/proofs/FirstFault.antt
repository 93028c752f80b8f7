-- FAULTS: the first fault of a run is the fault of the text.
use Rattle.std.proofs.Common.{◌≡◌, ℕ, ◌+◌, ◌≤◌, Bool, true, false, List, [], ◌∷◌, ◌++◌, map, length, Option, None, Some, Result, Ok, Err, refl, sym, ap, ◌∙◌}
use Rattle.std.proofs.Common.{subst, append_assoc, arith, inl, inr, if◌then◌else◌}
use Rattle.std.specs.Prelude.{◌^◌, ◌⊎◌, ◌==◌, ◌&&◌, nat_le, is_some}
use Rattle.std.proofs.lemmas.Bool.{eqb-true, eq-eqb}
use Rattle.source.specs.declared.fault.FaultKind.{FaultKind as CoreFaultKind}
use Rattle.source.specs.declared.fault.FaultKind.TheVariants as fault
use Rattle.source.specs.declared.token.Sign.TheVariants as core_sign
use Rattle.source.specs.Spelled.{IsPlace}
use Rattle.surface.specs.declared.fault.Fault.{Fault}
use Rattle.surface.specs.declared.fault.FaultKind.TheVariants.{Core}
use Rattle.surface.specs.declared.token.Sign.TheVariants as sign
use Rattle.surface.specs.declared.token.Token.{Token}
use Rattle.surface.specs.Tree.{Program}
use Rattle.surface.specs.Spelled.{Lexeme, TheSign, TheNumber, lexeme, Spelling, program_tokens}
use Rattle.surface.specs.Fits.{FitsProgram, program_depth}
use Rattle.surface.specs.Words.{Words}
use Rattle.surface.specs.Parses.{GoesOn, GoesOnDeeply, IsNoCell, IsTooLarge, IsKindAt, IsRefusedAt, IsUnended, Refuses, at_token, at_end, lexemes, says}
use Rattle.lemmas.proofs.Lists.{map_append}
use Rattle.law_surface_text.specs.declared.symbol.Symbol.TheVariants.{Items}
use Rattle.law_surface_text.specs.Automaton as automaton
use Rattle.law_surface_text.specs.Automaton.{Outcome, Takes, Passes, Lacks, advance_by, step_below, Stack, Placed, placed, Moved, moved_after, advance, is_taken, would_take, unexpected, blamed, ended_then, finish, parsed}
use Rattle.law_surface_text.proofs.Runs.{Spells, moved_by, advance_all, Ran, whole, unended, stopped, ran}
use Rattle.law_surface_text.proofs.Sound.{Goes, said, said_lexemes, goes}
use Rattle.law_surface_text.proofs.Reading.{reading, read_on}
use Rattle.law_surface_text.proofs.Complete.{program_is_read}
use Rattle.law_surface_text.proofs.Alike.{bares, bared, stack_of, same_advance, same_advance_all, same_finish, wider, wider_all, taken}

abbrev becomes : Lexeme
becomes = TheSign (sign.Core core_sign.Becomes)

abbrev plus : Lexeme
plus = TheSign (sign.Core core_sign.Plus)

-- A PROGRAM'S TOKENS, where the tree says, and otherwise anywhere
abbrev place_or_zero : Option ℕ → ℕ
place_or_zero None = 0
place_or_zero (Some at) = at

abbrev placed_of : List Spelling → List Placed
placed_of ss = map (λ (s : Spelling). record { at = place_or_zero s.place; lexeme = s.lexeme }) ss

spells_itself : (ss : List Spelling) → Spells ss (placed_of ss)
spells_itself [] = tt
spells_itself (s ∷ ss) = ((refl, is_there s.place), spells_itself ss)
  where
    is_there : (place : Option ℕ) → IsPlace place (place_or_zero place)
    is_there None = tt
    is_there (Some at) = refl

said_of : (ss : List Spelling) → map (λ (s : Spelling). s.lexeme) ss ≡ said (placed_of ss)
said_of [] = refl
said_of (s ∷ ss) = ap (λ ls. s.lexeme ∷ ls) (said_of ss)

-- WHERE ALL IS READ, each token is taken
record ReadTo (limit : ℕ) (S : Stack) (ls : List Lexeme) (l : Lexeme) : Type 0 where
  before : List Placed
  moved : Moved
  at : ℕ
  next : Moved
  says_so : said before ≡ ls
  is : advance_all limit S before ≡ Ok moved
  goes_on : advance limit moved.stack false at l ≡ Ok next

one_more : (limit : ℕ) (S : Stack) (p : Placed) (m : Moved) (ls : List Lexeme) (l : Lexeme) → advance limit S false p.at p.lexeme ≡ Ok m → ReadTo limit m.stack ls l
    → ReadTo limit S (p.lexeme ∷ ls) l
one_more limit S p m ls l e r = record {
  before = p ∷ r.before;
  moved = record { appended = m.appended ++ r.moved.appended; stack = r.moved.stack };
  at = r.at;
  next = r.next;
  says_so = ap (λ k. p.lexeme ∷ k) r.says_so;
  is = ap (λ x. moved_by x (λ T. advance_all limit T r.before)) e ∙ ap (moved_after m.appended) r.is;
  goes_on = r.goes_on;
}

then_some : (us ws : Words) (o : Option Words) → ended_then (Some us) o ≡ Some ws → (vs : Words) × (o ≡ Some vs)
then_some us ws None e = absurd cc
then_some us ws (Some vs) e = (vs, refl)

read_to : (limit : ℕ) (ls : List Lexeme) (l : Lexeme) (rest : List Lexeme) (S : Stack) (ps : List Placed) (ws : Words) → reading limit S ps ≡ Some ws
    → said ps ≡ ls ++ l ∷ rest → ReadTo limit S ls l
read_to limit [] l rest S [] ws e q = absurd cc
read_to limit (k ∷ ls) l rest S [] ws e q = absurd cc
read_to limit [] l rest S (p ∷ ps) ws e q = go (advance limit S false p.at p.lexeme) refl e
  where
    head : p.lexeme ≡ l
    head = let f : p.lexeme ∷ said ps ≡ l ∷ rest = q in cc

    go : (r : Result Moved CoreFaultKind) → advance limit S false p.at p.lexeme ≡ r → read_on r (λ T. reading limit T ps) ≡ Some ws → ReadTo limit S [] l
    go (Ok m) f g = record {
      before = [];
      moved = record { appended = []; stack = S };
      at = p.at;
      next = m;
      says_so = refl;
      is = refl;
      goes_on = subst (λ x. advance limit S false p.at x ≡ Ok m) head f;
    }
    go (Err kind) f g = absurd cc
read_to limit (k ∷ ls) l rest S (p ∷ ps) ws e q =
    go (λ T vs f. read_to limit ls l rest T ps vs f tail) (advance limit S false p.at p.lexeme) refl e
  where
    head : p.lexeme ≡ k
    head = let f : p.lexeme ∷ said ps ≡ k ∷ (ls ++ l ∷ rest) = q in cc

    tail : said ps ≡ ls ++ l ∷ rest
    tail = let f : p.lexeme ∷ said ps ≡ k ∷ (ls ++ l ∷ rest) = q in cc

    go : ((T : Stack) (vs : Words) → reading limit T ps ≡ Some vs → ReadTo limit T ls l) → (r : Result Moved CoreFaultKind)
        → advance limit S false p.at p.lexeme ≡ r → read_on r (λ T. reading limit T ps) ≡ Some ws → ReadTo limit S (k ∷ ls) l
    go further (Ok m) f g = let v = then_some m.appended ws (reading limit m.stack ps) g in
        subst (λ x. ReadTo limit S (x ∷ ls) l) head (one_more limit S p m ls l f (further m.stack v.0 v.1))
    go further (Err kind) f g = absurd cc

-- all of them
read_all : (limit : ℕ) (S : Stack) (ps : List Placed) (ws : Words) → reading limit S ps ≡ Some ws
    → (m : Moved) × (advance_all limit S ps ≡ Ok m) × (vs : Words) × (finish m.stack ≡ Some vs)
read_all limit S [] ws e = (record { appended = []; stack = S }, refl, ws, e)
read_all limit S (p ∷ ps) ws e = go (λ T vs f. read_all limit T ps vs f) (advance limit S false p.at p.lexeme) refl e
  where
    go : ((T : Stack) (vs : Words) → reading limit T ps ≡ Some vs → (m : Moved) × (advance_all limit T ps ≡ Ok m) × (us : Words) × (finish m.stack ≡ Some us))
        → (r : Result Moved CoreFaultKind) → advance limit S false p.at p.lexeme ≡ r → read_on r (λ T. reading limit T ps) ≡ Some ws
        → (m : Moved) × (moved_by r (λ T. advance_all limit T ps) ≡ Ok m) × (vs : Words) × (finish m.stack ≡ Some vs)
    go further (Ok n) f g =
        let v = then_some n.appended ws (reading limit n.stack ps) g in
        let u = further n.stack v.0 v.1 in
        (record { appended = n.appended ++ u.0.appended; stack = u.0.stack }, ap (moved_after n.appended) u.1, u.2, u.3)
    go further (Err kind) f g = absurd cc

-- AFTER WHAT WAS READ
stacks_alike : (m n : Moved) (r q : Result Moved CoreFaultKind) → r ≡ Ok m → q ≡ Ok n → bared r ≡ bared q → bares m.stack ≡ bares n.stack
stacks_alike m n r q e f h = ap stack_of (ap bared (sym e) ∙ h ∙ ap bared f)

ok_too : (n : Moved) (r q : Result Moved CoreFaultKind) → bared r ≡ bared q → q ≡ Ok n → (m : Moved) × (r ≡ Ok m)
ok_too n (Ok m) q h e = (m, refl)
ok_too n (Err kind) q h e = absurd (let k : Err kind ≡ Ok (record { appended = []; stack = bares n.stack }) = h ∙ ap bared e in cc)

advance_append : (limit : ℕ) (S : Stack) (before : List Placed) (p : Placed) (m n : Moved) → advance_all limit S before ≡ Ok m
    → advance limit m.stack false p.at p.lexeme ≡ Ok n → (k : Moved) × (advance_all limit S (before ++ p ∷ []) ≡ Ok k)
advance_append limit S [] p m n e f = let same : S ≡ m.stack = let g : Ok (record { appended = []; stack = S }) ≡ Ok m = e in cc in (
  record { appended = n.appended ++ []; stack = n.stack },
  ap (λ r. moved_by r (λ T. Ok (record { appended = []; stack = T }))) (subst (λ T. advance limit T false p.at p.lexeme ≡ Ok n) (sym same) f),
)
advance_append limit S (q ∷ before) p m n e f = go (λ T k g h. advance_append limit T before p k n g h) (advance limit S false q.at q.lexeme) refl e
  where
    go : ((T : Stack) (k : Moved) → advance_all limit T before ≡ Ok k → advance limit k.stack false p.at p.lexeme ≡ Ok n
        → (j : Moved) × (advance_all limit T (before ++ p ∷ []) ≡ Ok j))
        → (r : Result Moved CoreFaultKind) → advance limit S false q.at q.lexeme ≡ r → moved_by r (λ T. advance_all limit T before) ≡ Ok m
        → (j : Moved) × (moved_by r (λ T. advance_all limit T (before ++ p ∷ [])) ≡ Ok j)
    go further (Ok u) g h = later (advance_all limit u.stack before) refl h
      where
        later : (x : Result Moved CoreFaultKind) → advance_all limit u.stack before ≡ x → moved_after u.appended x ≡ Ok m
            → (j : Moved) × (moved_after u.appended (advance_all limit u.stack (before ++ p ∷ [])) ≡ Ok j)
        later (Ok k) i j =
            let same : k.stack ≡ m.stack = let w : Ok (record { appended = u.appended ++ k.appended; stack = k.stack }) ≡ Ok m = j in cc in
            let v = further u.stack k i (subst (λ T. advance limit T false p.at p.lexeme ≡ Ok n) (sym same) f) in
            (record { appended = u.appended ++ v.0.appended; stack = v.0.stack }, ap (moved_after u.appended) v.1)
        later (Err kind) i j = absurd cc
    go further (Err kind) g h = absurd cc

said_more : (before : List Placed) (p : Placed) → said (before ++ p ∷ []) ≡ said before ++ p.lexeme ∷ []
said_more before p = map_append (λ (p : Placed). p.lexeme) before (p ∷ [])

module _ (before : List Placed) (m : Moved) (read : advance_all 200 (Items ∷ []) before ≡ Ok m) where
  went_on : GoesOn (said before)
  went_on = let g = goes 200 (omega arith) before m read in record { program = g.program; rest = g.rest; fits = g.fits; depth = g.deep; says_so = g.says_so }

  -- what is taken goes on
  goes_with : (limit : ℕ) → 200 ≤ limit → (at : ℕ) (l : Lexeme) (n : Moved) → advance limit m.stack false at l ≡ Ok n → Goes limit (said before ++ l ∷ [])
  goes_with limit h at l n e =
      let p : Placed = record { at = at; lexeme = l } in
      let k = advance_append limit (Items ∷ []) before p m n (wider_all 200 limit h (Items ∷ []) before m read) e in
      subst (Goes limit) (said_more before p) (goes limit (omega arith) (before ++ p ∷ []) k.0 k.1)

  -- and what goes on is taken
  takes_with : (limit : ℕ) → 200 ≤ limit → (at : ℕ) (l : Lexeme) (g : GoesOnDeeply (said before ++ l ∷ [])) → program_depth g.program ≤ limit
      → (n : Moved) × (advance limit m.stack false at l ≡ Ok n)
  takes_with limit h at l g deep =
      let ss = program_tokens g.program in
      let all = program_is_read limit g.program (placed_of ss) g.fits deep (spells_itself ss) in
      let r = read_to limit (said before) l g.rest (Items ∷ []) (placed_of ss) _ all
      (sym (said_of ss) ∙ g.says_so ∙ append_assoc (said before) (l ∷ []) g.rest) in
      let here = wider_all 200 limit h (Items ∷ []) before m read in
      let stacks = stacks_alike m r.moved _ _ here r.is (same_advance_all limit (Items ∷ []) (Items ∷ []) before r.before (sym r.says_so) refl) in
      ok_too r.next (advance limit m.stack false at l) (advance limit r.moved.stack false r.at l) (same_advance limit m.stack r.moved.stack false at r.at l stacks)
      r.goes_on

  abbrev deeply : (l : Lexeme) → GoesOn (said before ++ l ∷ []) → GoesOnDeeply (said before ++ l ∷ [])
  deeply l g = record { program = g.program; rest = g.rest; fits = g.fits; says_so = g.says_so }

  would : (l : Lexeme) → would_take 200 m.stack l ≡ true → GoesOn (said before ++ l ∷ [])
  would l h = go (advance 200 m.stack false 0 l) refl h
    where
      go : (r : Result Moved CoreFaultKind) → advance 200 m.stack false 0 l ≡ r → is_taken r ≡ true → GoesOn (said before ++ l ∷ [])
      go (Ok n) e h = let g = goes_with 200 (omega arith) 0 l n e in
          record { program = g.program; rest = g.rest; fits = g.fits; depth = g.deep; says_so = g.says_so }
      go (Err kind) e h = absurd cc

  would_not : (l : Lexeme) → would_take 200 m.stack l ≡ false → GoesOn (said before ++ l ∷ []) → ⊥
  would_not l h g =
      let t = takes_with 200 (omega arith) 0 l (deeply l g) g.depth in
      let taken : would_take 200 m.stack l ≡ true = ap is_taken t.1 in cc

  module _ (at : ℕ) (l : Lexeme) (kind : CoreFaultKind) (err : advance 200 m.stack false at l ≡ Err kind) where
    no_program : GoesOn (said before ++ l ∷ []) → ⊥
    no_program g = let t = takes_with 200 (omega arith) at l (deeply l g) g.depth in let e = t.1 in cc

    only_deep : GoesOnDeeply (said before ++ l ∷ []) → kind ≡ fault.TooDeep
    only_deep g =
        let most : ℕ = 200 + program_depth g.program in
        let t = takes_with most (omega arith) at l g (omega arith) in
        go most (wider 200 most (omega arith) m.stack false at l) t.0 t.1
      where
        go : (most : ℕ) → (advance 200 m.stack false at l ≡ Err fault.TooDeep) ⊎ (advance most m.stack false at l ≡ advance 200 m.stack false at l) → (n : Moved)
            → advance most m.stack false at l ≡ Ok n → kind ≡ fault.TooDeep
        go most (inl e) n f = cc
        go most (inr e) n f = absurd cc

    is_deep : kind ≡ fault.TooDeep → GoesOnDeeply (said before ++ l ∷ [])
    is_deep deep =
        let t = taken 200 at l m.stack false (err ∙ ap (λ k. Err k) deep) in
        let most : ℕ = 200 + t.depth in
        let n = t.by most (omega arith) in
        let g = goes_with most (omega arith) at l n.0 n.1 in
        record { program = g.program; rest = g.rest; fits = g.fits; says_so = g.says_so }

  not_deep : (at : ℕ) (l : Lexeme) → advance 200 m.stack false at l ≡ Err fault.Unexpected → GoesOnDeeply (said before ++ l ∷ []) → ⊥
  not_deep at l err g = let k = only_deep at l fault.Unexpected err g in cc

  -- the kind of a token that is not too deep
  unexpected_kind : (at : ℕ) (l : Lexeme) → advance 200 m.stack false at l ≡ Err fault.Unexpected → IsKindAt (said before) l (Core (unexpected 200 m.stack l))
  unexpected_kind at (TheSign (sign.Core core_sign.Becomes)) err = go (would_take 200 m.stack plus) refl
    where
      go : (b : Bool) → would_take 200 m.stack plus ≡ b → IsKindAt (said before) becomes (Core (if b then fault.NotACell else fault.Unexpected))
      go true e = let c : IsNoCell (said before) becomes = (refl, would plus e) in (λ g. not_deep at becomes err g, c)
      go false e = (λ g. not_deep at becomes err g, λ h. would_not plus e h.1, λ h. (let k = h.0 in cc))
  unexpected_kind at (TheNumber n) err = go (n == 2 ^ 63) refl (would_take 200 m.stack (TheNumber 0)) refl
    where
      go : (b : Bool) → (n == 2 ^ 63) ≡ b → (c : Bool) → would_take 200 m.stack (TheNumber 0) ≡ c
          → IsKindAt (said before) (TheNumber n) (Core (if b && c then fault.BadNumber else fault.Unexpected))
      go true e true f = let c : IsTooLarge (said before) (TheNumber n) = (ap (λ k. TheNumber k) (eqb-true n (2 ^ 63) e), would (TheNumber 0) f) in
          (λ g. not_deep at (TheNumber n) err g, c)
      go true e false f = (λ g. not_deep at (TheNumber n) err g, λ h. (let k = h.0 in cc), λ h. would_not (TheNumber 0) f h.1)
      go false e c f = (λ g. not_deep at (TheNumber n) err g, λ h. (let k = h.0 in cc), λ h. not_large (eq-of h.0) e)
        where
          eq-of : TheNumber n ≡ TheNumber (2 ^ 63) → n ≡ 2 ^ 63
          eq-of k = cc

          not_large : n ≡ 2 ^ 63 → (n == 2 ^ 63) ≡ false → ⊥
          not_large k h = let g : (n == 2 ^ 63) ≡ true = eq-eqb n (2 ^ 63) k in cc
  unexpected_kind at l err = (λ g. not_deep at l err g, λ h. (let k = h.0 in cc), λ h. (let k = h.0 in cc))

  is_kind : (at : ℕ) (l : Lexeme) (kind : CoreFaultKind) → advance 200 m.stack false at l ≡ Err kind → (kind ≡ fault.TooDeep) ⊎ (kind ≡ fault.Unexpected)
      → IsKindAt (said before) l (Core (blamed 200 m.stack l kind))
  is_kind at l kind err (inl e) = subst (λ k. IsKindAt (said before) l (Core (blamed 200 m.stack l k))) (sym e) (is_deep at l kind err e)
  is_kind at l kind err (inr e) = subst (λ k. IsKindAt (said before) l (Core (blamed 200 m.stack l k))) (sym e)
      (unexpected_kind at l (err ∙ ap (λ k. Err k) e))

-- an error is one of two
module _ (limit at : ℕ) (l : Lexeme) where
  two_kinds_after : (ws : Words) (r : Result Moved CoreFaultKind) (kind : CoreFaultKind) → moved_after ws r ≡ Err kind → r ≡ Err kind
  two_kinds_after ws (Ok m) kind e = absurd cc
  two_kinds_after ws (Err k) kind e = e

  two_kinds : (S : Stack) (b : Bool) (kind : CoreFaultKind) → advance limit S b at l ≡ Err kind → (kind ≡ fault.TooDeep) ⊎ (kind ≡ fault.Unexpected)
  two_kinds [] b kind e = inr cc
  two_kinds (s ∷ S) b kind e = go (λ c f. two_kinds S c kind f) (step_below b s at l) e
    where
      go : ((c : Bool) → advance limit S c at l ≡ Err kind → (kind ≡ fault.TooDeep) ⊎ (kind ≡ fault.Unexpected)) → (o : Outcome)
          → advance_by limit o S (λ c. advance limit S c at l) ≡ Err kind → (kind ≡ fault.TooDeep) ⊎ (kind ≡ fault.Unexpected)
      go f (Takes needed ws P) h = limited (nat_le needed limit) refl
        where
          limited : (b : Bool) → nat_le needed limit ≡ b → (kind ≡ fault.TooDeep) ⊎ (kind ≡ fault.Unexpected)
          limited true i = let g : advance_by limit (Takes needed ws P) S (λ c. advance limit S c at l) ≡ Ok (record { appended = ws; stack = P ++ S }) =
              rw i refl in absurd cc
          limited false i = let g : advance_by limit (Takes needed ws P) S (λ c. advance limit S c at l) ≡ Err fault.TooDeep = rw i refl in inl cc
      go f (Passes ws) h = f false (two_kinds_after ws (advance limit S false at l) kind h)
      go f (Lacks ws) h = f true (two_kinds_after ws (advance limit S true at l) kind h)
      go f automaton.Refuses h = inr cc

-- AT THE END OF A TEXT
not_whole : (ps : List Placed) (m : Moved) → advance_all 200 (Items ∷ []) ps ≡ Ok m → finish m.stack ≡ None → (q : Program) → FitsProgram q
    → program_depth q ≤ 200 → says q ≡ said ps → ⊥
not_whole ps m read none q fits deep e =
    let ss = program_tokens q in
    let r = read_all 200 (Items ∷ []) (placed_of ss) _ (program_is_read 200 q (placed_of ss) fits deep (spells_itself ss)) in
    let stacks = stacks_alike m r.0 _ _ read r.1 (same_advance_all 200 (Items ∷ []) (Items ∷ []) ps (placed_of ss) (sym e ∙ said_of ss) refl) in
    let alike : is_some (finish m.stack) ≡ is_some (finish r.0.stack) = same_finish m.stack r.0.stack stacks in
    let f : is_some (finish m.stack) ≡ false = ap is_some none in
    let g : is_some (finish r.0.stack) ≡ true = ap is_some r.3 in cc

-- the tokens of a text
record Tokens (text : List ℕ) (ts : List Token) (ps : List Placed) (p : Placed) : Type 0 where
  before : List Token
  token : Token
  after : List Token
  tokens : ts ≡ before ++ token ∷ after
  are : map (placed text) before ≡ ps
  is : placed text token ≡ p

one_token_more : (text : List ℕ) (t : Token) (ts : List Token) (o : Placed) (ps : List Placed) (p : Placed) → placed text t ≡ o → Tokens text ts ps p
    → Tokens text (t ∷ ts) (o ∷ ps) p
one_token_more text t ts o ps p head r =
    record { before = t ∷ r.before; token = r.token; after = r.after; tokens = ap (λ l. t ∷ l) r.tokens; are = (λ i. head i ∷ r.are i); is = r.is }

tokens_of : (text : List ℕ) (ts : List Token) (ps : List Placed) (p : Placed) (qs : List Placed) → map (placed text) ts ≡ ps ++ p ∷ qs → Tokens text ts ps p
tokens_of text [] [] p qs e = absurd cc
tokens_of text [] (o ∷ ps) p qs e = absurd cc
tokens_of text (t ∷ ts) [] p qs e = record { before = []; token = t; after = ts; tokens = refl; are = refl; is = cc }
tokens_of text (t ∷ ts) (o ∷ ps) p qs e =
    let tail : map (placed text) ts ≡ ps ++ p ∷ qs = cc in
    let head : placed text t ≡ o = cc in
    one_token_more text t ts o ps p head (tokens_of text ts ps p qs tail)

refused_at : (text : List ℕ) (ts : List Token) (before : List Placed) (p : Placed) (after : List Placed) (m : Moved) (kind : CoreFaultKind)
    → map (placed text) ts ≡ before ++ p ∷ after
    → advance_all 200 (Items ∷ []) before ≡ Ok m → advance 200 m.stack false p.at p.lexeme ≡ Err kind
    → IsRefusedAt text ts (record { kind = Core (blamed 200 m.stack p.lexeme kind); at = p.at })
refused_at text ts before p after m kind is read err =
    let r = tokens_of text ts before p after is in
    let ls : said before ≡ lexemes text r.before = sym (ap said r.are) ∙ said_lexemes text r.before in
    let l : p.lexeme ≡ lexeme text r.token = ap (λ (p : Placed). p.lexeme) (sym r.is) in
    let k = Core (blamed 200 m.stack p.lexeme kind) in
    record {
      before = r.before;
      token = r.token;
      after = r.after;
      tokens = r.tokens;
      went_on = subst GoesOn ls (went_on before m read);
      goes_on = λ g. no_program before m read p.at p.lexeme kind err (subst GoesOn (sym (λ i. ls i ++ l i ∷ [])) g);
      kind = subst (λ x. IsKindAt (lexemes text r.before) x k) l (subst (λ x. IsKindAt x p.lexeme k) ls
          (is_kind before m read p.at p.lexeme kind err (two_kinds 200 p.at p.lexeme m.stack false kind err)));
      place = ap (λ (p : Placed). p.at) (sym r.is);
    }

unended_at : (text : List ℕ) (ts : List Token) (m : Moved) → advance_all 200 (Items ∷ []) (map (placed text) ts) ≡ Ok m → finish m.stack ≡ None
    → IsUnended text ts (record { kind = Core fault.Unended; at = length text })
unended_at text ts m read none = record {
  went_on = subst GoesOn (said_lexemes text ts) (went_on (map (placed text) ts) m read);
  not_whole = λ w. not_whole (map (placed text) ts) m read none w.program w.fits w.depth (w.says_so ∙ sym (said_lexemes text ts));
  kind = refl;
  place = refl;
}

fault_of : (text : List ℕ) (ts : List Token) (r : Result Words Fault) → Ran 200 (length text) (Items ∷ []) (map (placed text) ts) r → (x : Fault)
    → r ≡ Err x → Refuses text ts x
fault_of text ts _ (whole m ws e f) x is = absurd cc
fault_of text ts _ (unended m e f) x is = let one : record { kind = Core fault.Unended; at = length text } ≡ x = cc in
    subst (Refuses text ts) one (at_end (unended_at text ts m e f))
fault_of text ts _ (stopped before p after m kind e f g) x is = let one : record { kind = Core (blamed 200 m.stack p.lexeme kind); at = p.at } ≡ x = cc in
    subst (Refuses text ts) one (at_token (refused_at text ts before p after m kind e f g))

-- FAULT
pub parsed_fault : (text : List ℕ) (ts : List Token) (x : Fault) → parsed text ts ≡ Err x → Refuses text ts x
parsed_fault text ts x e = fault_of text ts _ (ran 200 (length text) (Items ∷ []) (map (placed text) ts)) x e
