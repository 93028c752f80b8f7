-- THE NAMES OF A TEXT are those of its words, so each of them is in the table of a program in code.
use Rattle.std.specs.Prelude.{◌≡◌, refl, ℕ, zero, suc, ◌+◌, ◌<◌, ◌≤◌, ◌||◌, Bool, true, false, List, [], ◌∷◌, ◌++◌, map, length, replicate, filter_map, All, Option, None, Some, ⊤}
use Rattle.std.specs.List.{cons_option}
use Rattle.std.proofs.Common.{◌∙◌, sym, ap, subst, arith, length-append}
use Rattle.std.proofs.lemmas.List.{length-map}
use Rattle.std.proofs.lemmas.List.Elements.{All-nil, All-cons, All-head, All-tail}
use Rattle.semantics.specs.Graph.{same_name}
use Rattle.semantics.proofs.Lines.{same_name_itself}
use Rattle.source.specs.declared.word.Word.TheVariants as core
use Rattle.source.specs.declared.token.Keyword.TheVariants as core_keyword
use Rattle.source.specs.declared.token.Sign.TheVariants as core_sign
use Rattle.source.specs.Tree.{Name, NameAt, Target, Bind, Drop}
use Rattle.source.specs.Spelled.{others, infix_sign, prefix_sign}
use Rattle.source.specs.Outside.{is_in}
use Rattle.source.specs.Words.{name_of}
use Rattle.surface.specs.declared.word.Word.{Word}
use Rattle.surface.specs.declared.word.Word.TheVariants as word
use Rattle.surface.specs.declared.token.Keyword.TheVariants as keyword
use Rattle.surface.specs.declared.token.Sign.TheVariants as sign
use Rattle.surface.specs.Tree.{Count, Written, Constant, Expr, Number, Named, Bracket, Prefix, Infix, And, Or, Not, Fetch, Store, Call, If, Loop, For}
use Rattle.surface.specs.Tree.{Exprs, One, More, Body, Let, Do, When, Give, Chain, Tests, Last, Else, Turn, Before, After, Carried, Nothing, With}
use Rattle.surface.specs.Tree.{Param, Item, Cells, Const, Defines, Program, names_of}
use Rattle.surface.specs.Spelled.{Lexeme, TheWord, TheSign, TheNumber, TheName, Spelling, a_word, a_sign, the_word, the_sign, word_at, sign_at}
use Rattle.surface.specs.Spelled.{strict_tokens, target_token, with_commas, count_token, count_tokens, start_tokens, name_at, name_token, is_chain, braced, tokens, list_tokens}
use Rattle.surface.specs.Spelled.{first_tokens, body_tokens, tests_tokens, turn_tokens, carried_tokens, rank_tokens, param_tokens, params_tokens, result_tokens}
use Rattle.surface.specs.Spelled.{item_tokens, program_tokens}
use Rattle.surface.specs.Words.{of_core, target_word, start_words, bound_word, bound_words, end_loop, words, part_words, index_words, first_words, body_words}
use Rattle.surface.specs.Words.{tests_words, turn_words, carried_words, result_words, ranked_word, param_word, item_words, program_words, named, numbers_of}
use Rattle.surface.specs.Instances.{name_said}
use Rattle.desugar.specs.Tables.{WordsHaveAllNames, NamesAreFew}

-- how many names tokens say
abbrev counted : Lexeme → ℕ
counted (TheName x) = 1
counted l = 0

abbrev many : List Spelling → ℕ
many [] = 0
many (t ∷ ts) = counted t.lexeme + many ts

many_join : (ts us : List Spelling) → many (ts ++ us) ≡ many ts + many us
many_join [] us = omega arith
many_join (t ∷ ts) us = omega (arith, many_join ts us)

one_at_most : (l : Lexeme) → counted l ≤ 1
one_at_most (TheName x) = omega arith
one_at_most (TheWord k) = omega arith
one_at_most (TheSign s) = omega arith
one_at_most (TheNumber n) = omega arith

module _ (P : Name → Type 0) where
  -- the names of words, and those that tokens say
  abbrev Holds : Word Name → Type 0
  Holds (word.Core (core.Array at x)) = P x
  Holds (word.Core (core.Function at x)) = P x
  Holds (word.Core (core.Parameter at x)) = P x
  Holds (word.Core (core.Name at x)) = P x
  Holds (word.Core (core.Cell at x)) = P x
  Holds (word.Core (core.Fetch at x)) = P x
  Holds (word.Core (core.Store at x)) = P x
  Holds (word.Core (core.Callee at x)) = P x
  Holds (word.Core (core.Call at strict x)) = P x
  Holds (word.Core (core.Start at x)) = P x
  Holds (word.Core (core.Bind at x)) = P x
  Holds (word.Constant at x) = P x
  Holds (word.ArrayParameter at x rank) = P x
  Holds (word.ConstantResults at x) = P x
  Holds (word.ConstantBound at x) = P x
  Holds (word.EndConstantLoop at x) = P x
  Holds (word.Counter at x) = P x
  Holds w = ⊤

  abbrev AllHold : List (Word Name) → Type 0
  AllHold [] = ⊤
  AllHold (w ∷ ws) = Holds w × AllHold ws

  abbrev Says : Lexeme → Type 0
  Says (TheName x) = P x
  Says l = ⊤

  abbrev AllSay : List Spelling → Type 0
  AllSay [] = ⊤
  AllSay (t ∷ ts) = Says t.lexeme × AllSay ts

  hold_left : (ws vs : List (Word Name)) → AllHold (ws ++ vs) → AllHold ws
  hold_left [] vs h = tt
  hold_left (w ∷ ws) vs h = (h.0, hold_left ws vs h.1)

  hold_right : (ws vs : List (Word Name)) → AllHold (ws ++ vs) → AllHold vs
  hold_right [] vs h = h
  hold_right (w ∷ ws) vs h = hold_right ws vs h.1

  say_both : (ts us : List Spelling) → AllSay ts → AllSay us → AllSay (ts ++ us)
  say_both [] us h g = g
  say_both (t ∷ ts) us h g = (h.0, say_both ts us h.1 g)

  -- Tokens say names of these words alone, and no more than there are words.
  record Shows (ws : List (Word Name)) (ts : List Spelling) : Type 0 where
    of : AllHold ws → AllSay ts
    few : many ts ≤ length ws

  none : Shows [] []
  none = record { of = λ h. tt; few = omega arith }

  skip : {ws : List (Word Name)} {ts : List Spelling} (w : Word Name) → Shows ws ts → Shows (w ∷ ws) ts
  skip w s = record { of = λ h. s.of h.1; few = omega (arith, s.few) }

  mute : {ws : List (Word Name)} {ts : List Spelling} (t : Spelling) → counted t.lexeme ≡ 0 → Says t.lexeme → Shows ws ts → Shows ws (t ∷ ts)
  mute t e m s = record { of = λ h. (m, s.of h); few = omega (arith, e, s.few) }

  name : {ws : List (Word Name)} {ts : List Spelling} (w : Word Name) (t : Spelling) → (Holds w → Says t.lexeme) → Shows ws ts → Shows (w ∷ ws) (t ∷ ts)
  name w t f s = record { of = λ h. (f h.0, s.of h.1); few = omega (arith, one_at_most t.lexeme, s.few) }

  both : {ws vs : List (Word Name)} {ts us : List Spelling} → Shows ws ts → Shows vs us → Shows (ws ++ vs) (ts ++ us)
  both {ws} {vs} {ts} {us} s r = record { of = λ h. say_both ts us (s.of (hold_left ws vs h)) (r.of (hold_right ws vs h)); few = omega (arith, many_join ts us, length-append ws vs, s.few, r.few) }

  -- a word, or a token, after them
  then_word : {ws : List (Word Name)} {ts : List Spelling} → Shows ws ts → (w : Word Name) → Shows (ws ++ w ∷ []) ts
  then_word {ws} {ts} s w = record { of = λ h. s.of (hold_left ws (w ∷ []) h); few = omega (arith, length-append ws (w ∷ []), s.few) }

  then_token : {ws : List (Word Name)} {ts : List Spelling} → Shows ws ts → (t : Spelling) → counted t.lexeme ≡ 0 → Says t.lexeme
      → Shows ws (ts ++ t ∷ [])
  then_token {ws} {ts} s t e m = record { of = λ h. say_both ts (t ∷ []) (s.of h) (m, tt); few = omega (arith, many_join ts (t ∷ []), e, s.few) }

  -- PARTS
  of_strict : (b : Bool) → Shows [] (strict_tokens b)
  of_strict true = record { of = λ h. (tt, tt); few = omega arith }
  of_strict false = none

  of_targets : (ts : List Target) → Shows (map target_word ts) (with_commas (map target_token ts))
  of_targets [] = none
  of_targets (Bind x ∷ []) = record { of = λ h. (h.0, tt); few = omega arith }
  of_targets (Drop ∷ []) = record { of = λ h. (tt, tt); few = omega arith }
  of_targets (Bind x ∷ t ∷ ts) = name (target_word (Bind x)) (target_token (Bind x)) (λ h. h) (mute (a_sign core_sign.Comma) refl tt (of_targets (t ∷ ts)))
  of_targets (Drop ∷ t ∷ ts) = skip (target_word Drop) (mute (target_token Drop) refl tt (mute (a_sign core_sign.Comma) refl tt (of_targets (t ∷ ts))))

  of_start : (xs : List NameAt) → Shows (start_words xs) (start_tokens xs)
  of_start [] = none
  of_start (x ∷ xs) = record { of = λ h. (h.0, (tt, tt)); few = omega arith }

  of_count : (k : Count) → Shows (bound_word k ∷ []) (count_token k ∷ [])
  of_count (Written at n) = record { of = λ h. (tt, tt); few = omega arith }
  of_count (Constant at x) = record { of = λ h. (h.0, tt); few = omega arith }

  of_bound : (k : Option Count) → Shows (bound_words k) (count_tokens k)
  of_bound None = none
  of_bound (Some k) = of_count k

  of_results : (k : Option Count) → Shows (result_words k) (result_tokens k)
  of_results None = none
  of_results (Some (Written at n)) = record { of = λ h. (tt, (tt, tt)); few = omega arith }
  of_results (Some (Constant at x)) = record { of = λ h. (tt, (h.0, tt)); few = omega arith }

  no_names : (n : ℕ) → many (replicate n (a_sign core_sign.Comma)) ≡ 0
  no_names zero = refl
  no_names (suc n) = omega (arith, no_names n)

  commas : (n : ℕ) → AllSay (replicate n (a_sign core_sign.Comma))
  commas zero = tt
  commas (suc n) = (tt, commas n)

  of_param : (p : Param) → Shows (param_word p ∷ []) (param_tokens p)
  of_param p = go p.rank
    where
      go : (n : ℕ) → Shows (ranked_word p.name n ∷ []) (name_token p.name ∷ rank_tokens n)
      go zero = record { of = λ h. (h.0, tt); few = omega arith }
      go (suc n) = record { of = λ h. (h.0, (tt, say_both (replicate n (a_sign core_sign.Comma)) (a_sign core_sign.CloseBracket ∷ []) (commas n) (tt, tt))); few = omega (arith, many_join (replicate n (a_sign core_sign.Comma)) (a_sign core_sign.CloseBracket ∷ []), no_names n) }

  of_params : (ps : List Param) → Shows (map param_word ps) (params_tokens ps)
  of_params [] = none
  of_params (p ∷ []) = of_param p
  of_params (p ∷ q ∷ ps) = both (of_param p) (mute (a_sign core_sign.Comma) refl tt (of_params (q ∷ ps)))

  of_braces : {ws : List (Word Name)} {ts : List Spelling} (b : Bool) → Shows ws ts → Shows ws (braced b ts)
  of_braces true s = s
  of_braces false s = mute (a_sign core_sign.OpenBrace) refl tt s

  brace : {ws : List (Word Name)} {ts : List Spelling} → Shows ws ts → Shows ws (a_sign core_sign.OpenBrace ∷ ts)
  brace s = mute (a_sign core_sign.OpenBrace) refl tt s

  mutual
    of_expr : (e : Expr) → Shows (words e) (tokens e)
    of_expr (Number at n) = record { of = λ h. (tt, tt); few = omega arith }
    of_expr (Named at x) = record { of = λ h. (h.0, tt); few = omega arith }
    of_expr (Bracket e) = then_token (mute (a_sign core_sign.OpenParen) refl tt (then_word (of_expr e) (of_core core.Bracket))) (a_sign core_sign.CloseParen) refl tt
    of_expr (Prefix at op e) = mute (sign_at at (sign.Core (prefix_sign op))) refl tt (then_word (of_expr e) (of_core (core.Prefix at op)))
    of_expr (Infix at s l r) = then_word (both (of_expr l) (skip (of_core core.Left) (mute (sign_at at (sign.Core (infix_sign s))) refl tt (of_expr r))))
        (of_core (core.Infix at s))
    of_expr (And at l r) = then_word (both (of_expr l) (skip word.AndThen (mute (word_at at keyword.And) refl tt (of_expr r)))) (word.EndAnd at)
    of_expr (Or at l r) = then_word (both (of_expr l) (skip word.OrElse (mute (word_at at keyword.Or) refl tt (of_expr r)))) (word.EndOr at)
    of_expr (Not at e) = mute (word_at at keyword.Not) refl tt (then_word (of_expr e) (word.Not at))
    of_expr (Fetch at a es) = then_token (then_word (name (of_core (core.Cell at a)) (name_at at a) (λ h. h) (mute (a_sign core_sign.OpenBracket) refl tt
        (of_index es))) (of_core (core.Fetch at a))) (a_sign core_sign.CloseBracket) refl tt
    of_expr (Store at a es d) =
        let cell = name (of_core (core.Cell at a)) (name_at at a) (λ h. h) (mute (a_sign core_sign.OpenBracket) refl tt (of_index es)) in
        let value = skip (of_core core.Index) (mute (a_sign core_sign.CloseBracket) refl tt (mute (a_sign core_sign.Becomes) refl tt (of_expr d))) in
        then_word (both cell value) (of_core (core.Store at a))
    of_expr (Call at strict f es) =
        let arguments = name (of_core (core.Callee at f)) (name_at at f) (λ h. h) (skip (of_core core.List) (mute (a_sign core_sign.OpenParen) refl tt (of_parts es))) in
        then_token (then_word (both (of_strict strict) arguments) (of_core (core.Call at strict f))) (a_sign core_sign.CloseParen) refl tt
    of_expr (If at p l r) =
        let test = mute (word_at at (keyword.Core core_keyword.If)) refl tt (of_expr p) in
        let left = skip (of_core core.Then) (brace (of_body l)) in
        let right = skip (of_core core.Else) (mute (a_word core_keyword.Else) refl tt (of_braces (is_chain r) (of_body r))) in
        then_word (both (both test left) right) (of_core (core.EndIf at))
    of_expr (Loop at bound firsts turn) =
        let head = both (of_count bound) (mute (a_sign core_sign.OpenParen) refl tt (of_firsts (names_of turn) firsts)) in
        let begin = skip (of_core (core.Loop at)) (mute (word_at at (keyword.Core core_keyword.Loop)) refl tt head) in
        then_word (both begin (mute (a_sign core_sign.CloseParen) refl tt (of_turn turn))) (end_loop at bound)
    of_expr (For at bound i a b carried body) =
        let begin = skip (word.For at) (mute (word_at at keyword.For) refl tt (of_bound bound)) in
        let first = name (word.Counter i.at i.name) (name_token i) (λ h. h) (mute (the_word keyword.In) refl tt (of_expr a)) in
        let end = skip word.Range (mute (the_sign sign.Range) refl tt (of_expr b)) in
        let turns = skip word.Turns (brace (of_body body)) in
        then_word (both (both (both (both begin first) end) (skip word.EndRange (of_carried carried))) turns) (word.EndFor at)

    of_parts : (es : Exprs) → Shows (part_words es) (list_tokens es)
    of_parts (One e) = then_word (of_expr e) (of_core core.Part)
    of_parts (More e es) = both (of_expr e) (skip (of_core core.Part) (mute (a_sign core_sign.Comma) refl tt (of_parts es)))

    of_index : (es : Exprs) → Shows (index_words es) (list_tokens es)
    of_index (One e) = of_expr e
    of_index (More e es) = both (of_expr e) (skip word.NextIndex (mute (a_sign core_sign.Comma) refl tt (of_index es)))

    of_firsts : (xs : List NameAt) (es : Exprs) → Shows (first_words xs es) (first_tokens xs es)
    of_firsts xs (One e) = then_word (both (of_start xs) (of_expr e)) (of_core core.First)
    of_firsts xs (More e es) = both (both (of_start xs) (of_expr e)) (skip (of_core core.First) (mute (a_sign core_sign.Comma) refl tt (of_firsts (others xs) es)))

    of_body : (b : Body) → Shows (body_words b) (body_tokens b)
    of_body (Let at ts es rest) =
        let bound = skip (of_core (core.Let at)) (mute (word_at at (keyword.Core core_keyword.Let)) refl tt (of_targets ts)) in
        let values = skip (of_core core.List) (mute (a_sign core_sign.Equals) refl tt (of_parts es)) in
        both (both bound values) (skip (of_core (core.EndLet at)) (mute (a_sign core_sign.Semicolon) refl tt (of_body rest)))
    of_body (Do es rest) = both (skip (of_core core.List) (of_parts es)) (skip (of_core core.Do) (mute (a_sign core_sign.Semicolon) refl tt (of_body rest)))
    of_body (When tests rest) = both (skip (of_core core.List) (of_tests tests)) (skip word.When (mute (a_sign core_sign.Semicolon) refl tt (of_body rest)))
    of_body (Give es) = then_token (then_word (skip (of_core core.List) (of_parts es)) (of_core core.Give)) (a_sign core_sign.CloseBrace) refl tt
    of_body (Chain e) = then_word (of_expr e) (of_core core.Chain)

    of_tests : (ts : Tests) → Shows (tests_words ts) (tests_tokens ts)
    of_tests (Last at p arm) = then_word (both (mute (word_at at (keyword.Core core_keyword.If)) refl tt (of_expr p)) (skip (of_core core.Then) (brace (of_body arm))))
        (word.EndWhen at)
    of_tests (Else at p arm more) =
        let first = both (mute (word_at at (keyword.Core core_keyword.If)) refl tt (of_expr p)) (skip (of_core core.Then) (brace (of_body arm))) in
        then_word (both first (skip (of_core core.Else) (mute (a_word core_keyword.Else) refl tt (of_tests more)))) (word.EndWhen at)

    of_turn : (t : Turn) → Shows (turn_words t) (turn_tokens t)
    of_turn (Before xs p b) = both (skip (of_core core.TestFirst) (mute (a_word core_keyword.While) refl tt (of_expr p))) (skip (of_core core.While) (brace (of_body b)))
    of_turn (After xs b p) = then_token (both (skip (of_core core.BodyFirst) (brace (of_body b))) (skip (of_core core.Until) (mute (a_word core_keyword.While) refl tt
        (mute (a_sign core_sign.OpenParen) refl tt (of_expr p))))) (a_sign core_sign.CloseParen) refl tt

    of_carried : (c : Carried) → Shows (carried_words c) (carried_tokens c)
    of_carried Nothing = none
    of_carried (With xs firsts) = mute (the_word keyword.With) refl tt (of_firsts xs firsts)

  of_item : (i : Item) → Shows (item_words i) (item_tokens i)
  of_item (Cells x es) =
      let head = name (of_core (core.Array x.at x.name)) (name_token x) (λ h. h) (skip (of_core core.List) (mute (a_sign core_sign.OpenBracket) refl tt (of_parts es))) in
      both (mute (a_word core_keyword.Array) refl tt head) (skip word.EndArray (mute (a_sign core_sign.CloseBracket) refl tt (mute (a_sign core_sign.Semicolon) refl tt none)))
  of_item (Const x e) =
      let head = name (word.Constant x.at x.name) (name_token x) (λ h. h) (mute (a_sign core_sign.Equals) refl tt (of_expr e)) in
      then_token (then_word (mute (the_word keyword.Const) refl tt head) word.EndConstant) (a_sign core_sign.Semicolon) refl tt
  of_item (Defines f) =
      let params = name (of_core (core.Function f.name.at f.name.name)) (name_token f.name) (λ h. h) (mute (a_sign core_sign.OpenParen) refl tt (of_params f.params)) in
      let head = both (mute (a_word core_keyword.Fn) refl tt params) (mute (a_sign core_sign.CloseParen) refl tt (of_results f.results)) in
      let body = skip (of_core (core.Body f.body_at)) (mute (sign_at f.body_at (sign.Core core_sign.OpenBrace)) refl tt (of_body f.body)) in
      then_word (both head body) (of_core core.EndFunction)

  of_program : (p : Program) → Shows (program_words p) (program_tokens p)
  of_program [] = none
  of_program (i ∷ items) = both (of_item i) (of_program items)

  -- THE NAMES of tokens
  all_said : (ts : List Spelling) → AllSay ts → All P (filter_map (λ (s : Spelling). name_said s.lexeme) ts)
  all_said [] h = All-nil P
  all_said (t ∷ ts) h = go t.lexeme h.0 (all_said ts h.1)
    where
      go : (l : Lexeme) → Says l → All P (filter_map (λ (s : Spelling). name_said s.lexeme) ts) → All P (cons_option (name_said l) (filter_map
          (λ (s : Spelling). name_said s.lexeme) ts))
      go (TheName x) m rest = All-cons P x (filter_map (λ (s : Spelling). name_said s.lexeme) ts) m rest
      go (TheWord k) m rest = rest
      go (TheSign s) m rest = rest
      go (TheNumber n) m rest = rest

-- NUMBERS of the table
abbrev InTable : List Name → Name → Type 0
InTable names x = is_in x names ≡ true

in_table : (names : List Name) (n : ℕ) → n < length names → InTable names (name_of names n)
in_table [] n h = absurd (omega (arith, h))
in_table (x ∷ names) zero h = rw (same_name_itself x) refl
in_table (x ∷ names) (suc n) h = go (same_name (name_of names n) x) (in_table names n (omega (arith, h)))
  where
    go : (b : Bool) → is_in (name_of names n) names ≡ true → (b || is_in (name_of names n) names) ≡ true
    go true later = refl
    go false later = later

module _ (names : List Name) where
  abbrev AreLow : List ℕ → Type 0
  AreLow ks = All (λ k. k < length names) ks

  one_in : (n : ℕ) → AreLow (n ∷ []) → InTable names (name_of names n)
  one_in n h = in_table names n (All-head (λ k. k < length names) n [] h)

  word_holds : (w : Word ℕ) → AreLow (numbers_of w) → Holds (InTable names) (named names w)
  word_holds (word.Core (core.Array at x)) h = one_in x h
  word_holds (word.Core (core.Length at k)) h = tt
  word_holds (word.Core (core.Function at x)) h = one_in x h
  word_holds (word.Core (core.Parameter at x)) h = one_in x h
  word_holds (word.Core (core.Results at k)) h = tt
  word_holds (word.Core (core.Body at)) h = tt
  word_holds (word.Core core.EndFunction) h = tt
  word_holds (word.Core (core.Number at k)) h = tt
  word_holds (word.Core (core.Name at x)) h = one_in x h
  word_holds (word.Core core.Bracket) h = tt
  word_holds (word.Core (core.Prefix at op)) h = tt
  word_holds (word.Core core.Left) h = tt
  word_holds (word.Core (core.Infix at s)) h = tt
  word_holds (word.Core (core.Cell at x)) h = one_in x h
  word_holds (word.Core (core.Fetch at x)) h = one_in x h
  word_holds (word.Core core.Index) h = tt
  word_holds (word.Core (core.Store at x)) h = one_in x h
  word_holds (word.Core (core.Callee at x)) h = one_in x h
  word_holds (word.Core (core.Call at strict x)) h = one_in x h
  word_holds (word.Core core.Then) h = tt
  word_holds (word.Core core.Else) h = tt
  word_holds (word.Core (core.EndIf at)) h = tt
  word_holds (word.Core (core.Loop at)) h = tt
  word_holds (word.Core (core.Bound at k)) h = tt
  word_holds (word.Core (core.Start at x)) h = one_in x h
  word_holds (word.Core core.First) h = tt
  word_holds (word.Core core.TestFirst) h = tt
  word_holds (word.Core core.While) h = tt
  word_holds (word.Core core.BodyFirst) h = tt
  word_holds (word.Core core.Until) h = tt
  word_holds (word.Core (core.EndLoop at k)) h = tt
  word_holds (word.Core core.List) h = tt
  word_holds (word.Core core.Part) h = tt
  word_holds (word.Core (core.Let at)) h = tt
  word_holds (word.Core (core.Bind at x)) h = one_in x h
  word_holds (word.Core core.Drop) h = tt
  word_holds (word.Core (core.EndLet at)) h = tt
  word_holds (word.Core core.Do) h = tt
  word_holds (word.Core core.Give) h = tt
  word_holds (word.Core core.Chain) h = tt
  word_holds word.EndArray h = tt
  word_holds (word.Constant at x) h = one_in x h
  word_holds word.EndConstant h = tt
  word_holds (word.ArrayParameter at x rank) h = one_in x h
  word_holds (word.ConstantResults at x) h = one_in x h
  word_holds word.AndThen h = tt
  word_holds (word.EndAnd at) h = tt
  word_holds word.OrElse h = tt
  word_holds (word.EndOr at) h = tt
  word_holds (word.Not at) h = tt
  word_holds word.NextIndex h = tt
  word_holds (word.ConstantBound at x) h = one_in x h
  word_holds (word.EndConstantLoop at x) h = one_in x h
  word_holds (word.For at) h = tt
  word_holds (word.Counter at x) h = one_in x h
  word_holds word.Range h = tt
  word_holds word.EndRange h = tt
  word_holds word.Turns h = tt
  word_holds (word.EndFor at) h = tt
  word_holds (word.EndWhen at) h = tt
  word_holds word.When h = tt

  words_hold : (ws : List (Word ℕ)) → All (λ w. AreLow (numbers_of w)) ws → AllHold (InTable names) (map (named names) ws)
  words_hold [] h = tt
  words_hold (w ∷ ws) h = (
    word_holds w (All-head (λ v. AreLow (numbers_of v)) w ws h),
    words_hold ws (All-tail (λ v. AreLow (numbers_of v)) w ws h),
  )

pub words_have_all_names : WordsHaveAllNames
words_have_all_names names ws p h =
    let In : Name → Type 0 = InTable names in
    let hold : AllHold In (program_words p) = subst (λ vs. AllHold In vs) h.words (words_hold names ws h.known) in
    let shows : Shows In (program_words p) (program_tokens p) = of_program In p in
    all_said In (program_tokens p) (shows.of hold)

-- AS MANY
as_many : (ts : List Spelling) → length (filter_map (λ (s : Spelling). name_said s.lexeme) ts) ≡ many ts
as_many [] = refl
as_many (t ∷ ts) = go t.lexeme (as_many ts)
  where
    go : (l : Lexeme) → length (filter_map (λ (s : Spelling). name_said s.lexeme) ts) ≡ many ts → length (cons_option (name_said l) (filter_map
        (λ (s : Spelling). name_said s.lexeme) ts)) ≡ counted l + many ts
    go (TheName x) e = omega (arith, e)
    go (TheWord k) e = omega (arith, e)
    go (TheSign s) e = omega (arith, e)
    go (TheNumber n) e = omega (arith, e)

pub names_are_few : NamesAreFew
names_are_few names ws p h =
    let shows : Shows (InTable names) (program_words p) (program_tokens p) = of_program (InTable names) p in
    let long : length (program_words p) ≡ length ws = ap (λ (vs : List (Word Name)). length vs) (sym h.words) ∙ length-map ws (named names) in
    omega (arith, as_many (program_tokens p), shows.few, long)
