-- WHAT A PART NAMES: each name that it binds has a property, so has each call with arrays, and there are as many first values as
-- names. It is so where each name of its tokens has the one, and each call that it wants has the other.
use Rattle.std.specs.Prelude.{◌≡◌, ℕ, zero, suc, ◌⊎◌, Bool, true, false, List, [], ◌∷◌, ◌++◌, map, length, filter_map, replicate, Option, None, Some, ⊤, refl}
use Rattle.std.specs.List.{cons_option}
use Rattle.std.proofs.Common.{◌∙◌, ap, subst, arith, inl, inr}
use Rattle.lemmas.proofs.Permutations.{Each, each_append_back}
use Rattle.source.specs.declared.token.Keyword.TheVariants as core_word
use Rattle.source.specs.declared.token.Sign.TheVariants as core_sign
use Rattle.source.specs.Tree.{Name, NameAt, Target, Bind, Drop}
use Rattle.source.specs.Spelled.{infix_sign}
use Rattle.source.specs.Outside.{bare, bound_by}
use Rattle.operators.specs.declared.Unary.{Unary}
use Rattle.operators.specs.declared.Unary.TheVariants.{Neg, Not as Flip}
use Rattle.surface.specs.declared.token.Keyword.TheVariants as word
use Rattle.surface.specs.declared.token.Sign.TheVariants as sign
use Rattle.surface.specs.Tree.{Count, Written, Constant, Expr, Number, Named, Bracket, Prefix, Infix, And, Or, Not, Fetch, Store, Call, If, Loop, For}
use Rattle.surface.specs.Tree.{Exprs, One, More, Body, Let, Do, When, Give, Chain, Tests, Last, Else, Turn, Before, After, Carried, Nothing, With}
use Rattle.surface.specs.Tree.{names_of}
use Rattle.surface.specs.Fits.{IsLeast, count, Fits, FitsAll, FitsBody, FitsTests, FitsTurn, FitsCarried}
use Rattle.surface.specs.Known.{Callee, Missing, OfValues, OfArrays, IsBuiltIn, callee}
use Rattle.surface.specs.Spelled.{Spelling, the_word, the_sign, word_at, sign_at, name_at, a_word, a_sign, comma_and}
use Rattle.surface.specs.Spelled.{is_chain, braced, strict_tokens, target_token, with_commas, start_tokens, count_tokens, name_token}
use Rattle.surface.specs.Spelled.{tokens, list_tokens, first_tokens, body_tokens, tests_tokens, turn_tokens, carried_tokens}
use Rattle.surface.specs.Desugar.{Setting, array_passed, or_more, arrays_passed}
use Rattle.surface.specs.Instances.{Wanted, name_said, wanted_by, wanted, list_wanted, body_wanted, tests_wanted, turn_wanted, carried_wanted}

abbrev mutual
  pub Ready : (Name → Type 0) → (Wanted → Type 0) → Setting → Expr → Type 0
  Ready P Q s (Number at n) = ⊤
  Ready P Q s (Named at x) = ⊤
  Ready P Q s (Bracket e) = Ready P Q s e
  Ready P Q s (Prefix at op e) = Ready P Q s e
  Ready P Q s (Infix at sign l r) = Ready P Q s l × Ready P Q s r
  Ready P Q s (And at l r) = Ready P Q s l × Ready P Q s r
  Ready P Q s (Or at l r) = Ready P Q s l × Ready P Q s r
  Ready P Q s (Not at e) = Ready P Q s e
  Ready P Q s (Fetch at a es) = ReadyAll P Q s es
  Ready P Q s (Store at a es d) = ReadyAll P Q s es × Ready P Q s d
  Ready P Q s (Call at strict f es) = Each Q (wanted_by s f es (callee s.known strict f)) × ReadyAll P Q s es
  Ready P Q s (If at p l r) = Ready P Q s p × ReadyBody P Q s l × ReadyBody P Q s r
  Ready P Q s (Loop at bound firsts turn) = ReadyAll P Q s firsts × (count firsts ≡ length (names_of turn)) × Each P (bare (names_of turn)) × ReadyTurn P Q s turn
  Ready P Q s (For at bound i a b carried body) = P i.name × Ready P Q s a × Ready P Q s b × ReadyCarried P Q s carried × ReadyBody P Q s body

  pub ReadyAll : (Name → Type 0) → (Wanted → Type 0) → Setting → Exprs → Type 0
  ReadyAll P Q s (One e) = Ready P Q s e
  ReadyAll P Q s (More e es) = Ready P Q s e × ReadyAll P Q s es

  pub ReadyBody : (Name → Type 0) → (Wanted → Type 0) → Setting → Body → Type 0
  ReadyBody P Q s (Let at targets es rest) = Each P (bound_by targets) × ReadyAll P Q s es × ReadyBody P Q s rest
  ReadyBody P Q s (Do es rest) = ReadyAll P Q s es × ReadyBody P Q s rest
  ReadyBody P Q s (When tests rest) = ReadyTests P Q s tests × ReadyBody P Q s rest
  ReadyBody P Q s (Give es) = ReadyAll P Q s es
  ReadyBody P Q s (Chain e) = Ready P Q s e

  pub ReadyTests : (Name → Type 0) → (Wanted → Type 0) → Setting → Tests → Type 0
  ReadyTests P Q s (Last at p arm) = Ready P Q s p × ReadyBody P Q s arm
  ReadyTests P Q s (Else at p arm more) = Ready P Q s p × ReadyBody P Q s arm × ReadyTests P Q s more

  pub ReadyTurn : (Name → Type 0) → (Wanted → Type 0) → Setting → Turn → Type 0
  ReadyTurn P Q s (Before xs p body) = Ready P Q s p × ReadyBody P Q s body
  ReadyTurn P Q s (After xs body p) = ReadyBody P Q s body × Ready P Q s p

  pub ReadyCarried : (Name → Type 0) → (Wanted → Type 0) → Setting → Carried → Type 0
  ReadyCarried P Q s Nothing = ⊤
  ReadyCarried P Q s (With xs firsts) = Each P (bare xs) × ReadyAll P Q s firsts × (count firsts ≡ length xs)

-- NAMES OF TOKENS
abbrev pub IfSaid : (Name → Type 0) → Option Name → Type 0
IfSaid P None = ⊤
IfSaid P (Some x) = P x

abbrev pub AllSaid : (Name → Type 0) → List Spelling → Type 0
AllSaid P [] = ⊤
AllSaid P (t ∷ ts) = IfSaid P (name_said t.lexeme) × AllSaid P ts

pub said_from : (P : Name → Type 0) (ts : List Spelling) → Each P (filter_map (λ (t : Spelling). name_said t.lexeme) ts) → AllSaid P ts
said_from P [] h = tt
said_from P (t ∷ ts) h = go (name_said t.lexeme) h (λ g. said_from P ts g)
  where
    go : (o : Option Name) → Each P (cons_option o (filter_map (λ (t : Spelling). name_said t.lexeme) ts)) → (Each P (filter_map (λ (t : Spelling). name_said t.lexeme) ts) → AllSaid P ts) → IfSaid P o × AllSaid P ts
    go None g later = (tt, later g)
    go (Some x) g later = (g.0, later g.1)

pub said_back : (P : Name → Type 0) (ts us : List Spelling) → AllSaid P (ts ++ us) → AllSaid P ts × AllSaid P us
said_back P [] us h = (tt, h)
said_back P (t ∷ ts) us h = let ih = said_back P ts us h.1 in ((h.0, ih.0), ih.1)

targets_said : (P : Name → Type 0) (targets : List Target) → AllSaid P (with_commas (map target_token targets)) → Each P (bound_by targets)
targets_said P [] h = tt
targets_said P (Bind x ∷ []) h = (h.0, tt)
targets_said P (Drop ∷ []) h = tt
targets_said P (Bind x ∷ t ∷ targets) h = (h.0, targets_said P (t ∷ targets) h.1.1)
targets_said P (Drop ∷ t ∷ targets) h = targets_said P (t ∷ targets) h.1.1

braced_said : (P : Name → Type 0) (b : Bool) (ts : List Spelling) → AllSaid P (braced b ts) → AllSaid P ts
braced_said P true ts h = h
braced_said P false ts h = h.1

said_and : (P : Name → Type 0) (ts us : List Spelling) → AllSaid P ts → AllSaid P us → AllSaid P (ts ++ us)
said_and P [] us h g = g
said_and P (t ∷ ts) us h g = (h.0, said_and P ts us h.1 g)

-- names with their first values
firsts_said : (P : Name → Type 0) (xs : List NameAt) (es : Exprs) → count es ≡ length xs → AllSaid P (first_tokens xs es) → Each P (bare xs) × AllSaid P
    (list_tokens es)
firsts_said P [] (One e) c h = (tt, h)
firsts_said P (x ∷ []) (One e) c h = ((h.0, tt), h.1.1)
firsts_said P (x ∷ y ∷ xs) (One e) c h = absurd (omega (arith, c))
firsts_said P [] (More e es) c h = absurd (omega (arith, c))
firsts_said P (x ∷ xs) (More e es) c h =
    let s = said_back P (tokens e) (comma_and (first_tokens xs es)) h.1.1 in
    let rest = firsts_said P xs es (omega (arith, c)) s.1.1 in ((h.0, rest.0), said_and P (tokens e) (comma_and (list_tokens es)) s.0 (tt, rest.1))

-- A number is a part of its sign.
least_ready : (P : Name → Type 0) (Q : Wanted → Type 0) (s : Setting) (op : Unary) (e : Expr) → IsLeast op e → Ready P Q s e
least_ready P Q s Neg (Number at n) h = tt
least_ready P Q s Neg (Named at x) h = tt
least_ready P Q s Neg e h = absurd h
least_ready P Q s Flip e h = absurd h

abbrev close : List Spelling
close = a_sign core_sign.CloseParen ∷ []

abbrev end_index : List Spelling
end_index = a_sign core_sign.CloseBracket ∷ []

abbrev brace_and : List Spelling → List Spelling
brace_and ts = a_sign core_sign.OpenBrace ∷ ts

abbrev end_and : List Spelling → List Spelling
end_and ts = a_sign core_sign.Semicolon ∷ ts

-- What is wanted does not depend on the instances that there are.
abbrev pub without_instances : Setting → Name → Setting
without_instances s prefix = record { known = s.known; prefix = prefix; instances = []; stand_for = s.stand_for }

passed_same : (s : Setting) (prefix : Name) (e : Expr) → array_passed (without_instances s prefix) e ≡ array_passed s e
passed_same s prefix (Named at x) = refl
passed_same s prefix e = refl

all_passed_same : (s : Setting) (prefix : Name) (es : Exprs) → arrays_passed (without_instances s prefix) es ≡ arrays_passed s es
all_passed_same s prefix (One e) = ap (λ (o : Option Name). or_more o []) (passed_same s prefix e)
all_passed_same s prefix (More e es) = ap (λ (o : Option Name). or_more o (arrays_passed (without_instances s prefix) es)) (passed_same s prefix e)
    ∙ ap (λ (xs : List Name). or_more (array_passed s e) xs) (all_passed_same s prefix es)

called_same : (Q : Wanted → Type 0) (s : Setting) (prefix : Name) (f : Name) (es : Exprs) (c : Callee) → Each Q (wanted_by (without_instances s prefix) f es c) → Each Q
    (wanted_by s f es c)
called_same Q s prefix f es Missing h = tt
called_same Q s prefix f es (OfValues params results) h = tt
called_same Q s prefix f es (OfArrays ranks results) h =
    (subst (λ (xs : List Name). Q (record { function = f; arrays = xs })) (all_passed_same s prefix es) h.0, tt)
called_same Q s prefix f es (IsBuiltIn which) h = tt

module _ (P : Name → Type 0) (Q : Wanted → Type 0) (s : Setting) (prefix : Name) where
  abbrev bare_setting : Setting
  bare_setting = without_instances s prefix

  mutual
    ready : (e : Expr) → Fits e → AllSaid P (tokens e) → Each Q (wanted bare_setting e) → Ready P Q s e
    ready (Number at n) f h w = tt
    ready (Named at x) f h w = tt
    ready (Bracket e) f h w = ready e f (said_back P (tokens e) close h.1).0 w
    ready (Prefix at op e) (l, inr f) h w = least_ready P Q s op e f
    ready (Prefix at op e) (l, inl f) h w = ready e f h.1 w
    ready (Infix at i l r) f h w =
        let t = said_back P (tokens l) (sign_at at (sign.Core (infix_sign i)) ∷ tokens r) h in
        let u = each_append_back Q (wanted bare_setting l) (wanted bare_setting r) w in (ready l f.0 t.0 u.0, ready r f.2 t.1.1 u.1)
    ready (And at l r) f h w =
        let t = said_back P (tokens l) (word_at at word.And ∷ tokens r) h in
        let u = each_append_back Q (wanted bare_setting l) (wanted bare_setting r) w in (ready l f.0 t.0 u.0, ready r f.2 t.1.1 u.1)
    ready (Or at l r) f h w =
        let t = said_back P (tokens l) (word_at at word.Or ∷ tokens r) h in
        let u = each_append_back Q (wanted bare_setting l) (wanted bare_setting r) w in (ready l f.0 t.0 u.0, ready r f.2 t.1.1 u.1)
    ready (Not at e) f h w = ready e f.0 h.1 w
    ready (Fetch at a es) f h w = list_ready es f (said_back P (list_tokens es) end_index h.1.1).0 w
    ready (Store at a es d) f h w =
        let t = said_back P (list_tokens es) (a_sign core_sign.CloseBracket ∷ a_sign core_sign.Becomes ∷ tokens d) h.1.1 in
        let u = each_append_back Q (list_wanted bare_setting es) (wanted bare_setting d) w in (list_ready es f.0 t.0 u.0, ready d f.1 t.1.1.1 u.1)
    ready (Call at strict x es) f h w =
        let front : List Spelling = strict_tokens strict ++ name_at at x ∷ a_sign core_sign.OpenParen ∷ list_tokens es in
        let t = said_back P front close h in
        let r = said_back P (strict_tokens strict) (name_at at x ∷ a_sign core_sign.OpenParen ∷ list_tokens es) t.0 in
        let u = each_append_back Q (wanted_by bare_setting x es (callee s.known strict x)) (list_wanted bare_setting es) w in
        (called_same Q s prefix x es (callee s.known strict x) u.0, list_ready es f r.1.1.1 u.1)
    ready (If at p l r) f h w =
        let front : List Spelling = tokens p ++ brace_and (body_tokens l) in
        let t = said_back P front (a_word core_word.Else ∷ braced (is_chain r) (body_tokens r)) h.1 in
        let v = said_back P (tokens p) (brace_and (body_tokens l)) t.0 in
        let u = each_append_back Q (wanted bare_setting p ++ body_wanted bare_setting l) (body_wanted bare_setting r) w in
        let x = each_append_back Q (wanted bare_setting p) (body_wanted bare_setting l) u.0 in (
          ready p f.0 v.0 x.0,
          body_ready false l f.1 v.1.1 x.1,
          body_ready true r f.2 (braced_said P (is_chain r) (body_tokens r) t.1.1) u.1,
        )
    ready (Loop at bound firsts turn) f h w =
        let t = said_back P (first_tokens (names_of turn) firsts) (a_sign core_sign.CloseParen ∷ turn_tokens turn) h.1.1.1 in
        let v = firsts_said P (names_of turn) firsts f.2 t.0 in
        let u = each_append_back Q (list_wanted bare_setting firsts) (turn_wanted bare_setting turn) w in
        (list_ready firsts f.1 v.1 u.0, f.2, v.0, turn_ready turn f.3 t.1.1 u.1)
    ready (For at bound i a b carried body) f h w =
        let one : List Spelling = count_tokens bound ++ name_token i ∷ the_word word.In ∷ tokens a in
        let two : List Spelling = one ++ the_sign sign.Range ∷ tokens b in
        let three : List Spelling = two ++ carried_tokens carried in
        let t = said_back P three (brace_and (body_tokens body)) h.1 in
        let v = said_back P two (carried_tokens carried) t.0 in
        let x = said_back P one (the_sign sign.Range ∷ tokens b) v.0 in
        let y = said_back P (count_tokens bound) (name_token i ∷ the_word word.In ∷ tokens a) x.0 in
        let first : List Wanted = wanted bare_setting a ++ wanted bare_setting b in
        let u = each_append_back Q (first ++ carried_wanted bare_setting carried) (body_wanted bare_setting body) w in
        let r = each_append_back Q first (carried_wanted bare_setting carried) u.0 in
        let z = each_append_back Q (wanted bare_setting a) (wanted bare_setting b) r.0 in (
          y.1.0,
          ready a f.1 y.1.1.1 z.0,
          ready b f.2 x.1.1 z.1,
          carried_ready carried f.3 v.1 r.1,
          body_ready false body f.4 t.1.1 u.1,
        )

    list_ready : (es : Exprs) → FitsAll es → AllSaid P (list_tokens es) → Each Q (list_wanted bare_setting es) → ReadyAll P Q s es
    list_ready (One e) f h w = ready e f h w
    list_ready (More e es) f h w =
        let t = said_back P (tokens e) (comma_and (list_tokens es)) h in
        let u = each_append_back Q (wanted bare_setting e) (list_wanted bare_setting es) w in (ready e f.0 t.0 u.0, list_ready es f.1 t.1.1 u.1)

    pub body_ready : (b : Bool) (body : Body) → FitsBody b body → AllSaid P (body_tokens body) → Each Q (body_wanted bare_setting body) → ReadyBody P Q s body
    body_ready b (Let at targets es rest) f h w =
        let front : List Spelling = with_commas (map target_token targets) ++ a_sign core_sign.Equals ∷ list_tokens es in
        let t = said_back P front (end_and (body_tokens rest)) h.1 in
        let v = said_back P (with_commas (map target_token targets)) (a_sign core_sign.Equals ∷ list_tokens es) t.0 in
        let u = each_append_back Q (list_wanted bare_setting es) (body_wanted bare_setting rest) w in
        (targets_said P targets v.0, list_ready es f.1 v.1.1 u.0, body_ready false rest f.2 t.1.1 u.1)
    body_ready b (Do es rest) f h w =
        let t = said_back P (list_tokens es) (end_and (body_tokens rest)) h in
        let u = each_append_back Q (list_wanted bare_setting es) (body_wanted bare_setting rest) w in (list_ready es f.0 t.0 u.0, body_ready false rest f.1 t.1.1 u.1)
    body_ready b (When tests rest) f h w =
        let t = said_back P (tests_tokens tests) (end_and (body_tokens rest)) h in
        let u = each_append_back Q (tests_wanted bare_setting tests) (body_wanted bare_setting rest) w in (tests_ready tests f.0 t.0 u.0, body_ready false rest f.1 t.1.1 u.1)
    body_ready b (Give es) f h w = list_ready es f (said_back P (list_tokens es) (a_sign core_sign.CloseBrace ∷ []) h).0 w
    body_ready b (Chain e) f h w = ready e f.2 h w

    tests_ready : (tests : Tests) → FitsTests tests → AllSaid P (tests_tokens tests) → Each Q (tests_wanted bare_setting tests) → ReadyTests P Q s tests
    tests_ready (Last at p arm) f h w =
        let t = said_back P (tokens p) (brace_and (body_tokens arm)) h.1 in
        let u = each_append_back Q (wanted bare_setting p) (body_wanted bare_setting arm) w in (ready p f.0 t.0 u.0, body_ready false arm f.1 t.1.1 u.1)
    tests_ready (Else at p arm more) f h w =
        let front : List Spelling = tokens p ++ brace_and (body_tokens arm) in
        let t = said_back P front (a_word core_word.Else ∷ tests_tokens more) h.1 in
        let v = said_back P (tokens p) (brace_and (body_tokens arm)) t.0 in
        let u = each_append_back Q (wanted bare_setting p ++ body_wanted bare_setting arm) (tests_wanted bare_setting more) w in
        let x = each_append_back Q (wanted bare_setting p) (body_wanted bare_setting arm) u.0 in
        (ready p f.0 v.0 x.0, body_ready false arm f.1 v.1.1 x.1, tests_ready more f.2 t.1.1 u.1)

    turn_ready : (turn : Turn) → FitsTurn turn → AllSaid P (turn_tokens turn) → Each Q (turn_wanted bare_setting turn) → ReadyTurn P Q s turn
    turn_ready (Before xs p body) f h w =
        let t = said_back P (tokens p) (brace_and (body_tokens body)) h.1 in
        let u = each_append_back Q (wanted bare_setting p) (body_wanted bare_setting body) w in (ready p f.0 t.0 u.0, body_ready false body f.1 t.1.1 u.1)
    turn_ready (After xs body p) f h w =
        let front : List Spelling = body_tokens body ++ a_word core_word.While ∷ a_sign core_sign.OpenParen ∷ tokens p in
        let t = said_back P front close h.1 in
        let v = said_back P (body_tokens body) (a_word core_word.While ∷ a_sign core_sign.OpenParen ∷ tokens p) t.0 in
        let u = each_append_back Q (body_wanted bare_setting body) (wanted bare_setting p) w in (body_ready false body f.0 v.0 u.0, ready p f.1 v.1.1.1 u.1)

    carried_ready : (carried : Carried) → FitsCarried carried → AllSaid P (carried_tokens carried) → Each Q (carried_wanted bare_setting carried) → ReadyCarried P Q s carried
    carried_ready Nothing f h w = tt
    carried_ready (With xs firsts) f h w =
        let v = firsts_said P xs firsts f.1 h.1 in (v.0, list_ready firsts f.0 v.1 w, f.1)
