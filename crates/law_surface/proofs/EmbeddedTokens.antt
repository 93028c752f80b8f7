-- A program of the core has the same tokens with derived forms.
use Rattle.std.specs.Prelude.{◌≡◌, ◌++◌, Bool, true, false, List, [], ◌∷◌, map, option_map, Option, None, Some, refl}
use Rattle.std.proofs.Common.{sym, ◌∙◌, ap}
use Rattle.std.proofs.lemmas.List.{map-append}
use Rattle.source.specs.Tree as core
use Rattle.source.specs.Tree.{NameAt, NumberAt, Target, Bind, Drop}
use Rattle.source.specs.Spelled as core_spelled
use Rattle.source.specs.Spelled.{others}
use Rattle.surface.specs.Spelled.{Spelling, with_commas, target_token, start_tokens, strict_tokens, is_chain, braced, tokens, list_tokens}
use Rattle.surface.specs.Spelled.{first_tokens, body_tokens, turn_tokens, params_tokens, result_tokens, item_tokens, program_tokens}
use Rattle.surface.specs.Embedded.{written, embedded_expr, embedded_exprs, embedded_body, embedded_turn, value_param, embedded_item, embedded}
use Rattle.law_surface.specs.CoreIsSurface.{surface_spelling}
use Rattle.law_surface.proofs.EmbeddedFits.{names_are}

-- tokens of the core, with derived forms
abbrev lifted : List core_spelled.Spelling → List Spelling
lifted ts = map surface_spelling ts

after : {x : Spelling} {xs ys : List Spelling} → xs ≡ ys → x ∷ xs ≡ x ∷ ys
after {x = x} h = ap (λ (ts : List Spelling). x ∷ ts) h

-- parts side by side
join : {xs ys : List Spelling} (us vs : List core_spelled.Spelling) → xs ≡ lifted us → ys ≡ lifted vs → xs ++ ys ≡ lifted (us ++ vs)
join {ys = ys} us vs h g = ap (λ (ts : List Spelling). ts ++ ys) h ∙ ap (λ (ts : List Spelling). lifted us ++ ts) g ∙ sym (map-append
    surface_spelling us vs)

strict_is : (strict : Bool) → strict_tokens strict ≡ lifted (core_spelled.strict_tokens strict)
strict_is true = refl
strict_is false = refl

target_is : (t : Target) → target_token t ≡ surface_spelling (core_spelled.target_token t)
target_is (Bind x) = refl
target_is Drop = refl

two : {x y : Spelling} {xs ys : List Spelling} → x ≡ y → xs ≡ ys → x ∷ xs ≡ y ∷ ys
two {y = y} {xs = xs} h g = ap (λ (t : Spelling). t ∷ xs) h ∙ after g

targets_are : (ts : List Target) → with_commas (map target_token ts) ≡ lifted (core_spelled.with_commas (map core_spelled.target_token ts))
targets_are [] = refl
targets_are (t ∷ []) = two (target_is t) refl
targets_are (t ∷ u ∷ ts) = two (target_is t) (after (targets_are (u ∷ ts)))

params_are : (xs : List NameAt) → params_tokens (map value_param xs) ≡ lifted (core_spelled.with_commas (map core_spelled.name_token xs))
params_are [] = refl
params_are (x ∷ []) = refl
params_are (x ∷ y ∷ xs) = after (after (params_are (y ∷ xs)))

starts_are : (xs : List NameAt) → start_tokens xs ≡ lifted (core_spelled.start_tokens xs)
starts_are [] = refl
starts_are (x ∷ xs) = refl

chain_is : (body : core.Body) → is_chain (embedded_body body) ≡ core_spelled.is_chain body
chain_is (core.Let at targets es rest) = refl
chain_is (core.Do es rest) = refl
chain_is (core.Give es) = refl
chain_is (core.Chain e) = refl

braced_is : (b c : Bool) (xs : List Spelling) (us : List core_spelled.Spelling) → b ≡ c → xs ≡ lifted us → braced b xs ≡ lifted (core_spelled.braced c us)
braced_is true true xs us e h = h
braced_is true false xs us e h = cc
braced_is false true xs us e h = cc
braced_is false false xs us e h = after h

mutual
  same : (e : core.Expr) → tokens (embedded_expr e) ≡ lifted (core_spelled.tokens e)
  same (core.Number at n) = refl
  same (core.Named at x) = refl
  same (core.Bracket e) = after (join _ _ (same e) refl)
  same (core.Prefix at op e) = after (same e)
  same (core.Infix at s l r) = join _ _ (same l) (after (same r))
  same (core.Fetch at a e) = after (after (join _ _ (same e) refl))
  same (core.Store at a e d) = after (after (join _ _ (same e) (after (after (same d)))))
  same (core.Call at strict f es) = join _ _ (join _ _ (strict_is strict) (after (after (list_same es)))) refl
  same (core.If at p l r) = after (join _ _ (join _ _ (same p) (after (body_same l))) (after (braced_is (is_chain (embedded_body r)) (core_spelled.is_chain r)
      (body_tokens (embedded_body r)) (core_spelled.body_tokens r) (chain_is r) (body_same r))))
  same (core.Loop at bound firsts turn) = after (after (after (join _ _ (ap (λ (xs : List NameAt). first_tokens xs (embedded_exprs firsts)) (names_are turn) ∙
      firsts_same (core.names_of turn) firsts) (after (turn_same turn)))))

  list_same : (es : core.Exprs) → list_tokens (embedded_exprs es) ≡ lifted (core_spelled.list_tokens es)
  list_same (core.One e) = same e
  list_same (core.More e es) = join _ _ (same e) (after (list_same es))

  firsts_same : (xs : List NameAt) (es : core.Exprs) → first_tokens xs (embedded_exprs es) ≡ lifted (core_spelled.first_tokens xs es)
  firsts_same xs (core.One e) = join _ _ (starts_are xs) (same e)
  firsts_same xs (core.More e es) = join _ _ (join _ _ (starts_are xs) (same e)) (after (firsts_same (others xs) es))

  body_same : (body : core.Body) → body_tokens (embedded_body body) ≡ lifted (core_spelled.body_tokens body)
  body_same (core.Let at targets es rest) = after (join _ _ (join _ _ (targets_are targets) (after (list_same es))) (after (body_same rest)))
  body_same (core.Do es rest) = join _ _ (list_same es) (after (body_same rest))
  body_same (core.Give es) = join _ _ (list_same es) refl
  body_same (core.Chain e) = same e

  turn_same : (turn : core.Turn) → turn_tokens (embedded_turn turn) ≡ lifted (core_spelled.turn_tokens turn)
  turn_same (core.Before xs p body) = after (join _ _ (same p) (after (body_same body)))
  turn_same (core.After xs body p) = after (join _ _ (join _ _ (body_same body) (after (after (same p)))) refl)

results_are : (n : Option NumberAt) → result_tokens (option_map written n) ≡ lifted (core_spelled.result_tokens n)
results_are None = refl
results_are (Some n) = refl

item_same : (i : core.Item) → item_tokens (embedded_item i) ≡ lifted (core_spelled.item_tokens i)
item_same (core.Cells x len) = refl
item_same (core.Defines f) = after (after (after (join _ _ (join _ _ (params_are f.params) (after (results_are f.results))) (after (body_same f.body)))))

pub program_same : (p : core.Program) → program_tokens (embedded p) ≡ lifted (core_spelled.program_tokens p)
program_same [] = refl
program_same (i ∷ items) = join _ _ (item_same i) (program_same items)
