-- In a placed program no two tokens have one place: each number is the place of one token at most, and those of a part are those of
-- its words.
use Rattle.std.specs.Prelude.{◌≡◌, ℕ, zero, suc, ◌+◌, ◌==◌, ◌≤◌, ◌<◌, ◌⊎◌, Bool, true, false, List, [], ◌∷◌, ◌++◌, map, length, slice_get}
use Rattle.std.specs.Prelude.{Option, None, Some, refl, if◌then◌else◌}
use Rattle.std.proofs.Common.{◌∙◌, ap, arith, inl, inr, eqb-true}
use Rattle.std.proofs.lemmas.List.{length-append}
use Rattle.lemmas.proofs.Bools.{equal_itself}
use Rattle.source.specs.declared.token.Sign.TheVariants as sign
use Rattle.source.specs.declared.word.Word.{Word}
use Rattle.source.specs.declared.word.Word.TheVariants as word
use Rattle.source.specs.Tree.{Name, NameAt, NumberAt, Target, Bind, Drop, Expr, Number, Named, Bracket, Prefix, Infix, Fetch, Store, Call, If, Loop}
use Rattle.source.specs.Tree.{Exprs, One, More, Body, Let, Do, Give, Chain, Turn, Before, After, Item, Cells, Defines, Program, names_of}
use Rattle.source.specs.declared.token.Keyword.TheVariants as keyword
use Rattle.source.specs.Spelled.{Spelling, the_word, the_sign, word_at, sign_at, name_at, infix_sign, target_token, comma_and, with_commas, name_token, start_tokens, others, is_chain, braced, strict_tokens}
use Rattle.source.specs.Spelled.{tokens, list_tokens, first_tokens, body_tokens, turn_tokens, result_tokens, item_tokens, program_tokens}
use Rattle.source.specs.Words.{target_word, start_words, words, part_words, first_words, body_words, turn_words, result_words, item_words, program_words}
use Rattle.surface.specs.Placed.{size, names_from, targets_from, starts_from, placed_expr, placed_parts, placed_firsts, placed_body}
use Rattle.surface.specs.Placed.{placed_turn, placed_results, placed_item, placed_from, placed}
use Rattle.law_surface.specs.PlacedApart.{PlacedApart}

-- HOW OFTEN a number is the place of a token
abbrev here : ℕ → Option ℕ → ℕ
here v None = 0
here v (Some at) = if v == at then 1 else 0

abbrev occ : ℕ → List Spelling → ℕ
occ v [] = 0
occ v (t ∷ ts) = here v t.place + occ v ts

occ_join : (v : ℕ) (xs ys : List Spelling) → occ v (xs ++ ys) ≡ occ v xs + occ v ys
occ_join v [] ys = omega arith
occ_join v (x ∷ xs) ys = omega (arith, occ_join v xs ys)

-- once at most, and only from lo up to what is before hi
abbrev Within : ℕ → ℕ → ℕ → ℕ → Type 0
Within v lo hi o = (o ≡ 0) ⊎ ((o ≡ 1) × (lo ≤ v) × (v < hi))

wider : (v a b lo hi : ℕ) (o q : ℕ) → lo ≤ a → b ≤ hi → o ≡ q → Within v a b o → Within v lo hi q
wider v a b lo hi o q h g e (inl z) = inl (omega (arith, e, z))
wider v a b lo hi o q h g e (inr w) = inr (omega (arith, e, w.0), omega (arith, h, w.1), omega (arith, g, w.2))

both : (v a b c d x y : ℕ) → a ≤ b → b ≤ c → c ≤ d → Within v a b x → Within v c d y → Within v a d (x + y)
both v a b c d x y h g k (inl z) (inl w) = inl (omega (arith, z, w))
both v a b c d x y h g k (inl z) (inr w) = inr (omega (arith, z, w.0), omega (arith, h, g, w.1), w.2)
both v a b c d x y h g k (inr z) (inl w) = inr (omega (arith, z.0, w), z.1, omega (arith, g, k, z.2))
both v a b c d x y h g k (inr z) (inr w) = absurd (omega (arith, g, z.2, w.1))

none_in : (v lo hi : ℕ) → Within v lo hi 0
none_in v lo hi = inl refl

one_in : (v at : ℕ) → Within v at (at + 1) (here v (Some at))
one_in v at = go (v == at) refl
  where
    go : (b : Bool) → (v == at) ≡ b → Within v at (at + 1) (if b then 1 else 0)
    go true e = inr (refl, omega (arith, eqb-true v at e), omega (arith, eqb-true v at e))
    go false e = inl refl

-- SIZES
size_two : (xs ys : List (Word Name)) → length (xs ++ ys) ≡ length xs + length ys
size_two xs ys = length-append xs ys

map_length : {A B : Type 0} (f : A → B) (xs : List A) → length (map f xs) ≡ length xs
map_length f [] = refl
map_length f (x ∷ xs) = ap (λ (n : ℕ). suc n) (map_length f xs)

-- NAMES AND TARGETS
targets_in : (v n : ℕ) (ts : List Target) → Within v n (n + length ts) (occ v (with_commas (map target_token (targets_from n ts))))
targets_in v n [] = none_in v n (n + 0)
targets_in v n (Bind x ∷ []) = wider v n (n + 1) n (n + 1) (here v (Some n)) (here v (Some n) + 0) (omega arith) (omega arith) (omega arith) (one_in v n)
targets_in v n (Drop ∷ []) = none_in v n (n + 1)
targets_in v n (Bind x ∷ t ∷ ts) =
    let rest = targets_in v (n + 1) (t ∷ ts) in
    let o : ℕ = occ v (with_commas (map target_token (targets_from (n + 1) (t ∷ ts)))) in
    let step = both v n (n + 1) (n + 1) (n + 1 + length (t ∷ ts)) (here v (Some n)) o (omega arith) (omega arith) (omega arith) (one_in v n) rest in
    more_in t ts step
  where
    more_in : (t : Target) (ts : List Target) → Within v n (n + 1 + length (t ∷ ts)) (here v (Some n) + occ v (with_commas (map target_token (targets_from (n
        + 1) (t ∷ ts))))) → Within v n (n + length (Bind x ∷ t ∷ ts)) (occ v (with_commas (map target_token (targets_from n (Bind x ∷ t ∷ ts)))))
    more_in (Bind y) ts h = wider v n (n + 1 + length (Bind y ∷ ts)) n (n + length (Bind x ∷ Bind y ∷ ts)) _ _ (omega arith) (omega arith) (omega arith) h
    more_in Drop ts h = wider v n (n + 1 + length (Drop ∷ ts)) n (n + length (Bind x ∷ Drop ∷ ts)) _ _ (omega arith) (omega arith) (omega arith) h
targets_in v n (Drop ∷ t ∷ ts) = more_in t ts (targets_in v (n + 1) (t ∷ ts))
  where
    more_in : (t : Target) (ts : List Target) → Within v (n + 1) (n + 1 + length (t ∷ ts)) (occ v (with_commas (map target_token (targets_from (n + 1) (t ∷
        ts))))) → Within v n (n + length (Drop ∷ t ∷ ts)) (occ v (with_commas (map target_token (targets_from n (Drop ∷ t ∷ ts)))))
    more_in (Bind y) ts h = wider v (n + 1) (n + 1 + length (Bind y ∷ ts)) n (n + length (Drop ∷ Bind y ∷ ts)) _ _ (omega arith) (omega arith) (omega arith) h
    more_in Drop ts h = wider v (n + 1) (n + 1 + length (Drop ∷ ts)) n (n + length (Drop ∷ Drop ∷ ts)) _ _ (omega arith) (omega arith) (omega arith) h

names_in : (v n : ℕ) (xs : List NameAt) → Within v n (n + length xs) (occ v (with_commas (map name_token (names_from n xs))))
names_in v n [] = none_in v n (n + 0)
names_in v n (x ∷ []) = wider v n (n + 1) n (n + 1) (here v (Some n)) (here v (Some n) + 0) (omega arith) (omega arith) (omega arith) (one_in v n)
names_in v n (x ∷ y ∷ xs) =
    let o : ℕ = occ v (with_commas (map name_token (names_from (n + 1) (y ∷ xs)))) in
    let step = both v n (n + 1) (n + 1) (n + 1 + length (y ∷ xs)) (here v (Some n)) o (omega arith) (omega arith) (omega arith) (one_in v n) (names_in v (n +
    1) (y ∷ xs)) in
    wider v n (n + 1 + length (y ∷ xs)) n (n + length (x ∷ y ∷ xs)) (here v (Some n) + o) (occ v (with_commas (map name_token (names_from n (x ∷ y ∷ xs)))))
    (omega arith) (omega arith) (omega arith) step

strict_none : (v : ℕ) (strict : Bool) → occ v (strict_tokens strict) ≡ 0
strict_none v true = refl
strict_none v false = refl

braced_same : (v : ℕ) (b : Bool) (ts : List Spelling) → occ v (braced b ts) ≡ occ v ts
braced_same v true ts = refl
braced_same v false ts = omega arith

start_in : (v n : ℕ) (xs : List NameAt) (es : Exprs) → Within v n (n + length (start_words xs)) (occ v (start_tokens (starts_from n xs es)))
start_in v n [] es = none_in v n (n + 0)
start_in v n (x ∷ xs) (One e) = wider v n (n + 1) n (n + 1) (here v (Some n)) (here v (Some n) + (0 + 0)) (omega arith) (omega arith) (omega arith) (one_in v n)
start_in v n (x ∷ xs) (More e es) = wider v n (n + 1) n (n + 1) (here v (Some n)) (here v (Some n) + (0 + 0)) (omega arith) (omega arith) (omega arith)
    (one_in v n)

others_from : (n : ℕ) (xs : List NameAt) (e : Expr) (es : Exprs) → others (starts_from n xs (More e es)) ≡ starts_from (n + length (start_words xs) + size e
    + 1) (others xs) es
others_from n [] e es = refl
others_from n (x ∷ xs) e es = ap (λ (m : ℕ). starts_from m xs es) (omega arith)

starts_are : (n : ℕ) (firsts : Exprs) (turn : Turn) → names_of (placed_turn n firsts turn) ≡ starts_from n (names_of turn) firsts
starts_are n firsts (Before xs p body) = refl
starts_are n firsts (After xs body p) = refl

mutual
  expr_in : (v n : ℕ) (e : Expr) → Within v n (n + size e) (occ v (tokens (placed_expr n e)))
  expr_in v n (Number at k) = wider v n (n + 1) n (n + 1) (here v (Some n)) (here v (Some n) + 0) (omega arith) (omega arith) (omega arith) (one_in v n)
  expr_in v n (Named at x) = wider v n (n + 1) n (n + 1) (here v (Some n)) (here v (Some n) + 0) (omega arith) (omega arith) (omega arith) (one_in v n)
  expr_in v n (Bracket e) = wider v n (n + size e) n (n + size (Bracket e)) (occ v (tokens (placed_expr n e))) (occ v (tokens (placed_expr n (Bracket e))))
      (omega arith) (omega (arith, size_two (words e) (word.Bracket ∷ []))) (omega (
        arith,
        occ_join v (tokens (placed_expr n e)) (the_sign sign.CloseParen ∷
            []),
      )) (expr_in v n e)
  expr_in v n (Prefix at op e) =
      let o : ℕ = occ v (tokens (placed_expr n e)) in
      let p : ℕ = n + size e in
      wider v n (p + 1) n (n + size (Prefix at op e)) (o + here v (Some p)) (here v (Some p) + o) (omega arith) (omega (
        arith,
        size_two (words e) (word.Prefix
            at op ∷ []),
      )) (omega arith) (both v n p p (p + 1) o (here v (Some p)) (omega arith) (omega arith) (omega arith) (expr_in v n e) (one_in v p))
  expr_in v n (Infix at s l r) =
      let m : ℕ = n + size l + 1 in
      let p : ℕ = n + size l + 1 + size r in
      let x : ℕ = occ v (tokens (placed_expr n l)) in
      let y : ℕ = occ v (tokens (placed_expr m r)) in
      let q : Expr = placed_expr n (Infix at s l r) in
      let ls : List Spelling = tokens (placed_expr n l) in
      let first = both v n (n + size l) m (m + size r) x y (omega arith) (omega arith) (omega arith) (expr_in v n l) (expr_in v m r) in
      let all = both v n (m + size r) p (p + 1) (x + y) (here v (Some p)) (omega arith) (omega arith) (omega arith) first (one_in v p) in
      wider v n (p + 1) n (n + size (Infix at s l r)) (x + y + here v (Some p)) (occ v (tokens q)) (omega arith) (omega (
        arith,
        size_two (words l ++ word.Left
            ∷ words r) (word.Infix at s ∷ []),
        size_two (words l) (word.Left ∷ words r),
      )) (omega (arith, occ_join v ls (sign_at p (infix_sign s) ∷ tokens (placed_expr m r)))) all
  expr_in v n (Fetch at a e) =
      let x : ℕ = occ v (tokens (placed_expr (n + 1) e)) in
      wider v n (n + 1 + size e) n (n + size (Fetch at a e)) (here v (Some n) + x) (occ v (tokens (placed_expr n (Fetch at a e)))) (omega arith) (omega (
        arith,
        size_two (word.Cell at a ∷ words e) (word.Fetch at a ∷ []),
      )) (omega (
        arith,
        occ_join v (tokens (placed_expr (n + 1) e)) (the_sign sign.CloseBracket ∷
            []),
      )) (both v n (n + 1) (n + 1) (n + 1 + size e) (here v (Some n)) x (omega arith) (omega arith) (omega arith) (one_in v n) (expr_in v (n + 1) e))
  expr_in v n (Store at a e d) =
      let m : ℕ = n + size e + 2 in
      let x : ℕ = occ v (tokens (placed_expr (n + 1) e)) in
      let y : ℕ = occ v (tokens (placed_expr m d)) in
      let first = both v n (n + 1) (n + 1) (n + 1 + size e) (here v (Some n)) x (omega arith) (omega arith) (omega arith) (one_in v n) (expr_in v (n + 1) e) in
      let all = both v n (n + 1 + size e) m (m + size d) (here v (Some n) + x) y (omega arith) (omega arith) (omega arith) first (expr_in v m d) in
      wider v n (m + size d) n (n + size (Store at a e d)) (here v (Some n) + x + y) (occ v (tokens (placed_expr n (Store at a e d)))) (omega arith) (omega (
        arith,
        size_two (word.Cell at a ∷ words e ++ word.Index ∷ words d) (word.Store at a ∷ []),
        size_two (word.Cell at a ∷ words e) (word.Index ∷ words
            d),
      )) (omega (arith, occ_join v (tokens (placed_expr (n + 1) e)) (the_sign sign.CloseBracket ∷ the_sign sign.Becomes ∷ tokens (placed_expr m d)))) all
  expr_in v n (Call at strict f es) =
      let x : ℕ = occ v (list_tokens (placed_parts (n + 2) es)) in
      let ts : List Spelling = list_tokens (placed_parts (n + 2) es) in
      let name : Spelling = name_at n f in
      let all = both v n (n + 1) (n + 2) (n + 2 + length (part_words es)) (here v (Some n)) x (omega arith) (omega arith) (omega arith) (one_in v n) (parts_in
      v (n + 2) es) in
      wider v n (n + 2 + length (part_words es)) n (n + size (Call at strict f es)) (here v (Some n) + x) (occ v (tokens (placed_expr n (Call at strict f es))))
      (omega arith) (omega (arith, size_two (word.Callee at f ∷ word.List ∷ part_words es) (word.Call at strict f ∷ []))) (omega (
        arith,
        occ_join v
            (strict_tokens strict ++ name ∷ the_sign sign.OpenParen ∷ ts) (the_sign sign.CloseParen ∷ []),
        occ_join v (strict_tokens strict) (name ∷ the_sign
            sign.OpenParen ∷ ts),
        strict_none v strict,
      )) all
  expr_in v n (If at p l r) =
      let bl : ℕ = length (body_words l) in
      let br : ℕ = length (body_words r) in
      let a : ℕ = n + size p + 1 in
      let b : ℕ = n + size p + bl + 2 in
      let c : ℕ = n + size p + bl + br + 2 in
      let ps : List Spelling = word_at c keyword.If ∷ tokens (placed_expr n p) in
      let ls : List Spelling = the_sign sign.OpenBrace ∷ body_tokens (placed_body a l) in
      let rs : List Spelling = body_tokens (placed_body b r) in
      let chain : Bool = is_chain (placed_body b r) in
      let x : ℕ = occ v (tokens (placed_expr n p)) in
      let y : ℕ = occ v (body_tokens (placed_body a l)) in
      let z : ℕ = occ v rs in
      let s1 = both v n (n + size p) a (a + bl) x y (omega arith) (omega arith) (omega arith) (expr_in v n p) (body_in v a l) in
      let s2 = both v n (a + bl) b (b + br) (x + y) z (omega arith) (omega arith) (omega arith) s1 (body_in v b r) in
      let s3 = both v n (b + br) c (c + 1) (x + y + z) (here v (Some c)) (omega arith) (omega arith) (omega arith) s2 (one_in v c) in
      wider v n (c + 1) n (n + size (If at p l r)) (x + y + z + here v (Some c)) (occ v (tokens (placed_expr n (If at p l r)))) (omega arith) (omega (
        arith,
        size_two (words p ++ word.Then ∷ body_words l ++ word.Else ∷ body_words r) (word.EndIf at ∷ []),
        size_two (words p ++ word.Then ∷ body_words l)
            (word.Else ∷ body_words r),
        size_two (words p) (word.Then ∷ body_words l),
      )) (omega (
        arith,
        occ_join v (ps ++ ls) (the_word keyword.Else ∷ braced chain
            rs),
        occ_join v ps ls,
        braced_same v chain rs,
      )) s3
  expr_in v n (Loop at bound firsts turn) =
      let xs : List NameAt = names_of turn in
      let fw : ℕ = length (first_words xs firsts) in
      let tw : ℕ = length (turn_words turn) in
      let m : ℕ = n + 2 in
      let t : Turn = placed_turn m firsts turn in
      let es : Exprs = placed_firsts m xs firsts in
      let fs : List Spelling = first_tokens (names_of t) es in
      let x : ℕ = occ v (first_tokens (starts_from m xs firsts) es) in
      let y : ℕ = occ v (turn_tokens t) in
      let same : occ v fs ≡ x = ap (λ (ys : List NameAt). occ v (first_tokens ys es)) (starts_are m firsts turn) in
      let s1 = both v n (n + 1) (n + 1) (n + 1 + 1) (here v (Some n)) (here v (Some (n + 1))) (omega arith) (omega arith) (omega arith) (one_in v n) (one_in v
      (n + 1)) in
      let s2 = both v n (n + 1 + 1) m (m + fw) (here v (Some n) + here v (Some (n + 1))) x (omega arith) (omega arith) (omega arith) s1 (firsts_in v m xs
      firsts) in
      let s3 = both v n (m + fw) (m + fw) (m + fw + tw) (here v (Some n) + here v (Some (n + 1)) + x) y (omega arith) (omega arith) (omega arith) s2 (turn_in
      v m firsts turn) in
      wider v n (m + fw + tw) n (n + size (Loop at bound firsts turn)) (here v (Some n) + here v (Some (n + 1)) + x + y) (occ v (tokens (placed_expr n (Loop
      at bound firsts turn)))) (omega arith) (omega (
        arith,
        size_two (word.Loop at ∷ word.Bound bound.at bound.number ∷ first_words xs firsts ++ turn_words
            turn) (word.EndLoop at bound.number ∷ []),
        size_two (word.Loop at ∷ word.Bound bound.at bound.number ∷ first_words xs firsts) (turn_words turn),
      ))
      (omega (arith, occ_join v fs (the_sign sign.CloseParen ∷ turn_tokens t), same)) s3

  parts_in : (v n : ℕ) (es : Exprs) → Within v n (n + length (part_words es)) (occ v (list_tokens (placed_parts n es)))
  parts_in v n (One e) = wider v n (n + size e) n (n + length (part_words (One e))) (occ v (tokens (placed_expr n e))) (occ v (tokens (placed_expr n e)))
      (omega arith) (omega (arith, size_two (words e) (word.Part ∷ []))) refl (expr_in v n e)
  parts_in v n (More e es) =
      let m : ℕ = n + size e + 1 in
      let x : ℕ = occ v (tokens (placed_expr n e)) in
      let y : ℕ = occ v (list_tokens (placed_parts m es)) in
      wider v n (m + length (part_words es)) n (n + length (part_words (More e es))) (x + y) (occ v (list_tokens (placed_parts n (More e es)))) (omega arith)
      (omega (arith, size_two (words e) (word.Part ∷ part_words es))) (omega (
        arith,
        occ_join v (tokens (placed_expr n e)) (comma_and (list_tokens
            (placed_parts m es))),
      )) (both v n (n + size e) m (m + length (part_words es)) x y (omega arith) (omega arith) (omega arith) (expr_in v n e) (parts_in
      v m es))

  firsts_in : (v n : ℕ) (xs : List NameAt) (es : Exprs) → Within v n (n + length (first_words xs es)) (occ v (first_tokens (starts_from n xs es)
      (placed_firsts n xs es)))
  firsts_in v n xs (One e) =
      let sw : ℕ = length (start_words xs) in
      let ss : List Spelling = start_tokens (starts_from n xs (One e)) in
      let x : ℕ = occ v ss in
      let y : ℕ = occ v (tokens (placed_expr (n + sw) e)) in
      wider v n (n + sw + size e) n (n + length (first_words xs (One e))) (x + y) (occ v (first_tokens (starts_from n xs (One e)) (placed_firsts n xs (One
      e)))) (omega arith) (omega (arith, size_two (start_words xs ++ words e) (word.First ∷ []), size_two (start_words xs) (words e))) (omega (
        arith,
        occ_join v ss (tokens (placed_expr (n + sw) e)),
      )) (both v n (n + sw) (n + sw) (n + sw + size e) x y (omega arith) (omega arith) (omega arith)
      (start_in v n xs (One e)) (expr_in v (n + sw) e))
  firsts_in v n xs (More e es) =
      let sw : ℕ = length (start_words xs) in
      let m : ℕ = n + sw + size e + 1 in
      let ss : List Spelling = start_tokens (starts_from n xs (More e es)) in
      let ts : List Spelling = tokens (placed_expr (n + sw) e) in
      let rest : Exprs = placed_firsts m (others xs) es in
      let ys : List NameAt = others (starts_from n xs (More e es)) in
      let x : ℕ = occ v ss in
      let y : ℕ = occ v ts in
      let z : ℕ = occ v (first_tokens (starts_from m (others xs) es) rest) in
      let same : occ v (first_tokens ys rest) ≡ z = ap (λ (ys : List NameAt). occ v (first_tokens ys rest)) (others_from n xs e es) in
      let s1 = both v n (n + sw) (n + sw) (n + sw + size e) x y (omega arith) (omega arith) (omega arith) (start_in v n xs (More e es)) (expr_in v (n + sw) e) in
      let s2 = both v n (n + sw + size e) m (m + length (first_words (others xs) es)) (x + y) z (omega arith) (omega arith) (omega arith) s1 (firsts_in v m
      (others xs) es) in
      wider v n (m + length (first_words (others xs) es)) n (n + length (first_words xs (More e es))) (x + y + z) (occ v (first_tokens (starts_from n xs (More
      e es)) (placed_firsts n xs (More e es)))) (omega arith) (omega (
        arith,
        size_two (start_words xs ++ words e) (word.First ∷ first_words (others xs) es),
        size_two (start_words xs) (words e),
      )) (omega (arith, occ_join v (ss ++ ts) (comma_and (first_tokens ys rest)), occ_join v ss ts, same)) s2

  body_in : (v n : ℕ) (body : Body) → Within v n (n + length (body_words body)) (occ v (body_tokens (placed_body n body)))
  body_in v n (Let at targets es rest) =
      let lt : ℕ = length targets in
      let pw : ℕ = length (part_words es) in
      let bw : ℕ = length (body_words rest) in
      let a : ℕ = n + lt + 2 in
      let b : ℕ = n + lt + pw + 3 in
      let ts : List Spelling = with_commas (map target_token (targets_from (n + 1) targets)) in
      let ls : List Spelling = list_tokens (placed_parts a es) in
      let rs : List Spelling = body_tokens (placed_body b rest) in
      let s1 = both v n (n + 1) (n + 1) (n + 1 + lt) (here v (Some n)) (occ v ts) (omega arith) (omega arith) (omega arith) (one_in v n) (targets_in v (n + 1)
      targets) in
      let s2 = both v n (n + 1 + lt) a (a + pw) (here v (Some n) + occ v ts) (occ v ls) (omega arith) (omega arith) (omega arith) s1 (parts_in v a es) in
      let s3 = both v n (a + pw) b (b + bw) (here v (Some n) + occ v ts + occ v ls) (occ v rs) (omega arith) (omega arith) (omega arith) s2 (body_in v b rest) in
      wider v n (b + bw) n (n + length (body_words (Let at targets es rest))) (here v (Some n) + occ v ts + occ v ls + occ v rs) (occ v (body_tokens
      (placed_body n (Let at targets es rest)))) (omega arith) (omega (
        arith,
        size_two (word.Let at ∷ map target_word targets ++ word.List ∷ part_words es)
            (word.EndLet at ∷ body_words rest),
        size_two (word.Let at ∷ map target_word targets) (word.List ∷ part_words es),
        map_length target_word targets,
      ))
      (omega (
        arith,
        occ_join v (word_at n keyword.Let ∷ ts ++ the_sign sign.Equals ∷ ls) (the_sign sign.Semicolon ∷ rs),
        occ_join v (word_at n keyword.Let
            ∷ ts) (the_sign sign.Equals ∷ ls),
      )) s3
  body_in v n (Do es rest) =
      let pw : ℕ = length (part_words es) in
      let bw : ℕ = length (body_words rest) in
      let b : ℕ = n + pw + 2 in
      let ls : List Spelling = list_tokens (placed_parts (n + 1) es) in
      let rs : List Spelling = body_tokens (placed_body b rest) in
      wider v (n + 1) (b + bw) n (n + length (body_words (Do es rest))) (occ v ls + occ v rs) (occ v (body_tokens (placed_body n (Do es rest)))) (omega arith)
      (omega (arith, size_two (word.List ∷ part_words es) (word.Do ∷ body_words rest))) (omega (arith, occ_join v ls (the_sign sign.Semicolon ∷ rs)))
      (both v (n + 1) (n + 1 + pw) b (b + bw) (occ v ls) (occ v rs) (omega arith) (omega arith) (omega arith) (parts_in v (n + 1) es) (body_in v b rest))
  body_in v n (Give es) =
      let pw : ℕ = length (part_words es) in
      let ls : List Spelling = list_tokens (placed_parts (n + 1) es) in
      wider v (n + 1) (n + 1 + pw) n (n + length (body_words (Give es))) (occ v ls) (occ v (body_tokens (placed_body n (Give es)))) (omega arith) (omega
      (arith, size_two (word.List ∷ part_words es) (word.Give ∷ []))) (omega (arith, occ_join v ls (the_sign sign.CloseBrace ∷ []))) (parts_in v (n + 1) es)
  body_in v n (Chain e) = wider v n (n + size e) n (n + length (body_words (Chain e))) (occ v (tokens (placed_expr n e))) (occ v (tokens (placed_expr n e)))
      (omega arith) (omega (arith, size_two (words e) (word.Chain ∷ []))) refl (expr_in v n e)

  turn_in : (v n : ℕ) (firsts : Exprs) (turn : Turn) → Within v (n + length (first_words (names_of turn) firsts)) (n + length (first_words (names_of turn)
      firsts) + length (turn_words turn)) (occ v (turn_tokens (placed_turn n firsts turn)))
  turn_in v n firsts (Before xs p body) =
      let m : ℕ = n + length (first_words xs firsts) in
      let bw : ℕ = length (body_words body) in
      let a : ℕ = m + 1 in
      let b : ℕ = m + size p + 2 in
      let ps : List Spelling = tokens (placed_expr a p) in
      let bs : List Spelling = body_tokens (placed_body b body) in
      wider v a (b + bw) m (m + length (turn_words (Before xs p body))) (occ v ps + occ v bs) (occ v (turn_tokens (placed_turn n firsts (Before xs p body))))
      (omega arith) (omega (arith, size_two (word.TestFirst ∷ words p) (word.While ∷ body_words body))) (omega (
        arith,
        occ_join v ps (the_sign
            sign.OpenBrace ∷ bs),
      )) (both v a (a + size p) b (b + bw) (occ v ps) (occ v bs) (omega arith) (omega arith) (omega arith) (expr_in v a p) (body_in v b
      body))
  turn_in v n firsts (After xs body p) =
      let m : ℕ = n + length (first_words xs firsts) in
      let bw : ℕ = length (body_words body) in
      let a : ℕ = m + 1 in
      let b : ℕ = m + bw + 2 in
      let bs : List Spelling = body_tokens (placed_body a body) in
      let ps : List Spelling = tokens (placed_expr b p) in
      wider v a (b + size p) m (m + length (turn_words (After xs body p))) (occ v bs + occ v ps) (occ v (turn_tokens (placed_turn n firsts (After xs body p))))
      (omega arith) (omega (arith, size_two (word.BodyFirst ∷ body_words body) (word.Until ∷ words p))) (omega (
        arith,
        occ_join v (the_sign sign.OpenBrace ∷
            bs ++ the_word keyword.While ∷ the_sign sign.OpenParen ∷ ps) (the_sign sign.CloseParen ∷ []),
        occ_join v (the_sign sign.OpenBrace ∷ bs) (the_word
            keyword.While ∷ the_sign sign.OpenParen ∷ ps),
      )) (both v a (a + bw) b (b + size p) (occ v bs) (occ v ps) (omega arith) (omega arith) (omega arith)
      (body_in v a body) (expr_in v b p))

-- ITEMS
results_in : (v n : ℕ) (k : Option NumberAt) → Within v n (n + length (result_words k)) (occ v (result_tokens (placed_results n k)))
results_in v n None = none_in v n (n + 0)
results_in v n (Some k) = wider v n (n + 1) n (n + 1) (here v (Some n)) (0 + (here v (Some n) + 0)) (omega arith) (omega arith) (omega arith) (one_in v n)

item_in : (v n : ℕ) (i : Item) → Within v n (n + length (item_words i)) (occ v (item_tokens (placed_item n i)))
item_in v n (Cells x len) = wider v n (n + 1 + 1) n (n + 2) (here v (Some n) + here v (Some (n + 1))) (0 + (here v (Some n) + (0 + (here v (Some (n + 1)) + (0 +
    (0 + 0)))))) (omega arith) (omega arith) (omega arith) (both v n (n + 1) (n + 1) (n + 1 + 1) (here v (Some n)) (here v (Some (n + 1))) (omega arith) (omega
    arith) (omega arith) (one_in v n) (one_in v (n + 1)))
item_in v n (Defines f) =
    let lp : ℕ = length f.params in
    let rw : ℕ = length (result_words f.results) in
    let bw : ℕ = length (body_words f.body) in
    let a : ℕ = n + lp + 1 in
    let b : ℕ = n + lp + rw + 1 in
    let c : ℕ = n + lp + rw + 2 in
    let ps : List Spelling = with_commas (map name_token (names_from (n + 1) f.params)) in
    let rs : List Spelling = result_tokens (placed_results a f.results) in
    let bs : List Spelling = body_tokens (placed_body c f.body) in
    let front : List Spelling = the_word keyword.Fn ∷ name_at n f.name.name ∷ the_sign sign.OpenParen ∷ ps in
    let s1 = both v n (n + 1) (n + 1) (n + 1 + lp) (here v (Some n)) (occ v ps) (omega arith) (omega arith) (omega arith) (one_in v n) (names_in v (n + 1)
    f.params) in
    let s2 = both v n (n + 1 + lp) a (a + rw) (here v (Some n) + occ v ps) (occ v rs) (omega arith) (omega arith) (omega arith) s1 (results_in v a f.results) in
    let s3 = both v n (a + rw) b (b + 1) (here v (Some n) + occ v ps + occ v rs) (here v (Some b)) (omega arith) (omega arith) (omega arith) s2 (one_in v b) in
    let s4 = both v n (b + 1) c (c + bw) (here v (Some n) + occ v ps + occ v rs + here v (Some b)) (occ v bs) (omega arith) (omega arith) (omega arith) s3
    (body_in v c f.body) in
    let fw : List (Word Name) = word.Function f.name.at f.name.name ∷ map (λ (x : NameAt). word.Parameter x.at x.name) f.params in
    wider v n (c + bw) n (n + length (item_words (Defines f))) (here v (Some n) + occ v ps + occ v rs + here v (Some b) + occ v bs) (occ v (item_tokens
    (placed_item n (Defines f)))) (omega arith) (omega (
      arith,
      size_two (fw ++ result_words f.results ++ word.Body f.body_at ∷ body_words f.body)
          (word.EndFunction ∷ []),
      size_two (fw ++ result_words f.results) (word.Body f.body_at ∷ body_words f.body),
      size_two fw (result_words f.results),
      map_length (λ (x : NameAt). word.Parameter x.at x.name) f.params,
    )) (omega (
      arith,
      occ_join v (front ++ the_sign sign.CloseParen ∷ rs) (sign_at b
          sign.OpenBrace ∷ bs),
      occ_join v front (the_sign sign.CloseParen ∷ rs),
    )) s4

program_in : (v n : ℕ) (p : Program) → Within v n (n + length (program_words p)) (occ v (program_tokens (placed_from n p)))
program_in v n [] = none_in v n (n + 0)
program_in v n (i ∷ items) =
    let iw : ℕ = length (item_words i) in
    let m : ℕ = n + iw in
    let ts : List Spelling = item_tokens (placed_item n i) in
    let us : List Spelling = program_tokens (placed_from m items) in
    wider v n (m + length (program_words items)) n (n + length (program_words (i ∷ items))) (occ v ts + occ v us) (occ v (program_tokens (placed_from n (i ∷
    items)))) (omega arith) (omega (arith, size_two (item_words i) (program_words items))) (omega (arith, occ_join v ts us)) (both v n m m (m + length
    (program_words items)) (occ v ts) (occ v us) (omega arith) (omega arith) (omega arith) (item_in v n i) (program_in v m items))

-- SO NO TWO TOKENS have one place.
at_itself : (v : ℕ) (o : Option ℕ) → o ≡ Some v → here v o ≡ 1
at_itself v o e = ap (λ (o : Option ℕ). here v o) e ∙ ap (λ (b : Bool). if b then 1 else 0) (equal_itself v)

there : (v : ℕ) (ts : List Spelling) (j : ℕ) (u : Spelling) → slice_get ts j ≡ Some u → u.place ≡ Some v → 1 ≤ occ v ts
there v [] j u g e = cc
there v (t ∷ ts) zero u g e = let same : t ≡ u = cc in omega (arith, at_itself v t.place (ap (λ (t : Spelling). t.place) same ∙ e))
there v (t ∷ ts) (suc j) u g e = omega (arith, there v ts j u g e)

alone : (v : ℕ) (ts : List Spelling) (i j : ℕ) (t u : Spelling) → occ v ts ≤ 1 → slice_get ts i ≡ Some t → slice_get ts j ≡ Some u → t.place ≡ Some v →
    u.place ≡ Some v → i ≡ j
alone v [] i j t u h g k e f = cc
alone v (s ∷ ts) zero zero t u h g k e f = refl
alone v (s ∷ ts) zero (suc j) t u h g k e f =
    let same : s ≡ t = cc in
    let one = at_itself v s.place (ap (λ (t : Spelling). t.place) same ∙ e) in absurd (omega (arith, one, there v ts j u k f, h))
alone v (s ∷ ts) (suc i) zero t u h g k e f =
    let same : s ≡ u = cc in
    let one = at_itself v s.place (ap (λ (t : Spelling). t.place) same ∙ f) in absurd (omega (arith, one, there v ts i t g e, h))
alone v (s ∷ ts) (suc i) (suc j) t u h g k e f =
    let fewer : occ v ts ≤ 1 = omega (arith, h) in ap (λ (n : ℕ). suc n) (alone v ts i j t u fewer g k e f)

once : (v lo hi o : ℕ) → Within v lo hi o → o ≤ 1
once v lo hi o (inl z) = omega (arith, z)
once v lo hi o (inr w) = omega (arith, w.0)

pub placed_apart : PlacedApart
placed_apart p i j t u v g k e f = alone v (program_tokens (placed p)) i j t u (once v 0 (0 + length (program_words p)) (occ v (program_tokens (placed p)))
    (program_in v 0 p)) g k e f
