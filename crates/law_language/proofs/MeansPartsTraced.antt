-- The tokens of each part trace it: each of its lines has the place of a token, and no two lines that make faults have the same place.
use Rattle.std.proofs.Common.{◌≡◌, ℕ, zero, suc, ◌+◌, ◌<◌, ◌≤◌, ◌&&◌, ◌++◌, Bool, true, false, List, [], ◌∷◌, length, map, Option, Some, None, if◌then◌else◌}
use Rattle.std.proofs.Common.{refl, sym, ap, ◌∙◌, arith, eqb-true}
use Rattle.std.specs.Prelude.{nat_eq, slice_get, flat_map}
use Rattle.operators.specs.declared.Unary.{Unary}
use Rattle.operators.specs.declared.Unary.TheVariants.{Neg, Not}
use Rattle.operators.specs.Values.{on_int}
use Rattle.semantics.specs.declared.graph.Source.{Source}
use Rattle.semantics.specs.declared.graph.Kind.{Kind}
use Rattle.semantics.specs.declared.graph.Kind.TheVariants as node
use Rattle.lemmas.proofs.Permutations.{Each}
use Rattle.source.specs.declared.token.Sign.TheVariants as sign
use Rattle.source.specs.declared.token.Keyword.TheVariants as word
use Rattle.source.specs.Tree.{Name, NameAt, Expr, Number, Named, Bracket, Prefix, Infix, Fetch, Store, Call, If, Loop, Exprs, One, More, Body, Let, Do, Give}
use Rattle.source.specs.Tree.{Chain, Turn, Before, After, Item, Cells, Defines, Program, names_of}
use Rattle.source.specs.Outside.{bare, outside_body, outside_turn}
use Rattle.source.specs.Spelled.{Spelling, the_sign, the_word, word_at, sign_at, number_at, name_at, prefix_sign, infix_sign, strict_tokens, target_token}
use Rattle.source.specs.Spelled.{comma_and, with_commas, name_token, start_tokens, others, is_chain, braced, tokens, list_tokens, first_tokens, body_tokens}
use Rattle.source.specs.Spelled.{turn_tokens, result_tokens, item_tokens}
use Rattle.source.specs.Rules.{function_in}
use Rattle.source.specs.Evaluates.{signed}
use Rattle.source.specs.Lowered.{Made, MadeBlock, Lowered, Site, Spot, Scope, spot_after, next_spot, first_of, only, joined, followed, made, ended, literal}
use Rattle.source.specs.Lowered.{operator_of, operands, prefixed, call_kind, results_of, or_predicate, source_in, scoped, let_scoped, enters, entered_names}
use Rattle.source.specs.Lowered.{arm_site, arm_scope, merges, chosen, turn_site, turn_block, turn_spot, turn_scope, looped, loop_name, lower, lower_list}
use Rattle.source.specs.Lowered.{lower_body, lower_turn, function_scope, function_blocks, made_blocks}
use Rattle.law_language.specs.MeansTheorem.{and_place, places}
use Rattle.law_language.proofs.MeansLeaves.{append_nothing}
use Rattle.law_language.proofs.MeansPlaceCounts.{one_if, may_fail, with_place, spelled, times, fails, block_times, block_fails, counted_one, placed_one}
use Rattle.law_language.proofs.MeansPlaceCounts.{times_append, fails_append, block_times_append, block_fails_append, spelled_append, Traced}
use Rattle.law_language.proofs.MeansPlaceCounts.{traced_as, traced_both}
use Rattle.law_language.proofs.MeansPlaceCounts.{traced_none, traced_group, traced_line, IsAt, group_fails, group_times}

module _ (x : ℕ) where
  abbrev pub all_times : Lowered → ℕ
  all_times l = times x l.nodes + block_times x l.blocks

  abbrev pub all_fails : Lowered → ℕ
  all_fails l = fails x l.nodes + block_fails x l.blocks

  abbrev pub TracedOf : Lowered → List Spelling → Type 0
  TracedOf l ts = Traced (all_times l) (all_fails l) (spelled x ts)

  -- more tokens
  wider : (l : Lowered) (ts us : List Spelling) → TracedOf l ts → spelled x ts ≤ spelled x us → TracedOf l us
  wider l ts us h low = traced_as (all_times l) (all_fails l) (spelled x ts) (all_times l) (all_fails l) (spelled x us) h refl refl low

  -- two parts
  traced_joined : (l r m : Lowered) (ts us vs : List Spelling) → m.nodes ≡ l.nodes ++ r.nodes → m.blocks ≡ l.blocks ++ r.blocks
      → spelled x ts + spelled x us ≤ spelled x vs → TracedOf l ts → TracedOf r us → TracedOf m vs
  traced_joined l r m ts us vs en eb low h k =
      let a = ap (λ ms. times x ms) en ∙ times_append x l.nodes r.nodes in
      let b = ap (λ bs. block_times x bs) eb ∙ block_times_append x l.blocks r.blocks in
      let c = ap (λ ms. fails x ms) en ∙ fails_append x l.nodes r.nodes in
      let d = ap (λ bs. block_fails x bs) eb ∙ block_fails_append x l.blocks r.blocks in
      traced_as (all_times l + all_times r) (all_fails l + all_fails r) (spelled x ts + spelled x us) (all_times m) (all_fails m) (spelled x vs)
      (traced_both (all_times l) (all_fails l) (spelled x ts) (all_times r) (all_fails r) (spelled x us) h k) (omega (arith, a, b)) (omega (arith, c, d)) low

  -- a part with a line more
  traced_ended : (site : Site) (spot : Spot) (l : Lowered) (at : ℕ) (kind : Kind Name) (ss : List Source) (n : ℕ) (ts us : List Spelling)
      → spelled x ts + one_if (nat_eq x at) ≤ spelled x us → TracedOf l ts
      → TracedOf (ended site spot l at kind ss n) us
  traced_ended site spot l at kind ss n ts us low h =
      let m = made site at kind ss in
      let a = times_append x l.nodes (m ∷ []) in
      let b = counted_one (nat_eq x at) 0 in
      let c = fails_append x l.nodes (m ∷ []) in
      let d = counted_one (nat_eq x at && may_fail kind) 0 in
      traced_as (all_times l + one_if (nat_eq x at)) (all_fails l + one_if (nat_eq x at && may_fail kind)) (spelled x ts + one_if (nat_eq x at))
      (all_times (ended site spot l at kind ss n)) (all_fails (ended site spot l at kind ss n)) (spelled x us)
      (traced_both (all_times l) (all_fails l) (spelled x ts) (one_if (nat_eq x at)) (one_if (nat_eq x at && may_fail kind)) (one_if (nat_eq x at)) h
      (traced_line (nat_eq x at) (may_fail kind)))
      (omega (arith, a, b)) (omega (arith, c, d)) low

  nothing : (ss : List Source) (ts : List Spelling) → TracedOf (only ss) ts
  nothing ss ts = traced_as 0 0 0 (all_times (only ss)) (all_fails (only ss)) (spelled x ts) traced_none refl refl (omega arith)

  traced_literal : (site : Site) (spot : Spot) (at : ℕ) (kind : Kind Name) (us : List Spelling) → one_if (nat_eq x at) ≤ spelled x us
      → TracedOf (literal site spot at kind) us
  traced_literal site spot at kind us low = traced_ended site spot (only []) at kind (site.trigger ∷ []) 1 [] us (omega (arith, low)) (nothing [] [])

  traced_prefixed : (site : Site) (spot : Spot) (at : ℕ) (op : Unary) (e : Expr) (l : Lowered) (t : Spelling) (ts : List Spelling) → t.place ≡ Some at
      → TracedOf l ts → TracedOf (prefixed site spot at op e l) (t ∷ ts)
  traced_prefixed site spot at op e l t ts place h = go op e
    where
      own : spelled x (t ∷ ts) ≡ one_if (nat_eq x at) + spelled x ts
      own = ap (λ o. with_place x o (spelled x ts)) place ∙ placed_one x at (spelled x ts)

      it : (kind : Kind Name) → TracedOf (ended site spot l at kind l.sources 1) (t ∷ ts)
      it kind = let e = own in traced_ended site spot l at kind l.sources 1 ts (t ∷ ts) (omega (arith, e)) h

      go : (op : Unary) (e : Expr) → TracedOf (prefixed site spot at op e l) (t ∷ ts)
      go Neg (Number u n) = let e = own in traced_literal site spot at (node.Lit (on_int Neg (signed n))) (t ∷ ts) (omega (arith, e))
      go Neg (Named u y) = it (node.Apply1 Neg)
      go Neg (Bracket e) = it (node.Apply1 Neg)
      go Neg (Prefix u op e) = it (node.Apply1 Neg)
      go Neg (Infix u s e d) = it (node.Apply1 Neg)
      go Neg (Fetch u a e) = it (node.Apply1 Neg)
      go Neg (Store u a e d) = it (node.Apply1 Neg)
      go Neg (Call u b f es) = it (node.Apply1 Neg)
      go Neg (If u q a b) = it (node.Apply1 Neg)
      go Neg (Loop u b f turn) = it (node.Apply1 Neg)
      go Not e = it (node.Apply1 Not)

  -- CONDITIONALS: their own lines have one place, and make no faults.
  enters_at : (site : Site) (spot : Spot) (at : ℕ) (ss : List Source) → Each (IsAt at) (enters site spot at ss).nodes
  enters_at site spot at [] = tt
  enters_at site spot at (s ∷ ss) = ((refl, refl), enters_at site spot at ss)

  merges_at : (site : Site) (at cond : ℕ) (ss ts : List Source) → Each (IsAt at) (merges site at cond ss ts)
  merges_at site at cond [] ts = tt
  merges_at site at cond (s ∷ ss) [] = tt
  merges_at site at cond (s ∷ ss) (t ∷ ts) = ((refl, refl), merges_at site at cond ss ts)

  record Grouped (m l r : Lowered) (at : ℕ) : Type 0 where
    pub own : ℕ
    pub lines : all_times m ≡ own + (all_times l + all_times r)
    pub faults : all_fails m ≡ all_fails l + all_fails r
    pub off : nat_eq x at ≡ false → own ≡ 0

  grouped : (site : Site) (k : Spot) (at : ℕ) (ps : List Source) (a b l r : Lowered) (es fs : List Made) → Each (IsAt at) es → Each (IsAt at) fs
      → a.nodes ≡ es ++ l.nodes → a.blocks ≡ l.blocks
      → b.nodes ≡ fs ++ r.nodes → b.blocks ≡ r.blocks → Grouped (chosen site k at ps a b) l r at
  grouped site k at ps a b l r es fs he hf an ab bn bb =
      let ms = merges site at k.next a.sources b.sources in
      let hm = merges_at site at k.next a.sources b.sources in
      let na = ap (λ ms. times x ms) an ∙ times_append x es l.nodes in
      let nb = ap (λ ms. times x ms) bn ∙ times_append x fs r.nodes in
      let fa = ap (λ ms. fails x ms) an ∙ fails_append x es l.nodes in
      let fb = ap (λ ms. fails x ms) bn ∙ fails_append x fs r.nodes in
      let ba = ap (λ bs. block_times x bs) ab in
      let bb' = ap (λ bs. block_times x bs) bb in
      let ca = ap (λ bs. block_fails x bs) ab in
      let cb = ap (λ bs. block_fails x bs) bb in
      let n1 = times_append x (a.nodes ++ b.nodes) ms in
      let n2 = times_append x a.nodes b.nodes in
      let f1 = fails_append x (a.nodes ++ b.nodes) ms in
      let f2 = fails_append x a.nodes b.nodes in
      let n3 = block_times_append x a.blocks b.blocks in
      let f3 = block_fails_append x a.blocks b.blocks in
      let n4 = counted_one (nat_eq x at) (times x (a.nodes ++ b.nodes ++ ms)) in
      let ge = group_fails x at es he in
      let gf = group_fails x at fs hf in
      let gm = group_fails x at ms hm in
      record {
        own = one_if (nat_eq x at) + times x es + times x fs + times x ms;
        lines = omega (arith, na, nb, ba, bb', n1, n2, n3, n4);
        faults = quiet_cond (nat_eq x at) (fails x (a.nodes ++ b.nodes ++ ms)) (block_fails x (a.blocks ++ b.blocks)) (all_fails l + all_fails r)
            (omega (arith, fa, fb, ca, cb, f1, f2, f3, ge, gf, gm));
        off = λ e.
            let te = group_times x at es he e in let tf = group_times x at fs hf e in let tm = group_times x at ms hm e in
            let o : one_if (nat_eq x at) ≡ 0 = ap one_if e in
            omega (arith, te, tf, tm, o);
      }
    where
      quiet_cond : (t : Bool) (n m k : ℕ) → n + m ≡ k → (if t && false then suc n else n) + m ≡ k
      quiet_cond true n m k e = e
      quiet_cond false n m k e = e

  traced_grouped : (m l r : Lowered) (at : ℕ) (ts us vs : List Spelling) → Grouped m l r at → TracedOf l ts → TracedOf r us
      → one_if (nat_eq x at) + (spelled x ts + spelled x us) ≤ spelled x vs → TracedOf m vs
  traced_grouped m l r at ts us vs g h k low =
      let own = traced_group g.own (nat_eq x at) g.off in
      let both = traced_both (all_times l) (all_fails l) (spelled x ts) (all_times r) (all_fails r) (spelled x us) h k in
      let lines = g.lines in let faults = g.faults in
      traced_as (g.own + (all_times l + all_times r)) (0 + (all_fails l + all_fails r)) (one_if (nat_eq x at) + (spelled x ts + spelled x us)) (all_times m)
      (all_fails m) (spelled x vs)
      (traced_both g.own 0 (one_if (nat_eq x at)) (all_times l + all_times r) (all_fails l + all_fails r) (spelled x ts + spelled x us) own both) lines
      (omega (arith, faults)) low

  -- a turn: some of its lines have the place of the loop
  record TurnTraced (at : ℕ) (t : Lowered) (ts : List Spelling) : Type 0 where
    pub own : ℕ
    pub rest : ℕ
    pub lines : all_times t ≡ own + rest
    pub off : nat_eq x at ≡ false → own ≡ 0
    pub traced : Traced rest (all_fails t) (spelled x ts)

  brace : (t : Bool) (ts : List Spelling) → spelled x (braced t ts) ≡ spelled x ts
  brace true ts = refl
  brace false ts = refl

  firsts_traced : (xs : List NameAt) (es : Exprs) → spelled x (list_tokens es) ≤ spelled x (first_tokens xs es)
  firsts_traced xs (One e) = let a = spelled_append x (start_tokens xs) (tokens e) in omega (arith, a)
  firsts_traced xs (More e es) =
      let a = spelled_append x (start_tokens xs ++ tokens e) (comma_and (first_tokens (others xs) es)) in
      let b = spelled_append x (start_tokens xs) (tokens e) in
      let c = spelled_append x (tokens e) (comma_and (list_tokens es)) in
      let d = firsts_traced (others xs) es in
      omega (arith, a, b, c, d)

  quiet_line : (t : Bool) → (if t && false then suc 0 else 0) ≡ 0
  quiet_line true = refl
  quiet_line false = refl

  module _ (p : Program) where
    mutual
      expr_traced : (site : Site) (spot : Spot) (scope : Scope) (e : Expr) → TracedOf (lower p site spot scope e) (tokens e)
      expr_traced site spot scope (Number at n) = let a = placed_one x at 0 in traced_literal site spot at (node.Lit (signed n)) (number_at at n ∷ [])
          (omega (arith, a))
      expr_traced site spot scope (Named at y) = nothing (source_in scope y ∷ []) (name_at at y ∷ [])
      expr_traced site spot scope (Bracket e) =
          let a = spelled_append x (the_sign sign.OpenParen ∷ tokens e) (the_sign sign.CloseParen ∷ []) in
          wider (lower p site spot scope e) (tokens e) (tokens (Bracket e)) (expr_traced site spot scope e) (omega (arith, a))
      expr_traced site spot scope (Prefix at op e) =
          traced_prefixed site spot at op e (lower p site spot scope e) (sign_at at (prefix_sign op)) (tokens e) refl (expr_traced site spot scope e)
      expr_traced site spot scope (Infix at s e d) =
          let l = lower p site spot scope e in let r = lower p site (spot_after spot l) scope d in
          let both = traced_joined l r (joined l r) (tokens e) (tokens d) (tokens e ++ tokens d) refl refl
          (let a = spelled_append x (tokens e) (tokens d) in omega (arith, a))
          (expr_traced site spot scope e) (expr_traced site (spot_after spot l) scope d) in
          let a = spelled_append x (tokens e) (tokens d) in
          let b = spelled_append x (tokens e) (sign_at at (infix_sign s) ∷ tokens d) in
          let c = placed_one x at (spelled x (tokens d)) in
          traced_ended site spot (joined l r) at (node.Apply2 (operator_of s)) (operands s (l.sources ++ r.sources)) 1 (tokens e ++ tokens d)
          (tokens (Infix at s e d)) (omega (arith, a, b, c)) both
      expr_traced site spot scope (Fetch at y e) =
          let l = lower p site spot scope e in
          let a = spelled_append x (name_at at y ∷ the_sign sign.OpenBracket ∷ tokens e) (the_sign sign.CloseBracket ∷ []) in
          let c = placed_one x at (spelled x (tokens e)) in
          traced_ended site spot l at (node.Fetch y) l.sources 1 (tokens e) (tokens (Fetch at y e)) (omega (arith, a, c)) (expr_traced site spot scope e)
      expr_traced site spot scope (Store at y e d) =
          let l = lower p site spot scope e in let r = lower p site (spot_after spot l) scope d in
          let both = traced_joined l r (joined l r) (tokens e) (tokens d) (tokens e ++ tokens d) refl refl
          (let a = spelled_append x (tokens e) (tokens d) in omega (arith, a))
          (expr_traced site spot scope e) (expr_traced site (spot_after spot l) scope d) in
          let a = spelled_append x (tokens e) (tokens d) in
          let b = spelled_append x (name_at at y ∷ the_sign sign.OpenBracket ∷ tokens e) (the_sign sign.CloseBracket ∷ the_sign sign.Becomes ∷ tokens d) in
          let c = placed_one x at (spelled x (tokens e)) in
          traced_ended site spot (joined l r) at (node.Store y) (l.sources ++ r.sources) 1 (tokens e ++ tokens d) (tokens (Store at y e d))
          (omega (arith, a, b, c)) both
      expr_traced site spot scope (Call at strict f es) =
          let l = lower_list p site spot scope es in
          let a = spelled_append x (strict_tokens strict ++ name_at at f ∷ the_sign sign.OpenParen ∷ list_tokens es) (the_sign sign.CloseParen ∷ []) in
          let b = spelled_append x (strict_tokens strict) (name_at at f ∷ the_sign sign.OpenParen ∷ list_tokens es) in
          let c = placed_one x at (spelled x (list_tokens es)) in
          traced_ended site spot l at (call_kind strict f) l.sources (results_of (function_in p f)) (list_tokens es) (tokens (Call at strict f es))
          (omega (arith, a, b, c)) (list_traced site spot scope es)
      expr_traced site spot scope (If at q l r) =
          let c : Lowered = lower p site spot scope q in let k : Spot = spot_after spot c in
          let h1 : Site = arm_site site k.next true (next_spot k) in
          let e1 : Lowered = entered_names h1 (next_spot k) at scope (first_of c.sources) (outside_body l) in
          let b1 : Lowered = lower_body p h1 (spot_after (next_spot k) e1) (arm_scope e1 (outside_body l)) l in
          let a1 : Lowered = followed e1 b1 in
          let s2 : Spot = spot_after (next_spot k) a1 in
          let h2 : Site = arm_site site k.next false s2 in
          let e2 : Lowered = entered_names h2 s2 at scope (first_of c.sources) (outside_body r) in
          let b2 : Lowered = lower_body p h2 (spot_after s2 e2) (arm_scope e2 (outside_body r)) r in
          let a2 : Lowered = followed e2 b2 in
          let m : Lowered = chosen site k at c.sources a1 a2 in
          let g = grouped site k at c.sources a1 a2 b1 b2 e1.nodes e2.nodes (enters_at h1 (next_spot k) at
          (or_predicate (first_of c.sources) (map (source_in scope) (outside_body l))))
          (enters_at h2 s2 at (or_predicate (first_of c.sources) (map (source_in scope) (outside_body r)))) refl refl refl refl in
          let arms : List Spelling = word_at at word.If ∷ (body_tokens l ++ body_tokens r) in
          let o = placed_one x at (spelled x (body_tokens l ++ body_tokens r)) in
          let i = spelled_append x (body_tokens l) (body_tokens r) in
          let mt = traced_grouped m b1 b2 at (body_tokens l) (body_tokens r) arms g
          (body_traced h1 (spot_after (next_spot k) e1) (arm_scope e1 (outside_body l)) l)
          (body_traced h2 (spot_after s2 e2) (arm_scope e2 (outside_body r)) r) (omega (arith, o, i)) in
          let u = spelled_append x ((word_at at word.If ∷ tokens q) ++ (the_sign sign.OpenBrace ∷ body_tokens l))
          (the_word word.Else ∷ braced (is_chain r) (body_tokens r)) in
          let v = spelled_append x (word_at at word.If ∷ tokens q) (the_sign sign.OpenBrace ∷ body_tokens l) in
          let w = placed_one x at (spelled x (tokens q)) in
          let y = brace (is_chain r) (body_tokens r) in
          traced_joined c m (followed c m) (tokens q) arms (tokens (If at q l r)) refl refl (omega (arith, o, i, u, v, w, y)) (expr_traced site spot scope q) mt
      expr_traced site spot scope (Loop at bound firsts turn) =
          let f : Lowered = lower_list p site spot scope firsts in
          let outs : List Name = outside_turn turn in
          let t : Lowered = lower_turn p site.function (turn_spot spot f (bare (names_of turn)) outs) at (turn_scope (bare (names_of turn)) outs) turn in
          let h = turn_traced site.function (turn_spot spot f (bare (names_of turn)) outs) at (turn_scope (bare (names_of turn)) outs) turn in
          let m : Lowered = looped site spot scope at bound.number (bare (names_of turn)) outs f t in
          let k : ℕ = spot.loops + length f.blocks + 1 in
          let tb : MadeBlock = turn_block at k (bare (names_of turn)) outs t in
          let own = traced_group (one_if (nat_eq x at) + h.own) (nat_eq x at) (λ e. let a = h.off e in let b : one_if (nat_eq x at) ≡ 0 = ap one_if e in
          omega (arith, a, b)) in
          let rest = traced_both (one_if (nat_eq x at) + h.own) 0 (one_if (nat_eq x at)) h.rest (all_fails t) (spelled x (turn_tokens turn)) own h.traced in
          let whole = traced_both (all_times f) (all_fails f) (spelled x (list_tokens firsts)) (one_if (nat_eq x at) + h.own + h.rest) (0 + all_fails t)
          (one_if (nat_eq x at) + spelled x (turn_tokens turn)) (list_traced site spot scope firsts) rest in
          let n1 = times_append x f.nodes (made site at (node.Loop (loop_name site.function k) bound.number) (f.sources ++ map (source_in scope) outs) ∷ []) in
          let n2 = counted_one (nat_eq x at) 0 in
          let n3 = block_times_append x f.blocks (tb ∷ t.blocks) in
          let n4 = h.lines in
          let f1 = fails_append x f.nodes (made site at (node.Loop (loop_name site.function k) bound.number) (f.sources ++ map (source_in scope) outs) ∷ []) in
          let f2 = quiet_line (nat_eq x at) in
          let f3 = block_fails_append x f.blocks (tb ∷ t.blocks) in
          let a = spelled_append x (word_at at word.Loop ∷ number_at bound.at bound.number ∷ the_sign sign.OpenParen ∷ first_tokens (names_of turn) firsts)
          (the_sign sign.CloseParen ∷ turn_tokens turn) in
          let b = placed_one x at (spelled x (number_at bound.at bound.number ∷ the_sign sign.OpenParen ∷ first_tokens (names_of turn) firsts)) in
          let c = placed_one x bound.at (spelled x (first_tokens (names_of turn) firsts)) in
          let d = firsts_traced (names_of turn) firsts in
          traced_as (all_times f + (one_if (nat_eq x at) + h.own + h.rest)) (all_fails f + (0 + all_fails t))
          (spelled x (list_tokens firsts) + (one_if (nat_eq x at) + spelled x (turn_tokens turn)))
          (all_times m) (all_fails m) (spelled x (tokens (Loop at bound firsts turn))) whole (omega (arith, n1, n2, n3, n4)) (omega (arith, f1, f2, f3))
          (omega (arith, a, b, c, d))

      list_traced : (site : Site) (spot : Spot) (scope : Scope) (es : Exprs) → TracedOf (lower_list p site spot scope es) (list_tokens es)
      list_traced site spot scope (One e) = expr_traced site spot scope e
      list_traced site spot scope (More e es) =
          let l = lower p site spot scope e in let r = lower_list p site (spot_after spot l) scope es in
          let a = spelled_append x (tokens e) (comma_and (list_tokens es)) in
          traced_joined l r (joined l r) (tokens e) (list_tokens es) (list_tokens (More e es)) refl refl (omega (arith, a)) (expr_traced site spot scope e)
          (list_traced site (spot_after spot l) scope es)

      body_traced : (site : Site) (spot : Spot) (scope : Scope) (body : Body) → TracedOf (lower_body p site spot scope body) (body_tokens body)
      body_traced site spot scope (Let at targets es rest) =
          let l = lower_list p site spot scope es in let r = lower_body p site (spot_after spot l) (let_scoped targets l.sources scope) rest in
          let a = spelled_append x ((word_at at word.Let ∷ with_commas (map target_token targets)) ++ (the_sign sign.Equals ∷ list_tokens es))
          (the_sign sign.Semicolon ∷ body_tokens rest) in
          let b = spelled_append x (word_at at word.Let ∷ with_commas (map target_token targets)) (the_sign sign.Equals ∷ list_tokens es) in
          traced_joined l r (followed l r) (list_tokens es) (body_tokens rest) (body_tokens (Let at targets es rest)) refl refl (omega (arith, a, b))
          (list_traced site spot scope es)
          (body_traced site (spot_after spot l) (let_scoped targets l.sources scope) rest)
      body_traced site spot scope (Do es rest) =
          let l = lower_list p site spot scope es in let r = lower_body p site (spot_after spot l) scope rest in
          let a = spelled_append x (list_tokens es) (the_sign sign.Semicolon ∷ body_tokens rest) in
          traced_joined l r (followed l r) (list_tokens es) (body_tokens rest) (body_tokens (Do es rest)) refl refl (omega (arith, a))
          (list_traced site spot scope es) (body_traced site (spot_after spot l) scope rest)
      body_traced site spot scope (Give es) =
          let a = spelled_append x (list_tokens es) (the_sign sign.CloseBrace ∷ []) in
          wider (lower_list p site spot scope es) (list_tokens es) (body_tokens (Give es)) (list_traced site spot scope es) (omega (arith, a))
      body_traced site spot scope (Chain e) = expr_traced site spot scope e

      turn_traced : (f : Name) (spot : Spot) (at : ℕ) (scope : Scope) (turn : Turn) → TurnTraced at (lower_turn p f spot at scope turn) (turn_tokens turn)
      turn_traced f spot at scope (Before xs q body) =
          let site : Site = turn_site f in
          let c : Lowered = lower p site spot scope q in let k : Spot = spot_after spot c in
          let h1 : Site = arm_site site k.next true (next_spot k) in
          let e1 : Lowered = entered_names h1 (next_spot k) at scope (first_of c.sources) (outside_body body) in
          let b1 : Lowered = lower_body p h1 (spot_after (next_spot k) e1) (arm_scope e1 (outside_body body)) body in
          let a1 : Lowered = followed e1 b1 in
          let s2 : Spot = spot_after (next_spot k) a1 in
          let h2 : Site = arm_site site k.next false s2 in
          let e2 : Lowered = entered_names h2 s2 at scope (first_of c.sources) (bare xs) in
          let m : Lowered = chosen site k at c.sources a1 e2 in
          let g = grouped site k at c.sources a1 e2 b1 (only []) e1.nodes e2.nodes (enters_at h1 (next_spot k) at
          (or_predicate (first_of c.sources) (map (source_in scope) (outside_body body))))
          (enters_at h2 s2 at (or_predicate (first_of c.sources) (map (source_in scope) (bare xs)))) refl refl (sym (append_nothing e2.nodes)) refl in
          let both = traced_both (all_times c) (all_fails c) (spelled x (tokens q)) (all_times b1) (all_fails b1) (spelled x (body_tokens body))
          (expr_traced site spot scope q)
          (body_traced h1 (spot_after (next_spot k) e1) (arm_scope e1 (outside_body body)) body) in
          let n1 = times_append x c.nodes m.nodes in
          let n2 = block_times_append x c.blocks m.blocks in
          let n3 = g.lines in
          let f1 = fails_append x c.nodes m.nodes in
          let f2 = block_fails_append x c.blocks m.blocks in
          let f3 = g.faults in
          let a = spelled_append x (the_word word.While ∷ tokens q) (the_sign sign.OpenBrace ∷ body_tokens body) in
          record {
            own = g.own;
            rest = all_times c + all_times b1;
            lines = omega (arith, n1, n2, n3);
            off = g.off;
            traced = traced_as (all_times c + all_times b1) (all_fails c + all_fails b1) (spelled x (tokens q) + spelled x (body_tokens body))
                (all_times c + all_times b1) (all_fails (joined c m)) (spelled x (turn_tokens (Before xs q body)))
                both refl (omega (arith, f1, f2, f3)) (omega (arith, a));
          }
      turn_traced f spot at scope (After xs body q) =
          let site : Site = turn_site f in
          let b : Lowered = lower_body p site spot scope body in
          let c : Lowered = lower p site (spot_after spot b) (scoped (bare xs) b.sources scope) q in
          let m : Lowered = record { nodes = b.nodes ++ c.nodes; sources = c.sources ++ b.sources; blocks = b.blocks ++ c.blocks } in
          let a = spelled_append x ((the_sign sign.OpenBrace ∷ body_tokens body) ++ (the_word word.While ∷ the_sign sign.OpenParen ∷ tokens q))
          (the_sign sign.CloseParen ∷ []) in
          let d = spelled_append x (the_sign sign.OpenBrace ∷ body_tokens body) (the_word word.While ∷ the_sign sign.OpenParen ∷ tokens q) in
          record {
            own = 0;
            rest = all_times m;
            lines = omega arith;
            off = λ e. refl;
            traced = traced_joined b c m (body_tokens body) (tokens q) (turn_tokens (After xs body q)) refl refl (omega (arith, a, d))
                (body_traced site spot scope body)
                (expr_traced site (spot_after spot b) (scoped (bare xs) b.sources scope) q);
          }

    -- ALL BLOCKS of a program
    pub items_traced : (items : List Item) → Traced (block_times x (made_blocks p items)) (block_fails x (made_blocks p items))
        (spelled x (flat_map item_tokens items))
    items_traced [] = traced_none
    items_traced (Cells y len ∷ items) =
        let a = spelled_append x (item_tokens (Cells y len)) (flat_map item_tokens items) in
        traced_as (block_times x (made_blocks p items)) (block_fails x (made_blocks p items)) (spelled x (flat_map item_tokens items))
        (block_times x (made_blocks p (Cells y len ∷ items)))
        (block_fails x (made_blocks p (Cells y len ∷ items))) (spelled x (flat_map item_tokens (Cells y len ∷ items))) (items_traced items) refl refl
        (omega (arith, a))
    items_traced (Defines f ∷ items) =
        let l : Lowered = lower_body p (turn_site f.name.name) (record { next = length f.params; loops = 0 }) (function_scope f) f.body in
        let own : TracedOf l (body_tokens f.body) =
        body_traced (turn_site f.name.name) (record { next = length f.params; loops = 0 }) (function_scope f) f.body in
        let both = traced_both (all_times l) (all_fails l) (spelled x (body_tokens f.body)) (block_times x (made_blocks p items))
        (block_fails x (made_blocks p items)) (spelled x (flat_map item_tokens items)) own (items_traced items) in
        let n = block_times_append x (function_blocks p f) (made_blocks p items) in
        let m = block_fails_append x (function_blocks p f) (made_blocks p items) in
        let a = spelled_append x (item_tokens (Defines f)) (flat_map item_tokens items) in
        let b = spelled_append x ((the_word word.Fn ∷ name_token f.name ∷ the_sign sign.OpenParen ∷ with_commas (map name_token f.params)) ++
        (the_sign sign.CloseParen ∷ result_tokens f.results)) (sign_at f.body_at sign.OpenBrace ∷ body_tokens f.body) in
        let c = placed_one x f.body_at (spelled x (body_tokens f.body)) in
        traced_as (all_times l + block_times x (made_blocks p items)) (all_fails l + block_fails x (made_blocks p items))
        (spelled x (body_tokens f.body) + spelled x (flat_map item_tokens items))
        (block_times x (made_blocks p (Defines f ∷ items))) (block_fails x (made_blocks p (Defines f ∷ items)))
        (spelled x (flat_map item_tokens (Defines f ∷ items))) both (omega (arith, n)) (omega (arith, m)) (omega (arith, a, b, c))

-- A PLACE THAT OCCURS ONCE
spelled_some : (x : ℕ) (ts : List Spelling) → 0 < spelled x ts → (i : ℕ) × (slice_get (places ts) i ≡ Some x)
spelled_some x [] some = absurd (omega (arith, some))
spelled_some x (t ∷ ts) some = go t.place some (λ some. spelled_some x ts some)
  where
    by_test : (y : ℕ) (b : Bool) → nat_eq x y ≡ b → 0 < (if b then suc (spelled x ts) else spelled x ts)
        → (0 < spelled x ts → (i : ℕ) × (slice_get (places ts) i ≡ Some x))
        → (i : ℕ) × (slice_get (y ∷ places ts) i ≡ Some x)
    by_test y true e some later = (0, ap (λ n. Some n) (sym (eqb-true x y e)))
    by_test y false e some later = let k = later some in (suc k.0, k.1)

    go : (o : Option ℕ) → 0 < with_place x o (spelled x ts) → (0 < spelled x ts → (i : ℕ) × (slice_get (places ts) i ≡ Some x))
        → (i : ℕ) × (slice_get (and_place o (places ts)) i ≡ Some x)
    go None some later = later some
    go (Some y) some later = by_test y (nat_eq x y) refl some later

pub spelled_once : (x : ℕ) (ts : List Spelling) → ((i j : ℕ) → slice_get (places ts) i ≡ Some x → slice_get (places ts) j ≡ Some x → i ≡ j) → spelled x ts ≤ 1
spelled_once x [] once = omega arith
spelled_once x (t ∷ ts) once = go t.place once (λ once. spelled_once x ts once)
  where
    by_test : (y : ℕ) (b : Bool) → nat_eq x y ≡ b → ((i j : ℕ) → slice_get (y ∷ places ts) i ≡ Some x → slice_get (y ∷ places ts) j ≡ Some x → i ≡ j)
        → (((i j : ℕ) → slice_get (places ts) i ≡ Some x → slice_get (places ts) j ≡ Some x → i ≡ j) → spelled x ts ≤ 1) → (n : ℕ) → n ≡ spelled x ts
        → (if b then suc n else n) ≤ 1
    by_test y true e once later zero is = omega arith
    by_test y true e once later (suc n) is =
        let k = spelled_some x ts (omega (arith, is)) in
        let same = once 0 (suc k.0) (ap (λ n. Some n) (sym (eqb-true x y e))) k.1 in absurd (omega (arith, same))
    by_test y false e once later n is = let low = later (λ i j f g. let same = once (suc i) (suc j) f g in omega (arith, same)) in omega (arith, low, is)

    go : (o : Option ℕ) → ((i j : ℕ) → slice_get (and_place o (places ts)) i ≡ Some x → slice_get (and_place o (places ts)) j ≡ Some x → i ≡ j)
        → (((i j : ℕ) → slice_get (places ts) i ≡ Some x → slice_get (places ts) j ≡ Some x → i ≡ j) → spelled x ts ≤ 1) → with_place x o (spelled x ts) ≤ 1
    go None once later = later once
    go (Some y) once later = by_test y (nat_eq x y) refl once later (spelled x ts) refl
