-- THE INDUCTION: each part that fits and keeps the rules is lowered to nodes in good form, if its site is good.
use Rattle.std.proofs.Common.{◌≡◌, ℕ, suc, ◌+◌, ◌<◌, ◌≤◌, ◌&&◌, nat_le, true, false, List, [], ◌∷◌, ◌++◌, length, map, is_some, Some, Ok, refl, sym, ap, ◌∙◌}
use Rattle.std.proofs.Common.{subst, arith, length-append}
use Rattle.std.specs.Prelude.{Contains}
use Rattle.std.proofs.lemmas.List.{length-map}
use Rattle.std.proofs.lemmas.Bool.{leb-true}
use Rattle.lemmas.proofs.Bools.{first_of_and, second_of_and}
use Rattle.lemmas.proofs.Permutations.{each_append, each_append_back}
use Rattle.semantics.specs.declared.graph.Region.TheVariants.{Root}
use Rattle.semantics.specs.declared.graph.Source.{Source}
use Rattle.semantics.specs.declared.graph.Kind.TheVariants as node
use Rattle.semantics.specs.Graph.{Block, Graph, array_names}
use Rattle.semantics.specs.WellFormed.{HasShape}
use Rattle.source.specs.Tree.{Name, NameAt, NumberAt, Expr, Number, Named, Bracket, Prefix, Infix, Fetch, Store, Call, If, Loop, Exprs, One, More, Body, Let}
use Rattle.source.specs.Tree.{Do, Give, Chain, Turn, Before, After, Function, Program, names_of}
use Rattle.source.specs.Spelled.{others}
use Rattle.source.specs.Fits.{FitsTurn, count}
use Rattle.source.specs.Outside.{is_in, bare, bound_by, without, uses, list_uses, body_uses, turn_uses, outside_body, outside_turn}
use Rattle.source.specs.Evaluates.{signed}
use Rattle.source.specs.Rules.{function_in, array_in, written_or_one, list_values, first_values, turn_values, and_first}
use Rattle.source.specs.Lowered.{Lowered, Site, Spot, Scope, source_in, scoped, let_scoped, spot_after, next_spot, results_of, inputs_from, first_of}
use Rattle.source.specs.Lowered.{or_predicate, arm_site, arm_scope, arm, entered_names, chosen, turn_site, turn_spot, turn_scope, lower, lower_list, lower_body}
use Rattle.source.specs.Lowered.{lower_turn}
use Rattle.source.proofs.Steps.{ok_as}
use Rattle.source.proofs.CountedSources.{inputs_count}
use Rattle.source.proofs.Kept.{in_prefix, in_infix, in_fetch, in_store, IsCalled, in_call, in_if, IsTurned, in_loop, in_more, in_first, in_firsts, in_let}
use Rattle.source.proofs.Kept.{in_do, in_before, in_after}
use Rattle.law_language.specs.LoweredWell.{IsGoodSource, AreGood, AreKnown, IsSite, IsIncluded, IsWell, WellExpr, WellList, WellBody}
use Rattle.law_language.proofs.LoweredSources.{good_later, known_later, site_later, joined_well, followed_well, first_held, rest_held}
use Rattle.law_language.proofs.LoweredEnding.{only_well}
use Rattle.law_language.proofs.LoweredLiterals.{signed_fits}
use Rattle.source.proofs.Counting.{count_of, list_count, body_count, merges_length}
use Rattle.source.proofs.NamesUsed.{AreIn}
use Rattle.law_language.proofs.LoweredNames.{uses_of_turn, in_left, in_itself, each_once, each_in, known_past, known_in, known_let}
use Rattle.source.proofs.OutsideNames.{uses_once}
use Rattle.law_language.proofs.LoweredArms.{gates_well, arm_well}
use Rattle.law_language.proofs.LoweredBlocks.{input_good, inputs_good}
use Rattle.law_language.proofs.LoweredForms.{first_each, node_well, literal_well, prefix_well, both_well, infix_well, store_well, call_well, chosen_from}
use Rattle.law_language.proofs.LoweredLoops as loops
use Rattle.law_language.proofs.LoweredLoops.{IsCarried, looped_well}

-- COUNTS
-- a list of first values has as many
firsts_values : (p : Program) (scope before : List Name) (xs : List NameAt) (es : Exprs) → first_values p scope before xs es ≡ Ok tt
    → list_values p scope es ≡ Ok (count es)
firsts_values p scope before xs (One e) h = (in_first p scope before xs e h).values
firsts_values p scope before xs (More e es) h =
    let k = in_firsts p scope before xs e es h in let one = k.0.values in let more = firsts_values p scope (and_first before xs) (others xs) es k.1 in
    ok_as (list_values p scope (More e es)) (1 + count es) (suc (count es)) (rw one (rw more refl)) (omega arith)

some_count : (es : Exprs) → 0 < count es
some_count (One e) = omega arith
some_count (More e es) = omega arith

or_predicate_count : (q : Source) (ss : List Source) → 0 < length ss → length (or_predicate q ss) ≡ length ss
or_predicate_count q [] h = absurd (omega arith)
or_predicate_count q (s ∷ ss) h = refl

chosen_count : (site : Site) (spot : Spot) (at : ℕ) (predicate : List Source) (l r : Lowered) (n : ℕ) → length l.sources ≡ n → length r.sources ≡ n
    → length (chosen site spot at predicate l r).sources ≡ n
chosen_count site spot at predicate l r n e f = inputs_count _ _ ∙ merges_length site at spot.next l.sources r.sources n e f

gates_count : (site : Site) (spot : Spot) (at : ℕ) (scope : Scope) (predicate : Source) (xs : List NameAt) (n : ℕ) → n ≡ length xs → 0 < n
    → length (entered_names site spot at scope predicate (bare xs)).sources ≡ n
gates_count site spot at scope predicate xs n e some =
    let names = length-map xs (λ (x : NameAt). x.name) in
    let named = length-map (bare xs) (source_in scope) in
    let long : length (map (source_in scope) (bare xs)) ≡ n = omega (arith, names, named, e) in
    inputs_count spot.next _ ∙ or_predicate_count predicate (map (source_in scope) (bare xs)) (omega (arith, long, some)) ∙ long

joined_count : (ss us : List Source) (n : ℕ) → length ss ≡ 1 → length us ≡ n → length (ss ++ us) ≡ 1 + n
joined_count ss us n e f = omega (arith, length-append ss us, e, f)

-- TURNS: all names that test and body use
abbrev inner_uses : Turn → List Name
inner_uses (Before xs q body) = uses q ++ body_uses body
inner_uses (After xs body q) = body_uses body ++ uses q

turn_uses_in : (turn : Turn) → AreIn (bare (names_of turn) ++ outside_turn turn) (inner_uses turn)
turn_uses_in (Before xs q body) = uses_of_turn (bare xs) (uses q ++ body_uses body)
turn_uses_in (After xs body q) = uses_of_turn (bare xs) (body_uses body ++ uses q)

names_in : (xs outs : List Name) (ys : List Name) → AreIn xs ys → AreIn (xs ++ outs) ys
names_in xs outs ys h = each_in (λ y. is_in y (xs ++ outs) ≡ true) xs ys (λ y i. in_left y xs outs i) h

carried : (bound : NumberAt) (xs outs : List Name) (names : List NameAt) → xs ≡ bare names → 0 < length names
    → (nat_le 2 bound.number && nat_le bound.number 64) ≡ true → nat_le (length names + length outs) 15 ≡ true → IsCarried bound.number xs outs
carried bound xs outs names e some small few =
    let long : length xs ≡ length names = ap length e ∙ length-map names (λ (x : NameAt). x.name) in
    let le = leb-true (length names + length outs) 15 few in
    record {
      some = omega (arith, some, long);
      few = omega (arith, le, long);
      two = leb-true 2 bound.number (first_of_and (nat_le 2 bound.number) (nat_le bound.number 64) small);
      small = leb-true bound.number 64 (second_of_and (nat_le 2 bound.number) (nat_le bound.number 64) small);
    }

module _ (p : Program) (g : Graph)
    (called : (f : Name) (h : Function) → function_in p f ≡ Some h → HasShape g f (length h.params) (written_or_one h.results))
    (arrays : (a : Name) → is_some (array_in p a) ≡ true → Contains (array_names g) a) where
  turn_count : (f : Name) (spot : Spot) (at : ℕ) (scope : Scope) (turn : Turn) (names : List Name) (n : ℕ) → turn_values p names turn ≡ Ok n
      → n ≡ length (names_of turn) → 0 < n → length (lower_turn p f spot at scope turn).sources ≡ 1 + n
  turn_count f spot at scope (Before xs q body) names n h e some =
      let k = in_before p names xs q body n h in
      let site : Site = turn_site f in
      let c : Lowered = lower p site spot scope q in
      let s : Spot = spot_after spot c in
      let here : Site = arm_site site s.next true (next_spot s) in
      let gates : Lowered = entered_names here (next_spot s) at scope (first_of c.sources) (outside_body body) in
      let a : Lowered = arm site s.next true (next_spot s) at scope (first_of c.sources) (outside_body body)
      (λ here inner names. lower_body p here inner names body) in
      let o : Spot = spot_after (next_spot s) a in
      let d : Lowered = entered_names (arm_site site s.next false o) o at scope (first_of c.sources) (bare xs) in
      joined_count c.sources (chosen site s at c.sources a d).sources n (count_of p site spot scope q names 1 k.0.values)
      (chosen_count site s at c.sources a d n
      (body_count p here (spot_after (next_spot s) gates) (arm_scope gates (outside_body body)) body names n k.1)
      (gates_count (arm_site site s.next false o) o at scope (first_of c.sources) xs n e some))
  turn_count f spot at scope (After xs body q) names n h e some =
      let k = in_after p names xs body q n h in
      let l : Lowered = lower_body p (turn_site f) spot scope body in
      let r : Spot = spot_after spot l in
      let inner : Scope = scoped (bare xs) l.sources scope in
      joined_count (lower p (turn_site f) r inner q).sources l.sources n (count_of p (turn_site f) r inner q names 1 k.1.values)
      (body_count p (turn_site f) spot scope body names n k.0)

  -- what holds of a turn
  abbrev WellTurn : Turn → Type 0
  WellTurn turn = (b : Block Name) (f : Name) (spot : Spot) (at : ℕ) (scope : Scope) (names : List Name) (n : ℕ)
      → FitsTurn turn → turn_values p names turn ≡ Ok n → n ≡ length (names_of turn) → 0 < n
      → IsSite g b (turn_site f) spot.next → AreKnown g b Root spot.next scope (bare (names_of turn)) → AreKnown g b Root spot.next scope (inner_uses turn)
      → IsIncluded g b f spot.next (lower_turn p f spot at scope turn)
      → IsWell g b f Root spot.next (lower_turn p f spot at scope turn)

  mutual
    expr_well : (e : Expr) → WellExpr g p e
    expr_well (Number at k) b site spot scope names n fits h here known held =
        literal_well g b site spot at (signed k) (signed_fits k (omega (arith, fits))) here held
    expr_well (Named at x) b site spot scope names n fits h here known held =
        only_well g b site.function site.region spot.next (source_in scope x ∷ []) (known.0, tt)
    expr_well (Bracket e) b site spot scope names n fits h here known held = expr_well e b site spot scope names n fits h here known held
    expr_well (Prefix at op e) b site spot scope names n fits h here known held =
        let k = in_prefix p names at op e n h in
        prefix_well g b site spot at op e (lower p site spot scope e) here fits.1 (λ f. expr_well e b site spot scope names 1 f k.0.values here known)
        (count_of p site spot scope e names 1 k.0.values) held
    expr_well (Infix at s d e) b site spot scope names n fits h here known held =
        let k = in_infix p names at s d e n h in
        let l : Lowered = lower p site spot scope d in
        let r : Spot = spot_after spot l in
        let split = each_append_back (λ x. IsGoodSource g b site.region spot.next (source_in scope x)) (uses d) (uses e) known in
        infix_well g b site spot at s l (lower p site r scope e) here (count_of p site spot scope d names 1 k.0.values)
        (count_of p site r scope e names 1 k.1.values)
        (expr_well d b site spot scope names 1 fits.0 k.0.values here split.0)
        (expr_well e b site r scope names 1 fits.2 k.1.values (site_later g b site spot.next r.next (omega arith) here)
        (known_later g b site.region spot.next r.next scope (uses e) (omega arith) split.1)) held
    expr_well (Fetch at a e) b site spot scope names n fits h here known held =
        let k = in_fetch p names at a e n h in
        let l : Lowered = lower p site spot scope e in
        node_well g b site spot at l (node.Fetch a) l.sources 1 here (arrays a k.0, count_of p site spot scope e names 1 k.1.values) (λ h. h) tt
        (λ k h. omega (arith, h)) (expr_well e b site spot scope names 1 fits k.1.values here known) (λ w. w.sources) held
    expr_well (Store at a d e) b site spot scope names n fits h here known held =
        let k = in_store p names at a d e n h in
        let l : Lowered = lower p site spot scope d in
        let r : Spot = spot_after spot l in
        let split = each_append_back (λ x. IsGoodSource g b site.region spot.next (source_in scope x)) (uses d) (uses e) known in
        store_well g b site spot at a l (lower p site r scope e) here (arrays a k.0) (count_of p site spot scope d names 1 k.1.values)
        (count_of p site r scope e names 1 k.2.values)
        (expr_well d b site spot scope names 1 fits.0 k.1.values here split.0)
        (expr_well e b site r scope names 1 fits.1 k.2.values (site_later g b site spot.next r.next (omega arith) here)
        (known_later g b site.region spot.next r.next scope (uses e) (omega arith) split.1)) held
    expr_well (Call at strict f es) b site spot scope names n fits h here known held =
        let k : IsCalled p names f es n = in_call p names at strict f es n h in
        let l : Lowered = lower_list p site spot scope es in
        let long : length l.sources ≡ length k.function.params = list_count p site spot scope es names (length k.function.params) k.arguments in
        let many : results_of (function_in p f) ≡ written_or_one k.function.results = ap results_of k.found in
        call_well g b site spot at strict f l (results_of (function_in p f)) here
        (subst (λ m. HasShape g f m (results_of (function_in p f))) (sym long)
        (subst (λ m. HasShape g f (length k.function.params) m) (sym many) (called f k.function k.found)))
        (list_well es b site spot scope names (length k.function.params) fits k.arguments here known) held
    expr_well (If at q l r) b site spot scope names n fits h here known held =
        let k = in_if p names at q l r n h in
        let P = λ (x : Name). IsGoodSource g b site.region spot.next (source_in scope x) in
        let arms = each_append_back P (uses q ++ body_uses l) (body_uses r) known in
        let split = each_append_back P (uses q) (body_uses l) arms.0 in
        let c : Lowered = lower p site spot scope q in
        let s : Spot = spot_after spot c in
        let a : Lowered = arm site s.next true (next_spot s) at scope (first_of c.sources) (outside_body l)
        (λ here inner names. lower_body p here inner names l) in
        let o : Spot = spot_after (next_spot s) a in
        let d : Lowered = arm site s.next false o at scope (first_of c.sources) (outside_body r) (λ here inner names. lower_body p here inner names r) in
        let m : Lowered = chosen site s at c.sources a d in
        let one : length c.sources ≡ 1 = count_of p site spot scope q names 1 k.0.values in
        let both : IsIncluded g b site.function spot.next _ = record { lines = held.lines; blocks = held.blocks } in
        let w = expr_well q b site spot scope names 1 fits.0 k.0.values here split.0 (first_held g b site.function site.region spot.next c m both) in
        let there : IsSite g b site s.next = site_later g b site spot.next s.next (omega arith) here in
        let predicate : IsGoodSource g b site.region s.next (first_of c.sources) = first_each (λ x. IsGoodSource g b site.region s.next x) c.sources one
        w.sources in
        followed_well g b site.function site.region spot.next c m site.region w
        (chosen_from g b site s at c.sources a d there w.sources one
        (λ e f. arm_well g b site s.next true (next_spot s) at scope (first_of c.sources) (outside_body l) e
        (good_later g b site.region s.next (next_spot s).next (first_of c.sources) (omega arith) predicate)
        (known_later g b site.region spot.next (next_spot s).next scope (outside_body l) (omega arith) (each_once P (body_uses l) split.1))
        (body_uses l) (λ here inner names. lower_body p here inner names l) (uses_once (body_uses l))
        (λ site known held. body_well l b _ _ _ names n false fits.1 k.1 site known held) f)
        (λ e f. arm_well g b site s.next false o at scope (first_of c.sources) (outside_body r) e
        (good_later g b site.region s.next o.next (first_of c.sources) (omega arith) predicate)
        (known_later g b site.region spot.next o.next scope (outside_body r) (omega arith) (each_once P (body_uses r) arms.1))
        (body_uses r) (λ here inner names. lower_body p here inner names r) (uses_once (body_uses r))
        (λ site known held. body_well r b _ _ _ names n true fits.2 k.2 site known held) f)
        (rest_held g b site.function site.region spot.next c m both))
    expr_well (Loop at bound firsts turn) b site spot scope names n fits h here known held =
        let k : IsTurned p names bound firsts turn n = in_loop p names at bound firsts turn n h in
        let xs : List Name = bare (names_of turn) in
        let outs : List Name = outside_turn turn in
        let f : Lowered = lower_list p site spot scope firsts in
        let t : Lowered = lower_turn p site.function (turn_spot spot f xs outs) at (turn_scope xs outs) turn in
        let P = λ (x : Name). IsGoodSource g b site.region spot.next (source_in scope x) in
        let split = each_append_back P (list_uses firsts) (turn_uses turn) known in
        let begun = firsts_values p names [] (names_of turn) firsts k.begun in
        let some : 0 < length (names_of turn) = omega (arith, some_count firsts, fits.2) in
        let c = carried bound xs outs (names_of turn) refl some k.small k.carried in
        let long : length xs ≡ length (names_of turn) = length-map (names_of turn) (λ (x : NameAt). x.name) in
        let parts = loops.parts_held g b site spot scope at bound.number xs outs f t held in
        let count_f : length f.sources ≡ length xs = list_count p site spot scope firsts names (count firsts) begun ∙ fits.2 ∙ sym long in
        let count_t : length t.sources ≡ 1 + length xs = omega (
          arith,
          turn_count site.function (turn_spot spot f xs outs) at (turn_scope xs outs) turn
              (xs ++ names) n k.turns k.names (omega (arith, some, k.names)),
          long,
          k.names,
        ) in
        let tb : Block Name = loops.turn_is g b site spot scope at bound.number xs outs f t in
        let all : ℕ = length xs + length outs in
        let inputs : AreGood g tb Root all (inputs_from 0 all) = inputs_good g tb 0 all all (omega arith) (omega arith) in
        let Q = λ (s : Source). IsGoodSource g tb Root all s in
        let as_many : length (xs ++ outs) ≤ length (inputs_from 0 all) = omega (arith, length-append xs outs, inputs_count 0 all) in
        let inner_names = known_in Q (xs ++ outs) (inputs_from 0 all) [] inputs as_many xs (names_in xs outs xs (in_itself xs)) in
        let inner_known = known_in Q (xs ++ outs) (inputs_from 0 all) [] inputs as_many (inner_uses turn) (turn_uses_in turn) in
        let root : IsSite g tb (turn_site site.function) all = record {
          region = tt;
          trigger = input_good g tb 0 all (omega (arith, c.some))
              (omega (arith, c.some));
        } in
        looped_well g b site spot scope at bound.number xs outs f t here c (each_once P (turn_uses turn) split.1) count_f count_t parts
        (list_well firsts b site spot scope names (count firsts) fits.1 begun here split.0 parts.firsts)
        (turn_well turn tb site.function (turn_spot spot f xs outs) at (turn_scope xs outs) (xs ++ names) n fits.3 k.turns k.names
        (omega (arith, some, k.names)) root
        inner_names inner_known parts.inner)

    list_well : (es : Exprs) → WellList g p es
    list_well (One e) b site spot scope names n fits h here known held = expr_well e b site spot scope names n fits h here known held
    list_well (More e es) b site spot scope names n fits h here known held =
        let k = in_more p names e es n h in
        let l : Lowered = lower p site spot scope e in
        let r : Spot = spot_after spot l in
        let split = each_append_back (λ x. IsGoodSource g b site.region spot.next (source_in scope x)) (uses e) (list_uses es) known in
        both_well g b site spot 0 l (lower_list p site r scope es) (expr_well e b site spot scope names k.0 fits.0 k.2 here split.0)
        (list_well es b site r scope names k.1 fits.1 k.3 (site_later g b site spot.next r.next (omega arith) here)
        (known_later g b site.region spot.next r.next scope (list_uses es) (omega arith) split.1)) held

    pub body_well : (body : Body) → WellBody g p body
    body_well (Let at targets es rest) b site spot scope names n behind fits h here known held =
        let k = in_let p names at targets es rest n h in
        let l : Lowered = lower_list p site spot scope es in
        let r : Spot = spot_after spot l in
        let inner : Scope = let_scoped targets l.sources scope in
        let m : Lowered = lower_body p site r inner rest in
        let both : IsIncluded g b site.function spot.next _ = record { lines = held.lines; blocks = held.blocks } in
        let split = each_append_back (λ x. IsGoodSource g b site.region spot.next (source_in scope x)) (list_uses es)
        (without (bound_by targets) (body_uses rest)) known in
        let w = list_well es b site spot scope names (length targets) fits.1 k.1 here split.0 (first_held g b site.function site.region spot.next l m both) in
        let long : length targets ≡ length l.sources = sym (list_count p site spot scope es names (length targets) k.1) in
        let outer = known_later g b site.region spot.next r.next scope (without (bound_by targets) (body_uses rest)) (omega arith) split.1 in
        followed_well g b site.function site.region spot.next l m site.region w
        (body_well rest b site r inner (bound_by targets ++ names) n false fits.2 k.2 (site_later g b site spot.next r.next (omega arith) here)
        (known_let (λ s. IsGoodSource g b site.region r.next s) targets l.sources scope w.sources long (body_uses rest) outer)
        (rest_held g b site.function site.region spot.next l m both))
    body_well (Do es rest) b site spot scope names n behind fits h here known held =
        let k = in_do p names es rest n h in
        let l : Lowered = lower_list p site spot scope es in
        let r : Spot = spot_after spot l in
        let m : Lowered = lower_body p site r scope rest in
        let both : IsIncluded g b site.function spot.next _ = record { lines = held.lines; blocks = held.blocks } in
        let split = each_append_back (λ x. IsGoodSource g b site.region spot.next (source_in scope x)) (list_uses es) (body_uses rest) known in
        followed_well g b site.function site.region spot.next l m site.region
        (list_well es b site spot scope names k.0 fits.0 k.1 here split.0 (first_held g b site.function site.region spot.next l m both))
        (body_well rest b site r scope names n false fits.1 k.2 (site_later g b site spot.next r.next (omega arith) here)
        (known_later g b site.region spot.next r.next scope (body_uses rest) (omega arith) split.1)
        (rest_held g b site.function site.region spot.next l m both))
    body_well (Give es) b site spot scope names n behind fits h here known held = list_well es b site spot scope names n fits h here known held
    body_well (Chain e) b site spot scope names n behind fits h here known held = expr_well e b site spot scope names n fits.2 h here known held

    turn_well : (turn : Turn) → WellTurn turn
    turn_well (Before xs q body) b f spot at scope names n fits h e some here own known held =
        let k = in_before p names xs q body n h in
        let site : Site = turn_site f in
        let P = λ (x : Name). IsGoodSource g b Root spot.next (source_in scope x) in
        let split = each_append_back P (uses q) (body_uses body) known in
        let c : Lowered = lower p site spot scope q in
        let s : Spot = spot_after spot c in
        let a : Lowered = arm site s.next true (next_spot s) at scope (first_of c.sources) (outside_body body)
        (λ here inner names. lower_body p here inner names body) in
        let o : Spot = spot_after (next_spot s) a in
        let d : Lowered = entered_names (arm_site site s.next false o) o at scope (first_of c.sources) (bare xs) in
        let m : Lowered = chosen site s at c.sources a d in
        let one : length c.sources ≡ 1 = count_of p site spot scope q names 1 k.0.values in
        let w = expr_well q b site spot scope names 1 fits.0 k.0.values here split.0 (first_held g b f Root spot.next c m held) in
        let there : IsSite g b site s.next = site_later g b site spot.next s.next (omega arith) here in
        let predicate : IsGoodSource g b Root s.next (first_of c.sources) = first_each (λ x. IsGoodSource g b Root s.next x) c.sources one w.sources in
        joined_well g b f Root spot.next c m w
        (chosen_from g b site s at c.sources a d there w.sources one
        (λ e h. arm_well g b site s.next true (next_spot s) at scope (first_of c.sources) (outside_body body) e
        (good_later g b Root s.next (next_spot s).next (first_of c.sources) (omega arith) predicate)
        (known_later g b Root spot.next (next_spot s).next scope (outside_body body) (omega arith) (each_once P (body_uses body) split.1))
        (body_uses body) (λ here inner names. lower_body p here inner names body) (uses_once (body_uses body))
        (λ site known held. body_well body b _ _ _ names n false fits.1 k.1 site known held) h)
        (λ e h. gates_well g b site s.next false o at scope (first_of c.sources) (bare xs) e
        (good_later g b Root s.next o.next (first_of c.sources) (omega arith) predicate)
        (known_later g b Root spot.next o.next scope (bare xs) (omega arith) own) h)
        (rest_held g b f Root spot.next c m held))
    turn_well (After xs body q) b f spot at scope names n fits h e some here own known held =
        let k = in_after p names xs body q n h in
        let site : Site = turn_site f in
        let P = λ (x : Name). IsGoodSource g b Root spot.next (source_in scope x) in
        let split = each_append_back P (body_uses body) (uses q) known in
        let l : Lowered = lower_body p site spot scope body in
        let r : Spot = spot_after spot l in
        let inner : Scope = scoped (bare xs) l.sources scope in
        let m : Lowered = lower p site r inner q in
        let both : IsIncluded g b f spot.next _ = record { lines = held.lines; blocks = held.blocks } in
        let w = body_well body b site spot scope names n false fits.0 k.0 here split.0 (first_held g b f Root spot.next l m both) in
        let outer = known_later g b Root spot.next r.next scope (uses q) (omega arith) split.1 in
        let v = expr_well q b site r inner names 1 fits.1 k.1.values (site_later g b site spot.next r.next (omega arith) here)
        (known_past (λ s. IsGoodSource g b Root r.next s) (bare xs) l.sources scope w.sources (uses q) outer)
        (rest_held g b f Root spot.next l m both) in
        let all = joined_well g b f Root spot.next l m w v in
        let sources = each_append_back (λ s. IsGoodSource g b Root (spot.next + length (l.nodes ++ m.nodes)) s) l.sources m.sources all.sources in
        record { nodes = all.nodes; sources = each_append _ m.sources l.sources sources.1 sources.0; blocks = all.blocks }
