-- Lowering keeps the meaning of what makes no invocation: numbers, names, brackets and operators.
use Rattle.std.proofs.Common.{◌≡◌, ℕ, ◌+◌, ◌<◌, ℤ, List, [], ◌∷◌, ◌++◌, length, Some, IsPermutation, refl, sym, ap, ◌∙◌, subst, arith, length-append}
use Rattle.std.proofs.lemmas.List.Sorted.{IsPermutation-refl}
use Rattle.tags.specs.declared.value.Value.{Value}
use Rattle.tags.specs.declared.value.Value.TheVariants.{Int}
use Rattle.tags.specs.declared.value.Origin.{Origin}
use Rattle.tags.specs.declared.value.Origin.TheVariants.{At}
use Rattle.semantics.specs.declared.graph.Source.{Source}
use Rattle.semantics.specs.declared.graph.Kind.{Kind}
use Rattle.semantics.specs.declared.graph.Kind.TheVariants as node
use Rattle.semantics.specs.Graph.{Graph, flow_of}
use Rattle.semantics.specs.Meaning.{Context, State, Activity, Run, start, node_in, node_of, block_number}
use Rattle.law_confluence.specs.EquationsHave.{ports_of}
use Rattle.law_confluence.specs.Equations.{Has, LineEquation}
use Rattle.law_confluence.specs.EquationsSettled.{Settled}
use Rattle.source.specs.Tree.{Name, Expr, Number, Named, Bracket, Program}
use Rattle.source.specs.Evaluates.{Stores, number, named, bracket, signed}
use Rattle.source.specs.Lowered.{Lowered, Site, Spot, made, only, ended, port, spot_after}
use Rattle.law_language.specs.MeansHolds.{resolved, MayFail}
use Rattle.law_language.specs.MeansBelow.{stores_below}
use Rattle.law_language.specs.Means.{IsActive, MeansExpr}
use Rattle.law_language.proofs.MeansRanges.{stores_none, stores_both}
use Rattle.law_language.proofs.MeansStoreLines.{IsQuiet, quiet}
use Rattle.law_language.proofs.MeansParts.{line_gives, rest_part, own_line, block_is}

pub append_nothing : {X : Type 0} (xs : List X) → xs ++ [] ≡ xs
append_nothing [] = refl
append_nothing (x ∷ xs) = ap (λ l. x ∷ l) (append_nothing xs)

module _ (p : Program) (g : Graph) (origin : ℕ → Origin) (inputs : List ℤ) (run : List Activity) (s : State)
    (r : Run (flow_of g) (start inputs) run s) (st : Settled (flow_of g) inputs run s r) (c : Context) where
  abbrev HasIt : Source → Value → Type 0
  HasIt x v = Has (flow_of g) inputs run s r c x v

  abbrev ActiveIn : Site → Spot → Lowered → Type 0
  ActiveIn site spot l = IsActive p g origin inputs run s r c site spot l

  abbrev Equals : ℕ → Value → Kind ℕ → List Source → Type 0
  Equals n v kind ss = LineEquation (flow_of g) inputs run s r c n 0 v kind ss

  -- A PART THAT ENDS WITH ONE LINE MORE: the line's value, and its stores, if it is quiet
  module _ (site : Site) (spot : Spot) (l : Lowered) (at : ℕ) (kind : Kind Name) (ss : List Source)
      (h : ActiveIn site spot (ended site spot l at kind ss 1)) where
    abbrev pub own : ℕ
    own = spot.next + length l.nodes

    last : ActiveIn site (spot_after spot l) (record { nodes = made site at kind ss ∷ []; sources = []; blocks = [] })
    last = rest_part p g origin inputs run s r c site spot l (record { nodes = made site at kind ss ∷ []; sources = []; blocks = [] })
        (ended site spot l at kind ss 1) refl (sym (append_nothing l.blocks)) h

    pub last_gives : 0 < ports_of (flow_of g) (resolved g (made site at kind ss)).kind ss → (v : Value) × HasIt (port own 0) v × Equals own v
        (resolved g (made site at kind ss)).kind ss
    last_gives low =
        line_gives (flow_of g) inputs run s r st c last.block own 0 (resolved g (made site at kind ss))
        (block_is p g origin inputs run s r c site (spot_after spot l) (record { nodes = made site at kind ss ∷ []; sources = []; blocks = [] }) last) last.due
        (own_line p g origin inputs run s r c site (spot_after spot l) (record { nodes = made site at kind ss ∷ []; sources = []; blocks = [] })
        (made site at kind ss) [] refl last).0
        last.taken low

    pub last_node : node_of (flow_of g) c own ≡ Some (resolved g (made site at kind ss))
    last_node =
        ap (λ o. node_in o own) (block_is p g origin inputs run s r c site (spot_after spot l)
        (record { nodes = made site at kind ss ∷ []; sources = []; blocks = [] }) last)
        ∙ (own_line p g origin inputs run s r c site (spot_after spot l) (record { nodes = made site at kind ss ∷ []; sources = []; blocks = [] })
        (made site at kind ss) [] refl last).0

    pub last_traced : (i : ℕ) × (block_number (flow_of g) c ≡ Some i) × (MayFail kind → origin at ≡ At i own)
    last_traced = (
      last.number,
      last.is_number,
      (own_line p g origin inputs run s r c site (spot_after spot l)
          (record { nodes = made site at kind ss ∷ []; sources = []; blocks = [] }) (made site at kind ss) [] refl last).1,
    )

    pub last_quiet : (us : Stores) → IsQuiet (resolved g (made site at kind ss)).kind → IsPermutation us (stores_below (flow_of g) run c spot.next own)
        → IsPermutation us (stores_below (flow_of g) run c spot.next (spot.next + length (ended site spot l at kind ss 1).nodes))
    last_quiet us silent k =
        let none : IsPermutation [] (stores_below (flow_of g) run c own (own + 1)) =
        subst (λ l. IsPermutation [] l) (sym (quiet (flow_of g) inputs run s r st c own (resolved g (made site at kind ss)) last_node silent))
        (IsPermutation-refl []) in
        let both = stores_both (flow_of g) run c spot.next own (own + 1) us [] (omega arith) (omega arith) k none in
        let long : own + 1 ≡ spot.next + length (ended site spot l at kind ss 1).nodes = let n = length-append l.nodes (made site at kind ss ∷ []) in
        omega (arith, n) in
        subst (λ n. IsPermutation us (stores_below (flow_of g) run c spot.next n)) long
        (subst (λ us. IsPermutation us (stores_below (flow_of g) run c spot.next (own + 1))) (append_nothing us) both)

  pub no_stores : (n : ℕ) → IsPermutation [] (stores_below (flow_of g) run c n (n + length (only []).nodes))
  no_stores n =
      let same : n ≡ n + length (only []).nodes = omega arith in
      subst (λ m. IsPermutation [] (stores_below (flow_of g) run c n m)) same
      (subst (λ l. IsPermutation [] l) (sym (stores_none (flow_of g) run c n)) (IsPermutation-refl []))

  pub means_number : (at k : ℕ) → MeansExpr p g origin inputs run s r c (Number at k)
  means_number at k site spot scope env names n fits rule h known =
      let v = last_gives site spot (only []) at (node.Lit (signed k)) (site.trigger ∷ []) h (omega arith) in
      record {
        vs = Int (signed k) ∷ [];
        ss = [];
        evaluated = number;
        have = (subst (λ v. HasIt (port (spot.next + length (only []).nodes) 0) v) v.2 v.1, tt);
        stored = last_quiet site spot (only []) at (node.Lit (signed k)) (site.trigger ∷ []) h [] tt (no_stores spot.next);
      }

  pub means_named : (at : ℕ) (x : Name) → MeansExpr p g origin inputs run s r c (Named at x)
  means_named at x site spot scope env names n fits rule h known = record {
    vs = known.0.0 ∷ [];
    ss = [];
    evaluated = named known.0.1;
    have = (known.0.2, tt);
    stored = no_stores spot.next;
  }

  pub means_bracket : (e : Expr) → MeansExpr p g origin inputs run s r c e → MeansExpr p g origin inputs run s r c (Bracket e)
  means_bracket e means site spot scope env names n fits rule h known =
      let out = means site spot scope env names n fits rule h known in
      record { vs = out.vs; ss = out.ss; evaluated = bracket out.evaluated; have = out.have; stored = out.stored }
