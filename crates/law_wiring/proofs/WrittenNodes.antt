-- The nodes of a block, and where their values leave.
use Rattle.std.proofs.Common.{◌≡◌, ℕ, ◌<◌, Bool, true, false, List, [], ◌∷◌, length, refl, sym, ap, ◌∙◌, subst, arith, Some, None, Option, All}
use Rattle.std.proofs.lemmas.List.Elements.{All-head}
use Rattle.semantics.specs.declared.graph.Region.{Region}
use Rattle.semantics.specs.declared.graph.Region.TheVariants.{Root, Arm}
use Rattle.semantics.specs.declared.graph.Source.{Source}
use Rattle.semantics.specs.declared.graph.Kind.{Kind}
use Rattle.semantics.specs.declared.graph.Kind.TheVariants.{Lit, Apply1, Apply2, Cond, Enter, Merge, Fetch, Store, Call, StrictCall, Loop}
use Rattle.semantics.specs.Graph.{Node, Block, Flow, node_at}
use Rattle.semantics.specs.Meaning.{arm_of}
use Rattle.schemas.specs.Builds.{first_source}
use Rattle.schemas.specs.Scopes.{predicate_in, predicate_of}
use Rattle.law_net.specs.ContextsParts as Parts
use Rattle.law_net.specs.ContextsParts.{Part, Line, Answer, Gate, Landing, part_key}
use Rattle.law_net.specs.ContextsBlocks.{Side, side, Site, lies_in, arm_round, is_kind, cond_kind}
use Rattle.law_net.specs.ContextsWires.{AValue, goes_from}
use Rattle.law_wiring.specs.Written.{is_shared, answer_side, exit_of, leaves_at}
use Rattle.law_wiring.specs.WrittenFit.{Takes, IsPrior, LiesIn, Lies, IsFit}
use Rattle.law_wiring.proofs.WrittenMembers.{region}

module _ (b : Block ℕ) where
  pub node_some : (test : Kind ℕ → Bool) (n : ℕ) → is_kind test b n ≡ true → (x : Node ℕ) × (node_at b n ≡ Some x) × (test x.kind ≡ true)
  node_some test n h = go (node_at b n) refl h
    where
      go : (o : Option (Node ℕ)) → node_at b n ≡ o → elim o as (λ x. Bool) [ None ↦ false | Some line ↦ test line.kind ] ≡ true
          → (x : Node ℕ) × (node_at b n ≡ Some x) × (test x.kind ≡ true)
      go None e h = absurd (cc)
      go (Some x) e h = (x, e, h)

  pub kind_at : (test : Kind ℕ → Bool) (n : ℕ) (x : Node ℕ) → node_at b n ≡ Some x → is_kind test b n ≡ test x.kind
  kind_at test n x e = ap (λ o. elim o as (λ z. Bool) [ None ↦ false | Some line ↦ test line.kind ]) e

  pub its_region : (n : ℕ) (x : Node ℕ) → node_at b n ≡ Some x → lies_in b n ≡ x.region
  its_region n x e = ap arm_of e

-- parts at which a node's value leaves
abbrev pub is_value : Part → Bool
is_value (Line n) = true
is_value (Answer n) = true
is_value (Gate n) = true
is_value (Parts.Merge n) = true
is_value (Landing n q) = true
is_value r = false

module _ (s : Site) where
  -- in its region
  answer_region : (n : ℕ) (t : Bool) (r : Region) → lies_in s.block n ≡ r → region s.block (answer_side n t) ≡ r
  answer_region n true r e = e
  answer_region n false r e = e

  exit_region : (n q : ℕ) (r : Region) (k : Kind ℕ) → lies_in s.block n ≡ r → region s.block (exit_of s n q r k) ≡ r
  exit_region n q Root Enter e = ap (λ r. arm_round r true) e
  exit_region n q (Arm k true) Enter e = ap (λ r. arm_round r true) e
  exit_region n q (Arm k false) Enter e = ap (λ r. arm_round r false) e
  exit_region n q r (Merge k) e = e
  exit_region n q r (Lit z) e = e
  exit_region n q r (Apply1 op) e = e
  exit_region n q r (Apply2 op) e = e
  exit_region n q r Cond e = e
  exit_region n q r (Fetch a) e = answer_region n (is_shared s n) r e
  exit_region n q r (Store a) e = answer_region n (is_shared s n) r e
  exit_region n q r (Call f) e = e
  exit_region n q r (StrictCall f) e = e
  exit_region n q r (Loop f k) e = e

  pub leaves_region : (n q : ℕ) → region s.block (leaves_at s n q) ≡ lies_in s.block n
  leaves_region n q = go (node_at s.block n) refl
    where
      go : (o : Option (Node ℕ)) → node_at s.block n ≡ o
          → region s.block (elim o as (λ x. Side) [ None ↦ side (Line n) false | Some line ↦ exit_of s n q line.region line.kind ]) ≡ lies_in s.block n
      go None e = refl
      go (Some line) e = exit_region n q line.region line.kind (ap arm_of e) ∙ sym (ap arm_of e)

  -- from a part of its own
  answer_own : (n : ℕ) (t : Bool) → (is_value (answer_side n t).part ≡ true) × ((part_key (answer_side n t).part).first ≡ n)
  answer_own n true = (refl, refl)
  answer_own n false = (refl, refl)

  exit_own : (n q : ℕ) (r : Region) (k : Kind ℕ) → (is_value (exit_of s n q r k).part ≡ true) × ((part_key (exit_of s n q r k).part).first ≡ n)
  exit_own n q r Enter = (refl, refl)
  exit_own n q r (Merge c) = (refl, refl)
  exit_own n q r Cond = (refl, refl)
  exit_own n q r (Lit z) = (refl, refl)
  exit_own n q r (Apply1 op) = (refl, refl)
  exit_own n q r (Apply2 op) = (refl, refl)
  exit_own n q r (Fetch a) = answer_own n (is_shared s n)
  exit_own n q r (Store a) = answer_own n (is_shared s n)
  exit_own n q r (Call f) = (refl, refl)
  exit_own n q r (StrictCall f) = (refl, refl)
  exit_own n q r (Loop f c) = (refl, refl)

  pub leaves_own : (n q : ℕ) → (is_value (leaves_at s n q).part ≡ true) × ((part_key (leaves_at s n q).part).first ≡ n)
  leaves_own n q = go (node_at s.block n)
    where
      go : (o : Option (Node ℕ)) → (is_value (elim o as (λ x. Side) [ None ↦ side (Line n) false | Some line ↦ exit_of s n q line.region line.kind ]).part
          ≡ true)
          × ((part_key (elim o as (λ x. Side) [ None ↦ side (Line n) false | Some line ↦ exit_of s n q line.region line.kind ]).part).first ≡ n)
      go None = (refl, refl)
      go (Some line) = exit_own n q line.region line.kind

  pub leaves_some : (n q : ℕ) (x : Node ℕ) → node_at s.block n ≡ Some x → leaves_at s n q ≡ exit_of s n q x.region x.kind
  leaves_some n q x e = ap (λ o. elim o as (λ z. Side) [ None ↦ side (Line n) false | Some line ↦ exit_of s n q line.region line.kind ]) e

  pub leaves_none : (n q : ℕ) → node_at s.block n ≡ None → leaves_at s n q ≡ side (Line n) false
  leaves_none n q e = ap (λ o. elim o as (λ z. Side) [ None ↦ side (Line n) false | Some line ↦ exit_of s n q line.region line.kind ]) e

  -- as a value
  values_go : (r : Part) → is_value r ≡ true → goes_from r ≡ AValue
  values_go (Line n) h = refl
  values_go (Answer n) h = refl
  values_go (Gate n) h = refl
  values_go (Parts.Merge n) h = refl
  values_go (Landing n q) h = refl
  values_go r h = absurd (cc)

  pub leaves_value : (n q : ℕ) → goes_from (leaves_at s n q).part ≡ AValue
  leaves_value n q = values_go (leaves_at s n q).part (leaves_own n q).0

pub first_before : (fl : Flow) (b : Block ℕ) (n : ℕ) (ss : List Source) → 0 < length ss → All (IsPrior fl b n) ss → IsPrior fl b n (first_source ss)
first_before fl b n [] l all = absurd (omega (arith, l))
first_before fl b n (s ∷ ss) l all = All-head (IsPrior fl b n) s ss all

pub first_lies : (b : Block ℕ) (r : Region) (ss : List Source) → 0 < length ss → All (LiesIn b r) ss → lies_in b (first_source ss).node ≡ r
first_lies b r [] e h = absurd (omega (arith, e))
first_lies b r (s ∷ ss) e h = All-head (LiesIn b r) s ss h

pub cond_is : (k : Kind ℕ) → cond_kind k ≡ true → k ≡ Cond
cond_is Cond h = refl
cond_is k h = absurd (cc)

module _ (fl : Flow) (b : Block ℕ) (fit : IsFit fl b) where
  -- an arm is of an earlier conditional
  pub arms_round : (n k : ℕ) (t : Bool) → lies_in b n ≡ Arm k t → (k < n) × (is_kind cond_kind b k ≡ true)
  arms_round n k t = go (node_at b n) refl
    where
      go : (o : Option (Node ℕ)) → node_at b n ≡ o → arm_of o ≡ Arm k t → (k < n) × (is_kind cond_kind b k ≡ true)
      go None e h = absurd (cc)
      go (Some line) e h = (fit.nodes n line e).round k t h

  -- the predicate of a conditional is before it, and lies where the conditional does
  pub predicate_before : (k : ℕ) → is_kind cond_kind b k ≡ true → IsPrior fl b k (predicate_of b k) × (lies_in b (predicate_of b k).node ≡ lies_in b k)
  predicate_before k h =
      let x = node_some b cond_kind k h in
      let line = fit.nodes k x.0 x.1 in
      let kind = cond_is x.0.kind x.2 in
      let takes : length x.0.sources ≡ 1 = subst (λ c. Takes fl c (length x.0.sources)) kind line.takes in
      let lies : All (LiesIn b x.0.region) x.0.sources = subst (λ c. Lies b k x.0.region c x.0.sources) kind line.lies in
      let its : first_source x.0.sources ≡ predicate_of b k = ap predicate_in (sym x.1) in (
        subst (IsPrior fl b k) its (first_before fl b k x.0.sources (omega (arith, takes)) line.earlier),
        ap (λ (u : Source). lies_in b u.node) (sym its) ∙ first_lies b x.0.region x.0.sources (omega (arith, takes)) lies ∙ sym (its_region b k x.0 x.1),
      )
