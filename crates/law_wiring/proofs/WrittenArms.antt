-- The wires that are written down stay in their arms.
use Rattle.std.proofs.Common.{◌≡◌, ℕ, Bool, true, false, ◌&&◌, List, [], ◌∷◌, refl, sym, ap, ◌∙◌, subst, if◌then◌else◌, Some, None, Option, Contains}
use Rattle.tags.specs.declared.token.Port.TheVariants.{Left}
use Rattle.semantics.specs.declared.graph.Region.{Region}
use Rattle.semantics.specs.declared.graph.Source.{Source}
use Rattle.semantics.specs.declared.graph.Kind.{Kind}
use Rattle.semantics.specs.declared.graph.Kind.TheVariants.{Lit, Apply1, Apply2, Cond, Enter, Merge, Fetch, Store, Call, StrictCall, Loop}
use Rattle.semantics.specs.Graph.{Node, Flow, node_at}
use Rattle.semantics.specs.Meaning.{arm_of}
use Rattle.law_net.specs.ContextsParts.{Line, Answer, Trigger, TurnFlag, Inlet, inlet}
use Rattle.law_net.specs.ContextsBlocks.{Side, side, Site, Wiring, there_in, leaves_in, lies_in, entered, flag, is_kind, cond_kind, cell_kind, merge_kind}
use Rattle.law_net.specs.ContextsBlocks.{merged_by, merge_cond, exit, exit_kind}
use Rattle.law_net.specs.ContextsWires as Wires
use Rattle.law_net.specs.ContextsWires.{plain_site, decider, decided_by, FollowArms}
use Rattle.law_wiring.specs.Written.{Wire, inlet_of, is_shared, answer_side, exit_of, leaves_at, wires_in}
use Rattle.law_wiring.specs.WrittenFit.{Lies, Merges, IsFit}
use Rattle.law_wiring.specs.WrittenHalves.{IsWritten, WrittenFollowsArms}
use Rattle.law_wiring.proofs.WrittenMembers.{along_all}
use Rattle.law_wiring.proofs.WrittenNodes.{kind_at, arms_round}
use Rattle.law_wiring.proofs.WrittenLaws.{IsLawful, all_lawful}

-- where a node's value leaves
module _ (s : Site) where
  shared_same : (n : ℕ) (t : Bool) → (if t then side (Answer n) false else side (Line n) false) ≡ answer_side n t
  shared_same n true = refl
  shared_same n false = refl

  -- the wiring has the copies that are written down
  abbrev pub HasAnswers : Wiring → Type 0
  HasAnswers w = (n : ℕ) → w.answers n ≡ (is_kind cell_kind s.block n && is_shared s n)

  exit_same : (w : Wiring) (n q : ℕ) (r : Region) (k : Kind ℕ) → (cell_kind k ≡ true → w.answers n ≡ is_shared s n) → exit_kind w n q r k ≡ exit_of s n q r k
  exit_same w n q r Cond a = refl
  exit_same w n q r Enter a = refl
  exit_same w n q r (Merge c) a = refl
  exit_same w n q r (Lit z) a = refl
  exit_same w n q r (Apply1 op) a = refl
  exit_same w n q r (Apply2 op) a = refl
  exit_same w n q r (Fetch c) a = ap (λ u. if u then side (Answer n) false else side (Line n) false) (a refl) ∙ shared_same n (is_shared s n)
  exit_same w n q r (Store c) a = ap (λ u. if u then side (Answer n) false else side (Line n) false) (a refl) ∙ shared_same n (is_shared s n)
  exit_same w n q r (Call f) a = refl
  exit_same w n q r (StrictCall f) a = refl
  exit_same w n q r (Loop f c) a = refl

  pub exit_is : (w : Wiring) (n q : ℕ) → HasAnswers w → exit s.block w n q ≡ leaves_at s n q
  exit_is w n q h = go (node_at s.block n) refl
    where
      go : (o : Option (Node ℕ)) → node_at s.block n ≡ o
          → elim o as (λ x. Side) [ None ↦ side (Line n) false | Some line ↦ exit_kind w n q line.region line.kind ]
          ≡ elim o as (λ x. Side) [ None ↦ side (Line n) false | Some line ↦ exit_of s n q line.region line.kind ]
      go None e = refl
      go (Some line) e = exit_same w n q line.region line.kind (λ c. h n ∙ ap (λ t. t && is_shared s n) (kind_at s.block cell_kind n line e ∙ c))

module _ (fl : Flow) (s : Site) (fit : IsFit fl s.block) where
  -- a merge lies where its conditional does
  merged : (n k : ℕ) (r : Region) (xs : List Source) → Merges s.block n r k xs → (is_kind cond_kind s.block k ≡ true) × (lies_in s.block k ≡ r)
  merged n k r [] h = absurd h
  merged n k r (x ∷ []) h = absurd h
  merged n k r (x ∷ u ∷ []) h = (h.1, h.2)
  merged n k r (x ∷ u ∷ v ∷ xs) h = absurd h

  merges_at : (n : ℕ) (line : Node ℕ) (kind : Kind ℕ) → Lies s.block n line.region kind line.sources → merge_kind kind ≡ true
      → (is_kind cond_kind s.block (merged_by kind) ≡ true) × (lies_in s.block (merged_by kind) ≡ line.region)
  merges_at n line (Merge k) h g = merged n k line.region line.sources h
  merges_at n line kind h g = absurd (cc)

  merges_lie : (n : ℕ) → is_kind merge_kind s.block n ≡ true
      → (is_kind cond_kind s.block (merge_cond s.block n) ≡ true) × (lies_in s.block n ≡ lies_in s.block (merge_cond s.block n))
  merges_lie n = go (node_at s.block n) refl
    where
      go : (o : Option (Node ℕ)) → node_at s.block n ≡ o → elim o as (λ x. Bool) [ None ↦ false | Some line ↦ merge_kind line.kind ] ≡ true
          → (is_kind cond_kind s.block (elim o as (λ x. ℕ) [ None ↦ 0 | Some line ↦ merged_by line.kind ]) ≡ true)
          × (arm_of o ≡ lies_in s.block (elim o as (λ x. ℕ) [ None ↦ 0 | Some line ↦ merged_by line.kind ]))
      go None e g = absurd (cc)
      go (Some line) e g = let m = merges_at n line line.kind (fit.nodes n line e).lies g in (m.0, sym m.1)

  module _ (w : Wiring) (h : IsWritten fl s w) where
    wire_of : (t : Side) (x : Inlet) → there_in fl s w t.part ≡ true → Contains (w.wire t) x
        → (v : Wire) × IsLawful fl s fit v × (t ≡ v.from) × (inlet_of s.block v ≡ x)
    wire_of t x there c = along_all (IsLawful fl s fit) s.block t (wires_in fl s) x (all_lawful fl s fit) (subst (λ xs. Contains xs x) (h.wire t there) c)

    leaves_decider : (k : ℕ) → leaves_at s (decided_by s.block k).node (decided_by s.block k).port ≡ decider s.block w k
    leaves_decider k = sym (exit_is s w (decided_by s.block k).node (decided_by s.block k).port h.answers)

    pub follows : FollowArms fl s w
    follows = record {
      rounds = arms_round fl s.block fit;
      merges = merges_lie;
      arms = λ t x there c.
          let v = wire_of t x there c in
          ap (λ (y : Inlet). entered s.block y.part y.way) (sym v.3) ∙ v.1.arms ∙ ap (λ (u : Side). leaves_in s.block u.part u.second) (sym v.2);
      agree = λ t x k there c e.
          let v = wire_of t x there c in
          v.2 ∙ v.1.agree k (ap (λ (y : Inlet). Wires.predicate_at s.block y.part y.port) v.3 ∙ e) ∙ leaves_decider k;
      both = λ t k there. (
        λ c. let v = wire_of t (inlet (Trigger k) Left 0) there c in v.2 ∙ v.1.trigger k (ap (λ (y : Inlet). y.part) v.3) ∙ leaves_decider k,
        λ c. let v = wire_of t (inlet TurnFlag Left 0) there c in v.2 ∙ v.1.turn (ap (λ (y : Inlet). y.part) v.3) ∙ leaves_decider (flag s.block),
      );
    }

pub written_follows_arms : WrittenFollowsArms
written_follows_arms fl i b w there fit h = follows fl (plain_site b i) fit w h
