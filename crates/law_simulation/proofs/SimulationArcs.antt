-- The arcs that events of the old run use.
use Rattle.std.proofs.Common.{
  ◌≡◌,
  refl,
  sym,
  ap,
  ◌∙◌,
  subst,
  ℕ,
  suc,
  ◌+◌,
  ◌⊎◌,
  inl,
  inr,
  Bool,
  true,
  false,
  true≢false,
  List,
  [],
  ◌∷◌,
  ◌++◌,
  Option,
  Some,
  None,
}
use Rattle.std.proofs.Common.{Contains, arith}
use Rattle.std.specs.Prelude.{slice_get}
use Rattle.std.proofs.lemmas.Option.{slice_get_within, same_Some}
use Rattle.std.proofs.lemmas.List.Elements.{Contains-append_left, Contains-append_right, Contains-append_cases}
use Rattle.lemmas.proofs.Contains.{contains_mapped, contains_none}
use Rattle.tags.specs.declared.token.Port.{Port}
use Rattle.tags.specs.declared.token.Port.TheVariants.{Left}
use Rattle.tags.specs.declared.token.Word.{Word}
use Rattle.tags.specs.declared.token.To.{To}
use Rattle.tags.specs.declared.token.Token.{Token}
use Rattle.semantics.specs.declared.program.Dest.{Dest}
use Rattle.semantics.specs.declared.program.Op.{Op}
use Rattle.semantics.specs.declared.program.Op.TheVariants.{Lit, Copy}
use Rattle.semantics.specs.Program.{Instr, CodeBlock, Program, first_of, instr_at}
use Rattle.semantics.specs.Rule.{token}
use Rattle.semantics.specs.Machine.{Machine}
use Rattle.semantics.specs.Plan.{Plan}
use Rattle.semantics.specs.Sharing.{Arc, arc, inlet, arcs_to, arcs_from, arcs_of, arcs_in}
use Rattle.semantics.specs.Arcs.{UsesBy, UsesArc}
use Rattle.semantics.proofs.ArcEnds.{arcs_from_from}
use Rattle.law_reuse.proofs.SlotsPlaced.{instr_in}
use Rattle.law_simulation.specs.Simulates.{hands_on}

-- ---- WHERE AN ARC STARTS
record Starts (p : Plan) (m : ℕ) (is : List Instr) (x : Arc) : Type 0 where
  pub k : ℕ
  pub i : Instr
  pub at : slice_get is k ≡ Some i
  pub from : x.from ≡ m + k
  pub here : Contains (arcs_from p (m + k) i i.op) x

arc_starts : (p : Plan) (m : ℕ) (is : List Instr) (x : Arc) → Contains (arcs_of p m is) x → Starts p m is x
arc_starts p m [] x c = absurd (contains_none x c)
arc_starts p m (i ∷ is) x c = go (Contains-append_cases (arcs_from p m i i.op) (arcs_of p (m + 1) is) x c) (arc_starts p (m + 1) is x)
  where
    go : Contains (arcs_from p m i i.op) x ⊎ Contains (arcs_of p (m + 1) is) x → (Contains (arcs_of p (m + 1) is) x → Starts p (m + 1) is x)
        → Starts p m (i ∷ is) x
    go (inl c) more =
        let z : m ≡ m + 0 = omega arith in
        record { k = 0; i = i; at = refl; from = arcs_from_from p m i i.op x c ∙ z; here = subst (λ (n : ℕ). Contains (arcs_from p n i i.op) x) z c }
    go (inr c) more =
        let r = more c in let z : m + 1 + r.k ≡ m + suc r.k = omega arith in
        record { k = suc r.k; i = r.i; at = r.at; from = r.from ∙ z; here = subst (λ (n : ℕ). Contains (arcs_from p n r.i (r.i).op) x) z r.here }

-- the use of an arc, by the instruction whose it is
pub record UseAt (p : Plan) (f a : ℕ) (r : Port) (taken : Token) (made : List Token) (new : Machine) : Type 0 where
  pub b : ℕ
  pub c : CodeBlock
  pub n : ℕ
  pub i : Instr
  pub x : Arc
  pub side : Port
  pub t : Token
  pub block : slice_get p.program.blocks b ≡ Some c
  pub instr : slice_get c.instrs n ≡ Some i
  pub here : Contains (arcs_from p n i i.op) x
  pub at : instr_at p.program (first_of p.program b + n) ≡ Some i
  pub taken_at : taken.to ≡ To.Instr f (first_of p.program b + n) side
  pub place : a ≡ first_of p.program b + x.to.place
  pub port : r ≡ x.to.port
  pub is_made : Contains made t
  pub uses : UsesBy p f a r i i.op t new

pub use_at : (p : Plan) (f a : ℕ) (r : Port) (taken : Token) (made : List Token) (new : Machine) → UsesArc p f a r taken made new → UseAt p f a r taken made new
use_at p f a r taken made new U = go (slice_get p.program.blocks U.b) refl
  where
    go : (o : Option CodeBlock) → slice_get p.program.blocks U.b ≡ o → UseAt p f a r taken made new
    go None e = absurd (contains_none U.x (subst (λ (o : Option CodeBlock). Contains (arcs_in p o) U.x) e U.is_arc))
    go (Some c) e =
        let S : Starts p 0 c.instrs U.x = arc_starts p 0 c.instrs U.x (subst (λ (o : Option CodeBlock). Contains (arcs_in p o) U.x) e U.is_arc) in
        let z : 0 + S.k ≡ S.k = omega arith in
        let from : U.x.from ≡ S.k = S.from ∙ z in
        let here : instr_at p.program (first_of p.program U.b + S.k) ≡ Some S.i = instr_in p.program.blocks U.b S.k c e (slice_get_within c.instrs S.k S.i S.at)
        ∙ S.at in
        let same : U.i ≡ S.i = same_Some U.i S.i (sym U.fired ∙ ap (λ (n : ℕ). instr_at p.program (first_of p.program U.b + n)) from ∙ here) in
        record {
          b = U.b;
          c = c;
          n = S.k;
          i = S.i;
          x = U.x;
          side = U.side;
          t = U.t;
          block = e;
          instr = S.at;
          here = subst (λ (n : ℕ). Contains (arcs_from p n S.i (S.i).op) U.x) z S.here;
          at = here;
          taken_at = U.taken_at ∙ ap (λ (n : ℕ). To.Instr f (first_of p.program U.b + n) U.side) from;
          place = U.place;
          port = U.port;
          is_made = U.is_made;
          uses = subst (λ (i : Instr). UsesBy p f a r i i.op U.t new) same U.uses;
        }

pub same_to : {a b x y : ℕ} {r s : Port} → To.Instr a x r ≡ To.Instr b y s → (a ≡ b) × (x ≡ y) × (r ≡ s)
same_to e = (cc, cc, cc)

hand_arcs : (p : Plan) (n : ℕ) (i : Instr) (op : Op) → hands_on op ≡ true → arcs_from p n i op ≡ arcs_to n false i.firsts ++ arcs_to n true i.seconds
hand_arcs p n i (Lit z) e = refl
hand_arcs p n i Copy e = refl
hand_arcs p n i op e = absurd (true≢false (sym e))

module _ (p q : Plan) (g h : ℕ → ℕ) where
  abbrev P : Program
  P = p.program

  abbrev Q : Program
  Q = q.program

  -- An arc that is used by one that passes on leads to a destination of it.
  pub hand_use : (f l : ℕ) (w : Word) (i : Instr) → instr_at P l ≡ Some i → hands_on i.op ≡ true → (k b : ℕ) (t : Port) → (made : List Token) (m : Machine)
      → UsesArc p k b t (token (To.Instr f l Left) w) made m
      → (d : Dest) × Contains (i.firsts ++ i.seconds) d × (f ≡ k) × (b ≡ l + d.ahead) × (d.port ≡ t)
  hand_use f l w i at op k b t made m U0 = by_arc (Contains-append_cases (arcs_to U.n false i.firsts) (arcs_to U.n true i.seconds) U.x arcs)
    where
      U : UseAt p k b t (token (To.Instr f l Left) w) made m
      U = use_at p k b t (token (To.Instr f l Left) w) made m U0

      spot : (f ≡ k) × (l ≡ first_of P U.b + U.n) × (Left ≡ U.side)
      spot = same_to U.taken_at

      same : U.i ≡ i
      same = same_Some U.i i (sym U.at ∙ ap (instr_at P) (sym spot.1) ∙ at)

      arcs : Contains (arcs_to U.n false i.firsts ++ arcs_to U.n true i.seconds) U.x
      arcs = subst (λ (l : List Arc). Contains l U.x) (hand_arcs p U.n i i.op op) (subst (λ (i : Instr). Contains (arcs_from p U.n i i.op) U.x) same U.here)

      Goal : Type 0
      Goal = (d : Dest) × Contains (i.firsts ++ i.seconds) d × (f ≡ k) × (b ≡ l + d.ahead) × (d.port ≡ t)

      by_dest : (side : Bool) (d : Dest) → Contains (i.firsts ++ i.seconds) d → arc U.n side (inlet (U.n + d.ahead) d.port) ≡ U.x → Goal
      by_dest side d named e =
          let place = U.place in let s1 = spot.1 in let to = ap (λ (x : Arc). x.to.place) e in
          (d, named, spot.0, omega (arith, place, s1, to), ap (λ (x : Arc). x.to.port) e ∙ sym U.port)

      by_arc : Contains (arcs_to U.n false i.firsts) U.x ⊎ Contains (arcs_to U.n true i.seconds) U.x → Goal
      by_arc (inl c) =
          let d = contains_mapped (λ (d : Dest). arc U.n false (inlet (U.n + d.ahead) d.port)) i.firsts U.x c in
          by_dest false d.0 (Contains-append_left i.firsts i.seconds d.0 d.1) d.2
      by_arc (inr c) =
          let d = contains_mapped (λ (d : Dest). arc U.n true (inlet (U.n + d.ahead) d.port)) i.seconds U.x c in
          by_dest true d.0 (Contains-append_right i.firsts i.seconds d.0 d.1) d.2
