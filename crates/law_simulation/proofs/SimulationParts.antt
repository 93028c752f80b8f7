-- What tokens of the new run stand for, and what is known of a run.
use Rattle.std.proofs.Common.{◌≡◌, refl, sym, ap, ◌∙◌, subst, ℕ, ◌≤◌, ◌⊎◌, inl, inr, Bool, true, false, true≢false, List, [], ◌∷◌, ◌++◌, map, Option, Some}
use Rattle.std.proofs.Common.{Contains}
use Rattle.std.specs.Prelude.{flat_map, cond, if◌then◌else◌, ◌==◌, ⊤}
use Rattle.std.proofs.lemmas.List.Concat.{flat_map-append}
use Rattle.std.proofs.lemmas.List.Elements.{Contains-append_left, Contains-append_right}
use Rattle.tags.specs.declared.token.Port.{Port}
use Rattle.tags.specs.declared.token.To.{To}
use Rattle.tags.specs.declared.token.Token.{Token}
use Rattle.tags.specs.declared.slot.SlotState.{SlotState}
use Rattle.semantics.specs.declared.program.Op.{Op}
use Rattle.semantics.specs.declared.program.Op.TheVariants.{Apply2, Apply2Right, Apply2Left, Lit, Copy, Open, Take, Give}
use Rattle.semantics.specs.Program.{Instr, Program, instr_at}
use Rattle.semantics.specs.Rule.{slot_of}
use Rattle.semantics.specs.Machine.{Store as MStore, slot_in, slot_used}
use Rattle.semantics.specs.Cause.{is_request, seeks_credit}
use Rattle.semantics.specs.Plan.{Plan}
use Rattle.std.specs.Prelude.{◌&&◌}
use Rattle.lemmas.proofs.Contains.{contains_cases, contains_none}
use Rattle.lemmas.proofs.Lists.{map_append}
use Rattle.law_reuse.proofs.BoundsTallies.{Counter, Grants, Releases, count_at}
use Rattle.semantics.specs.Holders.{holder_at, same_holder}
use Rattle.semantics.specs.Credits.{granted_by, granted_in, released_by, released_in}
use Rattle.law_simulation.specs.Places.{ip_to}
use Rattle.law_simulation.specs.Simulates.{Plain, StandAll, Stands, counts_none, hands_on, is_pair, stand_more, stand_none}
use Rattle.law_simulation.proofs.SimulationPorts.{ones}

abbrev pub unit_of : Bool → ℕ
unit_of b = cond b 1 0

pub no_seek : (o : Option Instr) (i : Instr) (op : Op) → o ≡ Some i → i.op ≡ op → (elim op as (λ x. Bool) [ Open k ↦ true | Take k ↦ true | _ ↦ false ]) ≡ false
    → seeks_credit o ≡ false
no_seek o i op at e off = ap seeks_credit at ∙ ap (λ (op : Op). elim op as (λ x. Bool) [ Open k ↦ true | Take k ↦ true | _ ↦ false ]) e ∙ off

pub same_request : (h : ℕ → ℕ) (to : To) → is_request (ip_to h to) ≡ is_request to
same_request h (To.Instr f ip r) = refl
same_request h (To.Fetch x) = refl
same_request h (To.Store x v) = refl
same_request h To.Manager = refl
same_request h (To.Release f) = refl
same_request h (To.Host j) = refl

pub seeks_op : (i j : Instr) → j.op ≡ i.op → seeks_credit (Some j) ≡ seeks_credit (Some i)
seeks_op i j e = ap (λ (op : Op). elim op as (λ x. Bool) [ Open k ↦ true | Take k ↦ true | _ ↦ false ]) e

-- what passes on grants and releases nothing, and asks for no credit
pub hands_none : (op : Op) → hands_on op ≡ true → counts_none op ≡ true
hands_none (Lit z) e = refl
hands_none Copy e = refl
hands_none op e = absurd (true≢false (sym e))

pub hands_no_pair : (op : Op) → hands_on op ≡ true → is_pair op ≡ false
hands_no_pair (Lit z) e = refl
hands_no_pair Copy e = refl
hands_no_pair op e = absurd (true≢false (sym e))

pub pair_none : (op : Op) → is_pair op ≡ true → counts_none op ≡ true
pair_none (Apply2Right o z) e = refl
pair_none (Apply2Left o z) e = refl
pair_none op e = absurd (true≢false (sym e))

pub none_once : (op : Op) → counts_none op ≡ true → (elim op as (λ x. Bool) [ Give k ↦ true | Take k ↦ true | _ ↦ false ]) ≡ false
none_once (Give k) e = absurd (true≢false (sym e))
none_once (Take k) e = absurd (true≢false (sym e))
none_once op e = refl

pub none_seeks : (op : Op) → counts_none op ≡ true → (elim op as (λ x. Bool) [ Open k ↦ true | Take k ↦ true | _ ↦ false ]) ≡ false
none_seeks (Open k) e = absurd (true≢false (sym e))
none_seeks (Take k) e = absurd (true≢false (sym e))
none_seeks op e = refl

grants_none : (op : Op) (s : SlotState) → counts_none op ≡ true → granted_by op s ≡ 0
grants_none (Lit z) s e = refl
grants_none Copy s e = refl
grants_none (Apply2 o) s e = refl
grants_none (Apply2Right o z) s e = refl
grants_none (Apply2Left o z) s e = refl
grants_none op s e = absurd (true≢false (sym e))

frees_none : (op : Op) (f base : ℕ) (made : List Token) → counts_none op ≡ true → released_by op f base made ≡ 0
frees_none (Lit z) f base made e = refl
frees_none Copy f base made e = refl
frees_none (Apply2 o) f base made e = refl
frees_none (Apply2Right o z) f base made e = refl
frees_none (Apply2Left o z) f base made e = refl
frees_none op f base made e = absurd (true≢false (sym e))

pub count_none : (p : Plan) (x : Counter) (f k ip : ℕ) (r : Port) (s : MStore) (made : List Token) (i : Instr) → instr_at p.program ip ≡ Some i
    → counts_none i.op ≡ true → count_at p p.program x f s (To.Instr k ip r) made ≡ 0
count_none p (Grants loop) f k ip r s made i at off = go ((k == f) && same_holder loop (holder_at p ip))
  where
    none : granted_in (instr_at p.program ip) (slot_in s k (slot_used (instr_at p.program ip))) ≡ 0
    none = (λ v. granted_in (at v) (slot_in s k (slot_used (at v)))) ∙ grants_none i.op (slot_in s k (slot_of i i.op)) off

    go : (b : Bool) → (if b then granted_in (instr_at p.program ip) (slot_in s k (slot_used (instr_at p.program ip))) else 0) ≡ 0
    go true = none
    go false = refl
count_none p (Releases base) f k ip r s made i at off = ap (λ (o : Option Instr). released_in o f base made) at ∙ frees_none i.op f base made off

-- ---- CLUMPS
module _ (P Q : Program) (g h : ℕ → ℕ) where
  -- a token of the new run, and what it stands for
  pub record Clump : Type 0 where
    pub seen : Token
    pub meant : List Token
    pub stands : Stands P Q g h seen meant

  abbrev pub seen_of : List Clump → List Token
  seen_of cs = map (λ (c : Clump). c.seen) cs

  abbrev pub meant_of : List Clump → List Token
  meant_of cs = flat_map (λ (c : Clump). c.meant) cs

  pub clumps_of : (ts us : List Token) → StandAll P Q g h ts us → (cs : List Clump) × (seen_of cs ≡ ts) × (meant_of cs ≡ us)
  clumps_of ts us (stand_none xs ys a b) = ([], sym a, sym b)
  clumps_of ts us (stand_more xs ys t rest vs ws st k a b) =
      let m = clumps_of rest ws k in
      let c : Clump = record { seen = t; meant = vs; stands = st } in
      (c ∷ m.0, ap (λ (l : List Token). t ∷ l) m.1 ∙ sym a, ap (λ (l : List Token). vs ++ l) m.2 ∙ sym b)

  pub seen_join : (xs ys : List Clump) → seen_of (xs ++ ys) ≡ seen_of xs ++ seen_of ys
  seen_join xs ys = map_append (λ (c : Clump). c.seen) xs ys

  pub meant_join : (xs ys : List Clump) → meant_of (xs ++ ys) ≡ meant_of xs ++ meant_of ys
  meant_join xs ys = flat_map-append (λ (c : Clump). c.meant) xs ys

  pub in_meant : (cs : List Clump) (c : Clump) → Contains cs c → (t : Token) → Contains c.meant t → Contains (meant_of cs) t
  in_meant [] c inside t there = absurd (contains_none c inside)
  in_meant (x ∷ cs) c inside t there = go (contains_cases x cs c inside) (λ inside. in_meant cs c inside t there)
    where
      go : (x ≡ c) ⊎ Contains cs c → (Contains cs c → Contains (meant_of cs) t) → Contains (meant_of (x ∷ cs)) t
      go (inl e) more = Contains-append_left x.meant (meant_of cs) t (subst (λ (c : Clump). Contains c.meant t) (sym e) there)
      go (inr k) more = Contains-append_right x.meant (meant_of cs) t (more k)

-- What is known of a run: which frames it handed out, what it asked for, what it met and took at least, and what it counts.
pub record Sums : Type 1 where
  pub gone : List ℕ
  pub asked : ℕ
  pub credited : ℕ
  pub olds : List Token
  pub spent : List Token
  pub counts : Counter → ℕ → ℕ
  -- the arcs that it uses
  pub arcs : ℕ → ℕ → Port → Type 0

-- what counts in the new code, too
abbrev pub Fair : Program → Program → (ℕ → ℕ) → Counter → Type 0
Fair P Q h (Grants loop) = ⊤
Fair P Q h (Releases base) = Plain P Q h base

-- sums that say no more
pub record Says (P Q : Program) (h : ℕ → ℕ) (T U : Sums) : Type 0 where
  pub gone : T.gone ≡ U.gone
  pub asked : T.asked ≡ U.asked
  pub credited : T.credited ≡ U.credited
  pub olds : (x : Token) → Contains U.olds x → Contains T.olds x
  pub spent : (f a : ℕ) (r : Port) → ones f a r U.spent ≤ ones f a r T.spent
  pub counts : (x : Counter) (f : ℕ) → Fair P Q h x → T.counts x f ≡ U.counts x f
  pub arcs : (f a : ℕ) (r : Port) → T.arcs f a r → U.arcs f a r

abbrev pub with_spent : Sums → List Token → Sums
with_spent T us = record { gone = T.gone; asked = T.asked; credited = T.credited; olds = T.olds; spent = T.spent ++ us; counts = T.counts; arcs = T.arcs }
