-- Where the arcs of an instruction start, and where they lead.
use Rattle.std.proofs.Common.{[], ◌++◌, ◌+◌, ◌<◌, ◌∷◌, ◌≡◌, ◌≤◌, ◌⊎◌, Bool, Contains, List, ap, arith, false, flat_map, inl, inr, subst, suc, sym}
use Rattle.std.proofs.Common.{true, zero, ℕ}
use Rattle.std.proofs.lemmas.List.Elements.{Contains-append_cases, Contains-append_left, Contains-append_right}
use Rattle.tags.specs.declared.token.Port.TheVariants.{Left}
use Rattle.semantics.specs.declared.program.Dest.{Dest}
use Rattle.semantics.specs.declared.program.Op.{Op}
use Rattle.semantics.specs.declared.program.Op.TheVariants.{Link}
use Rattle.semantics.specs.Program.{Instr}
use Rattle.semantics.specs.Plan.{Plan, landing}
use Rattle.semantics.specs.Sharing.{Arc, inlet, arc, arcs_to, row, arcs_from}
use Rattle.lemmas.proofs.Contains.{contains_head, contains_tail, contains_cases, contains_none, contains_mapped}

-- WHERE THEY START
pub arcs_to_from : (n : ℕ) (s : Bool) (ds : List Dest) (x : Arc) → Contains (arcs_to n s ds) x → x.from ≡ n
arcs_to_from n s ds x c = let d = contains_mapped (λ (d : Dest). arc n s (inlet (n + d.ahead) d.port)) ds x c in sym (ap (λ (x : Arc). x.from) d.2)

pub row_from : (n from k : ℕ) (x : Arc) → Contains (row n from k) x → x.from ≡ n
row_from n from zero x c = absurd (contains_none x c)
row_from n from (suc k) x c = go (contains_cases (arc n false (inlet from Left)) (row n (from + 1) k) x c) (λ c. row_from n (from + 1) k x c)
  where
    go : (arc n false (inlet from Left) ≡ x) ⊎ Contains (row n (from + 1) k) x → (Contains (row n (from + 1) k) x → x.from ≡ n) → x.from ≡ n
    go (inl e) more = sym (ap (λ (x : Arc). x.from) e)
    go (inr c) more = more c

pub rows_from : (n k : ℕ) (ds : List Dest) (x : Arc) → Contains (flat_map (λ (d : Dest). row n (n + d.ahead) k) ds) x → x.from ≡ n
rows_from n k [] x c = absurd (contains_none x c)
rows_from n k (d ∷ ds) x c = go (Contains-append_cases (row n (n + d.ahead) k) _ x c) (λ c. rows_from n k ds x c)
  where
    go : Contains (row n (n + d.ahead) k) x ⊎ Contains (flat_map (λ (d : Dest). row n (n + d.ahead) k) ds) x
        → (Contains (flat_map (λ (d : Dest). row n (n + d.ahead) k) ds) x → x.from ≡ n) → x.from ≡ n
    go (inl c) more = row_from n (n + d.ahead) k x c
    go (inr c) more = more c

pub arcs_from_from : (p : Plan) (n : ℕ) (i : Instr) (op : Op) (x : Arc) → Contains (arcs_from p n i op) x → x.from ≡ n
arcs_from_from p n i (Link b) x c = go (Contains-append_cases (flat_map (λ (d : Dest). row n (n + d.ahead) (landing p b)) i.firsts)
    (arcs_to n true i.seconds) x c)
  where
    go : Contains (flat_map (λ (d : Dest). row n (n + d.ahead) (landing p b)) i.firsts) x ⊎ Contains (arcs_to n true i.seconds) x → x.from ≡ n
    go (inl c) = rows_from n (landing p b) i.firsts x c
    go (inr c) = arcs_to_from n true i.seconds x c
arcs_from_from p n i op x c = go (Contains-append_cases (arcs_to n false i.firsts) (arcs_to n true i.seconds) x c)
  where
    go : Contains (arcs_to n false i.firsts) x ⊎ Contains (arcs_to n true i.seconds) x → x.from ≡ n
    go (inl c) = arcs_to_from n false i.firsts x c
    go (inr c) = arcs_to_from n true i.seconds x c

-- WHERE THEY LEAD: to a destination, or further on in a landing
pub arcs_to_dest : (n : ℕ) (s : Bool) (ds : List Dest) (x : Arc) → Contains (arcs_to n s ds) x → (d : Dest) × Contains ds d
    × (x.to ≡ inlet (n + d.ahead) d.port)
arcs_to_dest n s ds x c =
    let m = contains_mapped (λ (d : Dest). arc n s (inlet (n + d.ahead) d.port)) ds x c in
    (m.0, m.1, ap (λ (y : Arc). y.to) (sym m.2))

abbrev pub Leads : ℕ → List Dest → Arc → Type 0
Leads n ds x = (d : Dest) × Contains ds d × ((x.to ≡ inlet (n + d.ahead) d.port) ⊎ ((x.to.port ≡ Left) × (n + d.ahead ≤ x.to.place)))

pub arcs_to_lead : (n : ℕ) (s : Bool) (ds : List Dest) (x : Arc) → Contains (arcs_to n s ds) x → Leads n ds x
arcs_to_lead n s ds x c = let d = arcs_to_dest n s ds x c in (d.0, d.1, inl d.2)

pub row_leads : (n from k : ℕ) (x : Arc) → Contains (row n from k) x → (x.to.port ≡ Left) × (from ≤ x.to.place)
row_leads n from zero x h = absurd (contains_none x h)
row_leads n from (suc k) x h = pick (contains_cases (arc n false (inlet from Left)) (row n (from + 1) k) x h) (row_leads n (from + 1) k x)
  where
    pick : (arc n false (inlet from Left) ≡ x) ⊎ Contains (row n (from + 1) k) x → (Contains (row n (from + 1) k) x → (x.to.port ≡ Left)
        × (from + 1 ≤ x.to.place)) → (x.to.port ≡ Left) × (from ≤ x.to.place)
    pick (inl e) more = let p = ap (λ (x : Arc). x.to.place) e in (sym (ap (λ (x : Arc). x.to.port) e), omega (arith, p))
    pick (inr m) more = let r = more m in let s = r.1 in (r.0, omega (arith, s))

pub rows_lead : (n size : ℕ) (ds : List Dest) (x : Arc) → Contains (flat_map (λ (d : Dest). row n (n + d.ahead) size) ds) x → Leads n ds x
rows_lead n size [] x h = absurd (contains_none x h)
rows_lead n size (d ∷ ds) x h = pick (Contains-append_cases (row n (n + d.ahead) size) (flat_map (λ (d : Dest). row n (n + d.ahead) size) ds) x h)
    (rows_lead n size ds x)
  where
    pick : Contains (row n (n + d.ahead) size) x ⊎ Contains (flat_map (λ (d : Dest). row n (n + d.ahead) size) ds) x
        → (Contains (flat_map (λ (d : Dest). row n (n + d.ahead) size) ds) x → Leads n ds x) → Leads n (d ∷ ds) x
    pick (inl m) more = (d, contains_head d ds, inr (row_leads n (n + d.ahead) size x m))
    pick (inr m) more = let r = more m in (r.0, contains_tail d ds r.0 r.1, r.2)

pub either_leads : (n : ℕ) (ds es : List Dest) (x : Arc) → Leads n ds x ⊎ Leads n es x → Leads n (ds ++ es) x
either_leads n ds es x (inl (d, h, t)) = (d, Contains-append_left ds es d h, t)
either_leads n ds es x (inr (d, h, t)) = (d, Contains-append_right ds es d h, t)

pub arcs_from_lead : (q : Plan) (n : ℕ) (i : Instr) (op : Op) (x : Arc) → Contains (arcs_from q n i op) x → Leads n (i.firsts ++ i.seconds) x
arcs_from_lead q n i (Link b) x h = pick (Contains-append_cases (flat_map (λ (d : Dest). row n (n + d.ahead) (landing q b)) i.firsts)
    (arcs_to n true i.seconds) x h)
  where
    pick : Contains (flat_map (λ (d : Dest). row n (n + d.ahead) (landing q b)) i.firsts) x ⊎ Contains (arcs_to n true i.seconds) x
        → Leads n (i.firsts ++ i.seconds) x
    pick (inl m) = either_leads n i.firsts i.seconds x (inl (rows_lead n (landing q b) i.firsts x m))
    pick (inr m) = either_leads n i.firsts i.seconds x (inr (arcs_to_lead n true i.seconds x m))
arcs_from_lead q n i op x h = pick (Contains-append_cases (arcs_to n false i.firsts) (arcs_to n true i.seconds) x h)
  where
    pick : Contains (arcs_to n false i.firsts) x ⊎ Contains (arcs_to n true i.seconds) x → Leads n (i.firsts ++ i.seconds) x
    pick (inl m) = either_leads n i.firsts i.seconds x (inl (arcs_to_lead n false i.firsts x m))
    pick (inr m) = either_leads n i.firsts i.seconds x (inr (arcs_to_lead n true i.seconds x m))

-- each place of a landing has an arc
pub row_has : (n from k o : ℕ) → o < k → Contains (row n from k) (arc n false (inlet (from + o) Left))
row_has n from zero o l = absurd (omega (arith, l))
row_has n from (suc k) zero l =
    let z : from ≡ from + 0 = omega arith in subst (λ (x : ℕ). Contains (row n from (suc k)) (arc n false (inlet x Left))) z
    (contains_head (arc n false (inlet from Left)) (row n (from + 1) k))
row_has n from (suc k) (suc o) l =
    let z : from + 1 + o ≡ from + suc o = omega arith in
    subst (λ (x : ℕ). Contains (row n from (suc k)) (arc n false (inlet x Left))) z
    (contains_tail (arc n false (inlet from Left)) (row n (from + 1) k) (arc n false (inlet (from + 1 + o) Left))
    (row_has n (from + 1) k o (omega (arith, l))))
