-- The arcs that an event of an instruction uses: to each of its destinations there is one, and what it sends there uses it.
use Rattle.std.proofs.Common.{◌≡◌, refl, ap, ◌∙◌, ℕ, ◌+◌, ◌⊎◌, inl, inr, Bool, true, false, List, ◌++◌, Some, Contains, arith}
use Rattle.std.specs.Prelude.{flat_map}
use Rattle.std.proofs.lemmas.List.Elements.{Contains-append_left, Contains-append_right, Contains-append_cases}
use Rattle.lemmas.proofs.Contains.{contains_map}
use Rattle.tags.specs.declared.token.Port.{Port}
use Rattle.tags.specs.declared.token.To.{To}
use Rattle.tags.specs.declared.token.Token.{Token}
use Rattle.tags.specs.declared.slot.SlotState.TheVariants.{Empty}
use Rattle.semantics.specs.declared.program.Dest.{Dest}
use Rattle.semantics.specs.declared.program.Op.{Op}
use Rattle.semantics.specs.declared.program.Op.TheVariants.{Fetch, Store, Frame, Link, Ask, Give}
use Rattle.semantics.specs.Program.{Instr, instr_at}
use Rattle.semantics.specs.Machine.{Machine}
use Rattle.semantics.specs.Plan.{Plan, landing}
use Rattle.semantics.specs.Sharing.{arc, inlet, arcs_to, row, arcs_from}
use Rattle.semantics.specs.Arcs.{UsesBy, UsesArc}
use Rattle.law_reuse.proofs.SlotsPlaced.{Found, found, stands_at}
use Rattle.law_reuse.proofs.SlotsUsedArcs.{stands_arcs}
use Rattle.law_fresh_frames.specs.Alike.{plain_dests}

-- what goes to the port uses the arc, if a `give` leaves its slot empty
pub uses_goes : (q : Plan) (f ip : ℕ) (r : Port) (j : Instr) (op : Op) (t : Token) (m : Machine) → t.to ≡ To.Instr f ip r
    → ((k : ℕ) → op ≡ Give k → m.store.slots f j.slot ≡ Empty) → UsesBy q f ip r j op t m
uses_goes q f ip r j (Link b) t m e g = inl e
uses_goes q f ip r j (Fetch b) t m e g = inl e
uses_goes q f ip r j (Store b) t m e g = inl e
uses_goes q f ip r j Frame t m e g = inl e
uses_goes q f ip r j (Ask b) t m e g = inl e
uses_goes q f ip r j (Give k) t m e g = (e, g k refl)
uses_goes q f ip r j op t m e g = e

-- each destination has its arc
pub dest_arc : (q : Plan) (n : ℕ) (j : Instr) (op : Op) (d : Dest) → Contains (plain_dests j op) d
    → (side : Bool) × Contains (arcs_from q n j op) (arc n side (inlet (n + d.ahead) d.port))
dest_arc q n j op d inside = go op inside
  where
    both : Contains (j.firsts ++ j.seconds) d
        → (side : Bool) × Contains (arcs_to n false j.firsts ++ arcs_to n true j.seconds) (arc n side (inlet (n + d.ahead) d.port))
    both c = pick (Contains-append_cases j.firsts j.seconds d c)
      where
        pick : Contains j.firsts d ⊎ Contains j.seconds d
            → (side : Bool) × Contains (arcs_to n false j.firsts ++ arcs_to n true j.seconds) (arc n side (inlet (n + d.ahead) d.port))
        pick (inl c) = (
          false,
          Contains-append_left (arcs_to n false j.firsts) (arcs_to n true j.seconds) _
              (contains_map (λ (d : Dest). arc n false (inlet (n + d.ahead) d.port)) j.firsts d c),
        )
        pick (inr c) = (
          true,
          Contains-append_right (arcs_to n false j.firsts) (arcs_to n true j.seconds) _
              (contains_map (λ (d : Dest). arc n true (inlet (n + d.ahead) d.port)) j.seconds d c),
        )

    go : (op : Op) → Contains (plain_dests j op) d → (side : Bool) × Contains (arcs_from q n j op) (arc n side (inlet (n + d.ahead) d.port))
    go (Link b) c = (
      true,
      Contains-append_right (flat_map (λ (d : Dest). row n (n + d.ahead) (landing q b)) j.firsts) (arcs_to n true j.seconds) _
          (contains_map (λ (d : Dest). arc n true (inlet (n + d.ahead) d.port)) j.seconds d c),
    )
    go op c = both c

-- An event of an instruction uses the arc to one of its destinations, if a token of it does.
pub arc_used : (q : Plan) (f n : ℕ) (r : Port) (j : Instr) → instr_at q.program n ≡ Some j → (d : Dest) → Contains (plain_dests j j.op) d
    → (taken : Token) (made : List Token) (m : Machine) (t : Token) → taken.to ≡ To.Instr f n r
    → Contains made t → UsesBy q f (n + d.ahead) d.port j j.op t m → UsesArc q f (n + d.ahead) d.port taken made m
arc_used q f n r j at d inside taken made m t from is uses =
    let F : Found q.program n j = found q.program n j at in
    let k = dest_arc q F.n j j.op d inside in
    let place = F.place in
    record {
      b = F.b;
      x = arc F.n k.0 (inlet (F.n + d.ahead) d.port);
      side = r;
      i = j;
      t = t;
      is_arc = stands_arcs q F.b F.n j (arc F.n k.0 (inlet (F.n + d.ahead) d.port)) F.stands k.1;
      place = omega (arith, place);
      port = refl;
      taken_at = from ∙ ap (λ (n : ℕ). To.Instr f n r) place;
      fired = stands_at q.program F.b F.n j F.stands;
      is_made = is;
      uses = uses;
    }

-- So what it sends to one of them uses an arc.
pub uses_new : (q : Plan) (f n : ℕ) (r : Port) (j : Instr) → instr_at q.program n ≡ Some j → (d : Dest) → Contains (plain_dests j j.op) d
    → (taken : Token) (made : List Token) (m : Machine) (t : Token) → taken.to ≡ To.Instr f n r
    → Contains made t → t.to ≡ To.Instr f (n + d.ahead) d.port → ((k : ℕ) → j.op ≡ Give k → m.store.slots f j.slot ≡ Empty)
    → UsesArc q f (n + d.ahead) d.port taken made m
uses_new q f n r j at d inside taken made m t from is to give =
    arc_used q f n r j at d inside taken made m t from is (uses_goes q f (n + d.ahead) d.port j j.op t m to give)
