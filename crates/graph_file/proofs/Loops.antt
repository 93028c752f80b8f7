-- Reading one item after the other, as a loop does.
use Rattle.std.proofs.Common.{◌≡◌, ℕ, ◌+◌, ◌≤◌, ◌==◌, true, false, length, inl, inr, List, [], ◌∷◌, ◌++◌, Some, None, Result, Ok, Err, refl, sym}
use Rattle.std.proofs.Common.{ap, ◌∙◌, append_assoc, arith}
use Rattle.std.proofs.lemmas.List.{append-nil}
use Rattle.std.proofs.lemmas.Bool.{eqb-true}
use Rattle.std.proofs.lemmas.List.Sums.{count_by-le-length}
use Rattle.semantics.specs.declared.graph.Source.{Source}
use Rattle.graph_file.specs.declared.fault.ReadFaultKind.{ReadFaultKind}
use Rattle.graph_file.specs.declared.fault.ReadFaultKind.TheVariants.{BadNumber}
use Rattle.graph_file.specs.declared.fault.ReadFaultKind.TheVariants.{NoMain}
use Rattle.graph_file.specs.declared.fault.ReadFault.{ReadFault}
use Rattle.graph_file.specs.declared.lines.Place.{Place}
use Rattle.semantics.specs.Graph.{Graph}
use Rattle.graph_file.specs.Giving.{◌>>=◌, Fails}
use Rattle.graph_file.specs.Lines.{parts}
use Rattle.graph_file.specs.Found.{Found}
use Rattle.graph_file.specs.Reading.{Named, at_line, line_from, end_from, lines_from, IsFirstFault}
use Rattle.graph_file.proofs.Taking.{count_parts}
use Rattle.graph_file.specs.Fields.{source_of, sources_from}

-- what was read before, and what is still read
abbrev pub with_front : List Source → Result (List Source) ReadFaultKind → Result (List Source) ReadFaultKind
with_front front read = read >>= λ ss. Ok (front ++ ss)

regroup : (front : List Source) (s : Source) (read : Result (List Source) ReadFaultKind) → with_front front (read >>= λ ss. Ok (s ∷ ss))
    ≡ with_front (front ++ s ∷ []) read
regroup front s (Ok ss) = ap (λ (xs : List Source). Ok xs) (simp append_assoc)
regroup front s (Err e) = refl

pub goes_on : (front : List Source) (fields : List (List ℕ)) (f : List ℕ) (fs : List (List ℕ)) (s : Source) (total : Result (List Source) ReadFaultKind)
    → fields ≡ f ∷ fs → source_of f ≡ Some s → with_front front (sources_from fields) ≡ total → with_front (front ++ s ∷ []) (sources_from fs) ≡ total
unfolding sources_from
goes_on front fields f fs s total e h so_far =
    let one : with_front front (sources_from fields) ≡ with_front (front ++ s ∷ []) (sources_from fs) = rw (e, h) (regroup front s (sources_from fs)) in
    sym one ∙ so_far

pub fails : (front : List Source) (fields : List (List ℕ)) (f : List ℕ) (fs : List (List ℕ)) (total : Result (List Source) ReadFaultKind)
    → fields ≡ f ∷ fs → source_of f ≡ None → with_front front (sources_from fields) ≡ total → total ≡ Err BadNumber
unfolding sources_from
fails front fields f fs total e h so_far =
    let one : with_front front (sources_from fields) ≡ Err BadNumber = rw (e, h) refl in
    sym so_far ∙ one

pub is_done : (front : List Source) (fields : List (List ℕ)) (total : Result (List Source) ReadFaultKind) → fields ≡ []
    → with_front front (sources_from fields) ≡ total → total ≡ Ok front
unfolding sources_from
is_done front fields total e so_far =
    let one : with_front front (sources_from fields) ≡ Ok front = rw e (ap (λ (xs : List Source). Ok xs) (append-nil front)) in
    sym so_far ∙ one

-- THE LINES OF A TEXT
pub last_line : (n : ℕ) (found : Found) (place : Place Named (List ℕ)) (lines : List (List ℕ)) (line : List ℕ) (rest : List (List ℕ))
    (total : Result Graph ReadFault)
    → lines ≡ line ∷ rest → (length rest == 0) ≡ true → lines_from n found place lines ≡ total → at_line n (end_from found place line) ≡ total
unfolding lines_from
last_line n found place lines line [] total e h so_far = (sym (ap (lines_from n found place) e)) ∙ so_far
last_line n found place lines line (r ∷ rs) total e h so_far = absurd (omega (arith, eqb-true _ _ h))

pub ends_with : (n : ℕ) (read : Result Graph ReadFaultKind) (total : Result Graph ReadFault) (g : Graph) → at_line n read ≡ total → read ≡ Ok g → total ≡ Ok g
ends_with n read total g e h = sym e ∙ ap (at_line n) h

pub ends_badly : (n : ℕ) (read : Result Graph ReadFaultKind) (total : Result Graph ReadFault) (kind : ReadFaultKind) → at_line n read ≡ total
    → Fails kind read → IsFirstFault record { kind = kind; line = n } total
ends_badly n read total kind e (inl m) = inl m
ends_badly n read total kind e (inr h) = inr (sym e ∙ ap (at_line n) h)

next_line : (n : ℕ) (found : Found) (place : Place Named (List ℕ)) (line next : List ℕ) (rest : List (List ℕ))
    → lines_from n found place (line ∷ next ∷ rest) ≡ (at_line n (line_from found place line) >>= λ s. lines_from (n + 1) s.0 s.1 (next ∷ rest))
unfolding lines_from
next_line n found place line next rest = refl

pub one_more : (n : ℕ) (found : Found) (place : Place Named (List ℕ)) (lines : List (List ℕ)) (line : List ℕ) (rest : List (List ℕ))
    (total : Result Graph ReadFault) (s : Found × Place Named (List ℕ))
    → lines ≡ line ∷ rest → (length rest == 0) ≡ false → line_from found place line ≡ Ok s → lines_from n found place lines ≡ total
    → lines_from (n + 1) s.0 s.1 rest ≡ total
one_more n found place lines line [] total s e h k so_far = absurd cc
one_more n found place lines line (r ∷ rs) total s e h k so_far =
    let one : lines_from n found place lines ≡ lines_from (n + 1) s.0 s.1 (r ∷ rs) = ap (lines_from n found place) e
    ∙ next_line n found place line r rs ∙ rw k refl in
    sym one ∙ so_far

pub stops_at : (n : ℕ) (found : Found) (place : Place Named (List ℕ)) (lines : List (List ℕ)) (line : List ℕ) (rest : List (List ℕ))
    (total : Result Graph ReadFault) (kind : ReadFaultKind)
    → lines ≡ line ∷ rest → (length rest == 0) ≡ false → Fails kind (line_from found place line) → lines_from n found place lines ≡ total
    → IsFirstFault record { kind = kind; line = n } total
stops_at n found place lines line [] total kind e h k so_far = absurd cc
stops_at n found place lines line (r ∷ rs) total kind e h (inl m) so_far = inl m
stops_at n found place lines line (r ∷ rs) total kind e h (inr k) so_far =
    let one : lines_from n found place lines ≡ Err record { kind = kind; line = n } = ap (lines_from n found place) e
    ∙ next_line n found place line r rs ∙ rw k refl in
    inr (sym so_far ∙ one)

pub no_line : (n : ℕ) (found : Found) (place : Place Named (List ℕ)) (lines : List (List ℕ)) (total : Result Graph ReadFault) → lines ≡ []
    → lines_from n found place lines ≡ total → total ≡ Err record { kind = NoMain; line = n }
unfolding lines_from
no_line n found place lines total e so_far =
    let one : lines_from n found place lines ≡ Err record { kind = NoMain; line = n } = rw e refl in
    sym so_far ∙ one

pub few_parts : (c : ℕ) (bytes : List ℕ) → length (parts c bytes) ≤ length bytes + 1
few_parts c bytes = omega (arith, count_parts c bytes, count_by-le-length (λ b. b == c) bytes)
