-- The readers that a report counts are the fetches that wait in the meaning, and where none waits no frame is out.
use Rattle.std.proofs.Common.{◌≡◌, ℕ, zero, suc, ◌*◌, length, refl, sym, ◌∙◌, ap, arith}
use Rattle.std.specs.Prelude.{sum}
use Rattle.std.proofs.lemmas.List.{take_all}
use Rattle.semantics.specs.Graph.{Flow}
use Rattle.semantics.specs.Meaning.{State, fetch_count}
use Rattle.semantics.specs.Program.{Program}
use Rattle.semantics.specs.Rule.{array_base}
use Rattle.semantics.specs.Machine.{Machine, Size, reader_count}
use Rattle.semantics.specs.Faithful.{NoReader, IsClean}
use Rattle.semantics.specs.Report.{Report, IsPicture, sum_below, one_if}
use Rattle.semantics.proofs.Sums.{sum_of_zeros}
use Rattle.law_confluence.proofs.EquationsNoneWaits.{none_waits}

sum_same : (n : ℕ) (f g : ℕ → ℕ) → ((x : ℕ) → f x ≡ g x) → sum_below n f ≡ sum_below n g
sum_same zero f g e = refl
sum_same (suc n) f g e = omega (arith, sum_same n f g e, e n)

-- the readers that a report counts are the fetches that wait
pub deferred_are : (fl : Flow) (p : Program) (z : Size) (m : Machine) (r : Report) (s : State) → p.arrays ≡ fl.arrays → IsPicture p z m r
    → ((x : ℕ) → reader_count (m.store.cells x) ≡ fetch_count fl x s.tokens) → r.deferred ≡ sum_below (sum fl.arrays) (λ x. fetch_count fl x s.tokens)
deferred_are fl p z m r s arrays pic readers =
    let all : array_base p (length p.arrays) ≡ sum fl.arrays = ap sum (take_all (length p.arrays) p.arrays (omega arith) ∙ arrays) in
    pic.deferred ∙ ap (λ n. sum_below n (λ x. reader_count (m.store.cells x))) all
    ∙ sum_same (sum fl.arrays) (λ x. reader_count (m.store.cells x)) (λ x. fetch_count fl x s.tokens) readers

-- where it counts none, it shows no frame that is out
pub no_frame_is_out : (fl : Flow) (p : Program) (z : Size) (m : Machine) (r : Report) (s : State) → p.arrays ≡ fl.arrays → IsPicture p z m r
    → ((x : ℕ) → reader_count (m.store.cells x) ≡ fetch_count fl x s.tokens) → (NoReader m → IsClean m) → r.deferred ≡ 0 → r.frames_out ≡ 0
no_frame_is_out fl p z m r s arrays pic readers clean none =
    let waits = none_waits fl s.tokens (sym (deferred_are fl p z m r s arrays pic readers) ∙ none) in
    let out = (clean (λ x. readers x ∙ waits x)).frames in
    pic.frames_out ∙ sum_of_zeros (z.elements * z.frames) (λ f. one_if (m.store.out f)) (λ f. ap one_if (out f))
