-- The manager's fields and what it is seen as.
use Rattle.std.proofs.Common.{◌≡◌, ℕ, ◌+◌, ◌-◌, ◌^◌, ◌<◌, ◌≤◌, Bool, true, false, List, [], length, set, drop, sym, ap, ◌∙◌, arith}
use Rattle.std.proofs.lemmas.List.{length-set, length-drop, nil_from_length}
use Rattle.tags.specs.declared.token.Cont.{Cont}
use Rattle.frame_manager.specs.Flags.{flag_at, out_count, IsLeastFree}
use Rattle.frame_manager.specs.Managed.{Managed}
use Rattle.frame_manager.proofs.Counts.{count_le, count_taken, count_freed}

abbrev pub seen : List Bool → List Cont → Managed
seen flags requests = record { out = flags; requests = requests }

abbrev pub with_flags : List Bool → Managed
with_flags flags = seen flags []

pub fits_more : (flags : List Bool) (f out : ℕ) → IsLeastFree flags f → out ≡ out_count flags → length flags < 2 ^ 32 → out + 1 < 2 ^ 32
fits_more flags f out l e h =
    let more = count_taken flags f l.there l.free in
    let most = count_le (set flags f true) in
    omega (arith, length-set flags f true)

pub taken_invariant : (flags new : List Bool) (f out : ℕ) → IsLeastFree flags f → out ≡ out_count flags → length flags < 2 ^ 32 → new
    ≡ set flags f true → (length new < 2 ^ 32) × (out + 1 ≡ out_count new)
taken_invariant flags new f out l e h n =
    (omega (arith, ap length n, length-set flags f true), ap (λ k. k + 1) e ∙ sym (count_taken flags f l.there l.free) ∙ ap out_count (sym n))

pub one_is_out : (flags : List Bool) (f out : ℕ) → flag_at flags f ≡ true → out ≡ out_count flags → 1 ≤ out
one_is_out flags f out at e = let less = count_freed flags f at in omega arith

pub freed_invariant : (flags new : List Bool) (f out : ℕ) → flag_at flags f ≡ true → out ≡ out_count flags → length flags < 2 ^ 32 → new
    ≡ set flags f false → (length new < 2 ^ 32) × (out - 1 ≡ out_count new)
freed_invariant flags new f out at e h n =
    let less = count_freed flags f at in
    (omega (arith, ap length n, length-set flags f false), omega (arith, ap out_count n))

pub empty_queue : (old new : List Cont) → old ≡ new → new ≡ drop 1 old → old ≡ []
empty_queue old new e r = nil_from_length old (omega (arith, ap length e, ap length r, length-drop 1 old))
