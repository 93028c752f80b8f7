-- What tests that were passed say.
use Rattle.std.proofs.Common.{◌≡◌, ℕ, ◌+◌, ◌*◌, ◌<◌, ◌≤◌, Bool, true, false, nat_lt, if◌then◌else◌, Ok, Err, Some, None, List, length, refl, ap, ◌∙◌, arith}
use Rattle.std.proofs.lemmas.Bool.{and_parts, leb-true, ltb-true, ltb-false}
use Rattle.object_view.specs.declared.fault.ObjectFault.{ObjectFault}
use Rattle.object_view.specs.declared.fault.ObjectFault.TheVariants.{Truncated, Trailing}
use Rattle.object_view.specs.Fields.{word_at, count_in, inputs_in, outputs_in, slots_in}
use Rattle.object_view.specs.Reading.{word_count}
use Rattle.object_view.specs.Checks.{Checked, unless, first_then, counts_fit, entry_fits, length_checked, checked, opening_checked, content_checked}
use Rattle.object_view.specs.Checks.{first_refusal, refusal}

pub unless_ok : (b : Bool) (e : ObjectFault) → unless b e ≡ Ok tt → b ≡ true
unless_ok true e h = refl
unless_ok false e h = absurd cc

pub first_ok : (check next : Checked) → first_then check next ≡ Ok tt → (check ≡ Ok tt) × (next ≡ Ok tt)
first_ok (Ok x) next h = (refl, h)
first_ok (Err e) next h = absurd cc

pub record CountsFit (w : ℕ → ℕ) : Type 0 where
  pub some_block : 1 ≤ w 2
  pub few_blocks : w 2 ≤ 512
  pub few_literals : w 3 ≤ 65536
  pub few_arrays : w 4 ≤ 64
  pub main_there : w 5 < w 2

pub counts_from : (w : ℕ → ℕ) → counts_fit w ≡ true → CountsFit w
counts_from w h =
    let p1 = and_parts _ _ h in
    let p2 = and_parts _ _ p1.0 in
    let p3 = and_parts _ _ p2.0 in
    let p4 = and_parts _ _ p3.0 in
    record {
      some_block = leb-true _ _ p4.0;
      few_blocks = leb-true _ _ p4.1;
      few_literals = leb-true _ _ p3.1;
      few_arrays = leb-true _ _ p2.1;
      main_there = ltb-true _ _ p1.1;
    }

pub record EntryFits (x : ℕ) : Type 0 where
  pub some_input : 1 ≤ inputs_in x
  pub few_inputs : inputs_in x ≤ 16
  pub some_output : 1 ≤ outputs_in x
  pub few_outputs : outputs_in x ≤ 16
  pub enough : inputs_in x + 1 ≤ count_in x
  pub few : count_in x ≤ 32768
  pub few_slots : slots_in x ≤ 512

pub entry_from : (x : ℕ) → entry_fits x ≡ true → EntryFits x
entry_from x h =
    let p1 = and_parts _ _ h in
    let p2 = and_parts _ _ p1.0 in
    let p3 = and_parts _ _ p2.0 in
    let p4 = and_parts _ _ p3.0 in
    let p5 = and_parts _ _ p4.0 in
    let p6 = and_parts _ _ p5.0 in
    record {
      some_input = leb-true _ _ p6.0;
      few_inputs = leb-true _ _ p6.1;
      some_output = leb-true _ _ p5.1;
      few_outputs = leb-true _ _ p4.1;
      enough = leb-true _ _ p3.1;
      few = leb-true _ _ p2.1;
      few_slots = leb-true _ _ p1.1;
    }

abbrev in_order : Bool → Bool → Checked
in_order a b = if a then Err Truncated else if b then Err Trailing else Ok tt

pub length_from : (n : ℕ) (w : ℕ → ℕ) → length_checked n w ≡ Ok tt → n ≡ 8 * word_count w
length_from n w h = go (nat_lt n (8 * word_count w)) (nat_lt (8 * word_count w) n) refl refl h
  where
    go : (a b : Bool) → nat_lt n (8 * word_count w) ≡ a → nat_lt (8 * word_count w) n ≡ b → in_order a b ≡ Ok tt → n ≡ 8 * word_count w
    go true b p q k = absurd cc
    go false true p q k = absurd cc
    go false false p q k = omega (arith, ltb-false _ _ p, ltb-false _ _ q)

pub checked_all : (bytes : List ℕ) → opening_checked (length bytes) (word_at bytes) ≡ Ok tt → content_checked (word_at bytes) ≡ Ok tt → checked bytes ≡ Ok tt
unfolding checked
checked_all bytes p q = ap (λ (c : Checked). first_then c (content_checked (word_at bytes))) p ∙ q

pub refused_early : (bytes : List ℕ) (e : ObjectFault) → opening_checked (length bytes) (word_at bytes) ≡ Err e → first_refusal bytes ≡ Some e
unfolding checked
refused_early bytes e p = ap (λ (c : Checked). refusal (first_then c (content_checked (word_at bytes)))) p

pub refused_late : (bytes : List ℕ) (e : ObjectFault) → opening_checked (length bytes) (word_at bytes) ≡ Ok tt → content_checked (word_at bytes)
    ≡ Err e → first_refusal bytes ≡ Some e
unfolding checked
refused_late bytes e p q = ap (λ (c : Checked). refusal (first_then c (content_checked (word_at bytes)))) p ∙ ap refusal q

pub none_refused : (bytes : List ℕ) → checked bytes ≡ Ok tt → first_refusal bytes ≡ None
none_refused bytes p = ap refusal p
