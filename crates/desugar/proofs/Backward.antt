-- The pass from the end, word by word.
use Rattle.std.specs.Prelude.{reverse, slice_get}
use Rattle.std.proofs.Common.{◌≡◌, refl, sym, ap, ◌∙◌, subst, ℕ, zero, suc, ◌+◌, ◌-◌, ◌<◌, Bool, List, [], ◌∷◌, ◌++◌, length, get_or, drop, arith, Option, Some, None}
use Rattle.std.proofs.lemmas.List.{reverse-append, drop_all}
use Rattle.std.proofs.lemmas.Option.{get_or_from_slice_get}
use Rattle.lemmas.proofs.Lists.{drop_opens}
use Rattle.surface.specs.declared.word.Word.{Word}
use Rattle.desugar.specs.Flags.{Look, at_end, flagged, flag, before}
use Rattle.desugar.specs.Open.{by_number, before_at, flags_of}
use Rattle.desugar.specs.Passed.{AreFlags, paired}

-- no words are left
pub none_flagged : (ws : List (Word ℕ)) (n : ℕ) (flags : List Bool) (look : Look ℕ) → n ≡ length ws → flags ≡ [] → look ≡ at_end → AreFlags ws n flags look
none_flagged ws n flags look all empty e =
    let none : drop n ws ≡ [] = drop_all n ws (omega arith) in
    let last : Option (Word ℕ) = before_at ws n in
    record {
      in_range = omega arith;
      flags_are = ap (λ (fs : List Bool). reverse fs) empty ∙ ap (λ (xs : List (Word ℕ)). flags_of last xs) (sym none);
      look_is = e ∙ ap (λ (xs : List (Word ℕ)). (flagged by_number last xs).look) (sym none);
    }

-- one word more
next_after : (ws : List (Word ℕ)) (j : ℕ) (w : Word ℕ) (flags : List Bool) (look : Look ℕ) → slice_get ws j ≡ Some w → j < length ws → AreFlags ws (suc j) flags look
    → AreFlags ws j (flags ++ flag by_number (before_at ws j) w look ∷ []) (before w look)
next_after ws j w flags look here inside h =
    let next : j + 1 ≡ suc j = omega arith in
    let last : Option (Word ℕ) = before_at ws j in
    let rest : List (Word ℕ) = drop (suc j) ws in
    let read : w ≡ get_or ws j w = sym (get_or_from_slice_get ws j w w here) in
    let opened : drop j ws ≡ w ∷ rest = drop_opens ws j w inside read ∙ ap (λ (n : ℕ). w ∷ drop n ws) next in
    let flags_after : reverse flags ≡ flags_of (Some w) rest = subst (λ (o : Option (Word ℕ)). reverse flags ≡ flags_of o rest) here h.flags_are in
    let look_after : look ≡ (flagged by_number (Some w) rest).look = subst (λ (o : Option (Word ℕ)). look ≡ (flagged by_number o rest).look) here h.look_is in
    record {
      in_range = omega (arith, inside);
      flags_are = reverse-append flags (flag by_number last w look ∷ [])
          ∙ ap (λ (fs : List Bool). flag by_number last w look ∷ fs) flags_after
          ∙ ap (λ (k : Look ℕ). flag by_number last w k ∷ flags_of (Some w) rest) look_after
          ∙ ap (λ (xs : List (Word ℕ)). flags_of last xs) (sym opened);
      look_is = ap (λ (k : Look ℕ). before w k) look_after ∙ ap (λ (xs : List (Word ℕ)). (flagged by_number last xs).look) (sym opened);
    }

pub next_flagged : (ws : List (Word ℕ)) (i j : ℕ) (w : Word ℕ) (last : Option (Word ℕ)) (f : Bool) (flags new : List Bool) (look look_before : Look ℕ)
    → i ≡ suc j → j < length ws → slice_get ws j ≡ Some w → last ≡ before_at ws j → f ≡ flag by_number last w look → new ≡ flags ++ f ∷ []
    → look_before ≡ before w look → AreFlags ws i flags look → AreFlags ws j new look_before
next_flagged ws i j w last f flags new look look_before e inside here last_is flag_is pushed passed h =
    let same : flag by_number (before_at ws j) w look ≡ f = sym (flag_is ∙ ap (λ (o : Option (Word ℕ)). flag by_number o w look) last_is) in
    let whole : flags ++ flag by_number (before_at ws j) w look ∷ [] ≡ new = ap (λ (b : Bool). flags ++ b ∷ []) same ∙ sym pushed in
    let after = next_after ws j w flags look here inside (subst (λ (n : ℕ). AreFlags ws n flags look) e h) in
    let with_flags = subst (λ (fs : List Bool). AreFlags ws j fs (before w look)) whole after in
    subst (λ (k : Look ℕ). AreFlags ws j new k) (sym passed) with_flags

pub all_flagged : (ws : List (Word ℕ)) (i : ℕ) (flags : List Bool) (look : Look ℕ) → i ≡ 0 → AreFlags ws i flags look → reverse flags ≡ flags_of None ws
all_flagged ws i flags look e h =
    let whole : AreFlags ws 0 flags look = subst (λ (n : ℕ). AreFlags ws n flags look) e h in
    whole.flags_are

-- as many flags as words, side by side
pub length_flags : (last : Option (Word ℕ)) (ws : List (Word ℕ)) → length (flags_of last ws) ≡ length ws
length_flags last [] = refl
length_flags last (w ∷ ws) = ap (λ (n : ℕ). suc n) (length_flags (Some w) ws)

pub flagged_paired : (last : Option (Word ℕ)) (ws : List (Word ℕ)) → paired ws (flags_of last ws) ≡ (flagged by_number last ws).words
flagged_paired last [] = refl
flagged_paired last (w ∷ ws) = ap (λ (ps : List (Word ℕ × Bool)). (w, flag by_number last w (flagged by_number (Some w) ws).look) ∷ ps) (flagged_paired (Some w) ws)

pub word_is_before : (ws : List (Word ℕ)) (i : ℕ) → 0 < i → before_at ws i ≡ slice_get ws (i - 1)
word_is_before ws zero h = absurd (omega (arith, h))
word_is_before ws (suc n) h =
    let same : suc n - 1 ≡ n = omega arith in
    ap (λ (m : ℕ). slice_get ws m) (sym same)
