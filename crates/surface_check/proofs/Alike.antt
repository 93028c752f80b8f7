-- What names say does not matter where they are compared by their numbers.
use Rattle.std.specs.Prelude.{◌≡◌, refl, ℕ, ◌+◌, ◌-◌, ◌&&◌, ◌||◌, ◌==◌, not, nat_le, Bool, List, [], ◌∷◌, ◌++◌, length, drop, is_some, Option, Some, None, Result}
use Rattle.std.specs.Prelude.{if◌then◌else◌}
use Rattle.std.proofs.Common.{◌∙◌, ap}
use Rattle.source.specs.declared.fault.FaultKind.TheVariants.{SameName, NoSuchName, Arity, TooWide}
use Rattle.source.specs.Tree.{Name}
use Rattle.source_check.specs.Steps.{since, back, onto}
use Rattle.surface.specs.declared.fault.Fault.{Fault}
use Rattle.surface.specs.declared.word.Word.{Word}
use Rattle.surface.specs.First.{◌>>=◌, must_be}
use Rattle.surface.specs.Known.{Callee, IsBuiltIn, Len}
use Rattle.surface.specs.Rules.{rank_in, one_if}
use Rattle.surface_check.specs.declared.frame.Frame.{Frame}
use Rattle.surface_check.specs.declared.frame.Frame.TheVariants as frame
use Rattle.surface_check.specs.declared.frame.Kind.{Kind}
use Rattle.surface_check.specs.declared.frame.Kind.TheVariants as kind
use Rattle.surface_check.specs.declared.frame.Turn.{Turn}
use Rattle.surface_check.specs.Pins.{array_in}
use Rattle.surface_check.specs.Renamed.{numbers_in}
use Rattle.surface_check.specs.Steps.{Items, Open, State, NamePart, name_part, stands, lookup_by, top, passes, part_next, plain, pushed, ended, single}
use Rattle.surface_check.specs.Steps.{rank_at, no_value, noted, all_noted, using, named, argument, name_read, is_constant_entry, measures, measured_from, calls_built_in}
use Rattle.surface_check.specs.Steps.{is_new, bound, array_bound, left_turn, closed, end_loop, is_carried, bound_in, as_many, values_of, end_for}

pub lookup_alike : (names : List Name) (entries : List (ℕ × ℕ)) (x : ℕ) → lookup_by (numbers_in names) entries x ≡ lookup_by (numbers_in []) entries x
lookup_alike names [] x = refl
lookup_alike names (e ∷ entries) x = ap (λ (o : Option ℕ). if x == e.0 then Some e.1 else o) (lookup_alike names entries x)

pub rank_alike : (names : List Name) (k : Items ℕ) (s : Open ℕ) (x : ℕ) → rank_at (numbers_in names) k s x ≡ rank_at (numbers_in []) k s x
rank_alike names k s x = ap (λ (o : Option ℕ). rank_in o (array_in (k.item x))) (lookup_alike names s.arrays x)

hidden_alike : (names : List Name) (k : Items ℕ) (s : Open ℕ) → no_value (numbers_in names) k s ≡ no_value (numbers_in []) k s
hidden_alike names k s = λ i x. is_some (k.item x) || is_some (lookup_alike names s.arrays x i)

noted_alike : (names : List Name) (hidden : ℕ → Bool) (inner : List ℕ) (start : ℕ) (used xs : List ℕ)
    → all_noted (numbers_in names) hidden inner start used xs ≡ all_noted (numbers_in []) hidden inner start used xs
noted_alike names hidden inner start used [] = refl
noted_alike names hidden inner start used (x ∷ xs) = noted_alike names hidden inner start (noted (numbers_in []) hidden inner start used x) xs

used_alike : (names : List Name) (k : Items ℕ) (s : Open ℕ) (xs : List ℕ)
    → all_noted (numbers_in names) (no_value (numbers_in names) k s) (since s.turn.base s.scope) s.turn.start s.used xs
    ≡ all_noted (numbers_in []) (no_value (numbers_in []) k s) (since s.turn.base s.scope) s.turn.start s.used xs
used_alike names k s xs = ap (λ (h : ℕ → Bool). all_noted (numbers_in names) h (since s.turn.base s.scope) s.turn.start s.used xs) (hidden_alike names k s)
    ∙ noted_alike names (no_value (numbers_in []) k s) (since s.turn.base s.scope) s.turn.start s.used xs

using_alike : (names : List Name) (k : Items ℕ) (s : Open ℕ) (xs : List ℕ) → using (numbers_in names) k s xs ≡ using (numbers_in []) k s xs
using_alike names k s xs = ap (λ (used : List ℕ). record s { used = used }) (used_alike names k s xs)

pub named_alike : (names : List Name) (k : Items ℕ) (s : Open ℕ) (at x : ℕ) (constant : Bool)
    → named (numbers_in names) k s at x constant ≡ named (numbers_in []) k s at x constant
named_alike names k s at x constant = ap (λ (u : Open ℕ). must_be (constant || stands (numbers_in []) x s.scope) NoSuchName at >>= λ known. plain (ended u 1 at
    (if constant then kind.Constant else kind.Variable x))) (using_alike names k s (x ∷ []))

argument_alike : (names : List Name) (k : Items ℕ) (s : Open ℕ) (at x : ℕ) (o : Option ℕ)
    → argument (numbers_in names) k s at x o ≡ argument (numbers_in []) k s at x o
argument_alike names k s at x (Some rank) = refl
argument_alike names k s at x None = named_alike names k s at x (is_constant_entry (k.item x))

pub name_read_alike : (names : List Name) (k : Items ℕ) (s : Open ℕ) (at x : ℕ) (later : List (Word ℕ))
    → name_read (numbers_in names) k s at x later ≡ name_read (numbers_in []) k s at x later
name_read_alike names k s at x later = λ i. if part_next later && passes (top s.frames) then whole i else named_alike names k s at x (is_constant_entry (k.item x)) i
  where
    whole : argument (numbers_in names) k s at x (rank_at (numbers_in names) k s x) ≡ argument (numbers_in []) k s at x (rank_at (numbers_in []) k s x)
    whole = ap (argument (numbers_in names) k s at x) (rank_alike names k s x) ∙ argument_alike names k s at x (rank_at (numbers_in []) k s x)

new_alike : (names : List Name) (k : Items ℕ) (s : Open ℕ) (before : List ℕ) (x : ℕ) → is_new (numbers_in names) k s before x ≡ is_new (numbers_in []) k s before x
new_alike names k s before x = ap (λ (o : Option ℕ). not (is_some (k.item x)) && not (is_some o) && not (stands (numbers_in []) x before))
    (lookup_alike names s.arrays x)

pub bound_alike : (names : List Name) (k : Items ℕ) (s : Open ℕ) (at x : ℕ) (o : Option Frame)
    → bound (numbers_in names) k s at x o ≡ bound (numbers_in []) k s at x o
bound_alike names k s at x (Some (frame.Names start targets)) = ap (λ (b : Bool). must_be b SameName at >>= λ new. plain
    (pushed (record s { pending = x ∷ s.pending }) (frame.Names start (targets + 1)))) (new_alike names k s (since start s.pending) x)
bound_alike names k s at x o = refl

pub array_bound_alike : (names : List Name) (k : Items ℕ) (s : Open ℕ) (at x rank : ℕ) (o : Option Frame)
    → array_bound (numbers_in names) k s at x rank o ≡ array_bound (numbers_in []) k s at x rank o
array_bound_alike names k s at x rank (Some (frame.Names start targets)) = ap (λ (b : Bool). must_be b SameName at >>= λ new. plain
    (pushed (record s { arrays = s.arrays ++ (x, rank) ∷ [] }) (frame.Names start targets))) (new_alike names k s (since start s.pending) x)
array_bound_alike names k s at x rank o = refl

measured_alike : (names : List Name) (k : Items ℕ) (s : Open ℕ) (at : ℕ) (o : Option (NamePart ℕ))
    → measured_from (numbers_in names) k s at o ≡ measured_from (numbers_in []) k s at o
measured_alike names k s at (Some p) = ap (measures s at p.at) (rank_alike names k s p.name)
measured_alike names k s at None = refl

pub calls_alike : (names : List Name) (k : Items ℕ) (s : Open ℕ) (at : ℕ) (c : Callee) (later : List (Word ℕ))
    → calls_built_in (numbers_in names) k s at c later ≡ calls_built_in (numbers_in []) k s at c later
calls_alike names k s at (IsBuiltIn Len) later = measured_alike names k s at (name_part (drop 1 later))
calls_alike names k s at c later = refl

left_alike : (names : List Name) (k : Items ℕ) (s : Open ℕ) (outer : Turn) → left_turn (numbers_in names) k s outer ≡ left_turn (numbers_in []) k s outer
left_alike names k s outer = using_alike names k (record s { scope = back s.turn.base s.scope; used = back s.turn.start s.used; turn = outer })
    (onto (since s.turn.start s.used) [])

closed_alike : (names : List Name) (k : Items ℕ) (s : Open ℕ) (at : ℕ) (outer : Turn) (n given : ℕ)
    → closed (numbers_in names) k s at outer n given ≡ closed (numbers_in []) k s at outer n given
closed_alike names k s at outer n given = ap (λ (u : Open ℕ). must_be (given == n) Arity at >>= λ all. must_be
    (nat_le (n + length (since s.turn.start s.used)) 15) TooWide at >>= λ narrow. plain (ended u given at kind.Other)) (left_alike names k s outer)

pub end_loop_alike : (names : List Name) (k : Items ℕ) (s : Open ℕ) (at : ℕ) (o : Option Frame)
    → end_loop (numbers_in names) k s at o ≡ end_loop (numbers_in []) k s at o
end_loop_alike names k s at (Some (frame.Open outer n mark)) = closed_alike names k s at outer n s.last.count
end_loop_alike names k s at (Some (frame.Tested outer n given)) = ap (λ (r : Result (State ℕ) Fault). single s.last >>= λ one. r)
    (closed_alike names k s at outer n given)
end_loop_alike names k s at o = refl

carried_alike : (names : List Name) (inner outside : List ℕ) (ends : List (Kind ℕ))
    → is_carried (numbers_in names) inner outside ends ≡ is_carried (numbers_in []) inner outside ends
carried_alike names inner outside (kind.Variable x ∷ ends) = refl
carried_alike names inner outside (kind.Written ∷ ends) = refl
carried_alike names inner outside (kind.Constant ∷ ends) = refl
carried_alike names inner outside (kind.Other ∷ ends) = refl
carried_alike names inner outside [] = refl

pub end_for_alike : (names : List Name) (k : Items ℕ) (s : Open ℕ) (at : ℕ) (o : Option Frame)
    → end_for (numbers_in names) k s at o ≡ end_for (numbers_in []) k s at o
end_for_alike names k s at (Some (frame.Open outer n mark)) = λ i. must_be (as_many s.last.count (n - 1)) Arity at >>= λ all. must_be
    (nat_le (n + length (since s.turn.start s.used) + one_if (carried_alike names (bound_in s mark) (since s.turn.start s.used) s.ends i)) 15) TooWide at
    >>= λ narrow. plain (ended (left_alike names k (record s { ends = drop 1 s.ends }) outer i) (values_of (n - 1)) at kind.Other)
end_for_alike names k s at o = refl
