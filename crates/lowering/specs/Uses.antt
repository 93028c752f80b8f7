-- THE USES OF A PART as code keeps them: a use of a name, or a binding of one, which hides the uses of it after.
use Rattle.std.specs.Prelude.{not, Bool, List, [], ◌∷◌, ◌++◌, if◌then◌else◌}
use Rattle.std.specs.BTreeSet.{BTreeSet, contains_by}
use Rattle.std.specs.Cmp.Lexicographic.{slice_cmp}
use Rattle.std.specs.Ordering.{nat_cmp}
use Rattle.source.specs.Tree.{Name}
use Rattle.source.specs.Outside.{without}
use denote.Ref.{Bor}

-- the names that are used and not hidden
abbrev pub shown : List (Name × Bool) → List Name
shown [] = []
shown (mark ∷ marks) = if mark.1 then without (mark.0 ∷ []) (shown marks) else mark.0 ∷ shown marks

-- a set of names has this one
abbrev pub has : BTreeSet (Bor Name) → Name → Bool
has s x = contains_by (λ k. slice_cmp nat_cmp x k.now) s

abbrev pub lacks : BTreeSet (Bor Name) → Name → Bool
lacks s x = not (has s x)

-- with the name of a mark, if it is used there and was not known
abbrev pub with_new : (Name → Bool) → Name × Bool → List Name → List Name
with_new known mark ks = if mark.1 then ks else if known mark.0 then ks else ks ++ mark.0 ∷ []
