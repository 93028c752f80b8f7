-- Words, frames and states with other names in place of each.
use Rattle.std.specs.Prelude.{◌≡◌, ℕ, Bool, List, map, Option, None, Some}
use Rattle.source.specs.declared.word.Word.{Word as CoreWord}
use Rattle.surface.specs.declared.word.Word.{Word}
use Rattle.surface.specs.declared.word.Word.TheVariants as word
use Rattle.desugar.specs.declared.frame.Atom.{Atom}
use Rattle.desugar.specs.declared.frame.Atom.TheVariants as atom
use Rattle.desugar.specs.declared.frame.Finish.{Finish}
use Rattle.desugar.specs.declared.frame.Finish.TheVariants as finish
use Rattle.desugar.specs.declared.frame.Counting.{Counting}
use Rattle.desugar.specs.declared.frame.Frame.{Frame}
use Rattle.desugar.specs.declared.frame.Frame.TheVariants as frame
use Rattle.desugar.specs.declared.frame.Given.{Given}
use Rattle.desugar.specs.Renamed.{core_renamed}
use Rattle.desugar.specs.Steps.{Names, State}

abbrev pub renamed : {N M : Type 0} → (N → M) → Word N → Word M
renamed f (word.Core w) = word.Core (core_renamed f w)
renamed f word.EndArray = word.EndArray
renamed f (word.Constant at x) = word.Constant at (f x)
renamed f word.EndConstant = word.EndConstant
renamed f (word.ArrayParameter at x rank) = word.ArrayParameter at (f x) rank
renamed f (word.ConstantResults at x) = word.ConstantResults at (f x)
renamed f word.AndThen = word.AndThen
renamed f (word.EndAnd at) = word.EndAnd at
renamed f word.OrElse = word.OrElse
renamed f (word.EndOr at) = word.EndOr at
renamed f (word.Not at) = word.Not at
renamed f word.NextIndex = word.NextIndex
renamed f (word.ConstantBound at x) = word.ConstantBound at (f x)
renamed f (word.EndConstantLoop at x) = word.EndConstantLoop at (f x)
renamed f (word.For at) = word.For at
renamed f (word.Counter at x) = word.Counter at (f x)
renamed f word.Range = word.Range
renamed f word.EndRange = word.EndRange
renamed f word.Turns = word.Turns
renamed f (word.EndFor at) = word.EndFor at
renamed f (word.EndWhen at) = word.EndWhen at
renamed f word.When = word.When

-- with its flag
abbrev pub flag_renamed : {N M : Type 0} → (N → M) → Word N × Bool → Word M × Bool
flag_renamed f w = (renamed f w.0, w.1)

abbrev pub atom_renamed : {N M : Type 0} → (N → M) → Atom N → Atom M
atom_renamed f (atom.Number at n k) = atom.Number at n k
atom_renamed f (atom.Negative sign_at at n k) = atom.Negative sign_at at n k
atom_renamed f (atom.Name at x) = atom.Name at (f x)

abbrev pub maybe_renamed : {N M : Type 0} → (N → M) → Option (Atom N) → Option (Atom M)
maybe_renamed f None = None
maybe_renamed f (Some a) = Some (atom_renamed f a)

abbrev pub finish_renamed : {N M : Type 0} → (N → M) → Finish N → Finish M
finish_renamed f finish.Plain = finish.Plain
finish_renamed f (finish.Giving a) = finish.Giving (atom_renamed f a)
finish_renamed f (finish.First a) = finish.First (atom_renamed f a)

abbrev pub counting_renamed : {N M : Type 0} → (N → M) → Counting N → Counting M
counting_renamed f c = record { start = c.start; at = c.at; bound_at = c.bound_at; bound = c.bound; counter_at = c.counter_at; counter = f c.counter }

abbrev pub given_renamed : {N M : Type 0} → (N → M) → Given N → Given M
given_renamed f x = record { at = x.at; name = f x.name }

abbrev pub frame_renamed : {N M : Type 0} → (N → M) → Frame N → Frame M
frame_renamed f (frame.Value start at level a literal) = frame.Value start at level (maybe_renamed f a) literal
frame_renamed f (frame.And start words lets left) = frame.And start words lets (maybe_renamed f left)
frame_renamed f (frame.Or start words lets left) = frame.Or start words lets (atom_renamed f left)
frame_renamed f (frame.List start) = frame.List start
frame_renamed f (frame.Body words lets end) = frame.Body words lets (finish_renamed f end)
frame_renamed f (frame.If start) = frame.If start
frame_renamed f (frame.When start test) = frame.When start (atom_renamed f test)
frame_renamed f (frame.Chain start words lets) = frame.Chain start words lets
frame_renamed f (frame.Loop start) = frame.Loop start
frame_renamed f (frame.Test words lets) = frame.Test words lets
frame_renamed f (frame.For start at bound_at n) = frame.For start at bound_at n
frame_renamed f (frame.From c) = frame.From (counting_renamed f c)
frame_renamed f (frame.To c a) = frame.To (counting_renamed f c) (atom_renamed f a)
frame_renamed f (frame.Over c a b names firsts) = frame.Over (counting_renamed f c) (atom_renamed f a) (atom_renamed f b) names firsts
frame_renamed f (frame.Cells words lets x last) = frame.Cells words lets (f x) last
frame_renamed f (frame.Constant words lets) = frame.Constant words lets

abbrev pub words_in : {N M : Type 0} → (N → M) → List (CoreWord N) → List (CoreWord M)
words_in f ws = map (core_renamed f) ws

abbrev pub stack_in : {N M : Type 0} → (N → M) → List (Frame N) → List (Frame M)
stack_in f st = map (frame_renamed f) st

abbrev pub moved : {N M : Type 0} → (N → M) → State N → State M
moved f s = record {
  words = words_in f s.words;
  lets = words_in f s.lets;
  given = s.given;
  names = map (given_renamed f) s.names;
  firsts = map (atom_renamed f) s.firsts;
  stack = stack_in f s.stack;
}

-- The names of one are those of the other.
pub record Alike {N M : Type 0} (f : N → M) (t : Names N) (r : Names M) : Type 0 where
  pub same : (x y : N) → r.same (f x) (f y) ≡ t.same x y
  pub constant : (x : N) → r.constant (f x) ≡ t.constant x
  pub array : (x : N) → r.array (f x) ≡ f (t.array x)
  pub cells : (x : N) → r.cells (f x) ≡ t.cells x
  pub hidden : (n : ℕ) → r.hidden n ≡ f (t.hidden n)
