-- HOW DEEP THE CORE IS, WORD BY WORD, from the end: the place of the first part with which more than 200 would be open at once.
use Rattle.std.specs.Prelude.{◌≡◌, ℕ, ◌+◌, ◌==◌, List, [], ◌∷◌, Option, None, Some, if◌then◌else◌}
use Rattle.operators.specs.declared.Unary.{Unary}
use Rattle.operators.specs.declared.Unary.TheVariants.{Neg, Not}
use Rattle.source.specs.declared.word.Word.{Word}
use Rattle.source.specs.declared.word.Word.TheVariants as word
use Rattle.source.specs.Tree.{Name, Program}
use Rattle.source.specs.Words.{program_words, AreWords}
use Rattle.surface.specs.Deep.{program_too_deep}
use Rattle.desugar.specs.Placing.{innermost, closed}

-- whether the place of the part that ends here is one, since it is too deep; where it is the operand of a `-`, only if it is no number
pub data Sought : Type 0 where
  Nothing : Sought
  Place : Sought
  PlaceUnlessNumber : Sought

pub record Depths : Type 0 where
  -- how many are open around the expression that ends here
  pub depth : ℕ
  -- and around the lists, the bodies and the left operands that are open, the innermost first
  pub outer : List ℕ
  pub sought : Sought
  -- the first one so far
  pub found : Option ℕ

abbrev pub at_end : Depths
at_end = record { depth = 0; outer = []; sought = Nothing; found = None }

-- the last word of an expression that is no number, at this place
abbrev pub found_at : Sought → ℕ → Option ℕ → Option ℕ
found_at Nothing at found = found
found_at Place at found = Some at
found_at PlaceUnlessNumber at found = Some at

abbrev pub found_at_number : Sought → ℕ → Option ℕ → Option ℕ
found_at_number Nothing at found = found
found_at_number Place at found = Some at
found_at_number PlaceUnlessNumber at found = found

abbrev pub ended : ℕ → Depths → Depths
ended at k = record k { sought = Nothing; found = found_at k.sought at k.found }

-- so many are open, and one more now: the one after 200 is too deep
abbrev pub sought_in : ℕ → Sought → Sought → Sought
sought_in d sought others = if d == 200 then sought else others

abbrev pub one_more : ℕ → Sought → Depths → Depths
one_more d sought k = record k { depth = d + 1; sought = sought_in d sought Nothing }

-- A bracket has the place of what is in it.
abbrev pub in_brackets : Sought → Sought
in_brackets Nothing = Nothing
in_brackets Place = Place
in_brackets PlaceUnlessNumber = Place

abbrev pub operand_of : Unary → Sought
operand_of Neg = PlaceUnlessNumber
operand_of Not = Place

abbrev pub opening : ℕ → Depths → Depths
opening d k = record k { outer = d ∷ k.outer }

abbrev pub closing : Depths → Depths
closing k = record k { outer = closed k.outer }

-- an `if` is one more
abbrev pub if_found : ℕ → ℕ → Option ℕ → Option ℕ
if_found at d found = if d == 200 then Some at else found

abbrev pub if_ended : ℕ → Depths → Depths
if_ended at k = record k { outer = (k.depth + 1) ∷ k.outer; found = if_found at k.depth k.found }

-- before a word
abbrev pub deeper_before : {N : Type 0} → Word N → Depths → Depths
deeper_before word.EndFunction k = opening 0 k
deeper_before (word.Body at) k = closing k
deeper_before (word.Number at n) k = record k { sought = Nothing; found = found_at_number k.sought at k.found }
deeper_before (word.Name at x) k = ended at k
deeper_before word.Bracket k = record k { depth = k.depth + 1; sought = sought_in k.depth Place (in_brackets k.sought) }
deeper_before (word.Prefix at op) k = one_more k.depth (operand_of op) (ended at k)
deeper_before (word.Infix at s) k = opening k.depth (ended at k)
deeper_before word.Left k = record k { depth = innermost k.outer; outer = closed k.outer }
deeper_before (word.Fetch at x) k = one_more k.depth Place (ended at k)
deeper_before (word.Store at x) k = one_more k.depth Place (opening k.depth (ended at k))
deeper_before word.Index k = closing (one_more (innermost k.outer) Place k)
deeper_before (word.Call at strict x) k = opening k.depth (ended at k)
deeper_before (word.Callee at x) k = closing k
deeper_before word.Part k = one_more (innermost k.outer) Place k
deeper_before (word.EndIf at) k = if_ended at (ended at k)
deeper_before word.Then k = closing (one_more (innermost k.outer) Place k)
-- the test of a loop, if it is after the body
deeper_before (word.EndLoop at n) k = one_more k.depth Place (opening k.depth (ended at k))
deeper_before word.While k = one_more (innermost k.outer) Place k
deeper_before word.First k = one_more (innermost k.outer) Place k
deeper_before (word.Loop at) k = closing k
deeper_before word.Give k = record k { sought = Nothing }
deeper_before word.Chain k = record k { depth = innermost k.outer; sought = Nothing }
deeper_before w k = k

abbrev pub deeper : {N : Type 0} → List (Word N) → Depths → Depths
deeper [] k = k
deeper (w ∷ ws) k = deeper_before w (deeper ws k)

abbrev pub words_too_deep : {N : Type 0} → List (Word N) → Option ℕ
words_too_deep ws = (deeper ws at_end).found

-- It is that of the tree.
abbrev pub DepthIsByWords : Type 0
DepthIsByWords = (p : Program) → words_too_deep (program_words p) ≡ program_too_deep p

-- also where words give names by their numbers
abbrev pub DepthIsByNumbers : Type 0
DepthIsByNumbers = (names : List Name) (ws : List (Word ℕ)) (p : Program) → AreWords names ws p → words_too_deep ws ≡ program_too_deep p
