-- Only requests of cells carry operands.
use Rattle.std.proofs.Common.{◌≡◌, ℕ, ◌+◌, Bool, true, false, List, [], ◌∷◌, ◌++◌, refl, sym, subst, inl, inr, ◌⊎◌, ℤ, if◌then◌else◌, not}
use Rattle.std.specs.Prelude.{Contains}
use Rattle.std.proofs.lemmas.List.Sorted.{IsPermutation-append, IsPermutation-append_left, IsPermutation-trans}
use Rattle.lemmas.proofs.Permutations.{Each, each_append, each_append_back, each_permutation, each_within, within_from}
use Rattle.tags.specs.declared.value.Value.{Value}
use Rattle.operators.specs.Values.{truth}
use Rattle.semantics.specs.Graph.{Flow}
use Rattle.semantics.specs.Meaning.{Context, Main, Called, Turned}
use Rattle.law_confluence.proofs.Orders.{shuffled, Part as Piece, ◌⊕◌}
use Rattle.law_confluence.proofs.Net.{Waits, Fires}
use Rattle.law_net.specs.ContextsParts.{Part, Line, Trigger, Gate, Framer, Linker, Sender, Giver, Taker, Drainer, Drained, Result, TurnCont, TurnFlag}
use Rattle.law_net.specs.ContextsParts.{TurnValue, Asker, NextFramer, NextSender, LastReturn, DrainReturn, End, Asked, NextAsked, InCell, Shown, Done, Freed}
use Rattle.law_net.specs.ContextsParts.{Inlet, Note, Datum, Item, Firing, each}
use Rattle.law_net.specs.ContextsBlocks.{is_cell}
use Rattle.law_net.specs.Contexts.{Wires, block_in, is_strict_in}
use Rattle.law_net.specs.ContextsFirings.{Config, Move, begin, begins, input_items, makes, makes_by, along, switched, arguments_from, result_back, drain_back}
use Rattle.law_net.specs.ContextsFirings.{end_back, credit_asked, ProperMoves, Still, Then}
use Rattle.law_net.specs.ContextsMirror.{is_in_cell}

abbrev pub IsBare : Item → Type 0
IsBare i = (is_in_cell i.inlet.part ≡ true) ⊎ (i.held ≡ [])

each_bare : (c : Context) (k : Note) (xs : List Inlet) → Each IsBare (each c k xs)
each_bare c k [] = tt
each_bare c k (x ∷ xs) = (inr refl, each_bare c k xs)

module _ (fl : Flow) (w : Wires) (f : Firing) where
  along_bare : (r : Part) (second : Bool) → Each IsBare (along fl w f r second)
  along_bare r second = each_bare f.context _ _

  switched_bare : (r : Part) (k : Note) → Each IsBare (switched fl w f r k)
  switched_bare r (Datum v) = along_bare r (not (truth v))
  switched_bare r k = tt

  arguments_bare : (c : Context) (n t i : ℕ) (vs : List Value) → Each IsBare (arguments_from c n t i vs)
  arguments_bare c n t i [] = tt
  arguments_bare c n t i (v ∷ vs) = (inr refl, arguments_bare c n t (i + 1) vs)

  strict_bare : (t : Bool) (c : Context) (n : ℕ) (vs : List Value) → Each IsBare (if t then arguments_from c n 1 0 vs else [])
  strict_bare true c n vs = arguments_bare c n 1 0 vs
  strict_bare false c n vs = tt

  line_bare : (t : Bool) (i : Item) (is : List Item) → is_in_cell i.inlet.part ≡ true → Each IsBare is → Each IsBare (if t then i ∷ [] else is)
  line_bare true i is e a = (inl e, tt)
  line_bare false i is e a = a

  result_bare : (c : Context) (j : ℕ) (k : Note) → Each IsBare (result_back c j k)
  result_bare Main j k = (inr refl, tt)
  result_bare (Called c n) j k = (inr refl, tt)
  result_bare (Turned c n i) j k = (inr refl, tt)

  drain_bare : (c : Context) (k : Note) → Each IsBare (drain_back c k)
  drain_bare (Turned c n i) k = (inr refl, tt)
  drain_bare c k = tt

  end_bare : (c : Context) → Each IsBare (end_back c)
  end_bare Main = (inr refl, tt)
  end_bare (Called c n) = (inr refl, tt)
  end_bare (Turned c n i) = (inr refl, tt)

  asked_bare : (c : Context) → Each IsBare (credit_asked c)
  asked_bare (Turned c n i) = (inr refl, tt)
  asked_bare c = tt

  makes_bare : (r : Part) → Each IsBare (makes_by fl w f r)
  makes_bare (Line n) = line_bare (is_cell (block_in fl f.context) n) _ _ refl (along_bare (Line n) false)
  makes_bare (InCell n) = along_bare (Line n) false
  makes_bare (Trigger k) = switched_bare (Trigger k) f.right
  makes_bare (Gate n) = switched_bare (Gate n) f.right
  makes_bare TurnCont = switched_bare TurnCont f.right
  makes_bare TurnFlag = switched_bare TurnFlag f.right
  makes_bare (TurnValue j) = switched_bare (TurnValue j) f.right
  makes_bare (Framer n) = (inr refl, strict_bare (is_strict_in fl f.context n) f.context n f.operands)
  makes_bare (Asked n) = (inr refl, tt)
  makes_bare (Linker n) = (inr refl, tt)
  makes_bare (Sender n i) = (inr refl, along_bare (Sender n i) false)
  makes_bare (Result j) =
      each_append IsBare (result_back f.context j f.right) (along fl w f (Result j) false) (result_bare f.context j f.right) (along_bare (Result j) false)
  makes_bare (LastReturn j) =
      each_append IsBare (result_back f.context j f.right) (along fl w f (LastReturn j) false) (result_bare f.context j f.right)
      (along_bare (LastReturn j) false)
  makes_bare DrainReturn =
      each_append IsBare (drain_back f.context f.right) (along fl w f DrainReturn false) (drain_bare f.context f.right) (along_bare DrainReturn false)
  makes_bare End = (inr refl, end_bare f.context)
  makes_bare Asker = asked_bare f.context
  makes_bare (Taker n) = (inr refl, tt)
  makes_bare NextFramer = (inr refl, tt)
  makes_bare NextAsked = (inr refl, tt)
  makes_bare (NextSender j) = (inr refl, along_bare (NextSender j) false)
  makes_bare (Drained n) = (inr refl, tt)
  makes_bare (Giver n) = tt
  makes_bare (Drainer n) = tt
  makes_bare (Shown j) = tt
  makes_bare Done = tt
  makes_bare Freed = tt
  makes_bare r = along_bare r false

module _ (fl : Flow) (w : Wires) where
  abbrev AllBare : Config → Type 0
  AllBare c = Each IsBare (c.pending ++ c.waiting)

  move_bare : (c d : Config) → Move fl w c d → AllBare c → AllBare d
  move_bare c d (Waits i rest p e) a = subst AllBare (sym e) (each_permutation IsBare _ _ (IsPermutation-trans _ _ _ (IsPermutation-append_left c.waiting _ _ p)
      (shuffled ((i ∷ []) ∷ rest ∷ c.waiting ∷ []) ((Piece 0 ⊕ Piece 1) ⊕ Piece 2) (Piece 1 ⊕ (Piece 0 ⊕ Piece 2)) refl)) a)
  move_bare c d (Fires f now kept rest others p q both e) a =
      let all = each_permutation IsBare _ _
      (IsPermutation-trans _ _ _ (IsPermutation-append _ _ _ _ p q)
      (shuffled (now ∷ rest ∷ kept ∷ others ∷ []) ((Piece 0 ⊕ Piece 1) ⊕ (Piece 2 ⊕ Piece 3)) ((Piece 0 ⊕ Piece 2) ⊕ (Piece 1 ⊕ Piece 3)) refl)) a in
      let left = (each_append_back IsBare (now ++ kept) (rest ++ others) all).1 in let both = each_append_back IsBare rest others left in
      subst AllBare (sym e) (each_append IsBare (makes fl w f ++ rest) others (each_append IsBare (makes fl w f) rest (makes_bare fl w f f.part) both.0) both.1)

  moves_bare : (c d : Config) → ProperMoves fl w c d → AllBare c → AllBare d
  moves_bare c d (Still e) a = a
  moves_bare c d (Then x mid y m k more) a = moves_bare mid y more (move_bare x mid m a)

  inputs_bare : (n : ℕ) (zs : List ℤ) → Each IsBare (input_items n zs)
  inputs_bare n [] = tt
  inputs_bare n (z ∷ zs) = (inr refl, inputs_bare (n + 1) zs)

  -- all that arrives is bare
  pub all_bare : (inputs : List ℤ) (net : Config) → ProperMoves fl w (begin inputs) net → (j : Item) → Contains (net.pending ++ net.waiting) j → IsBare j
  all_bare inputs net m j c =
      each_within IsBare j (net.pending ++ net.waiting) (within_from j (net.pending ++ net.waiting) c)
      (moves_bare (begin inputs) net m (each_append IsBare (begins inputs) [] (inr refl, inputs_bare 0 inputs) tt))
