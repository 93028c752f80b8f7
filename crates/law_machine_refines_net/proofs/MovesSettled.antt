-- The pool after an event, and all tokens that came.
use Rattle.std.proofs.Common.{◌≡◌, ℕ, Bool, true, false, not, List, [], ◌∷◌, ◌++◌, map, refl, sym, ap, ◌∙◌, true≢false, Option, Some, None, if◌then◌else◌}
use Rattle.std.specs.Prelude.{IsPermutation, Contains}
use Rattle.std.proofs.lemmas.List.{map-append}
use Rattle.std.proofs.lemmas.List.Sorted.{IsPermutation-trans, IsPermutation-sym, IsPermutation-map, IsPermutation-append, IsPermutation-append_left}
use Rattle.std.proofs.lemmas.List.Sorted.{IsPermutation-append_right}
use Rattle.lemmas.proofs.Contains.{contains_head, contains_tail}
use Rattle.tags.specs.declared.token.Word.{Word}
use Rattle.tags.specs.declared.token.Token.{Token}
use Rattle.tags.specs.declared.value.Value.{Value}
use Rattle.semantics.specs.Graph.{Flow}
use Rattle.semantics.specs.Plan.{Plan}
use Rattle.law_confluence.proofs.Orders.{shuffled, Part as Piece, ◌⊕◌, at_first, at_last, flat_map-IsPermutation}
use Rattle.law_net.specs.ContextsParts.{Part, InCell, Item, Firing}
use Rattle.law_net.specs.Contexts.{Wires, block_in}
use Rattle.law_net.specs.ContextsBlocks.{is_store}
use Rattle.law_net.specs.ContextsFirings.{Config, cell_of, second_of}
use Rattle.law_net.specs.ContextsMirror.{word_of, to_of, cell_to, token_of, only, is_in_cell, Mirrors, is_cell_token, but_cells, events_taken}
use Rattle.law_machine_refines_net.specs.MovesCases.{Taking, net_of, is_quiet}
use Rattle.law_machine_refines_net.proofs.MovesLists.{rest_same}

-- no request of a cell
pub no_cell_to : (fl : Flow) (p : Plan) (w : Wires) (fired : List Firing) (i : Item) (r : Part) (word : Word) → is_in_cell r ≡ false
    → is_cell_token (record { to = to_of fl p w fired i r; word = word }) ≡ false
no_cell_to fl p w fired i (InCell n) word e = absurd (true≢false e)
no_cell_to fl p w fired i r word e = refl

-- and one with a good index
pub cell_to_is : (o : Option ℕ) (x : ℕ) (t : Bool) (v : Value) (word : Word) → o ≡ Some x → is_cell_token (record { to = cell_to o t v; word = word }) ≡ true
cell_to_is None x t v word e = absurd (cc)
cell_to_is (Some y) x true v word e = refl
cell_to_is (Some y) x false v word e = refl

pub quiet_held : (r : Part) → is_quiet r ≡ true → is_in_cell r ≡ false
quiet_held (InCell n) e = absurd (true≢false (sym e))
quiet_held r e = refl

-- an item's token is a cell's exactly if it is a request
abbrev pub IsMeant : Flow → Plan → Wires → List Firing → Item → Type 0
IsMeant fl p w fired j = is_cell_token (token_of fl p w fired j) ≡ is_in_cell j.inlet.part

pub meant_other : (fl : Flow) (p : Plan) (w : Wires) (fired : List Firing) (j : Item) → is_in_cell j.inlet.part ≡ false → IsMeant fl p w fired j
meant_other fl p w fired j e = no_cell_to fl p w fired j j.inlet.part (word_of fl p w fired j.word) e ∙ sym e

pub meant_held : (fl : Flow) (p : Plan) (w : Wires) (fired : List Firing) (j : Item) (n x : ℕ) → j.inlet.part ≡ InCell n
    → cell_of fl j.context n j.held ≡ Some x
    → IsMeant fl p w fired j
meant_held fl p w fired j n x e good =
    let word = word_of fl p w fired j.word in
    ap (λ (r : Part). is_cell_token (record { to = to_of fl p w fired j r; word = word })) e
    ∙ cell_to_is (cell_of fl j.context n j.held) x (is_store (block_in fl j.context) n) (second_of j.held) word good ∙ sym (ap is_in_cell e)

-- the tokens of the others stay
pub cells_out : (fl : Flow) (p : Plan) (w : Wires) (fired : List Firing) (items : List Item) → ((j : Item) → Contains items j → IsMeant fl p w fired j)
    → but_cells (map (token_of fl p w fired) items) ≡ map (token_of fl p w fired) (only (λ (i : Item). not (is_in_cell i.inlet.part)) items)
cells_out fl p w fired [] h = refl
cells_out fl p w fired (j ∷ js) h =
    ap (λ (t : Bool). (if t then [] else token_of fl p w fired j ∷ []) ++ but_cells (map (token_of fl p w fired) js)) (h j (contains_head j js))
    ∙ ap (λ l. (if is_in_cell j.inlet.part then [] else token_of fl p w fired j ∷ []) ++ l) (cells_out fl p w fired js (λ x c. h x (contains_tail j js x c)))
    ∙ split (is_in_cell j.inlet.part)
  where
    split : (t : Bool) → (if t then [] else token_of fl p w fired j ∷ []) ++ map (token_of fl p w fired) (only (λ (i : Item). not (is_in_cell i.inlet.part)) js)
        ≡ map (token_of fl p w fired) ((if not t then j ∷ [] else []) ++ only (λ (i : Item). not (is_in_cell i.inlet.part)) js)
    split true = refl
    split false = refl

module _ (s : Taking) where
  abbrev net : Config
  net = net_of s

  abbrev tok : Item → Token
  tok j = token_of s.fl s.p s.w net.fired j

  abbrev old : Mirrors s.fl s.p s.w s.m net
  old = s.keeps.tracks.stands

  -- the tokens that are left are those of the other items
  pub rest_is : IsPermutation s.event.rest (map tok s.others)
  rest_is = rest_same s.t s.event.rest (map tok s.others) (IsPermutation-trans _ _ _ (IsPermutation-sym _ _ s.event.takes)
      (IsPermutation-trans _ _ _ old.pool (at_last (IsPermutation-map tok net.pending (s.i ∷ s.others) s.perm)
      (ap (λ t. t ∷ map tok s.others) (sym s.is_token)))))

  pub pool_is : (made : List Item) → IsPermutation s.event.made (map tok made) → IsPermutation s.new.pool (map tok (made ++ s.others))
  pool_is made e = at_last (IsPermutation-trans _ _ _ s.event.leaves (IsPermutation-append _ _ _ _ e rest_is)) (sym (map-append tok made s.others))

  -- all tokens so far, with what is made
  pub met_tokens : IsPermutation (events_taken (s.q.events ++ (s.e, s.t) ∷ []) ++ s.new.pool) ((events_taken s.q.events ++ s.m.pool) ++ s.event.made)
  met_tokens =
      let E = events_taken s.q.events in
      at_first (ap (λ l. l ++ s.new.pool) (map-append (λ (ev : ℕ × Token). ev.1) s.q.events ((s.e, s.t) ∷ [])))
      (IsPermutation-trans _ _ _ (IsPermutation-append_right (E ++ s.t ∷ []) _ _ s.event.leaves)
      (IsPermutation-trans _ _ _ (shuffled (E ∷ (s.t ∷ []) ∷ s.event.made ∷ s.event.rest ∷ []) ((Piece 0 ⊕ Piece 1) ⊕ (Piece 2 ⊕ Piece 3))
      ((Piece 0 ⊕ (Piece 1 ⊕ Piece 3)) ⊕ Piece 2) refl)
      (IsPermutation-append_left s.event.made _ _ (IsPermutation-append_right E _ _ (IsPermutation-sym _ _ s.event.takes)))))

  abbrev pub nh : Item → Bool
  nh j = not (is_in_cell j.inlet.part)

  pub made_but : (made : List Item) → IsPermutation s.event.made (map tok made) → ((j : Item) → Contains made j → IsMeant s.fl s.p s.w net.fired j)
      → IsPermutation (but_cells s.event.made) (map tok (only nh made))
  made_but made e meant =
      at_last (flat_map-IsPermutation (λ (t : Token). if is_cell_token t then [] else t ∷ []) _ _ e) (cells_out s.fl s.p s.w net.fired made meant)
