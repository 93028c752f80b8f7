-- A log of blocks as they are made.
use Rattle.std.proofs.Common.{◌≡◌, refl, sym, ◌∙◌, ap, List, [], ◌∷◌, ◌++◌, map, append_assoc, append-nil}
use Rattle.std.specs.List.{flat_map}
use Rattle.std.proofs.lemmas.List.Elements.{All-nil, All-push}
use Rattle.tags.specs.declared.token.Token.{Token}
use Rattle.law_linearization.specs.History.{Block}
use Rattle.ordering.specs.declared.log.Counts.{Counts}
use Rattle.ordering.specs.Noted.{Noted, nothing, with_event, with_made, with_block}
use Rattle.ordering.specs.Logs.{taken_in, made_in, counts_of, SpendsOldest, Notes, Logs}

flat_push : (f : Block → List Token) (blocks : List Block) (b : Block) → flat_map f (blocks ++ b ∷ []) ≡ flat_map f blocks ++ f b
flat_push f [] b = append-nil (f b)
flat_push f (c ∷ later) b = ap (λ (l : List Token). f c ++ l) (flat_push f later b) ∙ sym (append_assoc (f c) (flat_map f later) (f b))

map_push : (blocks : List Block) (b : Block) → map counts_of (blocks ++ b ∷ []) ≡ map counts_of blocks ++ counts_of b ∷ []
map_push [] b = refl
map_push (c ∷ later) b = ap (λ (l : List Counts). counts_of c ∷ l) (map_push later b)

pub notes_nothing : Logs nothing []
notes_nothing = record { taken = refl; made = refl; counts = refl; oldest = All-nil SpendsOldest }

pub notes_event : (n : Noted) (blocks : List Block) (taken made : List Token) (t : Token) → Notes n blocks taken made
    → Notes (with_event n t) blocks (taken ++ t ∷ []) made
notes_event n blocks taken made t notes = record {
  taken = ap (λ (l : List Token). l ++ t ∷ []) notes.taken ∙ append_assoc (flat_map taken_in blocks) taken (t ∷ []);
  made = notes.made;
  counts = notes.counts;
  oldest = notes.oldest;
}

pub notes_made : (n : Noted) (blocks : List Block) (taken made : List Token) (t : Token) → Notes n blocks taken made
    → Notes (with_made n t) blocks taken (made ++ t ∷ [])
notes_made n blocks taken made t notes = record {
  taken = notes.taken;
  made = ap (λ (l : List Token). l ++ t ∷ []) notes.made ∙ append_assoc (flat_map made_in blocks) made (t ∷ []);
  counts = notes.counts;
  oldest = notes.oldest;
}

pub ends_block : (n : Noted) (blocks : List Block) (b : Block) → Notes n blocks (taken_in b) b.made → SpendsOldest b
    → Logs (with_block n (counts_of b)) (blocks ++ b ∷ [])
ends_block n blocks b notes oldest = record {
  taken = notes.taken ∙ sym (flat_push taken_in blocks b) ∙ sym (append-nil (flat_map taken_in (blocks ++ b ∷ [])));
  made = notes.made ∙ sym (flat_push made_in blocks b) ∙ sym (append-nil (flat_map made_in (blocks ++ b ∷ [])));
  counts = ap (λ (l : List Counts). l ++ counts_of b ∷ []) notes.counts ∙ sym (map_push blocks b);
  oldest = All-push SpendsOldest blocks b notes.oldest oldest;
}
