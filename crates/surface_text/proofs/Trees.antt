-- TREES: what the automaton makes of tokens is the one program that they are of.
use Rattle.std.proofs.Common.{◌≡◌, ℕ, List, [], ◌∷◌, drop, All, Result, Ok, Err, MatchResult, inl, inr, sym, subst, ◌∙◌}
use Rattle.std.proofs.lemmas.List.Elements.{All-nil, All-cons, All-head, All-tail}
use Rattle.surface.specs.declared.fault.Fault.{Fault}
use Rattle.surface.specs.declared.token.Token.{Token}
use Rattle.surface.specs.declared.token.TokenKind.{TokenKind}
use Rattle.surface.specs.declared.token.TokenKind.TheVariants as token
use Rattle.surface.specs.declared.word.Word.{Word}
use Rattle.source.specs.Tokens.{IsSpelledName}
use Rattle.surface.specs.Tokens.{lexed}
use Rattle.source.specs.Tree.{Name}
use Rattle.surface.specs.Spelled.{lexeme, lexeme_at}
use Rattle.surface.specs.Words.{HasTree}
use Rattle.surface_tokens.specs.HasToken.{BeginsWith, HasToken}
use Rattle.law_surface_text.specs.Automaton.{parsed}
use Rattle.law_surface_text.proofs.Sound.{parsed_sound}
use Rattle.law_surface_text.proofs.Complete.{parsed_complete}
use Rattle.law_surface_text.proofs.FirstFault.{parsed_fault}
use Rattle.surface_text.specs.Running.{IsFault}
use Rattle.surface_text.specs.Naming.{IsWellSpelled}
use Rattle.surface_text.specs.Reading.{AreWellSpelled, AreParsed, AreRead, IsParseFault, HasFault, of_tokens}
use Rattle.surface_text.proofs.Tokens.{same_words}

module _ (text : List ℕ) (ts : List Token) where
  pub are_read : (names : List Name) (words : List (Word ℕ)) → AreParsed text ts names words → AreRead text ts names words
  are_read names words parsed =
      let read = parsed_sound text ts _ parsed.said in
      record {
        program = (read.program, read.parses);
        only = λ p h. record { words = same_words _ _ (sym parsed.said ∙ parsed_complete text ts p h); known = parsed.known; distinct = parsed.distinct };
        spelled = parsed.spelled;
      }

  pub reported : (fault : Fault) → IsFault fault (parsed text ts) → IsParseFault text ts fault
  reported fault (inl memory) = inl memory
  reported fault (inr is) = inr (parsed_fault text ts fault is)

  pub read_so : {P E : Type 0} (names_of : P → List Name) (words_of : P → List (Word ℕ)) (fault_of : E → Fault) (r : Result P E)
      → MatchResult r (λ p. AreParsed text ts (names_of p) (words_of p)) (λ e. IsFault (fault_of e) (parsed text ts))
      → MatchResult r (λ p. AreRead text ts (names_of p) (words_of p)) (λ e. IsParseFault text ts (fault_of e))
  read_so names_of words_of fault_of (Ok p) are = are_read (names_of p) (words_of p) are
  read_so names_of words_of fault_of (Err e) is = reported (fault_of e) is

  -- with the text's tokens
  pub has_fault : (fault : Fault) → lexed text ≡ Ok ts → IsParseFault text ts fault → HasFault text fault
  has_fault fault are (inl memory) = inl memory
  has_fault fault are (inr refuses) = inr (of_tokens ts are refuses)

-- NAMES of tokens that are in the text are as texts have them.
well_spelled : (text : List ℕ) (at : ℕ) (kind : TokenKind) → BeginsWith (drop at text) kind → IsWellSpelled (lexeme_at text at kind)
well_spelled text at (token.Word k) stands = tt
well_spelled text at (token.Mark s) stands = tt
well_spelled text at (token.Number n) stands = tt
well_spelled text at (token.Name len) stands = subst IsSpelledName (sym stands.its_bytes) stands.name

pub are_well_spelled : (text : List ℕ) (ts : List Token) → All (HasToken text) ts → AreWellSpelled text ts
are_well_spelled text [] stand = All-nil (λ (t : Token). IsWellSpelled (lexeme text t))
are_well_spelled text (t ∷ ts) stand =
    All-cons (λ (t : Token). IsWellSpelled (lexeme text t)) t ts (well_spelled text t.at t.kind (All-head (HasToken text) t ts stand))
    (are_well_spelled text ts (All-tail (HasToken text) t ts stand))

-- the tree of what was read
pub has_tree : (text : List ℕ) (ts : List Token) (names : List Name) (words : List (Word ℕ)) → AreRead text ts names words → All (HasToken text) ts
    → HasTree names words
has_tree text ts names words are stand = record {
  tree = are.program.0;
  is = record { fits = are.program.1.fits; words = are.only are.program.0 are.program.1 };
  spelled = are.spelled (are_well_spelled text ts stand);
}
