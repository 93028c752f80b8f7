-- From what reading gives to what a text is.
use Rattle.std.proofs.Common.{◌≡◌, ℕ, List, Result, Ok, Err, sym, ap, ◌∙◌, inl, inr}
use Rattle.std.specs.Prelude.{MatchResult}
use Rattle.semantics.specs.Graph.{Graph}
use Rattle.semantics.specs.Text.{IsText}
use Rattle.graph_file.specs.declared.fault.ReadFault.{ReadFault}
use Rattle.graph_file.specs.declared.fault.ReadFaultKind.TheVariants.{Memory}
use Rattle.graph_file.specs.Reading.{text_from, IsFirstFault}
use Rattle.graph_file.proofs.Sound.{read}
use Rattle.graph_file.proofs.Complete.{text_gives}

pub is_only : (text : List ℕ) (r : Result Graph ReadFault) → MatchResult r (λ g. text_from text ≡ Ok g) (λ e. IsFirstFault e (text_from text))
    → (g : Graph) → IsText text g → MatchResult r (λ h. h ≡ g) (λ e. e.kind ≡ Memory)
is_only text (Ok h) k g is = same h g (sym k ∙ read_is text g is)
  where
    read_is : (text : List ℕ) (g : Graph) → IsText text g → text_from text ≡ Ok g
    read_is text g is = ap text_from is.0 ∙ text_gives g is.1

    same : (h g : Graph) → read h ≡ read g → h ≡ g
    same h g e = cc
is_only text (Err e) (inl m) g is = m
is_only text (Err e) (inr k) g is = absurd (let q : Err e ≡ read g = sym k ∙ ap text_from is.0 ∙ text_gives g is.1 in cc)
