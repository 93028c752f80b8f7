use Rattle.std.proofs.Common.{◌≡◌, ◌∷◌, ◌+◌, ◌-◌, refl, sym, ap, ◌∙◌, drop, take, length, List, ℕ, arith}
use Rattle.std.proofs.lemmas.List.{take_all, length-drop}
use Rattle.graph_file.specs.Lines.{parts}
use Rattle.graph_file.proofs.Taking.{last_part, first_part}
use Rattle.graph_file.proofs.parts.Parts.split_first.Goals as goal
use Rattle.graph_file.proofs.parts.Parts.split_first.Goals.{in-None, in-Some}

pub returns : goal.returns
returns c =
    let bytes = c.in_ok-bytes.bytes.now in
    let sep = c.self.inside.separator in
    let e : c.args.self ≡ parts sep bytes = sym c.self.view_is ∙ rw c.in_ok-bytes.was refl in
    elim c.match-first_of.branch [
      | in-None w ↦ let f = last_part sep bytes (sym c.first_of.ensures ∙ w.in-None.is) in let t = w.t-15-is in rw t (e ∙ f)
      | in-Some w ↦
          let i = w.in-Some.at in
          let f = first_part sep bytes i (sym c.first_of.ensures ∙ w.in-Some.is) in
          let t = w.t-15-is in
          let same = take_all (length bytes - (i + 1)) (drop (i + 1) bytes) (omega (arith, length-drop (i + 1) bytes)) in
          rw t (e ∙ f ∙ ap (λ (xs : List ℕ). take i bytes ∷ parts sep xs) (sym same))
    ]
