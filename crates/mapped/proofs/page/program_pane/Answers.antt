use Rattle.std.proofs.Common.{◌∙◌, ap, List, ℕ, ◌++◌}
use Rattle.code_map.specs.declared.owner.Owner.{Owner}
use Rattle.html_text.specs.PaneText.{program_pane}
use Rattle.commands.proofs.FileInputs.{sent}
use Rattle.mapped.proofs.page.program_pane.Goals as goal

pub returns-in-Ok : goal.returns-in-Ok
returns-in-Ok g c =
    let program = c.args.program.now in
    let places = c.args.places.now in
    sent _ c.in-Ok.field-0 _ _ _ c.in-Ok.ensures
    ∙ ap (λ (xs : List ℕ). xs ++ program_pane c.deref.result.now program places) c.new-pane.ensures.items
    ∙ ap (λ (os : List Owner). program_pane os program places) (c.deref.ensures.value ∙ c.in_ok-owners.ensures.exact)
