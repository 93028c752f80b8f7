use Rattle.std.proofs.Common.{◌∙◌, ap, List, ℕ, ◌++◌}
use Rattle.html_text.specs.PaneText.{graph_pane}
use Rattle.commands.proofs.FileInputs.{sent}
use Rattle.mapped.proofs.page.graph_pane.Goals as goal

pub returns-in-Ok : goal.returns-in-Ok
returns-in-Ok g c =
    sent _ c.in-Ok.field-0 _ _ _ c.in-Ok.ensures ∙ ap (λ (xs : List ℕ). xs ++ graph_pane c.deref.result.now) c.new-pane.ensures.items
    ∙ ap graph_pane (c.deref.ensures.value ∙ c.in_ok-owners.ensures.exact)
