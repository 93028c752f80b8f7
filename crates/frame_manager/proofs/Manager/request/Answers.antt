use Rattle.std.proofs.Common.{◌∙◌, ap, [], ◌∷◌, ◌++◌, Ok, None}
use Rattle.frame_manager.specs.Managed.{Managed}
use Rattle.frame_manager.proofs.ManagerLemmas.{seen}
use Rattle.frame_manager.proofs.Events.{request_is_event}
use Rattle.frame_manager.proofs.Manager.request.Goals as goal

pub returns-in_ok-push_back-in-Err-clause-event : goal.returns-in_ok-push_back-in-Err-clause-event
returns-in_ok-push_back-in-Err-clause-event g c =
    let new = seen c.self.inside.frames c.push_back.new.self.items in
    let before = c.self.view_is ∙ c.in-Err.ensures.exact.1 in
    request_is_event c.args.self.now c.args.cont (Ok None) new (
      c.in-Err.ensures.exact.0,
      ap (seen c.self.inside.frames) c.in_ok-push_back-in-Err.ensures.items
          ∙ ap (λ (m : Managed). seen m.out (m.requests ++ c.args.cont ∷ [])) before,
    )
