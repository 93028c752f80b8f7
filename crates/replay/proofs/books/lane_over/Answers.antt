use Rattle.std.proofs.Common.{◌≡◌, ◌∙◌, refl, ap, ℕ, ◌*◌, Option, Some, None, arith, lit<}
use Rattle.std.proofs.lemmas.List.{length-replicate}
use Rattle.std.proofs.lemmas.List.Elements.{All-replicate}
use Rattle.tags.specs.declared.value.Value.{Value}
use Rattle.istructure.specs.OwnCells.{all_vacant}
use Rattle.frame_manager.specs.Managed.{Managed, at_first}
use Rattle.replay.proofs.books.lane_over.Goals as goal

pub new-requires-3-clause-opening : goal.new-requires-3-clause-opening
new-requires-3-clause-opening g c =
    let x = c.requires.extent in
    let none : Option Value = None in
    let frames_are = c.requires.frames in
    let some_frames = x.some_frames in
    let count : c.args.extent.frames ≡ 1 * c.args.bank.frames = omega (arith, frames_are) in
    record {
      there = lit< tt;
      some = omega (arith, some_frames, count);
      bank = c.requires.bank;
      empty = c.requires.empty;
      cells = c.in_ok-cells.ensures.exact ∙ ap (λ (n : ℕ). all_vacant n 0 1) x.cells;
      manager = λ first. ap (λ (m : Managed). Some m) (c.in_ok-manager.ensures ∙ ap at_first count);
      outputs = λ first. length-replicate c.args.extent.outputs none ∙ x.outputs;
      none = All-replicate (λ (o : Option Value). o ≡ None) c.args.extent.outputs none refl;
      done = refl;
    }
