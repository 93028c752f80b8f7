use Rattle.std.proofs.Common.{◌≡◌, ◌++◌, ℕ, List, Option, subst}
use Rattle.std.proofs.lemmas.Result.{err_from_is_err_and}
use Rattle.std.specs.Io.KnownBytes.{Appends}
use Rattle.object_view.specs.Reading.{Opened}
use Rattle.sink.specs.Sends.{Sends}
use Rattle.dot.specs.CodeDot.{code_dot}
use Rattle.driver.proofs.OpenedObjects.{is_opened}
use Rattle.driver.proofs.objects.draw_object.Goals as goal

pub returns : goal.returns
unfolding Sends
returns g c =
    let w0 : Option (List ℕ) = g.W.Write.contents c.args.writer.now in
    let w1 : Option (List ℕ) = g.W.Write.contents c.write_code_dot.new.writer in (
      is_opened c.args.bytes.now c.in_ok-object.object c.in_ok-object.ensures.opened c.in_ok-object.ensures.refused c.in_ok-object.ensures.object
          c.in_ok-object.ensures.complete,
      subst (λ (o : Opened). Appends w0 w1 (code_dot o.code.program)) c.in_ok-object.ensures.opened
          c.in_ok-write_code_dot.ensures,
    )

pub returns-in_err-write_code_dot : goal.returns-in_err-write_code_dot
unfolding Sends
returns-in_err-write_code_dot g c =
    let w0 : Option (List ℕ) = g.W.Write.contents c.args.writer.now in
    let w1 : Option (List ℕ) = g.W.Write.contents c.write_code_dot.new.writer in
    let p = err_from_is_err_and c.from_residual-in_err-write_code_dot.result c.from_residual-in_err-write_code_dot.ensures.1 in
    rw (p.1, p.2) (
      is_opened c.args.bytes.now c.in_ok-object.object c.in_ok-object.ensures.opened c.in_ok-object.ensures.refused
          c.in_ok-object.ensures.object c.in_ok-object.ensures.complete,
      subst (λ (o : Opened). (front : List ℕ) × (rest : List ℕ)
          × (code_dot o.code.program ≡ front ++ rest) × Appends w0 w1 front) c.in_ok-object.ensures.opened c.in_err-write_code_dot.ensures,
    )
