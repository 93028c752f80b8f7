use Rattle.std.proofs.Common.{ℕ, sym, ap, ◌∙◌}
use Rattle.std.specs.Prelude.{Ok}
use Rattle.assembler.specs.Causes.{fault_of, unfit_kind}
use Rattle.assembler.proofs.Placed.{refused_text, given, unfit}
use Rattle.std.proofs.Common.{inr}
use Rattle.std.specs.Prelude.{Err}
use Rattle.semantics.specs.Versions.{version_number}
use Rattle.assembler.proofs.Sound.{sound}
use Rattle.assembler.proofs.Complete.{only_code, only_memory}
use Rattle.assembler.proofs.assembling.assemble_listing.Goals as goal

pub returns-in-Err : goal.returns-in-Err
returns-in-Err g c =
    let f = fault_of c.in-Err.refusal in
    let exact = refused_text c.args.text.now f c.in-Err.ensures in
    record { object = tt; complete = λ w d h k. only_memory c.args.text.now w d f exact h k; exact = exact }

pub returns-in-Ok-check_code : goal.returns-in-Ok-check_code
returns-in-Ok-check_code g c =
    let r = c.in-Ok.read in
    let exact = given c.args.text.now (r.version, r.code) c.in-Ok.ensures (sym c.in-Ok-check_code.ensures.exact)
    ∙ ap (λ (v : ℕ). Ok (v, r.code)) (sym c.version_of.ensures) in
    record {
      object = sound c.args.text.now r.version (version_number c.version_of.result) r.code (sym c.version_of.ensures) c.in-Ok-check_code.ensures.words
          c.in-Ok.ensures (sym c.in-Ok-check_code.ensures.exact);
      complete = λ w d h k. only_code c.args.text.now (version_number c.version_of.result) w r.code d exact h k;
      exact = exact;
    }

pub returns-in-Err-check_code : goal.returns-in-Err-check_code
returns-in-Err-check_code g c =
    let r = c.in-Ok.read in
    let f = c.in-Err-check_code.refusal in
    let exact = inr (unfit c.args.text.now (r.version, r.code) f c.in-Ok.ensures (sym c.in-Err-check_code.ensures.exact)
    ∙ ap (λ (n : ℕ). Err record { kind = unfit_kind f.unfit; line = n }) (sym c.line_at.ensures)) in
    record {
      object = tt;
      complete = λ w d h k. only_memory c.args.text.now w d record { kind = unfit_kind f.unfit; line = c.line_at.result } exact h
          k;
      exact = exact;
    }
