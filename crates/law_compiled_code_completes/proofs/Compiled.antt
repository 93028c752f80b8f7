-- The compiler's code of a graph is true code, so it completes.
use Rattle.std.proofs.Common.{◌∙◌, sym, subst, ℕ, ◌+◌, ◌*◌, ◌<◌}
use Rattle.semantics.specs.Placed.{placed}
use Rattle.select.specs.Emitted.{code_of}
use Rattle.law_compiler.specs.Objects.{plan_of}
use Rattle.law_compiler.specs.EmittedSame.{HaveSameEvents}
use Rattle.law_compiler.proofs.EmittedLaws.{emitted_events}
use Rattle.law_compiler.proofs.Objects.{plans_are_sound}
use Rattle.law_compiler.proofs.GraphsOrigins.{plans_have_origins}
use Rattle.law_compiler.proofs.WholeLaw.{graphs_keep_promises}
use Rattle.law_completion.proofs.OneSlot.{one_slot}
use Rattle.law_completion.proofs.Graphs.{total_graph}
use Rattle.law_compiled_code_completes.proofs.SameLength.{same_largest}
use Rattle.law_compiled_code_completes.specs.CompiledCode.{PromisesMakeTrue, CompiledCodeIsTrue, CompiledCodeCompletes}

pub promises_make_true : PromisesMakeTrue
promises_make_true g slots version text well good same keeps =
    let plan = (plans_are_sound g text well).wired.plan in
    let events : HaveSameEvents (placed (plan_of g) slots) (code_of version (plan_of g) slots) =
    emitted_events (plan_of g) slots version plan (plans_have_origins g version same) in
    let one = one_slot (plan_of g) slots good.all in
    record {
      faithful = keeps.faithful;
      releases = keeps.releases;
      credits = keeps.credits;
      one_slot = (one.0, λ ip h s holds uses. one.1 ip h s holds (events.uses ip ∙ uses));
    }

pub compiled_code_is_true : CompiledCodeIsTrue
compiled_code_is_true g slots version text well good same =
    promises_make_true g slots version text well good same (graphs_keep_promises g slots version text well good same)

pub compiled_code_completes : CompiledCodeCompletes
compiled_code_completes g slots version text well good same inputs fit d t needs z most large by_list may_stop r shows uncut =
    total_graph g (plan_of g) (code_of version (plan_of g) slots) well (compiled_code_is_true g slots version text well good same) inputs fit d t needs z most
    record {
      some_element = large.some_element;
      some_frame = large.some_frame;
      frames = large.frames;
      steps = subst (λ (n : ℕ). 6 * (n + 1) * (1 + d) < most) (sym (same_largest (plan_of g) slots version good.all)) large.steps;
      credits = large.credits;
    } by_list may_stop r shows uncut
