use Rattle.std.proofs.Common.{◌≡◌, ◌∙◌, ◌<◌, get_or, length, rules, [], false, ℕ, List, Bool}
use Rattle.lowering.proofs.Once.{shown_step}
use Rattle.lowering.proofs.scan.all_shown.Goals as goal
use Rattle.lowering.proofs.scan.all_shown.Goals.{in-Some+in_ok-keep_shown, in_default}

pub loop-i-preserved : goal.loop-i-preserved
loop-i-preserved g c = elim c.match-get.branch [
  | in-Some+in_ok-keep_shown w ↦
      let none : List ℕ × Bool = ([], false) in
      let l : c.loop-i.i < length c.args.marks.now.items = search rules in
      let e : w.in-Some.mark.now ≡ get_or c.args.marks.now.items c.loop-i.i none = search rules in
      rw (w.kept-is, w.hidden-is) (shown_step w.keep_shown.new.hidden.names c.loop-i.hidden.names w.keep_shown.new.kept.items c.loop-i.kept.items
      c.args.marks.now.items c.loop-i.i w.in-Some.mark.now none l e w.in_ok-keep_shown.ensures.kept w.in_ok-keep_shown.ensures.hidden ∙ c.loop-i.invariant)
  | in_default w ↦ search rules
]
