use Rattle.std.proofs.Common.{◌≡◌, ◌∙◌, sym, ap, subst, List, Option, ◌<◌, ◌≤◌, length, map, drop, arith}
use Rattle.frame_manager.specs.Managed.{Managed}
use Rattle.element.specs.Holding.{LaneView, held_of}
use Rattle.schedule.specs.Setting.{total}
use Rattle.schedule.specs.Reported.{out_in}
use Rattle.schedule.specs.State.{state_of}
use Rattle.schedule.specs.Turns.{others, free_frames}
use Rattle.schedule.proofs.Memory.{lane_count, held_at}
use Rattle.schedule.proofs.Turning.{free_of, free_is, few_yes, few_no}
use Rattle.schedule.proofs.elements.Elements.are_few.Goals as goal

pub are_at_most-requires-clause-some : goal.are_at_most-requires-clause-some
are_at_most-requires-clause-some g c =
    let m = c.args.self.now in
    let count = lane_count m.lanes.items (drop m.arrived m.sent.items) m.shape.elements c.requires.well.sound.count in
    let some = c.requires.well.sound.setting.some in
    let all : length c.deref.result.now ≡ length m.lanes.items = ap (λ (l : List LaneView). length l) c.deref.ensures.value in
    omega arith

pub returns-clause-yes : goal.returns-clause-yes
returns-clause-yes g c = λ few.
    let m = c.args.self.now in
    let s = state_of g.C.Instructions.program g.C.Instructions.width m in
    let lanes = map held_of m.lanes.items in
    let count = lane_count m.lanes.items (drop m.arrived m.sent.items) m.shape.elements c.requires.well.sound.count in
    let some = c.requires.well.sound.setting.some in
    let low : 0 < length m.lanes.items = omega arith in
    let first = free_is s.setting lanes (held_of c.index.result.now) (held_at m.lanes.items 0 c.index.result.now low c.index.ensures) in
    let out = c.frames_out.ensures ∙ ap (λ (o : Option Managed). out_in o) c.manager.ensures in
    let free : c.saturating_sub-free.result ≡ free_frames s.setting lanes
    = free_of c.saturating_sub-free.result c.from-frames.result c.frames_out.result (total s.setting) (out_in c.index.result.now.held.part.manager)
    c.saturating_sub-free.ensures c.from-frames.ensures out ∙ sym first in
    let within = subst (λ (l : List LaneView). others (map held_of l) ≤ c.few-most.result) c.deref.ensures.value (c.are_at_most.ensures.yes few) in
    few_yes s.setting lanes c.saturating_sub-free.result c.few-most.result some free c.few-most.ensures.one c.few-most.ensures.several within

pub returns-clause-no : goal.returns-clause-no
returns-clause-no g c = λ many.
    let m = c.args.self.now in
    let s = state_of g.C.Instructions.program g.C.Instructions.width m in
    let lanes = map held_of m.lanes.items in
    let count = lane_count m.lanes.items (drop m.arrived m.sent.items) m.shape.elements c.requires.well.sound.count in
    let some = c.requires.well.sound.setting.some in
    let low : 0 < length m.lanes.items = omega arith in
    let first = free_is s.setting lanes (held_of c.index.result.now) (held_at m.lanes.items 0 c.index.result.now low c.index.ensures) in
    let out = c.frames_out.ensures ∙ ap (λ (o : Option Managed). out_in o) c.manager.ensures in
    let free : c.saturating_sub-free.result ≡ free_frames s.setting lanes
    = free_of c.saturating_sub-free.result c.from-frames.result c.frames_out.result (total s.setting) (out_in c.index.result.now.held.part.manager)
    c.saturating_sub-free.ensures c.from-frames.ensures out ∙ sym first in
    let beyond = subst (λ (l : List LaneView). c.few-most.result < others (map held_of l)) c.deref.ensures.value (c.are_at_most.ensures.no many) in
    few_no s.setting lanes c.saturating_sub-free.result c.few-most.result free c.few-most.ensures.several beyond
