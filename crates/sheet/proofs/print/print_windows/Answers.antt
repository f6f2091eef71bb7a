use Rattle.std.proofs.Common.{◌≡◌, [], inl, inr}
use Rattle.sheet.specs.Private.Pages.{bytes_of}
use Rattle.sheet.specs.PrintLines.{window_lines}
use Rattle.sheet.proofs.Pages.{room_past, adds_past, adds_none}
use Rattle.sheet.proofs.PrintLines.{windows_from, no_windows, no_windows_unnamed}
use Rattle.sheet.proofs.print.print_windows.Goals as goal

pub loop-name-preserved : goal.loop-name-preserved
loop-name-preserved c =
    let steps = c.in-Some.ensures.steps in
    let lines = windows_from _ _ _ _ c.in-Some.name.now c.in-Some.lot.now c.into.result c.into-in-loop-name.result steps.0 steps.1 c.into.ensures c.into-in-loop-name.ensures in
    record {
      same_buffer = cc;
      room = room_past _ _ _ lines c.loop-name.invariant.room c.print_named.ensures.adds;
      adds = λ q a. c.loop-name.invariant.adds q (adds_past lines c.print_named.ensures.adds a);
    }

pub returns-clause-adds : goal.returns-clause-adds
returns-clause-adds c =
    let left = c.loop-name.name-iterator in
    let none : window_lines (bytes_of left.a.rest.now) left.b.rest.now ≡ [] =
    elim c.in-None.ensures.steps [ inl h ↦ no_windows_unnamed left.a.rest.now left.b.rest.now h.1.0 | inr h ↦ no_windows left.a.rest.now left.b.rest.now h.1.0 ] in
    c.loop-name.invariant.adds c.loop-name.page (adds_none none)
